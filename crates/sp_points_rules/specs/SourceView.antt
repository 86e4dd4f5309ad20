-- The plain sources that values of the code stand for.
use Rattle.sp_ir.specs.View.{expression_of, lvalue_of}
use Rattle.sp_points_rules.specs.Sources.{Base as PlainBase, regions, cells, formals, results, Source as PlainSource}
use Rattle.sp_points_rules.specs.declared.sources.Base.{Base}
use Rattle.sp_points_rules.specs.declared.sources.Base.TheVariants.{Regions, Cells, Formals, Results}
use Rattle.sp_points_rules.specs.declared.sources.Source.{Source}

abbrev pub base_of : Base → PlainBase
base_of (Regions e) = regions (expression_of e.now)
base_of (Cells l) = cells (lvalue_of l.now)
base_of (Formals callee count place test) = formals (expression_of callee.now) count place test
base_of (Results callee count test) = results (expression_of callee.now) count test

abbrev pub source_of : Source → PlainSource
source_of s = record { base = base_of s.base; only = s.only; read = s.read }
