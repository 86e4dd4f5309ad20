use Rattle.std.proofs.Common.{sym, subst}
use Rattle.std.specs.Prelude.{option_map}
use Rattle.sp_ir.specs.Programs.{lowered_of}
use Rattle.sp_ir.specs.View.{expression_of, lvalue_of}
use Rattle.sp_points_rules.specs.Gathered.{Adds}
use Rattle.sp_points_rules.specs.Puts.{First}
use Rattle.sp_points_rules.proofs.library.first_to.Goals as goal

pub returns-in_ok-product : goal.returns-in_ok-product
returns-in_ok-product c = subst (λ o. Adds c.args.facts.now.rows.now (λ u x r. First (lowered_of c.args.facts.now.lowered.now) u c.args.only (lvalue_of c.args.to.now) (option_map (λ e. expression_of e.now) o) x r) c.args.out.now c.product.new.out) (sym c.in-Some.is) c.in_ok-product.ensures
