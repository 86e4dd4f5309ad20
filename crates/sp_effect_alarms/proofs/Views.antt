-- The plain form of an access.
use Rattle.std.proofs.Common.{◌≡◌, refl, sym}
use Rattle.std.specs.Prelude.{Box}
use Rattle.std.specs.declared.alloc.Global.{Global}
use Rattle.sp_tree.specs.declared.fault.Place.{Place}
use Rattle.sp_types.specs.declared.ctype.CType.{CType}
use Rattle.sp_types.specs.View.{type_of}
use Rattle.sp_ir.specs.declared.expr.Expr.{Expr}
use Rattle.sp_ir.specs.declared.expr.Lvalue.TheVariants.{Through, rolls-Through}
use Rattle.sp_ir.specs.declared.expr.Expr.TheFolds.{fold-roll-Lvalue}
use Rattle.sp_ir.specs.Commands.{through}
use Rattle.sp_ir.specs.View.{expression_of, lvalue_of}

pub through-view : (e : Box Expr Global) (t : CType) (at : Place) → lvalue_of (Through e t at) ≡ through (expression_of e.value) (type_of t) at
through-view e t at = rw (sym (rolls-Through e t at)) (rw fold-roll-Lvalue refl)
