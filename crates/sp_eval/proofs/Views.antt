-- The plain forms of expressions that the code takes apart.
use Rattle.std.proofs.Common.{◌≡◌, ℕ, Bool, refl, sym}
use Rattle.std.specs.Prelude.{Box}
use Rattle.std.specs.declared.alloc.Global.{Global}
use Rattle.sp_tree.specs.declared.fault.Place.{Place}
use Rattle.sp_tree.specs.declared.token.Punct.{Punct}
use Rattle.sp_types.specs.declared.ctype.CType.{CType}
use Rattle.sp_types.specs.declared.ctype.IntKind.{IntKind}
use Rattle.sp_types.specs.View.{type_of}
use Rattle.sp_ir.specs.declared.expr.Expr.{Expr}
use Rattle.sp_ir.specs.declared.expr.Lvalue.{Lvalue}
use Rattle.sp_ir.specs.declared.expr.Expr.TheVariants.{Decay, Read, Binary, Compare, Move, Distance, rolls-Decay, rolls-Read, rolls-Binary, rolls-Compare, rolls-Move, rolls-Distance}
use Rattle.sp_ir.specs.declared.expr.Lvalue.TheVariants.{Field, rolls-Field}
use Rattle.sp_ir.specs.declared.expr.Expr.TheFolds.{fold-roll-Expr, fold-roll-Lvalue}
use Rattle.sp_ir.specs.Commands.{decay, read, binary, compare, move, distance, field}
use Rattle.sp_ir.specs.View.{expression_of, lvalue_of}

pub decay-view : (l : Lvalue) → expression_of (Decay l) ≡ decay (lvalue_of l)
decay-view l = rw (sym (rolls-Decay l)) (rw fold-roll-Expr refl)

pub read-view : (l : Lvalue) → expression_of (Read l) ≡ read (lvalue_of l)
read-view l = rw (sym (rolls-Read l)) (rw fold-roll-Expr refl)

pub binary-view : (op : Punct) (k : IntKind) (a b : Box Expr Global) (at : Place) → expression_of (Binary op k a b at) ≡ binary op k (expression_of a.value) (expression_of b.value) at
binary-view op k a b at = rw (sym (rolls-Binary op k a b at)) (rw fold-roll-Expr refl)

pub compare-view : (op : Punct) (a b : Box Expr Global) → expression_of (Compare op a b) ≡ compare op (expression_of a.value) (expression_of b.value)
compare-view op a b = rw (sym (rolls-Compare op a b)) (rw fold-roll-Expr refl)

pub move-view : (a b : Box Expr Global) (back : Bool) (size : ℕ) → expression_of (Move a b back size) ≡ move (expression_of a.value) (expression_of b.value) back size
move-view a b back size = rw (sym (rolls-Move a b back size)) (rw fold-roll-Expr refl)

pub distance-view : (a b : Box Expr Global) (size : ℕ) → expression_of (Distance a b size) ≡ distance (expression_of a.value) (expression_of b.value) size
distance-view a b size = rw (sym (rolls-Distance a b size)) (rw fold-roll-Expr refl)

pub field-view : (l : Box Lvalue Global) (k : ℕ) (t : CType) → lvalue_of (Field l k t) ≡ field (lvalue_of l.value) k (type_of t)
field-view l k t = rw (sym (rolls-Field l k t)) (rw fold-roll-Lvalue refl)
