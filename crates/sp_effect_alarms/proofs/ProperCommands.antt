-- The commands and the start values of formed programs are proper.
use Rattle.std.proofs.Common.{◌≡◌, ℕ, suc, Bool, true, false, List, [], ◌∷◌, Option, Some, None, refl, ap}
use Rattle.std.specs.Prelude.{slice_get}
use Rattle.std.specs.List.{All}
use Rattle.std.proofs.lemmas.List.Elements.{All-head, All-tail}
use Rattle.sp_ir.specs.Commands.{Expression, Lvalue, Leaf, Command, start, entry, exit, skip, assign, copy, init, assume, eval, call, return, library, outside}
use Rattle.sp_ir.specs.Regions.{Region}
use Rattle.sp_ir.specs.Programs.{Object, Lowered}
use Rattle.sp_ir.specs.Shapes.{Shape}
use Rattle.sp_ir.specs.Formed.{Table, IsExpression, IsScalar, IsLeaf, IsResult, IsScalarResult, IsForeign, IsCommand, IsFormed, HasStart, starts, table_of}
use Rattle.sp_value.specs.Tests.{both}
use Rattle.sp_eval.specs.Evaluation.{is_proper, is_proper_lvalue}
use Rattle.sp_eval.proofs.ProperLaws.{expression-proper, lvalue-proper}
use Rattle.sp_effect_alarms.specs.Commands.{are_proper, are_proper_leaves, are_proper_starts, is_proper_result, is_proper_command}

module _ (p : Table) (f : Option ℕ) where
  list-proper : (es : List Expression) → All (IsExpression p f) es → are_proper es ≡ true
  list-proper [] h = refl
  list-proper (e ∷ es) h = both (is_proper e) (are_proper es) (expression-proper p f e (All-head (IsExpression p f) e es h)) (list-proper es (All-tail (IsExpression p f) e es h))

  scalars-proper : (es : List Expression) → All (IsScalar p f) es → are_proper es ≡ true
  scalars-proper [] h = refl
  scalars-proper (e ∷ es) h = both (is_proper e) (are_proper es) (expression-proper p f e (All-head (IsScalar p f) e es h).0) (scalars-proper es (All-tail (IsScalar p f) e es h))

  leaves-proper : (rs : List Region) (s : Shape) (root : ℕ) (ls : List Leaf) → All (IsLeaf p rs f s root) ls → are_proper_leaves ls ≡ true
  leaves-proper rs s root [] h = refl
  leaves-proper rs s root (l ∷ ls) h = both (is_proper l.value) (are_proper_leaves ls) (expression-proper p f l.value (All-head (IsLeaf p rs f s root) l ls h).formed) (leaves-proper rs s root ls (All-tail (IsLeaf p rs f s root) l ls h))

  result-proper : (to : Option Lvalue) → IsResult p f to → is_proper_result to ≡ true
  result-proper None h = refl
  result-proper (Some l) h = lvalue-proper p f l h.0

  scalar_result-proper : (to : Option Lvalue) → IsScalarResult p f to → is_proper_result to ≡ true
  scalar_result-proper None h = refl
  scalar_result-proper (Some l) h = lvalue-proper p f l h.0

-- where each object has proper start values, all have
all-starts : (os : List Object) → ((i : ℕ) (o : Object) → slice_get os i ≡ Some o → are_proper_leaves o.start ≡ true) → are_proper_starts os ≡ true
all-starts [] h = refl
all-starts (o ∷ os) h = both (are_proper_leaves o.start) (are_proper_starts os) (h 0 o refl) (all-starts os (λ i. h (suc i)))

starts-proper : (p : Lowered) → IsFormed p → are_proper_starts p.objects ≡ true
starts-proper p formed = all-starts p.objects (λ i o there. by i o (starts o.kind) (formed.objects i o there).start)
  where
    by : (i : ℕ) (o : Object) (b : Bool) → HasStart p i o b → are_proper_leaves o.start ≡ true
    by i o true h = leaves-proper (table_of p) None p.regions h.2.shape h.2.root o.start h.2.leaves
    by i o false h = ap are_proper_leaves h.0

module _ (p : Lowered) (formed : IsFormed p) (f : Option ℕ) where
  pub command-proper : (n : ℕ) (c : Command) → IsCommand (table_of p) p.regions n f c → is_proper_command p c ≡ true
  command-proper n start h = starts-proper p formed
  command-proper n (entry k) h = refl
  command-proper n (exit k) h = refl
  command-proper n skip h = refl
  command-proper n (assign to e) h = both (is_proper_lvalue to) (is_proper e) (lvalue-proper (table_of p) f to h.0) (expression-proper (table_of p) f e h.1)
  command-proper n (copy to from) h = both (is_proper_lvalue to) (is_proper_lvalue from) (lvalue-proper (table_of p) f to h.0) (lvalue-proper (table_of p) f from h.1)
  command-proper n (init o values others) h = leaves-proper (table_of p) f p.regions h.4.shape h.4.root values h.4.leaves
  command-proper n (assume a op b) h = both (is_proper a) (is_proper b) (expression-proper (table_of p) f a h.0.0) (expression-proper (table_of p) f b h.1.0)
  command-proper n (eval e) h = expression-proper (table_of p) f e h
  command-proper n (call callee args) h = both (is_proper callee) (are_proper args) (expression-proper (table_of p) f callee h.0) (list-proper (table_of p) f args h.2)
  command-proper n (return k to) h = result-proper (table_of p) f to h
  command-proper n (library r to args site) h = both (is_proper_result to) (are_proper args) (scalar_result-proper (table_of p) f to h.0) (scalars-proper (table_of p) f args h.1)
  command-proper n (outside to args site) h = both (is_proper_result to) (are_proper args) (foreign to h.1) (list-proper (table_of p) f args h.0)
    where
      foreign : (to : Option Lvalue) → IsForeign (table_of p) f n to site → is_proper_result to ≡ true
      foreign None k = refl
      foreign (Some l) k = lvalue-proper (table_of p) f l k.0.0
