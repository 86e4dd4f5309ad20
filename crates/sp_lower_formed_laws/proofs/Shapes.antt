-- A type has one shape.
use Rattle.std.proofs.Common.{◌≡◌, ℕ, List, [], ◌∷◌, Some, None, slice_get, refl, ap, sym, ◌∙◌, subst}
use Rattle.sp_types.specs.Types.{CType, void, integer, floating, pointer, array, structure, function, Struct}
use Rattle.sp_ir.specs.Shapes.{Shape, Shapes, union_of, array_of, struct_of, next_shape, HasShape, HaveShapes, has_integer, has_pointer, has_floating, has_array, has_struct, has_union, have_none, have_next}
use Rattle.sp_lower_expr_laws.proofs.Sorts.{false_true}
use Rattle.sp_lower_starts_laws.proofs.Lists.{some_is}

first_is : (m k : ℕ × CType) (r q : List (ℕ × CType)) → m ∷ r ≡ k ∷ q → m ≡ k
first_is m k r q e = some_is m k (ap (λ xs. slice_get xs 0) e)

-- a type has one shape
mutual
  pub one_shape : (ss : List Struct) (size : CType → ℕ) (t : CType) (a b : Shape) → HasShape ss size t a → HasShape ss size t b → a ≡ b
  one_shape ss size (integer k) _ _ has_integer has_integer = refl
  one_shape ss size (pointer t) _ _ has_pointer has_pointer = refl
  one_shape ss size (floating k) _ _ has_floating has_floating = refl
  one_shape ss size (array t (Some n)) _ _ (has_array {s = a} x) (has_array {s = b} y) = ap (λ s. array_of (array t (Some n)) (size (array t (Some n))) s n) (one_shape ss size t a b x y)
  one_shape ss size (structure n) _ _ (has_struct {d = d} {members = m} {ms = a} x u e h) (has_struct {d = f} {members = k} {ms = b} y v g j) =
      let same : d ≡ f = some_is d f (sym x ∙ y) in
      let list : m ≡ k = some_is m k (sym e ∙ ap (λ (z : Struct). z.members) same ∙ g) in
      ap (λ s. struct_of (structure n) (size (structure n)) s) (one_list ss size k a b (subst (λ z. HaveShapes ss size z a) list h) j)
  one_shape ss size (structure n) _ _ (has_struct {d = d} x u e h) (has_union {d = f} y v g j) =
      false_true (sym u ∙ ap (λ (z : Struct). z.union) (some_is d f (sym x ∙ y)) ∙ v)
  one_shape ss size (structure n) _ _ (has_union {d = d} x u e h) (has_struct {d = f} y v g j) =
      false_true (sym v ∙ ap (λ (z : Struct). z.union) (some_is f d (sym y ∙ x)) ∙ u)
  one_shape ss size (structure n) _ _ (has_union {d = d} {first = m} {rest = r} {s = a} x u e h) (has_union {d = f} {first = k} {rest = q} {s = b} y v g j) =
      let same : d ≡ f = some_is d f (sym x ∙ y) in
      let list : m ∷ r ≡ k ∷ q = some_is (m ∷ r) (k ∷ q) (sym e ∙ ap (λ (z : Struct). z.members) same ∙ g) in
      ap (λ s. union_of (size (structure n)) s) (one_shape ss size k.1 a b (subst (λ z. HasShape ss size z.1 a) (first_is m k r q list) h) j)
  one_shape ss size void _ _ x y = elim x [ ]
  one_shape ss size (array t None) _ _ x y = elim x [ ]
  one_shape ss size (function r) _ _ x y = elim x [ ]

  pub one_list : (ss : List Struct) (size : CType → ℕ) (ms : List (ℕ × CType)) (a b : Shapes) → HaveShapes ss size ms a → HaveShapes ss size ms b → a ≡ b
  one_list ss size [] _ _ have_none have_none = refl
  one_list ss size (m ∷ ms) _ _ (have_next {s = a} {ss = more} x y) (have_next {s = b} {ss = rest} z w) =
      ap (λ s. next_shape s more) (one_shape ss size m.1 a b x z) ∙ ap (λ s. next_shape b s) (one_list ss size ms more rest y w)
