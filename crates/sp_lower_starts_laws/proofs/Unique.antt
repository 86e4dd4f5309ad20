-- A type has one shape.
use Rattle.std.proofs.Common.{◌≡◌, ◌⊎◌, inl, inr, ℕ, true, false, List, [], ◌∷◌, Some, None, slice_get, refl, ap, sym, ◌∙◌, subst}
use Rattle.sp_types.specs.Types.{CType, void, integer, floating, pointer, array, structure, function, Struct}
use Rattle.sp_ir.specs.Shapes.{Shape, Shapes, scalar, floating_shape, union_of, array_of, struct_of, no_shapes, next_shape, HasShape, HaveShapes, has_integer, has_pointer, has_floating, has_array, has_struct, has_union, have_none, have_next}
use Rattle.sp_lower_expr_laws.proofs.Sorts.{false_true}
use Rattle.sp_lower_starts_laws.proofs.Lists.{some_is}

module _ (ss : List Struct) (size : CType → ℕ) where
  -- what a shape of a type is
  abbrev IsStructShape : ℕ → Struct → Shape → Type 0
  IsStructShape n d s = ((d.union ≡ false) × ((members : List (ℕ × CType)) × (ms : Shapes) × (d.members ≡ Some members) × (s ≡ struct_of (structure n) (size (structure n)) ms) × HaveShapes ss size members ms))
      ⊎ ((d.union ≡ true) × ((first : ℕ × CType) × (rest : List (ℕ × CType)) × (inner : Shape) × (d.members ≡ Some (first ∷ rest)) × (s ≡ union_of (size (structure n)) inner) × HasShape ss size first.1 inner))

  abbrev IsShapeOf : CType → Shape → Type 0
  IsShapeOf void s = ⊥
  IsShapeOf (integer k) s = s ≡ scalar (integer k) (size (integer k))
  IsShapeOf (floating k) s = s ≡ floating_shape (floating k) (size (floating k))
  IsShapeOf (pointer t) s = s ≡ scalar (pointer t) (size (pointer t))
  IsShapeOf (array t None) s = ⊥
  IsShapeOf (array t (Some n)) s = (inner : Shape) × (s ≡ array_of (array t (Some n)) (size (array t (Some n))) inner n) × HasShape ss size t inner
  IsShapeOf (structure n) s = (d : Struct) × (slice_get ss n ≡ Some d) × IsStructShape n d s
  IsShapeOf (function r) s = ⊥

  shape_is : {t : CType} {s : Shape} → HasShape ss size t s → IsShapeOf t s
  shape_is has_integer = refl
  shape_is has_pointer = refl
  shape_is has_floating = refl
  shape_is (has_array {s = s} h) = (s, refl, h)
  shape_is (has_struct {d = d} {members = members} {ms = ms} there union known hs) = (d, there, inl (union, (members, ms, known, refl, hs)))
  shape_is (has_union {d = d} {first = first} {rest = rest} {s = s} there union known h) = (d, there, inr (union, (first, rest, s, known, refl, h)))

  abbrev AreShapesOf : List (ℕ × CType) → Shapes → Type 0
  AreShapesOf [] s = s ≡ no_shapes
  AreShapesOf (m ∷ ms) s = (first : Shape) × (rest : Shapes) × (s ≡ next_shape first rest) × HasShape ss size m.1 first × HaveShapes ss size ms rest

  shapes_are : {ms : List (ℕ × CType)} {s : Shapes} → HaveShapes ss size ms s → AreShapesOf ms s
  shapes_are have_none = refl
  shapes_are (have_next {s = s} {ss = more} h hs) = (s, more, refl, h, hs)

  -- of one struct
  same_struct : (n : ℕ) (d q : Struct) → slice_get ss n ≡ Some d → slice_get ss n ≡ Some q → q ≡ d
  same_struct n d q e f = some_is q d (sym f ∙ e)

  head_is : (a b : ℕ × CType) (xs ys : List (ℕ × CType)) → Some (a ∷ xs) ≡ Some (b ∷ ys) → a ≡ b
  head_is a b xs ys e = cc

  mutual
    pub shape_unique : {t : CType} {s : Shape} → HasShape ss size t s → (q : Shape) → IsShapeOf t q → s ≡ q
    shape_unique has_integer q w = sym w
    shape_unique has_pointer q w = sym w
    shape_unique has_floating q w = sym w
    shape_unique (has_array {t = t} {n = n} {s = s} h) q w =
        ap (λ i. array_of (array t (Some n)) (size (array t (Some n))) i n) (shape_unique h w.0 (shape_is w.2)) ∙ sym w.1
    shape_unique (has_struct {n = n} {d = d} {members = members} {ms = ms} there union known hs) q w = by w.2 (λ more inner. shapes_unique hs more (shapes_are inner))
      where
        is : w.0 ≡ d
        is = same_struct n d w.0 there w.1

        by : IsStructShape n w.0 q → ((more : Shapes) → HaveShapes ss size members more → ms ≡ more) → struct_of (structure n) (size (structure n)) ms ≡ q
        by (inl g) rest =
            let same : g.1.0 ≡ members = some_is g.1.0 members (sym g.1.2 ∙ ap (λ (x : Struct). x.members) is ∙ known) in
            ap (struct_of (structure n) (size (structure n))) (rest g.1.1 (subst (λ xs. HaveShapes ss size xs g.1.1) same g.1.4)) ∙ sym g.1.3
        by (inr g) rest = false_true (sym union ∙ ap (λ (x : Struct). x.union) (sym is) ∙ g.0)
    shape_unique (has_union {n = n} {d = d} {first = first} {rest = others} {s = s} there union known h) q w = by w.2 (λ more inner. shape_unique h more (shape_is inner))
      where
        is : w.0 ≡ d
        is = same_struct n d w.0 there w.1

        by : IsStructShape n w.0 q → ((more : Shape) → HasShape ss size first.1 more → s ≡ more) → union_of (size (structure n)) s ≡ q
        by (inl g) rest = false_true (sym g.0 ∙ ap (λ (x : Struct). x.union) is ∙ union)
        by (inr g) rest =
            let same : g.1.0 ≡ first = head_is g.1.0 first g.1.1 others (sym g.1.3 ∙ ap (λ (x : Struct). x.members) is ∙ known) in
            ap (union_of (size (structure n))) (rest g.1.2 (subst (λ (m : ℕ × CType). HasShape ss size m.1 g.1.2) same g.1.5)) ∙ sym g.1.4

    shapes_unique : {ms : List (ℕ × CType)} {s : Shapes} → HaveShapes ss size ms s → (q : Shapes) → AreShapesOf ms q → s ≡ q
    shapes_unique have_none q w = sym w
    shapes_unique (have_next {s = s} {ss = more} h hs) q w =
        ap (λ x. next_shape x more) (shape_unique h w.0 (shape_is w.3)) ∙ ap (next_shape w.0) (shapes_unique hs w.1 (shapes_are w.4)) ∙ sym w.2

  pub one_shape : {t : CType} {s q : Shape} → HasShape ss size t s → HasShape ss size t q → s ≡ q
  one_shape {q = q} h g = shape_unique h q (shape_is g)
