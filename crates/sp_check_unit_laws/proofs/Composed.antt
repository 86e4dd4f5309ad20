-- Start values of an object stay known where a further declaration tells more of its type
-- (C90 6.1.2.6).
use Rattle.std.proofs.Common.{◌≡◌, ℕ, ◌≤◌, ◌<◌, ◌*◌, ◌%◌, ◌==◌, true, List, Option, Some, None, is_some, refl, ap, sym, subst, ◌∙◌, true≢false, eqb-true, arith}
use Rattle.sp_types.specs.Types.{CType, void, integer, floating, pointer, array, structure, function, Struct}
use Rattle.sp_types.specs.Typed.{Typed, of}
use Rattle.sp_types.specs.declared.extents.Extent.{Extent}
use Rattle.sp_types.specs.Layout.{layout, repeated, integer_extent, floating_extent}
use Rattle.sp_types.specs.Compatible.{compatible}
use Rattle.sp_check_operands.specs.Conversions.{is_complete}
use Rattle.sp_check_expr_laws.specs.Sound.{KnowsElements}
use Rattle.sp_check_expr_laws.proofs.Types.{and_true, same_kind_is, same_float_is}
use Rattle.sp_check_primaries.specs.Composite.{composite}
use Rattle.sp_ir.specs.Formed.{is_scalar}
use Rattle.sp_ir.specs.Shapes.{Shape, scalar, array_of, HasShape, has_pointer, has_array, leaf_count}
use Rattle.sp_ir.specs.Terrain.{size_in, size_of}
use Rattle.sp_check_typing.specs.Sorts.{same_value}
use Rattle.sp_check_typing.specs.Trees.{Scene}
use Rattle.sp_check_typing.specs.Starts.{leaf_type, IsLeafValue, AreKnown}

-- what goes to the one goes to the other
pub record IsAlike (t u : CType) : Type 0 where
  pub scalar : is_scalar t ≡ true → is_scalar u ≡ true
  pub same : (v : CType) → same_value v t ≡ true → same_value v u ≡ true

alike_self : (t : CType) → IsAlike t t
alike_self t = record { scalar = λ h. h; same = λ v h. h }

pointers_alike : (t u : CType) → IsAlike (pointer t) (pointer u)
pointers_alike t u = record { scalar = λ h. refl; same = same }
  where
    same : (v : CType) → same_value v (pointer t) ≡ true → same_value v (pointer u) ≡ true
    same (pointer v) h = refl
    same v h = absurd (true≢false (sym h))

-- the leaves of the one are those of the other, of types alike
pub record AreLeavesAlike (s r : Shape) : Type 0 where
  pub count : leaf_count r ≡ leaf_count s
  pub leaves : (k : ℕ) (t : CType) → leaf_type s k ≡ Some t
      → (u : CType) × (leaf_type r k ≡ Some u) × IsAlike t u

leaves_self : (s : Shape) → AreLeavesAlike s s
leaves_self s = record { count = refl; leaves = λ k t at. (t, at, alike_self t) }

some_alike : (t u : CType) → IsAlike t u → (v : CType) → Some t ≡ Some v
    → (w : CType) × (Some u ≡ Some w) × IsAlike v w
some_alike t u h v at = (u, refl, subst (λ x. IsAlike x u) (cc) h)

module _ (ss : List Struct) where
  pub layout_same : (t u : CType) (s : Shape) → HasShape ss (size_of ss) t s
      → layout ss (composite t u) ≡ layout ss t
  layout_same (array t (Some n)) (array u m) s (has_array {s = inner} h) =
      ap (repeated n) (layout_same t u inner h)
  layout_same (array t None) u s h = elim h [ ]
  layout_same (pointer t) (pointer u) s h = refl
  layout_same void u s h = elim h [ ]
  layout_same (function r) u s h = elim h [ ]
  layout_same t u s h = refl

  abbrev HasAlike : CType → Shape → Type 0
  HasAlike t s = (r : Shape) × HasShape ss (size_of ss) t r × AreLeavesAlike s r

  pub shape_composed : (t u : CType) (s : Shape) → HasShape ss (size_of ss) t s
      → HasAlike (composite t u) s
  shape_composed (pointer t) (pointer u) s has_pointer = (
    scalar (pointer (composite t u)) (size_of ss (pointer (composite t u))),
    has_pointer,
    record {
      count = refl;
      leaves = λ k v at.
          some_alike (pointer t) (pointer (composite t u)) (pointers_alike t (composite t u)) v at;
    },
  )
  shape_composed (array t (Some n)) (array u m) s (has_array {s = inner} h) =
      let x : HasAlike (composite t u) inner = shape_composed t u inner h in (
        array_of (array (composite t u) (Some n)) (size_of ss (array (composite t u) (Some n))) x.0
            n,
        has_array x.1,
        record {
          count = ap (λ c. n * c) x.2.count;
          leaves = λ k v at.
              subst (λ c. (w : CType) × (leaf_type x.0 (k % c) ≡ Some w) × IsAlike v w)
              (sym x.2.count) (x.2.leaves (k % leaf_count inner) v at);
        },
      )
  shape_composed (array t None) u s h = elim h [ ]
  shape_composed void u s h = elim h [ ]
  shape_composed (function r) u s h = elim h [ ]
  shape_composed t u s h = (s, h, leaves_self s)

module _ (s : Scene) (t u : CType) (es : List (ℕ × Typed)) where
  leaf_composed : (a b : Shape) → AreLeavesAlike a b → (e : ℕ × Typed) → IsLeafValue s a e
      → IsLeafValue s b e
  leaf_composed a b h e v =
      let x : (u : CType) × (leaf_type b e.0 ≡ Some u) × IsAlike v.leaf u =
      h.leaves e.0 v.leaf v.there in
      record {
        low = subst (λ n. e.0 < n) (sym h.count) v.low;
        typed = v.typed;
        leaf = x.0;
        there = x.1;
        scalar = x.2.scalar v.scalar;
        same = x.2.same (of e.1) v.same;
      }

  pub known_composed : AreKnown s t es → AreKnown s (composite t u) es
  known_composed h =
      let x : HasAlike s.structs (composite t u) h.values.shape =
      shape_composed s.structs t u h.values.shape h.values.shaped in
      record {
        values = record {
          shape = x.0;
          shaped = x.1;
          values = λ k d low. leaf_composed h.values.shape x.0 x.2 _ (h.values.values k d low);
          apart = h.values.apart;
        };
        constants = h.constants;
      }

  pub size_composed : AreKnown s t es → size_of s.structs (composite t u) ≡ size_of s.structs t
  size_composed h = ap size_in (layout_same s.structs t u h.values.shape h.values.shaped)

-- ---- elements of arrays

inner_whole : (n : ℕ) (o : Option Extent) → is_some (repeated n o) ≡ true → is_some o ≡ true
inner_whole n None h = h
inner_whole n (Some e) h = refl

module _ (ss : List Struct) where
  -- where the first is complete, the composite has its layout
  layout_first : (t u : CType) → is_complete ss t ≡ true
      → layout ss (composite t u) ≡ layout ss t
  layout_first (array t (Some n)) (array u m) h =
      ap (repeated n) (layout_first t u (inner_whole n (layout ss t) h))
  layout_first (array t None) u h = absurd (true≢false (sym h))
  layout_first (pointer t) (pointer u) h = refl
  layout_first void u h = absurd (true≢false (sym h))
  layout_first (function r) u h = absurd (true≢false (sym h))
  layout_first t u h = refl

  -- where the second is, it has that one's
  layout_second : (t u : CType) → compatible t u ≡ true → is_complete ss u ≡ true
      → layout ss (composite t u) ≡ layout ss u
  layout_second (integer j) (integer k) c h = ap (λ i. Some (integer_extent i)) (same_kind_is j k c)
  layout_second (floating j) (floating k) c h =
      ap (λ i. Some (floating_extent i)) (same_float_is j k c)
  layout_second (pointer t) (pointer u) c h = refl
  layout_second (structure j) (structure k) c h =
      ap (λ i. layout ss (structure i)) (eqb-true j k c)
  layout_second (array t None) (array u (Some m)) c h =
      ap (repeated m) (layout_second t u c (inner_whole m (layout ss u) h))
  layout_second (array t (Some n)) (array u (Some m)) c h =
      let both : ((n == m) ≡ true) × (compatible t u ≡ true) =
      and_true (n == m) (compatible t u) c in
      ap (repeated n) (layout_second t u both.1 (inner_whole m (layout ss u) h))
      ∙ ap (λ i. repeated i (layout ss u)) (eqb-true n m both.0)
  layout_second t (array u None) c h = absurd (true≢false (sym h))
  layout_second t void c h = absurd (true≢false (sym h))
  layout_second t (function r) c h = absurd (true≢false (sym h))
  layout_second t u c h = absurd (true≢false (sym c))

  pub elements_composed : (t u : CType) → compatible t u ≡ true → KnowsElements ss t
      → KnowsElements ss u → KnowsElements ss (composite t u)
  elements_composed (array t (Some n)) (array u m) c h g =
      ap is_some (layout_first (array t (Some n)) (array u m) h) ∙ h
  elements_composed (array t None) (array u None) c h g = ap is_some (layout_first t u h) ∙ h
  elements_composed (array t None) (array u (Some m)) c h g =
      ap is_some (layout_second (array t None) (array u (Some m)) c g) ∙ g
  elements_composed (array t n) u c h g = h
  elements_composed (pointer t) (pointer u) c h g = tt
  elements_composed (pointer t) u c h g = tt
  elements_composed (function r) (function s) c h g = tt
  elements_composed (function r) u c h g = tt
  elements_composed void u c h g = tt
  elements_composed (integer j) u c h g = tt
  elements_composed (floating j) u c h g = tt
  elements_composed (structure j) u c h g = tt

  -- what has a size knows them
  whole_of : (o : Option Extent) → 1 ≤ size_in o → is_some o ≡ true
  whole_of None h = absurd (omega (arith, h))
  whole_of (Some e) h = refl

  pub sized_elements : (t : CType) → 1 ≤ size_of ss t → KnowsElements ss t
  sized_elements (array t None) h = absurd (omega (arith, h))
  sized_elements (array t (Some n)) h = whole_of (layout ss (array t (Some n))) h
  sized_elements void h = tt
  sized_elements (integer j) h = tt
  sized_elements (floating j) h = tt
  sized_elements (pointer t) h = tt
  sized_elements (structure j) h = tt
  sized_elements (function r) h = tt
