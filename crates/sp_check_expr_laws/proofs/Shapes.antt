-- A type keeps its shape where the table of structs grows.
use Rattle.std.proofs.Common.{◌≡◌, ℕ, List, [], ◌∷◌, Option, Some, None, refl, ap, sym, subst, ◌∙◌}
use Rattle.std.specs.Prelude.{slice_get}
use Rattle.sp_types.specs.declared.extents.Extent.{Extent}
use Rattle.sp_types.specs.Types.{CType, void, integer, floating, pointer, array, structure, function, Struct}
use Rattle.sp_types.specs.Layout.{layout, repeated, struct_extent}
use Rattle.sp_types.specs.Structs.{IsTable, IsWhole}
use Rattle.sp_ir.specs.Shapes.{Shape, Shapes, array_of, struct_of, union_of, HasShape, HaveShapes, has_integer, has_pointer, has_floating, has_array, has_struct, has_union, have_none, have_next}
use Rattle.sp_ir.specs.Terrain.{size_of, size_in}
use Rattle.sp_check_formed_laws.proofs.Lists.{none_some}
use Rattle.sp_check_formed_laws.proofs.Stays.{Stays}

-- a struct that has members has an extent
whole_extent : (ss : List Struct) (s : Struct) (o : Option (List (ℕ × CType)))
    (ms : List (ℕ × CType)) → IsWhole ss s o → o ≡ Some ms
    → (e : Extent) × (s.extent ≡ Some e)
whole_extent ss s None ms w h = absurd (none_some ms h)
whole_extent ss s (Some ns) ms w h = (w.1.0, w.1.1)

module _ (ss rs : List Struct) (table : IsTable ss) (stays : Stays ss rs) where
  pub struct_same : (k : ℕ) (s : Struct) (ms : List (ℕ × CType)) → slice_get ss k ≡ Some s
      → s.members ≡ Some ms → slice_get rs k ≡ Some s
  struct_same k s ms at h =
      let x : (e : Extent) × (s.extent ≡ Some e) =
      whole_extent ss s s.members ms (table k s at) h in
      stays.complete k s x.0 at x.1

  laid_same : (t : CType) (s : Shape) → HasShape ss (size_of ss) t s → layout rs t ≡ layout ss t
  laid_same void s h = elim h [ ]
  laid_same (function r) s h = elim h [ ]
  laid_same (integer k) s h = refl
  laid_same (floating k) s h = refl
  laid_same (pointer t) s h = refl
  laid_same (array t None) s h = elim h [ ]
  laid_same (array t (Some n)) s (has_array {s = inner} h) = ap (repeated n) (laid_same t inner h)
  laid_same (structure k) s (has_struct {d = d} {members = ms} at union members inner) =
      ap struct_extent (struct_same k d ms at members ∙ sym at)
  laid_same (structure k) s (has_union {d = d} {first = m} {rest = ms} at union members inner) =
      ap struct_extent (struct_same k d (m ∷ ms) at members ∙ sym at)

  size_same : (t : CType) (s : Shape) → HasShape ss (size_of ss) t s
      → size_of rs t ≡ size_of ss t
  size_same t s h = ap size_in (laid_same t s h)

  mutual
    pub shape_stays : (t : CType) (s : Shape) → HasShape ss (size_of ss) t s
        → HasShape rs (size_of rs) t s
    shape_stays void s h = elim h [ ]
    shape_stays (function r) s h = elim h [ ]
    shape_stays (array t None) s h = elim h [ ]
    shape_stays (integer k) s has_integer = has_integer
    shape_stays (floating k) s has_floating = has_floating
    shape_stays (pointer t) s has_pointer = has_pointer
    shape_stays (array t (Some n)) s (has_array {s = inner} h) =
        subst (λ k. HasShape rs (size_of rs) (array t (Some n))
        (array_of (array t (Some n)) k inner n))
        (size_same (array t (Some n)) (array_of (array t (Some n))
        (size_of ss (array t (Some n))) inner n) (has_array h))
        (has_array (shape_stays t inner h))
    shape_stays (structure k) s
        (has_struct {d = d} {members = ms} {ms = inner} at union members h) =
        subst (λ n. HasShape rs (size_of rs) (structure k) (struct_of (structure k) n inner))
        (size_same (structure k) (struct_of (structure k) (size_of ss (structure k)) inner)
        (has_struct at union members h))
        (has_struct (struct_same k d ms at members) union members (shapes_stay ms inner h))
    shape_stays (structure k) s
        (has_union {d = d} {first = m} {rest = ms} {s = inner} at union members h) =
        subst (λ n. HasShape rs (size_of rs) (structure k) (union_of n inner))
        (size_same (structure k) (union_of (size_of ss (structure k)) inner)
        (has_union at union members h))
        (has_union (struct_same k d (m ∷ ms) at members) union members
        (shape_stays m.1 inner h))

    shapes_stay : (ms : List (ℕ × CType)) (ks : Shapes) → HaveShapes ss (size_of ss) ms ks
        → HaveShapes rs (size_of rs) ms ks
    shapes_stay [] ks have_none = have_none
    shapes_stay (m ∷ ms) ks (have_next {s = s} {ss = rest} h g) =
        have_next (shape_stays m.1 s h) (shapes_stay ms rest g)
