-- Structs with a leaf of pointer type.
use Rattle.std.proofs.Common.{◌≡◌, ℕ, zero, suc, ◌+◌, Bool, false, List, [], ◌∷◌, Option, Some, None, slice_get, refl, ap, sym, ◌∙◌, arith, add-zero, zero-add}
use Rattle.std.proofs.lemmas.Option.{none-some}
use Rattle.sp_types.specs.Types.{CType, void, integer, floating, pointer, array, structure, function, Struct}
use Rattle.sp_types.specs.Layout.{layout, repeated, struct_extent}
use Rattle.sp_types.specs.Structs.{IsTable}
use Rattle.sp_types.specs.declared.extents.Extent.{Extent}
use Rattle.sp_ir.specs.Programs.{Object}
use Rattle.sp_ir.specs.Formed.{points}
use Rattle.sp_base_layouts.specs.Layouts.{layout_of, pointers_from, pointers_of}
use Rattle.sp_base_layout_laws.proofs.Shaped.{is-shaped, repeated-some, struct-some}
use Rattle.sp_lower_draft.specs.Context.{flag_at, has_pointer}
use Rattle.sp_lower_program_laws.specs.Laws.{PointersHold}

flags-at : (ss : List Struct) (n k : ℕ) (ds : List Struct) (d : Struct) → slice_get ds k ≡ Some d
    → slice_get (pointers_from ss n ds) k ≡ Some (points (layout_of ss (structure (n + k))))
flags-at ss n k [] d h = absurd (none-some d h)
flags-at ss n zero (x ∷ ds) d h = ap (λ m. Some (points (layout_of ss (structure m)))) (sym (add-zero n))
flags-at ss n (suc k) (x ∷ ds) d h =
    flags-at ss (n + 1) k ds d h ∙ ap (λ m. Some (points (layout_of ss (structure m)))) (omega arith)

pub points-same : (ss : List Struct) (t : CType) (e : Extent) → layout ss t ≡ Some e → has_pointer (pointers_of ss) t ≡ points (layout_of ss t)
points-same ss void e h = absurd (none-some e h)
points-same ss (integer k) e h = refl
points-same ss (floating k) e h = refl
points-same ss (pointer t) e h = refl
points-same ss (array t None) e h = absurd (none-some e h)
points-same ss (array t (Some n)) e h = let inner = repeated-some n (layout ss t) e h in points-same ss t inner.0 inner.1
points-same ss (structure k) e h =
    let found = struct-some (slice_get ss k) e h in
    ap flag_at (flags-at ss 0 k ss found.0 found.1 ∙ ap (λ m. Some (points (layout_of ss (structure m)))) (zero-add k))
points-same ss (function s) e h = absurd (none-some e h)

pub pointers-hold : (ss : List Struct) (t : CType) → PointersHold ss t
pointers-hold ss t os table some e h = (layout_of ss t, is-shaped ss t table some e h, sym (points-same ss t e h))
