-- Complete structs stay as they are where a table grows, or where an incomplete struct takes its
-- members. So what they give a type stays, and so does what is whole.
use Rattle.std.proofs.Common.{◌≡◌, ℕ, suc, ◌≤◌, max, Bool, true, false, length, List, [], ◌∷◌, Option, Some, None, refl, ap, sym, ◌∙◌}
use Rattle.std.specs.Prelude.{slice_get, All, ⊤}
use Rattle.sp_types.specs.Types.{CType, void, integer, floating, pointer, array, structure, function, Struct}
use Rattle.sp_types.specs.Layout.{extent, layout, repeated, struct_extent}
use Rattle.sp_types.specs.Structs.{IsWhole, IsAbove, IsFormed, held, height, height_of, leaves, leaves_of, cells, cells_of, times, plus, sum_of, level_above, with_member, with_members, leaves_of_members, cells_of_members}
use Rattle.sp_types.specs.declared.extents.Extent.{Extent}
use Rattle.sp_check_formed_laws.proofs.Lists.{none_some, nil_all, cons_all, head_all, tail_all}
use Rattle.sp_check_formed_laws.proofs.Longer.{type_longer}

pub record Stays (ss rs : List Struct) : Type 0 where
  pub longer : length ss ≤ length rs
  pub complete : (k : ℕ) (s : Struct) (e : Extent) → slice_get ss k ≡ Some s → s.extent ≡ Some e → slice_get rs k ≡ Some s

-- ---- types

-- what a table gives a type, which another gives it too
pub record SameType (ss rs : List Struct) (t : CType) : Type 0 where
  pub layouts : layout rs t ≡ layout ss t
  pub heights : height rs t ≡ height ss t
  pub leaf_counts : leaves rs t ≡ leaves ss t
  pub cell_counts : cells rs t ≡ cells ss t

repeated_some : (n : ℕ) (o : Option Extent) (e : Extent) → repeated n o ≡ Some e → (f : Extent) × (o ≡ Some f)
repeated_some n None e p = absurd (none_some e p)
repeated_some n (Some f) e p = (f, refl)

pub struct_some : (o : Option Struct) (e : Extent) → struct_extent o ≡ Some e → (s : Struct) × (o ≡ Some s) × (s.extent ≡ Some e)
struct_some None e p = absurd (none_some e p)
struct_some (Some s) e p = (s, refl, p)

-- two lists of members with the same sizes one by one
abbrev pub AllSame : List Struct → List Struct → List (ℕ × CType) → Type 0
AllSame ss rs [] = ⊤
AllSame ss rs (m ∷ ms) = SameType ss rs m.1 × AllSame ss rs ms

module _ (ss rs : List Struct) (stays : Stays ss rs) where
  pub type_stays : (t : CType) (e : Extent) → layout ss t ≡ Some e → SameType ss rs t
  type_stays (integer k) e p = record { layouts = refl; heights = refl; leaf_counts = refl; cell_counts = refl }
  type_stays (floating k) e p = record { layouts = refl; heights = refl; leaf_counts = refl; cell_counts = refl }
  type_stays (pointer t) e p = record { layouts = refl; heights = refl; leaf_counts = refl; cell_counts = refl }
  type_stays (array t None) e p = absurd (none_some e p)
  type_stays (array t (Some n)) e p =
      let x : (g : Extent) × (layout ss t ≡ Some g) = repeated_some n (layout ss t) e p in
      let w : SameType ss rs t = type_stays t x.0 x.1 in
      record { layouts = ap (repeated n) w.layouts; heights = w.heights; leaf_counts = ap (times n) w.leaf_counts; cell_counts = w.cell_counts }
  type_stays (structure k) e p =
      let x : (s : Struct) × (slice_get ss k ≡ Some s) × (s.extent ≡ Some e) = struct_some (slice_get ss k) e p in
      let found : slice_get rs k ≡ slice_get ss k = stays.complete k x.0 e x.1 x.2 ∙ sym x.1 in
      record { layouts = ap struct_extent found; heights = ap height_of found; leaf_counts = ap leaves_of found; cell_counts = ap cells_of found }
  type_stays void e p = absurd (none_some e p)
  type_stays (function s) e p = absurd (none_some e p)

  pub above_stays : (level : ℕ) (t : CType) (e : Extent) → layout ss t ≡ Some e → IsAbove ss level (held t) → IsAbove rs level (held t)
  above_stays level void e p h = tt
  above_stays level (integer k) e p h = tt
  above_stays level (floating k) e p h = tt
  above_stays level (pointer t) e p h = tt
  above_stays level (array t None) e p h = absurd (none_some e p)
  above_stays level (array t (Some n)) e p h =
      let x : (g : Extent) × (layout ss t ≡ Some g) = repeated_some n (layout ss t) e p in
      above_stays level t x.0 x.1 h
  above_stays level (structure k) e p h =
      let x : (s : Struct) × (slice_get ss k ≡ Some s) × (s.extent ≡ Some e) = struct_some (slice_get ss k) e p in
      let found : slice_get ss k ≡ slice_get rs k = x.1 ∙ sym (stays.complete k x.0 e x.1 x.2) in
      λ s g. h s (found ∙ g)
  above_stays level (function s) e p h = tt

-- ---- members

pub member_some : (ss : List Struct) (union : Bool) (whole : Extent) (ms : List (ℕ × CType)) (o : Option Extent) (e : Extent)
    → elim o [ None ↦ None | Some x ↦ with_members ss union (with_member union whole x) ms ] ≡ Some e
    → (f : Extent) × (o ≡ Some f) × (with_members ss union (with_member union whole f) ms ≡ Some e)
member_some ss union whole ms None e h = absurd (none_some e h)
member_some ss union whole ms (Some f) e h = (f, refl, h)

module _ (ss rs : List Struct) where
  levels_same : (ms : List (ℕ × CType)) → AllSame ss rs ms → level_above rs ms ≡ level_above ss ms
  levels_same [] w = refl
  levels_same (m ∷ ms) w = λ i. max (suc (w.0.heights i)) (levels_same ms w.1 i)

  leaf_sums_same : (ms : List (ℕ × CType)) → AllSame ss rs ms → sum_of (leaves rs) ms ≡ sum_of (leaves ss) ms
  leaf_sums_same [] w = refl
  leaf_sums_same (m ∷ ms) w = λ i. plus (w.0.leaf_counts i) (leaf_sums_same ms w.1 i)

  cell_sums_same : (ms : List (ℕ × CType)) → AllSame ss rs ms → sum_of (cells rs) ms ≡ sum_of (cells ss) ms
  cell_sums_same [] w = refl
  cell_sums_same (m ∷ ms) w = λ i. plus (w.0.cell_counts i) (cell_sums_same ms w.1 i)

  leaf_counts_same : (union : Bool) (ms : List (ℕ × CType)) → AllSame ss rs ms → leaves_of_members rs union ms ≡ leaves_of_members ss union ms
  leaf_counts_same false ms w = leaf_sums_same ms w
  leaf_counts_same true [] w = refl
  leaf_counts_same true (m ∷ ms) w = w.0.leaf_counts

  cell_counts_same : (union : Bool) (ms : List (ℕ × CType)) → AllSame ss rs ms → cells_of_members rs union ms ≡ cells_of_members ss union ms
  cell_counts_same false ms w = cell_sums_same ms w
  cell_counts_same true ms w = refl

  extents_same : (union : Bool) (whole : Extent) (ms : List (ℕ × CType)) → AllSame ss rs ms → with_members rs union whole ms ≡ with_members ss union whole ms
  extents_same union whole [] w = refl
  extents_same union whole (m ∷ ms) w =
      ap (λ (o : Option Extent). with_next o) w.0.layouts ∙ by (layout ss m.1) (λ e. extents_same union (with_member union whole e) ms w.1)
    where
      with_next : Option Extent → Option Extent
      with_next o = elim o [ None ↦ None | Some e ↦ with_members rs union (with_member union whole e) ms ]

      with_other : Option Extent → Option Extent
      with_other o = elim o [ None ↦ None | Some e ↦ with_members ss union (with_member union whole e) ms ]

      by : (o : Option Extent) → ((e : Extent) → with_members rs union (with_member union whole e) ms ≡ with_members ss union (with_member union whole e) ms) → with_next o ≡ with_other o
      by None ih = refl
      by (Some e) ih = ih e

module _ (ss rs : List Struct) (stays : Stays ss rs) where
  members_stay : (union : Bool) (whole : Extent) (ms : List (ℕ × CType)) (e : Extent) → with_members ss union whole ms ≡ Some e → AllSame ss rs ms
  members_stay union whole [] e p = tt
  members_stay union whole (m ∷ ms) e p =
      let a : (g : Extent) × (layout ss m.1 ≡ Some g) × (with_members ss union (with_member union whole g) ms ≡ Some e) = member_some ss union whole ms (layout ss m.1) e p in
      (type_stays ss rs stays m.1 a.0 a.1, members_stay union (with_member union whole a.0) ms e a.2)

  all_stay : (level : ℕ) (union : Bool) (whole : Extent) (ms : List (ℕ × CType)) (e : Extent) → with_members ss union whole ms ≡ Some e
      → All (λ m. IsFormed ss m.1 × IsAbove ss level (held m.1)) ms → All (λ m. IsFormed rs m.1 × IsAbove rs level (held m.1)) ms
  all_stay level union whole [] e p all = nil_all (λ m. IsFormed rs m.1 × IsAbove rs level (held m.1))
  all_stay level union whole (m ∷ ms) e p all =
      let a : (g : Extent) × (layout ss m.1 ≡ Some g) × (with_members ss union (with_member union whole g) ms ≡ Some e) = member_some ss union whole ms (layout ss m.1) e p in
      let formed : IsFormed ss m.1 × IsAbove ss level (held m.1) = head_all (λ m. IsFormed ss m.1 × IsAbove ss level (held m.1)) m ms all in
      cons_all (λ m. IsFormed rs m.1 × IsAbove rs level (held m.1)) m ms
      (type_longer ss rs stays.longer m.1 formed.0, above_stays ss rs stays level m.1 a.0 a.1 formed.1)
      (all_stay level union (with_member union whole a.0) ms e a.2 (tail_all (λ m. IsFormed ss m.1 × IsAbove ss level (held m.1)) m ms all))

  -- ---- structs

  pub whole_stays : (s : Struct) (ms : Option (List (ℕ × CType))) → IsWhole ss s ms → IsWhole rs s ms
  whole_stays s None w = w
  whole_stays s (Some ms) w =
      let same : AllSame ss rs ms = members_stay s.union (extent 0 1) ms w.1.0 w.1.2 in (
        all_stay s.level s.union (extent 0 1) ms w.1.0 w.1.2 w.0,
        (w.1.0, w.1.1, extents_same ss rs s.union (extent 0 1) ms same ∙ w.1.2, w.1.3),
        w.2 ∙ sym (levels_same ss rs ms same),
        w.3 ∙ sym (leaf_counts_same ss rs s.union ms same),
        w.4 ∙ sym (cell_counts_same ss rs s.union ms same),
      )
