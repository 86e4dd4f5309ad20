-- Structs with members that agree have one size, level and counts.
use Rattle.std.proofs.Common.{◌≡◌, ℕ, zero, suc, ◌<◌, max, Bool, true, false, ◌&&◌, ◌==◌, List, [], ◌∷◌, Option, Some, None, refl, ap, sym, subst, ◌∙◌, true≢false, eqb-true, arith}
use Rattle.std.specs.Prelude.{slice_get, All, ⊤}
use Rattle.std.specs.Option.{option_eq}
use Rattle.sp_types.specs.Types.{CType, void, integer, floating, pointer, array, structure, function, Struct}
use Rattle.sp_types.specs.Layout.{extent, layout, repeated, struct_extent, integer_size, floating_size}
use Rattle.sp_types.specs.Compatible.{same_kind, same_float, same_flag}
use Rattle.sp_types.specs.Structs.{IsWhole, IsAbove, IsFormed, held, height, height_of, leaves, leaves_of, cells, cells_of, times, plus, sum_of, level_above, with_member, with_members, leaves_of_members, cells_of_members}
use Rattle.sp_types.specs.declared.ctype.IntKind.{IntKind}
use Rattle.sp_types.specs.declared.ctype.IntKind.TheVariants.{Char, SChar, UChar, Short, UShort, Int, UInt, Long, ULong}
use Rattle.sp_types.specs.declared.ctype.FloatKind.{FloatKind}
use Rattle.sp_types.specs.declared.ctype.FloatKind.TheVariants.{Float, Double, LongDouble}
use Rattle.sp_types.specs.declared.extents.Extent.{Extent}
use Rattle.sp_link_agreement.specs.Agreement.{compatible_by, members_agree, contents_agree, same_head, structs_agree}
use Rattle.sp_link_agreement.specs.Depths.{struct_of_table, found_agree, agrees_within, Agree, TypesAgree}
use Rattle.sp_link_structs_laws.specs.Tables.{AreTables}
use Rattle.sp_link_structs_laws.proofs.Lists.{none_some, head_all, tail_all, and_left, and_right}

-- ---- sizes of kinds

int_sizes : (k j : IntKind) → same_kind k j ≡ true → integer_size k ≡ integer_size j
int_sizes Char Char h = refl
int_sizes SChar SChar h = refl
int_sizes UChar UChar h = refl
int_sizes Short Short h = refl
int_sizes UShort UShort h = refl
int_sizes Int Int h = refl
int_sizes UInt UInt h = refl
int_sizes Long Long h = refl
int_sizes ULong ULong h = refl
int_sizes _ _ h = absurd (true≢false (sym h))

float_sizes : (k j : FloatKind) → same_float k j ≡ true → floating_size k ≡ floating_size j
float_sizes Float Float h = refl
float_sizes Double Double h = refl
float_sizes LongDouble LongDouble h = refl
float_sizes _ _ h = absurd (true≢false (sym h))

-- ---- what is the same

pub record SameStruct (s t : Struct) : Type 0 where
  pub extents : s.extent ≡ t.extent
  pub levels : s.level ≡ t.level
  pub leaf_counts : s.leaves ≡ t.leaves
  pub cell_counts : s.cells ≡ t.cells

pub record SameType (ss : List Struct) (a : CType) (tt : List Struct) (b : CType) : Type 0 where
  pub layouts : layout ss a ≡ layout tt b
  pub heights : height ss a ≡ height tt b
  pub leaf_counts : leaves ss a ≡ leaves tt b
  pub cell_counts : cells ss a ≡ cells tt b

pub repeated_some : (n : ℕ) (o : Option Extent) (e : Extent) → repeated n o ≡ Some e → (f : Extent) × (o ≡ Some f)
repeated_some n None e h = absurd (none_some e h)
repeated_some n (Some f) e h = (f, refl)

pub struct_some : (o : Option Struct) (e : Extent) → struct_extent o ≡ Some e → (s : Struct) × (o ≡ Some s) × (s.extent ≡ Some e)
struct_some None e h = absurd (none_some e h)
struct_some (Some s) e h = (s, refl, h)

-- structs that are held, of a level below, are the same
abbrev pub HeldAreSame : List (List Struct) → ℕ → ℕ → List Struct → List Struct → ℕ → Type 0
HeldAreSame us u v ss tt level =
    (k j : ℕ) (s t : Struct) (e f : Extent) → slice_get ss k ≡ Some s → slice_get tt j ≡ Some t → s.extent ≡ Some e → t.extent ≡ Some f
    → s.level < level → Agree us (u, k) (v, j) → SameStruct s t

module _ (us : List (List Struct)) (u v : ℕ) (ss tt : List Struct) (level : ℕ) (below : HeldAreSame us u v ss tt level) where
  pub types_same : (a b : CType) → TypesAgree us (u, a) (v, b) → (e f : Extent) → layout ss a ≡ Some e → layout tt b ≡ Some f → IsAbove ss level (held a) → SameType ss a tt b
  types_same (integer k) (integer j) h e f p q above =
      let same : integer_size k ≡ integer_size j = int_sizes k j (h zero) in
      record { layouts = λ i. Some (extent (same i) (same i)); heights = refl; leaf_counts = refl; cell_counts = refl }
  types_same (integer k) _ h e f p q above = absurd (true≢false (sym (h zero)))
  types_same (floating k) (floating j) h e f p q above =
      let same : floating_size k ≡ floating_size j = float_sizes k j (h zero) in
      record { layouts = λ i. Some (extent (same i) (same i)); heights = refl; leaf_counts = refl; cell_counts = refl }
  types_same (floating k) _ h e f p q above = absurd (true≢false (sym (h zero)))
  types_same (pointer a) (pointer b) h e f p q above = record { layouts = refl; heights = refl; leaf_counts = refl; cell_counts = refl }
  types_same (pointer a) _ h e f p q above = absurd (true≢false (sym (h zero)))
  types_same (array a None) b h e f p q above = absurd (none_some e p)
  types_same (array a (Some n)) (array b None) h e f p q above = absurd (none_some f q)
  types_same (array a (Some n)) (array b (Some m)) h e f p q above =
      let same : n ≡ m = eqb-true n m (and_left (n == m) (compatible_by (λ k j. agrees_within zero us (u, k) (v, j)) a b) (h zero)) in
      let x : (g : Extent) × (layout ss a ≡ Some g) = repeated_some n (layout ss a) e p in
      let y : (g : Extent) × (layout tt b ≡ Some g) = repeated_some m (layout tt b) f q in
      let inner : SameType ss a tt b =
      types_same a b (λ z. and_right (n == m) (compatible_by (λ k j. agrees_within z us (u, k) (v, j)) a b) (h z)) x.0 y.0 x.1 y.1 above in
      record {
        layouts = λ i. repeated (same i) (inner.layouts i);
        heights = inner.heights;
        leaf_counts = λ i. times (same i) (inner.leaf_counts i);
        cell_counts = inner.cell_counts;
      }
  types_same (array a (Some n)) _ h e f p q above = absurd (true≢false (sym (h zero)))
  types_same (structure k) (structure j) h e f p q above =
      let x : (s : Struct) × (slice_get ss k ≡ Some s) × (s.extent ≡ Some e) = struct_some (slice_get ss k) e p in
      let y : (t : Struct) × (slice_get tt j ≡ Some t) × (t.extent ≡ Some f) = struct_some (slice_get tt j) f q in
      let w : SameStruct x.0 y.0 = below k j x.0 y.0 e f x.1 y.1 x.2 y.2 (above x.0 x.1) h in
      record {
        layouts = ap struct_extent x.1 ∙ w.extents ∙ sym (ap struct_extent y.1);
        heights = ap height_of x.1 ∙ w.levels ∙ sym (ap height_of y.1);
        leaf_counts = ap leaves_of x.1 ∙ w.leaf_counts ∙ sym (ap leaves_of y.1);
        cell_counts = ap cells_of x.1 ∙ w.cell_counts ∙ sym (ap cells_of y.1);
      }
  types_same (structure k) _ h e f p q above = absurd (true≢false (sym (h zero)))
  types_same void b h e f p q above = absurd (none_some e p)
  types_same (function s) b h e f p q above = absurd (none_some e p)

-- ---- members

pub member_some : (ss : List Struct) (union : Bool) (whole : Extent) (ms : List (ℕ × CType)) (o : Option Extent) (e : Extent)
    → elim o [ None ↦ None | Some x ↦ with_members ss union (with_member union whole x) ms ] ≡ Some e
    → (f : Extent) × (o ≡ Some f) × (with_members ss union (with_member union whole f) ms ≡ Some e)
member_some ss union whole ms None e h = absurd (none_some e h)
member_some ss union whole ms (Some f) e h = (f, refl, h)

-- two lists of members with the same sizes one by one
abbrev pub AreSame : List Struct → List Struct → List (ℕ × CType) → List (ℕ × CType) → Type 0
AreSame ss tt [] [] = ⊤
AreSame ss tt (m ∷ ms) (k ∷ ks) = SameType ss m.1 tt k.1 × AreSame ss tt ms ks
AreSame ss tt [] (k ∷ ks) = ⊥
AreSame ss tt (m ∷ ms) [] = ⊥

module _ (ss tt : List Struct) where
  pub levels_same : (ms ks : List (ℕ × CType)) → AreSame ss tt ms ks → level_above ss ms ≡ level_above tt ks
  levels_same [] [] w = refl
  levels_same (m ∷ ms) (k ∷ ks) w = λ i. max (suc (w.0.heights i)) (levels_same ms ks w.1 i)
  levels_same [] (k ∷ ks) w = absurd w
  levels_same (m ∷ ms) [] w = absurd w

  pub leaf_sums_same : (ms ks : List (ℕ × CType)) → AreSame ss tt ms ks → sum_of (leaves ss) ms ≡ sum_of (leaves tt) ks
  leaf_sums_same [] [] w = refl
  leaf_sums_same (m ∷ ms) (k ∷ ks) w = λ i. plus (w.0.leaf_counts i) (leaf_sums_same ms ks w.1 i)
  leaf_sums_same [] (k ∷ ks) w = absurd w
  leaf_sums_same (m ∷ ms) [] w = absurd w

  pub cell_sums_same : (ms ks : List (ℕ × CType)) → AreSame ss tt ms ks → sum_of (cells ss) ms ≡ sum_of (cells tt) ks
  cell_sums_same [] [] w = refl
  cell_sums_same (m ∷ ms) (k ∷ ks) w = λ i. plus (w.0.cell_counts i) (cell_sums_same ms ks w.1 i)
  cell_sums_same [] (k ∷ ks) w = absurd w
  cell_sums_same (m ∷ ms) [] w = absurd w

  pub leaf_counts_same : (union : Bool) (ms ks : List (ℕ × CType)) → AreSame ss tt ms ks → leaves_of_members ss union ms ≡ leaves_of_members tt union ks
  leaf_counts_same false ms ks w = leaf_sums_same ms ks w
  leaf_counts_same true [] [] w = refl
  leaf_counts_same true (m ∷ ms) (k ∷ ks) w = w.0.leaf_counts
  leaf_counts_same true [] (k ∷ ks) w = absurd w
  leaf_counts_same true (m ∷ ms) [] w = absurd w

  pub cell_counts_same : (union : Bool) (ms ks : List (ℕ × CType)) → AreSame ss tt ms ks → cells_of_members ss union ms ≡ cells_of_members tt union ks
  cell_counts_same false ms ks w = cell_sums_same ms ks w
  cell_counts_same true ms ks w = refl

  pub extents_same : (union : Bool) (whole : Extent) (ms ks : List (ℕ × CType)) → AreSame ss tt ms ks → with_members ss union whole ms ≡ with_members tt union whole ks
  extents_same union whole [] [] w = refl
  extents_same union whole (m ∷ ms) (k ∷ ks) w =
      ap (λ (o : Option Extent). with_next o) w.0.layouts ∙ by (layout tt k.1) (λ e. extents_same union (with_member union whole e) ms ks w.1)
    where
      with_next : Option Extent → Option Extent
      with_next o = elim o [ None ↦ None | Some e ↦ with_members ss union (with_member union whole e) ms ]

      with_other : Option Extent → Option Extent
      with_other o = elim o [ None ↦ None | Some e ↦ with_members tt union (with_member union whole e) ks ]

      by : (o : Option Extent) → ((e : Extent) → with_members ss union (with_member union whole e) ms ≡ with_members tt union (with_member union whole e) ks) → with_next o ≡ with_other o
      by None ih = refl
      by (Some e) ih = ih e
  extents_same union whole [] (k ∷ ks) w = absurd w
  extents_same union whole (m ∷ ms) [] w = absurd w

module _ (us : List (List Struct)) (u v : ℕ) (ss rs : List Struct) (level : ℕ) (below : HeldAreSame us u v ss rs level) where
  pub members_same : (union : Bool) (x y : Extent) (ms ks : List (ℕ × CType)) → ((n : ℕ) → members_agree (λ k j. agrees_within n us (u, k) (v, j)) ms ks ≡ true)
      → (e f : Extent) → with_members ss union x ms ≡ Some e → with_members rs union y ks ≡ Some f
      → All (λ m. IsFormed ss m.1 × IsAbove ss level (held m.1)) ms → AreSame ss rs ms ks
  members_same union x y [] [] h e f p q all = tt
  members_same union x y [] (k ∷ ks) h e f p q all = absurd (true≢false (sym (h zero)))
  members_same union x y (m ∷ ms) [] h e f p q all = absurd (true≢false (sym (h zero)))
  members_same union x y (m ∷ ms) (k ∷ ks) h e f p q all =
      let a : (g : Extent) × (layout ss m.1 ≡ Some g) × (with_members ss union (with_member union x g) ms ≡ Some e) = member_some ss union x ms (layout ss m.1) e p in
      let b : (g : Extent) × (layout rs k.1 ≡ Some g) × (with_members rs union (with_member union y g) ks ≡ Some f) = member_some rs union y ks (layout rs k.1) f q in
      let formed : IsFormed ss m.1 × IsAbove ss level (held m.1) = head_all (λ m. IsFormed ss m.1 × IsAbove ss level (held m.1)) m ms all in (
        types_same us u v ss rs level below m.1 k.1
            (λ n. and_right (m.0 == k.0) (compatible_by (λ k j. agrees_within n us (u, k) (v, j)) m.1 k.1)
            (and_left (m.0 == k.0 && compatible_by (λ k j. agrees_within n us (u, k) (v, j)) m.1 k.1) (members_agree (λ k j. agrees_within n us (u, k) (v, j)) ms ks) (h n)))
            a.0 b.0 a.1 b.1 formed.1,
        members_same union (with_member union x a.0) (with_member union y b.0) ms ks
            (λ n. and_right (m.0 == k.0 && compatible_by (λ k j. agrees_within n us (u, k) (v, j)) m.1 k.1) (members_agree (λ k j. agrees_within n us (u, k) (v, j)) ms ks) (h n))
            e f a.2 b.2 (tail_all (λ m. IsFormed ss m.1 × IsAbove ss level (held m.1)) m ms all),
      )

-- ---- structs

flag_is : (a b : Bool) → same_flag a b ≡ true → a ≡ b
flag_is true b h = sym h
flag_is false true h = absurd (true≢false (sym h))
flag_is false false h = refl

-- one of them is complete: it has members
pub whole_members : (ss : List Struct) (s : Struct) (ms : Option (List (ℕ × CType))) (e : Extent) → s.extent ≡ Some e → IsWhole ss s ms → (l : List (ℕ × CType)) × (ms ≡ Some l) × IsWhole ss s (Some l)
whole_members ss s None e h w = absurd (none_some e (sym w ∙ h))
whole_members ss s (Some l) e h w = (l, refl, w)

pub contents : (agree : ℕ → ℕ → Bool) (s t : Struct) (ms ks : List (ℕ × CType)) → s.members ≡ Some ms → t.members ≡ Some ks → structs_agree agree s t ≡ true → members_agree agree ms ks ≡ true
contents agree s t ms ks a b h =
    (λ i. contents_agree agree (sym a i) (sym b i))
    ∙ and_right (same_head s t) (contents_agree agree s.members t.members) h

abbrev pub Within : List (List Struct) → ℕ → Type 0
Within us n = (x y : ℕ × ℕ) (ss rs : List Struct) (s t : Struct) (e f : Extent) → slice_get us x.0 ≡ Some ss → slice_get us y.0 ≡ Some rs
    → slice_get ss x.1 ≡ Some s → slice_get rs y.1 ≡ Some t → s.extent ≡ Some e → t.extent ≡ Some f → s.level < n → Agree us x y → SameStruct s t

module _ (us : List (List Struct)) (tables : AreTables us) where
  agreed : (x y : ℕ × ℕ) (ss rs : List Struct) (s t : Struct) → slice_get us x.0 ≡ Some ss → slice_get us y.0 ≡ Some rs → slice_get ss x.1 ≡ Some s → slice_get rs y.1 ≡ Some t
      → Agree us x y → (n : ℕ) → structs_agree (λ k j. agrees_within n us (x.0, k) (y.0, j)) s t ≡ true
  agreed x y ss rs s t a b c d h n =
      (λ i. found_agree (λ k j. agrees_within n us (x.0, k) (y.0, j)) (sym (ap (λ o. struct_of_table o x.1) a ∙ c) i) (sym (ap (λ o. struct_of_table o y.1) b ∙ d) i))
      ∙ h (suc n)

  pub within : (n : ℕ) → Within us n
  within zero x y ss rs s t e f a b c d p q l h = absurd (omega arith)
  within (suc n) x y ss rs s t e f a b c d p q l h =
      let v : (ms : List (ℕ × CType)) × (s.members ≡ Some ms) × IsWhole ss s (Some ms) = whole_members ss s s.members e p (tables x.0 ss a x.1 s c) in
      let w : (ks : List (ℕ × CType)) × (t.members ≡ Some ks) × IsWhole rs t (Some ks) = whole_members rs t t.members f q (tables y.0 rs b y.1 t d) in
      let below : HeldAreSame us x.0 y.0 ss rs s.level =
      (λ k j s' t' e' f' g i p' q' l' h'. within n (x.0, k) (y.0, j) ss rs s' t' e' f' a b g i p' q' (omega (arith, l, l')) h') in
      let agree : (z : ℕ) → members_agree (λ k j. agrees_within z us (x.0, k) (y.0, j)) v.0 w.0 ≡ true =
      (λ z. contents (λ k j. agrees_within z us (x.0, k) (y.0, j)) s t v.0 w.0 v.1 w.1 (agreed x y ss rs s t a b c d h z)) in
      let union : s.union ≡ t.union =
      flag_is s.union t.union (and_right (option_eq (λ n m. n == m) s.tag t.tag) (same_flag s.union t.union)
      (and_left (same_head s t) (contents_agree (λ k j. agrees_within zero us (x.0, k) (y.0, j)) s.members t.members) (agreed x y ss rs s t a b c d h zero))) in
      let same : AreSame ss rs v.0 w.0 =
      members_same us x.0 y.0 ss rs s.level below s.union (extent 0 1) (extent 0 1) v.0 w.0 agree v.2.1.0 w.2.1.0 v.2.1.2
      (subst (λ b. with_members rs b (extent 0 1) w.0 ≡ Some w.2.1.0) (sym union) w.2.1.2) v.2.0 in
      record {
        extents =
            v.2.1.1 ∙ sym v.2.1.2 ∙ extents_same ss rs s.union (extent 0 1) v.0 w.0 same
            ∙ ap (λ b. with_members rs b (extent 0 1) w.0) union ∙ w.2.1.2 ∙ sym w.2.1.1;
        levels = v.2.2 ∙ levels_same ss rs v.0 w.0 same ∙ sym w.2.2;
        leaf_counts = v.2.3 ∙ leaf_counts_same ss rs s.union v.0 w.0 same ∙ ap (λ b. leaves_of_members rs b w.0) union ∙ sym w.2.3;
        cell_counts = v.2.4 ∙ cell_counts_same ss rs s.union v.0 w.0 same ∙ ap (λ b. cells_of_members rs b w.0) union ∙ sym w.2.4;
      }
