-- A struct that holds a member has a size and an alignment (C90 6.5.2.1).
use Rattle.std.proofs.Common.{◌≡◌, ℕ, ◌≤◌, ◌||◌, Bool, true, false, List, [], ◌∷◌, ◌++◌, Option, Some, None, refl, sym, subst, true≢false, arith}
use Rattle.std.proofs.lemmas.Int.{clamps}
use Rattle.std.specs.Prelude.{All}
use Rattle.sp_types.specs.Types.{CType, Struct}
use Rattle.sp_types.specs.Layout.{extent, layout}
use Rattle.sp_types.specs.Structs.{IsFormed, IsAbove, IsWhole, held, aligned, with_member, with_members}
use Rattle.sp_types.specs.declared.extents.Extent.{Extent}
use Rattle.sp_check_formed_laws.proofs.Lists.{some_is, none_some, Each, each_behind, head_all, tail_all}
use Rattle.sp_check_expr_laws.specs.Sound.{IsSound, HasExtent, AreSoundIn, AreSoundMembers, IsSoundStruct}
use Rattle.sp_check_expr_laws.proofs.Types.{IsSoundTable, IsLaid, type_laid}

abbrev pub is_filled : List (ℕ × CType) → Bool
is_filled [] = false
is_filled (m ∷ ms) = true

pub filled_pushed : (ms : List (ℕ × CType)) (m : ℕ × CType) → is_filled (ms ++ m ∷ []) ≡ true
filled_pushed [] m = refl
filled_pushed (n ∷ ms) m = refl

-- members read in two parts
pub fills_on : (a b c x y : Bool) → ((a || b) ≡ true → x ≡ true) → ((x || c) ≡ true → y ≡ true)
    → (a || (b || c)) ≡ true → y ≡ true
fills_on a b c true y h g e = g refl
fills_on true b c false y h g e = absurd (true≢false (sym (h refl)))
fills_on false true c false y h g e = absurd (true≢false (sym (h refl)))
fills_on false false c false y h g e = g e

pub or_false : (a : Bool) → (a || false) ≡ true → a ≡ true
or_false true h = refl
or_false false h = h

aligned_above : (n a : ℕ) → 1 ≤ a → n ≤ aligned n a
aligned_above n a h = omega arith

member_above : (union : Bool) (whole e : Extent) → 1 ≤ whole.align → 1 ≤ e.align
    → (1 ≤ (with_member union whole e).align) × (whole.size ≤ (with_member union whole e).size) ×
    (e.size ≤ (with_member union whole e).size)
member_above true whole e h g =
    (omega (arith, clamps, h), omega (arith, clamps), omega (arith, clamps))
member_above false whole e h g = let up : whole.size ≤ aligned whole.size e.align =
    aligned_above whole.size e.align g in (omega (arith, clamps, h), omega (arith, up), omega arith)

module _ (ss : List Struct) (table : IsSoundTable ss) (union : Bool) (level : ℕ) where
  abbrev IsHeld : ℕ × CType → Type 0
  IsHeld m = IsFormed ss m.1 × IsAbove ss level (held m.1)

  member_some : (whole : Extent) (ms : List (ℕ × CType)) (o : Option Extent) (e : Extent)
      → elim o [ None ↦ None | Some g ↦ with_members ss union (with_member union whole g) ms ] ≡
      Some e
      → (g : Extent) × (o ≡ Some g) ×
      (with_members ss union (with_member union whole g) ms ≡ Some e)
  member_some whole ms None e p = absurd (none_some e p)
  member_some whole ms (Some g) e p = (g, refl, p)

  members_above : (ms : List (ℕ × CType)) (whole e : Extent) → All IsHeld ms → 1 ≤ whole.align
      → with_members ss union whole ms ≡ Some e → (whole.size ≤ e.size) × (1 ≤ e.align)
  members_above [] whole e f h p =
      subst (λ x. (whole.size ≤ x.size) × (1 ≤ x.align))
      (some_is (extent (aligned whole.size whole.align) whole.align) e p)
      (aligned_above whole.size whole.align h, h)
  members_above (m ∷ ms) whole e f h p =
      let x : (g : Extent) × (layout ss m.1 ≡ Some g) ×
      (with_members ss union (with_member union whole g) ms ≡ Some e) =
      member_some whole ms (layout ss m.1) e p in
      let l : IsLaid x.0 = type_laid ss table m.1 x.0 (head_all IsHeld m ms f).0 x.1 in
      let up : (1 ≤ (with_member union whole x.0).align) ×
      (whole.size ≤ (with_member union whole x.0).size) ×
      (x.0.size ≤ (with_member union whole x.0).size) =
      member_above union whole x.0 h l.1 in
      let rest : ((with_member union whole x.0).size ≤ e.size) × (1 ≤ e.align) =
      members_above ms (with_member union whole x.0) e (tail_all IsHeld m ms f) up.0 x.2 in
      (omega (arith, up.1, rest.0), rest.1)

  members_sized : (ms : List (ℕ × CType)) (e : Extent) → is_filled ms ≡ true → All IsHeld ms
      → with_members ss union (extent 0 1) ms ≡ Some e → (1 ≤ e.size) × (1 ≤ e.align)
  members_sized [] e filled f p = absurd (true≢false (sym filled))
  members_sized (m ∷ ms) e filled f p =
      let x : (g : Extent) × (layout ss m.1 ≡ Some g) ×
      (with_members ss union (with_member union (extent 0 1) g) ms ≡ Some e) =
      member_some (extent 0 1) ms (layout ss m.1) e p in
      let l : IsLaid x.0 = type_laid ss table m.1 x.0 (head_all IsHeld m ms f).0 x.1 in
      let up : (1 ≤ (with_member union (extent 0 1) x.0).align) ×
      (0 ≤ (with_member union (extent 0 1) x.0).size) ×
      (x.0.size ≤ (with_member union (extent 0 1) x.0).size) =
      member_above union (extent 0 1) x.0 (omega arith) l.1 in
      let rest : ((with_member union (extent 0 1) x.0).size ≤ e.size) × (1 ≤ e.align) =
      members_above ms (with_member union (extent 0 1) x.0) e
      (tail_all IsHeld m ms f) up.0 x.2 in
      (omega (arith, l.0, up.2, rest.0), rest.1)

-- ---- the struct

sound_in : (ms : List (ℕ × CType)) → Each (λ m. IsSound m.1) ms → AreSoundIn ms
sound_in [] h = tt
sound_in (m ∷ ms) h = (h 0 m refl, sound_in ms (each_behind (λ m. IsSound m.1) m ms h))

pub struct_sound : (ss : List Struct) (s : Struct) (ms : List (ℕ × CType)) → IsSoundTable ss
    → s.members ≡ Some ms → IsWhole ss s (Some ms) → Each (λ m. IsSound m.1) ms
    → is_filled ms ≡ true → IsSoundStruct s
struct_sound ss s ms table is w sound filled = (
  subst HasExtent (sym w.1.1) (members_sized ss table s.union s.level ms w.1.0 filled w.0 w.1.2),
  subst AreSoundMembers (sym is) (sound_in ms sound),
)
