-- The characters of a literal are typed start values of an array of characters, and constants
-- (C90 6.1.4, 6.5.7).
use Rattle.std.proofs.Common.{◌≡◌, ℕ, zero, suc, ◌+◌, ◌≤◌, ◌<◌, nat_le, ℤ, pos, ◌≤ℤ◌, ◌&&◌, Bool, true, false, if◌then◌else◌, length, List, [], ◌∷◌, Option, Some, None, is_some, refl, sym, subst, true≢false, arith}
use Rattle.std.specs.Prelude.{slice_get, All, ◌+ℤ◌, neg_ℤ, int_le, unwrap_or}
use Rattle.std.proofs.lemmas.Int.{ints}
use Rattle.std.proofs.lemmas.Bool.{leb-true}
use Rattle.std.proofs.lemmas.List.Elements.{All-get_or}
use Rattle.std.proofs.lemmas.Option.{slice_get_within, get_or_from_slice_get}
use Rattle.sp_tree.specs.declared.fault.Place.{Place}
use Rattle.sp_types.specs.declared.ctype.IntKind.{IntKind}
use Rattle.sp_types.specs.declared.ctype.IntKind.TheVariants.{Char, SChar, UChar, Short, UShort, Int, UInt, Long, ULong}
use Rattle.sp_types.specs.Types.{integer, array}
use Rattle.sp_types.specs.Typed.{Typed, typed}
use Rattle.sp_types.specs.Typed as tree
use Rattle.sp_check_constants.specs.Constants.{least, greatest, within}
use Rattle.sp_check_primaries.specs.Names.{bytes_of}
use Rattle.sp_check_primaries.specs.Literals.{text_bytes, character_value, characters}
use Rattle.sp_ir.specs.Shapes.{Shape, scalar, array_of, has_array, has_integer}
use Rattle.sp_ir.specs.Terrain.{size_of}
use Rattle.sp_ir.specs.Formed.{InKind}
use Rattle.sp_check_typing.specs.Trees.{Scene}
use Rattle.sp_check_typing.specs.Starts.{IsLeafValue, AreLeafValues}
use Rattle.sp_check_typing.specs.Constants.{is_stored}
use Rattle.sp_check_formed_laws.proofs.Lists.{Each, each_none, each_behind, each_appended, none_some, some_is, nil_all, cons_all}
use Rattle.sp_check_written_laws.specs.Laws.{AreByteNames}

-- ---- bytes

-- what holds of all elements holds of the one at a place
pub all_at : {A : Type 0} (P : A → Type 0) (xs : List A) (k : ℕ) (x : A) → All P xs
    → slice_get xs k ≡ Some x → P x
all_at P xs k x h at =
    subst P (get_or_from_slice_get xs k x x at)
    (All-get_or P xs k x (slice_get_within xs k x at) h)

abbrev pub AreLow : List ℕ → Type 0
AreLow bs = Each (λ b. b < 256) bs

named_low : (names : List (List ℕ)) (n : ℕ) → AreByteNames names → AreLow (bytes_of names n)
named_low names n h = by (slice_get names n) refl
  where
    by : (o : Option (List ℕ)) → slice_get names n ≡ o → AreLow (unwrap_or o [])
    by None e = each_none (λ b. b < 256)
    by (Some bs) e = λ j b at.
        all_at (λ b. b < 256) bs j b (all_at (λ bs. All (λ b. b < 256) bs) names n bs h e) at

pub text_low : (names : List (List ℕ)) (ns : List ℕ) → AreByteNames names
    → AreLow (text_bytes names ns)
text_low names [] h = each_none (λ b. b < 256)
text_low names (n ∷ ns) h =
    each_appended (λ b. b < 256) (bytes_of names n) (text_bytes names ns) (named_low names n h)
    (text_low names ns h)

-- ---- the value of a character

pub signed_character : (b : ℕ) → b < 256 → (c : Bool) → nat_le b 127 ≡ c
    → InKind Char (if c then pos b else pos b +ℤ neg_ℤ (pos 256))
signed_character b low true e =
    let up : b ≤ 127 = leb-true b 127 e in (omega (arith, ints), omega (arith, ints, up))
signed_character b low false e =
    let up : 127 < b = above e in (omega (arith, ints, up), omega (arith, ints, low))
  where
    above : nat_le b 127 ≡ false → 127 < b
    above e = grind arith

-- each byte has a value of this kind
abbrev pub HoldsBytes : IntKind → Type 0
HoldsBytes k = (b : ℕ) → b < 256 → InKind k (character_value k b)

pub bytes_held : HoldsBytes Char
bytes_held b low = signed_character b low (nat_le b 127) refl

-- ---- a number of a kind is a constant

le_true : (a b : ℤ) → a ≤ℤ b → int_le a b ≡ true
le_true a b h = grind (arith, ints)

ranged : (a b : Bool) (z : ℤ) → a ≡ true → b ≡ true
    → is_some (if a && b then Some z else None) ≡ true
ranged true true z h g = refl
ranged true false z h g = g
ranged false b z h g = absurd (true≢false (sym h))

pub within_some : (k : IntKind) (z : ℤ) → InKind k z → is_some (within k z) ≡ true
within_some UChar z h = refl
within_some UShort z h = refl
within_some UInt z h = refl
within_some ULong z h = refl
within_some Char z h = ranged _ _ z (le_true (least Char) z h.0) (le_true z (greatest Char) h.1)
within_some SChar z h = ranged _ _ z (le_true (least SChar) z h.0) (le_true z (greatest SChar) h.1)
within_some Short z h = ranged _ _ z (le_true (least Short) z h.0) (le_true z (greatest Short) h.1)
within_some Int z h = ranged _ _ z (le_true (least Int) z h.0) (le_true z (greatest Int) h.1)
within_some Long z h = ranged _ _ z (le_true (least Long) z h.0) (le_true z (greatest Long) h.1)

-- ---- the values of an array

pub characters_stored : (k : IntKind) (p : Place) (i : ℕ) (bs : List ℕ) → HoldsBytes k
    → AreLow bs → All (λ e. is_stored e.1 ≡ true) (characters k p i bs)
characters_stored k p i [] held low = nil_all (λ (e : ℕ × Typed). is_stored e.1 ≡ true)
characters_stored k p i (b ∷ bs) held low =
    cons_all (λ (e : ℕ × Typed). is_stored e.1 ≡ true)
    (i, typed (tree.constant (character_value k b)) (integer k) p p)
    (characters k p (i + 1) bs)
    (within_some k (character_value k b) (held b (low 0 b refl)))
    (characters_stored k p (i + 1) bs held (each_behind (λ b. b < 256) b bs low))

module _ (s : Scene) (k : IntKind) (n : ℕ) (p : Place) (held : HoldsBytes k) where
  abbrev whole : Shape
  whole = array_of (array (integer k) (Some n)) (size_of s.structs (array (integer k) (Some n)))
      (scalar (integer k) (size_of s.structs (integer k))) n

  all_held : (i : ℕ) (bs : List ℕ) → i + length bs ≤ n → AreLow bs
      → All (IsLeafValue s whole) (characters k p i bs)
  all_held i [] fits low = nil_all (IsLeafValue s whole)
  all_held i (b ∷ bs) fits low =
      cons_all (IsLeafValue s whole)
      (i, typed (tree.constant (character_value k b)) (integer k) p p)
      (characters k p (i + 1) bs) (record {
        low = omega (arith, fits);
        typed = (refl, tt, held b (low 0 b refl));
        leaf = integer k;
        there = refl;
        scalar = refl;
        same = refl;
      }) (all_held (i + 1) bs (omega (arith, fits)) (each_behind (λ b. b < 256) b bs low))

  numbered : (i : ℕ) (bs : List ℕ) (j : ℕ) (e : ℕ × Typed)
      → slice_get (characters k p i bs) j ≡ Some e → e.0 ≡ i + j
  numbered i [] j e at = absurd (none_some e at)
  numbered i (b ∷ bs) zero e at =
      subst (λ x. x.0 ≡ i + 0)
      (some_is (i, typed (tree.constant (character_value k b)) (integer k) p p) e at)
      (omega arith)
  numbered i (b ∷ bs) (suc j) e at =
      let is : e.0 ≡ (i + 1) + j = numbered (i + 1) bs j e at in omega (arith, is)

  -- they fit in the array
  pub characters_typed : (bs : List ℕ) → length bs ≤ n → AreLow bs
      → AreLeafValues s (array (integer k) (Some n)) (characters k p 0 bs)
  characters_typed bs fits low = record {
    shape = whole;
    shaped = has_array has_integer;
    values = all_held 0 bs (omega (arith, fits)) low;
    apart = λ i j d e at there same.
        let x : d.0 ≡ 0 + i = numbered 0 bs i d at in
        let y : e.0 ≡ 0 + j = numbered 0 bs j e there in omega (arith, x, y, same);
  }
