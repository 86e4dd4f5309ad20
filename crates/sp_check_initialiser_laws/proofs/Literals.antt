-- An array that a literal initialises has typed start values (C90 6.5.7).
use Rattle.std.proofs.Common.{◌≡◌, ℕ, suc, ◌+◌, ◌-◌, ◌^◌, ◌≤◌, ◌<◌, nat_le, nat_lt, Bool, true, false, ◌||◌, if◌then◌else◌, length, List, [], ◌∷◌, ◌++◌, Option, Some, None, refl, ap, sym, subst, ◌∙◌, arith}
use Rattle.std.specs.Prelude.{slice_get}
use Rattle.std.proofs.lemmas.Bool.{leb-true}
use Rattle.sp_tree.specs.declared.fault.Place.{Place}
use Rattle.sp_tree.specs.declared.fault.FaultKind.TheVariants.{BadInitialiser}
use Rattle.sp_parse_trees.specs.Syntax.{Expression, one}
use Rattle.sp_parse_trees.specs.Places.{place_of}
use Rattle.sp_types.specs.declared.ctype.IntKind.{IntKind}
use Rattle.sp_types.specs.Types.{CType, void, integer, floating, pointer, array, structure, function}
use Rattle.sp_types.specs.Typed.{Typed, typed}
use Rattle.sp_types.specs.Typed as tree
use Rattle.sp_types.specs.Layout.{integer_extent}
use Rattle.sp_check_binary_rules.specs.Lengths.{array_fits}
use Rattle.sp_base_checked.specs.Answers.{Checked, accepted, refused, and_then, where_met}
use Rattle.sp_check_operands.specs.Conversions.{is_complete}
use Rattle.sp_check_primaries.specs.Literals.{text_bytes, character_value, characters}
use Rattle.sp_check_env.specs.Env.{Env}
use Rattle.sp_expr_check.specs.Specifiers.{stays}
use Rattle.sp_check_initialisers.specs.declared.targets.Target.{Target}
use Rattle.sp_check_initialisers.specs.Strings.{is_character_kind, literal_in, pieces_of, has_room, fits, ended, string_added}
use Rattle.sp_check_initialisers.specs.Initialisers.{leaf_number, last_leaf, how_many, measured, with_length, is_unmeasured, array_given, Started, started}
use Rattle.sp_check_typing.specs.Starts.{AreLeafValues}
use Rattle.sp_check_formed_laws.proofs.Lists.{each_pushed, pushed_length}
use Rattle.sp_check_formed_laws.proofs.After.{Gives, gives, gives_none, gives_then, gives_met}
use Rattle.sp_check_written_laws.specs.Laws.{AreByteNames}
use Rattle.sp_check_expr_laws.specs.Sound.{scene_of}
use Rattle.sp_check_expr_laws.proofs.Characters.{AreLow, text_low, characters_typed}
use Rattle.sp_check_initialiser_laws.proofs.Characters.{character_held}

-- ---- the bytes with their zero

pub ended_low : (room : Option ℕ) (bs : List ℕ) → AreLow bs → AreLow (ended room bs)
ended_low room bs h = by (has_room room (length bs))
  where
    by : (b : Bool) → AreLow (if b then bs ++ 0 ∷ [] else bs)
    by true = each_pushed (λ b. b < 256) bs 0 h (omega arith)
    by false = h

pub ended_fits : (n : ℕ) (bs : List ℕ) → nat_le (length bs) n ≡ true
    → length (ended (Some n) bs) ≤ n
ended_fits n bs h = by (nat_lt (length bs) n) refl
  where
    below : nat_lt (length bs) n ≡ true → length bs < n
    below e = leb-true (suc (length bs)) n e

    by : (b : Bool) → nat_lt (length bs) n ≡ b
        → length (if b then bs ++ 0 ∷ [] else bs) ≤ n
    by true e =
        let less : length bs < n = below e in omega (arith, less, pushed_length bs 0)
    by false e = leb-true (length bs) n h

-- the last of some characters
last_behind : (e c : ℕ × Typed) (es : List (ℕ × Typed))
    → last_leaf (e ∷ c ∷ es) ≡ last_leaf (c ∷ es)
last_behind e c es =
    let two : suc (suc (length es)) - 1 ≡ suc (length es) = omega arith in
    let one : suc (length es) - 1 ≡ length es = omega arith in
    ap (λ m. leaf_number (slice_get (e ∷ c ∷ es) m)) two
    ∙ sym (ap (λ m. leaf_number (slice_get (c ∷ es) m)) one)

abbrev given : IntKind → Place → ℕ → ℕ → ℕ × Typed
given k p i b = (i, typed (tree.constant (character_value k b)) (integer k) p p)

last_of : (k : IntKind) (p : Place) (i : ℕ) (bs : List ℕ) (b : ℕ)
    → last_leaf (characters k p i (bs ++ b ∷ [])) ≡ i + length bs
last_of k p i [] b = omega arith
last_of k p i (x ∷ []) b = omega arith
last_of k p i (x ∷ y ∷ ys) b =
    let rest : last_leaf (characters k p (i + 1) (y ∷ ys ++ b ∷ [])) ≡ (i + 1) + length (y ∷ ys) =
    last_of k p (i + 1) (y ∷ ys) b in
    last_behind (given k p i x) (given k p (i + 1) y) (characters k p (i + 1 + 1) (ys ++ b ∷ []))
    ∙ rest ∙ omega arith

-- ---- the array

module _ (names : List (List ℕ)) (bytes : AreByteNames names) (own : ℕ → Bool) (env : Env)
    (w : Target) where
  abbrev AreLeavesIn : Started × Env → Type 0
  AreLeavesIn x = AreLeafValues (scene_of own x.1) x.0.of x.0.values

  abbrev measured_then : CType → List (ℕ × Typed) × Env → Checked (Started × Env)
  measured_then t x = and_then (measured x.1.tables.structs w.declarator x.0 t) (λ u.
      accepted (record { of = u; values = x.0 }, with_length x.1 (is_unmeasured t) u))

  told_typed : (k : IntKind) (n : Option ℕ) (p : Place) (bs : List ℕ)
      → is_character_kind k ≡ true → AreLow bs → fits n (length bs) ≡ true
      → Gives AreLeavesIn (measured_then (array (integer k) n) (characters k p 0 (ended n bs), env))
  told_typed k (Some n) p bs kind low room =
      gives {x = (
        record {
          of = array (integer k) (Some n);
          values =
              characters k p 0 (ended (Some n) bs);
        },
        env,
      )}
      (characters_typed (scene_of own env) k n p (character_held k kind) (ended (Some n) bs)
      (ended_fits n bs room)
      (ended_low (Some n) bs low))
  told_typed k None p bs kind low room =
      let n : ℕ = how_many (last_leaf (characters k p 0 (bs ++ 0 ∷ []))) 1 in
      gives_then {Q = λ u. u ≡ array (integer k) (Some n)}
      (gives_met {b = nat_le n (2 ^ 31 - 1)} _ _ (λ few.
      gives_met {b = array_fits (integer_extent k).size (Some n)} _ _ (λ small.
      gives {x = array (integer k) (Some n)} refl))) (λ u is.
      gives {x = (
        record { of = u; values = characters k p 0 (bs ++ 0 ∷ []) },
        with_length env true u,
      )}
      (subst (λ u. AreLeafValues (scene_of own (with_length env true u)) u
      (characters k p 0 (bs ++ 0 ∷ []))) (sym is)
      (characters_typed (scene_of own env) k n p (character_held k kind) (bs ++ 0 ∷ [])
      (let last : last_leaf (characters k p 0 (bs ++ 0 ∷ [])) ≡ 0 + length bs =
      last_of k p 0 bs 0 in
      omega (arith, last, pushed_length bs 0)) (ended_low None bs low))))

  pub added_typed : (k : IntKind) (n : Option ℕ) (e : Expression) → is_character_kind k ≡ true
      → Gives (λ x. AreLeavesIn x)
      (and_then (stays env (string_added names [] (array (integer k) n) 0 w.name e))
      (λ x. measured_then (array (integer k) n) x))
  added_typed k n e kind = by (fits n (length (text_bytes names (pieces_of e)))) refl
    where
      low : AreLow (text_bytes names (pieces_of e))
      low = text_low names (pieces_of e) bytes

      by : (b : Bool) → fits n (length (text_bytes names (pieces_of e))) ≡ b
          → Gives AreLeavesIn
          (and_then (stays env (where_met b BadInitialiser w.name (accepted
          (characters k (place_of e) 0 (ended n (text_bytes names (pieces_of e)))))))
          (λ x. measured_then (array (integer k) n) x))
      by true room = told_typed k n (place_of e) (text_bytes names (pieces_of e)) kind low room
      by false room = gives_none

  array_typed : (k : IntKind) (n : Option ℕ) (a : Expression) → (b : Bool)
      → is_character_kind k ≡ b
      → Gives AreLeavesIn
      (and_then (elim (if b then literal_in a else None) as (λ x. Checked (List (ℕ × Typed) × Env)) [
        | Some s ↦ stays env (string_added names [] (array (integer k) n) 0 w.name s)
        | None ↦ refused BadInitialiser w.name
      ]) (λ x. measured_then (array (integer k) n) x))
  array_typed k n a false kind = gives_none
  array_typed k n a true kind = by (literal_in a)
    where
      by : (o : Option Expression) → Gives AreLeavesIn
          (and_then (elim o as (λ x. Checked (List (ℕ × Typed) × Env)) [
            | Some s ↦ stays env (string_added names [] (array (integer k) n) 0 w.name s)
            | None ↦ refused BadInitialiser w.name
          ]) (λ x. measured_then (array (integer k) n) x))
      by None = gives_none
      by (Some s) = added_typed k n s kind

  pub literal_started : (t : CType) (n : Option ℕ) (a : Expression)
      → Gives AreLeavesIn (started names env w (array t n) (one a))
  literal_started t n a =
      gives_met {b = is_unmeasured (array t n) || is_complete env.tables.structs (array t n)} _ _
      (λ whole. by t)
    where
      by : (t : CType) → Gives AreLeavesIn
          (and_then (array_given names env w (array t n) a) (λ x. measured_then (array t n) x))
      by (integer k) = array_typed k n a (is_character_kind k) refl
      by void = gives_none
      by (floating k) = gives_none
      by (pointer u) = gives_none
      by (array u m) = gives_none
      by (structure k) = gives_none
      by (function s) = gives_none
