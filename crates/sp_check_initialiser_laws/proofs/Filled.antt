-- The values of a list go to leaves that are there, in order, and are typed (C90 6.5.7).
use Rattle.std.proofs.Common.{◌≡◌, ◌⊎◌, inl, inr, ℕ, suc, ◌+◌, ◌*◌, ◌≤◌, ◌<◌, Bool, true, false, not, ◌||◌, if◌then◌else◌, length, List, [], ◌∷◌, ◌++◌, Option, Some, None, refl, ap, sym, subst, ◌∙◌, true≢false, arith}
use Rattle.sp_tree.specs.declared.fault.Place.{Place}
use Rattle.sp_parse_trees.specs.Syntax.{Expression, Init, one, list, Inits, no_inits, next_init}
use Rattle.sp_parse_trees.specs.Places.{place_of}
use Rattle.sp_types.specs.declared.ctype.IntKind.{IntKind}
use Rattle.sp_types.specs.Types.{CType, void, integer, floating, pointer, array, structure, function, Struct}
use Rattle.sp_types.specs.Typed.{Typed, of}
use Rattle.sp_types.specs.Compatible.{convertible}
use Rattle.sp_types.specs.Programs.{Object}
use Rattle.sp_base_checked.specs.Answers.{Checked}
use Rattle.sp_check_operands.specs.Conversions.{converted, is_floating}
use Rattle.sp_check_env.specs.Env.{Env}
use Rattle.sp_check_primaries.specs.Literals.{text_bytes, characters}
use Rattle.sp_expr_check.specs.Specifiers.{stays}
use Rattle.sp_check_initialisers.specs.declared.targets.Target.{Target}
use Rattle.sp_check_initialisers.specs.Runs.{Part, parts, is_structure, taken}
use Rattle.sp_check_initialisers.specs.StaticValues.{is_static}
use Rattle.sp_check_initialisers.specs.Strings.{is_character_kind, is_character_array, literal_of, only_value, pieces_of, fits, ended, string_for, string_added}
use Rattle.sp_check_initialisers.specs.Initialisers.{leaf_added, leaf_given, one_given, only_given, is_aggregate, Progress, filled, given}
use Rattle.sp_ir.specs.Shapes.{Shape, HasShape, has_integer, has_pointer, leaf_count}
use Rattle.sp_ir.specs.Formed.{is_scalar}
use Rattle.sp_ir.specs.Terrain.{size_of}
use Rattle.sp_check_typing.specs.Sorts.{same_value, IsStored}
use Rattle.sp_check_typing.specs.Trees.{Scene}
use Rattle.sp_check_formed_laws.proofs.Lists.{none_some}
use Rattle.sp_check_formed_laws.proofs.After.{Gives, gives, gives_then, gives_met}
use Rattle.sp_check_written_laws.specs.Written.{IsWritten, IsWrittenInit, AreWrittenInits}
use Rattle.sp_check_written_laws.specs.Laws.{AreByteNames}
use Rattle.sp_check_expr_laws.specs.Sound.{scene_of}
use Rattle.sp_check_expr_laws.proofs.Trees.{IsValued, IsOf, tree_converted}
use Rattle.sp_check_expr_laws.proofs.Envs.{IsFit, Reaches, reaches_nowhere, grows_of, fit_table}
use Rattle.sp_check_expr_laws.proofs.After.{After, done, next, given as given_part, either, staying, taken as taken_then}
use Rattle.sp_check_expr_laws.proofs.Expressions.{checked_value}
use Rattle.sp_check_initialiser_laws.proofs.Initialisers.{only_written}
use Rattle.sp_check_initialiser_laws.proofs.Values.{kept_type}
use Rattle.sp_check_expr_laws.proofs.Characters.{text_low}
use Rattle.sp_check_initialiser_laws.proofs.Literals.{ended_low, ended_fits}
use Rattle.sp_check_initialiser_laws.proofs.Spans.{Precedes, Places, AreAlike, CoversShape, CoversElements}
use Rattle.sp_check_initialiser_laws.proofs.Complete.{IsWholeType, whole_stays, HasElements, elements_of}
use Rattle.sp_check_initialiser_laws.proofs.Runs.{AreRuns, IsPart, runs_within, runs_stay}
use Rattle.sp_check_initialiser_laws.proofs.Inwards.{parts_run, IsFor, taken_part}
use Rattle.sp_check_initialiser_laws.proofs.Ordered.{AreValues, values_later, values_pushed, values_stay, characters_added}

-- ---- one value

-- what a value converts to, other than a struct
scalar_taken : (u t : CType) → convertible u t ≡ true → is_structure t ≡ false
    → is_scalar t ≡ true
scalar_taken (integer j) (integer k) h p = refl
scalar_taken (integer j) (pointer u) h p = refl
scalar_taken (pointer t) (integer k) h p = refl
scalar_taken (pointer t) (pointer u) h p = refl
scalar_taken (structure j) (structure k) h p = absurd (true≢false p)
scalar_taken u t h p = absurd (true≢false (sym h))

-- the one leaf of a scalar
scalar_there : (P : Places) (ss : List Struct) (t : CType) (s : Shape) (k : ℕ)
    → HasShape ss (size_of ss) t s → is_scalar t ≡ true → CoversShape P s k
    → P k t × (leaf_count s ≡ 1)
scalar_there P ss (integer j) s k has_integer h c =
    let same : k + 0 ≡ k = omega arith in
    (subst (λ n. P n (integer j)) same (c 0 (integer j) (omega arith) refl), refl)
scalar_there P ss (pointer t) s k has_pointer h c =
    let same : k + 0 ≡ k = omega arith in
    (subst (λ n. P n (pointer t)) same (c 0 (pointer t) (omega arith) refl), refl)
scalar_there P ss void s k x h c = absurd (true≢false (sym h))
scalar_there P ss (floating j) s k x h c = absurd (true≢false (sym h))
scalar_there P ss (array t n) s k x h c = absurd (true≢false (sym h))
scalar_there P ss (structure j) s k x h c = absurd (true≢false (sym h))
scalar_there P ss (function r) s k x h c = absurd (true≢false (sym h))

-- where a part of this type takes values, behind those that are given
pub record IsAt (P : Places) (s : Scene) (vs : List (ℕ × Typed)) (t : CType)
    (k end : ℕ) : Type 0 where
  pub shape : Shape
  pub whole : IsWholeType s.structs t shape
  pub covers : CoversShape P shape k
  pub ends : end ≡ k + leaf_count shape
  pub from : ℕ
  pub after : Precedes from k
  pub values : AreValues P s from vs

module _ (P : Places) (s : Scene) (os : List Object) (w : Target) where
  converted_added : (vs : List (ℕ × Typed)) (t : CType) (k end : ℕ) (e : Typed)
      → IsAt P s vs t k end
      → is_structure t ≡ false → convertible (of e) t ≡ true → IsValued s e
      → AreValues P s end (vs ++ (k, converted t e) ∷ [])
  converted_added vs t k end e h plain fits v =
      let scalar : is_scalar t ≡ true = scalar_taken (of e) t fits plain in
      let x : P k t × (leaf_count h.shape ≡ 1) =
      scalar_there P s.structs t h.shape k h.whole.shaped scalar h.covers in
      let y : IsOf s t (converted t e) =
      tree_converted s t e v.tree h.whole.formed h.whole.sound fits in
      let z : IsStored s.structs t × (same_value t t ≡ true) =
      kept_type s.structs (of e) t fits v.value.known in
      let one : suc k ≡ end = omega (arith, x.1, h.ends) in
      subst (λ n. AreValues P s n (vs ++ (k, converted t e) ∷ [])) one
      (values_pushed P s h.from vs (k, converted t e) h.after (record {
        typed = y.tree.typed;
        leaf = t;
        there = x.0;
        scalar = scalar;
        same = ap (λ u. same_value u t) y.is ∙ z.1;
      }) h.values)

  leaf_values : (at : Place) (vs : List (ℕ × Typed)) (t : CType) (k end : ℕ) (e : Typed)
      → IsAt P s vs t k end → is_structure t ≡ false → IsValued s e
      → Gives (AreValues P s end) (leaf_added os w at vs t k e)
  leaf_values at vs t k end e h plain v =
      gives_then {Q = λ x. AreValues P s end (vs ++ (k, x) ∷ [])}
      (gives_met {b = not (is_floating t)} _ _ (λ kind.
      gives_met {b = convertible (of e) t} _ _ (λ fits.
      gives_met {b = not w.fixed || is_static os e} _ _ (λ known.
      gives {x = converted t e} (converted_added vs t k end e h plain fits v)))))
      (λ x q. gives {x = vs ++ (k, x) ∷ []} q)

-- ---- a literal

-- the elements of an array of integers
integers_there : (P : Places) (ss : List Struct) (c : IntKind) (inner : Shape) (n k : ℕ)
    → HasShape ss (size_of ss) (integer c) inner → CoversElements P inner n k → (j : ℕ) → j < n
    → P (k + j) (integer c)
integers_there P ss c inner n k has_integer h j low = h j (integer c) (omega (arith, low)) refl

module _ (P : Places) (s : Scene) (names : List (List ℕ)) (bytes : AreByteNames names) where
  counted_string : (vs : List (ℕ × Typed)) (c : IntKind) (n from k : ℕ) (name : Place)
      (e : Expression)
      → is_character_kind c ≡ true → ((j : ℕ) → j < n → P (k + j) (integer c))
      → Precedes from k → AreValues P s from vs
      → Gives (AreValues P s (k + n)) (string_added names vs (array (integer c) (Some n)) k name e)
  counted_string vs c n from k name e kind there after h =
      gives_met {b = fits (Some n) (length bs)} _ _ (λ room.
      gives {x = vs ++ characters c (place_of e) k (ended (Some n) bs)}
      (let few : length (ended (Some n) bs) ≤ n = ended_fits n bs room in
      values_later P s (k + length (ended (Some n) bs)) (k + n)
      (vs ++ characters c (place_of e) k (ended (Some n) bs)) (λ low. omega (arith, few))
      (characters_added P s c (place_of e) kind from k vs (ended (Some n) bs) after
      (λ j low. there j (omega (arith, low, few)))
      (ended_low (Some n) bs (text_low names (pieces_of e) bytes)) h)))
    where
      bs : List ℕ
      bs = text_bytes names (pieces_of e)

  string_values : (vs : List (ℕ × Typed)) (t : CType) (k end : ℕ) (name : Place)
      (e : Expression) → IsAt P s vs t k end → is_character_array t ≡ true
      → Gives (AreValues P s end) (string_added names vs t k name e)
  string_values vs (array (integer c) n) k end name e h kind =
      let x : HasElements s.structs (integer c) n h.shape =
      elements_of s.structs (integer c) n h.shape h.whole in
      let covers : CoversElements P x.inner x.count k =
      subst (λ s. CoversShape P s k) x.is h.covers in
      subst (λ m. Gives (AreValues P s end) (string_added names vs (array (integer c) m) k name e))
      (sym x.told)
      (subst (λ m. Gives (AreValues P s m)
      (string_added names vs (array (integer c) (Some x.count)) k name e))
      (same_end x.inner x.count x.whole.shaped (h.ends ∙ ap (λ s. k + leaf_count s) x.is))
      (counted_string vs c x.count h.from k name e kind
      (integers_there P s.structs c x.inner x.count k x.whole.shaped covers) h.after h.values))
    where
      same_end : (inner : Shape) (n : ℕ) → HasShape s.structs (size_of s.structs) (integer c) inner
          → end ≡ k + n * leaf_count inner → k + n ≡ end
      same_end inner n has_integer is = omega (arith, is)
  string_values vs (array void n) k end name e h kind = absurd (true≢false (sym kind))
  string_values vs (array (floating c) n) k end name e h kind = absurd (true≢false (sym kind))
  string_values vs (array (pointer t) n) k end name e h kind = absurd (true≢false (sym kind))
  string_values vs (array (array t m) n) k end name e h kind = absurd (true≢false (sym kind))
  string_values vs (array (structure j) n) k end name e h kind = absurd (true≢false (sym kind))
  string_values vs (array (function r) n) k end name e h kind = absurd (true≢false (sym kind))
  string_values vs void k end name e h kind = absurd (true≢false (sym kind))
  string_values vs (integer c) k end name e h kind = absurd (true≢false (sym kind))
  string_values vs (floating c) k end name e h kind = absurd (true≢false (sym kind))
  string_values vs (pointer t) k end name e h kind = absurd (true≢false (sym kind))
  string_values vs (structure j) k end name e h kind = absurd (true≢false (sym kind))
  string_values vs (function r) k end name e h kind = absurd (true≢false (sym kind))

-- a literal initialises an array of characters alone
pub string_taken : (t : CType) (i : Init) (e : Expression) → string_for t i ≡ Some e
    → is_character_array t ≡ true
string_taken t i e h = by (is_character_array t) h
  where
    by : (b : Bool) → (if b then literal_of i else None) ≡ Some e → b ≡ true
    by true h = refl
    by false h = absurd (none_some e h)

-- ---- lists

module _ (names : List (List ℕ)) (bytes : AreByteNames names) (own : ℕ → Bool) (P : Places)
    (alike : AreAlike P) where
  -- in the environment behind
  abbrev AreValuesIn : ℕ → List (ℕ × Typed) → Env → Type 0
  AreValuesIn end vs env = AreValues P (scene_of own env) end vs

  abbrev IsAtIn : Env → List (ℕ × Typed) → CType → ℕ → ℕ → Type 0
  IsAtIn env vs t k end = IsAt P (scene_of own env) vs t k end

  at_kept : (env later : Env) (vs : List (ℕ × Typed)) (t : CType) (k end : ℕ) → IsFit own env
      → Reaches own env later → IsAtIn env vs t k end → IsAtIn later vs t k end
  at_kept env later vs t k end f g h = record {
    shape = h.shape;
    whole = whole_stays env.tables.structs later.tables.structs f.formed.table
        (grows_of own env later f g).stays t h.shape h.whole;
    covers = h.covers;
    ends = h.ends;
    from = h.from;
    after = h.after;
    values = values_stay P (scene_of own env) (scene_of own later) h.from vs
        (grows_of own env later f g) h.values;
  }

  leaf_given_values : (env : Env) (w : Target) (vs : List (ℕ × Typed)) (t : CType) (k end : ℕ)
      (e : Expression)
      → IsFit own env → IsWritten e → is_structure t ≡ false → IsAtIn env vs t k end
      → After own env (AreValuesIn end) (leaf_given names env w vs t k e)
  leaf_given_values env w vs t k end e f r plain h =
      next (checked_value names bytes own env e f r) (λ x g q. staying g.fit
      (leaf_values P (scene_of own x.1) x.1.tables.objects w (place_of e) vs t k end x.0
      (at_kept env x.1 vs t k end f g h) plain q))

  one_given_values : (env : Env) (w : Target) (vs : List (ℕ × Typed)) (t : CType) (k end : ℕ)
      (e : Expression)
      → IsFit own env → IsWritten e → is_structure t ≡ false → IsAtIn env vs t k end
      → After own env (AreValuesIn end) (one_given names env w vs t k e)
  one_given_values env w vs t k end e f r plain h = by (string_for t (one e)) refl
    where
      by : (o : Option Expression) → string_for t (one e) ≡ o
          → After own env (AreValuesIn end) (elim o as (λ x. Checked (List (ℕ × Typed) × Env)) [
            | Some s ↦ stays env (string_added names vs t k w.name s)
            | None ↦ leaf_given names env w vs t k e
          ])
      by (Some s) is =
          staying f (string_values P (scene_of own env) names bytes vs t k end w.name s h
          (string_taken t (one e) s is))
      by None is = leaf_given_values env w vs t k end e f r plain h

  only_given_values : (env : Env) (w : Target) (vs : List (ℕ × Typed)) (t : CType) (k end : ℕ)
      (is : Inits)
      → IsFit own env → AreWrittenInits is → is_structure t ≡ false → IsAtIn env vs t k end
      → After own env (AreValuesIn end) (only_given names env w vs t k is)
  only_given_values env w vs t k end is f r plain h =
      given_part {o = only_value is} _ _
      (λ e o. leaf_given_values env w vs t k end e f (only_written is e r o) plain h)

  -- what is still to be initialised, and the values before it
  pub record IsGoing (end : ℕ) (x : Progress) (env : Env) : Type 0 where
    pub from : ℕ
    pub runs : AreRuns P env.tables.structs from end x.runs
    pub values : AreValues P (scene_of own env) from x.values

  going_on : (env later : Env) (y : Part) (vs : List (ℕ × Typed)) (from end : ℕ) → IsFit own env
      → Reaches own env later → (h : IsPart P env.tables.structs from end y)
      → AreValuesIn (y.from + leaf_count h.shape) vs later
      → IsGoing end (record { runs = y.behind; values = vs }) later
  going_on env later y vs from end f g h v = record {
    from = y.from + leaf_count h.shape;
    runs = runs_stay P env.tables.structs later.tables.structs f.formed.table
        (grows_of own env later f g).stays (y.from + leaf_count h.shape) end y.behind h.behind;
    values = v;
  }

  plain_type : (t : CType) → is_aggregate t ≡ false → is_structure t ≡ false
  plain_type (structure j) h = absurd (true≢false h)
  plain_type void h = refl
  plain_type (integer c) h = refl
  plain_type (floating c) h = refl
  plain_type (pointer t) h = refl
  plain_type (array t n) h = refl
  plain_type (function r) h = refl

  -- a list for a part of this type, where its values go to the parts of that
  list_values : (env : Env) (w : Target) (vs : List (ℕ × Typed)) (t : CType) (k end : ℕ)
      (is : Inits) (o : Option Expression)
      → IsFit own env → AreWrittenInits is → ((o ≡ None) ⊎ (is_character_array t ≡ true))
      → IsAtIn env vs t k end
      → After own env (AreValuesIn end)
      (filled names env w (record { runs = parts env.tables.structs t k; values = vs }) is)
      → After own env (AreValuesIn end) (elim o as (λ x. Checked (List (ℕ × Typed) × Env)) [
        | Some s ↦ stays env (string_added names vs t k w.name s)
        | None ↦
            if is_aggregate t
            then filled names env w (record { runs = parts env.tables.structs t k; values = vs }) is
            else only_given names env w vs t k is
      ])
  list_values env w vs t k end is (Some s) f r (inr kind) h all =
      staying f (string_values P (scene_of own env) names bytes vs t k end w.name s h kind)
  list_values env w vs t k end is (Some s) f r (inl none) h all = absurd (none_some s (sym none))
  list_values env w vs t k end is None f r kind h all =
      either {b = is_aggregate t} (λ e. all)
      (λ e. only_given_values env w vs t k end is f r (plain_type t e) h)

  string_or : (t : CType) (i : Init)
      → (string_for t i ≡ None) ⊎ (is_character_array t ≡ true)
  string_or t i = by (string_for t i) refl
    where
      by : (o : Option Expression) → string_for t i ≡ o
          → (string_for t i ≡ None) ⊎ (is_character_array t ≡ true)
      by None is = inl is
      by (Some e) is = inr (string_taken t i e is)

  part_at : (env : Env) (y : Part) (vs : List (ℕ × Typed)) (from end : ℕ)
      → (h : IsPart P env.tables.structs from end y) → AreValuesIn from vs env
      → IsAtIn env vs y.of y.from (y.from + leaf_count h.shape)
  part_at env y vs from end h v = record {
    shape = h.shape;
    whole = h.whole;
    covers = h.covers;
    ends = refl;
    from = from;
    after = h.after;
    values = v;
  }

  parts_going : (env : Env) (vs : List (ℕ × Typed)) (t : CType) (k end : ℕ) → IsFit own env
      → IsAtIn env vs t k end
      → IsGoing end (record { runs = parts env.tables.structs t k; values = vs }) env
  parts_going env vs t k end f h = record {
    from = k;
    runs = parts_run P alike env.tables.structs (fit_table own env f) k end t k h.shape h.whole
        (λ low. omega arith) h.covers (λ low. omega (arith, h.ends));
    values = values_later P (scene_of own env) h.from k vs h.after h.values;
  }

  mutual
    pub filled_values : (env : Env) (w : Target) (x : Progress) (is : Inits) (end : ℕ)
        → IsFit own env → AreWrittenInits is → IsGoing end x env
        → After own env (AreValuesIn end) (filled names env w x is)
    filled_values env w x no_inits end f r h =
        done (reaches_nowhere own env f)
        (values_later P (scene_of own env) h.from end x.values
        (runs_within P env.tables.structs h.from end x.runs h.runs) h.values)
    filled_values env w x (next_init i is) end f r h =
        next {Q = IsGoing end}
        (taken_then {P = IsGoing end} {c = taken env.tables.structs w.name x.runs i}
        (taken_part P alike env.tables.structs (fit_table own env f) h.from end w.name x.runs i
        h.runs) (λ y q.
        next (given_values env w x.values y.of y.from (y.from + leaf_count q.0.shape) i f r.0
        q.1 (part_at env y x.values h.from end q.0 h.values)) (λ z g v.
        done (reaches_nowhere own z.1 g.fit) (going_on env z.1 y z.0 h.from end f g q.0 v))))
        (λ y g q. filled_values y.1 w y.0 is end g.fit r.1 q)

    pub given_values : (env : Env) (w : Target) (vs : List (ℕ × Typed)) (t : CType) (k end : ℕ)
        (i : Init)
        → IsFit own env → IsWrittenInit i → IsFor i t → IsAtIn env vs t k end
        → After own env (AreValuesIn end) (given names env w vs t k i)
    given_values env w vs t k end (one e) f r plain h =
        one_given_values env w vs t k end e f r plain h
    given_values env w vs t k end (list is c) f r plain h =
        list_values env w vs t k end is (string_for t (list is c)) f r (string_or t (list is c)) h
        (filled_values env w (record { runs = parts env.tables.structs t k; values = vs }) is end
        f r (parts_going env vs t k end f h))
