-- Objects without external linkage have numbers of their own in the program (C90 6.1.2.2).
use Rattle.std.proofs.Common.{◌≡◌, ℕ, ◌+◌, ◌<◌, ◌≤◌, Bool, true, false, if◌then◌else◌, length, List, [], ◌∷◌, ◌++◌, Option, Some, None, ◌⊎◌, inl, inr, refl, ap, sym, subst, ◌∙◌, true≢false, arith}
use Rattle.std.specs.Prelude.{slice_get, slice_index_or}
use Rattle.sp_types.specs.Programs.{Object as TypedObject}
use Rattle.sp_check_env.specs.declared.env.Entity.{Entity}
use Rattle.sp_check_env.specs.declared.env.Entity.TheVariants.{Object, Function}
use Rattle.sp_base_checked.specs.Units.{CheckedUnit}
use Rattle.sp_link_conflicts.specs.Declarations.{is_external}
use Rattle.sp_link_entries.specs.Entries.{ObjectEntry, Joined, Numbers, nothing_joined, linked}
use Rattle.sp_link_entries.specs.Objects.{owned_by, is_dropped, object_entry, object_met, object_apart, object_linked, object_joined, next_object, objects_joined}
use Rattle.sp_link_entries.specs.Units.{unit_joined, next_unit, units_joined}
use Rattle.sp_link_names_laws.specs.Names.{all_joined}
use Rattle.sp_link_names_laws.proofs.Numbered.{some_is}
use Rattle.sp_link_names_laws.proofs.Own.{set_length, pushed_longer}
use Rattle.sp_link_entries_laws.proofs.Entries.{pushed_is, functions_same}
use Rattle.sp_link_entries_laws.proofs.Walk.{owned, AreNext, behind, first_next, others_next, AreBehind, first_behind, others_behind}

-- the object of this number of the unit is its own: it has no external linkage
pub record IsOwn (x : CheckedUnit) (k : ℕ) : Type 0 where
  pub object : TypedObject
  pub there : slice_get x.objects k ≡ Some object
  pub private : is_external object.linkage ≡ false
  pub kept : is_dropped (owned_by x.functions x.definitions) k object.storage ≡ false

-- ---- entries become no fewer

module _ (j : Joined) (e : ObjectEntry) where
  met_length : (k : ℕ) (o : Option ObjectEntry) → length (object_met j k e o).objects ≡ length j.objects
  met_length k None = refl
  met_length k (Some old) = set_length j.objects k _

  linked_length : (l : Option Entity) → length j.objects ≤ length (object_linked j e l).1.objects
  linked_length None = let w : length (j.objects ++ e ∷ []) ≡ length j.objects + 1 = pushed_longer j.objects e in omega arith
  linked_length (Some (Object k)) =
      let w : length (object_met j k e (slice_get j.objects k)).objects ≡ length j.objects =
      met_length k (slice_get j.objects k) in omega (arith, w)
  linked_length (Some (Function k)) = let w : length (j.objects ++ e ∷ []) ≡ length j.objects + 1 = pushed_longer j.objects e in omega arith

  choice_length : (b : Bool)
      → length j.objects ≤ length (if b then object_linked j e (linked j e.source.name) else object_apart j e).1.objects
  choice_length true = linked_length (linked j e.source.name)
  choice_length false = let w : length (j.objects ++ e ∷ []) ≡ length j.objects + 1 = pushed_longer j.objects e in omega arith

  joined_length : length j.objects ≤ length (object_joined j e).1.objects
  joined_length = choice_length (is_external e.source.linkage)

  -- one of its own has the next number
  choice_own : (b : Bool) → b ≡ false
      → ((if b then object_linked j e (linked j e.source.name) else object_apart j e).0 ≡ length j.objects)
      × (length (if b then object_linked j e (linked j e.source.name) else object_apart j e).1.objects ≡ length j.objects + 1)
  choice_own true h = absurd (true≢false h)
  choice_own false h = (refl, pushed_longer j.objects e)

  joined_own : is_external e.source.linkage ≡ false
      → ((object_joined j e).0 ≡ length j.objects) × (length (object_joined j e).1.objects ≡ length j.objects + 1)
  joined_own h = choice_own (is_external e.source.linkage) h

-- ---- the objects of a unit

module _ (ss : List ℕ) (u : ℕ) (x : CheckedUnit) where
  -- where there were `low` entries before the unit
  record AreApart (low : ℕ) (y : List ℕ × Joined) : Type 0 where
    grown : low ≤ length y.1.objects
    above : (k n : ℕ) → slice_get y.0 k ≡ Some n → IsOwn x k → low ≤ n
    below : (k n : ℕ) → slice_get y.0 k ≡ Some n → IsOwn x k → n < length y.1.objects
    distinct : (i k n : ℕ) → slice_get y.0 i ≡ Some n → slice_get y.0 k ≡ Some n → IsOwn x i → IsOwn x k → i ≡ k

  -- behind an object with this number
  module _ (low : ℕ) (y : List ℕ × Joined) (h : AreApart low y) (number : ℕ) (j : Joined)
      (longer : length y.1.objects ≤ length j.objects)
      (own : IsOwn x (length y.0) → (number ≡ length y.1.objects) × (number < length j.objects)) where
    one_above : (k n : ℕ) → slice_get (y.0 ++ number ∷ []) k ≡ Some n → IsOwn x k → low ≤ n
    one_above k n e o = by (pushed_is y.0 number k n e)
      where
        by : (slice_get y.0 k ≡ Some n) ⊎ ((k ≡ length y.0) × (number ≡ n)) → low ≤ n
        by (inl g) = h.above k n g o
        by (inr g) =
            let is : (number ≡ length y.1.objects) × (number < length j.objects) = own (subst (IsOwn x) g.0 o) in
            let first : number ≡ length y.1.objects = is.0 in
            let same : number ≡ n = g.1 in
            let grown : low ≤ length y.1.objects = h.grown in
            omega (arith, first, same, grown)

    one_below : (k n : ℕ) → slice_get (y.0 ++ number ∷ []) k ≡ Some n → IsOwn x k → n < length j.objects
    one_below k n e o = by (pushed_is y.0 number k n e)
      where
        by : (slice_get y.0 k ≡ Some n) ⊎ ((k ≡ length y.0) × (number ≡ n)) → n < length j.objects
        by (inl g) = let under : n < length y.1.objects = h.below k n g o in omega (arith, under, longer)
        by (inr g) = subst (λ i. i < length j.objects) g.1 (own (subst (IsOwn x) g.0 o)).1

    apart_from : (k n : ℕ) → slice_get y.0 k ≡ Some n → IsOwn x k → IsOwn x (length y.0) → number ≡ n → ⊥
    apart_from k n e o now same =
        let under : n < length y.1.objects = h.below k n e o in
        let first : number ≡ length y.1.objects = (own now).0 in
        absurd (omega (arith, under, first, same))

    one_distinct : (i k n : ℕ) → slice_get (y.0 ++ number ∷ []) i ≡ Some n → slice_get (y.0 ++ number ∷ []) k ≡ Some n
        → IsOwn x i → IsOwn x k → i ≡ k
    one_distinct i k n e f o p = by (pushed_is y.0 number i n e) (pushed_is y.0 number k n f)
      where
        by : (slice_get y.0 i ≡ Some n) ⊎ ((i ≡ length y.0) × (number ≡ n))
            → (slice_get y.0 k ≡ Some n) ⊎ ((k ≡ length y.0) × (number ≡ n)) → i ≡ k
        by (inl g) (inl w) = h.distinct i k n g w o p
        by (inl g) (inr w) = absurd (apart_from i n g o (subst (IsOwn x) w.0 p) w.1)
        by (inr g) (inl w) = absurd (apart_from k n w p (subst (IsOwn x) g.0 o) g.1)
        by (inr g) (inr w) = g.0 ∙ sym w.0

    one_apart : AreApart low (y.0 ++ number ∷ [], j)
    one_apart = record {
      grown = let grown : low ≤ length y.1.objects = h.grown in omega (arith, grown, longer);
      above = one_above;
      below = one_below;
      distinct = one_distinct;
    }

  next_apart : (low : ℕ) (y : List ℕ × Joined) (b : Bool) (o : TypedObject) → AreApart low y
      → slice_get x.objects (length y.0) ≡ Some o
      → is_dropped (owned_by x.functions x.definitions) (length y.0) o.storage ≡ b
      → AreApart low (next_object x.structs ss u y b o)
  next_apart low y true o h there dropped =
      one_apart low y h 0 y.1 (omega arith) (λ own. absurd (true≢false (sym dropped
      ∙ ap (λ z. is_dropped (owned_by x.functions x.definitions) (length y.0) z.storage)
      (some_is o own.object (sym there ∙ own.there)) ∙ own.kept)))
  next_apart low y false o h there kept =
      let e : ObjectEntry = object_entry x.structs ss u o in
      one_apart low y h (object_joined y.1 e).0 (object_joined y.1 e).1 (joined_length y.1 e) (λ own. (
      let private : is_external o.linkage ≡ false =
      ap (λ z. is_external z.linkage) (some_is o own.object (sym there ∙ own.there)) ∙ own.private in
      let w : ((object_joined y.1 e).0 ≡ length y.1.objects) × (length (object_joined y.1 e).1.objects ≡ length y.1.objects + 1) =
      joined_own y.1 e private in
      let first : (object_joined y.1 e).0 ≡ length y.1.objects = w.0 in
      let more : length (object_joined y.1 e).1.objects ≡ length y.1.objects + 1 = w.1 in
      (first, omega (arith, first, more))
      ))

  objects_apart : (low : ℕ) (os : List TypedObject) (y : List ℕ × Joined) → AreNext ss u x os y → AreApart low y
      → AreApart low (objects_joined x.structs ss (owned ss u x) u y os)
  objects_apart low [] y w h = h
  objects_apart low (o ∷ os) y w h =
      objects_apart low os (behind ss u x y o) (others_next ss u x o os y w)
      (next_apart low y (is_dropped (owned ss u x) (length y.0) o.storage) o h (first_next ss u x o os y w) refl)

  unit_apart : (j : Joined) → AreApart (length j.objects) (objects_joined x.structs ss (owned ss u x) u ([], j) x.objects)
  unit_apart j =
      objects_apart (length j.objects) x.objects ([], j)
      (λ i o g. (let place : i ≡ 0 + i = omega arith in subst (λ k. slice_get x.objects k ≡ Some o) place g))
      (record {
        grown = omega arith;
        above = λ k n e. absurd (cc);
        below = λ k n e. absurd (cc);
        distinct = λ i k n e. absurd (cc);
      })

-- ---- of several units

module _ (xs : List CheckedUnit) (sss : List (List ℕ)) where
  -- the unit's own object has this number
  pub record HasNumber (y : List Numbers × Joined) (u k n : ℕ) : Type 0 where
    pub unit : CheckedUnit
    pub numbers : Numbers
    pub there : slice_get xs u ≡ Some unit
    pub told : slice_get y.0 u ≡ Some numbers
    pub number : slice_get numbers.objects k ≡ Some n
    pub own : IsOwn unit k

  record UnitsAreApart (y : List Numbers × Joined) : Type 0 where
    below : (u k n : ℕ) → HasNumber y u k n → n < length y.1.objects
    distinct : (u v i k n : ℕ) → HasNumber y u i n → HasNumber y v k n → (u ≡ v) × (i ≡ k)

  module _ (x : CheckedUnit) (y : List Numbers × Joined) (at : slice_get xs (length y.0) ≡ Some x) (h : UnitsAreApart y) where
    abbrev ss : List ℕ
    ss = slice_index_or sss (length y.0) []

    abbrev made : Numbers × Joined
    made = unit_joined ss (length y.0) y.1 x

    abbrev before : List ℕ × Joined
    before = objects_joined x.structs ss (owned ss (length y.0) x) (length y.0) ([], y.1) x.objects

    apart : AreApart ss (length y.0) x (length y.1.objects) before
    apart = unit_apart ss (length y.0) x y.1

    same_length : length made.1.objects ≡ length before.1.objects
    same_length = ap length (functions_same ss (length y.0) x.functions ([], before.1))

    -- an old number, or one of the unit
    abbrev IsOld : ℕ → ℕ → ℕ → Type 0
    IsOld u k n = HasNumber y u k n ⊎ ((u ≡ length y.0) × (slice_get before.0 k ≡ Some n) × IsOwn x k)

    old_or_new : (u k n : ℕ) → HasNumber (next_unit sss y x) u k n → IsOld u k n
    old_or_new u k n g = by (pushed_is y.0 made.0 u g.numbers g.told)
      where
        by : (slice_get y.0 u ≡ Some g.numbers) ⊎ ((u ≡ length y.0) × (made.0 ≡ g.numbers)) → IsOld u k n
        by (inl w) = inl (record { unit = g.unit; numbers = g.numbers; there = g.there; told = w; number = g.number; own = g.own })
        by (inr w) =
            let same : x ≡ g.unit = some_is x g.unit (sym at ∙ ap (slice_get xs) (sym w.0) ∙ g.there) in
            inr (w.0, ap (λ z. slice_get z.objects k) w.1 ∙ g.number, subst (λ z. IsOwn z k) (sym same) g.own)

    next_below : (u k n : ℕ) → HasNumber (next_unit sss y x) u k n → n < length made.1.objects
    next_below u k n g = by (old_or_new u k n g)
      where
        by : IsOld u k n → n < length made.1.objects
        by (inl w) =
            let under : n < length y.1.objects = h.below u k n w in
            let grown : length y.1.objects ≤ length before.1.objects = apart.grown in
            let same : length made.1.objects ≡ length before.1.objects = same_length in
            omega (arith, under, grown, same)
        by (inr w) =
            let under : n < length before.1.objects = apart.below k n w.1 w.2 in
            let same : length made.1.objects ≡ length before.1.objects = same_length in
            omega (arith, under, same)

    not_old : (u i k n : ℕ) → HasNumber y u i n → slice_get before.0 k ≡ Some n → IsOwn x k → ⊥
    not_old u i k n w e o =
        let under : n < length y.1.objects = h.below u i n w in
        let over : length y.1.objects ≤ n = apart.above k n e o in
        absurd (omega (arith, under, over))

    next_distinct : (u v i k n : ℕ) → HasNumber (next_unit sss y x) u i n → HasNumber (next_unit sss y x) v k n
        → (u ≡ v) × (i ≡ k)
    next_distinct u v i k n g w = by (old_or_new u i n g) (old_or_new v k n w)
      where
        by : IsOld u i n → IsOld v k n → (u ≡ v) × (i ≡ k)
        by (inl a) (inl b) = h.distinct u v i k n a b
        by (inl a) (inr b) = absurd (not_old u i k n a b.1 b.2)
        by (inr a) (inl b) = absurd (not_old v k i n b a.1 a.2)
        by (inr a) (inr b) = (a.0 ∙ sym b.0, apart.distinct i k n a.1 b.1 a.2 b.2)

    next_units : UnitsAreApart (next_unit sss y x)
    next_units = record { below = next_below; distinct = next_distinct }

  units_apart : (ws : List CheckedUnit) (y : List Numbers × Joined) → AreBehind xs sss ws y → UnitsAreApart y
      → UnitsAreApart (units_joined sss y ws)
  units_apart [] y w h = h
  units_apart (x ∷ ws) y w h =
      units_apart ws (next_unit sss y x) (others_behind xs sss x ws y w)
      (next_units x y (first_behind xs sss x ws y w) h)

  none_apart : UnitsAreApart ([], nothing_joined)
  none_apart = record { below = λ u k n g. absurd (none_told u g.numbers g.told); distinct = λ u v i k n g. absurd (none_told u g.numbers g.told) }
    where
      none_told : (u : ℕ) (ns : Numbers) → slice_get [] u ≡ Some ns → ⊥
      none_told u ns e = absurd (cc)

  -- no number is that of two of them
  pub own_apart : (u v i k n : ℕ) → HasNumber (all_joined sss xs) u i n → HasNumber (all_joined sss xs) v k n
      → (u ≡ v) × (i ≡ k)
  own_apart u v i k n g w =
      (units_apart xs ([], nothing_joined)
      (λ i x e. (let place : i ≡ 0 + i = omega arith in subst (λ n. slice_get xs n ≡ Some x) place e)) none_apart).distinct u v i k n g w
