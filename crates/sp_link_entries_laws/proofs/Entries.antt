-- What holds of each entry of an object in a program, by its number.
use Rattle.std.proofs.Common.{◌≡◌, ◌≢◌, ℕ, zero, suc, ◌+◌, Bool, true, false, if◌then◌else◌, length, List, [], ◌∷◌, ◌++◌, Option, Some, None, ◌⊎◌, inl, inr, refl, ap, sym, subst, ◌∙◌, true≢false, arith}
use Rattle.std.specs.Prelude.{slice_get, slice_set, slice_index_or}
use Rattle.sp_types.specs.Programs.{Object as TypedObject, Function as TypedFunction}
use Rattle.sp_check_env.specs.declared.env.Entity.{Entity}
use Rattle.sp_check_env.specs.declared.env.Entity.TheVariants.{Object, Function}
use Rattle.sp_base_checked.specs.Units.{CheckedUnit}
use Rattle.sp_link_conflicts.specs.Declarations.{is_external}
use Rattle.sp_link_entries.specs.Entries.{ObjectEntry, FunctionEntry, Joined, Numbers, linked}
use Rattle.sp_link_entries.specs.Objects.{owned_by, is_dropped, object_entry, object_composed, object_met, object_apart, object_linked, object_joined, next_object, objects_joined}
use Rattle.sp_link_entries.specs.Functions.{function_entry, function_met, function_apart, function_linked, function_joined, next_function, functions_joined}
use Rattle.sp_link_entries.specs.Units.{unit_joined, next_unit, units_joined}
use Rattle.sp_link_names_laws.proofs.Numbered.{pushed_last, some_is, objects_keep, units_keep, behind_objects}
use Rattle.sp_link_names_laws.proofs.Own.{set_other}
use Rattle.sp_link_entries_laws.proofs.Walk.{owned, AreNext, behind, first_next, others_next, AreBehind, first_behind, others_behind}

pub same_or_not : (a b : ℕ) → (a ≡ b) ⊎ (a ≢ b)
same_or_not zero zero = inl refl
same_or_not zero (suc b) = inr (λ e. absurd (omega (arith, e)))
same_or_not (suc a) zero = inr (λ e. absurd (omega (arith, e)))
same_or_not (suc a) (suc b) = by (same_or_not a b)
  where
    by : (a ≡ b) ⊎ (a ≢ b) → (suc a ≡ suc b) ⊎ (suc a ≢ suc b)
    by (inl e) = inl (ap suc e)
    by (inr n) = inr (λ e. n (omega (arith, e)))

-- what stands at a place behind one more, or behind another in its place
pub pushed_is : {A : Type 0} (xs : List A) (y : A) (n : ℕ) (x : A) → slice_get (xs ++ y ∷ []) n ≡ Some x
    → (slice_get xs n ≡ Some x) ⊎ ((n ≡ length xs) × (y ≡ x))
pushed_is [] y zero x e = inr (refl, some_is y x e)
pushed_is [] y (suc n) x e = absurd (cc)
pushed_is (z ∷ zs) y zero x e = inl e
pushed_is (z ∷ zs) y (suc n) x e = by (pushed_is zs y n x e)
  where
    by : (slice_get zs n ≡ Some x) ⊎ ((n ≡ length zs) × (y ≡ x))
        → (slice_get zs n ≡ Some x) ⊎ ((suc n ≡ suc (length zs)) × (y ≡ x))
    by (inl h) = inl h
    by (inr h) = inr (ap suc h.0, h.1)

pub set_is : {A : Type 0} (xs : List A) (n : ℕ) (y x : A) → slice_get (slice_set xs n y) n ≡ Some x → y ≡ x
set_is [] n y x e = absurd (cc)
set_is (z ∷ zs) zero y x e = some_is y x e
set_is (z ∷ zs) (suc n) y x e = set_is zs n y x e

-- functions change no object
module _ (j : Joined) (e : FunctionEntry) where
  function_met_same : (k : ℕ) (o : Option FunctionEntry) → (function_met j k e o).objects ≡ j.objects
  function_met_same k None = refl
  function_met_same k (Some old) = refl

  function_linked_same : (l : Option Entity) → (function_linked j e l).1.objects ≡ j.objects
  function_linked_same None = refl
  function_linked_same (Some (Function k)) = function_met_same k (slice_get j.functions k)
  function_linked_same (Some (Object k)) = refl

  function_choice_same : (b : Bool)
      → (if b then function_linked j e (linked j e.source.name) else function_apart j e).1.objects ≡ j.objects
  function_choice_same true = function_linked_same (linked j e.source.name)
  function_choice_same false = refl

  function_same : (function_joined j e).1.objects ≡ j.objects
  function_same = function_choice_same (is_external e.source.linkage)

pub functions_same : (ss : List ℕ) (u : ℕ) (fs : List TypedFunction) (y : List ℕ × Joined)
    → (functions_joined ss u y fs).1.objects ≡ y.1.objects
functions_same ss u [] y = refl
functions_same ss u (f ∷ fs) y =
    functions_same ss u fs (next_function ss u y f) ∙ function_same y.1 (function_entry ss u f)

-- `Has u k n`: the object `k` of the unit `u` has the number `n` in the program
module _ (xs : List CheckedUnit) (sss : List (List ℕ)) (P : ℕ → ObjectEntry → Type 0) (Has : ℕ → ℕ → ℕ → Type 0)
    (fresh : (u : ℕ) (x : CheckedUnit) (k : ℕ) (o : TypedObject) (n : ℕ) → slice_get xs u ≡ Some x
    → slice_get x.objects k ≡ Some o → is_dropped (owned_by x.functions x.definitions) k o.storage ≡ false
    → Has u k n → P n (object_entry x.structs (slice_index_or sss u []) u o))
    (composed : (n : ℕ) (old new : ObjectEntry) → P n old → P n new → P n (object_composed old new)) where
  abbrev numbers : ℕ → List ℕ
  numbers u = slice_index_or sss u []

  abbrev pub All : Joined → Type 0
  All j = (n : ℕ) (e : ObjectEntry) → slice_get j.objects n ≡ Some e → P n e

  module _ (j : Joined) (good : All j) (e : ObjectEntry) where
    apart_all : P (length j.objects) e → All (object_apart j e).1
    apart_all p n d at = by (pushed_is j.objects e n d at)
      where
        by : (slice_get j.objects n ≡ Some d) ⊎ ((n ≡ length j.objects) × (e ≡ d)) → P n d
        by (inl h) = good n d h
        by (inr h) = subst (λ i. P i d) (sym h.0) (subst (λ z. P (length j.objects) z) h.1 p)

    met_all : (k : ℕ) → P k e → (o : Option ObjectEntry) → slice_get j.objects k ≡ o → All (object_met j k e o)
    met_all k p None is n d at = good n d at
    met_all k p (Some old) is n d at = by (same_or_not k n)
      where
        by : (k ≡ n) ⊎ (k ≢ n) → P n d
        by (inl same) =
            let now : object_composed old e ≡ d =
            set_is j.objects k (object_composed old e) d (ap (slice_get (slice_set j.objects k (object_composed old e))) same ∙ at) in
            subst (λ i. P i d) same (subst (λ z. P k z) now (composed k old e (good k old is) p))
        by (inr other) = good n d (sym (set_other j.objects k (object_composed old e) n other) ∙ at)

    linked_all : (l : Option Entity) → P (object_linked j e l).0 e → All (object_linked j e l).1
    linked_all None p = apart_all p
    linked_all (Some (Object k)) p = met_all k p (slice_get j.objects k) refl
    linked_all (Some (Function k)) p = apart_all p

    choice_all : (b : Bool) → P (if b then object_linked j e (linked j e.source.name) else object_apart j e).0 e
        → All (if b then object_linked j e (linked j e.source.name) else object_apart j e).1
    choice_all true p = linked_all (linked j e.source.name) p
    choice_all false p = apart_all p

    joined_all : P (object_joined j e).0 e → All (object_joined j e).1
    joined_all p = choice_all (is_external e.source.linkage) p

  module _ (u : ℕ) (x : CheckedUnit) (at : slice_get xs u ≡ Some x) where
    next_all : (y : List ℕ × Joined) (b : Bool) (o : TypedObject) → All y.1
        → (b ≡ false → P (object_joined y.1 (object_entry x.structs (numbers u) u o)).0 (object_entry x.structs (numbers u) u o))
        → All (next_object x.structs (numbers u) u y b o).1
    next_all y true o good p = good
    next_all y false o good p = joined_all y.1 good (object_entry x.structs (numbers u) u o) (p refl)

    -- the number that it has in the end
    number_there : (o : TypedObject) (os : List TypedObject) (y : List ℕ × Joined) (b : Bool) → b ≡ false
        → slice_get (objects_joined x.structs (numbers u) (owned (numbers u) u x) u (next_object x.structs (numbers u) u y b o) os).0 (length y.0)
        ≡ Some (object_joined y.1 (object_entry x.structs (numbers u) u o)).0
    number_there o os y true e = absurd (true≢false e)
    number_there o os y false e =
        let z : ℕ × Joined = object_joined y.1 (object_entry x.structs (numbers u) u o) in
        objects_keep x.structs (numbers u) (owned (numbers u) u x) u os (next_object x.structs (numbers u) u y false o)
        (length y.0) z.0 (pushed_last y.0 z.0)

    objects_all : (os : List TypedObject) (y : List ℕ × Joined) → AreNext (numbers u) u x os y → All y.1
        → ((k n : ℕ) → slice_get (objects_joined x.structs (numbers u) (owned (numbers u) u x) u y os).0 k ≡ Some n → Has u k n)
        → All (objects_joined x.structs (numbers u) (owned (numbers u) u x) u y os).1
    objects_all [] y w good has = good
    objects_all (o ∷ os) y w good has =
        let there : slice_get x.objects (length y.0) ≡ Some o = first_next (numbers u) u x o os y w in
        objects_all os (behind (numbers u) u x y o) (others_next (numbers u) u x o os y w)
        (next_all y (is_dropped (owned (numbers u) u x) (length y.0) o.storage) o good
        (λ kept. fresh u x (length y.0) o (object_joined y.1 (object_entry x.structs (numbers u) u o)).0 at there kept
        (has (length y.0) (object_joined y.1 (object_entry x.structs (numbers u) u o)).0
        (number_there o os y (is_dropped (owned (numbers u) u x) (length y.0) o.storage) kept)))) has

    unit_all : (j : Joined) → All j → ((k n : ℕ) → slice_get (unit_joined (numbers u) u j x).0.objects k ≡ Some n → Has u k n)
        → All (unit_joined (numbers u) u j x).1
    unit_all j good has n e found =
        let behind_all : All (behind_objects (numbers u) u j x).1 =
        objects_all x.objects ([], j) (λ i o g. (let place : i ≡ 0 + i = omega arith in subst (λ k. slice_get x.objects k ≡ Some o) place g)) good has in
        behind_all n e (ap (λ z. slice_get z n) (sym (functions_same (numbers u) u x.functions ([], (behind_objects (numbers u) u j x).1))) ∙ found)

  pub units_all : (ws : List CheckedUnit) (y : List Numbers × Joined) → AreBehind xs sss ws y → All y.1
      → ((u : ℕ) (ns : Numbers) → slice_get (units_joined sss y ws).0 u ≡ Some ns → (k n : ℕ) → slice_get ns.objects k ≡ Some n → Has u k n)
      → All (units_joined sss y ws).1
  units_all [] y w good has = good
  units_all (x ∷ ws) y w good has =
      let made : Numbers × Joined = unit_joined (numbers (length y.0)) (length y.0) y.1 x in
      let there : slice_get (units_joined sss y (x ∷ ws)).0 (length y.0) ≡ Some made.0 =
      units_keep sss ws (next_unit sss y x) (length y.0) made.0 (pushed_last y.0 made.0) in
      units_all ws (next_unit sss y x) (others_behind xs sss x ws y w)
      (unit_all (length y.0) x (first_behind xs sss x ws y w) y.1 good (has (length y.0) made.0 there)) has
