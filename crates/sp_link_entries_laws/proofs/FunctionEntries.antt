-- What holds of each entry of a function in a program, by its number.
use Rattle.std.proofs.Common.{◌≡◌, ◌≢◌, ℕ, zero, suc, ◌+◌, Bool, true, false, if◌then◌else◌, length, List, [], ◌∷◌, Option, Some, None, ◌⊎◌, inl, inr, refl, ap, sym, subst, ◌∙◌, arith}
use Rattle.std.specs.Prelude.{slice_get, slice_set, slice_index_or}
use Rattle.sp_types.specs.Types.{Struct}
use Rattle.sp_types.specs.Programs.{Object as TypedObject, Function as TypedFunction}
use Rattle.sp_check_env.specs.declared.env.Entity.{Entity}
use Rattle.sp_check_env.specs.declared.env.Entity.TheVariants.{Object, Function}
use Rattle.sp_base_checked.specs.Units.{CheckedUnit}
use Rattle.sp_link_conflicts.specs.Declarations.{is_external}
use Rattle.sp_link_entries.specs.Entries.{ObjectEntry, FunctionEntry, Joined, Numbers, linked}
use Rattle.sp_link_entries.specs.Objects.{is_dropped, object_entry, object_met, object_apart, object_linked, object_joined, next_object, objects_joined}
use Rattle.sp_link_entries.specs.Functions.{function_entry, function_composed, function_met, function_apart, function_linked, function_joined, next_function, functions_joined}
use Rattle.sp_link_entries.specs.Units.{unit_joined, next_unit, units_joined}
use Rattle.sp_link_names_laws.proofs.Numbered.{pushed_last, pushed_length, functions_keep, units_keep, behind_objects}
use Rattle.sp_link_names_laws.proofs.Own.{set_other}
use Rattle.sp_link_entries_laws.proofs.Walk.{owned, AreBehind, first_behind, others_behind}
use Rattle.sp_link_entries_laws.proofs.Entries.{same_or_not, pushed_is, set_is}

-- ---- objects change no function

module _ (j : Joined) (e : ObjectEntry) where
  met_same : (k : ℕ) (o : Option ObjectEntry) → (object_met j k e o).functions ≡ j.functions
  met_same k None = refl
  met_same k (Some old) = refl

  linked_same : (l : Option Entity) → (object_linked j e l).1.functions ≡ j.functions
  linked_same None = refl
  linked_same (Some (Object k)) = met_same k (slice_get j.objects k)
  linked_same (Some (Function k)) = refl

  choice_same : (b : Bool)
      → (if b then object_linked j e (linked j e.source.name) else object_apart j e).1.functions ≡ j.functions
  choice_same true = linked_same (linked j e.source.name)
  choice_same false = refl

  object_same : (object_joined j e).1.functions ≡ j.functions
  object_same = choice_same (is_external e.source.linkage)

module _ (ts : List Struct) (ss fs : List ℕ) (u : ℕ) where
  next_same : (z : List ℕ × Joined) (b : Bool) (o : TypedObject) → (next_object ts ss u z b o).1.functions ≡ z.1.functions
  next_same z true o = refl
  next_same z false o = object_same z.1 (object_entry ts ss u o)

  objects_same : (os : List TypedObject) (z : List ℕ × Joined) → (objects_joined ts ss fs u z os).1.functions ≡ z.1.functions
  objects_same [] z = refl
  objects_same (o ∷ os) z =
      objects_same os (next_object ts ss u z (is_dropped fs (length z.0) o.storage) o)
      ∙ next_same z (is_dropped fs (length z.0) o.storage) o

-- ---- each entry

-- `Has u k n`: the function `k` of the unit `u` has the number `n` in the program
module _ (xs : List CheckedUnit) (sss : List (List ℕ)) (P : ℕ → FunctionEntry → Type 0) (Has : ℕ → ℕ → ℕ → Type 0)
    (fresh : (u : ℕ) (x : CheckedUnit) (k : ℕ) (f : TypedFunction) (n : ℕ) → slice_get xs u ≡ Some x
    → slice_get x.functions k ≡ Some f → Has u k n → P n (function_entry (slice_index_or sss u []) u f))
    (composed : (n : ℕ) (old new : FunctionEntry) → P n old → P n new → P n (function_composed old new)) where
  abbrev numbers : ℕ → List ℕ
  numbers u = slice_index_or sss u []

  abbrev pub All : Joined → Type 0
  All j = (n : ℕ) (e : FunctionEntry) → slice_get j.functions n ≡ Some e → P n e

  module _ (j : Joined) (good : All j) (e : FunctionEntry) where
    apart_all : P (length j.functions) e → All (function_apart j e).1
    apart_all p n d at = by (pushed_is j.functions e n d at)
      where
        by : (slice_get j.functions n ≡ Some d) ⊎ ((n ≡ length j.functions) × (e ≡ d)) → P n d
        by (inl h) = good n d h
        by (inr h) = subst (λ i. P i d) (sym h.0) (subst (λ z. P (length j.functions) z) h.1 p)

    met_all : (k : ℕ) → P k e → (o : Option FunctionEntry) → slice_get j.functions k ≡ o → All (function_met j k e o)
    met_all k p None is n d at = good n d at
    met_all k p (Some old) is n d at = by (same_or_not k n)
      where
        by : (k ≡ n) ⊎ (k ≢ n) → P n d
        by (inl same) =
            let now : function_composed old e ≡ d =
            set_is j.functions k (function_composed old e) d (ap (slice_get (slice_set j.functions k (function_composed old e))) same ∙ at) in
            subst (λ i. P i d) same (subst (λ z. P k z) now (composed k old e (good k old is) p))
        by (inr other) = good n d (sym (set_other j.functions k (function_composed old e) n other) ∙ at)

    linked_all : (l : Option Entity) → P (function_linked j e l).0 e → All (function_linked j e l).1
    linked_all None p = apart_all p
    linked_all (Some (Function k)) p = met_all k p (slice_get j.functions k) refl
    linked_all (Some (Object k)) p = apart_all p

    choice_all : (b : Bool) → P (if b then function_linked j e (linked j e.source.name) else function_apart j e).0 e
        → All (if b then function_linked j e (linked j e.source.name) else function_apart j e).1
    choice_all true p = linked_all (linked j e.source.name) p
    choice_all false p = apart_all p

    joined_all : P (function_joined j e).0 e → All (function_joined j e).1
    joined_all p = choice_all (is_external e.source.linkage) p

  module _ (u : ℕ) (x : CheckedUnit) (at : slice_get xs u ≡ Some x) where
    functions_all : (fs : List TypedFunction) (y : List ℕ × Joined)
        → ((i : ℕ) (f : TypedFunction) → slice_get fs i ≡ Some f → slice_get x.functions (length y.0 + i) ≡ Some f)
        → All y.1 → ((k n : ℕ) → slice_get (functions_joined (numbers u) u y fs).0 k ≡ Some n → Has u k n)
        → All (functions_joined (numbers u) u y fs).1
    functions_all [] y w good has = good
    functions_all (f ∷ fs) y w good has =
        let e : FunctionEntry = function_entry (numbers u) u f in
        let z : ℕ × Joined = function_joined y.1 e in
        let place : length y.0 + 0 ≡ length y.0 = omega arith in
        let there : slice_get x.functions (length y.0) ≡ Some f = subst (λ n. slice_get x.functions n ≡ Some f) place (w zero f refl) in
        let number : slice_get (functions_joined (numbers u) u y (f ∷ fs)).0 (length y.0) ≡ Some z.0 =
        functions_keep (numbers u) u fs (next_function (numbers u) u y f) (length y.0) z.0 (pushed_last y.0 z.0) in
        functions_all fs (next_function (numbers u) u y f)
        (λ i g t. (
        let longer : length (next_function (numbers u) u y f).0 ≡ length y.0 + 1 = pushed_length y.0 z.0 in
        let same : length y.0 + suc i ≡ length (next_function (numbers u) u y f).0 + i = omega (arith, longer) in
        subst (λ n. slice_get x.functions n ≡ Some g) same (w (suc i) g t)
        ))
        (joined_all y.1 good e (fresh u x (length y.0) f z.0 at there (has (length y.0) z.0 number))) has

    unit_all : (j : Joined) → All j → ((k n : ℕ) → slice_get (unit_joined (numbers u) u j x).0.functions k ≡ Some n → Has u k n)
        → All (unit_joined (numbers u) u j x).1
    unit_all j good has n e found =
        functions_all x.functions ([], (behind_objects (numbers u) u j x).1)
        (λ i f g. (let place : i ≡ 0 + i = omega arith in subst (λ k. slice_get x.functions k ≡ Some f) place g))
        (λ i d there. good i d
        (ap (λ z. slice_get z i) (sym (objects_same x.structs (numbers u) (owned (numbers u) u x) u x.objects ([], j))) ∙ there))
        has n e found

  pub all_functions : (ws : List CheckedUnit) (y : List Numbers × Joined) → AreBehind xs sss ws y → All y.1
      → ((u : ℕ) (ns : Numbers) → slice_get (units_joined sss y ws).0 u ≡ Some ns → (k n : ℕ) → slice_get ns.functions k ≡ Some n → Has u k n)
      → All (units_joined sss y ws).1
  all_functions [] y w good has = good
  all_functions (x ∷ ws) y w good has =
      let made : Numbers × Joined = unit_joined (numbers (length y.0)) (length y.0) y.1 x in
      let there : slice_get (units_joined sss y (x ∷ ws)).0 (length y.0) ≡ Some made.0 =
      units_keep sss ws (next_unit sss y x) (length y.0) made.0 (pushed_last y.0 made.0) in
      all_functions ws (next_unit sss y x) (others_behind xs sss x ws y w)
      (unit_all (length y.0) x (first_behind xs sss x ws y w) y.1 good (has (length y.0) made.0 there)) has
