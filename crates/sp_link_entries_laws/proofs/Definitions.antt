-- The numbers that units have in the end, and the functions that the program defines, unit by unit.
use Rattle.std.proofs.Common.{◌≡◌, ℕ, zero, suc, ◌+◌, ◌<◌, Bool, true, false, if◌then◌else◌, length, map, List, [], ◌∷◌, ◌++◌, Option, Some, None, ◌⊎◌, inl, inr, refl, ap, sym, subst, ◌∙◌, arith}
use Rattle.std.specs.Prelude.{slice_get, slice_index_or}
use Rattle.sp_types.specs.Types.{Struct}
use Rattle.sp_types.specs.Programs.{Object as TypedObject, Function as TypedFunction}
use Rattle.sp_check_env.specs.declared.env.Entity.{Entity}
use Rattle.sp_check_env.specs.declared.env.Entity.TheVariants.{Object, Function}
use Rattle.sp_base_checked.specs.Units.{CheckedUnit}
use Rattle.sp_link_conflicts.specs.Declarations.{is_external}
use Rattle.sp_link_entries.specs.Entries.{ObjectEntry, FunctionEntry, Joined, Numbers, nothing_joined, linked, renumbered}
use Rattle.sp_link_entries.specs.Objects.{owned_by, is_dropped, object_entry, object_met, object_apart, object_linked, object_joined, next_object, objects_joined}
use Rattle.sp_link_entries.specs.Functions.{function_entry, function_met, function_apart, function_linked, function_joined, next_function, functions_joined}
use Rattle.sp_link_entries.specs.Units.{unit_joined, next_unit, units_joined}
use Rattle.sp_link_renaming.specs.Renaming.{number_in}
use Rattle.sp_link_structs_laws.proofs.Lists.{none_some, get_below, get_there, map_got, map_from}
use Rattle.sp_link_names_laws.specs.Names.{all_joined}
use Rattle.sp_link_names_laws.proofs.Numbered.{some_is, pushed_last, pushed_length, next_longer, units_keep, behind_objects}
use Rattle.sp_link_entries_laws.specs.Joined.{definitions_before, IsDefinition, LinkedDefinitions, LinkedDefinitionsAreThere, ObjectsAreNumbered, FunctionsAreNumbered}

-- ---- what a unit adds to the definitions

module _ (j : Joined) (e : ObjectEntry) where
  object_met_same : (k : ℕ) (o : Option ObjectEntry) → (object_met j k e o).definitions ≡ j.definitions
  object_met_same k None = refl
  object_met_same k (Some old) = refl

  object_linked_same : (l : Option Entity) → (object_linked j e l).1.definitions ≡ j.definitions
  object_linked_same None = refl
  object_linked_same (Some (Object k)) = object_met_same k (slice_get j.objects k)
  object_linked_same (Some (Function k)) = refl

  object_choice_same : (b : Bool)
      → (if b then object_linked j e (linked j e.source.name) else object_apart j e).1.definitions ≡ j.definitions
  object_choice_same true = object_linked_same (linked j e.source.name)
  object_choice_same false = refl

  object_same : (object_joined j e).1.definitions ≡ j.definitions
  object_same = object_choice_same (is_external e.source.linkage)

module _ (j : Joined) (e : FunctionEntry) where
  function_met_same : (k : ℕ) (o : Option FunctionEntry) → (function_met j k e o).definitions ≡ j.definitions
  function_met_same k None = refl
  function_met_same k (Some old) = refl

  function_linked_same : (l : Option Entity) → (function_linked j e l).1.definitions ≡ j.definitions
  function_linked_same None = refl
  function_linked_same (Some (Function k)) = function_met_same k (slice_get j.functions k)
  function_linked_same (Some (Object k)) = refl

  function_choice_same : (b : Bool)
      → (if b then function_linked j e (linked j e.source.name) else function_apart j e).1.definitions ≡ j.definitions
  function_choice_same true = function_linked_same (linked j e.source.name)
  function_choice_same false = refl

  function_same : (function_joined j e).1.definitions ≡ j.definitions
  function_same = function_choice_same (is_external e.source.linkage)

module _ (ts : List Struct) (ss fs : List ℕ) (u : ℕ) where
  next_same : (z : List ℕ × Joined) (b : Bool) (o : TypedObject) → (next_object ts ss u z b o).1.definitions ≡ z.1.definitions
  next_same z true o = refl
  next_same z false o = object_same z.1 (object_entry ts ss u o)

  objects_same : (os : List TypedObject) (z : List ℕ × Joined) → (objects_joined ts ss fs u z os).1.definitions ≡ z.1.definitions
  objects_same [] z = refl
  objects_same (o ∷ os) z =
      objects_same os (next_object ts ss u z (is_dropped fs (length z.0) o.storage) o)
      ∙ next_same z (is_dropped fs (length z.0) o.storage) o

  objects_length : (os : List TypedObject) (z : List ℕ × Joined)
      → length (objects_joined ts ss fs u z os).0 ≡ length z.0 + length os
  objects_length [] z = omega arith
  objects_length (o ∷ os) z =
      let longer : length (next_object ts ss u z (is_dropped fs (length z.0) o.storage) o).0 ≡ length z.0 + 1 =
      next_longer ts ss fs u z (is_dropped fs (length z.0) o.storage) o in
      let rest : length (objects_joined ts ss fs u z (o ∷ os)).0
      ≡ length (next_object ts ss u z (is_dropped fs (length z.0) o.storage) o).0 + length os =
      objects_length os (next_object ts ss u z (is_dropped fs (length z.0) o.storage) o) in
      omega (arith, longer, rest)

module _ (ss : List ℕ) (u : ℕ) where
  functions_same : (fs : List TypedFunction) (z : List ℕ × Joined) → (functions_joined ss u z fs).1.definitions ≡ z.1.definitions
  functions_same [] z = refl
  functions_same (f ∷ fs) z =
      functions_same fs (next_function ss u z f) ∙ function_same z.1 (function_entry ss u f)

  functions_length : (fs : List TypedFunction) (z : List ℕ × Joined)
      → length (functions_joined ss u z fs).0 ≡ length z.0 + length fs
  functions_length [] z = omega arith
  functions_length (f ∷ fs) z =
      let longer : length (next_function ss u z f).0 ≡ length z.0 + 1 =
      pushed_length z.0 (function_joined z.1 (function_entry ss u f)).0 in
      let rest : length (functions_joined ss u z (f ∷ fs)).0 ≡ length (next_function ss u z f).0 + length fs =
      functions_length fs (next_function ss u z f) in
      omega (arith, longer, rest)

module _ (ss : List ℕ) (u : ℕ) (j : Joined) (x : CheckedUnit) where
  unit_definitions : (unit_joined ss u j x).1.definitions
      ≡ j.definitions ++ renumbered (unit_joined ss u j x).0.functions x.definitions
  unit_definitions =
      ap (λ ds. ds ++ renumbered (unit_joined ss u j x).0.functions x.definitions)
      (functions_same ss u x.functions ([], (behind_objects ss u j x).1)
      ∙ objects_same x.structs ss (owned_by x.functions x.definitions) u x.objects ([], j))

  unit_objects_length : length (unit_joined ss u j x).0.objects ≡ length x.objects
  unit_objects_length =
      let all : length (objects_joined x.structs ss (owned_by x.functions x.definitions) u ([], j) x.objects).0 ≡ 0 + length x.objects =
      objects_length x.structs ss (owned_by x.functions x.definitions) u x.objects ([], j) in
      omega (arith, all)

  unit_functions_length : length (unit_joined ss u j x).0.functions ≡ length x.functions
  unit_functions_length =
      let all : length (functions_joined ss u ([], (behind_objects ss u j x).1) x.functions).0 ≡ 0 + length x.functions =
      functions_length ss u x.functions ([], (behind_objects ss u j x).1) in
      omega (arith, all)

-- ---- lists

in_either : {A : Type 0} (xs ys : List A) (k : ℕ) (x : A) → slice_get (xs ++ ys) k ≡ Some x
    → (slice_get xs k ≡ Some x) ⊎ ((i : ℕ) × (k ≡ length xs + i) × (slice_get ys i ≡ Some x))
in_either [] ys k x e = inr (k, omega arith, e)
in_either (z ∷ zs) ys zero x e = inl e
in_either (z ∷ zs) ys (suc k) x e = by (in_either zs ys k x e)
  where
    by : (slice_get zs k ≡ Some x) ⊎ ((i : ℕ) × (k ≡ length zs + i) × (slice_get ys i ≡ Some x))
        → (slice_get zs k ≡ Some x) ⊎ ((i : ℕ) × (suc k ≡ suc (length zs) + i) × (slice_get ys i ≡ Some x))
    by (inl h) = inl h
    by (inr h) = let place : k ≡ length zs + h.0 = h.1 in inr (h.0, omega (arith, place), h.2)

in_first : {A : Type 0} (xs ys : List A) (i : ℕ) (x : A) → slice_get xs i ≡ Some x → slice_get (xs ++ ys) i ≡ Some x
in_first [] ys i x e = absurd (none_some x e)
in_first (z ∷ zs) ys zero x e = e
in_first (z ∷ zs) ys (suc i) x e = in_first zs ys i x e

in_second : {A : Type 0} (xs ys : List A) (i k : ℕ) (x : A) → k ≡ length xs + i → slice_get ys i ≡ Some x
    → slice_get (xs ++ ys) k ≡ Some x
in_second [] ys i k x p e = let same : i ≡ k = omega (arith, p) in subst (λ n. slice_get ys n ≡ Some x) same e
in_second (z ∷ zs) ys i zero x p e = absurd (omega (arith, p))
in_second (z ∷ zs) ys i (suc k) x p e = in_second zs ys i k x (omega (arith, p)) e

append_length : {A : Type 0} (xs ys : List A) → length (xs ++ ys) ≡ length xs + length ys
append_length [] ys = omega arith
append_length (z ∷ zs) ys = let w : length (zs ++ ys) ≡ length zs + length ys = append_length zs ys in omega (arith, w)

map_length : {A B : Type 0} (f : A → B) (xs : List A) → length (map f xs) ≡ length xs
map_length f [] = refl
map_length f (x ∷ xs) = ap suc (map_length f xs)

-- ---- units

module _ (sss : List (List ℕ)) where
  abbrev made : List Numbers × Joined → CheckedUnit → Numbers × Joined
  made y x = unit_joined (slice_index_or sss (length y.0) []) (length y.0) y.1 x

  made_there : (x : CheckedUnit) (ws : List CheckedUnit) (y : List Numbers × Joined)
      → slice_get (units_joined sss y (x ∷ ws)).0 (length y.0) ≡ Some (made y x).0
  made_there x ws y =
      units_keep sss ws (next_unit sss y x) (length y.0) (made y x).0 (pushed_last y.0 (made y x).0)

  next_length : (x : CheckedUnit) (y : List Numbers × Joined) → length (next_unit sss y x).0 ≡ length y.0 + 1
  next_length x y = pushed_length y.0 (made y x).0

  next_definitions : (x : CheckedUnit) (y : List Numbers × Joined)
      → length (next_unit sss y x).1.definitions ≡ length y.1.definitions + length x.definitions
  next_definitions x y =
      let u : length (made y x).1.definitions
      ≡ length (y.1.definitions ++ renumbered (made y x).0.functions x.definitions) =
      ap length (unit_definitions (slice_index_or sss (length y.0) []) (length y.0) y.1 x) in
      let v : length (y.1.definitions ++ renumbered (made y x).0.functions x.definitions)
      ≡ length y.1.definitions + length (renumbered (made y x).0.functions x.definitions) =
      append_length y.1.definitions (renumbered (made y x).0.functions x.definitions) in
      let w : length (renumbered (made y x).0.functions x.definitions) ≡ length x.definitions =
      map_length (number_in (made y x).0.functions) x.definitions in
      omega (arith, u, v, w)

  -- old definitions stay
  definitions_stay : (ws : List CheckedUnit) (y : List Numbers × Joined) (k n : ℕ) → slice_get y.1.definitions k ≡ Some n
      → slice_get (units_joined sss y ws).1.definitions k ≡ Some n
  definitions_stay [] y k n e = e
  definitions_stay (x ∷ ws) y k n e =
      definitions_stay ws (next_unit sss y x) k n
      (ap (λ ds. slice_get ds k) (unit_definitions (slice_index_or sss (length y.0) []) (length y.0) y.1 x)
      ∙ in_first y.1.definitions (renumbered (made y x).0.functions x.definitions) k n e)

  -- a definition of one of these units
  record IsLater (ws : List CheckedUnit) (y : List Numbers × Joined) (k n : ℕ) : Type 0 where
    unit : ℕ
    checked : CheckedUnit
    numbers : Numbers
    index : ℕ
    function : ℕ
    there : slice_get ws unit ≡ Some checked
    told : slice_get (units_joined sss y ws).0 (length y.0 + unit) ≡ Some numbers
    defined : slice_get checked.definitions index ≡ Some function
    number : n ≡ number_in numbers.functions function
    place : k ≡ length y.1.definitions + (definitions_before ws unit + index)

  definition_from : (ws : List CheckedUnit) (y : List Numbers × Joined) (k n : ℕ)
      → slice_get (units_joined sss y ws).1.definitions k ≡ Some n
      → (slice_get y.1.definitions k ≡ Some n) ⊎ IsLater ws y k n
  definition_from [] y k n e = inl e
  definition_from (x ∷ ws) y k n e = by (definition_from ws (next_unit sss y x) k n e)
    where
      here : (slice_get y.1.definitions k ≡ Some n)
          ⊎ ((i : ℕ) × (k ≡ length y.1.definitions + i) × (slice_get (renumbered (made y x).0.functions x.definitions) i ≡ Some n))
          → (slice_get y.1.definitions k ≡ Some n) ⊎ IsLater (x ∷ ws) y k n
      here (inl h) = inl h
      here (inr h) =
          let d : (d : ℕ) × (slice_get x.definitions h.0 ≡ Some d) × (number_in (made y x).0.functions d ≡ n) =
          map_from (number_in (made y x).0.functions) x.definitions h.0 n h.2 in
          let at : length y.0 ≡ length y.0 + 0 = omega arith in
          let place : k ≡ length y.1.definitions + h.0 = h.1 in
          inr (record {
            unit = 0;
            checked = x;
            numbers = (made y x).0;
            index = h.0;
            function = d.0;
            there = refl;
            told = subst (λ i. slice_get (units_joined sss y (x ∷ ws)).0 i ≡ Some (made y x).0) at (made_there x ws y);
            defined = d.1;
            number = sym d.2;
            place = omega (arith, place);
          })

      by : (slice_get (next_unit sss y x).1.definitions k ≡ Some n) ⊎ IsLater ws (next_unit sss y x) k n
          → (slice_get y.1.definitions k ≡ Some n) ⊎ IsLater (x ∷ ws) y k n
      by (inl h) =
          here (in_either y.1.definitions (renumbered (made y x).0.functions x.definitions) k n
          (ap (λ ds. slice_get ds k) (sym (unit_definitions (slice_index_or sss (length y.0) []) (length y.0) y.1 x)) ∙ h))
      by (inr h) =
          let longer : length (next_unit sss y x).0 ≡ length y.0 + 1 = next_length x y in
          let more : length (next_unit sss y x).1.definitions ≡ length y.1.definitions + length x.definitions = next_definitions x y in
          let at : length (next_unit sss y x).0 + h.unit ≡ length y.0 + suc h.unit = omega (arith, longer) in
          let place : k ≡ length (next_unit sss y x).1.definitions + (definitions_before ws h.unit + h.index) = h.place in
          inr (record {
            unit = suc h.unit;
            checked = h.checked;
            numbers = h.numbers;
            index = h.index;
            function = h.function;
            there = h.there;
            told = subst (λ i. slice_get (units_joined sss y (x ∷ ws)).0 i ≡ Some h.numbers) at h.told;
            defined = h.defined;
            number = h.number;
            place = omega (arith, more, place);
          })

  definition_there : (ws : List CheckedUnit) (y : List Numbers × Joined) (u at : ℕ) (x : CheckedUnit) (ns : Numbers) (i d k : ℕ)
      → at ≡ length y.0 + u → slice_get ws u ≡ Some x → slice_get (units_joined sss y ws).0 at ≡ Some ns
      → slice_get x.definitions i ≡ Some d → k ≡ length y.1.definitions + (definitions_before ws u + i)
      → slice_get (units_joined sss y ws).1.definitions k ≡ Some (number_in ns.functions d)
  definition_there [] y u at x ns i d k p e t f q = absurd (none_some x e)
  definition_there (z ∷ ws) y zero at x ns i d k p e t f q =
      let same : z ≡ x = some_is z x e in
      let first : length y.0 ≡ at = omega (arith, p) in
      let is : (made y z).0 ≡ ns =
      some_is (made y z).0 ns (sym (made_there z ws y) ∙ ap (slice_get (units_joined sss y (z ∷ ws)).0) first ∙ t) in
      let here : slice_get z.definitions i ≡ Some d = subst (λ w. slice_get w.definitions i ≡ Some d) (sym same) f in
      let place : k ≡ length y.1.definitions + i = omega (arith, q) in
      subst (λ w. slice_get (units_joined sss y (z ∷ ws)).1.definitions k ≡ Some (number_in w.functions d)) is
      (definitions_stay ws (next_unit sss y z) k (number_in (made y z).0.functions d)
      (ap (λ ds. slice_get ds k) (unit_definitions (slice_index_or sss (length y.0) []) (length y.0) y.1 z)
      ∙ in_second y.1.definitions (renumbered (made y z).0.functions z.definitions) i k (number_in (made y z).0.functions d) place
      (map_got (number_in (made y z).0.functions) z.definitions i d here)))
  definition_there (z ∷ ws) y (suc u) at x ns i d k p e t f q =
      let longer : length (next_unit sss y z).0 ≡ length y.0 + 1 = next_length z y in
      let more : length (next_unit sss y z).1.definitions ≡ length y.1.definitions + length z.definitions = next_definitions z y in
      definition_there ws (next_unit sss y z) u at x ns i d k (omega (arith, longer, p)) e t f (omega (arith, more, q))

  -- ---- numbers

  record IsNumbered (x : CheckedUnit) (y : List Numbers) (at : ℕ) : Type 0 where
    numbers : Numbers
    told : slice_get y at ≡ Some numbers
    objects : length numbers.objects ≡ length x.objects
    functions : length numbers.functions ≡ length x.functions

  numbered : (ws : List CheckedUnit) (y : List Numbers × Joined) (u at : ℕ) (x : CheckedUnit) → at ≡ length y.0 + u
      → slice_get ws u ≡ Some x → IsNumbered x (units_joined sss y ws).0 at
  numbered [] y u at x p e = absurd (none_some x e)
  numbered (z ∷ ws) y zero at x p e =
      let same : z ≡ x = some_is z x e in
      let first : length y.0 ≡ at = omega (arith, p) in
      subst (λ w. IsNumbered w (units_joined sss y (z ∷ ws)).0 at) same (record {
        numbers = (made y z).0;
        told = subst (λ i. slice_get (units_joined sss y (z ∷ ws)).0 i ≡ Some (made y z).0) first (made_there z ws y);
        objects = unit_objects_length (slice_index_or sss (length y.0) []) (length y.0) y.1 z;
        functions = unit_functions_length (slice_index_or sss (length y.0) []) (length y.0) y.1 z;
      })
  numbered (z ∷ ws) y (suc u) at x p e =
      let longer : length (next_unit sss y z).0 ≡ length y.0 + 1 = next_length z y in
      numbered ws (next_unit sss y z) u at x (omega (arith, longer, p)) e

pub linked_definitions : LinkedDefinitions
linked_definitions sss xs k n e = by (definition_from sss xs ([], nothing_joined) k n e)
  where
    none_there : slice_get [] k ≡ Some n → ⊥
    none_there e = absurd (cc)

    by : (slice_get [] k ≡ Some n) ⊎ IsLater sss xs ([], nothing_joined) k n → IsDefinition xs (all_joined sss xs).0 k n
    by (inl h) = absurd (none_there h)
    by (inr h) =
        let at : 0 + h.unit ≡ h.unit = omega arith in
        let place : k ≡ 0 + (definitions_before xs h.unit + h.index) = h.place in
        record {
          unit = h.unit;
          checked = h.checked;
          numbers = h.numbers;
          index = h.index;
          function = h.function;
          there = h.there;
          told = subst (λ i. slice_get (all_joined sss xs).0 i ≡ Some h.numbers) at h.told;
          defined = h.defined;
          number = h.number;
          place = omega (arith, place);
        }

pub definitions_there : LinkedDefinitionsAreThere
definitions_there sss xs u x ns i d at told defined =
    definition_there sss xs ([], nothing_joined) u u x ns i d (definitions_before xs u + i) (omega arith) at told defined (omega arith)

numbers_of : (sss : List (List ℕ)) (xs : List CheckedUnit) (u : ℕ) (x : CheckedUnit) (ns : Numbers) → slice_get xs u ≡ Some x
    → slice_get (all_joined sss xs).0 u ≡ Some ns
    → (length ns.objects ≡ length x.objects) × (length ns.functions ≡ length x.functions)
numbers_of sss xs u x ns at told =
    let w : IsNumbered sss x (all_joined sss xs).0 u = numbered sss xs ([], nothing_joined) u u x (omega arith) at in
    subst (λ z. (length z.objects ≡ length x.objects) × (length z.functions ≡ length x.functions))
    (some_is w.numbers ns (sym w.told ∙ told)) (w.objects, w.functions)

pub objects_numbered : ObjectsAreNumbered
objects_numbered sss xs u x ns k o at told there =
    let same : length ns.objects ≡ length x.objects = (numbers_of sss xs u x ns at told).0 in
    let low : k < length x.objects = get_below x.objects k o there in
    get_there ns.objects k (omega (arith, same, low))

pub functions_numbered : FunctionsAreNumbered
functions_numbered sss xs u x ns k f at told there =
    let same : length ns.functions ≡ length x.functions = (numbers_of sss xs u x ns at told).1 in
    let low : k < length x.functions = get_below x.functions k f there in
    get_there ns.functions k (omega (arith, same, low))
