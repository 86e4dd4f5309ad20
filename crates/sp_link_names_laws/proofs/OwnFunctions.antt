-- A function whose name isn't external has an entry of its own.
use Rattle.std.proofs.Common.{◌≡◌, ◌≢◌, ℕ, zero, suc, ◌+◌, ◌<◌, Bool, true, false, if◌then◌else◌, nat_eq, length, List, [], ◌∷◌, ◌++◌, Option, Some, None, ◌⊎◌, inl, inr, refl, ap, sym, subst, ◌∙◌, true≢false, arith}
use Rattle.std.specs.Prelude.{slice_get, slice_index_or}
use Rattle.indexmap.specs.IndexMap.{insert_entry}
use Rattle.sp_types.specs.Types.{Struct}
use Rattle.sp_types.specs.Programs.{Object as TypedObject, Function as TypedFunction}
use Rattle.sp_check_scopes.specs.Scopes.{entry}
use Rattle.sp_check_env.specs.declared.env.Entity.{Entity}
use Rattle.sp_check_env.specs.declared.env.Entity.TheVariants.{Object, Function}
use Rattle.sp_base_checked.specs.Units.{CheckedUnit}
use Rattle.sp_link_conflicts.specs.Declarations.{is_external}
use Rattle.sp_link_entries.specs.Entries.{ObjectEntry, FunctionEntry, Joined, Numbers, nothing_joined, linked}
use Rattle.sp_link_entries.specs.Objects.{owned_by, is_dropped, object_entry, object_met, object_apart, object_linked, object_joined, next_object, objects_joined}
use Rattle.sp_link_entries.specs.Functions.{function_entry, function_composed, function_met, function_apart, function_linked, function_joined, next_function, functions_joined}
use Rattle.sp_link_entries.specs.Units.{unit_joined, next_unit, units_joined}
use Rattle.sp_link_names_laws.specs.Names.{HasOwnFunction, StaticFunctionsStayApart}
use Rattle.sp_link_names_laws.proofs.Numbered.{pushed_before, pushed_last, pushed_length, some_is, functions_keep, behind_objects, at_each}
use Rattle.sp_link_names_laws.proofs.Own.{get_below, set_other, inserted_from, pushed_longer, set_length}

function_is : (k n : ℕ) → Function k ≡ Function n → k ≡ n
function_is k n e = cc

no_function : (k n : ℕ) → Object k ≡ Function n → ⊥
no_function k n e = absurd (cc)

-- ---- what stays

abbrev pub Keeps : Joined → Joined → Type 0
Keeps j i = (n : ℕ) (f : FunctionEntry) → HasOwnFunction j n f → HasOwnFunction i n f

module _ (j : Joined) (e : FunctionEntry) where
  pushed_keeps : Keeps j (function_apart j e).1
  pushed_keeps n f h = record { at = pushed_before j.functions e f n h.at; unlinked = h.unlinked }

  first_unlinked : (n : ℕ) → n < length j.functions → ((m : ℕ) → entry j.links m ≡ Some (Function n) → ⊥)
      → (m : ℕ) → entry (insert_entry nat_eq j.links e.source.name (Function (length j.functions))) m ≡ Some (Function n) → ⊥
  first_unlinked n low h m g = by (inserted_from j.links e.source.name (Function (length j.functions)) m (Function n) g)
    where
      by : (entry j.links m ≡ Some (Function n)) ⊎ (Function (length j.functions) ≡ Function n) → ⊥
      by (inl w) = h m w
      by (inr w) = let same : length j.functions ≡ n = function_is (length j.functions) n w in absurd (omega arith)

  met_keeps : (k : ℕ) (old : Option FunctionEntry) → entry j.links e.source.name ≡ Some (Function k) → Keeps j (function_met j k e old)
  met_keeps k None g n f h = h
  met_keeps k (Some old) g n f h =
      let other : k ≢ n = (λ same. h.unlinked e.source.name (g ∙ ap (λ z. Some (Function z)) same)) in
      record { at = set_other j.functions k (function_composed old e) n other ∙ h.at; unlinked = h.unlinked }

  linked_keeps : (l : Option Entity) → linked j e.source.name ≡ l → Keeps j (function_linked j e l).1
  linked_keeps None g n f h = record {
    at = pushed_before j.functions e f n h.at;
    unlinked = first_unlinked n (get_below j.functions n f h.at) h.unlinked;
  }
  linked_keeps (Some (Function k)) g n f h = met_keeps k (slice_get j.functions k) g n f h
  linked_keeps (Some (Object k)) g n f h = pushed_keeps n f h

  choice_keeps : (b : Bool) → Keeps j (if b then function_linked j e (linked j e.source.name) else function_apart j e).1
  choice_keeps true n f h = linked_keeps (linked j e.source.name) refl n f h
  choice_keeps false n f h = pushed_keeps n f h

  function_keeps : Keeps j (function_joined j e).1
  function_keeps = choice_keeps (is_external e.source.linkage)

module _ (j : Joined) (e : ObjectEntry) where
  object_met_keeps : (k : ℕ) (old : Option ObjectEntry) → Keeps j (object_met j k e old)
  object_met_keeps k None n f h = h
  object_met_keeps k (Some old) n f h = record { at = h.at; unlinked = h.unlinked }

  object_unlinked : (n : ℕ) → ((m : ℕ) → entry j.links m ≡ Some (Function n) → ⊥)
      → (m : ℕ) → entry (insert_entry nat_eq j.links e.source.name (Object (length j.objects))) m ≡ Some (Function n) → ⊥
  object_unlinked n h m g = by (inserted_from j.links e.source.name (Object (length j.objects)) m (Function n) g)
    where
      by : (entry j.links m ≡ Some (Function n)) ⊎ (Object (length j.objects) ≡ Function n) → ⊥
      by (inl w) = h m w
      by (inr w) = no_function (length j.objects) n w

  object_apart_keeps : Keeps j (object_apart j e).1
  object_apart_keeps n f h = record { at = h.at; unlinked = h.unlinked }

  object_linked_keeps : (l : Option Entity) → Keeps j (object_linked j e l).1
  object_linked_keeps None n f h = record { at = h.at; unlinked = object_unlinked n h.unlinked }
  object_linked_keeps (Some (Object k)) n f h = object_met_keeps k (slice_get j.objects k) n f h
  object_linked_keeps (Some (Function k)) n f h = object_apart_keeps n f h

  object_choice_keeps : (b : Bool) → Keeps j (if b then object_linked j e (linked j e.source.name) else object_apart j e).1
  object_choice_keeps true n f h = object_linked_keeps (linked j e.source.name) n f h
  object_choice_keeps false n f h = object_apart_keeps n f h

  object_keeps : Keeps j (object_joined j e).1
  object_keeps = object_choice_keeps (is_external e.source.linkage)

-- ---- the objects of a unit

module _ (ts : List Struct) (ss fs : List ℕ) (u : ℕ) where
  next_keeps_own : (y : List ℕ × Joined) (b : Bool) (o : TypedObject) → Keeps y.1 (next_object ts ss u y b o).1
  next_keeps_own y true o n f h = h
  next_keeps_own y false o n f h = object_keeps y.1 (object_entry ts ss u o) n f h

  objects_keep_own : (os : List TypedObject) (y : List ℕ × Joined) → Keeps y.1 (objects_joined ts ss fs u y os).1
  objects_keep_own [] y n f h = h
  objects_keep_own (o ∷ os) y n f h =
      objects_keep_own os (next_object ts ss u y (is_dropped fs (length y.0) o.storage) o) n f (next_keeps_own y (is_dropped fs (length y.0) o.storage) o n f h)

-- ---- links lead to entries that are there

abbrev pub AreBounded : Joined → Type 0
AreBounded j = (m k : ℕ) → entry j.links m ≡ Some (Function k) → k < length j.functions

module _ (j : Joined) (e : FunctionEntry) (b : AreBounded j) where
  apart_bounded : AreBounded (function_apart j e).1
  apart_bounded m k g =
      let low : k < length j.functions = b m k g in
      let longer : length (j.functions ++ e ∷ []) ≡ length j.functions + 1 = pushed_longer j.functions e in
      omega arith

  linked_bounded : (l : Option Entity) → AreBounded (function_linked j e l).1
  linked_bounded None m k g = by (inserted_from j.links e.source.name (Function (length j.functions)) m (Function k) g)
    where
      by : (entry j.links m ≡ Some (Function k)) ⊎ (Function (length j.functions) ≡ Function k) → k < length (j.functions ++ e ∷ [])
      by (inl w) = apart_bounded m k w
      by (inr w) =
          let same : length j.functions ≡ k = function_is (length j.functions) k w in
          let longer : length (j.functions ++ e ∷ []) ≡ length j.functions + 1 = pushed_longer j.functions e in
          omega arith
  linked_bounded (Some (Function n)) m k g = met (slice_get j.functions n) g
    where
      met : (o : Option FunctionEntry) → entry (function_met j n e o).links m ≡ Some (Function k) → k < length (function_met j n e o).functions
      met None w = b m k w
      met (Some old) w = subst (λ z. k < z) (sym (set_length j.functions n (function_composed old e))) (b m k w)
  linked_bounded (Some (Object n)) m k g = apart_bounded m k g

  choice_bounded : (c : Bool) → AreBounded (if c then function_linked j e (linked j e.source.name) else function_apart j e).1
  choice_bounded true = linked_bounded (linked j e.source.name)
  choice_bounded false = apart_bounded

  function_bounded : AreBounded (function_joined j e).1
  function_bounded = choice_bounded (is_external e.source.linkage)

  -- one that isn't external has its own entry
  apart_own : HasOwnFunction (function_apart j e).1 (length j.functions) e
  apart_own = record {
    at = pushed_last j.functions e;
    unlinked = λ m g. (let low : length j.functions < length j.functions = b m (length j.functions) g in absurd (omega arith));
  }

  choice_own : (c : Bool) → c ≡ false
      → HasOwnFunction (if c then function_linked j e (linked j e.source.name) else function_apart j e).1 (if c then function_linked j e (linked j e.source.name) else function_apart j e).0 e
  choice_own true w = absurd (true≢false w)
  choice_own false w = apart_own

  function_own : is_external e.source.linkage ≡ false → HasOwnFunction (function_joined j e).1 (function_joined j e).0 e
  function_own w = choice_own (is_external e.source.linkage) w

module _ (j : Joined) (e : ObjectEntry) (b : AreBounded j) where
  object_linked_bounded : (l : Option Entity) → AreBounded (object_linked j e l).1
  object_linked_bounded None m k g = by (inserted_from j.links e.source.name (Object (length j.objects)) m (Function k) g)
    where
      by : (entry j.links m ≡ Some (Function k)) ⊎ (Object (length j.objects) ≡ Function k) → k < length j.functions
      by (inl w) = b m k w
      by (inr w) = absurd (no_function (length j.objects) k w)
  object_linked_bounded (Some (Object n)) m k g = met (slice_get j.objects n) g
    where
      met : (o : Option ObjectEntry) → entry (object_met j n e o).links m ≡ Some (Function k) → k < length (object_met j n e o).functions
      met None w = b m k w
      met (Some old) w = b m k w
  object_linked_bounded (Some (Function n)) m k g = b m k g

  object_choice_bounded : (c : Bool) → AreBounded (if c then object_linked j e (linked j e.source.name) else object_apart j e).1
  object_choice_bounded true m k g = object_linked_bounded (linked j e.source.name) m k g
  object_choice_bounded false m k g = b m k g

  object_bounded : AreBounded (object_joined j e).1
  object_bounded = object_choice_bounded (is_external e.source.linkage)

module _ (ts : List Struct) (ss fs : List ℕ) (u : ℕ) where
  next_bounded : (y : List ℕ × Joined) (b : Bool) (o : TypedObject) → AreBounded y.1 → AreBounded (next_object ts ss u y b o).1
  next_bounded y true o h = h
  next_bounded y false o h = object_bounded y.1 (object_entry ts ss u o) h

  objects_bounded : (os : List TypedObject) (y : List ℕ × Joined) → AreBounded y.1 → AreBounded (objects_joined ts ss fs u y os).1
  objects_bounded [] y h = h
  objects_bounded (o ∷ os) y h = objects_bounded os (next_object ts ss u y (is_dropped fs (length y.0) o.storage) o) (next_bounded y (is_dropped fs (length y.0) o.storage) o h)

-- ---- the functions of a unit

module _ (ss : List ℕ) (u : ℕ) where
  functions_keep_own : (fs : List TypedFunction) (y : List ℕ × Joined) → Keeps y.1 (functions_joined ss u y fs).1
  functions_keep_own [] y n w h = h
  functions_keep_own (f ∷ fs) y n w h = functions_keep_own fs (next_function ss u y f) n w (function_keeps y.1 (function_entry ss u f) n w h)

  functions_bounded : (fs : List TypedFunction) (y : List ℕ × Joined) → AreBounded y.1 → AreBounded (functions_joined ss u y fs).1
  functions_bounded [] y h = h
  functions_bounded (f ∷ fs) y h = functions_bounded fs (next_function ss u y f) (function_bounded y.1 (function_entry ss u f) h)

  functions_own : (fs : List TypedFunction) (y : List ℕ × Joined) (i : ℕ) (f : TypedFunction) (k at : ℕ) → AreBounded y.1 → at ≡ length y.0 + i → slice_get fs i ≡ Some f → is_external f.linkage ≡ false
      → slice_get (functions_joined ss u y fs).0 at ≡ Some k → HasOwnFunction (functions_joined ss u y fs).1 k (function_entry ss u f)
  functions_own [] y i f k at h p e t n = absurd (cc)
  functions_own (x ∷ xs) y zero f k at h p e t n =
      let same : x ≡ f = some_is x f e in
      let place : at ≡ length y.0 = omega arith in
      let z : ℕ × Joined = function_joined y.1 (function_entry ss u x) in
      let now : slice_get (functions_joined ss u y (x ∷ xs)).0 (length y.0) ≡ Some z.0 = functions_keep ss u xs (next_function ss u y x) (length y.0) z.0 (pushed_last y.0 z.0) in
      let number : slice_get (functions_joined ss u y (x ∷ xs)).0 (length y.0) ≡ Some k = subst (λ w. slice_get (functions_joined ss u y (x ∷ xs)).0 w ≡ Some k) place n in
      let is : z.0 ≡ k = some_is z.0 k (sym now ∙ number) in
      subst (λ w. HasOwnFunction (functions_joined ss u y (x ∷ xs)).1 k (function_entry ss u w)) same
      (functions_keep_own xs (next_function ss u y x) k (function_entry ss u x)
      (subst (λ w. HasOwnFunction z.1 w (function_entry ss u x)) is (function_own y.1 (function_entry ss u x) h (subst (λ w. is_external w.linkage ≡ false) (sym same) t))))
  functions_own (x ∷ xs) y (suc i) f k at h p e t n =
      let longer : length (next_function ss u y x).0 ≡ length y.0 + 1 = pushed_length y.0 (function_joined y.1 (function_entry ss u x)).0 in
      functions_own xs (next_function ss u y x) i f k at (function_bounded y.1 (function_entry ss u x) h) (omega (arith, longer, p)) e t n

-- ---- units

module _ (ss : List ℕ) (u : ℕ) (j : Joined) (x : CheckedUnit) where
  texts : (n : ℕ) (f : FunctionEntry) → HasOwnFunction (functions_joined ss u ([], (behind_objects ss u j x).1) x.functions).1 n f → HasOwnFunction (unit_joined ss u j x).1 n f
  texts n f w = record { at = w.at; unlinked = w.unlinked }

  unit_keeps_own : Keeps j (unit_joined ss u j x).1
  unit_keeps_own n f h =
      texts n f (functions_keep_own ss u x.functions ([], (behind_objects ss u j x).1) n f
      (objects_keep_own x.structs ss (owned_by x.functions x.definitions) u x.objects ([], j) n f h))

  unit_bounded : AreBounded j → AreBounded (unit_joined ss u j x).1
  unit_bounded b m k g =
      functions_bounded ss u x.functions ([], (behind_objects ss u j x).1)
      (objects_bounded x.structs ss (owned_by x.functions x.definitions) u x.objects ([], j) b) m k g

abbrev HaveOwn : ℕ → CheckedUnit → Numbers → Joined → Type 0
HaveOwn u x m j = (k : ℕ) (f : TypedFunction) (n : ℕ) → slice_get x.functions k ≡ Some f → slice_get m.functions k ≡ Some n → is_external f.linkage ≡ false → HasOwnFunction j n (function_entry m.structs u f)

unit_own : (ss : List ℕ) (u : ℕ) (j : Joined) (x : CheckedUnit) → AreBounded j → HaveOwn u x (unit_joined ss u j x).0 (unit_joined ss u j x).1
unit_own ss u j x b k f n e number t =
    texts ss u j x n (function_entry ss u f) (functions_own ss u x.functions ([], (behind_objects ss u j x).1) k f n k
    (objects_bounded x.structs ss (owned_by x.functions x.definitions) u x.objects ([], j) b) (omega arith) e t number)

units_keep_own : (sss : List (List ℕ)) (xs : List CheckedUnit) (y : List Numbers × Joined) → Keeps y.1 (units_joined sss y xs).1
units_keep_own sss [] y n f h = h
units_keep_own sss (x ∷ xs) y n f h =
    units_keep_own sss xs (next_unit sss y x) n f (unit_keeps_own (slice_index_or sss (length y.0) []) (length y.0) y.1 x n f h)

none_bounded : AreBounded nothing_joined
none_bounded m k e = absurd (cc)

pub static_functions_stay_apart : StaticFunctionsStayApart
static_functions_stay_apart sss xs u x m k f n at numbers e number t =
    at_each sss HaveOwn Keeps AreBounded unit_bounded unit_own (λ u x m j i y p. λ k f n e v t. y n (function_entry m.structs u f) (p k f n e v t)) (units_keep_own sss)
    xs ([], nothing_joined) none_bounded u x m u (omega arith) at numbers k f n e number t
