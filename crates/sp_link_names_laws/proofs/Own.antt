-- An object whose name isn't external has an entry of its own.
use Rattle.std.proofs.Common.{◌≡◌, ◌≢◌, ℕ, zero, suc, ◌+◌, ◌<◌, Bool, true, false, cond, if◌then◌else◌, nat_eq, length, List, [], ◌∷◌, ◌++◌, Option, Some, None, ◌⊎◌, inl, inr, refl, ap, sym, subst, ◌∙◌, true≢false, arith}
use Rattle.std.specs.Prelude.{slice_get, slice_set, slice_index_or}
use Rattle.indexmap.specs.IndexMap.{insert_entry}
use Rattle.sp_types.specs.Types.{Struct}
use Rattle.sp_types.specs.Programs.{Object as TypedObject, Function as TypedFunction}
use Rattle.sp_check_scopes.specs.Scopes.{entry}
use Rattle.sp_check_env.specs.declared.env.Entity.{Entity}
use Rattle.sp_check_env.specs.declared.env.Entity.TheVariants.{Object, Function}
use Rattle.sp_base_checked.specs.Units.{CheckedUnit}
use Rattle.sp_link_conflicts.specs.Declarations.{is_external}
use Rattle.sp_link_entries.specs.Entries.{ObjectEntry, FunctionEntry, Joined, Numbers, nothing_joined, linked}
use Rattle.sp_link_entries.specs.Objects.{owned_by, is_dropped, object_entry, object_composed, object_met, object_apart, object_linked, object_joined, next_object, objects_joined}
use Rattle.sp_link_entries.specs.Functions.{function_entry, function_met, function_apart, function_linked, function_joined, next_function, functions_joined}
use Rattle.sp_link_entries.specs.Units.{unit_joined, next_unit, units_joined}
use Rattle.sp_link_names_laws.specs.Names.{HasOwnEntry, OthersStayApart}
use Rattle.sp_link_names_laws.proofs.Numbered.{pushed_before, pushed_last, some_is, objects_keep, next_longer, behind_objects, at_each}

-- ---- lists and maps

pub get_below : {A : Type 0} (xs : List A) (i : ℕ) (x : A) → slice_get xs i ≡ Some x → i < length xs
get_below [] i x e = absurd (cc)
get_below (y ∷ ys) zero x e = omega arith
get_below (y ∷ ys) (suc i) x e = let low : i < length ys = get_below ys i x e in omega arith

pub set_other : {A : Type 0} (xs : List A) (k : ℕ) (v : A) (n : ℕ) → k ≢ n → slice_get (slice_set xs k v) n ≡ slice_get xs n
set_other [] k v n d = refl
set_other (x ∷ xs) zero v zero d = absurd (d refl)
set_other (x ∷ xs) zero v (suc n) d = refl
set_other (x ∷ xs) (suc k) v zero d = refl
set_other (x ∷ xs) (suc k) v (suc n) d = set_other xs k v n (λ e. d (ap suc e))

pub inserted_from : (es : List (ℕ × Entity)) (n : ℕ) (v : Entity) (m : ℕ) (r : Entity) → entry (insert_entry nat_eq es n v) m ≡ Some r → (entry es m ≡ Some r) ⊎ (v ≡ r)
inserted_from [] n v m r h = by (nat_eq m n) h
  where
    by : (b : Bool) → cond b (Some v) None ≡ Some r → (None ≡ Some r) ⊎ (v ≡ r)
    by true g = inr (some_is v r g)
    by false g = inl g
inserted_from (e ∷ es) n v m r h = by (nat_eq n e.0) h (inserted_from es n v m r)
  where
    old : (c : Bool) → cond c (Some v) (entry es m) ≡ Some r → (cond c (Some e.1) (entry es m) ≡ Some r) ⊎ (v ≡ r)
    old true g = inr (some_is v r g)
    old false g = inl g

    rest : (c : Bool) → cond c (Some e.1) (entry (insert_entry nat_eq es n v) m) ≡ Some r → (entry (insert_entry nat_eq es n v) m ≡ Some r → (entry es m ≡ Some r) ⊎ (v ≡ r)) → (cond c (Some e.1) (entry es m) ≡ Some r) ⊎ (v ≡ r)
    rest true g ih = inl g
    rest false g ih = ih g

    by : (b : Bool) → entry (cond b ((e.0, v) ∷ es) (e ∷ insert_entry nat_eq es n v)) m ≡ Some r → (entry (insert_entry nat_eq es n v) m ≡ Some r → (entry es m ≡ Some r) ⊎ (v ≡ r)) → (entry (e ∷ es) m ≡ Some r) ⊎ (v ≡ r)
    by true g ih = old (nat_eq m e.0) g
    by false g ih = rest (nat_eq m e.0) g ih

object_is : (k n : ℕ) → Object k ≡ Object n → k ≡ n
object_is k n e = cc

no_object : (k n : ℕ) → Function k ≡ Object n → ⊥
no_object k n e = absurd (cc)

-- ---- what stays

abbrev pub Keeps : Joined → Joined → Type 0
Keeps j i = (n : ℕ) (x : ObjectEntry) → HasOwnEntry j n x → HasOwnEntry i n x

module _ (j : Joined) (e : ObjectEntry) where
  pushed_keeps : Keeps j (object_apart j e).1
  pushed_keeps n x h = record { at = pushed_before j.objects e x n h.at; unlinked = h.unlinked }

  first_unlinked : (n : ℕ) → n < length j.objects → ((m : ℕ) → entry j.links m ≡ Some (Object n) → ⊥)
      → (m : ℕ) → entry (insert_entry nat_eq j.links e.source.name (Object (length j.objects))) m ≡ Some (Object n) → ⊥
  first_unlinked n low h m g = by (inserted_from j.links e.source.name (Object (length j.objects)) m (Object n) g)
    where
      by : (entry j.links m ≡ Some (Object n)) ⊎ (Object (length j.objects) ≡ Object n) → ⊥
      by (inl f) = h m f
      by (inr f) = let same : length j.objects ≡ n = object_is (length j.objects) n f in absurd (omega arith)

  met_keeps : (k : ℕ) (old : Option ObjectEntry) → entry j.links e.source.name ≡ Some (Object k) → Keeps j (object_met j k e old)
  met_keeps k None g n x h = h
  met_keeps k (Some old) g n x h =
      let other : k ≢ n = (λ same. h.unlinked e.source.name (g ∙ ap (λ z. Some (Object z)) same)) in
      record { at = set_other j.objects k (object_composed old e) n other ∙ h.at; unlinked = h.unlinked }

  linked_keeps : (l : Option Entity) → linked j e.source.name ≡ l → Keeps j (object_linked j e l).1
  linked_keeps None g n x h = record {
    at = pushed_before j.objects e x n h.at;
    unlinked = first_unlinked n (get_below j.objects n x h.at) h.unlinked;
  }
  linked_keeps (Some (Object k)) g n x h = met_keeps k (slice_get j.objects k) g n x h
  linked_keeps (Some (Function k)) g n x h = pushed_keeps n x h

  choice_keeps : (b : Bool) → Keeps j (if b then object_linked j e (linked j e.source.name) else object_apart j e).1
  choice_keeps true n x h = linked_keeps (linked j e.source.name) refl n x h
  choice_keeps false n x h = pushed_keeps n x h

  object_keeps : Keeps j (object_joined j e).1
  object_keeps = choice_keeps (is_external e.source.linkage)

module _ (j : Joined) (e : FunctionEntry) where
  function_met_keeps : (k : ℕ) (old : Option FunctionEntry) → Keeps j (function_met j k e old)
  function_met_keeps k None n x h = h
  function_met_keeps k (Some old) n x h = record { at = h.at; unlinked = h.unlinked }

  function_unlinked : (n : ℕ) → ((m : ℕ) → entry j.links m ≡ Some (Object n) → ⊥)
      → (m : ℕ) → entry (insert_entry nat_eq j.links e.source.name (Function (length j.functions))) m ≡ Some (Object n) → ⊥
  function_unlinked n h m g = by (inserted_from j.links e.source.name (Function (length j.functions)) m (Object n) g)
    where
      by : (entry j.links m ≡ Some (Object n)) ⊎ (Function (length j.functions) ≡ Object n) → ⊥
      by (inl f) = h m f
      by (inr f) = no_object (length j.functions) n f

  function_apart_keeps : Keeps j (function_apart j e).1
  function_apart_keeps n x h = record { at = h.at; unlinked = h.unlinked }

  function_linked_keeps : (l : Option Entity) → Keeps j (function_linked j e l).1
  function_linked_keeps None n x h = record { at = h.at; unlinked = function_unlinked n h.unlinked }
  function_linked_keeps (Some (Function k)) n x h = function_met_keeps k (slice_get j.functions k) n x h
  function_linked_keeps (Some (Object k)) n x h = function_apart_keeps n x h

  function_choice_keeps : (b : Bool) → Keeps j (if b then function_linked j e (linked j e.source.name) else function_apart j e).1
  function_choice_keeps true n x h = function_linked_keeps (linked j e.source.name) n x h
  function_choice_keeps false n x h = function_apart_keeps n x h

  function_keeps : Keeps j (function_joined j e).1
  function_keeps = function_choice_keeps (is_external e.source.linkage)

-- ---- the objects of a unit

module _ (ts : List Struct) (ss fs : List ℕ) (u : ℕ) where
  next_keeps_own : (y : List ℕ × Joined) (b : Bool) (o : TypedObject) → Keeps y.1 (next_object ts ss u y b o).1
  next_keeps_own y true o n x h = h
  next_keeps_own y false o n x h = object_keeps y.1 (object_entry ts ss u o) n x h

  objects_keep_own : (os : List TypedObject) (y : List ℕ × Joined) → Keeps y.1 (objects_joined ts ss fs u y os).1
  objects_keep_own [] y n x h = h
  objects_keep_own (o ∷ os) y n x h =
      objects_keep_own os (next_object ts ss u y (is_dropped fs (length y.0) o.storage) o) n x (next_keeps_own y (is_dropped fs (length y.0) o.storage) o n x h)

-- ---- links lead to entries that are there

abbrev pub AreBounded : Joined → Type 0
AreBounded j = (m k : ℕ) → entry j.links m ≡ Some (Object k) → k < length j.objects

pub pushed_longer : {A : Type 0} (xs : List A) (y : A) → length (xs ++ y ∷ []) ≡ length xs + 1
pushed_longer [] y = omega arith
pushed_longer (z ∷ zs) y = let w : length (zs ++ y ∷ []) ≡ length zs + 1 = pushed_longer zs y in omega arith

pub set_length : {A : Type 0} (xs : List A) (k : ℕ) (v : A) → length (slice_set xs k v) ≡ length xs
set_length [] k v = refl
set_length (x ∷ xs) zero v = refl
set_length (x ∷ xs) (suc k) v = ap suc (set_length xs k v)

module _ (j : Joined) (e : ObjectEntry) (b : AreBounded j) where
  apart_bounded : AreBounded (object_apart j e).1
  apart_bounded m k g =
      let low : k < length j.objects = b m k g in
      let longer : length (j.objects ++ e ∷ []) ≡ length j.objects + 1 = pushed_longer j.objects e in
      omega arith

  linked_bounded : (l : Option Entity) → AreBounded (object_linked j e l).1
  linked_bounded None m k g = by (inserted_from j.links e.source.name (Object (length j.objects)) m (Object k) g)
    where
      by : (entry j.links m ≡ Some (Object k)) ⊎ (Object (length j.objects) ≡ Object k) → k < length (j.objects ++ e ∷ [])
      by (inl f) = apart_bounded m k f
      by (inr f) =
          let same : length j.objects ≡ k = object_is (length j.objects) k f in
          let longer : length (j.objects ++ e ∷ []) ≡ length j.objects + 1 = pushed_longer j.objects e in
          omega arith
  linked_bounded (Some (Object n)) m k g = met (slice_get j.objects n) g
    where
      met : (o : Option ObjectEntry) → entry (object_met j n e o).links m ≡ Some (Object k) → k < length (object_met j n e o).objects
      met None f = b m k f
      met (Some old) f = subst (λ z. k < z) (sym (set_length j.objects n (object_composed old e))) (b m k f)
  linked_bounded (Some (Function n)) m k g = apart_bounded m k g

  choice_bounded : (c : Bool) → AreBounded (if c then object_linked j e (linked j e.source.name) else object_apart j e).1
  choice_bounded true = linked_bounded (linked j e.source.name)
  choice_bounded false = apart_bounded

  object_bounded : AreBounded (object_joined j e).1
  object_bounded = choice_bounded (is_external e.source.linkage)

  -- one that isn't external has its own entry
  apart_own : HasOwnEntry (object_apart j e).1 (length j.objects) e
  apart_own = record {
    at = pushed_last j.objects e;
    unlinked = λ m g. (let low : length j.objects < length j.objects = b m (length j.objects) g in absurd (omega arith));
  }

  choice_own : (c : Bool) → c ≡ false
      → HasOwnEntry (if c then object_linked j e (linked j e.source.name) else object_apart j e).1 (if c then object_linked j e (linked j e.source.name) else object_apart j e).0 e
  choice_own true f = absurd (true≢false f)
  choice_own false f = apart_own

  object_own : is_external e.source.linkage ≡ false → HasOwnEntry (object_joined j e).1 (object_joined j e).0 e
  object_own f = choice_own (is_external e.source.linkage) f

module _ (j : Joined) (e : FunctionEntry) (b : AreBounded j) where
  function_linked_bounded : (l : Option Entity) → AreBounded (function_linked j e l).1
  function_linked_bounded None m k g = by (inserted_from j.links e.source.name (Function (length j.functions)) m (Object k) g)
    where
      by : (entry j.links m ≡ Some (Object k)) ⊎ (Function (length j.functions) ≡ Object k) → k < length j.objects
      by (inl f) = b m k f
      by (inr f) = absurd (no_object (length j.functions) k f)
  function_linked_bounded (Some (Function n)) m k g = met (slice_get j.functions n) g
    where
      met : (o : Option FunctionEntry) → entry (function_met j n e o).links m ≡ Some (Object k) → k < length (function_met j n e o).objects
      met None f = b m k f
      met (Some old) f = b m k f
  function_linked_bounded (Some (Object n)) m k g = b m k g

  function_choice_bounded : (c : Bool) → AreBounded (if c then function_linked j e (linked j e.source.name) else function_apart j e).1
  function_choice_bounded true m k g = function_linked_bounded (linked j e.source.name) m k g
  function_choice_bounded false m k g = b m k g

  function_bounded : AreBounded (function_joined j e).1
  function_bounded = function_choice_bounded (is_external e.source.linkage)

-- ---- the objects of a unit

module _ (ts : List Struct) (ss fs : List ℕ) (u : ℕ) where
  next_bounded : (y : List ℕ × Joined) (b : Bool) (o : TypedObject) → AreBounded y.1 → AreBounded (next_object ts ss u y b o).1
  next_bounded y true o h = h
  next_bounded y false o h = object_bounded y.1 (object_entry ts ss u o) h

  objects_bounded : (os : List TypedObject) (y : List ℕ × Joined) → AreBounded y.1 → AreBounded (objects_joined ts ss fs u y os).1
  objects_bounded [] y h = h
  objects_bounded (o ∷ os) y h = objects_bounded os (next_object ts ss u y (is_dropped fs (length y.0) o.storage) o) (next_bounded y (is_dropped fs (length y.0) o.storage) o h)

  own_here : (o : TypedObject) (os : List TypedObject) (y : List ℕ × Joined) (k : ℕ) (b : Bool) → AreBounded y.1 → b ≡ false → is_external o.linkage ≡ false
      → slice_get (objects_joined ts ss fs u (next_object ts ss u y b o) os).0 (length y.0) ≡ Some k → HasOwnEntry (objects_joined ts ss fs u (next_object ts ss u y b o) os).1 k (object_entry ts ss u o)
  own_here o os y k true h f t e = absurd (true≢false f)
  own_here o os y k false h f t e =
      let z : ℕ × Joined = object_joined y.1 (object_entry ts ss u o) in
      let now : slice_get (objects_joined ts ss fs u (next_object ts ss u y false o) os).0 (length y.0) ≡ Some z.0 =
      objects_keep ts ss fs u os (next_object ts ss u y false o) (length y.0) z.0 (pushed_last y.0 z.0) in
      let same : z.0 ≡ k = some_is z.0 k (sym now ∙ e) in
      objects_keep_own ts ss fs u os (next_object ts ss u y false o) k (object_entry ts ss u o)
      (subst (λ n. HasOwnEntry z.1 n (object_entry ts ss u o)) same (object_own y.1 (object_entry ts ss u o) h t))

  objects_own : (os : List TypedObject) (y : List ℕ × Joined) (i : ℕ) (o : TypedObject) (k at : ℕ) → AreBounded y.1 → at ≡ length y.0 + i → slice_get os i ≡ Some o → is_external o.linkage ≡ false → is_dropped fs at o.storage ≡ false
      → slice_get (objects_joined ts ss fs u y os).0 at ≡ Some k → HasOwnEntry (objects_joined ts ss fs u y os).1 k (object_entry ts ss u o)
  objects_own [] y i o k at h p e t d n = absurd (cc)
  objects_own (x ∷ xs) y zero o k at h p e t d n =
      let same : x ≡ o = some_is x o e in
      let place : at ≡ length y.0 = omega arith in
      let dropped : is_dropped fs (length y.0) x.storage ≡ false = subst (λ z. is_dropped fs z x.storage ≡ false) place (subst (λ z. is_dropped fs at z.storage ≡ false) (sym same) d) in
      let number : slice_get (objects_joined ts ss fs u y (x ∷ xs)).0 (length y.0) ≡ Some k = subst (λ z. slice_get (objects_joined ts ss fs u y (x ∷ xs)).0 z ≡ Some k) place n in
      subst (λ z. HasOwnEntry (objects_joined ts ss fs u y (x ∷ xs)).1 k (object_entry ts ss u z)) same
      (own_here x xs y k (is_dropped fs (length y.0) x.storage) h dropped (subst (λ z. is_external z.linkage ≡ false) (sym same) t) number)
  objects_own (x ∷ xs) y (suc i) o k at h p e t d n =
      let longer : length (next_object ts ss u y (is_dropped fs (length y.0) x.storage) x).0 ≡ length y.0 + 1 = next_longer ts ss fs u y (is_dropped fs (length y.0) x.storage) x in
      objects_own xs (next_object ts ss u y (is_dropped fs (length y.0) x.storage) x) i o k at
      (next_bounded y (is_dropped fs (length y.0) x.storage) x h) (omega (arith, longer, p)) e t d n

-- ---- its functions, and units

module _ (ss : List ℕ) (u : ℕ) where
  functions_keep_own : (fs : List TypedFunction) (y : List ℕ × Joined) → Keeps y.1 (functions_joined ss u y fs).1
  functions_keep_own [] y n x h = h
  functions_keep_own (f ∷ fs) y n x h = functions_keep_own fs (next_function ss u y f) n x (function_keeps y.1 (function_entry ss u f) n x h)

  functions_bounded : (fs : List TypedFunction) (y : List ℕ × Joined) → AreBounded y.1 → AreBounded (functions_joined ss u y fs).1
  functions_bounded [] y h = h
  functions_bounded (f ∷ fs) y h = functions_bounded fs (next_function ss u y f) (function_bounded y.1 (function_entry ss u f) h)

module _ (ss : List ℕ) (u : ℕ) (j : Joined) (x : CheckedUnit) where
  functions_behind_keep : Keeps (behind_objects ss u j x).1 (unit_joined ss u j x).1
  functions_behind_keep n o h = texts (functions_keep_own ss u x.functions ([], (behind_objects ss u j x).1) n o h)
    where
      texts : HasOwnEntry (functions_joined ss u ([], (behind_objects ss u j x).1) x.functions).1 n o → HasOwnEntry (unit_joined ss u j x).1 n o
      texts w = record { at = w.at; unlinked = w.unlinked }

  unit_keeps_own : Keeps j (unit_joined ss u j x).1
  unit_keeps_own n o h = functions_behind_keep n o (objects_keep_own x.structs ss (owned_by x.functions x.definitions) u x.objects ([], j) n o h)

  unit_bounded : AreBounded j → AreBounded (unit_joined ss u j x).1
  unit_bounded b m k g =
      functions_bounded ss u x.functions ([], (behind_objects ss u j x).1)
      (objects_bounded x.structs ss (owned_by x.functions x.definitions) u x.objects ([], j) b) m k g

abbrev HaveOwn : ℕ → CheckedUnit → Numbers → Joined → Type 0
HaveOwn u x m j = (k : ℕ) (o : TypedObject) (n : ℕ) → slice_get x.objects k ≡ Some o → slice_get m.objects k ≡ Some n → is_external o.linkage ≡ false → is_dropped (owned_by x.functions x.definitions) k o.storage ≡ false → HasOwnEntry j n (object_entry x.structs m.structs u o)

unit_own : (ss : List ℕ) (u : ℕ) (j : Joined) (x : CheckedUnit) → AreBounded j → HaveOwn u x (unit_joined ss u j x).0 (unit_joined ss u j x).1
unit_own ss u j x b k o n e number t d =
    functions_behind_keep ss u j x n (object_entry x.structs ss u o) (objects_own x.structs ss (owned_by x.functions x.definitions) u x.objects ([], j) k o n k b (omega arith) e t d number)

units_keep_own : (sss : List (List ℕ)) (xs : List CheckedUnit) (y : List Numbers × Joined) → Keeps y.1 (units_joined sss y xs).1
units_keep_own sss [] y n o h = h
units_keep_own sss (x ∷ xs) y n o h =
    units_keep_own sss xs (next_unit sss y x) n o (unit_keeps_own (slice_index_or sss (length y.0) []) (length y.0) y.1 x n o h)

none_bounded : AreBounded nothing_joined
none_bounded m k e = absurd (cc)

pub others_stay_apart : OthersStayApart
others_stay_apart sss xs u x m k o n at numbers e number t d =
    at_each sss HaveOwn Keeps AreBounded unit_bounded unit_own (λ u x m j i y p. λ k o n e v t d. y n (object_entry x.structs m.structs u o) (p k o n e v t d)) (units_keep_own sss)
    xs ([], nothing_joined) none_bounded u x m u (omega arith) at numbers k o n e number t d
