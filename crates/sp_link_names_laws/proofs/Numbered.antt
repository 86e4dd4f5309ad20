-- The numbers that units have in their program are those of the links.
use Rattle.std.proofs.Common.{◌≡◌, ℕ, zero, suc, ◌+◌, Bool, true, false, length, List, [], ◌∷◌, ◌++◌, Some, refl, sym, subst, ◌∙◌, true≢false, arith}
use Rattle.std.specs.Prelude.{slice_get, slice_index_or, ⊤}
use Rattle.sp_types.specs.Types.{Struct}
use Rattle.sp_types.specs.Programs.{Object, Function}
use Rattle.sp_base_checked.specs.Units.{CheckedUnit}
use Rattle.sp_link_conflicts.specs.Declarations.{is_external}
use Rattle.sp_link_entries.specs.Entries.{Joined, Numbers, nothing_joined}
use Rattle.sp_link_entries.specs.Objects.{owned_by, is_dropped, object_entry, object_joined, next_object, objects_joined}
use Rattle.sp_link_entries.specs.Functions.{function_entry, function_joined, next_function, functions_joined}
use Rattle.sp_link_entries.specs.Units.{unit_joined, next_unit, units_joined}
use Rattle.sp_link_names_laws.specs.Names.{all_joined}
use Rattle.sp_link_names_laws.proofs.Links.{IsObjectOf, IsFunctionOf, Extends, object_later, function_later, object_extends, object_named, function_extends, function_named}

-- ---- lists

pub pushed_before : {A : Type 0} (xs : List A) (y x : A) (i : ℕ) → slice_get xs i ≡ Some x → slice_get (xs ++ y ∷ []) i ≡ Some x
pushed_before [] y x i e = absurd (cc)
pushed_before (z ∷ zs) y x zero e = e
pushed_before (z ∷ zs) y x (suc i) e = pushed_before zs y x i e

pub pushed_last : {A : Type 0} (xs : List A) (y : A) → slice_get (xs ++ y ∷ []) (length xs) ≡ Some y
pushed_last [] y = refl
pushed_last (z ∷ zs) y = pushed_last zs y

pub pushed_length : {A : Type 0} (xs : List A) (y : A) → length (xs ++ y ∷ []) ≡ length xs + 1
pushed_length [] y = omega arith
pushed_length (z ∷ zs) y = let w : length (zs ++ y ∷ []) ≡ length zs + 1 = pushed_length zs y in omega arith

pub some_is : {A : Type 0} (p q : A) → Some p ≡ Some q → p ≡ q
some_is p q e = cc

-- ---- the objects of a unit

module _ (ts : List Struct) (ss fs : List ℕ) (u : ℕ) where
  next_extends : (y : List ℕ × Joined) (b : Bool) (o : Object) → Extends y.1 (next_object ts ss u y b o).1
  next_extends y true o n r h = h
  next_extends y false o n r h = object_extends y.1 (object_entry ts ss u o) n r h

  pub objects_extend : (os : List Object) (y : List ℕ × Joined) → Extends y.1 (objects_joined ts ss fs u y os).1
  objects_extend [] y n r h = h
  objects_extend (o ∷ os) y n r h =
      objects_extend os (next_object ts ss u y (is_dropped fs (length y.0) o.storage) o) n r (next_extends y (is_dropped fs (length y.0) o.storage) o n r h)

  next_keeps : (y : List ℕ × Joined) (b : Bool) (o : Object) (i k : ℕ) → slice_get y.0 i ≡ Some k → slice_get (next_object ts ss u y b o).0 i ≡ Some k
  next_keeps y true o i k h = pushed_before y.0 0 k i h
  next_keeps y false o i k h = pushed_before y.0 (object_joined y.1 (object_entry ts ss u o)).0 k i h

  pub next_longer : (y : List ℕ × Joined) (b : Bool) (o : Object) → length (next_object ts ss u y b o).0 ≡ length y.0 + 1
  next_longer y true o = pushed_length y.0 0
  next_longer y false o = pushed_length y.0 (object_joined y.1 (object_entry ts ss u o)).0

  pub objects_keep : (os : List Object) (y : List ℕ × Joined) (i k : ℕ) → slice_get y.0 i ≡ Some k → slice_get (objects_joined ts ss fs u y os).0 i ≡ Some k
  objects_keep [] y i k h = h
  objects_keep (o ∷ os) y i k h =
      objects_keep os (next_object ts ss u y (is_dropped fs (length y.0) o.storage) o) i k (next_keeps y (is_dropped fs (length y.0) o.storage) o i k h)

  -- the object that is next
  here : (o : Object) (os : List Object) (y : List ℕ × Joined) (k : ℕ) (b : Bool) → b ≡ false → is_external o.linkage ≡ true
      → slice_get (objects_joined ts ss fs u (next_object ts ss u y b o) os).0 (length y.0) ≡ Some k → IsObjectOf (objects_joined ts ss fs u (next_object ts ss u y b o) os).1 o.name k
  here o os y k true f t e = absurd (true≢false f)
  here o os y k false f t e =
      let z : ℕ × Joined = object_joined y.1 (object_entry ts ss u o) in
      let now : slice_get (objects_joined ts ss fs u (next_object ts ss u y false o) os).0 (length y.0) ≡ Some z.0 =
      objects_keep os (next_object ts ss u y false o) (length y.0) z.0 (pushed_last y.0 z.0) in
      let same : z.0 ≡ k = some_is z.0 k (sym now ∙ e) in
      object_later z.1 (objects_joined ts ss fs u (next_object ts ss u y false o) os).1 o.name k (objects_extend os (next_object ts ss u y false o))
      (subst (IsObjectOf z.1 o.name) same (object_named y.1 (object_entry ts ss u o) t))

  pub objects_numbered : (os : List Object) (y : List ℕ × Joined) (i : ℕ) (o : Object) (k at : ℕ) → at ≡ length y.0 + i → slice_get os i ≡ Some o → is_external o.linkage ≡ true → is_dropped fs at o.storage ≡ false
      → slice_get (objects_joined ts ss fs u y os).0 at ≡ Some k → IsObjectOf (objects_joined ts ss fs u y os).1 o.name k
  objects_numbered [] y i o k at p e t d n = absurd (cc)
  objects_numbered (x ∷ xs) y zero o k at p e t d n =
      let same : x ≡ o = some_is x o e in
      let place : at ≡ length y.0 = omega arith in
      let dropped : is_dropped fs (length y.0) x.storage ≡ false = subst (λ z. is_dropped fs z x.storage ≡ false) place (subst (λ z. is_dropped fs at z.storage ≡ false) (sym same) d) in
      let number : slice_get (objects_joined ts ss fs u y (x ∷ xs)).0 (length y.0) ≡ Some k = subst (λ z. slice_get (objects_joined ts ss fs u y (x ∷ xs)).0 z ≡ Some k) place n in
      subst (λ z. IsObjectOf (objects_joined ts ss fs u y (x ∷ xs)).1 z.name k) same
      (here x xs y k (is_dropped fs (length y.0) x.storage) dropped (subst (λ z. is_external z.linkage ≡ true) (sym same) t) number)
  objects_numbered (x ∷ xs) y (suc i) o k at p e t d n =
      let longer : length (next_object ts ss u y (is_dropped fs (length y.0) x.storage) x).0 ≡ length y.0 + 1 = next_longer y (is_dropped fs (length y.0) x.storage) x in
      objects_numbered xs (next_object ts ss u y (is_dropped fs (length y.0) x.storage) x) i o k at (omega (arith, longer, p)) e t d n

-- ---- its functions

module _ (ss : List ℕ) (u : ℕ) where
  pub functions_extend : (fs : List Function) (y : List ℕ × Joined) → Extends y.1 (functions_joined ss u y fs).1
  functions_extend [] y n r h = h
  functions_extend (f ∷ fs) y n r h = functions_extend fs (next_function ss u y f) n r (function_extends y.1 (function_entry ss u f) n r h)

  pub functions_keep : (fs : List Function) (y : List ℕ × Joined) (i k : ℕ) → slice_get y.0 i ≡ Some k → slice_get (functions_joined ss u y fs).0 i ≡ Some k
  functions_keep [] y i k h = h
  functions_keep (f ∷ fs) y i k h = functions_keep fs (next_function ss u y f) i k (pushed_before y.0 (function_joined y.1 (function_entry ss u f)).0 k i h)

  pub functions_numbered : (fs : List Function) (y : List ℕ × Joined) (i : ℕ) (f : Function) (k at : ℕ) → at ≡ length y.0 + i → slice_get fs i ≡ Some f → is_external f.linkage ≡ true
      → slice_get (functions_joined ss u y fs).0 at ≡ Some k → IsFunctionOf (functions_joined ss u y fs).1 f.name k
  functions_numbered [] y i f k at p e t n = absurd (cc)
  functions_numbered (x ∷ xs) y zero f k at p e t n =
      let same : x ≡ f = some_is x f e in
      let place : at ≡ length y.0 = omega arith in
      let z : ℕ × Joined = function_joined y.1 (function_entry ss u x) in
      let now : slice_get (functions_joined ss u y (x ∷ xs)).0 (length y.0) ≡ Some z.0 = functions_keep xs (next_function ss u y x) (length y.0) z.0 (pushed_last y.0 z.0) in
      let number : slice_get (functions_joined ss u y (x ∷ xs)).0 (length y.0) ≡ Some k = subst (λ w. slice_get (functions_joined ss u y (x ∷ xs)).0 w ≡ Some k) place n in
      let is : z.0 ≡ k = some_is z.0 k (sym now ∙ number) in
      subst (λ w. IsFunctionOf (functions_joined ss u y (x ∷ xs)).1 w.name k) same
      (function_later z.1 (functions_joined ss u y (x ∷ xs)).1 x.name k (functions_extend xs (next_function ss u y x))
      (subst (IsFunctionOf z.1 x.name) is (function_named y.1 (function_entry ss u x) (subst (λ w. is_external w.linkage ≡ true) (sym same) t))))
  functions_numbered (x ∷ xs) y (suc i) f k at p e t n =
      let longer : length (next_function ss u y x).0 ≡ length y.0 + 1 = pushed_length y.0 (function_joined y.1 (function_entry ss u x)).0 in
      functions_numbered xs (next_function ss u y x) i f k at (omega (arith, longer, p)) e t n

-- ---- units

abbrev pub behind_objects : List ℕ → ℕ → Joined → CheckedUnit → List ℕ × Joined
behind_objects ss u j x = objects_joined x.structs ss (owned_by x.functions x.definitions) u ([], j) x.objects

module _ (ss : List ℕ) (u : ℕ) (j : Joined) (x : CheckedUnit) where
  functions_behind : Extends (behind_objects ss u j x).1 (unit_joined ss u j x).1
  functions_behind n r h = functions_extend ss u x.functions ([], (behind_objects ss u j x).1) n r h

  pub unit_extends : Extends j (unit_joined ss u j x).1
  unit_extends n r h = functions_behind n r (objects_extend x.structs ss (owned_by x.functions x.definitions) u x.objects ([], j) n r h)

  unit_objects : (k : ℕ) (o : Object) (n : ℕ) → slice_get x.objects k ≡ Some o → slice_get (unit_joined ss u j x).0.objects k ≡ Some n → is_external o.linkage ≡ true → is_dropped (owned_by x.functions x.definitions) k o.storage ≡ false
      → IsObjectOf (unit_joined ss u j x).1 o.name n
  unit_objects k o n e number t d =
      object_later (behind_objects ss u j x).1 (unit_joined ss u j x).1 o.name n functions_behind
      (objects_numbered x.structs ss (owned_by x.functions x.definitions) u x.objects ([], j) k o n k (omega arith) e t d number)

  unit_functions : (k : ℕ) (f : Function) (n : ℕ) → slice_get x.functions k ≡ Some f → slice_get (unit_joined ss u j x).0.functions k ≡ Some n → is_external f.linkage ≡ true
      → IsFunctionOf (unit_joined ss u j x).1 f.name n
  unit_functions k f n e number t = functions_numbered ss u x.functions ([], (behind_objects ss u j x).1) k f n k (omega arith) e t number

module _ (sss : List (List ℕ)) where
  units_extend : (xs : List CheckedUnit) (y : List Numbers × Joined) → Extends y.1 (units_joined sss y xs).1
  units_extend [] y n r h = h
  units_extend (x ∷ xs) y n r h =
      units_extend xs (next_unit sss y x) n r (unit_extends (slice_index_or sss (length y.0) []) (length y.0) y.1 x n r h)

  pub units_keep : (xs : List CheckedUnit) (y : List Numbers × Joined) (i : ℕ) (m : Numbers) → slice_get y.0 i ≡ Some m → slice_get (units_joined sss y xs).0 i ≡ Some m
  units_keep [] y i m h = h
  units_keep (x ∷ xs) y i m h =
      units_keep xs (next_unit sss y x) i m (pushed_before y.0 (unit_joined (slice_index_or sss (length y.0) []) (length y.0) y.1 x).0 m i h)

  -- what holds of each unit when it is joined, and later, holds in the end
  module _ (P : ℕ → CheckedUnit → Numbers → Joined → Type 0) (Later : Joined → Joined → Type 0) (Good : Joined → Type 0)
      (goes : (ss : List ℕ) (u : ℕ) (j : Joined) (x : CheckedUnit) → Good j → Good (unit_joined ss u j x).1)
      (first : (ss : List ℕ) (u : ℕ) (j : Joined) (x : CheckedUnit) → Good j → P u x (unit_joined ss u j x).0 (unit_joined ss u j x).1)
      (later : (u : ℕ) (x : CheckedUnit) (m : Numbers) (j i : Joined) → Later j i → P u x m j → P u x m i)
      (go : (xs : List CheckedUnit) (y : List Numbers × Joined) → Later y.1 (units_joined sss y xs).1) where
    pub at_each : (xs : List CheckedUnit) (y : List Numbers × Joined) → Good y.1 → (i : ℕ) (x : CheckedUnit) (m : Numbers) (at : ℕ) → at ≡ length y.0 + i
        → slice_get xs i ≡ Some x → slice_get (units_joined sss y xs).0 at ≡ Some m → P at x m (units_joined sss y xs).1
    at_each [] y good i x m at p e n = absurd (cc)
    at_each (w ∷ ws) y good zero x m at p e n =
        let same : w ≡ x = some_is w x e in
        let place : at ≡ length y.0 = omega arith in
        let z : Numbers × Joined = unit_joined (slice_index_or sss (length y.0) []) (length y.0) y.1 w in
        let now : slice_get (units_joined sss y (w ∷ ws)).0 (length y.0) ≡ Some z.0 = units_keep ws (next_unit sss y w) (length y.0) z.0 (pushed_last y.0 z.0) in
        let number : slice_get (units_joined sss y (w ∷ ws)).0 (length y.0) ≡ Some m = subst (λ v. slice_get (units_joined sss y (w ∷ ws)).0 v ≡ Some m) place n in
        let is : z.0 ≡ m = some_is z.0 m (sym now ∙ number) in
        subst (λ v. P v x m (units_joined sss y (w ∷ ws)).1) (sym place)
        (subst (λ v. P (length y.0) v m (units_joined sss y (w ∷ ws)).1) same
        (later (length y.0) w m z.1 (units_joined sss y (w ∷ ws)).1 (go ws (next_unit sss y w))
        (subst (λ v. P (length y.0) w v z.1) is (first (slice_index_or sss (length y.0) []) (length y.0) y.1 w good))))
    at_each (w ∷ ws) y good (suc i) x m at p e n =
        let longer : length (next_unit sss y w).0 ≡ length y.0 + 1 = pushed_length y.0 (unit_joined (slice_index_or sss (length y.0) []) (length y.0) y.1 w).0 in
        at_each ws (next_unit sss y w) (goes (slice_index_or sss (length y.0) []) (length y.0) y.1 w good) i x m at (omega (arith, longer, p)) e n

abbrev ObjectsNumbered : ℕ → CheckedUnit → Numbers → Joined → Type 0
ObjectsNumbered u x m j = (k : ℕ) (o : Object) (n : ℕ) → slice_get x.objects k ≡ Some o → slice_get m.objects k ≡ Some n → is_external o.linkage ≡ true → is_dropped (owned_by x.functions x.definitions) k o.storage ≡ false → IsObjectOf j o.name n

abbrev FunctionsNumbered : ℕ → CheckedUnit → Numbers → Joined → Type 0
FunctionsNumbered u x m j = (k : ℕ) (f : Function) (n : ℕ) → slice_get x.functions k ≡ Some f → slice_get m.functions k ≡ Some n → is_external f.linkage ≡ true → IsFunctionOf j f.name n

pub object_or_function : (sss : List (List ℕ)) (xs : List CheckedUnit) (u : ℕ) (x : CheckedUnit) (m : Numbers) (k : ℕ) (o : Object) (n : ℕ)
    → slice_get xs u ≡ Some x → slice_get (all_joined sss xs).0 u ≡ Some m → slice_get x.objects k ≡ Some o → slice_get m.objects k ≡ Some n
    → is_external o.linkage ≡ true → is_dropped (owned_by x.functions x.definitions) k o.storage ≡ false → IsObjectOf (all_joined sss xs).1 o.name n
object_or_function sss xs u x m k o n at numbers e number t d =
    at_each sss ObjectsNumbered Extends (λ j. ⊤) (λ ss u j x g. tt) (λ ss u j x g. unit_objects ss u j x) (λ u x m j i y p. λ k o n e v t d. object_later j i o.name n y (p k o n e v t d)) (units_extend sss)
    xs ([], nothing_joined) tt u x m u (omega arith) at numbers k o n e number t d

pub function_or_object : (sss : List (List ℕ)) (xs : List CheckedUnit) (u : ℕ) (x : CheckedUnit) (m : Numbers) (k : ℕ) (f : Function) (n : ℕ)
    → slice_get xs u ≡ Some x → slice_get (all_joined sss xs).0 u ≡ Some m → slice_get x.functions k ≡ Some f → slice_get m.functions k ≡ Some n
    → is_external f.linkage ≡ true → IsFunctionOf (all_joined sss xs).1 f.name n
function_or_object sss xs u x m k f n at numbers e number t =
    at_each sss FunctionsNumbered Extends (λ j. ⊤) (λ ss u j x g. tt) (λ ss u j x g. unit_functions ss u j x) (λ u x m j i y p. λ k f n e v t. function_later j i f.name n y (p k f n e v t)) (units_extend sss)
    xs ([], nothing_joined) tt u x m u (omega arith) at numbers k f n e number t
