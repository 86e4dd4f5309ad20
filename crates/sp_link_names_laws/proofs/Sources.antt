-- Each external name of a program is that of an object, or of a function, of some unit; in units that
-- agree on their names it isn't both.
use Rattle.std.proofs.Common.{◌≡◌, ℕ, zero, suc, ◌+◌, ◌<◌, Bool, true, false, cond, if◌then◌else◌, nat_eq, length, map, filter, List, [], ◌∷◌, ◌++◌, Option, Some, None, ◌⊎◌, inl, inr, refl, ap, sym, subst, ◌∙◌, true≢false, eqb-true, arith}
use Rattle.std.specs.Prelude.{slice_get, slice_index_or}
use Rattle.indexmap.specs.IndexMap.{insert_entry}
use Rattle.sp_types.specs.Types.{Struct, CType, void, integer, floating, pointer, array, structure, function, Signature}
use Rattle.sp_types.specs.Programs.{Object as TypedObject, Function as TypedFunction}
use Rattle.sp_check_operands.specs.Conversions.{is_function}
use Rattle.sp_check_scopes.specs.Scopes.{entry}
use Rattle.sp_check_env.specs.declared.env.Entity.{Entity}
use Rattle.sp_check_env.specs.declared.env.Entity.TheVariants.{Object, Function}
use Rattle.sp_base_checked.specs.Units.{CheckedUnit}
use Rattle.sp_link_agreement.specs.Agreement.{compatible_by}
use Rattle.sp_link_agreement.specs.Depths.{agrees_within}
use Rattle.sp_link_conflicts.specs.Declarations.{Declaration, is_external, object_declared, function_declared, objects_declared, functions_declared, typings_declared, unit_declared, declared_from, declarations}
use Rattle.sp_link_conflicts.specs.Conflicts.{tables_of}
use Rattle.sp_link_conflicts.specs.Laws.{AreInHarmony}
use Rattle.sp_link_conflicts.proofs.Pairs.{agreement_is_harmony}
use Rattle.sp_link_entries.specs.Entries.{ObjectEntry, FunctionEntry, Joined, Numbers, nothing_joined, linked}
use Rattle.sp_link_entries.specs.Objects.{owned_by, is_dropped, object_entry, object_met, object_apart, object_linked, object_joined, next_object, objects_joined}
use Rattle.sp_link_entries.specs.Functions.{function_entry, function_met, function_apart, function_linked, function_joined, next_function, functions_joined}
use Rattle.sp_link_entries.specs.Units.{unit_joined, next_unit, units_joined}
use Rattle.sp_link_names_laws.specs.Names.{all_joined, NamesHaveOneObject, NamesHaveOneFunction}
use Rattle.sp_link_names_laws.proofs.Numbered.{some_is, behind_objects, object_or_function, function_or_object}

-- ---- where the entry of a name comes from

pub inserted_key : (es : List (ℕ × Entity)) (n : ℕ) (v : Entity) (m : ℕ) (r : Entity) → entry (insert_entry nat_eq es n v) m ≡ Some r → (entry es m ≡ Some r) ⊎ ((m ≡ n) × (v ≡ r))
inserted_key [] n v m r h = by (nat_eq m n) refl h
  where
    by : (b : Bool) → nat_eq m n ≡ b → cond b (Some v) None ≡ Some r → (None ≡ Some r) ⊎ ((m ≡ n) × (v ≡ r))
    by true t g = inr (eqb-true m n t, some_is v r g)
    by false t g = inl g
inserted_key (e ∷ es) n v m r h = by (nat_eq n e.0) refl h (inserted_key es n v m r)
  where
    old : (c : Bool) → nat_eq m e.0 ≡ c → nat_eq n e.0 ≡ true → cond c (Some v) (entry es m) ≡ Some r → (cond c (Some e.1) (entry es m) ≡ Some r) ⊎ ((m ≡ n) × (v ≡ r))
    old true t k g = inr (eqb-true m e.0 t ∙ sym (eqb-true n e.0 k), some_is v r g)
    old false t k g = inl g

    rest : (c : Bool) → cond c (Some e.1) (entry (insert_entry nat_eq es n v) m) ≡ Some r → (entry (insert_entry nat_eq es n v) m ≡ Some r → (entry es m ≡ Some r) ⊎ ((m ≡ n) × (v ≡ r))) → (cond c (Some e.1) (entry es m) ≡ Some r) ⊎ ((m ≡ n) × (v ≡ r))
    rest true g ih = inl g
    rest false g ih = ih g

    by : (b : Bool) → nat_eq n e.0 ≡ b → entry (cond b ((e.0, v) ∷ es) (e ∷ insert_entry nat_eq es n v)) m ≡ Some r → (entry (insert_entry nat_eq es n v) m ≡ Some r → (entry es m ≡ Some r) ⊎ ((m ≡ n) × (v ≡ r))) → (entry (e ∷ es) m ≡ Some r) ⊎ ((m ≡ n) × (v ≡ r))
    by true k g ih = old (nat_eq m e.0) refl k g
    by false k g ih = rest (nat_eq m e.0) g ih

-- each linked object has a name of the first kind, each linked function one of the second
module _ (P Q : ℕ → Type 0) where
  abbrev pub Sourced : Entity → ℕ → Type 0
  Sourced (Object k) m = P m
  Sourced (Function k) m = Q m

  abbrev pub AreSourced : Joined → Type 0
  AreSourced j = (m : ℕ) (r : Entity) → entry j.links m ≡ Some r → Sourced r m

  added : (j : Joined) → AreSourced j → (n : ℕ) (v : Entity) → Sourced v n → (m : ℕ) (r : Entity) → entry (insert_entry nat_eq j.links n v) m ≡ Some r → Sourced r m
  added j h n v s m r g = by (inserted_key j.links n v m r g)
    where
      by : (entry j.links m ≡ Some r) ⊎ ((m ≡ n) × (v ≡ r)) → Sourced r m
      by (inl w) = h m r w
      by (inr w) = subst (λ z. Sourced z m) w.1 (subst (λ z. Sourced v z) (sym w.0) s)

  module _ (j : Joined) (h : AreSourced j) (e : ObjectEntry) where
    object_met_sourced : (k : ℕ) (o : Option ObjectEntry) → AreSourced (object_met j k e o)
    object_met_sourced k None m r g = h m r g
    object_met_sourced k (Some old) m r g = h m r g

    object_linked_sourced : (o : Option Entity) → P e.source.name → AreSourced (object_linked j e o).1
    object_linked_sourced None p m r g = added j h e.source.name (Object (length j.objects)) p m r g
    object_linked_sourced (Some (Object k)) p m r g = object_met_sourced k (slice_get j.objects k) m r g
    object_linked_sourced (Some (Function k)) p m r g = h m r g

    object_choice_sourced : (b : Bool) → (b ≡ true → P e.source.name) → AreSourced (if b then object_linked j e (linked j e.source.name) else object_apart j e).1
    object_choice_sourced true p m r g = object_linked_sourced (linked j e.source.name) (p refl) m r g
    object_choice_sourced false p m r g = h m r g

    object_sourced : (is_external e.source.linkage ≡ true → P e.source.name) → AreSourced (object_joined j e).1
    object_sourced p = object_choice_sourced (is_external e.source.linkage) p

  module _ (j : Joined) (h : AreSourced j) (e : FunctionEntry) where
    function_met_sourced : (k : ℕ) (o : Option FunctionEntry) → AreSourced (function_met j k e o)
    function_met_sourced k None m r g = h m r g
    function_met_sourced k (Some old) m r g = h m r g

    function_linked_sourced : (o : Option Entity) → Q e.source.name → AreSourced (function_linked j e o).1
    function_linked_sourced None p m r g = added j h e.source.name (Function (length j.functions)) p m r g
    function_linked_sourced (Some (Function k)) p m r g = function_met_sourced k (slice_get j.functions k) m r g
    function_linked_sourced (Some (Object k)) p m r g = h m r g

    function_choice_sourced : (b : Bool) → (b ≡ true → Q e.source.name) → AreSourced (if b then function_linked j e (linked j e.source.name) else function_apart j e).1
    function_choice_sourced true p m r g = function_linked_sourced (linked j e.source.name) (p refl) m r g
    function_choice_sourced false p m r g = h m r g

    function_sourced : (is_external e.source.linkage ≡ true → Q e.source.name) → AreSourced (function_joined j e).1
    function_sourced p = function_choice_sourced (is_external e.source.linkage) p

  -- ---- those of a unit

  abbrev pub Objects : List TypedObject → Type 0
  Objects os = (k : ℕ) (o : TypedObject) → slice_get os k ≡ Some o → is_external o.linkage ≡ true → P o.name

  abbrev pub Functions : List TypedFunction → Type 0
  Functions fs = (k : ℕ) (f : TypedFunction) → slice_get fs k ≡ Some f → is_external f.linkage ≡ true → Q f.name

  module _ (ts : List Struct) (ss fs : List ℕ) (u : ℕ) where
    next_sourced : (y : List ℕ × Joined) (b : Bool) (o : TypedObject) → (is_external o.linkage ≡ true → P o.name) → AreSourced y.1 → AreSourced (next_object ts ss u y b o).1
    next_sourced y true o p h = h
    next_sourced y false o p h = object_sourced y.1 h (object_entry ts ss u o) p

    objects_sourced : (os : List TypedObject) (y : List ℕ × Joined) → Objects os → AreSourced y.1 → AreSourced (objects_joined ts ss fs u y os).1
    objects_sourced [] y p h = h
    objects_sourced (o ∷ os) y p h =
        objects_sourced os (next_object ts ss u y (is_dropped fs (length y.0) o.storage) o) (λ k q. p (suc k) q)
        (next_sourced y (is_dropped fs (length y.0) o.storage) o (p zero o refl) h)

  module _ (ss : List ℕ) (u : ℕ) where
    functions_sourced : (fs : List TypedFunction) (y : List ℕ × Joined) → Functions fs → AreSourced y.1 → AreSourced (functions_joined ss u y fs).1
    functions_sourced [] y p h = h
    functions_sourced (f ∷ fs) y p h =
        functions_sourced fs (next_function ss u y f) (λ k g. p (suc k) g) (function_sourced y.1 h (function_entry ss u f) (p zero f refl))

  unit_sourced : (ss : List ℕ) (u : ℕ) (j : Joined) (x : CheckedUnit) → Objects x.objects → Functions x.functions → AreSourced j → AreSourced (unit_joined ss u j x).1
  unit_sourced ss u j x os fs h m r g =
      functions_sourced ss u x.functions ([], (behind_objects ss u j x).1) fs
      (objects_sourced x.structs ss (owned_by x.functions x.definitions) u x.objects ([], j) os h) m r g

  pub units_sourced : (sss : List (List ℕ)) (xs : List CheckedUnit) (y : List Numbers × Joined)
      → ((i : ℕ) (x : CheckedUnit) → slice_get xs i ≡ Some x → Objects x.objects)
      → ((i : ℕ) (x : CheckedUnit) → slice_get xs i ≡ Some x → Functions x.functions)
      → AreSourced y.1 → AreSourced (units_joined sss y xs).1
  units_sourced sss [] y os fs h = h
  units_sourced sss (x ∷ xs) y os fs h =
      units_sourced sss xs (next_unit sss y x) (λ i z. os (suc i) z) (λ i z. fs (suc i) z)
      (unit_sourced (slice_index_or sss (length y.0) []) (length y.0) y.1 x (os zero x refl) (fs zero x refl) h)

  none_sourced : AreSourced nothing_joined
  none_sourced m r g = absurd (cc)

  pub all_sourced : (sss : List (List ℕ)) (xs : List CheckedUnit)
      → ((i : ℕ) (x : CheckedUnit) → slice_get xs i ≡ Some x → Objects x.objects)
      → ((i : ℕ) (x : CheckedUnit) → slice_get xs i ≡ Some x → Functions x.functions)
      → AreSourced (all_joined sss xs).1
  all_sourced sss xs os fs = units_sourced sss xs ([], nothing_joined) os fs none_sourced

-- ---- declarations are in the list

abbrev pub There : {A : Type 0} → List A → A → Type 0
There xs x = (i : ℕ) × (slice_get xs i ≡ Some x)

pub there_left : {A : Type 0} (xs ys : List A) (x : A) (i : ℕ) → slice_get xs i ≡ Some x → There (xs ++ ys) x
there_left [] ys x i e = absurd (cc)
there_left (z ∷ zs) ys x zero e = (zero, e)
there_left (z ∷ zs) ys x (suc i) e = let w : There (zs ++ ys) x = there_left zs ys x i e in (suc w.0, w.1)

pub there_right : {A : Type 0} (xs ys : List A) (x : A) (i : ℕ) → slice_get ys i ≡ Some x → There (xs ++ ys) x
there_right [] ys x i e = (i, e)
there_right (z ∷ zs) ys x i e = let w : There (zs ++ ys) x = there_right zs ys x i e in (suc w.0, w.1)

pub there_kept : {A B : Type 0} (f : A → B) (p : A → Bool) (xs : List A) (x : A) (i : ℕ) → slice_get xs i ≡ Some x → p x ≡ true → There (map f (filter p xs)) (f x)
there_kept f p [] x i e t = absurd (cc)
there_kept f p (z ∷ zs) x zero e t =
    let same : z ≡ x = some_is z x e in
    let kept : p z ≡ true = ap p same ∙ t in
    let first : map f (filter p (z ∷ zs)) ≡ f z ∷ map f (filter p zs) = ap (λ b. map f (cond b (z ∷ filter p zs) (filter p zs))) kept in
    (zero, ap (λ ys. slice_get ys zero) first ∙ ap (λ y. Some (f y)) same)
there_kept f p (z ∷ zs) x (suc i) e t = by (p z) (there_kept f p zs x i e t)
  where
    by : (b : Bool) → There (map f (filter p zs)) (f x) → There (map f (cond b (z ∷ filter p zs) (filter p zs))) (f x)
    by true w = (suc w.0, w.1)
    by false w = w

declared_there : (xs : List CheckedUnit) (u i at : ℕ) (x : CheckedUnit) (d : Declaration) → at ≡ u + i → slice_get xs i ≡ Some x → There (unit_declared at x) d → There (declared_from u xs) d
declared_there [] u i at x d p e w = absurd (cc)
declared_there (z ∷ zs) u zero at x d p e w =
    let same : z ≡ x = some_is z x e in
    let place : at ≡ u = omega arith in
    let here : There (unit_declared u z) d = subst (λ y. There (unit_declared u y) d) (sym same) (subst (λ n. There (unit_declared n x) d) place w) in
    there_left (unit_declared u z) (declared_from (suc u) zs) d here.0 here.1
declared_there (z ∷ zs) u (suc i) at x d p e w =
    let later : There (declared_from (suc u) zs) d = declared_there zs (suc u) i at x d (omega arith) e w in
    there_right (unit_declared u z) (declared_from (suc u) zs) d later.0 later.1

pub object_in_unit : (u : ℕ) (x : CheckedUnit) (k : ℕ) (o : TypedObject) → slice_get x.objects k ≡ Some o → is_external o.linkage ≡ true
    → There (unit_declared u x) (object_declared u o)
object_in_unit u x k o e t =
    let own : There (objects_declared u x.objects) (object_declared u o) = there_kept (object_declared u) (λ z. is_external z.linkage) x.objects o k e t in
    let two : There (typings_declared u x.typings ++ objects_declared u x.objects) (object_declared u o) = there_right (typings_declared u x.typings) (objects_declared u x.objects) (object_declared u o) own.0 own.1 in
    there_left (typings_declared u x.typings ++ objects_declared u x.objects) (functions_declared u x.functions) (object_declared u o) two.0 two.1

object_there : (xs : List CheckedUnit) (u : ℕ) (x : CheckedUnit) (k : ℕ) (o : TypedObject) → slice_get xs u ≡ Some x → slice_get x.objects k ≡ Some o → is_external o.linkage ≡ true → There (declarations xs) (object_declared u o)
object_there xs u x k o at e t =
    declared_there xs 0 u u x (object_declared u o) (omega arith) at (object_in_unit u x k o e t)

pub function_in_unit : (u : ℕ) (x : CheckedUnit) (k : ℕ) (f : TypedFunction) → slice_get x.functions k ≡ Some f → is_external f.linkage ≡ true
    → There (unit_declared u x) (function_declared u f)
function_in_unit u x k f e t =
    let own : There (functions_declared u x.functions) (function_declared u f) = there_kept (function_declared u) (λ z. is_external z.linkage) x.functions f k e t in
    there_right (typings_declared u x.typings ++ objects_declared u x.objects) (functions_declared u x.functions) (function_declared u f) own.0 own.1

function_there : (xs : List CheckedUnit) (u : ℕ) (x : CheckedUnit) (k : ℕ) (f : TypedFunction) → slice_get xs u ≡ Some x → slice_get x.functions k ≡ Some f → is_external f.linkage ≡ true → There (declarations xs) (function_declared u f)
function_there xs u x k f at e t =
    declared_there xs 0 u u x (function_declared u f) (omega arith) at (function_in_unit u x k f e t)

-- ---- no name is an object and a function

object_first : (agree : ℕ → ℕ → Bool) (t : CType) (s : Signature) → is_function t ≡ false → compatible_by agree t (function s) ≡ true → ⊥
object_first agree void s n c = true≢false (sym c)
object_first agree (integer k) s n c = true≢false (sym c)
object_first agree (floating k) s n c = true≢false (sym c)
object_first agree (pointer t) s n c = true≢false (sym c)
object_first agree (array t m) s n c = true≢false (sym c)
object_first agree (structure k) s n c = true≢false (sym c)
object_first agree (function r) s n c = true≢false n

function_first : (agree : ℕ → ℕ → Bool) (t : CType) (s : Signature) → is_function t ≡ false → compatible_by agree (function s) t ≡ true → ⊥
function_first agree void s n c = true≢false (sym c)
function_first agree (integer k) s n c = true≢false (sym c)
function_first agree (floating k) s n c = true≢false (sym c)
function_first agree (pointer t) s n c = true≢false (sym c)
function_first agree (array t m) s n c = true≢false (sym c)
function_first agree (structure k) s n c = true≢false (sym c)
function_first agree (function r) s n c = true≢false n

pub order : (a b : ℕ) → (a < b) ⊎ ((b < a) ⊎ (a ≡ b))
order zero zero = inr (inr refl)
order zero (suc b) = inl (omega arith)
order (suc a) zero = inr (inl (omega arith))
order (suc a) (suc b) = by (order a b)
  where
    by : (a < b) ⊎ ((b < a) ⊎ (a ≡ b)) → (suc a < suc b) ⊎ ((suc b < suc a) ⊎ (suc a ≡ suc b))
    by (inl l) = inl (omega arith)
    by (inr (inl l)) = inr (inl (omega arith))
    by (inr (inr l)) = inr (inr (ap suc l))

module _ (xs : List CheckedUnit) (harmony : AreInHarmony xs) (u v : ℕ) (o : TypedObject) (f : TypedFunction) (is : is_function o.of ≡ false) (same : o.name ≡ f.name) where
  at_once : (i j : ℕ) → slice_get (declarations xs) i ≡ Some (object_declared u o) → slice_get (declarations xs) j ≡ Some (function_declared v f) → (i < j) ⊎ ((j < i) ⊎ (i ≡ j)) → ⊥
  at_once i j a b (inl l) =
      let both = harmony i j (object_declared u o) (function_declared v f) l a b same in
      object_first (λ k n. agrees_within zero (tables_of xs) (u, k) (v, n)) o.of f.of is (both.0 zero)
  at_once i j a b (inr (inl l)) =
      let both = harmony j i (function_declared v f) (object_declared u o) l b a (sym same) in
      function_first (λ k n. agrees_within zero (tables_of xs) (v, k) (u, n)) o.of f.of is (both.0 zero)
  at_once i j a b (inr (inr l)) =
      let one : object_declared u o ≡ function_declared v f = some_is (object_declared u o) (function_declared v f) (sym a ∙ ap (slice_get (declarations xs)) l ∙ b) in
      true≢false (sym (ap (λ d. is_function d.of) one) ∙ is)

  pub not_both : There (declarations xs) (object_declared u o) → There (declarations xs) (function_declared v f) → ⊥
  not_both a b = at_once a.0 b.0 a.1 b.1 (order a.0 b.0)

-- ---- the laws

abbrev IsObjectName : List CheckedUnit → ℕ → Type 0
IsObjectName xs m = (u : ℕ) × (x : CheckedUnit) × (k : ℕ) × (o : TypedObject) × (slice_get xs u ≡ Some x) × (slice_get x.objects k ≡ Some o) × (is_external o.linkage ≡ true) × (o.name ≡ m)

abbrev IsFunctionName : List CheckedUnit → ℕ → Type 0
IsFunctionName xs m = (u : ℕ) × (x : CheckedUnit) × (k : ℕ) × (f : TypedFunction) × (slice_get xs u ≡ Some x) × (slice_get x.functions k ≡ Some f) × (is_external f.linkage ≡ true) × (f.name ≡ m)

linked_names : (sss : List (List ℕ)) (xs : List CheckedUnit) → AreSourced (IsObjectName xs) (IsFunctionName xs) (all_joined sss xs).1
linked_names sss xs =
    all_sourced (IsObjectName xs) (IsFunctionName xs) sss xs
    (λ i x e k o g t. (i, x, k, o, e, g, t, refl)) (λ i x e k f g t. (i, x, k, f, e, g, t, refl))

pub names_have_one_object : NamesHaveOneObject
names_have_one_object sss xs agree typed u x m k o n at numbers e number t d = by (object_or_function sss xs u x m k o n at numbers e number t d)
  where
    by : (entry (all_joined sss xs).1.links o.name ≡ Some (Object n)) ⊎ ((f : ℕ) × (entry (all_joined sss xs).1.links o.name ≡ Some (Function f))) → entry (all_joined sss xs).1.links o.name ≡ Some (Object n)
    by (inl h) = h
    by (inr h) =
        let w : IsFunctionName xs o.name = linked_names sss xs o.name (Function h.0) h.1 in
        absurd (not_both xs ((agreement_is_harmony xs).0 agree) u w.0 o w.3 (typed u x k o at e) (sym w.7) (object_there xs u x k o at e t) (function_there xs w.0 w.1 w.2 w.3 w.4 w.5 w.6))

pub names_have_one_function : NamesHaveOneFunction
names_have_one_function sss xs agree typed u x m k f n at numbers e number t = by (function_or_object sss xs u x m k f n at numbers e number t)
  where
    by : (entry (all_joined sss xs).1.links f.name ≡ Some (Function n)) ⊎ ((o : ℕ) × (entry (all_joined sss xs).1.links f.name ≡ Some (Object o))) → entry (all_joined sss xs).1.links f.name ≡ Some (Function n)
    by (inl h) = h
    by (inr h) =
        let w : IsObjectName xs f.name = linked_names sss xs f.name (Object h.0) h.1 in
        absurd (not_both xs ((agreement_is_harmony xs).0 agree) w.0 u w.3 f (typed w.0 w.1 w.2 w.3 w.4 w.5) w.7 (object_there xs w.0 w.1 w.2 w.3 w.4 w.5 w.6) (function_there xs u x k f at e t))
