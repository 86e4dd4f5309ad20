-- What the objects of a lowered program are, and where they stand.
use Rattle.std.proofs.Common.{◌≡◌, ◌⊎◌, inl, inr, ℕ, zero, suc, ◌+◌, Bool, true, false, List, [], ◌∷◌, length, Option, Some, None, slice_get, if◌then◌else◌, refl, ap, subst, arith}
use Rattle.std.proofs.lemmas.Option.{none-some}
use Rattle.sp_types.specs.Types.{CType, function, result_of}
use Rattle.sp_types.specs.Programs as program
use Rattle.sp_types.specs.Programs.{Function}
use Rattle.sp_ir.specs.declared.program.ObjectKind.{ObjectKind}
use Rattle.sp_ir.specs.declared.program.ObjectKind.TheVariants as kinds
use Rattle.sp_ir.specs.Programs.{Object}
use Rattle.sp_lower_draft.specs.Context.{Context, is_void}
use Rattle.sp_lower_body.specs.Frames.{Initial, known_initial}
use Rattle.sp_lower_functions.specs.Functions.{Part, result_count}
use Rattle.sp_lower_objects.specs.Codes.{part_at}
use Rattle.sp_lower_objects.specs.Objects.{plain_object, kind_of_storage, owner_of, texts_behind, start_of, zero_of, program_object, program_objects, function_object, function_objects, temporary_objects, result_objects, own_objects, local_objects}
use Rattle.sp_lower_objects.specs.Names.{name_at, temporary_name, result_name}
use Rattle.sp_lower_objects.specs.Owners.{mark_at}
use Rattle.sp_lower_starts_laws.proofs.Lists.{place_cases, some_is}

-- without start values and code
pub record IsPlain (x : Object) : Type 0 where
  pub start : x.start ≡ []
  pub zero : x.zero ≡ []
  pub code : x.code ≡ None

-- ---- objects of the units

pub record IsProgramObject (c : Context) (owners : List (Option ℕ)) (is : List Initial) (n : ℕ) (o : program.Object) (x : Object) : Type 0 where
  pub kind : x.kind ≡ kind_of_storage o.storage
  pub of : x.of ≡ Some o.of
  pub function : x.function ≡ owner_of o.storage (mark_at owners n)
  pub start : x.start ≡ start_of c o.storage (known_initial (slice_get is n)).cells o.start
  pub zero : x.zero ≡ zero_of o.storage (known_initial (slice_get is n)).zero
  pub code : x.code ≡ None

module _ (c : Context) (names : List (List ℕ)) (fs : List ℕ) (owners : List (Option ℕ)) (is : List Initial) where
  first_object : (texts n : ℕ) (o : program.Object) (x : Object) → program_object c names fs texts (mark_at owners n) (known_initial (slice_get is n)) o ≡ x → IsProgramObject c owners is n o x
  first_object texts n o x e = subst (λ y. IsProgramObject c owners is n o y) e (record { kind = refl; of = refl; function = refl; start = refl; zero = refl; code = refl })

  pub program_at : (texts n : ℕ) (os : List program.Object) (i : ℕ) (o : program.Object) → slice_get os i ≡ Some o
      → (x : Object) × (slice_get (program_objects c names fs owners is texts n os) i ≡ Some x) × IsProgramObject c owners is (n + i) o x
  program_at texts n [] i o e = absurd (none-some o e)
  program_at texts n (y ∷ os) zero o e =
      let x : Object = program_object c names fs texts (mark_at owners n) (known_initial (slice_get is n)) y in
      let s : n ≡ n + 0 = omega arith in
      (x, refl, subst (λ m. IsProgramObject c owners is m o x) s (subst (λ z. IsProgramObject c owners is n z x) (some_is y o e) (first_object texts n y x refl)))
  program_at texts n (y ∷ os) (suc i) o e =
      let h : (x : Object) × (slice_get (program_objects c names fs owners is (texts_behind y.storage texts) (n + 1) os) i ≡ Some x) × IsProgramObject c owners is (n + 1 + i) o x =
      program_at (texts_behind y.storage texts) (n + 1) os i o e in
      let s : n + 1 + i ≡ n + suc i = omega arith in
      (h.0, h.1, subst (λ m. IsProgramObject c owners is m o h.0) s h.2)

  pub program_from : (texts n : ℕ) (os : List program.Object) (i : ℕ) (x : Object) → slice_get (program_objects c names fs owners is texts n os) i ≡ Some x
      → (o : program.Object) × (slice_get os i ≡ Some o) × IsProgramObject c owners is (n + i) o x
  program_from texts n [] i x e = absurd (none-some x e)
  program_from texts n (y ∷ os) zero x e =
      let s : n ≡ n + 0 = omega arith in
      (y, refl, subst (λ m. IsProgramObject c owners is m y x) s (first_object texts n y x (some_is (program_object c names fs texts (mark_at owners n) (known_initial (slice_get is n)) y) x e)))
  program_from texts n (y ∷ os) (suc i) x e =
      let h : (o : program.Object) × (slice_get os i ≡ Some o) × IsProgramObject c owners is (n + 1 + i) o x = program_from (texts_behind y.storage texts) (n + 1) os i x e in
      let s : n + 1 + i ≡ n + suc i = omega arith in
      (h.0, h.1, subst (λ m. IsProgramObject c owners is m h.0 x) s h.2)

  pub program_length : (texts n : ℕ) (os : List program.Object) → length (program_objects c names fs owners is texts n os) ≡ length os
  program_length texts n [] = refl
  program_length texts n (y ∷ os) = ap suc (program_length (texts_behind y.storage texts) (n + 1) os)

-- ---- functions

pub record IsFunctionObject (codes : List (Option ℕ)) (n : ℕ) (f : Function) (x : Object) : Type 0 where
  pub kind : x.kind ≡ kinds.Function n
  pub of : x.of ≡ Some (function f.of)
  pub owner : x.function ≡ None
  pub start : x.start ≡ []
  pub zero : x.zero ≡ []
  pub code : x.code ≡ mark_at codes n

module _ (names : List (List ℕ)) (codes : List (Option ℕ)) where
  first_function : (n : ℕ) (f : Function) (x : Object) → function_object names codes n f ≡ x → IsFunctionObject codes n f x
  first_function n f x e = subst (λ y. IsFunctionObject codes n f y) e (record { kind = refl; of = refl; owner = refl; start = refl; zero = refl; code = refl })

  pub function_at : (n : ℕ) (fs : List Function) (i : ℕ) (f : Function) → slice_get fs i ≡ Some f
      → (x : Object) × (slice_get (function_objects names codes n fs) i ≡ Some x) × IsFunctionObject codes (n + i) f x
  function_at n [] i f e = absurd (none-some f e)
  function_at n (g ∷ fs) zero f e =
      let x : Object = function_object names codes n g in
      let s : n ≡ n + 0 = omega arith in
      (x, refl, subst (λ m. IsFunctionObject codes m f x) s (subst (λ z. IsFunctionObject codes n z x) (some_is g f e) (first_function n g x refl)))
  function_at n (g ∷ fs) (suc i) f e =
      let h : (x : Object) × (slice_get (function_objects names codes (n + 1) fs) i ≡ Some x) × IsFunctionObject codes (n + 1 + i) f x = function_at (n + 1) fs i f e in
      let s : n + 1 + i ≡ n + suc i = omega arith in
      (h.0, h.1, subst (λ m. IsFunctionObject codes m f h.0) s h.2)

  pub function_from : (n : ℕ) (fs : List Function) (i : ℕ) (x : Object) → slice_get (function_objects names codes n fs) i ≡ Some x
      → (f : Function) × (slice_get fs i ≡ Some f) × IsFunctionObject codes (n + i) f x
  function_from n [] i x e = absurd (none-some x e)
  function_from n (g ∷ fs) zero x e =
      let s : n ≡ n + 0 = omega arith in
      (g, refl, subst (λ m. IsFunctionObject codes m g x) s (first_function n g x (some_is (function_object names codes n g) x e)))
  function_from n (g ∷ fs) (suc i) x e =
      let h : (f : Function) × (slice_get fs i ≡ Some f) × IsFunctionObject codes (n + 1 + i) f x = function_from (n + 1) fs i x e in
      let s : n + 1 + i ≡ n + suc i = omega arith in
      (h.0, h.1, subst (λ m. IsFunctionObject codes m h.0 x) s h.2)

  pub function_length : (n : ℕ) (fs : List Function) → length (function_objects names codes n fs) ≡ length fs
  function_length n [] = refl
  function_length n (g ∷ fs) = ap suc (function_length (n + 1) fs)

-- ---- temporaries and results

-- the object holds a value of this type of the function k
pub record IsHolder (kind : ObjectKind) (k : ℕ) (t : CType) (x : Object) : Type 0 where
  pub is : x.kind ≡ kind
  pub of : x.of ≡ Some t
  pub owner : x.function ≡ Some k
  pub plain : IsPlain x

holder : (kind : ObjectKind) (k : ℕ) (t : CType) (name : List ℕ) (x : Object) → plain_object kind (Some t) name (Some k) ≡ x → IsHolder kind k t x
holder kind k t name x e = subst (λ y. IsHolder kind k t y) e (record { is = refl; of = refl; owner = refl; plain = record { start = refl; zero = refl; code = refl } })

pub temporary_at : (name : List ℕ) (k n : ℕ) (ts : List CType) (i : ℕ) (t : CType) → slice_get ts i ≡ Some t
    → (x : Object) × (slice_get (temporary_objects name k n ts) i ≡ Some x) × IsHolder kinds.Temp k t x
temporary_at name k n [] i t e = absurd (none-some t e)
temporary_at name k n (u ∷ ts) zero t e = (
  plain_object kinds.Temp (Some u) (temporary_name name n) (Some k),
  refl,
  subst (λ v. IsHolder kinds.Temp k v (plain_object kinds.Temp (Some u) (temporary_name name n) (Some k))) (some_is u t e) (holder kinds.Temp k u (temporary_name name n) _ refl),
)
temporary_at name k n (u ∷ ts) (suc i) t e = temporary_at name k (n + 1) ts i t e

temporary_from : (name : List ℕ) (k n : ℕ) (ts : List CType) (i : ℕ) (x : Object) → slice_get (temporary_objects name k n ts) i ≡ Some x
    → (t : CType) × (slice_get ts i ≡ Some t) × IsHolder kinds.Temp k t x
temporary_from name k n [] i x e = absurd (none-some x e)
temporary_from name k n (u ∷ ts) zero x e = (u, refl, holder kinds.Temp k u (temporary_name name n) x (some_is (plain_object kinds.Temp (Some u) (temporary_name name n) (Some k)) x e))
temporary_from name k n (u ∷ ts) (suc i) x e = temporary_from name k (n + 1) ts i x e

pub temporary_length : (name : List ℕ) (k n : ℕ) (ts : List CType) → length (temporary_objects name k n ts) ≡ length ts
temporary_length name k n [] = refl
temporary_length name k n (u ∷ ts) = ap suc (temporary_length name k (n + 1) ts)

pub result_at : (name : List ℕ) (k : ℕ) (t : CType) → is_void t ≡ false → (x : Object) × (result_objects name k t ≡ x ∷ []) × IsHolder kinds.Result k t x
result_at name k t there =
    let x : Object = plain_object kinds.Result (Some t) (result_name name) (Some k) in
    (x, ap (λ b. if b then [] else x ∷ []) there, holder kinds.Result k t (result_name name) x refl)

result_from : (name : List ℕ) (k : ℕ) (t : CType) (i : ℕ) (x : Object) → slice_get (result_objects name k t) i ≡ Some x → (is_void t ≡ false) × IsHolder kinds.Result k t x
result_from name k t i x e = by (is_void t) refl i e
  where
    by : (b : Bool) → is_void t ≡ b → (i : ℕ) → slice_get (if b then [] else plain_object kinds.Result (Some t) (result_name name) (Some k) ∷ []) i ≡ Some x → (is_void t ≡ false) × IsHolder kinds.Result k t x
    by true v i e = absurd (none-some x e)
    by false v zero e = (v, holder kinds.Result k t (result_name name) x (some_is (plain_object kinds.Result (Some t) (result_name name) (Some k)) x e))
    by false v (suc i) e = absurd (none-some x e)

pub result_length : (name : List ℕ) (k : ℕ) (g : Function) → length (result_objects name k (result_of g.of)) ≡ result_count g
result_length name k g = by (is_void (result_of g.of))
  where
    by : (b : Bool) → length (if b then [] else plain_object kinds.Result (Some (result_of g.of)) (result_name name) (Some k) ∷ []) ≡ (if b then 0 else 1)
    by true = refl
    by false = refl

-- what an object is that a function of the list has for itself
pub data IsOwn (ps : List Part) (k : ℕ) (gs : List Function) (x : Object) : Type 0 where
  temporary : (m i : ℕ) (g : Function) (t : CType) → slice_get gs m ≡ Some g → slice_get (part_at ps (k + m)).temporaries i ≡ Some t → IsHolder kinds.Temp (k + m) t x → IsOwn ps k gs x
  result : (m : ℕ) (g : Function) → slice_get gs m ≡ Some g → is_void (result_of g.of) ≡ false → IsHolder kinds.Result (k + m) (result_of g.of) x → IsOwn ps k gs x

module _ (names : List (List ℕ)) (ps : List Part) where
  own_later : (k : ℕ) (g : Function) (gs : List Function) (x : Object) → IsOwn ps (k + 1) gs x → IsOwn ps k (g ∷ gs) x
  own_later k g gs x (temporary m i f t e there h) =
      let s : k + 1 + m ≡ k + suc m = omega arith in
      temporary (suc m) i f t e (subst (λ j. slice_get (part_at ps j).temporaries i ≡ Some t) s there) (subst (λ j. IsHolder kinds.Temp j t x) s h)
  own_later k g gs x (result m f e there h) =
      let s : k + 1 + m ≡ k + suc m = omega arith in
      result (suc m) f e there (subst (λ j. IsHolder kinds.Result j (result_of f.of) x) s h)

  pub local_from : (k : ℕ) (gs : List Function) (i : ℕ) (x : Object) → slice_get (local_objects names k gs ps) i ≡ Some x → IsOwn ps k gs x
  local_from k [] i x e = absurd (none-some x e)
  local_from k (g ∷ gs) i x e = by (place_cases (own_objects (name_at names g.name) k g (part_at ps k).temporaries) (local_objects names (k + 1) gs ps) i x e) (λ j q. local_from (k + 1) gs j x q)
    where
      own : (slice_get (temporary_objects (name_at names g.name) k 1 (part_at ps k).temporaries) i ≡ Some x)
          ⊎ ((m : ℕ) × (i ≡ length (temporary_objects (name_at names g.name) k 1 (part_at ps k).temporaries) + m) × (slice_get (result_objects (name_at names g.name) k (result_of g.of)) m ≡ Some x)) → IsOwn ps k (g ∷ gs) x
      own (inl q) =
          let h : (t : CType) × (slice_get (part_at ps k).temporaries i ≡ Some t) × IsHolder kinds.Temp k t x = temporary_from (name_at names g.name) k 1 (part_at ps k).temporaries i x q in
          let s : k ≡ k + 0 = omega arith in
          temporary 0 i g h.0 refl (subst (λ j. slice_get (part_at ps j).temporaries i ≡ Some h.0) s h.1) (subst (λ j. IsHolder kinds.Temp j h.0 x) s h.2)
      own (inr q) =
          let h : (is_void (result_of g.of) ≡ false) × IsHolder kinds.Result k (result_of g.of) x = result_from (name_at names g.name) k (result_of g.of) q.0 x q.2 in
          let s : k ≡ k + 0 = omega arith in
          result 0 g refl h.0 (subst (λ j. IsHolder kinds.Result j (result_of g.of) x) s h.1)

      by : (slice_get (own_objects (name_at names g.name) k g (part_at ps k).temporaries) i ≡ Some x)
          ⊎ ((m : ℕ) × (i ≡ length (own_objects (name_at names g.name) k g (part_at ps k).temporaries) + m) × (slice_get (local_objects names (k + 1) gs ps) m ≡ Some x))
          → ((j : ℕ) → slice_get (local_objects names (k + 1) gs ps) j ≡ Some x → IsOwn ps (k + 1) gs x) → IsOwn ps k (g ∷ gs) x
      by (inl q) rest = own (place_cases (temporary_objects (name_at names g.name) k 1 (part_at ps k).temporaries) (result_objects (name_at names g.name) k (result_of g.of)) i x q)
      by (inr q) rest = own_later k g gs x (rest q.0 q.2)
