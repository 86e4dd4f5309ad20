-- Names with linkage (C90 6.1.2.2): each entry with linkage is what its name is linked to.
use Rattle.std.proofs.Common.{◌≡◌, ◌⊎◌, inl, inr, ℕ, zero, suc, Bool, true, false, true≢false, eqb-true, ◌∙◌, ap, sym, subst, length, List, [], ◌∷◌, Some, None, refl}
use Rattle.std.specs.Prelude.{slice_get, cond, nat_eq, is_some}
use Rattle.indexmap.specs.IndexMap.{insert_entry}
use Rattle.sp_types.specs.Types.{Signature}
use Rattle.sp_types.specs.Programs.{Object, Function}
use Rattle.sp_check_scopes.specs.Scopes.{entry}
use Rattle.sp_check_env.specs.declared.env.Entity.{Entity}
use Rattle.sp_check_env.specs.declared.env.Entity.TheVariants as entities
use Rattle.sp_check_env.specs.Env.{Env, linked, with_link, with_object, with_function, typed_by, changed, with_function_type}
use Rattle.sp_check_objects.specs.Objects.{has_linkage}
use Rattle.sp_check_formed_laws.proofs.Lists.{none_some, some_is}
use Rattle.sp_check_expr_laws.proofs.Types.{number_equals}
use Rattle.sp_check_expr_laws.proofs.Starts.{pushed_split}

abbrev pub ObjectsAreNamed : List (ℕ × Entity) → List Object → Type 0
ObjectsAreNamed links os = (k : ℕ) (o : Object) → slice_get os k ≡ Some o
    → has_linkage o.linkage ≡ true → entry links o.name ≡ Some (entities.Object k)

-- each function has linkage
abbrev pub FunctionsAreNamed : List (ℕ × Entity) → List Function → Type 0
FunctionsAreNamed links fs = (k : ℕ) (f : Function) → slice_get fs k ≡ Some f
    → entry links f.name ≡ Some (entities.Function k)

abbrev pub AreNamed : Env → Type 0
AreNamed env = ObjectsAreNamed env.links env.tables.objects
    × FunctionsAreNamed env.links env.tables.functions

-- what has a body behind a rule had one before it
abbrev pub KeepBodies : List Function → List Function → Type 0
KeepBodies fs gs = (k : ℕ) (g : Function) → slice_get gs k ≡ Some g → is_some g.body ≡ true
    → (f : Function) × (slice_get fs k ≡ Some f) × (is_some f.body ≡ true)

-- a rule keeps them so, and gives no function a body: only a definition does
abbrev pub KeepNames : Env → Env → Type 0
KeepNames env later = (AreNamed env → AreNamed later)
    × KeepBodies env.tables.functions later.tables.functions

pub names_nowhere : (env : Env) → KeepNames env env
names_nowhere env = (λ h. h, λ k g at b. (g, at, b))

pub names_on : (a b c : Env) → KeepNames a b → KeepNames b c → KeepNames a c
names_on a b c g h = (
  λ x. h.0 (g.0 x),
  λ k f at body. let y = h.1 k f at body in g.1 k y.0 y.1 y.2,
)

-- ---- an entry of another name stays, and the new one is there

inserted_other : (es : List (ℕ × Entity)) (n : ℕ) (v : Entity) (m : ℕ) (r : Entity)
    → (n ≡ m → ⊥) → entry es m ≡ Some r → entry (insert_entry nat_eq es n v) m ≡ Some r
inserted_other [] n v m r other h = absurd (none_some r h)
inserted_other (e ∷ es) n v m r other h =
    by (nat_eq n e.0) refl (nat_eq m e.0) refl h (inserted_other es n v m r other)
  where
    by : (b : Bool) → nat_eq n e.0 ≡ b → (c : Bool) → nat_eq m e.0 ≡ c
        → cond c (Some e.1) (entry es m) ≡ Some r
        → (entry es m ≡ Some r → entry (insert_entry nat_eq es n v) m ≡ Some r)
        → entry (cond b ((e.0, v) ∷ es) (e ∷ insert_entry nat_eq es n v)) m ≡ Some r
    by true is true it g ih = absurd (other (eqb-true n e.0 is ∙ sym (eqb-true m e.0 it)))
    by true is false it g ih = ap (λ b. cond b (Some v) (entry es m)) it ∙ g
    by false is true it g ih =
        ap (λ b. cond b (Some e.1) (entry (insert_entry nat_eq es n v) m)) it ∙ g
    by false is false it g ih =
        ap (λ b. cond b (Some e.1) (entry (insert_entry nat_eq es n v) m)) it ∙ ih g

pub inserted_kept : (es : List (ℕ × Entity)) (n : ℕ) (v : Entity) (m : ℕ) (r : Entity)
    → entry es n ≡ None → entry es m ≡ Some r → entry (insert_entry nat_eq es n v) m ≡ Some r
inserted_kept es n v m r none h =
    inserted_other es n v m r (λ is. none_some r (sym none ∙ ap (entry es) is ∙ h)) h

pub inserted_there : (es : List (ℕ × Entity)) (n : ℕ) (v : Entity)
    → entry (insert_entry nat_eq es n v) n ≡ Some v
inserted_there [] n v = ap (λ b. cond b (Some v) None) (number_equals n)
inserted_there (e ∷ es) n v = by (nat_eq n e.0) refl (inserted_there es n v)
  where
    by : (b : Bool) → nat_eq n e.0 ≡ b → entry (insert_entry nat_eq es n v) n ≡ Some v
        → entry (cond b ((e.0, v) ∷ es) (e ∷ insert_entry nat_eq es n v)) n ≡ Some v
    by true is ih = ap (λ b. cond b (Some v) (entry es n)) is
    by false is ih =
        ap (λ b. cond b (Some e.1) (entry (insert_entry nat_eq es n v) n)) is ∙ ih

-- ---- steps

-- a name that wasn't linked
pub names_linked : (env : Env) (n : ℕ) (e : Entity) → linked env n ≡ None
    → KeepNames env (with_link env n e)
names_linked env n e none = (
  λ h. (
    λ k o at mine.
        inserted_kept env.links n e o.name (entities.Object k) none (h.0 k o at mine),
    λ k f at. inserted_kept env.links n e f.name (entities.Function k) none (h.1 k f at),
  ),
  λ k g at b. (g, at, b),
)

-- one more object without linkage
pub names_object : (env : Env) (o : Object) → has_linkage o.linkage ≡ false
    → KeepNames env (with_object env o)
names_object env o private = (
  λ h. (λ k x at. by h k x (pushed_split env.tables.objects o x k at), h.1),
  λ k g at b. (g, at, b),
)
  where
    by : AreNamed env → (k : ℕ) (x : Object)
        → (slice_get env.tables.objects k ≡ Some x) ⊎ ((k ≡ length env.tables.objects) × (o ≡ x))
        → has_linkage x.linkage ≡ true → linked env x.name ≡ Some (entities.Object k)
    by h k x (inl at) mine = h.0 k x at mine
    by h k x (inr y) mine =
        absurd (true≢false (sym mine ∙ sym (ap (λ z. has_linkage z.linkage) y.1) ∙ private))

-- one more function, to which its name is linked
pub names_function : (env : Env) (f : Function) → is_some f.body ≡ false
    → linked env f.name ≡ Some (entities.Function (length env.tables.functions))
    → KeepNames env (with_function env f)
names_function env f bodiless link = (
  λ h. (h.0, λ k x at. by h k x (pushed_split env.tables.functions f x k at)),
  λ k x at. body k x (pushed_split env.tables.functions f x k at),
)
  where
    by : AreNamed env → (k : ℕ) (x : Function)
        → (slice_get env.tables.functions k ≡ Some x)
        ⊎ ((k ≡ length env.tables.functions) × (f ≡ x))
        → linked env x.name ≡ Some (entities.Function k)
    by h k x (inl at) = h.1 k x at
    by h k x (inr y) =
        subst (λ z. linked env z.name ≡ Some (entities.Function k)) y.1
        (subst (λ i. linked env f.name ≡ Some (entities.Function i)) (sym y.0) link)

    body : (k : ℕ) (x : Function)
        → (slice_get env.tables.functions k ≡ Some x)
        ⊎ ((k ≡ length env.tables.functions) × (f ≡ x))
        → is_some x.body ≡ true
        → (g : Function) × (slice_get env.tables.functions k ≡ Some g) × (is_some g.body ≡ true)
    body k x (inl at) b = (x, at, b)
    body k x (inr y) b =
        absurd (true≢false (sym b ∙ sym (ap (λ z. is_some z.body) y.1) ∙ bodiless))

-- the function before its type changed
changed_before : (s : Signature) (fs : List Function) (k j : ℕ) (x : Function)
    → slice_get (changed (typed_by s) fs k) j ≡ Some x
    → (f : Function) × (slice_get fs j ≡ Some f) × (f.name ≡ x.name) × (f.body ≡ x.body)
changed_before s [] k j x at = absurd (none_some x at)
changed_before s (f ∷ fs) zero zero x at =
    (f, refl, ap (λ z. z.name) (some_is (typed_by s f) x at), ap (λ z. z.body) (some_is (typed_by s f) x at))
changed_before s (f ∷ fs) zero (suc j) x at = (x, at, refl, refl)
changed_before s (f ∷ fs) (suc k) zero x at = (x, at, refl, refl)
changed_before s (f ∷ fs) (suc k) (suc j) x at = changed_before s fs k j x at

pub names_typed : (env : Env) (k : ℕ) (s : Signature) → KeepNames env (with_function_type env k s)
names_typed env k s = (
  λ h. (
    h.0,
    λ j x at.
        let y = changed_before s env.tables.functions k j x at in
        ap (λ n. linked env n) (sym y.2) ∙ h.1 j y.0 y.1,
  ),
  λ j x at body.
      let y = changed_before s env.tables.functions k j x at in
      (y.0, y.1, ap is_some y.3 ∙ body),
)
