-- Declarations of objects leave the environment formed (C90 6.1.2.2, 6.1.2.6, 6.7.2).
use Rattle.std.proofs.Common.{ℕ, ◌≤◌, ◌<◌, arith, Bool, true, false, ◌||◌, not, if◌then◌else◌, length, List, Option, Some, None, refl, ◌∙◌}
use Rattle.std.specs.Prelude.{is_some, slice_get}
use Rattle.sp_tree.specs.declared.fault.Place.{Place}
use Rattle.sp_types.specs.Types.{CType, void, Struct}
use Rattle.sp_types.specs.Programs.{Object}
use Rattle.sp_types.specs.declared.program.Linkage.{Linkage}
use Rattle.sp_types.specs.declared.program.Linkage.TheVariants.{External, Internal, Inner}
use Rattle.sp_types.specs.declared.program.Storage.{Storage}
use Rattle.sp_types.specs.declared.program.Storage.TheVariants.{Outside, Static}
use Rattle.sp_check_operands.specs.Conversions.{is_complete}
use Rattle.sp_check_scopes.specs.Meanings as means
use Rattle.sp_check_env.specs.declared.env.Entity.{Entity}
use Rattle.sp_check_env.specs.declared.env.Entity.TheVariants as entities
use Rattle.sp_check_env.specs.Env.{Env, declared, with_typing, set_object, object_type}
use Rattle.sp_check_primaries.specs.Composite.{composite}
use Rattle.sp_check_primaries.specs.Functions.{is_retyped, retyped}
use Rattle.sp_check_objects.specs.Objects.{is_outside, new_object, entry_for, object_reserved, linked_to, object_added, is_more_defined, joined_object, may_join, joined_at, object_joined, object_declared, may_wait, object_unvalued}
use Rattle.sp_check_formed_laws.proofs.Composites.{composite_formed, composite_function}
use Rattle.sp_check_formed_laws.proofs.Lists.{Each}
use Rattle.sp_check_formed_laws.proofs.Envs.{IsFormedEnv, IsFormedObject, AreBelow, Goes, goes_nowhere, goes_on}
use Rattle.sp_check_formed_laws.proofs.After.{Gives, gives, gives_met, gives_given, Leads, leads, leads_none, leads_carried, leads_taken, leads_met, leads_given}
use Rattle.sp_check_formed_laws.proofs.Updates.{goes_object, goes_object_set, goes_linked, goes_typing, leads_declared}
use Rattle.sp_check_formed_laws.proofs.Functions.{goes_retyped}
use Rattle.sp_check_formed_laws.proofs.Leaves.{type_kept}
use Rattle.sp_check_formed_laws.proofs.Initialisers.{IsObjectType}

-- numbers of objects of the environment, from a number on
abbrev pub IsNumber : ℕ → Env → ℕ → Type 0
IsNumber from env k = (from ≤ k) × (k < length env.tables.objects)

abbrev pub AreNumbers : ℕ → List ℕ → Env → Type 0
AreNumbers from ks env = Each (IsNumber from env) ks

-- so many objects are there
abbrev pub Has : ℕ → Env → Type 0
Has from env = from ≤ length env.tables.objects

pub has_later : (from : ℕ) (env later : Env) → Goes env later → Has from env → Has from later
has_later from env later g l = omega (arith, g.keeps.objects, l)

pub numbers_kept : (from : ℕ) (env later : Env) → Goes env later → (ks : List ℕ) → AreNumbers from ks env → AreNumbers from ks later
numbers_kept from env later g ks h = λ i k at.
    let b : IsNumber from env k = h i k at in (b.0, omega (arith, b.1, g.keeps.objects))

pub numbers_below : (from : ℕ) (env : Env) (ks : List ℕ) → AreNumbers from ks env → AreBelow (length env.tables.objects) ks
numbers_below from env ks h = λ i k at. (h i k at).1

pub goes_reserved : (env : Env) (n : ℕ) (p : Place) (o : Option Entity) → IsFormedEnv env → Goes env (object_reserved env n p o)
goes_reserved env n p None h = goes_object env h (new_object n void Outside Inner p) (tt, refl)
goes_reserved env n p (Some (entities.Object k)) h = goes_nowhere env h
goes_reserved env n p (Some (entities.Function k)) h = goes_object env h (new_object n void Outside Inner p) (tt, refl)

goes_linked_to : (env : Env) (n : ℕ) (l : Linkage) (k : ℕ) → IsFormedEnv env → Goes env (linked_to env n l k)
goes_linked_to env n External k h = goes_linked env h n (entities.Object k)
goes_linked_to env n Internal k h = goes_linked env h n (entities.Object k)
goes_linked_to env n Inner k h = goes_nowhere env h

added_leads : (env : Env) (k n : ℕ) (t : CType) (s : Storage) (l : Linkage) (p : Place) → IsFormedEnv env → IsObjectType t env → Leads env (object_added env k n t s l p)
added_leads env k n t s l p h f =
    let a : Env = set_object env k (new_object n t s l p) in
    let b : Env = linked_to a n l k in
    let c : Env = with_typing b l n t p in
    let to-a : Goes env a = goes_object_set env h k (new_object n t s l p) f in
    let to-b : Goes a b = goes_linked_to a n l k to-a.formed in
    let to-c : Goes b c = goes_typing b to-b.formed l n t p (type_kept a b to-b t f.0) in
    leads_met {b = not (is_some (entry_for env n l))} _ _ (λ first.
    leads_carried (goes_on env a c to-a (goes_on a b c to-b to-c)) (leads_declared c to-c.formed n (means.object k) p tt))

-- ---- a further declaration

joined_formed : (ss : List Struct) (o : Object) (t : CType) (s : Storage) (valued : Bool) (p : Place) → IsFormedObject ss o → IsFormedObject ss (record o { of = t; storage = s; place = p }) → IsFormedObject ss (joined_object o t s valued p)
joined_formed ss o t s valued p h f = by (is_more_defined o.storage s valued)
  where
    c : IsFormedObject ss (record o { of = composite o.of t })
    c = (composite_formed ss o.of t h.0 f.0, composite_function o.of t ∙ h.1)

    by : (b : Bool) → IsFormedObject ss (if b then record o { of = composite o.of t; storage = Static; place = p } else record o { of = composite o.of t })
    by true = c
    by false = c

joins : (env : Env) (t : CType) (s : Storage) (l : Linkage) (valued : Bool) (p : Place) (k : ℕ) → IsFormedEnv env → IsObjectType t env → Gives (λ o. IsFormedObject env.tables.structs o) (joined_at env.tables.objects t s l valued p k)
joins env t s l valued p k h f =
    gives_given {o = slice_get env.tables.objects k} _ _ (λ o e. gives_met {b = may_join o t l valued} _ _ (λ may.
    gives (joined_formed env.tables.structs o t s valued p (h.objects k o e) f)))

joined_leads : (env : Env) (n : ℕ) (t : CType) (s : Storage) (l : Linkage) (valued : Bool) (p : Place) (k : ℕ) → IsFormedEnv env → IsObjectType t env → Leads env (object_joined env n t s l valued p k)
joined_leads env n t s l valued p k h f =
    leads_taken (joins env t s l valued p k h f) (λ o j. by o j (is_retyped (object_type (slice_get env.tables.objects k)) o.of))
  where
    by : (o : Object) → IsFormedObject env.tables.structs o → (b : Bool) → Leads env (declared (set_object (retyped env b l n o.of p) k o) n (means.object k) p)
    by o j true =
        let a : Env = retyped env true l n o.of p in
        let to-a : Goes env a = goes_retyped env true l n o.of p h j.0 in
        let to-b : Goes a (set_object a k o) = goes_object_set a to-a.formed k o j in
        leads_carried (goes_on env a (set_object a k o) to-a to-b) (leads_declared (set_object a k o) to-b.formed n (means.object k) p tt)
    by o j false =
        let a : Env = retyped env false l n o.of p in
        let to-a : Goes env a = goes_retyped env false l n o.of p h j.0 in
        let to-b : Goes a (set_object a k o) = goes_object_set a to-a.formed k o j in
        leads_carried (goes_on env a (set_object a k o) to-a to-b) (leads_declared (set_object a k o) to-b.formed n (means.object k) p tt)

pub object_leads : (env : Env) (k n : ℕ) (t : CType) (s : Storage) (l : Linkage) (valued : Bool) (p : Place) (o : Option Entity) → IsFormedEnv env → IsObjectType t env
    → Leads env (object_declared env k n t s l valued p o)
object_leads env k n t s l valued p None h f = added_leads env k n t s l p h f
object_leads env k n t s l valued p (Some (entities.Object j)) h f = joined_leads env n t s l valued p j h f
object_leads env k n t s l valued p (Some (entities.Function j)) h f = leads_none

pub unvalued_leads : (env : Env) (k : ℕ) (l : Linkage) (s : Storage) (at : Place) → IsFormedEnv env → Leads env (object_unvalued env k l s at)
unvalued_leads env k l s at h =
    leads_given {o = object_type (slice_get env.tables.objects k)} _ _ (λ t e.
    leads_met {b = is_outside s || may_wait l t || is_complete env.tables.structs t} _ _ (λ whole. leads (goes_nowhere env h)))
