-- Declarations of functions, and names in expressions (C90 6.1.2.2, 6.1.2.6, 6.3.2.2).
use Rattle.std.proofs.Common.{◌≡◌, ℕ, ◌<◌, Bool, true, false, length, List, Option, Some, None, refl, subst}
use Rattle.std.specs.Prelude.{slice_get}
use Rattle.sp_tree.specs.declared.fault.Place.{Place}
use Rattle.sp_types.specs.Types.{CType, function, Signature}
use Rattle.sp_types.specs.Structs.{IsFormed, IsFormedSignature}
use Rattle.sp_types.specs.Programs.{Function}
use Rattle.sp_types.specs.declared.program.Linkage.{Linkage}
use Rattle.sp_check_scopes.specs.Meanings as means
use Rattle.sp_check_env.specs.declared.env.Entity.{Entity}
use Rattle.sp_check_env.specs.declared.env.Entity.TheVariants as entities
use Rattle.sp_check_env.specs.Env.{Env, linked, with_link, with_typing, typings_with, with_function, with_function_type, function_type, function_linkage}
use Rattle.sp_check_primaries.specs.Functions.{extern_linkage, is_retyped, retyped, as_function, undefined_function, joined_type, function_at, function_declared}
use Rattle.sp_check_primaries.specs.Names.{implicit_type, implicit_name}
use Rattle.sp_check_formed_laws.proofs.Lists.{none_some, some_is, each_none}
use Rattle.sp_check_formed_laws.proofs.Composites.{signature_composed}
use Rattle.sp_check_formed_laws.proofs.Envs.{IsFormedEnv, Goes, goes_nowhere, goes_on}
use Rattle.sp_check_formed_laws.proofs.After.{Any, Gives, gives, gives_met, gives_given, After, done, after_none, carried, lead, taken, Leads, leads, leads_after, leads_either}
use Rattle.sp_check_formed_laws.proofs.Updates.{goes_linked, goes_typing, goes_typings, typings_more, goes_function, goes_function_typed, leads_declared_in_block}

-- ---- the types of external names

pub goes_retyped : (env : Env) (changed : Bool) (l : Linkage) (n : ℕ) (t : CType) (p : Place) → IsFormedEnv env → IsFormed env.tables.structs t → Goes env (retyped env changed l n t p)
goes_retyped env true l n t p h f =
    goes_typings env h (typings_with env.tables.typings l (record { name = n; of = t; place = p })) (typings_more env h l (record { name = n; of = t; place = p }) f)
goes_retyped env false l n t p h f = goes_typings env h env.tables.typings h.typings

-- ---- functions

pub function_found : (env : Env) (k : ℕ) (s : Signature) → IsFormedEnv env → function_type (slice_get env.tables.functions k) ≡ Some s → IsFormedSignature env.tables.structs s
function_found env k s h e = by (slice_get env.tables.functions k) refl e
  where
    by : (o : Option Function) → slice_get env.tables.functions k ≡ o → function_type o ≡ Some s → IsFormedSignature env.tables.structs s
    by None g f = absurd (none_some s f)
    by (Some x) g f = subst (λ t. IsFormedSignature env.tables.structs t) (some_is x.of s f) (h.functions k x g).0

goes_added : (env : Env) (n : ℕ) (l : Linkage) (s : Signature) (p : Place) → IsFormedEnv env → IsFormedSignature env.tables.structs s
    → Goes env (with_typing (with_link (with_function env (undefined_function n l s p)) n (entities.Function (length env.tables.functions))) l n (function s) p)
goes_added env n l s p h f =
    let a : Env = with_function env (undefined_function n l s p) in
    let b : Env = with_link a n (entities.Function (length env.tables.functions)) in
    let to-a : Goes env a = goes_function env h (undefined_function n l s p) (f, each_none (λ k. k < length env.tables.objects), each_none (λ k. k < length env.tables.objects)) in
    let to-b : Goes a b = goes_linked a to-a.formed n (entities.Function (length env.tables.functions)) in
    goes_on env a (with_typing b l n (function s) p) to-a (goes_on a b (with_typing b l n (function s) p) to-b (goes_typing b to-b.formed l n (function s) p f))

goes_joined : (env : Env) (changed : Bool) (l : Linkage) (n : ℕ) (t : Signature) (p : Place) (k : ℕ) → IsFormedEnv env → IsFormedSignature env.tables.structs t
    → Goes env (with_function_type (retyped env changed l n (function t) p) k t)
goes_joined env changed l n t p k h f =
    let a : Env = retyped env changed l n (function t) p in
    let to-a : Goes env a = goes_retyped env changed l n (function t) p h f in
    goes_on env a (with_function_type a k t) to-a (goes_function_typed a to-a.formed k t f)

type_joined : (env : Env) (l : Linkage) (s : Signature) (p : Place) (k : ℕ) → IsFormedEnv env → IsFormedSignature env.tables.structs s → Gives (λ t. IsFormedSignature env.tables.structs t) (joined_type env l s p k)
type_joined env l s p k h f =
    gives_given {o = function_linkage (slice_get env.tables.functions k)} _ _ (λ old e. gives_given {o = function_type (slice_get env.tables.functions k)} _ _ (λ t g. gives_met _ _ (λ fits. gives (signature_composed env.tables.structs t s (function_found env k t h g) f))))

function_leads : (env : Env) (n : ℕ) (l : Linkage) (s : Signature) (p : Place) (o : Option Entity) → IsFormedEnv env → IsFormedSignature env.tables.structs s
    → After env Any (function_at env n l s p o)
function_leads env n l s p None h f =
    let g : Goes env (with_typing (with_link (with_function env (undefined_function n l s p)) n (entities.Function (length env.tables.functions))) l n (function s) p) = goes_added env n l s p h f in
    carried g (lead (leads_declared_in_block (with_typing (with_link (with_function env (undefined_function n l s p)) n (entities.Function (length env.tables.functions))) l n (function s) p) g.formed n (means.function (length env.tables.functions)) p tt)
    (λ e k. done (goes_nowhere e k.formed) tt))
function_leads env n l s p (Some (entities.Function k)) h f =
    taken (type_joined env l s p k h f) (λ t j.
    let g : Goes env (with_function_type (retyped env (is_retyped (as_function (function_type (slice_get env.tables.functions k))) (function t)) l n (function t) p) k t) =
    goes_joined env (is_retyped (as_function (function_type (slice_get env.tables.functions k))) (function t)) l n t p k h j in
    carried g (lead (leads_declared_in_block (with_function_type (retyped env (is_retyped (as_function (function_type (slice_get env.tables.functions k))) (function t)) l n (function t) p) k t) g.formed n (means.function k) p tt)
    (λ e k. done (goes_nowhere e k.formed) tt)))
function_leads env n l s p (Some (entities.Object k)) h f = after_none

pub function_formed : (env : Env) (n : ℕ) (l : Linkage) (s : Signature) (p : Place) → IsFormedEnv env → IsFormedSignature env.tables.structs s → After env Any (function_declared env n l s p)
function_formed env n l s p h f = function_leads env n l s p (linked env n) h f

-- a name that is called
pub implicit_formed : (names : List (List ℕ)) (env : Env) (n : ℕ) (p : Place) → IsFormedEnv env → Leads env (implicit_name names env n p)
implicit_formed names env n p h =
    leads_either (λ e. leads (goes_nowhere env h)) (λ e. leads_after (function_formed env n (extern_linkage env n) implicit_type p h (tt, tt)) (λ x g a. leads (goes_nowhere x.1 g.formed)))
