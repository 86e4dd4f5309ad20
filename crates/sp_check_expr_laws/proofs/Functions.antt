-- Declarations of functions leave the environment sound (C90 6.1.2.2, 6.1.2.6, 6.3.2.2).
use Rattle.std.proofs.Common.{◌≡◌, ℕ, ◌<◌, Bool, true, false, length, List, Option, Some, None, refl, ap, sym, subst, ◌∙◌}
use Rattle.std.specs.Prelude.{slice_get}
use Rattle.sp_tree.specs.declared.fault.Place.{Place}
use Rattle.sp_types.specs.Types.{CType, function, Signature, signature, Struct}
use Rattle.sp_types.specs.Structs.{IsFormed, IsFormedSignature}
use Rattle.sp_types.specs.Programs.{Function}
use Rattle.sp_types.specs.declared.program.Linkage.{Linkage}
use Rattle.sp_parse_trees.specs.Syntax.{Expression, expression}
use Rattle.sp_parse_trees.specs.Syntax as syntax
use Rattle.sp_check_env.specs.declared.env.Entity.{Entity}
use Rattle.sp_check_env.specs.declared.env.Entity.TheVariants as entities
use Rattle.sp_check_env.specs.Env.{Env, linked, with_link, with_typing, typings_with, with_function, with_function_type, function_type, function_linkage}
use Rattle.sp_check_primaries.specs.Functions.{extern_linkage, is_retyped, retyped, as_function, undefined_function, joined_type, function_at, function_declared}
use Rattle.sp_check_primaries.specs.Composite.{composite_signature}
use Rattle.sp_check_primaries.specs.Names.{implicit_type}
use Rattle.sp_expr_check.specs.Expressions.{with_implicit}
use Rattle.sp_check_formed_laws.proofs.Lists.{none_some, some_is, each_none, pushed_last}
use Rattle.sp_check_formed_laws.proofs.Composites.{signature_composed}
use Rattle.sp_check_formed_laws.proofs.Updates.{typings_more}
use Rattle.sp_check_formed_laws.proofs.After.{Gives, gives, gives_met, gives_given}
use Rattle.sp_check_expr_laws.specs.Sound.{IsSoundSignature}
use Rattle.sp_check_expr_laws.proofs.Composites.{signature_sound}
use Rattle.sp_check_expr_laws.proofs.Envs.{Follows, IsFit, Reaches, reaches_nowhere, reaches_on}
use Rattle.sp_check_expr_laws.proofs.Named.{inserted_there}
use Rattle.sp_check_expr_laws.proofs.Objects.{composite_agrees}
use Rattle.sp_check_expr_laws.proofs.After.{After, done, after_none, carried, lead, taken, Leads, leads, leads_after, leads_either}
use Rattle.sp_check_expr_laws.proofs.Updates.{reaches_linked, reaches_typing, reaches_typings, reaches_function, reaches_function_typed, leads_declared_in_block}

pub composite_follows : (s r : Signature) → Follows s (composite_signature s r)
composite_follows (signature a ps v) (signature b qs w) t h = composite_agrees a b t h

-- the function of the number is there
abbrev pub IsFound : ℕ → Env → Type 0
IsFound k env = (f : Function) × (slice_get env.tables.functions k ≡ Some f)

pub found_on : {own : ℕ → Bool} {env later : Env} → Reaches own env later → (k : ℕ)
    → IsFound k env → IsFound k later
found_on g k h = let x = g.moves.kept k h.0 h.1 in (x.function, x.there)

function_some : (o : Option Function) (t : Signature) → function_type o ≡ Some t
    → (f : Function) × (o ≡ Some f)
function_some None t e = absurd (none_some t e)
function_some (Some f) t e = (f, refl)

-- formed and sound
abbrev pub IsGoodSignature : List Struct → Signature → Type 0
IsGoodSignature ss s = IsFormedSignature ss s × IsSoundSignature s

module _ (own : ℕ → Bool) (env : Env) (h : IsFit own env) where
  pub reaches_retyped : (changed : Bool) (l : Linkage) (n : ℕ) (t : CType) (p : Place)
      → IsFormed env.tables.structs t → Reaches own env (retyped env changed l n t p)
  reaches_retyped true l n t p f =
      reaches_typings own env h
      (typings_with env.tables.typings l (record { name = n; of = t; place = p }))
      (typings_more env h.formed l (record { name = n; of = t; place = p }) f)
  reaches_retyped false l n t p f = reaches_typings own env h env.tables.typings h.formed.typings

  pub function_good : (k : ℕ) (s : Signature) → function_type (slice_get env.tables.functions k)
      ≡ Some s → IsGoodSignature env.tables.structs s
  function_good k s e = by (slice_get env.tables.functions k) refl e
    where
      by : (o : Option Function) → slice_get env.tables.functions k ≡ o → function_type o ≡ Some s
          → IsGoodSignature env.tables.structs s
      by None g f = absurd (none_some s f)
      by (Some x) g f = subst (λ t. IsGoodSignature env.tables.structs t) (some_is x.of s f)
          ((h.formed.functions k x g).0, h.functions k x g)

  -- ---- a new function

  abbrev added : ℕ → Linkage → Signature → Place → Env
  added n l s p = with_typing
      (with_link (with_function env (undefined_function n l s p)) n
      (entities.Function (length env.tables.functions))) l n (function s) p

  reaches_added : (n : ℕ) (l : Linkage) (s : Signature) (p : Place) → linked env n ≡ None
      → IsGoodSignature env.tables.structs s → Reaches own env (added n l s p)
  reaches_added n l s p none f =
      let e : Entity = entities.Function (length env.tables.functions) in
      let a : Env = with_link env n e in
      let b : Env = with_function a (undefined_function n l s p) in
      let to-a : Reaches own env a = reaches_linked own env h n e none in
      let to-b : Reaches own a b =
      reaches_function own a to-a.fit (undefined_function n l s p) (
        f.0,
        each_none (λ k. k < length env.tables.objects),
        each_none
            (λ k. k < length env.tables.objects),
      ) f.1 refl (inserted_there env.links n e) in
      reaches_on own env a (with_typing b l n (function s) p) to-a
      (reaches_on own a b (with_typing b l n (function s) p) to-b
      (reaches_typing own b to-b.fit l n (function s) p f.0))

  -- ---- a further declaration

  abbrev joined : Bool → Linkage → ℕ → Signature → Place → ℕ → Env
  joined changed l n t p k = with_function_type (retyped env changed l n (function t) p) k t

  -- the type of the function, joined with another
  abbrev IsJoined : ℕ → Signature → Type 0
  IsJoined k t = IsGoodSignature env.tables.structs t
      × ((f : Function) → slice_get env.tables.functions k ≡ Some f → Follows f.of t)
      × IsFound k env

  reaches_joined : (changed : Bool) (l : Linkage) (n : ℕ) (t : Signature) (p : Place) (k : ℕ)
      → IsJoined k t → Reaches own env (joined changed l n t p k)
  reaches_joined changed l n t p k j =
      let f : IsGoodSignature env.tables.structs t = j.0 in
      let a : Env = retyped env changed l n (function t) p in
      let to-a : Reaches own env a = reaches_retyped changed l n (function t) p f.0 in
      reaches_on own env a (with_function_type a k t) to-a
      (reaches_function_typed own a to-a.fit k t f.0 f.1 j.1)

  type_joined : (l : Linkage) (s : Signature) (p : Place) (k : ℕ)
      → IsGoodSignature env.tables.structs s → Gives (IsJoined k) (joined_type env l s p k)
  type_joined l s p k f =
      gives_given {o = function_linkage (slice_get env.tables.functions k)} _ _
      (λ old e. gives_given {o = function_type (slice_get env.tables.functions k)} _ _
      (λ t g. gives_met _ _ (λ fits.
      gives (
        (
          signature_composed env.tables.structs t s (function_good k t g).0 f.0,
          signature_sound t s (function_good k t g).1 f.1,
        ),
        λ x at. subst (λ r. Follows r (composite_signature t s))
            (sym (some_is x.of t (sym (ap function_type at) ∙ g))) (composite_follows t s),
        function_some (slice_get env.tables.functions k) t g,
      ))))

  function_leads : (n : ℕ) (l : Linkage) (s : Signature) (p : Place) (o : Option Entity)
      → linked env n ≡ o → IsGoodSignature env.tables.structs s → After own env IsFound
      (function_at env n l s p o)
  function_leads n l s p None is f =
      let g : Reaches own env (added n l s p) = reaches_added n l s p is f in
      carried g (lead (leads_declared_in_block own (added n l s p) g.fit n
      (length env.tables.functions) p)
      (λ e k. done (reaches_nowhere own e k.fit) (found_on k (length env.tables.functions) (
        undefined_function n l s p,
        pushed_last env.tables.functions (undefined_function n l s p),
      ))))
  function_leads n l s p (Some (entities.Function k)) is f =
      taken (type_joined l s p k f) (λ t j.
      let c : Bool = is_retyped (as_function (function_type (slice_get env.tables.functions k)))
      (function t) in
      let g : Reaches own env (joined c l n t p k) = reaches_joined c l n t p k j in
      carried g (lead (leads_declared_in_block own (joined c l n t p k) g.fit n k p)
      (λ e i. done (reaches_nowhere own e i.fit) (found_on i k (found_on g k j.2)))))
  function_leads n l s p (Some (entities.Object k)) is f = after_none

  pub function_sound : (n : ℕ) (l : Linkage) (s : Signature) (p : Place)
      → IsGoodSignature env.tables.structs s → After own env IsFound (function_declared env n l s p)
  function_sound n l s p f = function_leads n l s p (linked env n) refl f

-- a name that is called
pub call_leads : (own : ℕ → Bool) (names : List (List ℕ)) (env : Env) (e : Expression)
    → IsFit own env → Leads own env (with_implicit names env e)
call_leads own names env (expression (syntax.name n) p m) h =
    leads_either (λ e. leads (reaches_nowhere own env h))
    (λ e. leads_after (function_sound own env h n (extern_linkage env n) implicit_type p
    ((tt, tt), (refl, tt, tt))) (λ x g a. leads (reaches_nowhere own x.1 g.fit)))
call_leads own names env e h = leads (reaches_nowhere own env h)
