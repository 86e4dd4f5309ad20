-- The environment behind a declaration is formed, and the objects that it lists are there
-- (C90 6.5, 6.7.2).
use Rattle.std.proofs.Common.{◌≡◌, ℕ, Bool, true, false, not, ◌&&◌, ◌||◌, length, List, [], Option, Some, refl, sym, subst, ◌∙◌, true≢false, arith}
use Rattle.std.specs.Prelude.{slice_get}
use Rattle.sp_tree.specs.declared.fault.Place.{Place}
use Rattle.sp_tree.specs.declared.token.Keyword.{Keyword}
use Rattle.sp_parse_trees.specs.Syntax.{Declarator, MaybeInit, Init, no_init, some_init, InitDeclarator, init_declarator, InitDeclarators, no_items, next_item, Declaration, declaration}
use Rattle.sp_parse_trees.specs.Places.{declarator_place}
use Rattle.sp_types.specs.Types.{CType, void, integer, floating, pointer, array, structure, function, Signature}
use Rattle.sp_types.specs.Structs.{IsFormedSignature}
use Rattle.sp_types.specs.declared.program.Linkage.{Linkage}
use Rattle.sp_types.specs.declared.program.Linkage.TheVariants.{External, Internal, Inner}
use Rattle.sp_types.specs.declared.program.Storage.{Storage}
use Rattle.sp_types.specs.declared.program.Storage.TheVariants.{Outside}
use Rattle.sp_check_operands.specs.Conversions.{is_function}
use Rattle.sp_check_binary_rules.specs.Rules.{function_type}
use Rattle.sp_check_scopes.specs.Meanings as means
use Rattle.sp_check_scopes.specs.Scopes.{is_file_scope}
use Rattle.sp_check_env.specs.declared.env.Entity.{Entity}
use Rattle.sp_check_env.specs.Env.{Env}
use Rattle.sp_check_members.specs.Parameters.{declared_name}
use Rattle.sp_check_objects.specs.Objects.{linkage_for, storage_for, is_outside, entry_for, object_reserved, reserved_number, new_object}
use Rattle.sp_check_declarations.specs.Words.{storage_class, is_typedef, is_automatic, declares_tag, has_none, is_given, names_function}
use Rattle.sp_check_declarations.specs.Declarations.{is_floating_array, may_define, target, object_valued, object_finished, with_number, object_told, object_at, function_linkage, may_declare, other_told, other_checked, names_object, item_declared, items_declared, declaration_checked}
use Rattle.sp_check_formed_laws.proofs.Lists.{none_some, some_is, each_none, each_pushed, pushed_length}
use Rattle.sp_check_formed_laws.proofs.Envs.{IsFormedEnv, Goes, goes_nowhere, goes_on}
use Rattle.sp_check_formed_laws.proofs.After.{After, done, carried, next, lead, met, given, either, Leads, leads, leads_then, leads_after, leads_met, leads_given, leads_either}
use Rattle.sp_check_formed_laws.proofs.Updates.{goes_object_set, leads_declared}
use Rattle.sp_check_formed_laws.proofs.Functions.{function_formed}
use Rattle.sp_check_formed_laws.proofs.Braces.{IsType}
use Rattle.sp_check_formed_laws.proofs.Leaves.{type_kept}
use Rattle.sp_check_formed_laws.proofs.Expressions.{specifiers_formed, declared_formed}
use Rattle.sp_check_formed_laws.proofs.Initialisers.{IsObjectType, started_formed}
use Rattle.sp_check_formed_laws.proofs.Objects.{IsNumber, AreNumbers, Has, has_later, numbers_kept, goes_reserved, object_leads, unvalued_leads}

-- ---- objects

module _ (names : List (List ℕ)) where
  valued_leads : (env : Env) (k : ℕ) (p at : Place) (i : Init) → IsFormedEnv env → Leads env (object_valued names env k p at i)
  valued_leads env k p at i h =
      leads_given {o = slice_get env.tables.objects k} _ _ (λ o e.
      leads_after (started_formed names env (target o p at) o.of i h (h.objects k o e)) (λ x g f.
      leads (goes_object_set x.1 g.formed k (record o { of = x.0.of; start = x.0.values }) f)))

  finished_leads : (env : Env) (k : ℕ) (p at : Place) (l : Linkage) (s : Storage) (start : MaybeInit) → IsFormedEnv env → Leads env (object_finished names env k p at l s start)
  finished_leads env k p at l s no_init h = unvalued_leads env k l s at h
  finished_leads env k p at l s (some_init i) h = valued_leads env k p at i h

  told_leads : (env : Env) (class : Option Keyword) (t : CType) (k n : ℕ) (p at : Place) (start : MaybeInit) (l : Linkage) (e : Option Entity) → IsFormedEnv env → IsObjectType t env
      → Leads env (object_told names env class t k n p at start l e)
  told_leads env class t k n p at start l e h f =
      leads_met {b = may_define env l (is_given start)} _ _ (λ may.
      leads_met {b = is_outside (storage_for l class (is_given start)) || not (is_floating_array t)} _ _ (λ fits.
      leads_then (object_leads env k n t (storage_for l class (is_given start)) l (is_given start) p e h f) (λ later g.
      finished_leads later k p at l (storage_for l class (is_given start)) start g.formed)))

  numbered : (from : ℕ) (env : Env) (ks : List ℕ) (n : ℕ) (l : Linkage) (p : Place) (later : Env) → Goes (object_reserved env n p (entry_for env n l)) later → Has from env → AreNumbers from ks later
      → AreNumbers from (with_number ks l (reserved_number env (entry_for env n l))) later
  numbered from env ks n External p later g l h = h
  numbered from env ks n Internal p later g l h = h
  numbered from env ks n Inner p later g l h =
      each_pushed (IsNumber from later) ks (length env.tables.objects) h
      (l, omega (arith, g.keeps.objects, pushed_length env.tables.objects (new_object n void Outside Inner p)))

  object_formed : (from : ℕ) (env : Env) (ks : List ℕ) (class : Option Keyword) (base : CType) (d : Declarator) (start : MaybeInit) (n : ℕ) (p : Place) (l : Linkage)
      → IsFormedEnv env → Has from env → AreNumbers from ks env → IsType base env → names_function (is_function base) d ≡ false
      → After env (AreNumbers from) (object_at names env ks class base d start n p l (entry_for env n l))
  object_formed from env ks class base d start n p l h has ns t plain =
      let r : Env = object_reserved env n p (entry_for env n l) in
      let to-r : Goes env r = goes_reserved env n p (entry_for env n l) h in
      carried to-r (next (declared_formed names r base d to-r.formed (type_kept env r to-r base t)) (λ x g u.
      lead (told_leads x.1 class x.0 (reserved_number env (entry_for env n l)) n p (declarator_place d) start l (entry_for env n l) g.formed (u.0, u.1 ∙ plain)) (λ e k.
      done (goes_nowhere e k.formed)
      (numbered from env ks n l p e (goes_on r x.1 e g k) has (numbers_kept from env e (goes_on env r e to-r (goes_on r x.1 e g k)) ks ns)))))

  -- ---- functions and types

  pub signature_in : (env : Env) (t : CType) (s : Signature) → IsType t env → function_type t ≡ Some s → IsFormedSignature env.tables.structs s
  signature_in env (function r) s h e = subst (λ s. IsFormedSignature env.tables.structs s) (some_is r s e) h
  signature_in env void s h e = absurd (none_some s e)
  signature_in env (integer k) s h e = absurd (none_some s e)
  signature_in env (floating k) s h e = absurd (none_some s e)
  signature_in env (pointer t) s h e = absurd (none_some s e)
  signature_in env (array t n) s h e = absurd (none_some s e)
  signature_in env (structure k) s h e = absurd (none_some s e)

  other_leads : (env : Env) (class : Option Keyword) (whole : Place) (t : CType) (n : ℕ) (p at : Place) (valued : Bool) → IsFormedEnv env → IsType t env
      → Leads env (other_told env class whole t n p at valued)
  other_leads env class whole t n p at valued h f =
      leads_either {b = is_typedef class}
      (λ e. leads_met {b = not valued} _ _ (λ plain. leads_declared env h n (means.named t) p f))
      (λ e. leads_met {b = may_declare env class} _ _ (λ may. leads_met {b = not valued} _ _ (λ plain.
      leads_given {o = function_type t} _ _ (λ s g.
      leads_after (function_formed env n (function_linkage env n class) s p h (signature_in env t s f g)) (λ x k a. leads (goes_nowhere x.1 k.formed))))))

  other_formed : (from : ℕ) (env : Env) (ks : List ℕ) (class : Option Keyword) (whole : Place) (base : CType) (d : Declarator) (start : MaybeInit) (n : ℕ) (p : Place)
      → IsFormedEnv env → AreNumbers from ks env → IsType base env → After env (AreNumbers from) (other_checked names env ks class whole base d start n p)
  other_formed from env ks class whole base d start n p h ns t =
      next (declared_formed names env base d h t) (λ x g u.
      lead (other_leads x.1 class whole x.0 n p (declarator_place d) (is_given start) g.formed u.0) (λ e k.
      done (goes_nowhere e k.formed) (numbers_kept from env e (goes_on env x.1 e g k) ks ns)))

  -- ---- declarations

  plain_name : (a b : Bool) → (not a && not b) ≡ true → b ≡ false
  plain_name true b e = absurd (true≢false (sym e))
  plain_name false true e = absurd (true≢false (sym e))
  plain_name false false e = refl

  item_formed : (from : ℕ) (env : Env) (class : Option Keyword) (whole : Place) (base : CType) (ks : List ℕ) (i : InitDeclarator) → IsFormedEnv env → Has from env → IsType base env → AreNumbers from ks env
      → After env (AreNumbers from) (item_declared names env class whole base ks i)
  item_formed from env class whole base ks (init_declarator d start) h has t ns =
      given {o = declared_name d} _ _ (λ n e.
      either {b = names_object class base d}
      (λ o. object_formed from env ks class base d start n.0 n.1 (linkage_for env n.0 class) h has ns t (plain_name (is_typedef class) (names_function (is_function base) d) o))
      (λ o. other_formed from env ks class whole base d start n.0 n.1 h ns t))

  items_formed : (from : ℕ) (env : Env) (class : Option Keyword) (whole : Place) (base : CType) (ks : List ℕ) (is : InitDeclarators) → IsFormedEnv env → Has from env → IsType base env → AreNumbers from ks env
      → After env (AreNumbers from) (items_declared names env class whole base ks is)
  items_formed from env class whole base ks no_items h has t ns = done (goes_nowhere env h) ns
  items_formed from env class whole base ks (next_item i is) h has t ns =
      next (item_formed from env class whole base ks i h has t ns) (λ x g q. items_formed from x.1 class whole base x.0 is g.formed (has_later from env x.1 g has) (type_kept env x.1 g base t) q)

  pub declaration_formed : (from : ℕ) (env : Env) (d : Declaration) → IsFormedEnv env → Has from env → After env (AreNumbers from) (declaration_checked names env d)
  declaration_formed from env (declaration ss is p) h has =
      next (specifiers_formed names env (has_none is) p ss h) (λ x g t.
      met {b = not (is_file_scope x.1.scopes && is_automatic (storage_class ss))} _ _ (λ class.
      met {b = not (has_none is) || declares_tag ss} _ _ (λ some.
      items_formed from x.1 (storage_class ss) p x.0 [] is g.formed (has_later from env x.1 g has) t (each_none (IsNumber from x.1)))))
