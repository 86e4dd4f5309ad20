-- The environment behind the head of a definition is formed, and its formals are there (C90 6.7.1).
use Rattle.std.proofs.Common.{ℕ, false, not, List, [], Option}
use Rattle.std.specs.Prelude.{slice_get}
use Rattle.sp_tree.specs.declared.token.Keyword.{Keyword}
use Rattle.sp_parse_trees.specs.Syntax.{Specifiers, Declarator}
use Rattle.sp_parse_trees.specs.Places.{declarator_place}
use Rattle.sp_check_scopes.specs.Scopes.{Scope}
use Rattle.sp_check_env.specs.Env.{Env}
use Rattle.sp_check_declarations.specs.Words.{storage_class}
use Rattle.sp_check_declarations.specs.Declarations.{function_linkage}
use Rattle.sp_check_heads.specs.Formals.{Own}
use Rattle.sp_check_heads.specs.Heads.{may_define, has_body, Head, own_defined, head_checked}
use Rattle.sp_check_formed_laws.proofs.Envs.{IsFormedEnv}
use Rattle.sp_check_formed_laws.proofs.After.{After, done, next, met}
use Rattle.sp_check_formed_laws.proofs.Updates.{goes_resumed}
use Rattle.sp_check_formed_laws.proofs.Functions.{function_formed}
use Rattle.sp_check_formed_laws.proofs.Expressions.{specifiers_formed}
use Rattle.sp_check_formed_laws.proofs.Objects.{AreNumbers, Has, has_later, numbers_kept}
use Rattle.sp_check_formed_laws.proofs.Formals.{names_meant, IsOwn, own_formed}

abbrev pub IsHead : ℕ → Head → Env → Type 0
IsHead from h env = AreNumbers from h.own.formals env

own_defined_formed : (from : ℕ) (env : Env) (class : Option Keyword) (o : Own × Scope) → IsFormedEnv env → IsOwn [] from o env → After env (IsHead from) (own_defined env class o)
own_defined_formed from env class o h f =
    next (function_formed env o.0.name (function_linkage env o.0.name class) o.0.of o.0.place h f.0.0) (λ x g a.
    met {b = not (has_body (slice_get x.1.tables.functions x.0))} _ _ (λ new.
    done (goes_resumed x.1 g.formed o.1 (names_meant env x.1 g o.1 f.1)) (numbers_kept from env x.1 g o.0.formals f.0.1)))

pub head_formed : (names : List (List ℕ)) (from : ℕ) (env : Env) (ss : Specifiers) (d : Declarator) → IsFormedEnv env → Has from env
    → After env (IsHead from) (head_checked names env ss d)
head_formed names from env ss d h has =
    met {b = may_define (storage_class ss)} _ _ (λ class.
    next (specifiers_formed names env false (declarator_place d) ss h) (λ x g t.
    next (own_formed names from x.1 x.0 d g.formed (has_later from env x.1 g has) t) (λ o k f.
    own_defined_formed from o.1 (storage_class ss) o.0 k.formed f)))
