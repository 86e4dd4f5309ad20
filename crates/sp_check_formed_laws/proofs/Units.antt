-- What the checks of a unit accept is formed (C90 6.7).
use Rattle.std.proofs.Common.{◌≡◌, ℕ, length, arith, List, [], ◌∷◌, Option, Some, None, refl}
use Rattle.std.specs.Prelude.{slice_get}
use Rattle.sp_tree.specs.declared.fault.Place.{Place}
use Rattle.sp_tree.specs.declared.fault.FaultKind.{FaultKind}
use Rattle.sp_parse_trees.specs.Syntax.{Specifiers, Declarator, Statement, External, definition, external_declaration, semicolon}
use Rattle.sp_types.specs.Types.{result_of}
use Rattle.sp_types.specs.Programs.{Function}
use Rattle.sp_types.specs.Statements.{TypedStatement}
use Rattle.sp_base_checked.specs.Answers.{Checked, accepted, refused, and_then}
use Rattle.sp_check_env.specs.Env.{Env, left, unit_start}
use Rattle.sp_check_statement_rules.specs.Repeats.{where_none}
use Rattle.sp_check_mentions.specs.Undefined.{undefined_function}
use Rattle.sp_check_statement_rules.specs.Blocks.{locals_in}
use Rattle.sp_check_heads.specs.Heads.{Head}
use Rattle.sp_decl_check.specs.Definitions.{defined, body_set, with_body, definition_checked, external_checked, externals_checked}
use Rattle.sp_decl_check.specs.Tentative.{open_tentative}
use Rattle.sp_decl_check.specs.Units.{checked_unit, unit_told}
use Rattle.sp_check_formed_laws.specs.Units.{IsFormedUnit, UnitsAreFormed}
use Rattle.sp_check_formed_laws.proofs.Envs.{AreBelow, IsFormedEnv, Goes, goes_nowhere, goes_on}
use Rattle.sp_check_formed_laws.proofs.After.{Any, Gives, gives, gives_none, After, done, next}
use Rattle.sp_check_formed_laws.proofs.Updates.{start_formed, goes_left, goes_function_set}
use Rattle.sp_check_formed_laws.proofs.Objects.{numbers_kept, numbers_below}
use Rattle.sp_check_formed_laws.proofs.Declarations.{declaration_formed}
use Rattle.sp_check_formed_laws.proofs.Heads.{head_formed}
use Rattle.sp_check_formed_laws.proofs.Statements.{body_formed}

goes_defined : (env : Env) (h : Head) (s : TypedStatement) → IsFormedEnv env → AreBelow (length env.tables.objects) h.own.formals → AreBelow (length env.tables.objects) (locals_in s) → Goes env (with_body env h s)
goes_defined env h s formed formals locals = by (slice_get env.tables.functions h.number) refl
  where
    by : (o : Option Function) → slice_get env.tables.functions h.number ≡ o → Goes env (body_set env h s o)
    by None e = goes_nowhere env formed
    by (Some f) e = goes_function_set env formed h.number (defined f h s) ((formed.functions h.number f e).0, formals, locals)

definition_formed : (names : List (List ℕ)) (env : Env) (ns : List ℕ) (ss : Specifiers) (d : Declarator) (s : Statement) → IsFormedEnv env → After env Any (definition_checked names env ns ss d s)
definition_formed names env ns ss d s h =
    next (head_formed names 0 env ss d h (omega arith)) (λ x g f.
    next (body_formed names 0 x.1 (result_of x.0.own.of) s g.formed (omega arith)) (λ b k l.
    let out : Goes b.1 (left b.1) = goes_left b.1 k.formed in
    done (goes_on b.1 (left b.1) (with_body (left b.1) x.0 b.0) out
    (goes_defined (left b.1) x.0 b.0 out.formed
    (numbers_below 0 (left b.1) x.0.own.formals (numbers_kept 0 x.1 (left b.1) (goes_on x.1 b.1 (left b.1) k out) x.0.own.formals f))
    (numbers_below 0 (left b.1) (locals_in b.0) (numbers_kept 0 b.1 (left b.1) out (locals_in b.0) l)))) tt))

external_formed : (names : List (List ℕ)) (env : Env) (ns : List ℕ) (e : External) → IsFormedEnv env → After env Any (external_checked names env ns e)
external_formed names env ns (definition ss d s) h = definition_formed names env ns ss d s h
external_formed names env ns (external_declaration d) h = next (declaration_formed names 0 env d h (omega arith)) (λ x g q. done (goes_nowhere x.1 g.formed) tt)
external_formed names env ns semicolon h = done (goes_nowhere env h) tt

externals_formed : (names : List (List ℕ)) (env : Env) (ns : List ℕ) (es : List External) → IsFormedEnv env → After env Any (externals_checked names env ns es)
externals_formed names env ns [] h = done (goes_nowhere env h) tt
externals_formed names env ns (e ∷ es) h = next (external_formed names env ns e h) (λ x g q. externals_formed names x.1 x.0 es g.formed)

-- ---- the unit

none_bad : {A : Type 0} (P : A → Type 0) (o : Option Place) (k : FaultKind) (c : Checked A) → Gives P c → Gives P (where_none o k c)
none_bad P None k c h = h
none_bad P (Some p) k c h = gives_none

formed_unit : (env : Env) (ns : List ℕ) → IsFormedEnv env → IsFormedUnit (checked_unit env.tables ns)
formed_unit env ns h = record {
  table = h.table;
  objects = λ k o at. (h.objects k o at).0;
  object_types = λ k o at. (h.objects k o at).1;
  functions = λ k f at. (h.functions k f at).0;
  typings = h.typings;
  formals = λ k f at. (h.functions k f at).1;
  locals = λ k f at. (h.functions k f at).2;
}

told_formed : (env : Env) (ns : List ℕ) (us : List External) → IsFormedEnv env → Gives IsFormedUnit (unit_told env ns us)
told_formed env ns us h = none_bad IsFormedUnit (open_tentative env us) _ _ (none_bad IsFormedUnit (undefined_function env.tables.objects env.tables.functions) _ _ (gives {x = checked_unit env.tables ns} (formed_unit env ns h)))

unit_from : (c : Checked (List ℕ × Env)) (us : List External) → After unit_start Any c → Gives IsFormedUnit (and_then c (λ x. unit_told x.1 x.0 us))
unit_from (accepted x) us h = told_formed x.1 x.0 us (h.at x refl).0.formed
unit_from (refused k p) us h = gives_none

pub units_are_formed : UnitsAreFormed
units_are_formed names us x e = (unit_from (externals_checked names unit_start [] us) us (externals_formed names unit_start [] us start_formed)).at x e
