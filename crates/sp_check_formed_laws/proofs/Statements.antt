-- The environment behind a statement is formed, and the objects that its blocks list are there
-- (C90 6.6).
use Rattle.std.proofs.Common.{ℕ, List, [], ◌∷◌, ◌++◌, refl}
use Rattle.std.specs.Prelude.{⊤}
use Rattle.sp_tree.specs.declared.fault.Place.{Place}
use Rattle.sp_parse_trees.specs.Syntax.{Expression, MaybeExpression, no_expression, some_expression, Statement, statement, StatementForm, MaybeStatement, no_statement, some_statement, Statements, no_statements, next_statement, Declaration, Declarations, no_declarations, next_declaration}
use Rattle.sp_parse_trees.specs.Syntax as syntax
use Rattle.sp_parse_trees.specs.Places.{place_of}
use Rattle.sp_types.specs.Types.{CType}
use Rattle.sp_types.specs.Typed.{of}
use Rattle.sp_types.specs.Statements.{TypedStatement, typed_statement, TypedStatementForm, TypedStatements}
use Rattle.sp_types.specs.Statements as tree
use Rattle.sp_types.specs.TypedView.{statement_list}
use Rattle.sp_base_checked.specs.Answers.{Checked}
use Rattle.sp_check_env.specs.Env.{Env, entered}
use Rattle.sp_check_statement_rules.specs.Cases.{distinct_cases}
use Rattle.sp_check_statement_rules.specs.Labels.{labelled}
use Rattle.sp_check_statement_rules.specs.Blocks.{locals_in, form_locals, all_locals}
use Rattle.sp_check_statement_rules.specs.Rules.{Around, in_function, in_loop, in_switch, switch_around, case_value, continued, broken}
use Rattle.sp_check_statements.specs.Parts.{condition_checked, switch_checked, maybe_checked, maybe_condition, maybe_returned, one_declaration, declarations_checked}
use Rattle.sp_check_statements.specs.Statements.{block_made, statement_checked, form_checked, one_statement, statements_checked, block_checked, body_form, body_checked}
use Rattle.sp_check_formed_laws.proofs.Lists.{Each, each_none, each_pushed, each_appended, each_behind}
use Rattle.sp_check_formed_laws.proofs.Envs.{IsFormedEnv, Goes, goes_nowhere}
use Rattle.sp_check_formed_laws.proofs.After.{Any, Gives, gives, gives_then, gives_met, anything, After, done, carried, next, taken, staying}
use Rattle.sp_check_formed_laws.proofs.Updates.{goes_entered, goes_left}
use Rattle.sp_check_formed_laws.proofs.Expressions.{value_formed}
use Rattle.sp_check_formed_laws.proofs.Objects.{IsNumber, AreNumbers, Has, has_later, numbers_kept}
use Rattle.sp_check_formed_laws.proofs.Declarations.{declaration_formed}

-- the objects that its blocks list, from a number on
abbrev pub IsStatement : ℕ → TypedStatement → Env → Type 0
IsStatement from s env = AreNumbers from (locals_in s) env

abbrev pub IsForm : ℕ → TypedStatementForm → Env → Type 0
IsForm from f env = AreNumbers from (form_locals f) env

abbrev pub AreStatements : ℕ → List TypedStatement → Env → Type 0
AreStatements from ss env = Each (λ s. AreNumbers from (locals_in s) env) ss

none_listed : (from : ℕ) (env : Env) → AreNumbers from [] env
none_listed from env = each_none (IsNumber from env)

both_listed : (from : ℕ) (env : Env) (ks js : List ℕ) → AreNumbers from ks env → AreNumbers from js env → AreNumbers from (ks ++ js) env
both_listed from env ks js h g = each_appended (IsNumber from env) ks js h g

statements_kept : (from : ℕ) (env later : Env) → Goes env later → (ss : List TypedStatement) → AreStatements from ss env → AreStatements from ss later
statements_kept from env later g ss h = λ k s at. numbers_kept from env later g (locals_in s) (h k s at)

all_listed : (from : ℕ) (env : Env) (ss : List TypedStatement) → AreStatements from ss env → AreNumbers from (all_locals (statement_list ss)) env
all_listed from env [] h = none_listed from env
all_listed from env (s ∷ ss) h =
    both_listed from env (locals_in s) (all_locals (statement_list ss)) (h 0 s refl)
    (all_listed from env ss (each_behind (λ s. AreNumbers from (locals_in s) env) s ss h))

module _ (names : List (List ℕ)) (from : ℕ) where
  -- ---- parts

  condition_formed : (env : Env) (e : Expression) → IsFormedEnv env → After env Any (condition_checked names env e)
  condition_formed env e h = next (value_formed names env e h) (λ x g q. staying g.formed anything)

  switch_formed : (env : Env) (e : Expression) → IsFormedEnv env → After env Any (switch_checked names env e)
  switch_formed env e h = next (value_formed names env e h) (λ x g q. staying g.formed anything)

  maybe_formed : (env : Env) (e : MaybeExpression) → IsFormedEnv env → After env Any (maybe_checked names env e)
  maybe_formed env no_expression h = done (goes_nowhere env h) tt
  maybe_formed env (some_expression e) h = next (value_formed names env e h) (λ x g q. done (goes_nowhere x.1 g.formed) tt)

  maybe_condition_formed : (env : Env) (e : MaybeExpression) → IsFormedEnv env → After env Any (maybe_condition names env e)
  maybe_condition_formed env no_expression h = done (goes_nowhere env h) tt
  maybe_condition_formed env (some_expression e) h = next (condition_formed env e h) (λ x g q. done (goes_nowhere x.1 g.formed) tt)

  maybe_returned_formed : (env : Env) (a : Around) (e : MaybeExpression) → IsFormedEnv env → After env Any (maybe_returned names env a e)
  maybe_returned_formed env a no_expression h = done (goes_nowhere env h) tt
  maybe_returned_formed env a (some_expression e) h =
      next (next {P = Any} (value_formed names env e h) (λ x g q. staying g.formed anything)) (λ x g q. done (goes_nowhere x.1 g.formed) tt)

  one_formed : (env : Env) (ns : List ℕ) (d : Declaration) → IsFormedEnv env → Has from env → AreNumbers from ns env → After env (AreNumbers from) (one_declaration names env ns d)
  one_formed env ns d h has f =
      next (declaration_formed names from env d h has) (λ x g q. done (goes_nowhere x.1 g.formed) (both_listed from x.1 ns x.0 (numbers_kept from env x.1 g ns f) q))

  declarations_formed : (env : Env) (ns : List ℕ) (ds : Declarations) → IsFormedEnv env → Has from env → AreNumbers from ns env → After env (AreNumbers from) (declarations_checked names env ns ds)
  declarations_formed env ns no_declarations h has f = done (goes_nowhere env h) f
  declarations_formed env ns (next_declaration d ds) h has f =
      next (one_formed env ns d h has f) (λ x g q. declarations_formed x.1 x.0 ds g.formed (has_later from env x.1 g has) q)

  block_formed : (env : Env) (ns : List ℕ) (c : Checked (List TypedStatement × Env)) → AreNumbers from ns env → After env (AreStatements from) c → After env (IsForm from) (block_made ns c)
  block_formed env ns c f h =
      next h (λ y g q. done (goes_nowhere y.1 g.formed) (both_listed from y.1 ns (all_locals (statement_list y.0)) (numbers_kept from env y.1 g ns f) (all_listed from y.1 y.0 q)))

  jump_formed : (env : Env) (a : Around) (p : Place) → Gives (λ f. IsForm from f env) (continued a p)
  jump_formed env a p = gives_met {b = a.loop} _ _ (λ in-loop. gives {x = tree.continue_loop} (none_listed from env))

  break_formed : (env : Env) (a : Around) (p : Place) → Gives (λ f. IsForm from f env) (broken a p)
  break_formed env a p = gives_met _ _ (λ around. gives {x = tree.break_out} (none_listed from env))

  -- ---- statements

  mutual
    statement_formed : (env : Env) (a : Around) (s : Statement) → IsFormedEnv env → Has from env → After env (IsStatement from) (statement_checked names env a s)
    statement_formed env a (statement f p e) h has = next (form_formed env a p f h has) (λ x g q. done (goes_nowhere x.1 g.formed) q)

    form_formed : (env : Env) (a : Around) (p : Place) (f : StatementForm) → IsFormedEnv env → Has from env → After env (IsForm from) (form_checked names env a p f)
    form_formed env a p (syntax.label n s) h has = next (statement_formed env a s h has) (λ x g q. done (goes_nowhere x.1 g.formed) q)
    form_formed env a p (syntax.case_label e s) h has =
        taken {c = switch_around a p} anything (λ k t. next (value_formed names env e h) (λ x g q.
        taken {c = case_value k (place_of e) x.0} anything (λ z r. next (statement_formed x.1 a s g.formed (has_later from env x.1 g has)) (λ y l m. done (goes_nowhere y.1 l.formed) m))))
    form_formed env a p (syntax.default_label s) h has =
        taken {c = switch_around a p} anything (λ k t. next (statement_formed env a s h has) (λ x g q. done (goes_nowhere x.1 g.formed) q))
    form_formed env a p (syntax.block ds ss) h has =
        let g : Goes env (entered env) = goes_entered env h in
        next (carried g (next (declarations_formed (entered env) [] ds g.formed has (none_listed from env)) (λ x k q.
        block_formed x.1 x.0 (statements_checked names x.1 a [] ss) q (statements_formed x.1 a [] ss k.formed (has_later from (entered env) x.1 k has) (each_none (λ s. AreNumbers from (locals_in s) x.1)))))) (λ y l r.
        done (goes_left y.1 l.formed) r)
    form_formed env a p syntax.empty h has = done (goes_nowhere env h) (none_listed from env)
    form_formed env a p (syntax.of e) h has = next (value_formed names env e h) (λ x g q. done (goes_nowhere x.1 g.formed) (none_listed from x.1))
    form_formed env a p (syntax.if_else e s no_statement) h has =
        next (condition_formed env e h) (λ x g q. next (statement_formed x.1 a s g.formed (has_later from env x.1 g has)) (λ y k r.
        done (goes_nowhere y.1 k.formed) (both_listed from y.1 (locals_in y.0) [] r (none_listed from y.1))))
    form_formed env a p (syntax.if_else e s (some_statement other)) h has =
        next (condition_formed env e h) (λ x g q. next (statement_formed x.1 a s g.formed (has_later from env x.1 g has)) (λ y k r. next (statement_formed y.1 a other k.formed (has_later from x.1 y.1 k (has_later from env x.1 g has))) (λ z l t.
        done (goes_nowhere z.1 l.formed) (both_listed from z.1 (locals_in y.0) (locals_in z.0) (numbers_kept from y.1 z.1 l (locals_in y.0) r) t))))
    form_formed env a p (syntax.switch_on e s) h has =
        next (switch_formed env e h) (λ x g q. next (statement_formed x.1 (in_switch a (of x.0)) s g.formed (has_later from env x.1 g has)) (λ y k r.
        staying k.formed (gives_then {Q = λ u. ⊤} {c = distinct_cases y.0} anything (λ u t. gives {x = tree.switch_on x.0 y.0} r))))
    form_formed env a p (syntax.while_loop e s) h has =
        next (condition_formed env e h) (λ x g q. next (statement_formed x.1 (in_loop a) s g.formed (has_later from env x.1 g has)) (λ y k r. done (goes_nowhere y.1 k.formed) r))
    form_formed env a p (syntax.do_loop s e) h has =
        next (statement_formed env (in_loop a) s h has) (λ x g q. next (condition_formed x.1 e g.formed) (λ y k r. done (goes_nowhere y.1 k.formed) (numbers_kept from x.1 y.1 k (locals_in x.0) q)))
    form_formed env a p (syntax.for_loop b c d s) h has =
        next (maybe_formed env b h) (λ x g q. next (maybe_condition_formed x.1 c g.formed) (λ y k r. next (maybe_formed y.1 d k.formed) (λ z l t.
        next (statement_formed z.1 (in_loop a) s l.formed (has_later from y.1 z.1 l (has_later from x.1 y.1 k (has_later from env x.1 g has)))) (λ w m u. done (goes_nowhere w.1 m.formed) u))))
    form_formed env a p (syntax.goto_name n) h has = done (goes_nowhere env h) (none_listed from env)
    form_formed env a p syntax.continue_loop h has = staying h (jump_formed env a p)
    form_formed env a p syntax.break_out h has = staying h (break_formed env a p)
    form_formed env a p (syntax.return_value e) h has = next (maybe_returned_formed env a e h) (λ x g q. done (goes_nowhere x.1 g.formed) (none_listed from x.1))

    one_statement_formed : (env : Env) (a : Around) (before : List TypedStatement) (s : Statement) → IsFormedEnv env → Has from env → AreStatements from before env → After env (AreStatements from) (one_statement names env a before s)
    one_statement_formed env a before (statement f p e) h has b =
        next (form_formed env a p f h has) (λ x g q.
        done (goes_nowhere x.1 g.formed) (each_pushed (λ s. AreNumbers from (locals_in s) x.1) before (typed_statement x.0 p e) (statements_kept from env x.1 g before b) q))

    statements_formed : (env : Env) (a : Around) (before : List TypedStatement) (ss : Statements) → IsFormedEnv env → Has from env → AreStatements from before env → After env (AreStatements from) (statements_checked names env a before ss)
    statements_formed env a before no_statements h has b = done (goes_nowhere env h) b
    statements_formed env a before (next_statement s ss) h has b =
        next (one_statement_formed env a before s h has b) (λ x g q. statements_formed x.1 a x.0 ss g.formed (has_later from env x.1 g has) q)

  -- ---- bodies

  outermost_formed : (env : Env) (a : Around) (ds : Declarations) (ss : Statements) → IsFormedEnv env → Has from env → After env (IsForm from) (block_checked names env a ds ss)
  outermost_formed env a ds ss h has =
      next (declarations_formed env [] ds h has (none_listed from env)) (λ x k q.
      block_formed x.1 x.0 (statements_checked names x.1 a [] ss) q (statements_formed x.1 a [] ss k.formed (has_later from env x.1 k has) (each_none (λ s. AreNumbers from (locals_in s) x.1))))

  body_form_formed : (env : Env) (a : Around) (p : Place) (f : StatementForm) → IsFormedEnv env → Has from env → After env (IsForm from) (body_form names env a p f)
  body_form_formed env a p (syntax.block ds ss) h has = outermost_formed env a ds ss h has
  body_form_formed env a p f h has = form_formed env a p f h has

  pub body_formed : (env : Env) (t : CType) (s : Statement) → IsFormedEnv env → Has from env → After env (IsStatement from) (body_checked names env t s)
  body_formed env t (statement f p e) h has =
      next (body_form_formed env (in_function t) p f h has) (λ x g q.
      staying g.formed (gives_then {Q = λ u. ⊤} {c = labelled (typed_statement x.0 p e)} anything (λ u r. gives {x = typed_statement x.0 p e} q)))
