-- The checks of statements (C90 6.6): what the rules give of a statement in an environment, or the fault that stands, and the
-- environment behind it. Parts go from left to right; a block has a scope of its own.
use Rattle.std.specs.Prelude.{ℕ, Bool, true, false, List, [], ◌∷◌, ◌++◌}
use Rattle.sp_tree.specs.declared.fault.Place.{Place}
use Rattle.sp_parse_trees.specs.Syntax.{Statement, statement, StatementForm, MaybeStatement, no_statement, some_statement, Statements, no_statements, next_statement, Declarations}
use Rattle.sp_parse_trees.specs.Syntax as syntax
use Rattle.sp_parse_trees.specs.Places.{place_of}
use Rattle.sp_types.specs.Types.{CType}
use Rattle.sp_types.specs.Typed.{of}
use Rattle.sp_types.specs.Statements.{TypedStatement, typed_statement, TypedStatementForm}
use Rattle.sp_types.specs.Statements as tree
use Rattle.sp_types.specs.TypedView.{statement_list}
use Rattle.sp_base_checked.specs.Answers.{Checked, accepted, and_then}
use Rattle.sp_check_env.specs.Env.{Env, entered, left}
use Rattle.sp_expr_check.specs.Expressions.{value_checked}
use Rattle.sp_expr_check.specs.Specifiers.{stays}
use Rattle.sp_check_statement_rules.specs.Labels.{labelled}
use Rattle.sp_check_statement_rules.specs.Rules.{Around, in_function, in_loop, in_switch, switch_made, switch_around, case_value, continued, broken}
use Rattle.sp_check_statements.specs.Parts.{condition_checked, switch_checked, maybe_checked, maybe_condition, maybe_returned, declarations_checked}

-- the forms that choose and repeat, and those that jump
abbrev pub is_control : StatementForm → Bool
is_control (syntax.if_else e s other) = true
is_control (syntax.switch_on e s) = true
is_control (syntax.while_loop e s) = true
is_control (syntax.do_loop s e) = true
is_control (syntax.for_loop a b c s) = true
is_control f = false

-- a block that declares these objects, with its statements
abbrev pub block_made : List ℕ → Checked (List TypedStatement × Env) → Checked (TypedStatementForm × Env)
block_made ns c = and_then c (λ y. accepted (tree.block ns (statement_list y.0), y.1))

abbrev mutual
  pub statement_checked : List (List ℕ) → Env → Around → Statement → Checked (TypedStatement × Env)
  statement_checked names env a (statement f p e) =
      and_then (form_checked names env a p f) (λ x. accepted (typed_statement x.0 p e, x.1))

  pub form_checked : List (List ℕ) → Env → Around → Place → StatementForm → Checked (TypedStatementForm × Env)
  form_checked names env a p (syntax.label n s) =
      and_then (statement_checked names env a s) (λ x. accepted (tree.label n x.0, x.1))
  form_checked names env a p (syntax.case_label e s) =
      and_then (switch_around a p) (λ k.
      and_then (value_checked names env e) (λ x.
      and_then (case_value k (place_of e) x.0) (λ z.
      and_then (statement_checked names x.1 a s) (λ y.
      accepted (tree.case_of z y.0, y.1)))))
  form_checked names env a p (syntax.default_label s) =
      and_then (switch_around a p) (λ k.
      and_then (statement_checked names env a s) (λ x.
      accepted (tree.default_of x.0, x.1)))
  form_checked names env a p (syntax.block ds ss) =
      and_then (and_then (declarations_checked names (entered env) [] ds) (λ x.
      block_made x.0 (statements_checked names x.1 a [] ss))) (λ y.
      accepted (y.0, left y.1))
  form_checked names env a p syntax.empty = accepted (tree.empty, env)
  form_checked names env a p (syntax.of e) =
      and_then (value_checked names env e) (λ x. accepted (tree.single x.0, x.1))
  form_checked names env a p (syntax.if_else e s no_statement) =
      and_then (condition_checked names env e) (λ x.
      and_then (statement_checked names x.1 a s) (λ y.
      accepted (tree.if_else x.0 y.0 tree.no_statement, y.1)))
  form_checked names env a p (syntax.if_else e s (some_statement other)) =
      and_then (condition_checked names env e) (λ x.
      and_then (statement_checked names x.1 a s) (λ y.
      and_then (statement_checked names y.1 a other) (λ z.
      accepted (tree.if_else x.0 y.0 (tree.some_statement z.0), z.1))))
  form_checked names env a p (syntax.switch_on e s) =
      and_then (switch_checked names env e) (λ x.
      and_then (statement_checked names x.1 (in_switch a (of x.0)) s) (λ y.
      stays y.1 (switch_made x.0 y.0)))
  form_checked names env a p (syntax.while_loop e s) =
      and_then (condition_checked names env e) (λ x.
      and_then (statement_checked names x.1 (in_loop a) s) (λ y.
      accepted (tree.while_loop x.0 y.0, y.1)))
  form_checked names env a p (syntax.do_loop s e) =
      and_then (statement_checked names env (in_loop a) s) (λ x.
      and_then (condition_checked names x.1 e) (λ y.
      accepted (tree.do_loop x.0 y.0, y.1)))
  form_checked names env a p (syntax.for_loop b c d s) =
      and_then (maybe_checked names env b) (λ x.
      and_then (maybe_condition names x.1 c) (λ y.
      and_then (maybe_checked names y.1 d) (λ z.
      and_then (statement_checked names z.1 (in_loop a) s) (λ w.
      accepted (tree.for_loop x.0 y.0 z.0 w.0, w.1)))))
  form_checked names env a p (syntax.goto_name n) = accepted (tree.goto_name n, env)
  form_checked names env a p syntax.continue_loop = stays env (continued a p)
  form_checked names env a p syntax.break_out = stays env (broken a p)
  form_checked names env a p (syntax.return_value e) =
      and_then (maybe_returned names env a e) (λ x. accepted (tree.return_value x.0, x.1))

  -- a statement behind those that are checked, and all of a block
  pub one_statement : List (List ℕ) → Env → Around → List TypedStatement → Statement → Checked (List TypedStatement × Env)
  one_statement names env a done (statement f p e) =
      and_then (form_checked names env a p f) (λ x. accepted (done ++ typed_statement x.0 p e ∷ [], x.1))

  pub statements_checked : List (List ℕ) → Env → Around → List TypedStatement → Statements → Checked (List TypedStatement × Env)
  statements_checked names env a done no_statements = accepted (done, env)
  statements_checked names env a done (next_statement s ss) =
      and_then (one_statement names env a done s) (λ x. statements_checked names x.1 a x.0 ss)

-- the declarations and the statements of a block, in its scope
abbrev pub block_checked : List (List ℕ) → Env → Around → Declarations → Statements → Checked (TypedStatementForm × Env)
block_checked names env a ds ss =
    and_then (declarations_checked names env [] ds) (λ x. block_made x.0 (statements_checked names x.1 a [] ss))

-- 6.1.2.1: the outermost block of a function stands in the scope of its parameters
abbrev pub body_form : List (List ℕ) → Env → Around → Place → StatementForm → Checked (TypedStatementForm × Env)
body_form names env a p (syntax.block ds ss) = block_checked names env a ds ss
body_form names env a p f = form_checked names env a p f

-- the body as a whole, with its labels
abbrev pub labels_told : TypedStatement → Checked TypedStatement
labels_told s = and_then (labelled s) (λ u. accepted s)

-- the body of a function that returns this type
abbrev pub body_checked : List (List ℕ) → Env → CType → Statement → Checked (TypedStatement × Env)
body_checked names env t (statement f p e) =
    and_then (body_form names env (in_function t) p f) (λ x.
    stays x.1 (labels_told (typed_statement x.0 p e)))
