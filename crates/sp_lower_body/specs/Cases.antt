-- The cases of a switch: those of a switch inside aren't its own (C90 6.6.4.2).
use Rattle.std.specs.Prelude.{◌||◌, Bool, true, false, ℤ, List, [], ◌∷◌, ◌++◌}
use Rattle.sp_types.specs.Statements.{TypedStatement, typed_statement, TypedStatementForm, label, case_of, default_of, block, empty, single, if_else, switch_on, while_loop, do_loop, for_loop, goto_name, continue_loop, break_out, return_value, MaybeTypedStatement, no_statement, some_statement, TypedStatements, no_statements, next_statement}

-- their values, in the order of the text
abbrev mutual
  pub case_values : TypedStatement → List ℤ
  case_values (typed_statement form place end) = form_values form

  pub form_values : TypedStatementForm → List ℤ
  form_values (label n s) = case_values s
  form_values (case_of z s) = z ∷ case_values s
  form_values (default_of s) = case_values s
  form_values (block ns ss) = all_values ss
  form_values empty = []
  form_values (single e) = []
  form_values (if_else e s other) = case_values s ++ other_values other
  form_values (switch_on e s) = []
  form_values (while_loop e s) = case_values s
  form_values (do_loop s e) = case_values s
  form_values (for_loop a e d s) = case_values s
  form_values (goto_name n) = []
  form_values continue_loop = []
  form_values break_out = []
  form_values (return_value e) = []

  pub other_values : MaybeTypedStatement → List ℤ
  other_values no_statement = []
  other_values (some_statement s) = case_values s

  pub all_values : TypedStatements → List ℤ
  all_values no_statements = []
  all_values (next_statement s ss) = case_values s ++ all_values ss

-- whether it has a default
abbrev mutual
  pub has_default : TypedStatement → Bool
  has_default (typed_statement form place end) = form_has_default form

  pub form_has_default : TypedStatementForm → Bool
  form_has_default (label n s) = has_default s
  form_has_default (case_of z s) = has_default s
  form_has_default (default_of s) = true
  form_has_default (block ns ss) = any_has_default ss
  form_has_default empty = false
  form_has_default (single e) = false
  form_has_default (if_else e s other) = has_default s || other_has_default other
  form_has_default (switch_on e s) = false
  form_has_default (while_loop e s) = has_default s
  form_has_default (do_loop s e) = has_default s
  form_has_default (for_loop a e d s) = has_default s
  form_has_default (goto_name n) = false
  form_has_default continue_loop = false
  form_has_default break_out = false
  form_has_default (return_value e) = false

  pub other_has_default : MaybeTypedStatement → Bool
  other_has_default no_statement = false
  other_has_default (some_statement s) = has_default s

  pub any_has_default : TypedStatements → Bool
  any_has_default no_statements = false
  any_has_default (next_statement s ss) = has_default s || any_has_default ss
