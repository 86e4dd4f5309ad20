-- The cases of a switch: those of a switch inside aren't its own (C90 6.6.4.2).
use Rattle.std.specs.Prelude.{ℤ, List, [], ◌∷◌, ◌++◌, Option, Some, None}
use Rattle.std.specs.Option.{option_eq}
use Rattle.std.specs.Ordering.{int_eq}
use Rattle.sp_tree.specs.declared.fault.Place.{Place}
use Rattle.sp_tree.specs.declared.fault.FaultKind.TheVariants.{RepeatedCase}
use Rattle.sp_types.specs.Statements.{TypedStatement, typed_statement, TypedStatementForm, label, case_of, default_of, block, empty, single, if_else, switch_on, while_loop, do_loop, for_loop, goto_name, continue_loop, break_out, return_value, MaybeTypedStatement, no_statement, some_statement, TypedStatements, no_statements, next_statement}
use Rattle.sp_base_checked.specs.Answers.{Checked, accepted}
use Rattle.sp_check_statement_rules.specs.Repeats.{repeated, where_none}

-- in the order of the text, each with its place: the value of a case, and nothing for a default
abbrev mutual
  pub cases_in : TypedStatement → List (Option ℤ × Place)
  cases_in (typed_statement f p e) = form_cases p f

  pub form_cases : Place → TypedStatementForm → List (Option ℤ × Place)
  form_cases p (label n s) = cases_in s
  form_cases p (case_of z s) = (Some z, p) ∷ cases_in s
  form_cases p (default_of s) = (None, p) ∷ cases_in s
  form_cases p (block os ss) = all_cases ss
  form_cases p empty = []
  form_cases p (single e) = []
  form_cases p (if_else e s other) = cases_in s ++ other_cases other
  form_cases p (switch_on e s) = []
  form_cases p (while_loop e s) = cases_in s
  form_cases p (do_loop s e) = cases_in s
  form_cases p (for_loop a b c s) = cases_in s
  form_cases p (goto_name n) = []
  form_cases p continue_loop = []
  form_cases p break_out = []
  form_cases p (return_value e) = []

  pub other_cases : MaybeTypedStatement → List (Option ℤ × Place)
  other_cases no_statement = []
  other_cases (some_statement s) = cases_in s

  pub all_cases : TypedStatements → List (Option ℤ × Place)
  all_cases no_statements = []
  all_cases (next_statement s ss) = cases_in s ++ all_cases ss

-- the first case whose value a case before it has, or the second default
abbrev pub repeated_case : TypedStatement → Option Place
repeated_case s = repeated (option_eq int_eq) [] (cases_in s)

-- 6.6.4.2: no two cases of a switch have one value, and it has one default at most
abbrev pub distinct_cases : TypedStatement → Checked (Unit {0})
distinct_cases s = where_none (repeated_case s) RepeatedCase (accepted tt)
