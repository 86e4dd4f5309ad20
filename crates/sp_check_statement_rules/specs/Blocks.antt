-- The objects that the blocks of a statement declare, in the order of the text (C90 6.6.2).
use Rattle.std.specs.Prelude.{ℕ, List, [], ◌++◌}
use Rattle.sp_types.specs.Statements.{TypedStatement, typed_statement, TypedStatementForm, label, case_of, default_of, block, empty, single, if_else, switch_on, while_loop, do_loop, for_loop, goto_name, continue_loop, break_out, return_value, MaybeTypedStatement, no_statement, some_statement, TypedStatements, no_statements, next_statement}

abbrev mutual
  pub locals_in : TypedStatement → List ℕ
  locals_in (typed_statement f p e) = form_locals f

  pub form_locals : TypedStatementForm → List ℕ
  form_locals (label n s) = locals_in s
  form_locals (case_of z s) = locals_in s
  form_locals (default_of s) = locals_in s
  form_locals (block os ss) = os ++ all_locals ss
  form_locals empty = []
  form_locals (single e) = []
  form_locals (if_else e s other) = locals_in s ++ other_locals other
  form_locals (switch_on e s) = locals_in s
  form_locals (while_loop e s) = locals_in s
  form_locals (do_loop s e) = locals_in s
  form_locals (for_loop a b c s) = locals_in s
  form_locals (goto_name n) = []
  form_locals continue_loop = []
  form_locals break_out = []
  form_locals (return_value e) = []

  pub other_locals : MaybeTypedStatement → List ℕ
  other_locals no_statement = []
  other_locals (some_statement s) = locals_in s

  pub all_locals : TypedStatements → List ℕ
  all_locals no_statements = []
  all_locals (next_statement s ss) = locals_in s ++ all_locals ss
