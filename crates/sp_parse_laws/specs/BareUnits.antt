-- Statements, external declarations and units without their places: each place in them is no place of a text.
use Rattle.std.specs.Prelude.{List, [], ◌∷◌}
use Rattle.sp_parse_tokens.specs.Sorts.{nowhere}
use Rattle.sp_parse_trees.specs.Syntax.{Statement, statement, StatementForm, label, case_label, default_label, block, empty, of, if_else, switch_on, while_loop, do_loop, for_loop, goto_name, continue_loop, break_out, return_value, MaybeStatement, no_statement, some_statement, Statements, no_statements, next_statement, External, definition, external_declaration, semicolon}
use Rattle.sp_parse_laws.specs.Bare.{bare, bare_maybe, bare_specifiers, bare_declarator, bare_declaration, bare_declarations}

abbrev mutual
  pub bare_statement : Statement → Statement
  bare_statement (statement f p end) = statement (bare_statement_form f) nowhere nowhere

  pub bare_statement_form : StatementForm → StatementForm
  bare_statement_form (label n s) = label n (bare_statement s)
  bare_statement_form (case_label e s) = case_label (bare e) (bare_statement s)
  bare_statement_form (default_label s) = default_label (bare_statement s)
  bare_statement_form (block ds ss) = block (bare_declarations ds) (bare_statements ss)
  bare_statement_form empty = empty
  bare_statement_form (of e) = of (bare e)
  bare_statement_form (if_else e s other) = if_else (bare e) (bare_statement s) (bare_else other)
  bare_statement_form (switch_on e s) = switch_on (bare e) (bare_statement s)
  bare_statement_form (while_loop e s) = while_loop (bare e) (bare_statement s)
  bare_statement_form (do_loop s e) = do_loop (bare_statement s) (bare e)
  bare_statement_form (for_loop a b c s) = for_loop (bare_maybe a) (bare_maybe b) (bare_maybe c) (bare_statement s)
  bare_statement_form (goto_name n) = goto_name n
  bare_statement_form continue_loop = continue_loop
  bare_statement_form break_out = break_out
  bare_statement_form (return_value e) = return_value (bare_maybe e)

  pub bare_else : MaybeStatement → MaybeStatement
  bare_else no_statement = no_statement
  bare_else (some_statement s) = some_statement (bare_statement s)

  pub bare_statements : Statements → Statements
  bare_statements no_statements = no_statements
  bare_statements (next_statement s ss) = next_statement (bare_statement s) (bare_statements ss)

abbrev pub bare_external : External → External
bare_external (definition ss d s) = definition (bare_specifiers ss) (bare_declarator d) (bare_statement s)
bare_external (external_declaration d) = external_declaration (bare_declaration d)
bare_external semicolon = semicolon

abbrev pub bare_unit : List External → List External
bare_unit [] = []
bare_unit (e ∷ es) = bare_external e ∷ bare_unit es
