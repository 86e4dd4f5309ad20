-- The view of the form of a statement.
use Rattle.sp_parse_trees.specs.Syntax.{Statement, StatementForm}
use Rattle.sp_parse_trees.specs.View.{statement_form_step, statement_step}
use Rattle.sp_parse_trees.specs.declared.statement.StatementForm.{StatementForm as CodeForm, fold-StatementForm}

abbrev pub form_of : CodeForm → StatementForm
form_of = fold-StatementForm StatementForm Statement statement_form_step statement_step
