-- The labels of a function, and its jumps to them (C90 6.6.1, 6.6.6.1).
use Rattle.std.specs.Prelude.{ℕ, List, [], ◌∷◌, ◌++◌, Option, map, nat_eq}
use Rattle.sp_tree.specs.declared.fault.Place.{Place}
use Rattle.sp_tree.specs.declared.fault.FaultKind.TheVariants.{MisplacedJump}
use Rattle.sp_types.specs.Statements.{TypedStatement, typed_statement, TypedStatementForm, label, case_of, default_of, block, empty, single, if_else, switch_on, while_loop, do_loop, for_loop, goto_name, continue_loop, break_out, return_value, MaybeTypedStatement, no_statement, some_statement, TypedStatements, no_statements, next_statement}
use Rattle.sp_base_checked.specs.Answers.{Checked, accepted}
use Rattle.sp_check_statement_rules.specs.Repeats.{repeated, lost, where_none}

-- the labels in the order of the text, each with the place of its statement
abbrev mutual
  pub labels_in : TypedStatement → List (ℕ × Place)
  labels_in (typed_statement f p e) = form_labels p f

  pub form_labels : Place → TypedStatementForm → List (ℕ × Place)
  form_labels p (label n s) = (n, p) ∷ labels_in s
  form_labels p (case_of z s) = labels_in s
  form_labels p (default_of s) = labels_in s
  form_labels p (block os ss) = all_labels ss
  form_labels p empty = []
  form_labels p (single e) = []
  form_labels p (if_else e s other) = labels_in s ++ other_labels other
  form_labels p (switch_on e s) = labels_in s
  form_labels p (while_loop e s) = labels_in s
  form_labels p (do_loop s e) = labels_in s
  form_labels p (for_loop a b c s) = labels_in s
  form_labels p (goto_name n) = []
  form_labels p continue_loop = []
  form_labels p break_out = []
  form_labels p (return_value e) = []

  pub other_labels : MaybeTypedStatement → List (ℕ × Place)
  other_labels no_statement = []
  other_labels (some_statement s) = labels_in s

  pub all_labels : TypedStatements → List (ℕ × Place)
  all_labels no_statements = []
  all_labels (next_statement s ss) = labels_in s ++ all_labels ss

-- the labels that `goto` names, each with the place of the `goto`
abbrev mutual
  pub jumps_in : TypedStatement → List (ℕ × Place)
  jumps_in (typed_statement f p e) = form_jumps p f

  pub form_jumps : Place → TypedStatementForm → List (ℕ × Place)
  form_jumps p (label n s) = jumps_in s
  form_jumps p (case_of z s) = jumps_in s
  form_jumps p (default_of s) = jumps_in s
  form_jumps p (block os ss) = all_jumps ss
  form_jumps p empty = []
  form_jumps p (single e) = []
  form_jumps p (if_else e s other) = jumps_in s ++ other_jumps other
  form_jumps p (switch_on e s) = jumps_in s
  form_jumps p (while_loop e s) = jumps_in s
  form_jumps p (do_loop s e) = jumps_in s
  form_jumps p (for_loop a b c s) = jumps_in s
  form_jumps p (goto_name n) = (n, p) ∷ []
  form_jumps p continue_loop = []
  form_jumps p break_out = []
  form_jumps p (return_value e) = []

  pub other_jumps : MaybeTypedStatement → List (ℕ × Place)
  other_jumps no_statement = []
  other_jumps (some_statement s) = jumps_in s

  pub all_jumps : TypedStatements → List (ℕ × Place)
  all_jumps no_statements = []
  all_jumps (next_statement s ss) = jumps_in s ++ all_jumps ss

-- the first label that is given a second time
abbrev pub repeated_label : TypedStatement → Option Place
repeated_label s = repeated nat_eq [] (labels_in s)

-- the first jump to a label that the statement lacks
abbrev pub lost_jump : TypedStatement → Option Place
lost_jump s = lost nat_eq (map (λ l. l.0) (labels_in s)) (jumps_in s)

-- 6.1.2.1, 6.6.6.1: a function has each of its labels once, and each that a `goto` in it names
abbrev pub labelled : TypedStatement → Checked (Unit {0})
labelled s = where_none (repeated_label s) MisplacedJump (where_none (lost_jump s) MisplacedJump (accepted tt))
