use Rattle.std.proofs.Common.{◌≡◌, ◌++◌, rules, ap}
use Rattle.sp_types.specs.TypedView.{statement_of}
use Rattle.sp_check_statement_rules.specs.Labels.{labels_in}
use Rattle.sp_check_statement_rules.proofs.Joins.{both, if_else-view}
use Rattle.sp_check_statement_rules.proofs.labels.+add_labels.Goals as goal

pub returns-in-Some : goal.returns-in-Some
returns-in-Some t c =
    let w : labels_in (statement_of c.args.s.now) ≡ labels_in (statement_of c.in-If.s.value) ++ labels_in (statement_of c.in-Some.other.value) = ap labels_in (if_else-view c.args.s.now c.in-If.field-0 c.in-If.s c.in-If.other c.in-Some.other c.in-If.is c.in-Some.is) in
    both c.add_labels-in-Some.result c.add_labels-in-Some.new.labels.items c.add_labels-in-If.new.labels.items c.args.labels.now.items (labels_in (statement_of c.in-If.s.value)) (labels_in (statement_of c.in-Some.other.value)) (labels_in (statement_of c.args.s.now)) w (search rules) (search rules)
