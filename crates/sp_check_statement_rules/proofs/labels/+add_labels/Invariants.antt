use Rattle.std.proofs.Common.{◌≡◌, ◌++◌, map, drop}
use Rattle.sp_types.specs.TypedView.{statement_of, statement_list}
use Rattle.sp_check_statement_rules.specs.Labels.{all_labels}
use Rattle.sp_check_statement_rules.proofs.labels.+add_labels.Given as goal

abbrev pub invariant-loop-s : goal.invariant-loop-s
invariant-loop-s l =
    l.labels.items ++ all_labels (statement_list (map statement_of (drop l.s-index l.s-items)))
    ≡ l.initial.labels.items ++ all_labels (statement_list (map statement_of l.s-items))
