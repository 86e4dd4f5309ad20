use Rattle.std.proofs.Common.{◌≡◌, ◌++◌, map, drop}
use Rattle.sp_types.specs.TypedView.{typed_of, typed_list}
use Rattle.sp_check_mentions.specs.Mentions.{all_mentions}
use Rattle.sp_check_mentions.proofs.expressions.+expression.Given as goal

abbrev pub invariant-add_form-loop-e : goal.invariant-add_form-loop-e
invariant-add_form-loop-e l =
    l.found.items ++ all_mentions (typed_list (map typed_of (drop l.e-index l.e-items)))
    ≡ l.initial.found.items ++ all_mentions (typed_list (map typed_of l.e-items))
