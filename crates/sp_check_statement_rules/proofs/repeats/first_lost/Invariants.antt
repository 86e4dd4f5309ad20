use Rattle.std.proofs.Common.{◌≡◌, drop}
use Rattle.sp_check_statement_rules.specs.Repeats.{lost}
use Rattle.sp_check_statement_rules.proofs.repeats.first_lost.Given as goal

abbrev pub invariant-loop-item : goal.invariant-loop-item
invariant-loop-item g l = lost g.K.PartialEq.eq l.keys.keys (drop l.item-index l.items) ≡ lost g.K.PartialEq.eq l.keys.keys l.items
