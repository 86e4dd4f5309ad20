use Rattle.std.proofs.Common.{◌≡◌, ◌++◌, map, drop}
use Rattle.sp_check_statement_rules.specs.Repeats.{repeated}
use Rattle.sp_check_statement_rules.proofs.repeats.gather.Given as goal

abbrev pub invariant-loop-item : goal.invariant-loop-item
invariant-loop-item g l =
    (repeated g.K.PartialEq.eq l.keys.keys (drop l.item-index l.items) ≡ repeated g.K.PartialEq.eq l.initial.keys.keys l.items)
    × (l.keys.keys ++ map (λ i. i.0) (drop l.item-index l.items) ≡ l.initial.keys.keys ++ map (λ i. i.0) l.items)
