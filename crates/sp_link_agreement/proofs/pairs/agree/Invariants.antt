use Rattle.std.proofs.Common.{◌-◌, ◌^◌}
use Rattle.sp_link_agreement.specs.Depths.{tables}
use Rattle.sp_link_agreement.specs.Known.{NoneAgrees}
use Rattle.sp_link_agreement.proofs.Walk.{Walked}
use Rattle.sp_link_agreement.proofs.pairs.agree.Given as goal

abbrev pub invariant-pairs : goal.invariant-pairs
invariant-pairs l = record {
  walked : Walked (tables l.units) l.fn.known.agreeing.keys l.start l.fn.pair l.known.agreeing.keys l.next;
  differing : NoneAgrees (tables l.units) l.known.differing.keys;
}

abbrev pub decreases-pairs : goal.decreases-pairs
decreases-pairs l = 2 ^ 64 - l.next
