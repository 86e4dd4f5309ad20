use Rattle.std.proofs.Common.{length, take}
use Rattle.sp_base_sets.specs.Walking.{IsListed, Comes}
use Rattle.sp_base_sets.proofs.reach.reach_each.Given as goal

abbrev pub invariant-loop-number : goal.invariant-loop-number
invariant-loop-number l = record {
  listed : IsListed (length l.fn.walk.is_reached.items) l.walk;
  so_far : Comes (take l.number-index l.numbers) l.fn.walk l.walk;
}
