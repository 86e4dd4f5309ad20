use Rattle.std.proofs.Common.{length, take}
use Rattle.sp_defuse.specs.Spreading.{IsListed, Comes}
use Rattle.sp_defuse.proofs.spreading.give_each.Given as goal

abbrev pub invariant-loop-function : goal.invariant-loop-function
invariant-loop-function l = record {
  listed : IsListed (length l.fn.spread.sets.items) l.location l.spread;
  so_far : Comes l.location (take l.function-index l.functions) l.fn.spread l.spread;
}
