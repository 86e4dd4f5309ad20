use Rattle.std.proofs.Common.{◌≡◌, ◌<◌, ◌≤◌, max, ℕ}
use Rattle.sp_octagon.specs.Entries.{entries_of}
use Rattle.sp_octagon.specs.inner.Rounds.{AfterRounds}
use Rattle.sp_octagon.proofs.closing.shortest_walks.Given as goal

abbrev pub invariant-rounds : goal.invariant-rounds
invariant-rounds l = record {
  after : AfterRounds l.count (entries_of l.fn.cells) l.middle (entries_of l.cells);
  outside : (r c : ℕ) → r < 16 → c < 16 → l.count ≤ max r c → entries_of l.cells r c ≡ entries_of l.fn.cells r c;
}
