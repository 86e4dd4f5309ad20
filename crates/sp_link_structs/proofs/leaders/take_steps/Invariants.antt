use Rattle.std.proofs.Common.{◌≡◌, ◌<◌, ℕ, Some}
use Rattle.std.specs.Prelude.{slice_get}
use Rattle.sp_link_agreement.specs.Depths.{tables}
use Rattle.sp_link_agreement.specs.Known.{IsKnown}
use Rattle.sp_link_structs.specs.Joined.{IsStep}
use Rattle.sp_link_structs.specs.Leading.{leader_by, IsLeading, KeepsOne}
use Rattle.sp_link_structs.proofs.leaders.take_steps.Given as goal

abbrev pub invariant-list : goal.invariant-list
invariant-list l = record {
  known : IsKnown (tables l.units) l.known;
  leading : IsLeading (tables l.units) (leader_by l.leaders);
  one : KeepsOne (tables l.units) (leader_by l.initial.leaders) (leader_by l.leaders);
  taken : (j : ℕ) (p : ℕ × ℕ) → j < l.i → slice_get l.list j ≡ Some p → IsStep (tables l.units) p l.of
      → leader_by l.leaders p ≡ leader_by l.leaders l.of;
}
