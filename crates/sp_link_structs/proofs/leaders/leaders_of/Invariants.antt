use Rattle.std.proofs.Common.{◌≡◌, ◌<◌, ℕ, Some}
use Rattle.std.specs.Prelude.{slice_get}
use Rattle.sp_link_agreement.specs.Depths.{tables}
use Rattle.sp_link_agreement.specs.Known.{IsKnown}
use Rattle.sp_link_structs.specs.Joined.{IsStep}
use Rattle.sp_link_structs.specs.Leading.{leader_by, IsLeading}
use Rattle.sp_link_structs.proofs.leaders.leaders_of.Given as goal

abbrev pub invariant-all : goal.invariant-all
invariant-all l = record {
  known : IsKnown (tables l.units) l.known;
  leading : IsLeading (tables l.units) (leader_by l.leaders);
  taken : (j : ℕ) (x p : ℕ × ℕ) → j < l.i → slice_get l.all j ≡ Some x → IsStep (tables l.units) p x
      → leader_by l.leaders p ≡ leader_by l.leaders x;
}
