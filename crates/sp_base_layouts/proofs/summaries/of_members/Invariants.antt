use Rattle.std.proofs.Common.{◌≡◌, ◌≤◌, drop, length}
use Rattle.sp_base_layouts.specs.Seen.{seen_members}
use Rattle.sp_base_layouts.specs.Summaries.{of_members, summary_by}
use Rattle.sp_base_layouts.proofs.summaries.of_members.Given as goal

abbrev pub invariant-members : goal.invariant-members
invariant-members l = record {
  within : l.left ≤ length l.members;
  behind : l.all ≡ of_members (summary_by l.summaries) (seen_members (drop l.left l.members));
}

abbrev pub decreases-members : goal.decreases-members
decreases-members l = l.left
