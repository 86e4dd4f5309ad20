use Rattle.std.proofs.Common.{subst}
use Rattle.sp_ir.specs.Programs.{lowered_of}
use Rattle.sp_base_sets.specs.Reached.{row}
use Rattle.sp_pre.specs.PointsTo.{AreCalls}
use Rattle.sp_pre.proofs.Calling.{are_callees}
use Rattle.sp_pre.proofs.pre.points_to.Goals as goal

pub returns : goal.returns
returns c =
    let p = lowered_of c.args.lowered.now in
    let rows = c.in_ok-rows.rows.items in
    let calls = subst (λ rs. AreCalls p (row rs) c.in_ok-calls.calls) c.deref.ensures.value c.in_ok-calls.ensures in
    record {
      least = c.in_ok-rows.ensures.least;
      ascending = c.in_ok-rows.ensures.ascending;
      calls = calls;
      callees = are_callees p (row rows) c.in_ok-calls.calls calls;
      recursive = c.in_ok-recursive.ensures;
    }
