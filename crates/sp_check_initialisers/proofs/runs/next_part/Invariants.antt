use Rattle.std.proofs.Common.{◌≡◌, map}
use Rattle.std.specs.Vec.{vec_len}
use Rattle.sp_types.specs.View.{struct_of}
use Rattle.sp_check_initialisers.specs.InitView.{runs_of}
use Rattle.sp_check_initialisers.specs.Runs.{next_part}
use Rattle.sp_check_initialisers.proofs.runs.next_part.Given as goal

abbrev pub invariant-runs : goal.invariant-runs
invariant-runs l = next_part (map struct_of l.structs) (runs_of l.runs.items) ≡ next_part (map struct_of l.structs) (runs_of l.fn.runs.items)

abbrev pub decreases-runs : goal.decreases-runs
decreases-runs l = vec_len l.runs
