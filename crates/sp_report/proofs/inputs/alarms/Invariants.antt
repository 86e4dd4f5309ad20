use Rattle.std.proofs.Common.{◌≡◌, ◌++◌, drop}
use Rattle.sp_ir.specs.Programs.{lowered_of}
use Rattle.sp_report.specs.Inputs.{alarms_from}
use Rattle.sp_report.proofs.inputs.alarms.Given as goal

abbrev pub invariant-loop-k : goal.invariant-loop-k
invariant-loop-k g l =
    l.alarms.items ++ alarms_from (lowered_of l.lowered) l.locations.cells.items (g.I.Inputs.given l.inputs) l.k (drop l.k l.nodes)
    ≡ alarms_from (lowered_of l.lowered) l.locations.cells.items (g.I.Inputs.given l.inputs) 0 l.nodes
