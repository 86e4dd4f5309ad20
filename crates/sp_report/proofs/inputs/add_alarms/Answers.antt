use Rattle.std.proofs.Common.{sym}
use Rattle.sp_ir.specs.View.{node_of}
use Rattle.sp_report.proofs.inputs.add_alarms.Goals as goal

pub verdicts-requires : goal.verdicts-requires
verdicts-requires g c = c.requires (node_of c.in-Some.node.now) (sym c.in-Some.ensures)
