use Rattle.std.proofs.Common.{ap}
use Rattle.sp_points_rules.specs.Puts.{command_in}
use Rattle.sp_effect_scene.specs.View.{analysed_of}
use Rattle.sp_transfer.proofs.Nodes.{node-proper}
use Rattle.sp_run_analysis.proofs.reports.report_with.Goals as goal

pub alarms-requires-clause-proper : goal.alarms-requires-clause-proper
alarms-requires-clause-proper g c = λ n h node is.
    let analysis = c.analysis-analysis.result.now in
    node-proper (analysed_of analysis) analysis.whole n node.command (ap command_in is)
