use Rattle.std.proofs.Common.{sym}
use Rattle.sp_ir.specs.Programs.{lowered_of}
use Rattle.sp_graph.proofs.Joining.{beginning_joins}
use Rattle.sp_graph.proofs.rows.begin.Goals as goal

pub returns-in_ok-join : goal.returns-in_ok-join
returns-in_ok-join c = beginning_joins (lowered_of c.args.lowered.now) c.args.nodes.now c.in-Some.to c.args.rows.now.items c.join.new.rows.items (sym c.in-Some.ensures) c.in_ok-join.ensures
