use Rattle.std.proofs.Common.{refl, sym}
use Rattle.sp_ir.specs.Programs.{lowered_of}
use Rattle.sp_graph.specs.declared.edge.Edge.{Edge}
use Rattle.sp_graph.proofs.Joining.{leaving_joins}
use Rattle.sp_graph.proofs.rows.leave.Goals as goal

pub returns-in_ok-join : goal.returns-in_ok-join
returns-in_ok-join c =
    let edge : Edge = record { from = c.in-Some.from; to = c.args.node; pass = c.crossing-pass.result } in
    leaving_joins (lowered_of c.args.lowered.now) c.args.nodes.now c.args.local c.args.node c.args.function edge c.args.rows.now.items c.join.new.rows.items (sym c.in-Some.ensures) refl c.crossing-pass.ensures c.in_ok-join.ensures
