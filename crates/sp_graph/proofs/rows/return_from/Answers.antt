use Rattle.std.proofs.Common.{◌<◌, ℕ, length, get_or}
use Rattle.sp_ir.specs.Programs.{lowered_of}
use Rattle.sp_graph.specs.Rows.{IsLeaving, IsBeside}
use Rattle.sp_graph.proofs.Joining.{joins_then}
use Rattle.sp_graph.proofs.rows.return_from.Goals as goal

pub returns : goal.returns
returns c =
    joins_then (λ e. (k : ℕ) × (k < length c.args.functions.now) × IsLeaving (lowered_of c.args.lowered.now) c.args.nodes.now c.args.local c.args.node (get_or c.args.functions.now k 0) e)
    (IsBeside c.args.nodes.now c.args.local c.args.call c.args.node c.args.functions.now)
    c.args.rows.now.items c.leave_each.new.rows.items c.pass_beside.new.rows.items c.in_ok-leave_each.ensures c.in_ok-pass_beside.ensures
