use Rattle.std.proofs.Common.{◌≡◌, ◌<◌, ℕ, length, get_or, subst, arith}
use Rattle.sp_ir.specs.Programs.{lowered_of}
use Rattle.sp_graph.specs.Rows.{Joins, IsLeaving}
use Rattle.sp_graph.proofs.Joining.{joins_begin, joins_loop}
use Rattle.sp_graph.proofs.rows.leave_each.Goals as goal

pub loop-function-init : goal.loop-function-init
loop-function-init c = joins_begin (λ k. IsLeaving (lowered_of c.args.lowered.now) c.args.nodes.now c.args.local c.args.node (get_or c.args.functions.now k 0)) c.args.rows.now.items

pub leave-requires : goal.leave-requires
leave-requires c n h = omega (arith, c.requires n h, c.loop-function.invariant.long)

pub loop-function-preserved : goal.loop-function-preserved
loop-function-preserved c = joins_loop (λ k. IsLeaving (lowered_of c.args.lowered.now) c.args.nodes.now c.args.local c.args.node (get_or c.args.functions.now k 0)) c.loop-function.function-index c.args.rows.now.items c.loop-function.rows.items c.leave.new.rows.items c.loop-function.invariant c.in_ok-leave.ensures

pub returns : goal.returns
returns c =
    let is : c.loop-function.function-index ≡ length c.args.functions.now = omega (arith, c.loop-function-test.false) in
    subst (λ n. Joins (λ e. (k : ℕ) × (k < n) × IsLeaving (lowered_of c.args.lowered.now) c.args.nodes.now c.args.local c.args.node (get_or c.args.functions.now k 0) e) c.args.rows.now.items c.loop-function.rows.items) is c.loop-function.invariant
