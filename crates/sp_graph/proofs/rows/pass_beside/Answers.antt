use Rattle.std.proofs.Common.{◌<◌, length, arith}
use Rattle.std.proofs.lemmas.Bool.Decides.{nat_tests}
use Rattle.sp_graph.proofs.Joining.{beside_joins}
use Rattle.sp_graph.proofs.rows.pass_beside.Goals as goal

pub returns-in_ok-join : goal.returns-in_ok-join
returns-in_ok-join c =
    let some : 0 < length c.args.functions.now = grind (arith, nat_tests, c.if-not-is_empty.true, c.is_empty.ensures) in
    beside_joins c.args.nodes.now c.args.local c.args.call c.args.node c.args.functions.now c.args.rows.now.items c.join.new.rows.items c.if-local.true some c.in_ok-join.ensures
