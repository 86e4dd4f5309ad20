use Rattle.std.proofs.Common.{◌≡◌, ◌∙◌, [], sym, arith}
use Rattle.sp_ir.specs.Programs.{lowered_of}
use Rattle.sp_base_sets.specs.Reached.{row}
use Rattle.sp_graph.proofs.Joining.{back_joins}
use Rattle.sp_graph.proofs.rows.come_back.Goals as goal

pub returns-in_ok-return_from : goal.returns-in_ok-return_from
returns-in_ok-return_from c =
    let is : c.as_slice.result.now ≡ row c.args.calls.now c.in-Some.call = c.as_slice.ensures.numbers ∙ c.in-Some-get.ensures.lookup.4 (omega arith) [] in
    back_joins (lowered_of c.args.lowered.now) c.args.nodes.now c.args.calls.now c.args.local c.in-Some.call c.args.node c.as_slice.result.now c.args.rows.now.items c.return_from.new.rows.items (sym c.in-Some.ensures) is c.in_ok-return_from.ensures
