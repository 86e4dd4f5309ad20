use Rattle.std.proofs.Common.{◌≡◌, ◌∙◌, ◌+◌, ◌∷◌, [], ap, length, arith, length-append}
use Rattle.sp_lattice.specs.Flat.{row_at}
use Rattle.sp_sparse.proofs.CellLaws.{lists_more}
use Rattle.sp_sparse.proofs.solver.defined_locations.Goals as goal

pub loop-node-preserved : goal.loop-node-preserved
loop-node-preserved g c =
    let m = g.S.System.meaning c.args.system.now in
    let lists = c.loop-node.lists in
    let list = c.defs-in-loop-node.result.now in
    let node = c.loop-node.node in
    let so_far = c.loop-node.invariant in
    let pushed = c.in_ok-push_row.ensures.pushed in
    let long : length c.push_row.new.self ≡ node + 1 = omega (arith, ap length pushed, length-append lists (list ∷ []), so_far.long) in
    record {
      long = long;
      same = λ n low. ap (λ rows. row_at rows n) pushed ∙ lists_more m.defs lists list node so_far.long so_far.same c.defs-in-loop-node.ensures n low;
    }

pub returns : goal.returns
returns g c =
    let done = c.loop-node.invariant in
    record {
      long = omega (arith, done.long, c.loop-node.auto.node-end, c.loop-node-test.false, c.nodes-node-end-2.ensures);
      same = λ n low. done.same n (omega (arith, low, c.loop-node-test.false, c.nodes-node-end-2.ensures));
    }
