use Rattle.std.proofs.Common.{◌≡◌, ◌<◌, ◌+◌, ◌∙◌, true, [], length, set, sym, ap, subst, arith, length-set}
use Rattle.sp_lattice.specs.System.{has}
use Rattle.sp_deps.specs.Rows.{held}
use Rattle.sp_sparse.specs.inner.Grid.{table_at}
use Rattle.sp_sparse.specs.inner.Engine.{IsWorking, Every, locations_at}
use Rattle.sp_sparse.proofs.Ordered.{has-at}
use Rattle.sp_sparse.proofs.Working.{working_evaluated}
use Rattle.sp_sparse.proofs.Paying.{paid_evaluated}
use Rattle.sp_sparse.proofs.Turns.{counted, counted_here, counted_other, counted_sum, counted_once, count_is, nothing_waits, shown_low, turns_bound, turns_room, turns_fit, turns_most, turns_done}
use Rattle.sp_sparse.proofs.solver.solve.Goals as goal

pub returns-in_err-evaluate-clause-bound : goal.returns-in_err-evaluate-clause-bound
returns-in_err-evaluate-clause-bound g c =
    let o = g.S.Value.Lattice.order in
    let m = g.S.System.meaning c.args.system.now in
    let laws = g.met.S.Value.Lattice.lawful in
    let sys = g.met.S.System.lawful c.args.system.now in
    let rows = c.args.links.now.deps.now in
    let ins = table_at o.bottom m.uses c.turns.inputs in
    let outs = table_at o.bottom m.defs c.turns.outputs in
    let waiting = c.turns.waiting.waiting in
    let counts = c.turns.evaluations.items in
    let so_far = c.turns.invariant in
    let node = c.take-node.result in
    let low : node < m.nodes = omega (arith, c.take-node.ensures.there, so_far.same_nodes) in
    let there : has node waiting ≡ true = has-at node waiting c.pick-index.result (shown_low waiting c.pick-index.result (subst (λ xs. c.pick-index.result < length xs) c.front.ensures c.pick-index.ensures)) (sym c.take-node.ensures.value) in
    omega (arith, turns_room o m laws sys rows c.requires.deps ins outs waiting counts so_far.working so_far.paid so_far.long c.args.steps.now c.turns.steps node so_far.ticked low there, c.evaluate.ensures.ticked)

pub overflow_add-index_mut : goal.overflow_add-index_mut
overflow_add-index_mut g c =
    let o = g.S.Value.Lattice.order in
    let m = g.S.System.meaning c.args.system.now in
    let laws = g.met.S.Value.Lattice.lawful in
    let sys = g.met.S.System.lawful c.args.system.now in
    let rows = c.args.links.now.deps.now in
    let ins = table_at o.bottom m.uses c.turns.inputs in
    let outs = table_at o.bottom m.defs c.turns.outputs in
    let waiting = c.turns.waiting.waiting in
    let counts = c.turns.evaluations.items in
    let so_far = c.turns.invariant in
    let node = c.take-node.result in
    let low : node < m.nodes = omega (arith, c.take-node.ensures.there, so_far.same_nodes) in
    let there : has node waiting ≡ true = has-at node waiting c.pick-index.result (shown_low waiting c.pick-index.result (subst (λ xs. c.pick-index.result < length xs) c.front.ensures c.pick-index.ensures)) (sym c.take-node.ensures.value) in
    omega (arith, turns_fit o m laws sys rows c.requires.deps ins outs waiting counts so_far.working so_far.paid so_far.long (omega (arith, c.count-count.ensures.total, c.count-count.ensures.few)) node low there, count_is counts node c.index_mut.result.now (omega (arith, low, so_far.long)) c.index_mut.ensures.value)

pub send_grown-requires-clause-working : goal.send_grown-requires-clause-working
send_grown-requires-clause-working g c =
    let o = g.S.Value.Lattice.order in
    let m = g.S.System.meaning c.args.system.now in
    let laws = g.met.S.Value.Lattice.lawful in
    let sys = g.met.S.System.lawful c.args.system.now in
    let rows = c.args.links.now.deps.now in
    let ins = table_at o.bottom m.uses c.turns.inputs in
    let outs = table_at o.bottom m.defs c.turns.outputs in
    let waiting = c.turns.waiting.waiting in
    let counts = c.turns.evaluations.items in
    let so_far = c.turns.invariant in
    let node = c.take-node.result in
    let low : node < m.nodes = omega (arith, c.take-node.ensures.there, so_far.same_nodes) in
    let there : has node waiting ≡ true = has-at node waiting c.pick-index.result (shown_low waiting c.pick-index.result (subst (λ xs. c.pick-index.result < length xs) c.front.ensures c.pick-index.ensures)) (sym c.take-node.ensures.value) in
    working_evaluated o m laws sys c.solution_laws.ensures.laws (held rows) ins outs (table_at o.bottom m.defs c.evaluate.new.outputs) waiting c.take-node.new.self.waiting (locations_at m node c.evaluate.new.grown.items) node low so_far.working c.in_ok-evaluate.ensures.evaluated c.take-node.ensures.removed

pub turns-smaller : goal.turns-smaller
turns-smaller g c =
    let o = g.S.Value.Lattice.order in
    let m = g.S.System.meaning c.args.system.now in
    let laws = g.met.S.Value.Lattice.lawful in
    let sys = g.met.S.System.lawful c.args.system.now in
    let rows = c.args.links.now.deps.now in
    let ins = table_at o.bottom m.uses c.turns.inputs in
    let outs = table_at o.bottom m.defs c.turns.outputs in
    let waiting = c.turns.waiting.waiting in
    let counts = c.turns.evaluations.items in
    let so_far = c.turns.invariant in
    let node = c.take-node.result in
    let low : node < m.nodes = omega (arith, c.take-node.ensures.there, so_far.same_nodes) in
    let there : has node waiting ≡ true = has-at node waiting c.pick-index.result (shown_low waiting c.pick-index.result (subst (λ xs. c.pick-index.result < length xs) c.front.ensures c.pick-index.ensures)) (sym c.take-node.ensures.value) in
    omega (arith, turns_room o m laws sys rows c.requires.deps ins outs waiting counts so_far.working so_far.paid so_far.long c.args.steps.now c.turns.steps node so_far.ticked low there, c.evaluate.ensures.ticked)

pub turns-preserved : goal.turns-preserved
turns-preserved g c =
    let o = g.S.Value.Lattice.order in
    let m = g.S.System.meaning c.args.system.now in
    let laws = g.met.S.Value.Lattice.lawful in
    let sys = g.met.S.System.lawful c.args.system.now in
    let rows = c.args.links.now.deps.now in
    let ins = table_at o.bottom m.uses c.turns.inputs in
    let outs = table_at o.bottom m.defs c.turns.outputs in
    let waiting = c.turns.waiting.waiting in
    let counts = c.turns.evaluations.items in
    let so_far = c.turns.invariant in
    let node = c.take-node.result in
    let low : node < m.nodes = omega (arith, c.take-node.ensures.there, so_far.same_nodes) in
    let there : has node waiting ≡ true = has-at node waiting c.pick-index.result (shown_low waiting c.pick-index.result (subst (λ xs. c.pick-index.result < length xs) c.front.ensures c.pick-index.ensures)) (sym c.take-node.ensures.value) in
    let count = c.index_mut.result.now in
    let c_low : node < length counts = omega (arith, low, so_far.long) in
    let at = c.index_mut.ensures.value in
    let paid = paid_evaluated o m laws sys ins waiting c.take-node.new.self.waiting (counted counts) (counted (set counts node (count + 1))) node there c.take-node.ensures.removed (counted_here counts node count c_low at) (counted_other counts node count c_low at) so_far.paid in
    record {
      in_grid = c.in_ok-send_grown.ensures.grid;
      out_grid = c.in_ok-evaluate.ensures.grid;
      room = λ n n_low. omega (arith, so_far.room n n_low, c.evaluate.ensures.row);
      same_nodes = c.send_grown.ensures.nodes ∙ c.take-node.ensures.nodes ∙ so_far.same_nodes;
      long = length-set counts node (count + 1) ∙ so_far.long;
      working = c.in_ok-send_grown.ensures.working;
      paid = c.in_ok-send_grown.ensures.paid (counted (set counts node (count + 1))) paid;
      once = counted_once counts node count c_low at m.nodes waiting c.take-node.new.self.waiting c.send_grown.new.waiting.waiting c.take-node.ensures.removed c.in_ok-send_grown.ensures.still so_far.once;
      ticked = omega (arith, c.evaluate.ensures.ticked, so_far.ticked, counted_sum counts node count c_low at);
    }

pub returns-in_err-send_grown-clause-bound : goal.returns-in_err-send_grown-clause-bound
returns-in_err-send_grown-clause-bound g c =
    let o = g.S.Value.Lattice.order in
    let m = g.S.System.meaning c.args.system.now in
    let laws = g.met.S.Value.Lattice.lawful in
    let sys = g.met.S.System.lawful c.args.system.now in
    let rows = c.args.links.now.deps.now in
    let ins = table_at o.bottom m.uses c.turns.inputs in
    let outs = table_at o.bottom m.defs c.turns.outputs in
    let waiting = c.turns.waiting.waiting in
    let counts = c.turns.evaluations.items in
    let so_far = c.turns.invariant in
    let node = c.take-node.result in
    let low : node < m.nodes = omega (arith, c.take-node.ensures.there, so_far.same_nodes) in
    let there : has node waiting ≡ true = has-at node waiting c.pick-index.result (shown_low waiting c.pick-index.result (subst (λ xs. c.pick-index.result < length xs) c.front.ensures c.pick-index.ensures)) (sym c.take-node.ensures.value) in
    omega (arith, turns_room o m laws sys rows c.requires.deps ins outs waiting counts so_far.working so_far.paid so_far.long c.args.steps.now c.turns.steps node so_far.ticked low there, c.evaluate.ensures.ticked)

pub returns-clause-solved : goal.returns-clause-solved
returns-clause-solved g c =
    let o = g.S.Value.Lattice.order in
    let m = g.S.System.meaning c.args.system.now in
    let laws = g.met.S.Value.Lattice.lawful in
    let sys = g.met.S.System.lawful c.args.system.now in
    let rows = c.args.links.now.deps.now in
    let ins = table_at o.bottom m.uses c.turns.inputs in
    let outs = table_at o.bottom m.defs c.turns.outputs in
    let waiting = c.turns.waiting.waiting in
    let counts = c.turns.evaluations.items in
    let so_far = c.turns.invariant in
    let none : waiting ≡ [] = nothing_waits waiting (sym c.is_empty.ensures ∙ c.turns-test.false) in
    turns_done o m laws sys rows c.requires.deps c.solution_laws-2.ensures.laws ins outs (subst (λ xs. IsWorking o m (held rows) (Every (held rows)) ins outs xs) none so_far.working)

pub returns-clause-few : goal.returns-clause-few
returns-clause-few g c =
    let o = g.S.Value.Lattice.order in
    let m = g.S.System.meaning c.args.system.now in
    let laws = g.met.S.Value.Lattice.lawful in
    let sys = g.met.S.System.lawful c.args.system.now in
    let rows = c.args.links.now.deps.now in
    let ins = table_at o.bottom m.uses c.turns.inputs in
    let outs = table_at o.bottom m.defs c.turns.outputs in
    let waiting = c.turns.waiting.waiting in
    let counts = c.turns.evaluations.items in
    let so_far = c.turns.invariant in
    let none : waiting ≡ [] = nothing_waits waiting (sym c.is_empty.ensures ∙ c.turns-test.false) in
    turns_most o m laws sys rows c.requires.deps ins outs waiting counts so_far.working so_far.paid so_far.long (λ n low. so_far.once n low (ap (λ xs. has n xs) none))

pub returns-clause-bound : goal.returns-clause-bound
returns-clause-bound g c =
    let o = g.S.Value.Lattice.order in
    let m = g.S.System.meaning c.args.system.now in
    let laws = g.met.S.Value.Lattice.lawful in
    let sys = g.met.S.System.lawful c.args.system.now in
    let rows = c.args.links.now.deps.now in
    let ins = table_at o.bottom m.uses c.turns.inputs in
    let outs = table_at o.bottom m.defs c.turns.outputs in
    let waiting = c.turns.waiting.waiting in
    let counts = c.turns.evaluations.items in
    let so_far = c.turns.invariant in
    turns_bound o m laws sys rows c.requires.deps ins outs waiting counts so_far.working so_far.paid so_far.long c.args.steps.now c.turns.steps so_far.ticked

pub take-node-requires : goal.take-node-requires
take-node-requires g c =
    let waiting = c.turns.waiting.waiting in
    shown_low waiting c.pick-index.result (subst (λ xs. c.pick-index.result < length xs) c.front.ensures c.pick-index.ensures)
