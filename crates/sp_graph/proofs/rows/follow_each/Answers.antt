use Rattle.std.proofs.Common.{◌≡◌, ◌<◌, ℕ, length, get_or, subst, arith}
use Rattle.std.proofs.lemmas.List.{get_or_default}
use Rattle.sp_graph.specs.Rows.{Joins, IsInside}
use Rattle.sp_graph.proofs.Joining.{joins_loop, inside_joins}
use Rattle.sp_graph.proofs.rows.follow_each.Goals as goal

pub loop-from-preserved : goal.loop-from-preserved
loop-from-preserved c =
    let nodes = c.args.nodes.now in
    let flow = c.args.flow.now in
    let at = c.loop-from.from-index in
    let low = c.loop-from-test.true in
    let item : ℕ × ℕ = get_or flow at (0, 0) in
    joins_loop (λ k. IsInside nodes flow k) at c.args.rows.now.items c.loop-from.rows.items c.join.new.rows.items c.loop-from.invariant
    (inside_joins nodes flow at item.0 item.1 c.loop-from.rows.items c.join.new.rows.items low (get_or_default flow at (item.0, item.1) (0, 0) low) c.in_ok-join.ensures)

pub returns : goal.returns
returns c =
    let is : c.loop-from.from-index ≡ length c.args.flow.now = omega (arith, c.loop-from-test.false) in
    subst (λ n. Joins (λ e. (k : ℕ) × (k < n) × IsInside c.args.nodes.now c.args.flow.now k e) c.args.rows.now.items c.loop-from.rows.items) is c.loop-from.invariant
