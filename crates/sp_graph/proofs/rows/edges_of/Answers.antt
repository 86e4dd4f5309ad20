use Rattle.std.proofs.Common.{◌<◌, ℕ, length, refl, subst}
use Rattle.sp_ir.specs.Programs.{lowered_of}
use Rattle.sp_graph.specs.Rows.{Joins, IsInside}
use Rattle.sp_graph.proofs.Edges.{all_edges}
use Rattle.sp_graph.proofs.rows.edges_of.Goals as goal

pub returns : goal.returns
returns c =
    let p = lowered_of c.args.lowered.now in
    let nodes = c.args.nodes.now in
    let count = length c.args.calls.now in
    let first = subst (λ rows. Joins (λ e. (k : ℕ) × (k < length p.flow) × IsInside nodes p.flow k e) rows c.follow_each.new.rows.items) c.in_ok-rows.ensures
    (subst (λ flow. Joins (λ e. (k : ℕ) × (k < length flow) × IsInside nodes flow k e) c.in_ok-rows.rows.items c.follow_each.new.rows.items) c.deref.ensures.value c.in_ok-follow_each.ensures) in
    all_edges p c.args.calls.now c.args.local nodes c.requires.long count refl c.follow_each.new.rows.items c.begin.new.rows.items c.cross_each.new.rows.items first c.in_ok-begin.ensures c.in_ok-cross_each.ensures
