use Rattle.std.proofs.Common.{◌≡◌, ◌∙◌, ◌+◌, ◌<◌, false, length, get_or, drop, refl, sym, ap, subst, arith}
use Rattle.std.proofs.lemmas.List.{get_or_default}
use Rattle.sp_lattice.specs.Flat.{row_at}
use Rattle.sp_deps.specs.Rows.{held}
use Rattle.sp_sparse.specs.inner.Grid.{table_at}
use Rattle.sp_sparse.specs.inner.Links.{AreLinks, definitions_before}
use Rattle.sp_sparse.specs.inner.Engine.{IsWorking, EveryBut, Raises, locations_at}
use Rattle.sp_sparse.proofs.Ordered.{has-at}
use Rattle.sp_sparse.proofs.GridLaws.{raises, raised_grid, value_there, pending_next, pending_none}
use Rattle.sp_sparse.proofs.Laying.{before_first, before_later}
use Rattle.sp_sparse.proofs.Paying.{Lets}
use Rattle.sp_sparse.proofs.Working.{working_all}
use Rattle.sp_sparse.proofs.Sending.{link_low, lets_add, lets_none, lets_stay, sending_working, sending_reached, sending_paid, sending_done}
use Rattle.sp_sparse.proofs.evaluation.send_grown.Goals as goal
use Rattle.sp_sparse.proofs.evaluation.send_grown.Goals.{then-grew, else-grew}

pub offset_bounds-output-place : goal.offset_bounds-output-place
offset_bounds-output-place g c =
    let o = g.S.Value.Lattice.order in
    let m = g.S.System.meaning c.args.system.now in
    let laws = g.met.S.Value.Lattice.lawful in
    let sys = g.met.S.System.lawful c.args.system.now in
    let deps = c.args.links.now.deps.now in
    let node = c.args.node in
    let grown = c.args.grown.now.items in
    let i = c.places.place-index in
    let place = get_or grown i 0 in
    let place_is : get_or c.deref-place-items.result.now i 0 ≡ place = ap (λ xs. get_or xs i 0) c.deref-place-items.ensures.value in
    let i_low : i < length grown = omega (arith, c.places-test.true, ap length c.deref-place-items.ensures.value) in
    let p_low : place < length (m.defs node) = c.requires.grown place (has-at place grown i i_low refl) in
    omega (arith, p_low, place_is, ap length c.row-output.ensures, c.requires.outputs.rows_long node c.requires.node)

pub bounds-output-place : goal.bounds-output-place
bounds-output-place g c =
    let o = g.S.Value.Lattice.order in
    let m = g.S.System.meaning c.args.system.now in
    let laws = g.met.S.Value.Lattice.lawful in
    let sys = g.met.S.System.lawful c.args.system.now in
    let deps = c.args.links.now.deps.now in
    let node = c.args.node in
    let grown = c.args.grown.now.items in
    let i = c.places.place-index in
    let place = get_or grown i 0 in
    let place_is : get_or c.deref-place-items.result.now i 0 ≡ place = ap (λ xs. get_or xs i 0) c.deref-place-items.ensures.value in
    let i_low : i < length grown = omega (arith, c.places-test.true, ap length c.deref-place-items.ensures.value) in
    let p_low : place < length (m.defs node) = c.requires.grown place (has-at place grown i i_low refl) in
    omega (arith, p_low, place_is, ap length c.row-output.ensures, c.requires.outputs.rows_long node c.requires.node)

pub overflow_add-first : goal.overflow_add-first
overflow_add-first g c =
    let o = g.S.Value.Lattice.order in
    let m = g.S.System.meaning c.args.system.now in
    let laws = g.met.S.Value.Lattice.lawful in
    let sys = g.met.S.System.lawful c.args.system.now in
    let deps = c.args.links.now.deps.now in
    let node = c.args.node in
    let grown = c.args.grown.now.items in
    let i = c.places.place-index in
    let place = get_or grown i 0 in
    let place_is : get_or c.deref-place-items.result.now i 0 ≡ place = ap (λ xs. get_or xs i 0) c.deref-place-items.ensures.value in
    let i_low : i < length grown = omega (arith, c.places-test.true, ap length c.deref-place-items.ensures.value) in
    let p_low : place < length (m.defs node) = c.requires.grown place (has-at place grown i i_low refl) in
    let within : place < length (row_at c.args.outputs.now node) = omega (arith, p_low, c.requires.outputs.rows_long node c.requires.node) in
    omega (arith, c.first-first.ensures.room place (omega (arith, c.requires.node, c.requires.outputs.long)) within, place_is)

pub row-targets-requires : goal.row-targets-requires
row-targets-requires g c =
    let o = g.S.Value.Lattice.order in
    let m = g.S.System.meaning c.args.system.now in
    let laws = g.met.S.Value.Lattice.lawful in
    let sys = g.met.S.System.lawful c.args.system.now in
    let deps = c.args.links.now.deps.now in
    let node = c.args.node in
    let grown = c.args.grown.now.items in
    let i = c.places.place-index in
    let place = get_or grown i 0 in
    let place_is : get_or c.deref-place-items.result.now i 0 ≡ place = ap (λ xs. get_or xs i 0) c.deref-place-items.ensures.value in
    let i_low : i < length grown = omega (arith, c.places-test.true, ap length c.deref-place-items.ensures.value) in
    let p_low : place < length (m.defs node) = c.requires.grown place (has-at place grown i i_low refl) in
    let first_is : c.first-first.result ≡ definitions_before m node = c.first-first.ensures.before ∙ before_first m c.args.outputs.now node c.requires.outputs (omega (arith, c.requires.node)) in
    omega (arith, before_later m node m.nodes place c.requires.node p_low, first_is, place_is, c.requires.links.long)

pub raise_at-requires-clause-row : goal.raise_at-requires-clause-row
raise_at-requires-clause-row g c =
    let o = g.S.Value.Lattice.order in
    let m = g.S.System.meaning c.args.system.now in
    let laws = g.met.S.Value.Lattice.lawful in
    let sys = g.met.S.System.lawful c.args.system.now in
    let deps = c.args.links.now.deps.now in
    let node = c.args.node in
    let grown = c.args.grown.now.items in
    let i = c.places.place-index in
    let place = get_or grown i 0 in
    let place_is : get_or c.deref-place-items.result.now i 0 ≡ place = ap (λ xs. get_or xs i 0) c.deref-place-items.ensures.value in
    let i_low : i < length grown = omega (arith, c.places-test.true, ap length c.deref-place-items.ensures.value) in
    let p_low : place < length (m.defs node) = c.requires.grown place (has-at place grown i i_low refl) in
    let first_is : c.first-first.result ≡ definitions_before m node = c.first-first.ensures.before ∙ before_first m c.args.outputs.now node c.requires.outputs (omega (arith, c.requires.node)) in
    let l = get_or (m.defs node) place 0 in
    let links = c.row-targets.result.now in
    let links_is : row_at c.args.links.now.rows (definitions_before m node + place) ≡ links =
    ap (λ k. row_at c.args.links.now.rows (k + place)) (sym first_is) ∙ ap (λ k. row_at c.args.links.now.rows (c.first-first.result + k)) (sym place_is) ∙ sym c.row-targets.ensures in
    let are : AreLinks m (held deps) node l links = subst (AreLinks m (held deps) node l) links_is (c.requires.links.each node place c.requires.node p_low) in
    let j = c.targets.target-index in
    let link = get_or links j (0, 0) in
    omega (arith, link_low o m laws sys c.solution_laws.ensures.laws (held deps) c.requires.deps.exact node l links are j (0, 0) c.targets-test.true, c.targets.invariant.grid.long)

pub raise_at-requires-clause-place : goal.raise_at-requires-clause-place
raise_at-requires-clause-place g c =
    let o = g.S.Value.Lattice.order in
    let m = g.S.System.meaning c.args.system.now in
    let laws = g.met.S.Value.Lattice.lawful in
    let sys = g.met.S.System.lawful c.args.system.now in
    let deps = c.args.links.now.deps.now in
    let node = c.args.node in
    let grown = c.args.grown.now.items in
    let i = c.places.place-index in
    let place = get_or grown i 0 in
    let place_is : get_or c.deref-place-items.result.now i 0 ≡ place = ap (λ xs. get_or xs i 0) c.deref-place-items.ensures.value in
    let i_low : i < length grown = omega (arith, c.places-test.true, ap length c.deref-place-items.ensures.value) in
    let p_low : place < length (m.defs node) = c.requires.grown place (has-at place grown i i_low refl) in
    let first_is : c.first-first.result ≡ definitions_before m node = c.first-first.ensures.before ∙ before_first m c.args.outputs.now node c.requires.outputs (omega (arith, c.requires.node)) in
    let l = get_or (m.defs node) place 0 in
    let links = c.row-targets.result.now in
    let links_is : row_at c.args.links.now.rows (definitions_before m node + place) ≡ links =
    ap (λ k. row_at c.args.links.now.rows (k + place)) (sym first_is) ∙ ap (λ k. row_at c.args.links.now.rows (c.first-first.result + k)) (sym place_is) ∙ sym c.row-targets.ensures in
    let are : AreLinks m (held deps) node l links = subst (AreLinks m (held deps) node l) links_is (c.requires.links.each node place c.requires.node p_low) in
    let j = c.targets.target-index in
    let link = get_or links j (0, 0) in
    let low = link_low o m laws sys c.solution_laws.ensures.laws (held deps) c.requires.deps.exact node l links are j (0, 0) c.targets-test.true in
    omega (arith, (are.each j (0, 0) c.targets-test.true).within, c.targets.invariant.grid.rows_long link.0 low)

pub add-requires : goal.add-requires
add-requires g c =
    let o = g.S.Value.Lattice.order in
    let m = g.S.System.meaning c.args.system.now in
    let laws = g.met.S.Value.Lattice.lawful in
    let sys = g.met.S.System.lawful c.args.system.now in
    let deps = c.args.links.now.deps.now in
    let node = c.args.node in
    let grown = c.args.grown.now.items in
    let i = c.places.place-index in
    let place = get_or grown i 0 in
    let place_is : get_or c.deref-place-items.result.now i 0 ≡ place = ap (λ xs. get_or xs i 0) c.deref-place-items.ensures.value in
    let i_low : i < length grown = omega (arith, c.places-test.true, ap length c.deref-place-items.ensures.value) in
    let p_low : place < length (m.defs node) = c.requires.grown place (has-at place grown i i_low refl) in
    let first_is : c.first-first.result ≡ definitions_before m node = c.first-first.ensures.before ∙ before_first m c.args.outputs.now node c.requires.outputs (omega (arith, c.requires.node)) in
    let l = get_or (m.defs node) place 0 in
    let links = c.row-targets.result.now in
    let links_is : row_at c.args.links.now.rows (definitions_before m node + place) ≡ links =
    ap (λ k. row_at c.args.links.now.rows (k + place)) (sym first_is) ∙ ap (λ k. row_at c.args.links.now.rows (c.first-first.result + k)) (sym place_is) ∙ sym c.row-targets.ensures in
    let are : AreLinks m (held deps) node l links = subst (AreLinks m (held deps) node l) links_is (c.requires.links.each node place c.requires.node p_low) in
    let j = c.targets.target-index in
    let link = get_or links j (0, 0) in
    omega (arith, link_low o m laws sys c.solution_laws.ensures.laws (held deps) c.requires.deps.exact node l links are j (0, 0) c.targets-test.true, c.targets.invariant.same_nodes)

pub targets-preserved : goal.targets-preserved
targets-preserved g c =
    let o = g.S.Value.Lattice.order in
    let m = g.S.System.meaning c.args.system.now in
    let laws = g.met.S.Value.Lattice.lawful in
    let sys = g.met.S.System.lawful c.args.system.now in
    let deps = c.args.links.now.deps.now in
    let node = c.args.node in
    let grown = c.args.grown.now.items in
    let i = c.places.place-index in
    let place = get_or grown i 0 in
    let place_is : get_or c.deref-place-items.result.now i 0 ≡ place = ap (λ xs. get_or xs i 0) c.deref-place-items.ensures.value in
    let i_low : i < length grown = omega (arith, c.places-test.true, ap length c.deref-place-items.ensures.value) in
    let p_low : place < length (m.defs node) = c.requires.grown place (has-at place grown i i_low refl) in
    let first_is : c.first-first.result ≡ definitions_before m node = c.first-first.ensures.before ∙ before_first m c.args.outputs.now node c.requires.outputs (omega (arith, c.requires.node)) in
    let l = get_or (m.defs node) place 0 in
    let links = c.row-targets.result.now in
    let links_is : row_at c.args.links.now.rows (definitions_before m node + place) ≡ links =
    ap (λ k. row_at c.args.links.now.rows (k + place)) (sym first_is) ∙ ap (λ k. row_at c.args.links.now.rows (c.first-first.result + k)) (sym place_is) ∙ sym c.row-targets.ensures in
    let are : AreLinks m (held deps) node l links = subst (AreLinks m (held deps) node l) links_is (c.requires.links.each node place c.requires.node p_low) in
    let j = c.targets.target-index in
    let link = get_or links j (0, 0) in
    let low = c.targets-test.true in
    let is_link = are.each j (0, 0) low in
    let to_low = link_low o m laws sys c.solution_laws.ensures.laws (held deps) c.requires.deps.exact node l links are j (0, 0) low in
    let before = c.targets.inputs in
    let later = c.raise_at.new.self in
    let ins = table_at o.bottom m.uses before in
    let outs = table_at o.bottom m.defs c.args.outputs.now in
    let after = table_at o.bottom m.uses later in
    let waiting = c.targets.waiting.waiting in
    let now = c.if-grew.waiting.waiting in
    let grew = c.in_ok-grew.grew in
    let so_far = c.targets.invariant in
    let v = c.index-output-place.result in
    let out_low : place < length (row_at c.args.outputs.now node) = omega (arith, p_low, c.requires.outputs.rows_long node c.requires.node) in
    let value : v ≡ outs node l =
    c.index-output-place.is ∙ ap (λ xs. get_or xs (get_or c.deref-place-items.result.now i 0) v) c.row-output.ensures ∙ ap (λ p. get_or (row_at c.args.outputs.now node) p v) place_is
    ∙ get_or_default (row_at c.args.outputs.now node) place v o.bottom out_low ∙ value_there o.bottom m.defs c.args.outputs.now node place (c.requires.outputs.rows_long node c.requires.node) (sys.defs_ascend node c.requires.node) p_low in
    let raised : Raises o ins after link.0 l (outs node l) grew =
    subst (λ w. Raises o ins after link.0 l w grew) value
    (raises o m before link.0 l link.1 v (o.join (get_or (row_at before link.0) link.1 o.bottom) v) to_low (sys.uses_ascend link.0 to_low) so_far.grid is_link.within is_link.there refl later grew c.in_ok-grew.ensures.raised c.in_ok-grew.ensures.grew) in
    let lets : Lets waiting now link.0 grew =
    elim c.if-grew.branch [
      | then-grew w ↦ subst (λ b. Lets waiting now link.0 b) (sym w.if-grew.true) (lets_add waiting now link.0 (ap (λ x. x.waiting) w.waiting-is ∙ w.add.ensures.added))
      | else-grew w ↦ subst (λ b. Lets waiting now link.0 b) (sym w.if-grew.false) (subst (λ xs. Lets waiting xs link.0 false) (sym (ap (λ x. x.waiting) w.waiting-is)) (lets_none waiting link.0))
    ] in
    let due = EveryBut (held deps) node (locations_at m node (drop i grown)) in
    record {
      grid = raised_grid o m before link.0 l link.1 v (o.join (get_or (row_at before link.0) link.1 o.bottom) v) to_low (sys.uses_ascend link.0 to_low) so_far.grid is_link.within is_link.there refl later c.in_ok-grew.ensures.raised;
      same_nodes = elim c.if-grew.branch [ then-grew w ↦ ap (λ x. x.nodes) w.waiting-is ∙ w.add.ensures.nodes ∙ so_far.same_nodes | else-grew w ↦ ap (λ x. x.nodes) w.waiting-is ∙ so_far.same_nodes ];
      working = sending_working o m laws sys c.solution_laws.ensures.laws (held deps) c.requires.deps.exact node l links are due ins outs after waiting now j (0, 0) grew low so_far.working raised lets;
      reached = sending_reached o m laws sys c.solution_laws.ensures.laws (held deps) c.requires.deps.exact node l links are due ins outs after waiting now j (0, 0) grew low so_far.working raised lets so_far.reached;
      still = λ n h. lets_stay waiting now link.0 grew lets n (so_far.still n h);
      paid = λ counts h. sending_paid o m laws sys c.solution_laws.ensures.laws (held deps) c.requires.deps.exact node l links are due ins outs after waiting now j (0, 0) grew low so_far.working raised lets counts (so_far.paid counts h);
    }

pub places-preserved : goal.places-preserved
places-preserved g c =
    let o = g.S.Value.Lattice.order in
    let m = g.S.System.meaning c.args.system.now in
    let laws = g.met.S.Value.Lattice.lawful in
    let sys = g.met.S.System.lawful c.args.system.now in
    let deps = c.args.links.now.deps.now in
    let node = c.args.node in
    let grown = c.args.grown.now.items in
    let i = c.places.place-index in
    let place = get_or grown i 0 in
    let place_is : get_or c.deref-place-items.result.now i 0 ≡ place = ap (λ xs. get_or xs i 0) c.deref-place-items.ensures.value in
    let i_low : i < length grown = omega (arith, c.places-test.true, ap length c.deref-place-items.ensures.value) in
    let p_low : place < length (m.defs node) = c.requires.grown place (has-at place grown i i_low refl) in
    let first_is : c.first-first.result ≡ definitions_before m node = c.first-first.ensures.before ∙ before_first m c.args.outputs.now node c.requires.outputs (omega (arith, c.requires.node)) in
    let l = get_or (m.defs node) place 0 in
    let links = c.row-targets.result.now in
    let links_is : row_at c.args.links.now.rows (definitions_before m node + place) ≡ links =
    ap (λ k. row_at c.args.links.now.rows (k + place)) (sym first_is) ∙ ap (λ k. row_at c.args.links.now.rows (c.first-first.result + k)) (sym place_is) ∙ sym c.row-targets.ensures in
    let are : AreLinks m (held deps) node l links = subst (AreLinks m (held deps) node l) links_is (c.requires.links.each node place c.requires.node p_low) in
    let j = c.targets.target-index in
    let link = get_or links j (0, 0) in
    let ins = table_at o.bottom m.uses c.targets.inputs in
    let outs = table_at o.bottom m.defs c.args.outputs.now in
    let waiting = c.targets.waiting.waiting in
    let so_far = c.targets.invariant in
    record {
      grid = so_far.grid;
      same_nodes = so_far.same_nodes;
      working = sending_done o m laws sys c.solution_laws.ensures.laws (held deps) c.requires.deps.exact node l links are ins outs waiting (locations_at m node (drop (i + 1) grown))
          (subst (λ ls. IsWorking o m (held deps) (EveryBut (held deps) node ls) ins outs waiting) (pending_next m node grown i i_low) so_far.working)
          (λ k d low. so_far.reached k d (omega (arith, low, c.targets-test.false)));
      still = so_far.still;
      paid = so_far.paid;
    }

pub returns-clause-working : goal.returns-clause-working
returns-clause-working g c =
    let o = g.S.Value.Lattice.order in
    let m = g.S.System.meaning c.args.system.now in
    let laws = g.met.S.Value.Lattice.lawful in
    let sys = g.met.S.System.lawful c.args.system.now in
    let deps = c.args.links.now.deps.now in
    let node = c.args.node in
    let grown = c.args.grown.now.items in
    let i = c.places.place-index in
    let ins = table_at o.bottom m.uses c.places.inputs in
    let outs = table_at o.bottom m.defs c.args.outputs.now in
    let waiting = c.places.waiting.waiting in
    let past : length grown < i + 1 = omega (arith, c.places-test.false, ap length c.deref-place-items.ensures.value) in
    working_all o m laws sys c.solution_laws.ensures.laws (held deps) ins outs waiting node (subst (λ ls. IsWorking o m (held deps) (EveryBut (held deps) node ls) ins outs waiting) (pending_none m node grown i past) c.places.invariant.working)
