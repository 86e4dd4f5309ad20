use Rattle.std.proofs.Common.{◌≡◌, ◌<◌, ◌∙◌, false, true, ◌∷◌, ◌++◌, [], length, get_or, sym, ap, arith}
use Rattle.std.specs.List.{slice_range}
use Rattle.std.proofs.lemmas.List.{get_or_default}
use Rattle.sp_lattice.specs.System.{has}
use Rattle.sp_sparse.proofs.Windows.{window-has, window-pushed, pushed, window-moved, room_left, added_new, added_old}
use Rattle.sp_sparse.proofs.waiting.WaitingNodes.add.Goals as goal

pub returns-then-index-clause-added : goal.returns-then-index-clause-added
returns-then-index-clause-added c =
    let b = c.self.inside.buffer.items in
    let marks = c.self.inside.is_waiting.items in
    let node = c.args.node in
    let waiting = c.args.self.now.waiting in
    let low : node < length marks = omega (arith, c.requires, ap (λ w. w.nodes) c.self.view_is) in
    let marked : get_or marks node false ≡ true = get_or_default marks node false c.index.result.now low ∙ sym c.index.ensures ∙ c.if-index.true in
    let there : has node waiting ≡ true = ap (λ w. has node w.waiting) (sym c.self.view_is) ∙ window-has b c.self.inside.first c.self.inside.end marks c.self.invariant node ∙ marked in
    added_old waiting node there

pub overflow_add-self : goal.overflow_add-self
overflow_add-self c =
    let marks = c.self.inside.is_waiting.items in
    let low : c.args.node < length marks = omega (arith, c.requires, ap (λ w. w.nodes) c.self.view_is) in
    let idle : get_or marks c.args.node false ≡ false = get_or_default marks c.args.node false c.index.result.now low ∙ sym c.index.ensures ∙ c.if-index.false in
    let left = room_left c.self.inside.buffer.items c.self.inside.first c.self.inside.end marks c.args.node c.self.invariant low idle in
    let room = c.make_room-first.ensures.room (omega (arith, left, c.self.inside.buffer.ok.0)) in
    omega (arith, room, c.self.inside.buffer.small)

pub index_mut-requires : goal.index_mut-requires
index_mut-requires c =
    let marks = c.self.inside.is_waiting.items in
    let low : c.args.node < length marks = omega (arith, c.requires, ap (λ w. w.nodes) c.self.view_is) in
    let idle : get_or marks c.args.node false ≡ false = get_or_default marks c.args.node false c.index.result.now low ∙ sym c.index.ensures ∙ c.if-index.false in
    let left = room_left c.self.inside.buffer.items c.self.inside.first c.self.inside.end marks c.args.node c.self.invariant low idle in
    let room = c.make_room-first.ensures.room (omega (arith, left, c.self.inside.buffer.ok.0)) in
    omega (arith, room, c.make_room-first.ensures.length)

pub invariant_of-self : goal.invariant_of-self
invariant_of-self c =
    let b = c.self.inside.buffer.items in
    let marks = c.self.inside.is_waiting.items in
    let low : c.args.node < length marks = omega (arith, c.requires, ap (λ w. w.nodes) c.self.view_is) in
    let idle : get_or marks c.args.node false ≡ false = get_or_default marks c.args.node false c.index.result.now low ∙ sym c.index.ensures ∙ c.if-index.false in
    let left = room_left b c.self.inside.first c.self.inside.end marks c.args.node c.self.invariant low idle in
    let room = c.make_room-first.ensures.room (omega (arith, left, c.self.inside.buffer.ok.0)) in
    let new = c.make_room-first.new.buffer in
    let within : c.make_room-first.result.1 < length new.items = omega (arith, room, c.make_room-first.ensures.length, new.ok.0) in
    let moved = window-moved b new.items c.self.inside.first c.self.inside.end c.make_room-first.result.0 c.make_room-first.result.1 marks c.self.invariant c.make_room-first.ensures.ordered (omega (arith, within)) (omega (arith, c.make_room-first.ensures.length, new.ok.0, c.self.inside.buffer.ok.0)) c.make_room-first.ensures.same in
    window-pushed new.items c.make_room-first.result.0 c.make_room-first.result.1 marks moved c.args.node low idle within

pub returns-clause-added : goal.returns-clause-added
returns-clause-added c =
    let b = c.self.inside.buffer.items in
    let marks = c.self.inside.is_waiting.items in
    let node = c.args.node in
    let waiting = c.args.self.now.waiting in
    let low : node < length marks = omega (arith, c.requires, ap (λ w. w.nodes) c.self.view_is) in
    let idle : get_or marks node false ≡ false = get_or_default marks node false c.index.result.now low ∙ sym c.index.ensures ∙ c.if-index.false in
    let left = room_left b c.self.inside.first c.self.inside.end marks node c.self.invariant low idle in
    let room = c.make_room-first.ensures.room (omega (arith, left, c.self.inside.buffer.ok.0)) in
    let new = c.make_room-first.new.buffer in
    let within : c.make_room-first.result.1 < length new.items = omega (arith, room, c.make_room-first.ensures.length, new.ok.0) in
    let moved = window-moved b new.items c.self.inside.first c.self.inside.end c.make_room-first.result.0 c.make_room-first.result.1 marks c.self.invariant c.make_room-first.ensures.ordered (omega (arith, within)) (omega (arith, c.make_room-first.ensures.length, new.ok.0, c.self.inside.buffer.ok.0)) c.make_room-first.ensures.same in
    let is_window : slice_range b c.self.inside.first c.self.inside.end ≡ waiting = ap (λ w. w.waiting) c.self.view_is in
    let absent : has node waiting ≡ false = ap (λ xs. has node xs) (sym is_window) ∙ window-has b c.self.inside.first c.self.inside.end marks c.self.invariant node ∙ idle in
    added_new waiting _ node absent
    (pushed new.items c.make_room-first.result.0 c.make_room-first.result.1 marks moved node low idle within ∙ ap (λ xs. xs ++ node ∷ []) (c.make_room-first.ensures.same ∙ is_window))
