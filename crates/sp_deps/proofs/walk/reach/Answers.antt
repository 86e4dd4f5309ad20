use Rattle.std.proofs.Common.{◌≡◌, ◌<◌, ◌∙◌, length, true, false, refl, sym, arith}
use Rattle.std.specs.Vec.{with_item}
use Rattle.std.proofs.lemmas.List.{get_or_default}
use Rattle.sp_deps.specs.inner.Walk.{reached}
use Rattle.sp_deps.proofs.Walks.{listed_found, listed_waiting}
use Rattle.sp_deps.proofs.walk.reach.Goals as goal

pub returns-in_ok-push-clause-listed : goal.returns-in_ok-push-clause-listed
returns-in_ok-push-clause-listed g c =
    let m = g.S.System.meaning c.args.system.now in
    let w = c.args.walk.now in
    let n = c.args.node in
    let low : n < length w.is_reached.items = omega (arith, c.requires.listed.nodes, c.requires.node) in
    let new : reached w n ≡ false = get_or_default w.is_reached.items n false c.index.result.now low ∙ sym c.index.ensures ∙ c.if-index.false in
    listed_found m c.args.location w (record w { is_reached = with_item w.is_reached n true; found = c.push.new.self }) n c.requires.node c.requires.listed new refl
    (sym c.defines.ensures ∙ c.if-defines.true) refl c.in_ok-push.ensures.items

pub returns-in_ok-push-2-clause-listed : goal.returns-in_ok-push-2-clause-listed
returns-in_ok-push-2-clause-listed g c =
    let m = g.S.System.meaning c.args.system.now in
    let w = c.args.walk.now in
    let n = c.args.node in
    let low : n < length w.is_reached.items = omega (arith, c.requires.listed.nodes, c.requires.node) in
    let new : reached w n ≡ false = get_or_default w.is_reached.items n false c.index.result.now low ∙ sym c.index.ensures ∙ c.if-index.false in
    listed_waiting m c.args.location w (record w { is_reached = with_item w.is_reached n true; waiting = c.push-else-defines.new.self }) n c.requires.node c.requires.listed new refl
    (sym c.defines.ensures ∙ c.if-defines.false) c.in_ok-push-2.ensures.items refl
