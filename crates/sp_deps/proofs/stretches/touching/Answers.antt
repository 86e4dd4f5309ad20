use Rattle.std.proofs.Common.{◌+◌, ◌<◌, ◌++◌, ◌∷◌, ◌∙◌, [], length, take, ap, sym, refl, get_or, subst, arith, inl}
use Rattle.std.proofs.lemmas.List.{length_push}
use Rattle.std.proofs.lemmas.List.Elements.{All-push}
use Rattle.sp_lattice.specs.System.{AllBelow}
use Rattle.sp_deps.specs.inner.Grouped.{grouped}
use Rattle.sp_deps.proofs.Grouping.{grouped-push}
use Rattle.sp_deps.proofs.Stretching.{Touching, touching_more, part_more}
use Rattle.sp_deps.proofs.stretches.touching.Goals as goal

pub defs-preserved : goal.defs-preserved
defs-preserved g c =
    let s = c.args.system.now in
    let m = g.S.System.meaning s in
    let laws = g.met.S.System.lawful s in
    let defs = c.defs-defs.result.now in
    let i = c.defs.location-index in
    let node = c.nodes.node in
    let heads = c.args.heads.now in
    let head = get_or heads node 0 in
    let low : node < m.nodes = omega (arith, c.nodes-test.true) in
    let below = subst (λ xs. AllBelow m.locations xs) (sym c.defs-defs.ensures) (laws.defs_below node low) in
    let at = c.defs.invariant in
    let location = get_or defs i 0 in
    let is = ap (λ xs. grouped m.locations xs c.push-in-defs.new.self.items) c.in_ok-push.ensures.items
    ∙ ap (grouped m.locations (c.defs.locations.items ++ location ∷ [])) c.in_ok-push-2.ensures.items
    ∙ grouped-push m.locations c.defs.locations.items c.defs.touching.items location head at.paired in
    record {
      low = subst (AllBelow m.locations) (sym c.in_ok-push.ensures.items) (All-push (λ l. l < m.locations) c.defs.locations.items location at.low (below i 0 c.defs-test.true));
      paired = omega (arith, ap length c.in_ok-push.ensures.items, ap length c.in_ok-push-2.ensures.items, length_push c.defs.locations.items location, length_push c.defs.touching.items head, at.paired);
      touching =
          subst (λ rows. Touching m heads rows node (take (i + 1) defs)) (sym is)
          (touching_more m heads (grouped m.locations c.defs.locations.items c.defs.touching.items) node location head (below i 0 c.defs-test.true) refl (take i defs) (take (i + 1) defs) (part_more m defs i 0 location c.defs-test.true refl) at.touching);
    }

pub uses-preserved : goal.uses-preserved
uses-preserved g c =
    let s = c.args.system.now in
    let m = g.S.System.meaning s in
    let laws = g.met.S.System.lawful s in
    let uses = c.uses-uses.result.now in
    let i = c.uses.location-index in
    let node = c.nodes.node in
    let heads = c.args.heads.now in
    let head = get_or heads node 0 in
    let low : node < m.nodes = omega (arith, c.nodes-test.true) in
    let below = subst (λ xs. AllBelow m.locations xs) (sym c.uses-uses.ensures) (laws.uses_below node low) in
    let at = c.uses.invariant in
    let location = get_or uses i 0 in
    let is = ap (λ xs. grouped m.locations xs c.push-in-uses-2.new.self.items) c.in_ok-push-3.ensures.items
    ∙ ap (grouped m.locations (c.uses.locations.items ++ location ∷ [])) c.in_ok-push-4.ensures.items
    ∙ grouped-push m.locations c.uses.locations.items c.uses.touching.items location head at.paired in
    record {
      low = subst (AllBelow m.locations) (sym c.in_ok-push-3.ensures.items) (All-push (λ l. l < m.locations) c.uses.locations.items location at.low (below i 0 c.uses-test.true));
      paired = omega (arith, ap length c.in_ok-push-3.ensures.items, ap length c.in_ok-push-4.ensures.items, length_push c.uses.locations.items location, length_push c.uses.touching.items head, at.paired);
      touching =
          subst (λ rows. Touching m heads rows node (m.defs node)) (sym is)
          (touching_more m heads (grouped m.locations c.uses.locations.items c.uses.touching.items) node location head (below i 0 c.uses-test.true) refl (m.defs node) (m.defs node) (λ l there. inl there) at.touching);
    }
