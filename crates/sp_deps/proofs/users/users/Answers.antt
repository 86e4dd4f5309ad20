use Rattle.std.proofs.Common.{◌+◌, ◌<◌, ◌++◌, ◌∷◌, ◌∙◌, [], length, take, ap, sym, refl, get_or, subst, arith}
use Rattle.std.proofs.lemmas.List.{length_push}
use Rattle.std.proofs.lemmas.List.Elements.{All-push}
use Rattle.std.specs.List.Sorted.{IsStrictlyIncreasing}
use Rattle.sp_lattice.specs.System.{AllBelow}
use Rattle.sp_deps.specs.inner.Grouped.{grouped}
use Rattle.sp_deps.proofs.Grouping.{grouped-push}
use Rattle.sp_deps.proofs.Using.{Using, using_more}
use Rattle.sp_deps.proofs.users.users.Goals as goal

pub uses-preserved : goal.uses-preserved
uses-preserved g c =
    let s = c.args.system.now in
    let m = g.S.System.meaning s in
    let laws = g.met.S.System.lawful s in
    let uses = c.uses-uses.result.now in
    let i = c.uses.location-index in
    let node = c.nodes.node in
    let low : node < m.nodes = omega (arith, c.nodes-test.true) in
    let rises = subst (λ xs. IsStrictlyIncreasing xs) (sym c.uses-uses.ensures) (laws.uses_ascend node low) in
    let below = subst (λ xs. AllBelow m.locations xs) (sym c.uses-uses.ensures) (laws.uses_below node low) in
    let at = c.uses.invariant in
    let location = get_or uses i 0 in
    let is = ap (λ xs. grouped m.locations xs c.push-in-uses.new.self.items) c.in_ok-push.ensures.items
    ∙ ap (grouped m.locations (c.uses.locations.items ++ location ∷ [])) c.in_ok-push-2.ensures.items
    ∙ grouped-push m.locations c.uses.locations.items c.uses.nodes.items location node at.paired in
    record {
      low = subst (AllBelow m.locations) (sym c.in_ok-push.ensures.items) (All-push (λ l. l < m.locations) c.uses.locations.items location at.low (below i 0 c.uses-test.true));
      paired = omega (arith, ap length c.in_ok-push.ensures.items, ap length c.in_ok-push-2.ensures.items, length_push c.uses.locations.items location, length_push c.uses.nodes.items node, at.paired);
      using = subst (λ rows. Using m rows node (take (i + 1) uses)) (sym is) (using_more m (grouped m.locations c.uses.locations.items c.uses.nodes.items) node location uses i 0 c.uses-test.true rises refl (below i 0 c.uses-test.true) at.using);
    }
