use Rattle.std.proofs.Common.{◌≡◌, ◌∙◌, [], All, replicate, take, sym, ap, subst}
use Rattle.sp_deps.specs.Rows.{Ascends}
use Rattle.sp_deps.specs.inner.Grouped.{grouped}
use Rattle.sp_deps.proofs.Grouping.{gathered-take}
use Rattle.sp_deps.proofs.triples.Growing.into_rows.Goals as goal

laid : (c : goal.After-drop-self-inside-3) → c.in_ok-rows.rows ≡ grouped c.self.inside.nodes c.self.inside.froms.items c.self.inside.pairs.items
laid c =
    let d = c.self.inside in
    let count = c.len.result in
    c.in_ok-rows.ensures ∙ ap (λ froms. grouped d.nodes (take count froms) c.deref-2.result.now) c.deref.ensures.value
    ∙ ap (λ pairs. grouped d.nodes (take count d.froms.items) pairs) c.deref-2.ensures.value
    ∙ ap (λ n. grouped d.nodes (take n d.froms.items) d.pairs.items) (c.len.ensures ∙ d.pairs.ok.0)
    ∙ gathered-take (replicate d.nodes []) d.froms.items d.pairs.items

pub returns-clause-same : goal.returns-clause-same
returns-clause-same c = laid c ∙ c.self.view_is

pub returns-clause-ascending : goal.returns-clause-ascending
returns-clause-ascending c = subst (All Ascends) (sym (laid c)) c.self.invariant.kept.ascending
