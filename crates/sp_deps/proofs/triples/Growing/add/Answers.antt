use Rattle.std.proofs.Common.{◌≡◌, ◌<◌, ◌++◌, ◌∷◌, ◌∙◌, [], ℕ, All, true, length, take, sym, ap, subst, arith}
use Rattle.sp_lattice.specs.Flat.{row_at}
use Rattle.sp_deps.specs.Rows.{total, is_before, most_dependencies}
use Rattle.sp_deps.specs.inner.Grouped.{added, grouped}
use Rattle.sp_deps.specs.inner.Kept.{IsGrowing}
use Rattle.sp_deps.proofs.Grouping.{length-grouped}
use Rattle.sp_deps.proofs.Growing.{growing_failed, growing_added, same_added}
use Rattle.sp_deps.proofs.triples.Growing.add.Goals as goal

pub invariant_of-self-in_err-push-2 : goal.invariant_of-self-in_err-push-2
invariant_of-self-in_err-push-2 c =
    let d = c.self.inside in
    let froms = c.in_ok-push.ensures.items ∙ ap (λ ns. ns ++ c.args.from ∷ []) (c.truncate.ensures.items ∙ ap (λ n. take n d.froms.items) (c.len.ensures ∙ d.pairs.ok.0)) in
    let there : c.args.from < d.nodes = omega (arith, c.requires.there, ap length c.self.view_is, length-grouped d.nodes d.froms.items d.pairs.items) in
    subst (λ ns. IsGrowing d.nodes ns c.push-2.new.self.items) (sym froms)
    (subst (IsGrowing d.nodes (take (length d.pairs.items) d.froms.items ++ c.args.from ∷ [])) (sym c.in_err-push-2.ensures.items) (growing_failed d.nodes d.froms.items d.pairs.items c.args.from c.self.invariant there))

pub invariant_of-self-2 : goal.invariant_of-self-2
invariant_of-self-2 c =
    let d = c.self.inside in
    let pair : ℕ × ℕ = (c.args.location, c.args.to) in
    let froms = c.in_ok-push.ensures.items ∙ ap (λ ns. ns ++ c.args.from ∷ []) (c.truncate.ensures.items ∙ ap (λ n. take n d.froms.items) (c.len.ensures ∙ d.pairs.ok.0)) in
    let there : c.args.from < d.nodes = omega (arith, c.requires.there, ap length c.self.view_is, length-grouped d.nodes d.froms.items d.pairs.items) in
    let room = subst (λ rows. total rows < most_dependencies) (sym c.self.view_is) c.requires.room in
    let last = subst (λ rows. All (λ p. is_before p pair ≡ true) (row_at rows c.args.from)) (sym c.self.view_is) c.requires.last in
    subst (λ ns. IsGrowing d.nodes ns c.push-2.new.self.items) (sym froms)
    (subst (IsGrowing d.nodes (take (length d.pairs.items) d.froms.items ++ c.args.from ∷ [])) (sym c.in_ok-push-2.ensures.items) (growing_added d.nodes d.froms.items d.pairs.items c.args.from c.self.invariant there pair room last))

pub returns : goal.returns
returns c =
    let d = c.self.inside in
    let pair : ℕ × ℕ = (c.args.location, c.args.to) in
    let froms = c.in_ok-push.ensures.items ∙ ap (λ ns. ns ++ c.args.from ∷ []) (c.truncate.ensures.items ∙ ap (λ n. take n d.froms.items) (c.len.ensures ∙ d.pairs.ok.0)) in
    let there : c.args.from < d.nodes = omega (arith, c.requires.there, ap length c.self.view_is, length-grouped d.nodes d.froms.items d.pairs.items) in
    ap (λ ns. grouped d.nodes ns c.push-2.new.self.items) froms ∙ ap (grouped d.nodes (take (length d.pairs.items) d.froms.items ++ c.args.from ∷ [])) c.in_ok-push-2.ensures.items
    ∙ same_added d.nodes d.froms.items d.pairs.items c.args.from c.self.invariant there pair ∙ ap (λ rows. added rows c.args.from pair) c.self.view_is
