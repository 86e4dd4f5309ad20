use Rattle.std.proofs.Common.{◌≡◌, ◌++◌, ◌∷◌, ◌∙◌, [], set, sym, ap, subst}
use Rattle.std.proofs.lemmas.List.{get_or_default}
use Rattle.sp_graph.specs.Rows.{Joins, Between}
use Rattle.sp_graph.proofs.Joining.{edge_joins}
use Rattle.sp_graph.proofs.rows.join.Goals as goal

pub returns-in_ok-push : goal.returns-in_ok-push
returns-in_ok-push c =
    let rows = c.args.rows.now.items in
    let edge = c.args.edge in
    let nodes = c.args.nodes.now in
    let from_in = sym c.has.ensures ∙ c.if-has.true in
    let to_in = sym c.has-then-has.ensures ∙ c.if-has-2.true in
    let low = c.requires edge.to to_in in
    let old_is = c.index_mut.ensures.value ∙ get_or_default rows edge.to c.index_mut.result.now [] low in
    subst (λ xs. Joins (λ e. (e ≡ edge) × Between nodes e) rows (set rows edge.to xs)) (sym (c.in_ok-push.ensures ∙ ap (λ xs. xs ++ edge ∷ []) old_is)) (edge_joins nodes rows edge low (from_in, to_in))
