use Rattle.std.proofs.Common.{◌∙◌, [], ◌∷◌, ◌++◌, ap, arith}
use Rattle.std.proofs.lemmas.List.{get_or_default}
use Rattle.sp_defuse.proofs.Grouping.{group-pushed, group-absent, group-unlisted}
use Rattle.sp_defuse.proofs.groups.add_edge.Goals as goal

pub returns-in_ok-push-clause-each : goal.returns-in_ok-push-clause-each
returns-in_ok-push-clause-each c = group-pushed c.args.nodes.now c.args.places.now c.requires.nodes_ascend c.requires.places_ascend c.requires.low c.args.groups.now.items c.args.edge
    c.in-Some-find_place.at c.in-Some.place c.push.new.self c.requires.long c.in-Some-find_place.ensures.within c.in-Some-find_place.ensures.found c.in-Some.ensures.within c.in-Some.ensures.found
    (c.in_ok-push.ensures ∙ ap (λ xs. xs ++ c.args.edge ∷ []) (c.index_mut.ensures.value ∙ get_or_default c.args.groups.now.items c.in-Some-find_place.at c.index_mut.result.now [] (omega (arith, c.in-Some-find_place.ensures.within, c.requires.long))))

pub returns-in_default-find_place-clause-each : goal.returns-in_default-find_place-clause-each
returns-in_default-find_place-clause-each c = group-unlisted c.args.nodes.now c.args.places.now c.requires.nodes_ascend c.requires.places_ascend c.requires.low c.args.groups.now.items c.args.edge
    c.in-Some.place c.in-Some.ensures.within c.in-Some.ensures.found c.in_default-find_place.ensures.absent

pub returns-in_default-clause-each : goal.returns-in_default-clause-each
returns-in_default-clause-each c = group-absent c.args.nodes.now c.args.places.now c.requires.nodes_ascend c.requires.places_ascend c.requires.low c.args.groups.now.items c.args.edge
    c.in_default.ensures.absent
