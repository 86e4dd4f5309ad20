use Rattle.std.proofs.Common.{◌∙◌, ap, ◌||◌}
use Rattle.sp_base_sets.specs.Sets.{has}
use Rattle.sp_defuse.specs.Sources.{stands_at}
use Rattle.sp_defuse.proofs.Graphs.{one-place, either-way}
use Rattle.sp_defuse.proofs.places.add_place.Goals as goal

pub returns-in_ok-add : goal.returns-in_ok-add
returns-in_ok-add c = λ j. c.in_ok-add.ensures.numbers j
    ∙ ap (λ b. b || has j c.args.places.now) (one-place c.args.nodes.now c.args.node c.in-Some.place c.requires.ascend c.in-Some.ensures.within c.in-Some.ensures.found j)
    ∙ either-way (stands_at c.args.nodes.now c.args.node j) (has j c.args.places.now)
