use Rattle.std.proofs.Common.{map, ap, ◌∙◌}
use Rattle.std.specs.List.{position_from}
use Rattle.indexmap.specs.IndexMap.{get}
use Rattle.sp_link_agreement.specs.Depths.{tables}
use Rattle.sp_link_agreement.specs.Inner.{same_entity}
use Rattle.sp_link_structs.proofs.NumberLaws.{matched_is}
use Rattle.sp_link_structs.proofs.numbers.number.Goals as goal

pub returns : goal.returns
returns c =
    matched_is (tables c.args.units.now) c.args.all.now c.args.taken.now c.in_ok-structs.structs.items
    (get same_entity c.in_ok-stand_ins.stand_ins) (get same_entity c.in_ok-places.places)
    c.requires c.in_ok-structs.ensures c.in_ok-stand_ins.ensures
    (λ x. c.in_ok-places.ensures x ∙ ap (position_from (same_entity x) 0) c.deref.ensures.value)
    (map (λ ns. ns.items) c.in_ok-numbers.numbers.items) c.in_ok-numbers.ensures
