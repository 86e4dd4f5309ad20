use Rattle.std.proofs.Common.{◌∙◌}
use Rattle.std.proofs.lemmas.List.Kept.{AllPairs-from_increasing}
use Rattle.sp_base_sets.proofs.Members.{has_searched, search_of}
use Rattle.sp_effect_entry.proofs.joining.is_place.Goals as goal

pub returns : goal.returns
returns c =
    let x = c.args.location in
    let xs = c.args.places.now in
    let r = c.binary_search.result in
    c.is_ok.ensures.value ∙ has_searched xs x r (search_of xs x r (AllPairs-from_increasing xs c.requires) c.binary_search.ensures.position)
