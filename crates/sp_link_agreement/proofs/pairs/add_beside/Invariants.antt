use Rattle.std.proofs.Common.{◌≡◌, map, drop}
use Rattle.indexmap.specs.IndexSet.{insert_all}
use Rattle.sp_link_agreement.specs.Inner.{same_pair, beside}
use Rattle.sp_link_agreement.proofs.pairs.add_beside.Given as goal

abbrev pub invariant-found : goal.invariant-found
invariant-found l =
    insert_all same_pair l.pairs.keys (map (beside l.pair) (drop l.i l.found))
    ≡ insert_all same_pair l.initial.pairs.keys (map (beside l.pair) l.found)
