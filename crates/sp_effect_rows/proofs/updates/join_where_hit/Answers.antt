use Rattle.sp_effect_rows.specs.Updates.{store_of}
use Rattle.sp_effect_rows.proofs.UpdateLaws.{hit-next}
use Rattle.sp_effect_rows.proofs.updates.join_where_hit.Goals as goal

pub join_from-requires-clause-there : goal.join_from-requires-clause-there
join_from-requires-clause-there g c = c.requires.there c.loop-target.target-index _ c.loop-target-test.true

pub loop-target-preserved : goal.loop-target-preserved
loop-target-preserved g c =
    λ k. hit-next (g.H.Stores.reach c.args.to.now).hits (g.H.Stores.slots c.args.to.now) c.args.targets.now c.loop-target.target-index _ (store_of c.args.places.now c.args.row.now k) (store_of c.args.places.now c.loop-target.row k) (store_of c.args.places.now c.join_from.new.row k) k
    c.loop-target-test.true (c.loop-target.invariant k) (c.in_ok-join_from.ensures.joined k)
