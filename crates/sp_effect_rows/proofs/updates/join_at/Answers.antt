use Rattle.std.proofs.Common.{ap, arith}
use Rattle.std.specs.Prelude.{slice_set}
use Rattle.sp_effect_rows.proofs.UpdateLaws.{joined-at}
use Rattle.sp_effect_rows.proofs.updates.join_at.Goals as goal

pub returns : goal.returns
returns c = record {
  joined = joined-at c.args.places.now c.args.row.now (slice_set c.args.row.now c.place_of-place.result c.join_into.new.self) c.args.location c.place_of-place.result c.index-row-place.result c.args.slot.now
      c.requires.ascend c.place_of-place.ensures.within (omega (arith, c.requires.long)) c.place_of-place.ensures.found
      (ap (λ x. slice_set c.args.row.now c.place_of-place.result x) c.in_ok-join_into.ensures.joined);
}
