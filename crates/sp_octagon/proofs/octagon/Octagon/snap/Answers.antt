use Rattle.sp_octagon.specs.Changes.{snapped_entries}
use Rattle.sp_octagon.specs.Octagons.{entries}
use Rattle.sp_octagon.proofs.ChangeLaws.{snapped-proper}
use Rattle.sp_octagon.proofs.Made.{becomes_made}
use Rattle.sp_octagon.proofs.octagon.Octagon.snap.Goals as goal

pub returns : goal.returns
returns c =
    let o = c.args.self.now in
    becomes_made o c.raise_to.new.self (snapped_entries c.args.ladder.now (entries o))
    (snapped-proper o.size c.args.ladder.now (entries o) o.facts.few c.raise_to.ensures.ladder o.facts.matrix) c.raise_to.ensures.becomes
