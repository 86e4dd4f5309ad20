use Rattle.sp_octagon.specs.Changes.{constrained}
use Rattle.sp_octagon.specs.Octagons.{entries}
use Rattle.sp_octagon.proofs.Proper.{constrained-proper}
use Rattle.sp_octagon.proofs.Made.{becomes_made}
use Rattle.sp_octagon.proofs.octagon.Octagon.constrain.Goals as goal

pub returns : goal.returns
returns c =
    let o = c.args.self.now in
    becomes_made o c.relate.new.self (constrained (entries o) c.args.x c.args.op c.args.y)
    (constrained-proper o.size c.args.x c.args.op c.args.y (entries o) o.facts.few c.requires.x c.requires.y c.requires.different o.facts.matrix) c.relate.ensures.becomes
