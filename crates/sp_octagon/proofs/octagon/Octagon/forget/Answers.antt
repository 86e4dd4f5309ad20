use Rattle.sp_octagon.specs.Changes.{forgotten}
use Rattle.sp_octagon.specs.Octagons.{entries}
use Rattle.sp_octagon.proofs.ChangeLaws.{forgotten-proper}
use Rattle.sp_octagon.proofs.Made.{becomes_made}
use Rattle.sp_octagon.proofs.octagon.Octagon.forget.Goals as goal

pub returns : goal.returns
returns c =
    let o = c.args.self.now in
    becomes_made o c.clear.new.self (forgotten (entries o) c.args.x) (forgotten-proper o.size c.args.x (entries o) o.facts.few o.facts.matrix) c.clear.ensures
