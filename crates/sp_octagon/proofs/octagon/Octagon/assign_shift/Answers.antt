use Rattle.std.proofs.Common.{rules, FitsSigned}
use Rattle.std.specs.Int.{w128}
use Rattle.std.proofs.lemmas.Int.{to_z-of_z}
use Rattle.sp_octagon.specs.Changes.{assigned}
use Rattle.sp_octagon.specs.Octagons.{entries}
use Rattle.sp_octagon.proofs.Proper.{assigned-proper}
use Rattle.sp_octagon.proofs.Made.{becomes_made}
use Rattle.sp_octagon.proofs.octagon.Octagon.assign_shift.Goals as goal

pub returns : goal.returns
returns c =
    let fits : FitsSigned w128 c.args.k = search rules in
    let o = c.args.self.now in
    let becomes = simp to_z-of_z at c.assign.ensures in
    becomes_made o c.assign.new.self (assigned (entries o) c.args.x c.args.y c.args.k)
    (assigned-proper o.size c.args.x c.args.y c.args.k (entries o) o.facts.few c.requires.x c.requires.y c.requires.low c.requires.high o.facts.matrix) becomes
