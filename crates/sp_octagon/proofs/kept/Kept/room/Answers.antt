use Rattle.std.proofs.Common.{◌∙◌, ap, sym, arith}
use Rattle.sp_octagon.specs.Kept.{half_of}
use Rattle.sp_octagon.proofs.Halves.{kept-length}
use Rattle.sp_octagon.proofs.kept.Kept.room.Goals as goal

pub returns : goal.returns
returns c =
    let room = kept-length c.args.self.now c.self.inside.bounds.items (ap half_of (sym c.self.view_is) ∙ c.self.invariant.half) in
    omega (arith, c.len.ensures, room)
