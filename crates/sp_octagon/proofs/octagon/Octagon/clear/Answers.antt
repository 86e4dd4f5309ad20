use Rattle.std.proofs.Common.{◌≡◌, length, arith}
use Rattle.sp_octagon.specs.Entries.{entries_of}
use Rattle.sp_octagon.specs.Changes.{forgotten}
use Rattle.sp_octagon.proofs.Matrices.{pass-octagon}
use Rattle.sp_octagon.proofs.ChangeLaws.{forgotten-proper}
use Rattle.sp_octagon.proofs.octagon.Octagon.clear.Goals as goal

pub invariant_of-self : goal.invariant_of-self
invariant_of-self c =
    let o = c.args.self.now in
    let room : length c.change_entries.new.cells ≡ 256 = omega (arith, o.facts.room) in
    record {
      facts = pass-octagon o.size c.rows-count.result o.bounds c.change_entries.new.cells (forgotten (entries_of o.bounds) c.args.x) o.facts room
          (forgotten-proper o.size c.args.x (entries_of o.bounds) o.facts.few o.facts.matrix)
          c.rows-count.ensures.rows c.change_entries.ensures.inside c.change_entries.ensures.outside;
    }
