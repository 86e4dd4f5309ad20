use Rattle.std.proofs.Common.{rules, FitsSigned, ◌≡◌, length, refl, arith}
use Rattle.std.specs.Int.{w128}
use Rattle.std.proofs.lemmas.Int.{to_z-of_z}
use Rattle.sp_octagon.specs.Entries.{entries_of}
use Rattle.sp_octagon.specs.Changes.{moved}
use Rattle.sp_octagon.proofs.Matrices.{pass-octagon}
use Rattle.sp_octagon.proofs.ChangeLaws.{moved-proper}
use Rattle.sp_octagon.proofs.octagon.Octagon.shift.Goals as goal

pub invariant_of-self : goal.invariant_of-self
invariant_of-self c =
    let fits : FitsSigned w128 c.args.by = search rules in
    let o = c.args.self.now in
    let room : length c.change_entries.new.cells ≡ 256 = omega (arith, o.facts.room) in
    record {
      facts = pass-octagon o.size c.rows-count.result o.bounds c.change_entries.new.cells (moved (entries_of o.bounds) c.args.x c.args.by) o.facts room
          (moved-proper o.size c.args.x c.args.by (entries_of o.bounds) o.facts.few o.facts.matrix)
          c.rows-count.ensures.rows (λ r k hr hk. simp to_z-of_z at (c.change_entries.ensures.inside r k hr hk)) c.change_entries.ensures.outside;
    }

pub returns : goal.returns
returns c =
    let fits : FitsSigned w128 c.args.by = search rules in
    record { becomes = record { size = refl; entries_are = λ r k hr hk. simp to_z-of_z at (c.change_entries.ensures.inside r k (omega (arith, c.rows-count.ensures.rows)) (omega (arith, c.rows-count.ensures.rows))) } }
