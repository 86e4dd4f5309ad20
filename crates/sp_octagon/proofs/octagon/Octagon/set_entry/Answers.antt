use Rattle.std.proofs.Common.{rules, FitsSigned, length, ◌≡◌, refl, arith}
use Rattle.std.specs.Int.{w128}
use Rattle.std.proofs.lemmas.Int.{to_z-of_z}
use Rattle.sp_octagon.proofs.Matrices.{pair-octagon, bound-in_range}
use Rattle.sp_octagon.proofs.octagon.Octagon.set_entry.Goals as goal

pub invariant_of-self : goal.invariant_of-self
invariant_of-self c =
    let fits : FitsSigned w128 c.args.to = search rules in
    let o = c.args.self.now in
    let room : length c.set_pair.new.cells ≡ 256 = omega (arith, o.facts.room) in
    record {
      facts = pair-octagon o.size c.args.row c.args.column o.bounds c.set_pair.new.cells (λ z. c.args.to) o.facts room c.requires.row c.requires.column c.requires.different
          (λ z h. bound-in_range c.args.to c.requires.low c.requires.high)
          (λ i j hi hj. simp to_z-of_z at (c.set_pair.ensures.written i j hi hj));
    }

pub returns : goal.returns
returns c =
    let fits : FitsSigned w128 c.args.to = search rules in
    let few = c.args.self.now.facts.few in
    record { becomes = record { size = refl; entries_are = λ i j hi hj. simp to_z-of_z at (c.set_pair.ensures.written i j (omega (arith, few)) (omega (arith, few))) } }
