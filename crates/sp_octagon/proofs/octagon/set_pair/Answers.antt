use Rattle.std.proofs.Common.{rules, FitsSigned}
use Rattle.std.specs.Int.{w128}
use Rattle.std.proofs.lemmas.Int.{to_z-of_z}
use Rattle.sp_octagon.proofs.Matrices.{pair_written}
use Rattle.sp_octagon.proofs.octagon.set_pair.Goals as goal

pub returns : goal.returns
returns c =
    let fits : FitsSigned w128 c.args.to = search rules in
    record {
      written = λ i j hi hj.
          simp to_z-of_z (rw (c.negative.ensures, c.negative-2.ensures) (pair_written c.args.cells.now c.args.row c.args.column i j c.args.to c.requires.room c.requires.row c.requires.column hi hj));
    }
