use Rattle.std.proofs.Common.{sym, subst, arith}
use Rattle.std.specs.List.Sorted.{IsStrictlyIncreasing}
use Rattle.sp_ir.specs.Regions.{is_cell}
use Rattle.sp_ir.specs.Programs.{lowered_of}
use Rattle.sp_effect_scene.specs.Cells.{numbers-rise, numbers-few}
use Rattle.sp_effect_scene.proofs.cells.locations_of.Goals as goal

pub invariant_of-result : goal.invariant_of-result
invariant_of-result c =
    let rs = (lowered_of c.args.lowered.now).regions in
    let few = numbers-few is_cell 0 rs in
    record {
      rises = subst IsStrictlyIncreasing (sym c.in_ok-cells.ensures) (numbers-rise is_cell 0 rs);
      few = rw c.in_ok-cells.ensures (omega (arith, few, c.requires));
    }
