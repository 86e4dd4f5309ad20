use Rattle.std.proofs.Common.{map}
use Rattle.sp_types.specs.View.{type_of}
use Rattle.sp_check_primaries.proofs.Pairwise.{all_paired}
use Rattle.sp_check_primaries.proofs.composites.+composite.Goals as goal

pub composites-returns : goal.composites-returns
composites-returns t c =
    all_paired (map type_of c.parameters.all.items) c.args.left.now c.args.right.now c.parameters.i c.parameters-test.false c.parameters.invariant
