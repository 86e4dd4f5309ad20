use Rattle.std.proofs.Common.{◌≡◌, arith}
use Rattle.sp_check_type_names.proofs.derivations.+measured.Goals as goal

pub all_measured-returns : goal.all_measured-returns
all_measured-returns t c =
    let first : c.types.left ≡ 0 = omega arith in
    (rw first at c.types.invariant.derivations, rw first at c.types.invariant.parts)
