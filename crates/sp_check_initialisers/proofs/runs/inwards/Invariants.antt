use Rattle.std.proofs.Common.{◌≡◌, map}
use Rattle.sp_types.specs.View.{struct_of}
use Rattle.sp_check_initialisers.specs.InitView.{init_of, part_of}
use Rattle.sp_check_initialisers.specs.Runs.{inwards}
use Rattle.sp_check_initialisers.proofs.runs.inwards.Given as goal

abbrev pub invariant-levels : goal.invariant-levels
invariant-levels l =
    inwards (map struct_of l.structs) (init_of l.init) l.levels (part_of l.part)
    ≡ inwards (map struct_of l.structs) (init_of l.init) l.fn.levels (part_of l.fn.part)

abbrev pub decreases-levels : goal.decreases-levels
decreases-levels l = l.levels
