use Rattle.std.proofs.Common.{◌≡◌, map}
use Rattle.std.specs.Vec.{vec_len}
use Rattle.sp_types.specs.View.{type_of, struct_of}
use Rattle.sp_check_type_names.specs.Derivations.{derived}
use Rattle.sp_check_type_names.specs.DerivationView.{derivation_of}
use Rattle.sp_check_type_names.proofs.derivations.derived.Given as goal

abbrev pub invariant-derivations : goal.invariant-derivations
invariant-derivations l =
    derived (map struct_of l.structs) (map derivation_of l.derivations.items) (type_of l.of)
    ≡ derived (map struct_of l.structs) (map derivation_of l.fn.derivations.items) (type_of l.fn.base)

abbrev pub decreases-derivations : goal.decreases-derivations
decreases-derivations l = vec_len l.derivations
