-- What a derivation of the code stands for.
use Rattle.sp_types.specs.View.{type_of}
use Rattle.sp_types.specs.Types.{Parameters, untold, listed}
use Rattle.std.specs.Prelude.{Option, None, Some, Vec, map}
use Rattle.std.specs.declared.alloc.Global.{Global}
use Rattle.sp_types.specs.View.{types}
use Rattle.sp_types.specs.declared.ctype.CType.{CType as CodeType}
use Rattle.sp_check_type_names.specs.declared.derivations.Derivation.{Derivation as CodeDerivation}
use Rattle.sp_check_type_names.specs.declared.derivations.Derivation.TheVariants.{Pointer, Array, Function}
use Rattle.sp_check_type_names.specs.Derivations.{Derivation, to_pointer, to_array, to_function}

abbrev pub parameters_seen : Option (Vec CodeType Global) → Parameters
parameters_seen None = untold
parameters_seen (Some ts) = listed (types (map type_of ts.items))

abbrev pub derivation_of : CodeDerivation → Derivation
derivation_of Pointer = to_pointer
derivation_of (Array n p) = to_array n p
derivation_of (Function ps dots p) = to_function (parameters_seen ps) dots p
