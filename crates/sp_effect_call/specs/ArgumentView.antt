-- What contracts see of an argument.
use Rattle.sp_value.specs.Slots.{known_of}
use Rattle.sp_effect_call.specs.declared.passed.Argument.{Argument}
use Rattle.sp_effect_call.specs.Arguments.{Evaluated}

abbrev pub evaluated_of : Argument → Evaluated
evaluated_of x = record { struct_number = x.struct_number; known = known_of x.value }
