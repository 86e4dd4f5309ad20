-- The plain access that one of the code stands for.
use Rattle.sp_types.specs.View.{type_of}
use Rattle.sp_ir.specs.View.{expression_of}
use Rattle.sp_effect_checks.specs.declared.accesses.Access.{Access as CodeAccess}
use Rattle.sp_effect_checks.specs.Accesses.{Access}

abbrev pub access_of : CodeAccess → Access
access_of x = record { pointer = expression_of x.pointer.now; type = type_of x.of.now }
