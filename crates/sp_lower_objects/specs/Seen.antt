-- The function behind a reference.
use Rattle.std.specs.Borrow.{Bor}
use Rattle.sp_types.specs.Programs.{Function, function_of}
use Rattle.sp_types.specs.declared.program.FunctionDef.{FunctionDef}

abbrev pub seen_function : Bor FunctionDef → Function
seen_function f = function_of f.now
