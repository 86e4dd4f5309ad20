-- The functions that a pointer calls.
use Rattle.std.specs.Prelude.{ℕ, nat_eq, cond, length, Option, Some, None, slice_get}
use Rattle.sp_ir.specs.Regions.{Region}
use Rattle.sp_ir.specs.Programs.{Object, Code, Lowered}

-- the function that an object is, where it is defined
abbrev pub code_of_object : Option Object → Option ℕ
code_of_object None = None
code_of_object (Some o) = o.code

abbrev pub code_at : Lowered → Option Region → Option ℕ
code_at p None = None
code_at p (Some r) = code_of_object (slice_get p.objects r.object)

abbrev pub with_formals : ℕ → ℕ → Option Code → Option ℕ
with_formals f count None = None
with_formals f count (Some c) = cond (nat_eq (length c.formals) count) (Some f) None

abbrev pub taking : Lowered → ℕ → Option ℕ → Option ℕ
taking p count None = None
taking p count (Some f) = with_formals f count (slice_get p.functions f)

-- the defined function of as many parameters at a region
abbrev pub function_at : Lowered → ℕ → ℕ → Option ℕ
function_at p r count = taking p count (code_at p (slice_get p.regions r))
