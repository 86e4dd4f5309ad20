-- How a call that lowers two operands ends, unless it wants memory.
use Rattle.std.specs.Prelude.{◌≡◌, Result, IfOk, List, map, Vec}
use Rattle.std.specs.declared.alloc.AllocError.{AllocError}
use Rattle.std.specs.declared.alloc.Global.{Global}
use Rattle.sp_ir.specs.declared.expr.Expr.{Expr}
use Rattle.sp_ir.specs.declared.expr.Lvalue.{Lvalue as CodeLvalue}
use Rattle.sp_ir.specs.Commands.{Expression, Lvalue}
use Rattle.sp_ir.specs.View.{expression_of, lvalue_of}
use Rattle.sp_lower_draft.specs.Draft.{Draft, Left}

-- the two values are these
abbrev pub GivesBoth : Result (Expr × Expr) AllocError → Draft → Left (Expression × Expression)
    → Type 0
GivesBoth result new expected = IfOk result (λ x. (new ≡ expected.after)
    × (expression_of x.0 ≡ expected.pure.0) × (expression_of x.1 ≡ expected.pure.1))

-- the lvalue and the value are these
abbrev pub GivesSides : Result (CodeLvalue × Expr) AllocError → Draft → Left (Lvalue × Expression)
    → Type 0
GivesSides result new expected = IfOk result (λ x. (new ≡ expected.after)
    × (lvalue_of x.0 ≡ expected.pure.0) × (expression_of x.1 ≡ expected.pure.1))

-- the callee and the arguments are these
abbrev pub GivesCall : Result (Expr × Vec Expr Global) AllocError → Draft
    → Left (Expression × List Expression) → Type 0
GivesCall result new expected = IfOk result (λ x. (new ≡ expected.after)
    × (expression_of x.0 ≡ expected.pure.0)
    × (map expression_of x.1.items ≡ expected.pure.1))
