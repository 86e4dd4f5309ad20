use Rattle.std.proofs.Common.{◌≡◌, ◌++◌, take, map}
use Rattle.std.specs.List.{flat_map}
use Rattle.sp_ir.specs.View.{expression_of}
use Rattle.sp_effect_checks.specs.Accesses.{accesses_in}
use Rattle.sp_effect_checks.specs.View.{access_of}
use Rattle.sp_effect_checks.proofs.accesses.add_list.Given as goal

abbrev pub invariant-loop-expr : goal.invariant-loop-expr
invariant-loop-expr l = map access_of l.found.items ≡ map access_of l.initial.found.items
    ++ flat_map accesses_in (map expression_of (take l.expr-index l.exprs))
