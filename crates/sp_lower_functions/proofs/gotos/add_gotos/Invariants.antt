use Rattle.std.proofs.Common.{◌≡◌, ◌++◌, take}
use Rattle.sp_lower_functions.specs.Functions.{goto_edges}
use Rattle.sp_lower_functions.proofs.gotos.add_gotos.Given as goal

abbrev pub invariant-loop-from : goal.invariant-loop-from
invariant-loop-from l =
    l.edges.items ≡ l.fn.edges.items ++ goto_edges l.labels (take l.from-index l.gotos)
