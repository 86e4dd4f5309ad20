use Rattle.std.proofs.Common.{◌≡◌, ◌++◌, drop, map}
use Rattle.sp_ir.specs.Programs.{lowered_of}
use Rattle.sp_report.specs.Values.{values_from}
use Rattle.sp_report.proofs.values.print_values.Given as goal

abbrev pub invariant-loop-k : goal.invariant-loop-k
invariant-loop-k g l =
    l.text.items ++ values_from l.names (lowered_of l.lowered) l.locations.cells.items (g.I.Inputs.given l.inputs) (map (λ u. u.items) l.uses) l.k (drop l.k l.nodes)
    ≡ values_from l.names (lowered_of l.lowered) l.locations.cells.items (g.I.Inputs.given l.inputs) (map (λ u. u.items) l.uses) 0 l.nodes
