use Rattle.std.proofs.Common.{◌≡◌, ◌++◌, take}
use Rattle.std.specs.List.{flat_map}
use Rattle.sp_ir.specs.Programs.{lowered_of}
use Rattle.sp_ir.specs.View.{node_of}
use Rattle.sp_report.specs.Values.{value_line}
use Rattle.sp_report.proofs.values.add_node_lines.Given as goal

abbrev pub invariant-loop-location : goal.invariant-loop-location
invariant-loop-location g l = l.text.items ≡ l.initial.text.items
    ++ flat_map (value_line l.legend.names.now (lowered_of l.legend.lowered.now) l.locations.cells.items l.at.number (node_of l.at.node.now) (g.V.View.store l.at.store.now)) (take l.location-index l.uses)
