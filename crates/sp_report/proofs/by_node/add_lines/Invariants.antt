use Rattle.std.proofs.Common.{◌≡◌, ◌++◌, map}
use Rattle.std.specs.List.{flat_map}
use Rattle.sp_report.specs.ByNode.{line_of_node}
use Rattle.sp_report.specs.Lines.{seen}
use Rattle.sp_report.proofs.by_node.add_lines.Given as goal

abbrev pub invariant-loop-line : goal.invariant-loop-line
invariant-loop-line l = l.text.items ≡ l.initial.text.items
    ++ flat_map (line_of_node l.fn.number) (map seen (map (λ x. x.now) l.yielded))
