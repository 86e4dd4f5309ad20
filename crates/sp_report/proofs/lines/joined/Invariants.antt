use Rattle.std.proofs.Common.{◌≡◌, map}
use Rattle.std.specs.List.{flat_map}
use Rattle.sp_report.specs.Report.{line_text}
use Rattle.sp_report.specs.Lines.{seen}
use Rattle.sp_report.proofs.lines.joined.Given as goal

abbrev pub invariant-loop-line : goal.invariant-loop-line
invariant-loop-line l = l.text.items ≡ flat_map line_text (map seen (map (λ x. x.now) l.yielded))
