use Rattle.std.proofs.Common.{◌≡◌, map, take}
use Rattle.sp_report.specs.Report.{lines_of}
use Rattle.sp_report.specs.Lines.{seen}
use Rattle.sp_report.proofs.lines.lines_of.Given as goal

abbrev pub invariant-loop-alarm : goal.invariant-loop-alarm
invariant-loop-alarm l = map seen l.lines.keys ≡ lines_of l.names (take l.alarm-index l.alarms)
