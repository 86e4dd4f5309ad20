use Rattle.std.proofs.Common.{◌≡◌, ◌++◌, take}
use Rattle.sp_ir.specs.Programs.{lowered_of}
use Rattle.sp_report.specs.Values.{more_targets}
use Rattle.sp_report.proofs.values.add_more.Given as goal

abbrev pub invariant-loop-target : goal.invariant-loop-target
invariant-loop-target l = l.text.items ≡ l.initial.text.items
    ++ more_targets l.legend.names.now (lowered_of l.legend.lowered.now) (take l.target-index l.targets)
