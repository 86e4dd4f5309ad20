use Rattle.std.proofs.Common.{◌≡◌, ◌++◌, take}
use Rattle.std.specs.List.{flat_map}
use Rattle.sp_ir.specs.Programs.{lowered_of}
use Rattle.sp_run_indirect.specs.Texts.{callee_text}
use Rattle.sp_run_indirect.proofs.lines.add_more.Given as goal

abbrev pub invariant-loop-function : goal.invariant-loop-function
invariant-loop-function l = l.text.items ≡ l.initial.text.items
    ++ flat_map (callee_text (lowered_of l.lowered)) (take l.function-index l.functions)
