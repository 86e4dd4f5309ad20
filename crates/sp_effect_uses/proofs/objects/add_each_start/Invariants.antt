use Rattle.std.proofs.Common.{take, ◌&&◌, ◌||◌, nat_eq}
use Rattle.std.specs.List.{list_any}
use Rattle.sp_ir.specs.Programs.{lowered_of}
use Rattle.sp_effect_entry.specs.Starts.{is_static, has_kind, is_main_formal}
use Rattle.sp_effect_uses.specs.Parts.{Adds}
use Rattle.sp_effect_uses.proofs.objects.add_each_start.Given as goal

abbrev pub invariant-loop-cell : goal.invariant-loop-cell
invariant-loop-cell l = Adds (λ r. list_any (λ x. (has_kind is_static (lowered_of l.lowered) x || is_main_formal (lowered_of l.lowered) x) && nat_eq r x) (take l.cell-index l.cells)) l.fn.set l.set
