use Rattle.std.proofs.Common.{◌≡◌, ◌↔◌, ℕ, true, false, get_or, subst}
use Rattle.sp_ir.specs.Programs.{lowered_of}
use Rattle.sp_base_sets.specs.Reached.{Leads}
use Rattle.sp_graph.specs.Rows.{AreLists}
use Rattle.sp_graph.proofs.Calling.{recursive_ones}
use Rattle.sp_graph.proofs.functions.recursive.Goals as goal

pub returns : goal.returns
returns c =
    let p = lowered_of c.args.lowered.now in
    let lists = c.in_ok-lists.lists.items in
    let these = subst (λ xs. AreLists p xs lists) c.lists.ensures c.in_ok-lists.ensures in
    let marks = c.in_ok-marks.marks.items in
    recursive_ones p c.args.calls.now lists these marks (subst (λ xs. (n : ℕ) → (get_or marks n false ≡ true) ↔ Leads xs n n) c.deref.ensures.value c.in_ok-marks.ensures)
