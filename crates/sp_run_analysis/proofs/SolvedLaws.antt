-- The report over a solved table is that over the least solution.
use Rattle.std.proofs.Common.{ℕ, List, subst}
use Rattle.std.proofs.Math.Path.{fun_ext}
use Rattle.sp_value.specs.declared.slots.Slot.{Slot}
use Rattle.sp_value.specs.Slots.{slot_order}
use Rattle.sp_dense.specs.Solution.{Grids, IsSolved, cell}
use Rattle.sp_transfer.specs.Equations.{Equations, meaning_of}
use Rattle.sp_run_analysis.specs.declared.reports.Wanted.{Wanted}
use Rattle.sp_run_analysis.specs.Outcomes.{IsReport, IsReportOf}

pub reported : (names : List (List ℕ)) (wanted : Wanted) (e : Equations) (grids : Grids Slot) (text : List ℕ) (count : ℕ)
    → IsSolved slot_order (meaning_of e) grids → IsReport e (cell grids.inputs) names wanted text count
    → IsReportOf names wanted e text count
reported names wanted e grids text count solved report = record {
  table = solved.dense;
  least = solved.least;
  reports = subst (λ g. IsReport e g names wanted text count) (fun_ext (λ n. fun_ext (λ l. solved.inputs n l))) report;
}
