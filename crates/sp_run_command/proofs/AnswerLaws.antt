-- From what an engine makes of a program to what is written.
use Rattle.std.proofs.Common.{◌≡◌, ℕ, List, Result, Ok, Err, IfOk, refl, sym, ap, subst}
use Rattle.sp_tree.specs.declared.fault.FaultKind.TheVariants.{TooManyDependencies, TooManySlots}
use Rattle.sp_ir.specs.Programs.{Lowered}
use Rattle.sp_lower.specs.Programs.{start_place}
use Rattle.sp_report.specs.declared.lines.Report.{Report}
use Rattle.sp_run_words.specs.declared.request.Engine.TheVariants.{Sparse, Dense}
use Rattle.sp_run_analysis.specs.declared.reports.Wanted.{Wanted}
use Rattle.sp_run_analysis.specs.Outcomes as dense
use Rattle.sp_run_analysis.specs.Outcomes.{IsReportOf}
use Rattle.sp_run_analysis.specs.Sparse as sparse
use Rattle.sp_run_analysis.specs.declared.dense.Outcome.{Outcome}
use Rattle.sp_run_analysis.specs.declared.dense.Outcome.TheVariants as outcomes
use Rattle.sp_run_analysis.specs.declared.sparse.SparseOutcome.{SparseOutcome}
use Rattle.sp_run_analysis.specs.declared.sparse.SparseOutcome.TheVariants as sparsely
use Rattle.sp_run_command.specs.declared.status.Status.{Status}
use Rattle.sp_run_command.specs.declared.status.Status.TheVariants.{Refused}
use Rattle.sp_run_command.specs.Refusals.{fault_text}
use Rattle.sp_run_command.specs.Answers.{IsAnswerTo, reported, too_large, reporting}

-- what holds of a result by two clauses
pub by_both : {X Y : Type 0} (r : Result X Y) (P Q R : X → Type 0) → ((x : X) → P x → Q x → R x) → IfOk r P → IfOk r Q → IfOk r R
by_both (Ok x) P Q R f p q = f x p q
by_both (Err e) P Q R f p q = tt

module _ (p : Lowered) (names : List (List ℕ)) (wanted : Wanted) (before after : ℕ) (status : Status) (text : List ℕ) where
  -- ---- the dense engine

  pub reported-densely : (o : Outcome) (report : Report) → dense.Ends p names wanted before after o → o ≡ outcomes.Reported report
      → text ≡ report.text.items → status ≡ reporting report.count → IsAnswerTo Dense wanted p names status text
  reported-densely o report ends is same counted =
      let e = subst (dense.Ends p names wanted before after) is ends in
      reported report.count counted (record {
        equations = e.0;
        are = e.1;
        within = e.2.0;
        report = subst (λ t. IsReportOf names wanted e.0 t report.count) (sym same) e.2.1;
      })

  pub too-large-densely : (o : Outcome) (cells : ℕ) → dense.Ends p names wanted before after o → o ≡ outcomes.TooLarge cells
      → status ≡ Refused → text ≡ fault_text names (record { kind = TooManySlots cells; place = start_place }) → IsAnswerTo Dense wanted p names status text
  too-large-densely o cells ends is refused same =
      let e = subst (dense.Ends p names wanted before after) is ends in
      too_large refused (record { equations = e.0; are = e.1; kind = TooManySlots cells; past = (e.2.1, ap TooManySlots e.2.0); bytes_are = same })

  -- ---- the sparse engine

  pub reported-sparsely : (o : SparseOutcome) (report : Report) → sparse.Ends p names wanted before after o → o ≡ sparsely.Reported report
      → text ≡ report.text.items → status ≡ reporting report.count → IsAnswerTo Sparse wanted p names status text
  reported-sparsely o report ends is same counted =
      let e = subst (sparse.Ends p names wanted before after) is ends in
      reported report.count counted (record {
        equations = e.0;
        are = e.1;
        within = e.2.0;
        report = subst (λ t. IsReportOf names wanted e.0 t report.count) (sym same) e.2.1;
      })

  pub too-large-sparsely : (o : SparseOutcome) → sparse.Ends p names wanted before after o → o ≡ sparsely.TooMany
      → status ≡ Refused → text ≡ fault_text names (record { kind = TooManyDependencies; place = start_place }) → IsAnswerTo Sparse wanted p names status text
  too-large-sparsely o ends is refused same =
      let e = subst (sparse.Ends p names wanted before after) is ends in
      too_large refused (record { equations = e.0; are = e.1; kind = TooManyDependencies; past = (e.2.0, refl); bytes_are = same })
