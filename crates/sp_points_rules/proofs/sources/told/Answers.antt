use Rattle.std.proofs.Common.{◌≡◌, Some, subst, sym}
use Rattle.sp_ir.specs.Programs.{lowered_of}
use Rattle.sp_ir.specs.View.{expression_of}
use Rattle.sp_points_rules.specs.Sources.{InBase, Calls, root_where, formal_at, result_of}
use Rattle.sp_points_rules.specs.SourceView.{base_of}
use Rattle.sp_points_rules.specs.Gathered.{Finds}
use Rattle.sp_points_rules.proofs.Finding.{finds_images}
use Rattle.sp_points_rules.proofs.sources.told.Goals as goal

pub returns-in_ok-found-in-Regions-clause-finds : goal.returns-in_ok-found-in-Regions-clause-finds
returns-in_ok-found-in-Regions-clause-finds c =
    subst (λ x. Finds c.args.facts.now.rows.now (λ u r. InBase (lowered_of c.args.facts.now.lowered.now) u (base_of x) r) c.regions.new.seen c.in_ok-found-in-Regions.found) (sym c.in-Regions.is)
    (record { sound = c.in_ok-found-in-Regions.ensures.sound; whole = c.in_ok-found-in-Regions.ensures.whole })

pub returns-in_ok-found-in-Cells-clause-finds : goal.returns-in_ok-found-in-Cells-clause-finds
returns-in_ok-found-in-Cells-clause-finds c =
    subst (λ x. Finds c.args.facts.now.rows.now (λ u r. InBase (lowered_of c.args.facts.now.lowered.now) u (base_of x) r) c.cells.new.seen c.in_ok-found-in-Cells.found) (sym c.in-Cells.is)
    (record { sound = c.in_ok-found-in-Cells.ensures.sound; whole = c.in_ok-found-in-Cells.ensures.whole })

pub returns-in_ok-found-in-Formals-clause-finds : goal.returns-in_ok-found-in-Formals-clause-finds
returns-in_ok-found-in-Formals-clause-finds c =
    let p = lowered_of c.args.facts.now.lowered.now in
    subst (λ x. Finds c.args.facts.now.rows.now (λ u r. InBase p u (base_of x) r) c.called.new.seen c.in_ok-found-in-Formals.found) (sym c.in-Formals.is)
    (finds_images c.args.facts.now.rows.now (λ u k. Calls p u (expression_of c.in-Formals.callee.now) c.in-Formals.count k) (λ k r. root_where p c.in-Formals.test (formal_at p k c.in-Formals.place) ≡ Some r) c.called.new.seen c.in_ok-functions-in-Formals.functions c.in_ok-found-in-Formals.found c.in_ok-functions-in-Formals.ensures.finds c.in_ok-found-in-Formals.ensures)

pub returns-in_ok-found-in-Results-clause-finds : goal.returns-in_ok-found-in-Results-clause-finds
returns-in_ok-found-in-Results-clause-finds c =
    let p = lowered_of c.args.facts.now.lowered.now in
    subst (λ x. Finds c.args.facts.now.rows.now (λ u r. InBase p u (base_of x) r) c.called-in-Results.new.seen c.in_ok-found-in-Results.found) (sym c.in-Results.is)
    (finds_images c.args.facts.now.rows.now (λ u k. Calls p u (expression_of c.in-Results.callee.now) c.in-Results.count k) (λ k r. root_where p c.in-Results.test (result_of p k) ≡ Some r) c.called-in-Results.new.seen c.in_ok-functions-in-Results.functions c.in_ok-found-in-Results.found c.in_ok-functions-in-Results.ensures.finds c.in_ok-found-in-Results.ensures)
