use Rattle.std.proofs.Common.{◌≡◌, ◌<◌, ℕ, length, get_or, subst, arith}
use Rattle.sp_ir.specs.Programs.{lowered_of}
use Rattle.sp_points_rules.specs.Gathered.{Adds}
use Rattle.sp_points_rules.specs.Copying.{MirrorsBack}
use Rattle.sp_points_rules.proofs.Finding.{adds_begin, adds_loop}
use Rattle.sp_points_rules.proofs.rules.mirror_back_each.Goals as goal

pub loop-cell-init : goal.loop-cell-init
loop-cell-init c = adds_begin c.args.facts.now.rows.now (λ k u b r. MirrorsBack (lowered_of c.args.facts.now.lowered.now) u c.args.target c.args.source (get_or c.args.cells.now k 0) b r) c.args.out.now

pub loop-cell-preserved : goal.loop-cell-preserved
loop-cell-preserved c = adds_loop c.args.facts.now.rows.now (λ k u b r. MirrorsBack (lowered_of c.args.facts.now.lowered.now) u c.args.target c.args.source (get_or c.args.cells.now k 0) b r) c.loop-cell.cell-index c.args.out.now c.loop-cell.out c.mirror_back.new.out c.loop-cell.invariant c.in_ok-mirror_back.ensures

pub returns : goal.returns
returns c =
    let is : c.loop-cell.cell-index ≡ length c.args.cells.now = omega (arith, c.loop-cell-test.false) in
    subst (λ n. Adds c.args.facts.now.rows.now (λ u b r. (k : ℕ) × (k < n) × MirrorsBack (lowered_of c.args.facts.now.lowered.now) u c.args.target c.args.source (get_or c.args.cells.now k 0) b r) c.args.out.now c.loop-cell.out) is c.loop-cell.invariant
