use Rattle.std.proofs.Common.{◌≡◌, ◌<◌, ℕ, length, get_or, subst, arith}
use Rattle.sp_ir.specs.Programs.{lowered_of}
use Rattle.sp_points_rules.specs.Gathered.{Adds}
use Rattle.sp_points_rules.specs.Copying.{CopiesFrom}
use Rattle.sp_points_rules.proofs.Finding.{adds_begin, adds_loop}
use Rattle.sp_points_rules.proofs.rules.copy_to_each.Goals as goal

pub loop-target-init : goal.loop-target-init
loop-target-init c = adds_begin c.args.facts.now.rows.now (λ k u b r. CopiesFrom (lowered_of c.args.facts.now.lowered.now) u (get_or c.args.targets.now k 0) c.args.sources.now b r) c.args.out.now

pub loop-target-preserved : goal.loop-target-preserved
loop-target-preserved c = adds_loop c.args.facts.now.rows.now (λ k u b r. CopiesFrom (lowered_of c.args.facts.now.lowered.now) u (get_or c.args.targets.now k 0) c.args.sources.now b r) c.loop-target.target-index c.args.out.now c.loop-target.out c.copy_from_each.new.out c.loop-target.invariant c.in_ok-copy_from_each.ensures

pub returns : goal.returns
returns c =
    let is : c.loop-target.target-index ≡ length c.args.targets.now = omega (arith, c.loop-target-test.false) in
    subst (λ n. Adds c.args.facts.now.rows.now (λ u b r. (k : ℕ) × (k < n) × CopiesFrom (lowered_of c.args.facts.now.lowered.now) u (get_or c.args.targets.now k 0) c.args.sources.now b r) c.args.out.now c.loop-target.out) is c.loop-target.invariant
