use Rattle.std.proofs.Common.{◌≡◌, ◌<◌, ℕ, length, get_or, subst, arith}
use Rattle.sp_ir.specs.Programs.{lowered_of}
use Rattle.sp_points_rules.specs.Gathered.{Adds}
use Rattle.sp_points_rules.specs.Copying.{CopiesPair}
use Rattle.sp_points_rules.proofs.Finding.{adds_begin, adds_loop}
use Rattle.sp_points_rules.proofs.rules.copy_from_each.Goals as goal

pub loop-source-init : goal.loop-source-init
loop-source-init c = adds_begin c.args.facts.now.rows.now (λ k u b r. CopiesPair (lowered_of c.args.facts.now.lowered.now) u c.args.target (get_or c.args.sources.now k 0) b r) c.args.out.now

pub loop-source-preserved : goal.loop-source-preserved
loop-source-preserved c = adds_loop c.args.facts.now.rows.now (λ k u b r. CopiesPair (lowered_of c.args.facts.now.lowered.now) u c.args.target (get_or c.args.sources.now k 0) b r) c.loop-source.source-index c.args.out.now c.loop-source.out c.copy_pair.new.out c.loop-source.invariant c.in_ok-copy_pair.ensures

pub returns : goal.returns
returns c =
    let is : c.loop-source.source-index ≡ length c.args.sources.now = omega (arith, c.loop-source-test.false) in
    subst (λ n. Adds c.args.facts.now.rows.now (λ u b r. (k : ℕ) × (k < n) × CopiesPair (lowered_of c.args.facts.now.lowered.now) u c.args.target (get_or c.args.sources.now k 0) b r) c.args.out.now c.loop-source.out) is c.loop-source.invariant
