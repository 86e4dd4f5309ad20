use Rattle.std.proofs.Common.{◌≡◌, ◌<◌, ℕ, length, get_or, subst, arith}
use Rattle.sp_ir.specs.Programs.{lowered_of}
use Rattle.sp_points_rules.specs.Gathered.{Adds}
use Rattle.sp_points_rules.specs.Foreign.{PutsForeignTo}
use Rattle.sp_points_rules.proofs.Finding.{adds_begin, adds_loop}
use Rattle.sp_points_rules.proofs.commands.foreign_each.Goals as goal

pub loop-formal-init : goal.loop-formal-init
loop-formal-init c = adds_begin c.args.facts.now.rows.now (λ k u x r. PutsForeignTo (lowered_of c.args.facts.now.lowered.now) u c.args.number (get_or c.args.formals.now k 0) x r) c.args.out.now

pub loop-formal-preserved : goal.loop-formal-preserved
loop-formal-preserved c = adds_loop c.args.facts.now.rows.now (λ k u x r. PutsForeignTo (lowered_of c.args.facts.now.lowered.now) u c.args.number (get_or c.args.formals.now k 0) x r) c.loop-formal.formal-index c.args.out.now c.loop-formal.out c.foreign_one.new.out c.loop-formal.invariant c.in_ok-foreign_one.ensures

pub returns : goal.returns
returns c =
    let is : c.loop-formal.formal-index ≡ length c.args.formals.now = omega (arith, c.loop-formal-test.false) in
    subst (λ n. Adds c.args.facts.now.rows.now (λ u x r. (k : ℕ) × (k < n) × PutsForeignTo (lowered_of c.args.facts.now.lowered.now) u c.args.number (get_or c.args.formals.now k 0) x r) c.args.out.now c.loop-formal.out) is c.loop-formal.invariant
