use Rattle.std.proofs.Common.{◌≡◌, ◌<◌, ◌≤◌, ◌*◌, ◌⊎◌, inl, inr, length, sym, ap, arith}
use Rattle.sp_ir.specs.Programs.{Lowered, lowered_of}
use Rattle.sp_points_expr.specs.Growing.{size}
use Rattle.sp_points_expr.proofs.Serving.{popped, done}
use Rattle.sp_points_expr.proofs.Measure.{size_low, smaller}
use Rattle.sp_points_rules.specs.Puts.{rules_of}
use Rattle.sp_points_rules.proofs.Putting.{program_rules}
use Rattle.sp_pre.proofs.solve.least.Goals as goal

pub serve-requires-clause-working : goal.serve-requires-clause-working
serve-requires-clause-working c =
    let p = lowered_of c.args.lowered.now in
    popped (rules_of p) (length p.regions) (length p.nodes) (program_rules p c.requires.formed) c.nodes.growing c.in-Some.node c.pop.new.self c.nodes.invariant c.in-Some.ensures.numbers.2 c.pop.ensures.count c.pop.ensures.few

pub nodes-smaller : goal.nodes-smaller
nodes-smaller c =
    smaller (length p.regions * length p.regions) (size c.nodes.growing) (size c.serve.new.growing) (length p.nodes) (length c.nodes.growing.queue.numbers) (length c.serve.new.growing.queue.numbers) (by c.in_ok-serve.ensures.rises)
  where
    p : Lowered
    p = lowered_of c.args.lowered.now

    by : (size c.nodes.growing < size c.serve.new.growing) ⊎ ((size c.serve.new.growing ≡ size c.nodes.growing) × (c.serve.new.growing.queue ≡ c.pop.new.self)) → ((size c.nodes.growing < size c.serve.new.growing) × (size c.serve.new.growing ≤ length p.regions * length p.regions) × (length c.serve.new.growing.queue.numbers ≤ length p.nodes)) ⊎ ((size c.nodes.growing ≡ size c.serve.new.growing) × (length c.serve.new.growing.queue.numbers < length c.nodes.growing.queue.numbers))
    by (inl up) = inl (up, size_low (rules_of p) (length p.regions) (length p.nodes) (length p.nodes) c.serve.new.growing c.in_ok-serve.ensures.working, omega (arith, c.in_ok-serve.ensures.working.few, c.in_ok-serve.ensures.working.counted))
    by (inr (same, queue)) = inr (sym same, omega (arith, ap (λ q. length q.numbers) queue, c.in-Some.ensures.numbers.1))

pub returns : goal.returns
returns c =
    let p = lowered_of c.args.lowered.now in
    record {
      least = done (rules_of p) (length p.regions) (length p.nodes) (program_rules p c.requires.formed) c.nodes.growing c.nodes.invariant c.in_default.ensures.numbers.0;
      ascending = c.nodes.invariant.ascending;
    }
