use Rattle.std.proofs.Common.{◌≡◌, ◌<◌, ◌≤◌, ℕ, length, get_or, Some, sym, ap, subst, ◌∙◌, arith}
use Rattle.std.specs.Prelude.{slice_get}
use Rattle.sp_link_agreement.specs.Depths.{tables, struct_at}
use Rattle.sp_link_structs.specs.Joined.{IsStep}
use Rattle.sp_link_structs.specs.Matched.{of_units}
use Rattle.sp_link_structs.specs.Groups.{full_key, of_key}
use Rattle.sp_link_structs.specs.Leading.{leader_by}
use Rattle.sp_link_structs.proofs.Joining.{step_key}
use Rattle.sp_link_structs.proofs.Leading.{alike_in, has_alike}
use Rattle.sp_link_structs.proofs.Members.{Has, get_here, get_below, one_more}
use Rattle.sp_link_structs.proofs.leaders.take_steps.Goals as goal

pub take_step-requires-clause-alike : goal.take_step-requires-clause-alike
take_step-requires-clause-alike c =
    let inside : c.list.i < length c.args.list.now = omega arith in
    alike_in (tables c.args.units.now) c.args.of c.list.i (get_or c.args.list.now c.list.i (0, 0))
    (subst (λ xs. slice_get xs c.list.i ≡ Some (get_or c.args.list.now c.list.i (0, 0))) c.requires.list (get_here c.args.list.now c.list.i (0, 0) inside))

pub list-preserved : goal.list-preserved
list-preserved c = record {
  known = c.in_ok-take_step.ensures.known;
  leading = c.in_ok-take_step.ensures.leading;
  one = λ y z f g e. c.in_ok-take_step.ensures.one y z f g (c.list.invariant.one y z f g e);
  taken = one_more (λ (p : ℕ × ℕ). IsStep (tables c.args.units.now) p c.args.of → leader_by c.take_step.new.leaders p ≡ leader_by c.take_step.new.leaders c.args.of)
      c.args.list.now c.list.i (0, 0)
      (λ j p low at s. c.in_ok-take_step.ensures.one p c.args.of s.0 s.1 (c.list.invariant.taken j p low at s))
      c.in_ok-take_step.ensures.taken;
}

pub returns-clause-taken : goal.returns-clause-taken
returns-clause-taken c =
    let past : length c.args.list.now ≤ c.list.i = omega arith in
    λ p s.
    let w : Has (of_key (tables c.args.units.now) (full_key (struct_at (tables c.args.units.now) c.args.of)) (of_units 0 (tables c.args.units.now))) p =
    has_alike (tables c.args.units.now) c.args.of p s.0 (sym (step_key (tables c.args.units.now) p c.args.of s)) in
    let at : slice_get c.args.list.now w.0 ≡ Some p = ap (λ xs. slice_get xs w.0) c.requires.list ∙ w.1 in
    let low : w.0 < length c.args.list.now = get_below c.args.list.now w.0 p at in
    c.list.invariant.taken w.0 p (omega (arith, low, past)) at s
