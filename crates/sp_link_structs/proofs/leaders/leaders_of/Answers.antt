use Rattle.std.proofs.Common.{◌≡◌, ◌<◌, ◌≤◌, ℕ, false, length, Some, sym, ap, subst, ◌∙◌, arith}
use Rattle.std.specs.Prelude.{slice_get}
use Rattle.sp_link_agreement.specs.Depths.{tables, struct_at}
use Rattle.sp_link_structs.specs.Joined.{IsStep, itself}
use Rattle.sp_link_structs.specs.Matched.{of_units}
use Rattle.sp_link_structs.specs.Leading.{leader_by, is_before}
use Rattle.sp_link_structs.proofs.Leading.{are_leaders}
use Rattle.sp_link_structs.proofs.Members.{Has, get_below, one_more, there_in, complete_there}
use Rattle.sp_link_structs.proofs.Order.{never_itself}
use Rattle.sp_link_structs.proofs.leaders.leaders_of.Goals as goal

pub all-init : goal.all-init
all-init c = record {
  known = c.new-known.ensures (tables c.args.units.now);
  leading = (
    (λ x. itself (sym (c.new-leaders.ensures x))),
    (λ x. subst (λ (z : ℕ × ℕ). is_before x z ≡ false) (sym (c.new-leaders.ensures x)) (never_itself x)),
  );
  taken = λ j x p low at s. absurd (omega (arith, low));
}

pub all-preserved : goal.all-preserved
all-preserved c = record {
  known = c.in_ok-take_all_to.ensures.known;
  leading = c.in_ok-take_all_to.ensures.leading;
  taken = λ j x p low at s. one_more (λ (x : ℕ × ℕ). (p : ℕ × ℕ) → IsStep (tables c.args.units.now) p x → leader_by c.take_all_to.new.leaders p ≡ leader_by c.take_all_to.new.leaders x)
      c.args.all.now c.all.i (0, 0)
      (λ j x low at p s. c.in_ok-take_all_to.ensures.one p x s.0 s.1 (c.all.invariant.taken j x p low at s))
      c.in_ok-take_all_to.ensures.taken j x low at p s;
}

pub returns : goal.returns
returns c =
    let past : length c.args.all.now ≤ c.all.i = omega arith in
    are_leaders (tables c.args.units.now) (leader_by c.all.leaders) c.all.invariant.leading
    (λ p x s.
    let w : Has (of_units 0 (tables c.args.units.now)) x = there_in (tables c.args.units.now) x (complete_there (struct_at (tables c.args.units.now) x) s.1) in
    let at : slice_get c.args.all.now w.0 ≡ Some x = ap (λ xs. slice_get xs w.0) c.requires ∙ w.1 in
    let low : w.0 < length c.args.all.now = get_below c.args.all.now w.0 x at in
    c.all.invariant.taken w.0 x p (omega (arith, low, past)) at s)
