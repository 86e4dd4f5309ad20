use Rattle.std.proofs.Common.{◌≡◌, ◌+◌, ◌<◌, ◌≤◌, length, take, get_or, refl, sym, subst, ap, ◌∙◌, arith, Some}
use Rattle.std.specs.Prelude.{slice_get}
use Rattle.indexmap.specs.IndexSet.{insert_key}
use Rattle.sp_link_agreement.specs.Depths.{tables, Agree, AllAgree}
use Rattle.sp_link_agreement.specs.Inner.{same_pair}
use Rattle.sp_link_agreement.specs.Known.{NoneAgrees}
use Rattle.sp_link_agreement.proofs.Members.{get_at}
use Rattle.sp_link_agreement.proofs.Walk.{Walked, begun, failed, stepped, ended, root_agrees, one_more_differs}
use Rattle.sp_link_agreement.proofs.pairs.agree.Goals as goal

pub pairs-init : goal.pairs-init
pairs-init c = record {
  walked =
      subst (λ ks. Walked (tables c.args.units.now) c.args.known.now.agreeing.keys c.len-start.result c.args.pair ks c.len-start.result)
      (sym c.in_ok-insert.ensures.keys)
      (begun (tables c.args.units.now) c.args.known.now.agreeing.keys c.len-start.result c.args.pair c.len-start.ensures.len c.requires.0);
  differing = c.requires.1;
}

pub returns-then-not-branch-clause-known : goal.returns-then-not-branch-clause-known
returns-then-not-branch-clause-known c =
    let here = get_or c.as_slice.result.now c.pairs.next ((0, 0), (0, 0)) in
    let inside : c.pairs.next < length c.pairs.known.agreeing.keys = omega arith in
    let at : slice_get c.pairs.known.agreeing.keys c.pairs.next ≡ Some here =
    get_at c.pairs.known.agreeing.keys c.pairs.next ((0, 0), (0, 0)) inside ∙ ap (λ ks. Some (get_or ks c.pairs.next ((0, 0), (0, 0)))) (sym c.as_slice.ensures.keys) in
    let differs : Agree (tables c.args.units.now) c.args.pair.0 c.args.pair.1 → ⊥ =
    failed (tables c.args.units.now) c.args.known.now.agreeing.keys c.len-start.result c.args.pair c.pairs.known.agreeing.keys c.pairs.next here c.pairs.invariant.walked at
    (c.in_ok-compare_known.ensures.differs c.if-not-branch.true) in (
      subst (AllAgree (tables c.args.units.now))
          (sym (c.truncate.ensures.keys ∙ ap (take c.len-start.result) (c.in_ok-compare_known.ensures.unchanged c.if-not-branch.true) ∙ c.pairs.invariant.walked.kept))
          c.requires.0,
      subst (NoneAgrees (tables c.args.units.now))
          (sym (c.in_ok-insert-2.ensures.keys ∙ ap (λ ks. insert_key same_pair ks c.args.pair) c.in_ok-compare_known.ensures.differing))
          (one_more_differs (tables c.args.units.now) c.pairs.known.differing.keys c.args.pair c.pairs.invariant.differing differs),
    )

pub pairs-preserved : goal.pairs-preserved
pairs-preserved c =
    let here = get_or c.as_slice.result.now c.pairs.next ((0, 0), (0, 0)) in
    let inside : c.pairs.next < length c.pairs.known.agreeing.keys = omega arith in
    let at : slice_get c.pairs.known.agreeing.keys c.pairs.next ≡ Some here =
    get_at c.pairs.known.agreeing.keys c.pairs.next ((0, 0), (0, 0)) inside ∙ ap (λ ks. Some (get_or ks c.pairs.next ((0, 0), (0, 0)))) (sym c.as_slice.ensures.keys) in
    record {
      walked =
          subst (λ ks. Walked (tables c.args.units.now) c.args.known.now.agreeing.keys c.len-start.result c.args.pair ks (c.pairs.next + 1))
          (sym (c.in_ok-compare_known.ensures.inner c.if-not-branch.false))
          (stepped (tables c.args.units.now) c.args.known.now.agreeing.keys c.len-start.result c.args.pair c.pairs.known.agreeing.keys c.pairs.next here c.pairs.invariant.walked at
          (c.in_ok-compare_known.ensures.alike c.if-not-branch.false));
      differing = subst (NoneAgrees (tables c.args.units.now)) (sym c.in_ok-compare_known.ensures.differing) c.pairs.invariant.differing;
    }

pub returns-clause-answer : goal.returns-clause-answer
returns-clause-answer c =
    let past : length c.pairs.known.agreeing.keys ≤ c.pairs.next = omega arith in
    ((λ t. root_agrees (tables c.args.units.now) c.args.known.now.agreeing.keys c.len-start.result c.args.pair c.pairs.known.agreeing.keys c.pairs.next c.pairs.invariant.walked past), λ a. refl)

pub returns-clause-known : goal.returns-clause-known
returns-clause-known c =
    let past : length c.pairs.known.agreeing.keys ≤ c.pairs.next = omega arith in
    (ended (tables c.args.units.now) c.args.known.now.agreeing.keys c.len-start.result c.args.pair c.pairs.known.agreeing.keys c.pairs.next c.pairs.invariant.walked past, c.pairs.invariant.differing)
