use Rattle.std.proofs.Common.{◌≡◌, ◌<◌, ◌≤◌, length, map, Some, ap, sym, ◌∙◌, arith}
use Rattle.std.specs.Prelude.{slice_get}
use Rattle.std.proofs.lemmas.List.{length-map}
use Rattle.std.proofs.lemmas.Result.{err_from_is_err_and}
use Rattle.sp_link_agreement.specs.Depths.{tables}
use Rattle.sp_link_conflicts.specs.Views.{declaration_of}
use Rattle.sp_link_conflicts.proofs.Judged.{judged_wrong, judged_right, earlier_more, get_mapped, all_past}
use Rattle.sp_link_conflicts.proofs.checked.check_all.Goals as goal

pub all-init : goal.all-init
all-init c = record {
  known = c.new-known.ensures (tables c.args.units.now);
  earlier = λ n. c.new-earlier.ensures n;
  proper = λ j e low. absurd (omega arith);
}

pub returns-in_err-judge_next : goal.returns-in_err-judge_next
returns-in_err-judge_next c =
    let p = err_from_is_err_and c.from_residual.result c.from_residual.ensures.1 in
    let es = map declaration_of c.args.all.now in
    let e = declaration_of c.declaration-item.result in
    let inside : c.all.declaration-index < length c.args.all.now = omega arith in
    let there : slice_get es c.all.declaration-index ≡ Some e =
    get_mapped declaration_of c.args.all.now c.all.declaration-index c.declaration-item.result inside ∙ ap (λ z. Some (declaration_of z)) (sym c.declaration-item.is) in
    rw (p.1, p.2) (judged_wrong (tables c.args.units.now) es c.all.declaration-index e _ there (c.all.invariant.earlier e.name) c.all.invariant.proper c.in_err-judge_next.field-0.0 c.in_err-judge_next.ensures.answer)

pub all-preserved : goal.all-preserved
all-preserved c =
    let us = tables c.args.units.now in
    let es = map declaration_of c.args.all.now in
    let e = declaration_of c.declaration-item.result in
    let inside : c.all.declaration-index < length c.args.all.now = omega arith in
    let there : slice_get es c.all.declaration-index ≡ Some e =
    get_mapped declaration_of c.args.all.now c.all.declaration-index c.declaration-item.result inside ∙ ap (λ z. Some (declaration_of z)) (sym c.declaration-item.is) in
    let is = c.all.invariant.earlier e.name in record {
      known = c.in_ok-judge_next.ensures.known;
      earlier = earlier_more us es c.all.declaration-index e _ there is c.all.invariant.proper c.all.earlier c.add.new.self c.all.invariant.earlier c.in_ok-add.ensures;
      proper = judged_right us es c.all.declaration-index e _ there is c.all.invariant.proper c.in_ok-judge_next.field-0 c.in_ok-judge_next.ensures.answer;
    }

pub returns : goal.returns
returns c =
    let past : length (map declaration_of c.args.all.now) ≤ c.all.declaration-index = omega (arith, length-map c.args.all.now declaration_of) in
    all_past (tables c.args.units.now) (map declaration_of c.args.all.now) c.all.declaration-index past c.all.invariant.proper
