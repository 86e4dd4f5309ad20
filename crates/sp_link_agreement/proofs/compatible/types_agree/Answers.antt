use Rattle.std.proofs.Common.{◌≡◌, ◌++◌, true, sym, ap, subst, ◌∙◌, true≢false}
use Rattle.std.specs.Prelude.{IsTrue, ◌↔◌}
use Rattle.sp_types.specs.View.{type_of}
use Rattle.sp_link_agreement.specs.Agreement.{compatible_by}
use Rattle.sp_link_agreement.specs.Depths.{tables, TypesAgree, EachAgrees}
use Rattle.sp_link_agreement.specs.Inner.{any_two, inner}
use Rattle.sp_link_agreement.proofs.Typed.{types_from, types_alike, types_to}
use Rattle.sp_link_agreement.proofs.Walk.{if_ok}
use Rattle.sp_link_agreement.proofs.compatible.types_agree.Goals as goal

pub returns-then-not-branch-clause-answer : goal.returns-then-not-branch-clause-answer
returns-then-not-branch-clause-answer c = (
  (λ t. absurd (true≢false (sym t))),
  (λ h.
      absurd (true≢false (sym (types_alike (tables c.args.units.now) c.args.left c.args.right (type_of c.args.of_left.now) (type_of c.args.of_right.now) h)
      ∙ sym c.in_ok-compare.ensures.alike ∙ c.if-not-branch.true))),
)

pub returns-clause-answer : goal.returns-clause-answer
returns-clause-answer c =
    let t = type_of c.args.of_left.now in
    let w = type_of c.args.of_right.now in
    let us = tables c.args.units.now in
    let alike : compatible_by any_two t w ≡ true = sym c.in_ok-compare.ensures.alike ∙ c.if-not-branch.false in
    let items : c.deref.result.now ≡ inner t w =
    c.deref.ensures.value ∙ c.in_ok-compare.ensures.inner c.if-not-branch.false ∙ ap (λ xs. xs ++ inner t w) c.new-found.ensures.items in
    if_ok c.all_agree.result
    (λ b. IsTrue b ↔ EachAgrees us c.args.left c.args.right c.deref.result.now)
    (λ b. IsTrue b ↔ TypesAgree us (c.args.left, t) (c.args.right, w))
    (λ b h. (
      (λ g. types_from us c.args.left c.args.right t w alike (subst (EachAgrees us c.args.left c.args.right) items (h.0 g))),
      (λ a. h.1 (subst (EachAgrees us c.args.left c.args.right) (sym items) (types_to us c.args.left c.args.right t w a))),
    ))
    c.all_agree.ensures.answer
