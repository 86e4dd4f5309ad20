use Rattle.std.proofs.Common.{◌≡◌, ◌∙◌, ◌||◌, Bool, true, false, not, nat_eq, length, [], refl, sym, ap}
use Rattle.std.specs.Vec.{with_item}
use Rattle.std.proofs.lemmas.Bool.{false≢true}
use Rattle.std.proofs.lemmas.List.{get_or_default}
use Rattle.sp_base_sets.specs.Sets.{has}
use Rattle.sp_defuse.proofs.Spreads.{given-listed, given-comes, same-listed, same-comes}
use Rattle.sp_defuse.proofs.spreading.give.Goals as goal

was-new : (b c : Bool) → b ≡ not c → b ≡ true → c ≡ false
was-new b true is h = absurd (false≢true (sym is ∙ h))
was-new b false is h = refl

was-old : (b c : Bool) → b ≡ not c → b ≡ false → c ≡ true
was-old b true is h = refl
was-old b false is h = absurd (false≢true (sym h ∙ is))

pub returns-in_ok-push-clause-listed : goal.returns-in_ok-push-clause-listed
returns-in_ok-push-clause-listed c =
    let s = c.args.spread.now in
    let f = c.args.function in
    let l = c.args.location in
    let set_is = c.index_mut.ensures.value ∙ get_or_default s.sets.items f c.index_mut.result.now [] c.requires.low in
    given-listed l s (record { sets = with_item s.sets f c.add.new.self; order = c.push.new.self }) f (length s.sets.items) c.add.new.self c.requires.listed c.requires.low refl
    (λ k. c.in_ok-add.ensures.numbers k ∙ ap (λ xs. nat_eq k l || has k xs) set_is) c.in_ok-push.ensures.items
    (sym (ap (has l) set_is) ∙ was-new c.in_ok-add.field-0 (has l c.index_mut.result.now) c.in_ok-add.ensures.new c.if-branch.true)

pub returns-in_ok-push-clause-comes : goal.returns-in_ok-push-clause-comes
returns-in_ok-push-clause-comes c =
    let s = c.args.spread.now in
    let f = c.args.function in
    let l = c.args.location in
    let set_is = c.index_mut.ensures.value ∙ get_or_default s.sets.items f c.index_mut.result.now [] c.requires.low in
    given-comes l s (record { sets = with_item s.sets f c.add.new.self; order = c.push.new.self }) f (length s.sets.items) c.add.new.self c.requires.listed c.requires.low refl
    (λ k. c.in_ok-add.ensures.numbers k ∙ ap (λ xs. nat_eq k l || has k xs) set_is) c.in_ok-push.ensures.items
    (sym (ap (has l) set_is) ∙ was-new c.in_ok-add.field-0 (has l c.index_mut.result.now) c.in_ok-add.ensures.new c.if-branch.true)

pub returns-else-branch-clause-comes : goal.returns-else-branch-clause-comes
returns-else-branch-clause-comes c =
    let s = c.args.spread.now in
    let f = c.args.function in
    let l = c.args.location in
    let set_is = c.index_mut.ensures.value ∙ get_or_default s.sets.items f c.index_mut.result.now [] c.requires.low in
    same-comes l s (record { sets = with_item s.sets f c.add.new.self; order = s.order }) f (length s.sets.items) c.add.new.self c.requires.listed c.requires.low refl
    (λ k. c.in_ok-add.ensures.numbers k ∙ ap (λ xs. nat_eq k l || has k xs) set_is) refl
    (sym (ap (has l) set_is) ∙ was-old c.in_ok-add.field-0 (has l c.index_mut.result.now) c.in_ok-add.ensures.new c.if-branch.false)

pub returns-else-branch-clause-listed : goal.returns-else-branch-clause-listed
returns-else-branch-clause-listed c =
    let s = c.args.spread.now in
    let f = c.args.function in
    let l = c.args.location in
    let set_is = c.index_mut.ensures.value ∙ get_or_default s.sets.items f c.index_mut.result.now [] c.requires.low in
    same-listed l s (record { sets = with_item s.sets f c.add.new.self; order = s.order }) f (length s.sets.items) c.add.new.self c.requires.listed c.requires.low refl
    (λ k. c.in_ok-add.ensures.numbers k ∙ ap (λ xs. nat_eq k l || has k xs) set_is) refl
    (sym (ap (has l) set_is) ∙ was-old c.in_ok-add.field-0 (has l c.index_mut.result.now) c.in_ok-add.ensures.new c.if-branch.false)
