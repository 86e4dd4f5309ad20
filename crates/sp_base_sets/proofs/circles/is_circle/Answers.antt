use Rattle.std.proofs.Common.{◌≡◌, ◌<◌, true, false, inr, [], length, sym, ap, ◌∙◌, subst, arith}
use Rattle.std.proofs.lemmas.List.{get_or_default}
use Rattle.sp_base_sets.specs.Sets.{has}
use Rattle.sp_base_sets.specs.Reached.{row}
use Rattle.sp_base_sets.specs.Circling.{state_of, open_at}
use Rattle.sp_base_sets.proofs.Searching.{starts_there}
use Rattle.sp_base_sets.proofs.circles.is_circle.Goals as goal

pub bounds-lists-number : goal.bounds-lists-number
bounds-lists-number c =
    let s = state_of c.args.search.now in
    let there = starts_there c.args.lists.now s c.args.part c.requires.search c.requires.last in
    let is : c.index-number.result.now ≡ open_at s c.args.part.start = c.index-number.ensures ∙ get_or_default s.path c.args.part.start c.index-number.result.now 0 there.0 in
    omega (arith, is, there.1)

pub returns-clause-circle : goal.returns-clause-circle
returns-clause-circle c e =
    let s = state_of c.args.search.now in
    let lists = c.args.lists.now in
    let number = c.index-number.result.now in
    let there = starts_there lists s c.args.part c.requires.search c.requires.last in
    let is : number ≡ open_at s c.args.part.start = c.index-number.ensures ∙ get_or_default s.path c.args.part.start number 0 there.0 in
    let low = subst (λ n. n < length lists) (sym is) there.1 in
    let list = c.index-lists-number.is ∙ get_or_default lists number c.index-lists-number.result [] low in
    inr (subst (λ n. has n (row lists n) ≡ true) is (sym (c.has.ensures ∙ ap (λ xs. has number xs) list) ∙ e))

pub returns-clause-none : goal.returns-clause-none
returns-clause-none c e =
    let s = state_of c.args.search.now in
    let lists = c.args.lists.now in
    let number = c.index-number.result.now in
    let there = starts_there lists s c.args.part c.requires.search c.requires.last in
    let is : number ≡ open_at s c.args.part.start = c.index-number.ensures ∙ get_or_default s.path c.args.part.start number 0 there.0 in
    let low = subst (λ n. n < length lists) (sym is) there.1 in
    let list = c.index-lists-number.is ∙ get_or_default lists number c.index-lists-number.result [] low in
    (omega (arith, c.if-len-part-gt1.false, c.len.ensures, c.args.search.now.path.ok.0), subst (λ n. has n (row lists n) ≡ false) is (sym (c.has.ensures ∙ ap (λ xs. has number xs) list) ∙ e))
