use Rattle.std.proofs.Common.{◌∙◌, ◌||◌, eqb, not, sym, ap, subst}
use Rattle.std.specs.List.Sorted.{IsBinarySearchResult}
use Rattle.std.specs.Ordering.{nat_cmp}
use Rattle.sp_base_sets.specs.Sets.{has, Ascends}
use Rattle.sp_base_sets.proofs.Members.{search_of, gap_at, has_at, has_gap, same_member, has_inserted, ascends_inserted}
use Rattle.sp_base_sets.proofs.number_set.NumberSet.add.Goals as goal

pub invariant_of-self-in-Err : goal.invariant_of-self-in-Err
invariant_of-self-in-Err c =
    let x = c.args.number in
    let xs = c.self.inside.numbers.items in
    let r = c.binary_search.result in
    let at = search_of xs x r c.self.invariant (subst (λ ys. IsBinarySearchResult (λ y. nat_cmp y x) ys r) c.deref.ensures.value c.binary_search.ensures.position) in
    let gap = gap_at xs x c.in-Err.place r c.in-Err.is at in
    let new = c.in_ok-insert-in-Err.ensures.items in
    subst (λ ys. Ascends ys) (sym new) (ascends_inserted xs x c.in-Err.place c.self.invariant gap)

pub returns-in-Ok-clause-new : goal.returns-in-Ok-clause-new
returns-in-Ok-clause-new c =
    let x = c.args.number in
    let now = c.args.self.now in
    let r = c.binary_search.result in
    let at = search_of now x r (subst (λ ys. Ascends ys) c.self.view_is c.self.invariant) (subst (λ ys. IsBinarySearchResult (λ y. nat_cmp y x) ys r) (c.deref.ensures.value ∙ c.self.view_is) c.binary_search.ensures.position) in
    sym (ap not (has_at now x c.in-Ok.field-0 r c.in-Ok.is at))

pub returns-in-Ok-clause-numbers : goal.returns-in-Ok-clause-numbers
returns-in-Ok-clause-numbers c n =
    let x = c.args.number in
    let now = c.args.self.now in
    let r = c.binary_search.result in
    let at = search_of now x r (subst (λ ys. Ascends ys) c.self.view_is c.self.invariant) (subst (λ ys. IsBinarySearchResult (λ y. nat_cmp y x) ys r) (c.deref.ensures.value ∙ c.self.view_is) c.binary_search.ensures.position) in
    same_member now x n (has_at now x c.in-Ok.field-0 r c.in-Ok.is at)

pub returns-in_ok-insert-in-Err-clause-new : goal.returns-in_ok-insert-in-Err-clause-new
returns-in_ok-insert-in-Err-clause-new c =
    let x = c.args.number in
    let now = c.args.self.now in
    let r = c.binary_search.result in
    let at = search_of now x r (subst (λ ys. Ascends ys) c.self.view_is c.self.invariant) (subst (λ ys. IsBinarySearchResult (λ y. nat_cmp y x) ys r) (c.deref.ensures.value ∙ c.self.view_is) c.binary_search.ensures.position) in
    sym (ap not (has_gap now x c.in-Err.place (gap_at now x c.in-Err.place r c.in-Err.is at)))

pub returns-in_ok-insert-in-Err-clause-numbers : goal.returns-in_ok-insert-in-Err-clause-numbers
returns-in_ok-insert-in-Err-clause-numbers c n =
    let x = c.args.number in
    let xs = c.self.inside.numbers.items in
    ap (λ ys. has n ys) c.in_ok-insert-in-Err.ensures.items ∙ has_inserted xs c.in-Err.place x n ∙ ap (λ ys. eqb n x || has n ys) c.self.view_is

pub returns-in_ok-insert-in-Err-clause-ascending : goal.returns-in_ok-insert-in-Err-clause-ascending
returns-in_ok-insert-in-Err-clause-ascending c = invariant_of-self-in-Err c
