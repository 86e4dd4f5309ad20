use Rattle.std.proofs.Common.{◌∙◌, subst}
use Rattle.std.specs.List.Sorted.{IsBinarySearchResult}
use Rattle.std.specs.Ordering.{nat_cmp}
use Rattle.sp_base_sets.specs.Sets.{Ascends}
use Rattle.sp_base_sets.proofs.Members.{has_searched, search_of}
use Rattle.sp_base_sets.proofs.number_set.NumberSet.has.Goals as goal

pub returns : goal.returns
returns c =
    let x = c.args.number in
    let xs = c.deref.result.now in
    let now = c.args.self.now in
    let is = c.deref.ensures.value ∙ c.self.view_is in
    let r = c.binary_search.result in
    let at = search_of now x r (subst (λ ys. Ascends ys) c.self.view_is c.self.invariant) (subst (λ ys. IsBinarySearchResult (λ y. nat_cmp y x) ys r) is c.binary_search.ensures.position) in
    c.is_ok.ensures.value ∙ has_searched now x r at
