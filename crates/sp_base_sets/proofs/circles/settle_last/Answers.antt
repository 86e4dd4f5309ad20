use Rattle.std.proofs.Common.{◌≡◌, ◌<◌, ◌+◌, ◌-◌, ◌++◌, length, set, take, refl, sym, ap, ◌∙◌, subst, arith}
use Rattle.std.specs.Prelude.{IsSome, MatchOption}
use Rattle.std.specs.Option.{option_to_list}
use Rattle.std.specs.Vec.{vec_len}
use Rattle.std.proofs.lemmas.List.{append-nil}
use Rattle.sp_base_sets.specs.Circling.{state_of, open_at, Settled}
use Rattle.sp_base_sets.specs.declared.circles.Stage.TheVariants.{Done}
use Rattle.sp_base_sets.proofs.Endings.{settled_none, settled_last}
use Rattle.sp_base_sets.proofs.circles.settle_last.Goals as goal

pub returns-in-Some-clause-settled : goal.returns-in-Some-clause-settled
returns-in-Some-clause-settled c =
    let s = state_of c.args.search.now in
    let ok = c.args.search.now.path.ok.0 in
    let found = c.pop.ensures.variant.0 (subst (λ r. IsSome r) (sym c.in-Some.is) refl) in
    let some : 0 < length s.path = omega (arith, found, ok) in
    let value = c.pop.ensures.value 0 found in
    let is : c.in-Some.number ≡ open_at s (vec_len c.args.search.now.path - 1) = (let both = sym c.in-Some.is ∙ value in cc) in
    settled_last c.args.mark s _ c.in-Some.number c.requires some (is ∙ ap (λ n. open_at s (n - 1)) ok)
    (ap (λ p. record { stages = set s.stages c.in-Some.number Done; marks = set s.marks c.in-Some.number c.args.mark; path = p; waiting = s.waiting; parts = s.parts }) (c.pop.ensures.rest ∙ ap (λ n. take (n - 1) s.path) ok))

pub returns-in_default-clause-settled : goal.returns-in_default-clause-settled
returns-in_default-clause-settled c =
    let s = state_of c.args.search.now in
    let none = subst (λ r. MatchOption r ((vec_len c.args.search.now.path ≡ 0) × (vec_len c.pop.new.self ≡ 0)) (λ x. vec_len c.pop.new.self + 1 ≡ vec_len c.args.search.now.path)) c.in_default.is c.pop.ensures.cases in
    let empty : length s.path ≡ length s.path - 1 = omega (arith, none.0, c.args.search.now.path.ok.0) in
    let same : s.path ≡ c.pop.new.self.items = c.pop.ensures.items ∙ ap (λ r. c.pop.new.self.items ++ option_to_list r) c.in_default.is ∙ append-nil c.pop.new.self.items in
    subst (λ n. Settled n c.args.mark s (record s { path = c.pop.new.self.items })) empty
    (subst (λ p. Settled (length s.path) c.args.mark s (record s { path = p })) same (settled_none c.args.mark s c.requires))
