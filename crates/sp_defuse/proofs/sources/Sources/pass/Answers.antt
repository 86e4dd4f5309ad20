use Rattle.std.proofs.Common.{◌∙◌, List, [], sym, ap, subst, length, ◌<◌, ℕ, get_or, arith}
use Rattle.sp_base_sets.specs.Sets.{has}
use Rattle.std.proofs.lemmas.List.{get_or_default}
use Rattle.sp_defuse.proofs.Passing.{passes-kept, passes-none}
use Rattle.sp_defuse.proofs.sources.Sources.pass.Goals as goal

pub returns-in-Some : goal.returns-in-Some
returns-in-Some c = λ n are low.
    let s = c.args.self.now in
    passes-kept c.args.flow.now n s are c.args.from c.args.location c.in-Some.at c.index.result.now c.pass.result
    (subst (λ (xs : List ℕ). c.in-Some.at < length xs) c.as_slice.ensures.numbers c.in-Some.ensures.within)
    (sym (ap (λ (xs : List ℕ). get_or xs c.in-Some.at 0) c.as_slice.ensures.numbers) ∙ c.in-Some.ensures.found)
    (c.index.ensures ∙ get_or_default s.edges.items c.in-Some.at c.index.result.now [] (omega (arith, subst (λ (xs : List ℕ). c.in-Some.at < length xs) c.as_slice.ensures.numbers c.in-Some.ensures.within, are.edges.long))) c.pass.ensures

pub returns-in-None : goal.returns-in-None
returns-in-None c = λ n are low. passes-none c.args.flow.now n c.args.self.now are c.args.from c.args.location low (sym (ap (has c.args.from) c.as_slice.ensures.numbers) ∙ c.in-None.ensures.absent)
