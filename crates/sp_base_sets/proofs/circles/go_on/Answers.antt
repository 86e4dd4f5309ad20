use Rattle.std.proofs.Common.{◌≡◌, ◌<◌, ◌-◌, length, take, sym, ap, ◌∙◌, subst, arith}
use Rattle.std.proofs.lemmas.List.{get_or_default}
use Rattle.sp_base_sets.specs.Reached.{row}
use Rattle.sp_base_sets.specs.Circling.{state_of, stage_at, entered, Joins, IsSearch, left}
use Rattle.sp_base_sets.specs.declared.circles.Stage.TheVariants.{New, Open, Done}
use Rattle.sp_base_sets.proofs.Leaving.{ascending_few, entered_less}
use Rattle.sp_base_sets.proofs.Going.{last_popped, listed, some_wait, new_search, open_search, known_search}
use Rattle.sp_base_sets.proofs.circles.go_on.Goals as goal

pub returns-in_ok-enter-in-New-clause-search : goal.returns-in_ok-enter-in-New-clause-search
returns-in_ok-enter-in-New-clause-search c =
    let s = state_of c.args.search.now in
    let lists = c.args.lists.now in
    let n = c.in-Some.number in
    let old = c.args.search.now.waiting in
    let at = last_popped old.items old.len c.pop.result n old.ok.0 c.pop.ensures.variant.0 (c.pop.ensures.value 0) c.in-Some.is in
    let there = listed lists s n c.requires.search c.requires.waits at in
    let low = c.requires.low there.0 n there.1 in
    let new : stage_at s n ≡ New = get_or_default s.stages n New c.index.result.now (omega (arith, low, c.requires.search.long)) ∙ sym c.index.ensures ∙ c.in-New.is in
    let rest : c.pop.new.self.items ≡ take (length old.items - 1) old.items = c.pop.ensures.rest ∙ ap (λ k. take (k - 1) old.items) old.ok.0 in
    subst (IsSearch lists) (sym (c.in_ok-enter-in-New.ensures.entered ∙ ap (λ w. entered lists (record s { waiting = w }) n) rest)) (new_search lists s n c.requires.search c.requires.waits at low new)

pub returns-in_ok-enter-in-New-clause-less : goal.returns-in_ok-enter-in-New-clause-less
returns-in_ok-enter-in-New-clause-less c =
    let s = state_of c.args.search.now in
    let lists = c.args.lists.now in
    let n = c.in-Some.number in
    let old = c.args.search.now.waiting in
    let at = last_popped old.items old.len c.pop.result n old.ok.0 c.pop.ensures.variant.0 (c.pop.ensures.value 0) c.in-Some.is in
    let there = listed lists s n c.requires.search c.requires.waits at in
    let low = c.requires.low there.0 n there.1 in
    let new : stage_at s n ≡ New = get_or_default s.stages n New c.index.result.now (omega (arith, low, c.requires.search.long)) ∙ sym c.index.ensures ∙ c.in-New.is in
    let rest : c.pop.new.self.items ≡ take (length old.items - 1) old.items = c.pop.ensures.rest ∙ ap (λ k. take (k - 1) old.items) old.ok.0 in
    let few = ascending_few (row lists n) (length lists) c.in_ok-enter-in-New.ensures.ascending (λ m h. c.requires.low n m h) in
    subst (λ t. left lists t < left lists s) (sym (c.in_ok-enter-in-New.ensures.entered ∙ ap (λ w. entered lists (record s { waiting = w }) n) rest)) (entered_less lists s n (some_wait lists s n c.requires.search c.requires.waits at) low c.requires.search.long new few)

pub returns-in-Open-clause-search : goal.returns-in-Open-clause-search
returns-in-Open-clause-search c =
    let s = state_of c.args.search.now in
    let lists = c.args.lists.now in
    let n = c.in-Some.number in
    let old = c.args.search.now.waiting in
    let at = last_popped old.items old.len c.pop.result n old.ok.0 c.pop.ensures.variant.0 (c.pop.ensures.value 0) c.in-Some.is in
    let there = listed lists s n c.requires.search c.requires.waits at in
    let low = c.requires.low there.0 n there.1 in
    let open_there : stage_at s n ≡ Open c.in-Open.place = get_or_default s.stages n New c.index.result.now (omega (arith, low, c.requires.search.long)) ∙ sym c.index.ensures ∙ c.in-Open.is in
    let rest : c.pop.new.self.items ≡ take (length old.items - 1) old.items = c.pop.ensures.rest ∙ ap (λ k. take (k - 1) old.items) old.ok.0 in
    open_search lists s n c.requires.search c.requires.waits at c.in-Open.place (state_of c.join.new.search) open_there (subst (λ w. Joins c.in-Open.place (record s { waiting = w }) (state_of c.join.new.search)) rest c.join.ensures)

pub returns-in-Done-clause-search : goal.returns-in-Done-clause-search
returns-in-Done-clause-search c =
    let s = state_of c.args.search.now in
    let lists = c.args.lists.now in
    let n = c.in-Some.number in
    let old = c.args.search.now.waiting in
    let at = last_popped old.items old.len c.pop.result n old.ok.0 c.pop.ensures.variant.0 (c.pop.ensures.value 0) c.in-Some.is in
    let there = listed lists s n c.requires.search c.requires.waits at in
    let low = c.requires.low there.0 n there.1 in
    let done : stage_at s n ≡ Done = get_or_default s.stages n New c.index.result.now (omega (arith, low, c.requires.search.long)) ∙ sym c.index.ensures ∙ c.in-Done.is in
    let rest : c.pop.new.self.items ≡ take (length old.items - 1) old.items = c.pop.ensures.rest ∙ ap (λ k. take (k - 1) old.items) old.ok.0 in
    subst (λ w. IsSearch lists (record s { waiting = w })) (sym rest) (known_search lists s n c.requires.search c.requires.waits at done)
