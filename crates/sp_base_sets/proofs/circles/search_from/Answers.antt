use Rattle.std.proofs.Common.{◌≡◌, ◌≢◌, ◌≤◌, length, Some, sym, ap, ◌∙◌, subst, arith}
use Rattle.sp_base_sets.specs.Circling.{state_of, stage_at, last_part, IsSearch, GoesOn}
use Rattle.sp_base_sets.specs.declared.circles.Stage.TheVariants.{New}
use Rattle.sp_base_sets.proofs.Endings.{ended_search, settled_goes_on}
use Rattle.sp_base_sets.proofs.Leaving.{ended_less}
use Rattle.sp_base_sets.proofs.Going.{first_search, no_parts, some_parts, entered_seen}
use Rattle.sp_base_sets.proofs.circles.search_from.Goals as goal

pub walk-init : goal.walk-init
walk-init c =
    let lists = c.args.lists.now in
    let s = state_of c.args.search.now in
    let n = c.args.number in
    let seen = entered_seen lists s n (omega (arith, c.requires.number, c.requires.search.0.long)) in
    subst (λ t. record { search : IsSearch lists t; seen : GoesOn s t; here : stage_at t n ≢ New }) (sym c.in_ok-enter.ensures.entered)
    (record { search = first_search lists s n c.requires.search c.requires.number c.requires.new; seen = seen.0; here = seen.1 })

pub walk-smaller : goal.walk-smaller
walk-smaller c =
    let s = state_of c.walk.search in
    let e : last_part s.parts ≡ Some c.in-Some.part = sym (c.last_part.ensures ∙ ap last_part c.as_slice.ensures.value) ∙ c.in-Some.is in
    ended_less c.args.lists.now c.in-Some.part s (state_of c.end_part.new.search) (some_parts s.parts c.in-Some.part e) c.end_part.ensures

pub walk-preserved : goal.walk-preserved
walk-preserved c =
    let lists = c.args.lists.now in
    let i = c.walk.invariant in
    let s = state_of c.walk.search in
    let t = state_of c.end_part.new.search in
    let part = c.in-Some.part in
    let e : last_part s.parts ≡ Some part = sym (c.last_part.ensures ∙ ap last_part c.as_slice.ensures.value) ∙ c.in-Some.is in
    let none : length s.waiting ≤ part.waiting = omega (arith, c.if-len-part.false, c.len.ensures, c.walk.search.waiting.ok.0) in
    let on = settled_goes_on part.start c.end_part.ensures.mark s t i.search.path c.end_part.ensures.settled in
    record {
      search = ended_search lists s t part i.search e none c.end_part.ensures;
      seen = λ n known. on n (i.seen n known);
      here = on c.args.number i.here;
    }

pub returns-clause-idle : goal.returns-clause-idle
returns-clause-idle c =
    let s = state_of c.walk.search in
    (c.walk.invariant.search, no_parts s.parts (sym (c.last_part.ensures ∙ ap last_part c.as_slice.ensures.value) ∙ c.in_default.is))
