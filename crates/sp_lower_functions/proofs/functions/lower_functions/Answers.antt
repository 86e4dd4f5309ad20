use Rattle.std.proofs.Common.{◌≡◌, ℕ, ◌+◌, List, map, drop, get_or, slice_get, Some, refl, ap, sym, ◌∙◌}
use Rattle.sp_types.specs.Programs.{Function, function_of}
use Rattle.sp_lower_draft.specs.Context.{Context}
use Rattle.sp_lower_draft.specs.View.{context_of, draft_of}
use Rattle.sp_lower_body.specs.Frames.{Frame}
use Rattle.sp_lower_body.specs.View.{initial_view}
use Rattle.sp_lower_functions.specs.Functions.{functions_at, frame_for}
use Rattle.sp_lower_functions.proofs.Turns.{functions-rest, function-turn}
use Rattle.sp_lower_functions.proofs.functions.lower_functions.Goals as goal

pub loop-k-preserved : goal.loop-k-preserved
loop-k-preserved c =
    let here : Context = context_of c.args.scope.now in
    let fs : List Function = map function_of c.args.scope.now.functions.now in
    let defs : List ℕ = c.args.definitions.now in
    let k : ℕ = c.loop-k.k in
    let g : Function = function_of c.in-Some.function.now in
    let n : ℕ = get_or defs k 0 in
    let there : slice_get fs n ≡ Some g = sym c.in-Some.ensures in
    let at : ℕ → Frame = λ m. frame_for here (map initial_view c.args.initials.now) m c.loop-k.first c.count_at-count.result g in
    function-turn here (map initial_view c.args.initials.now) _ k c.loop-k.first c.in_ok-first.first c.count_at-count.result g (functions_at fs (drop k defs)) (functions_at fs (drop (k + 1) defs)) c.args.counts.now (at c.in-Ok.number) c.loop-k.parts.items c.push.new.self.items c.in_ok-one.one.part (draft_of c.loop-k.draft) (draft_of c.in_ok-one.one.draft)
    (functions-rest fs defs k 0 n g c.loop-k-test.true refl there)
    c.count_at-count.ensures (ap at c.in-Ok.ensures.1) c.in_ok-one.ensures.draft c.in_ok-one.ensures.part c.in_ok-push.ensures.items
    (c.in_ok-first.ensures ∙ ap (λ m. m + c.result_count.result) c.in_ok-number_behind.ensures ∙ ap (λ m. c.loop-k.first + c.count_at-count.result + m) c.result_count.ensures)
    c.loop-k.invariant
