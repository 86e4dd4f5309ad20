use Rattle.std.proofs.Common.{◌≡◌, ◌∙◌, ◌<◌, ◌++◌, false, length, get_or, ap, sym, subst, set, true, arith}
use Rattle.std.proofs.lemmas.Bool.{false≢true}
use Rattle.std.proofs.lemmas.List.{get_or_default}
use Rattle.sp_base_sets.specs.Sets.{has}
use Rattle.sp_base_sets.proofs.Members.{same_member}
use Rattle.sp_points_expr.specs.Queue.{AreMarked}
use Rattle.sp_points_expr.proofs.Waiting.{waiting_pushed, waits_marked, waiting_few}
use Rattle.sp_points_expr.proofs.queue.Queue.push.Goals as goal

pub invariant_of-self-2 : goal.invariant_of-self-2
invariant_of-self-2 c =
    let marks = c.self.inside.is_waiting.items in
    let n = c.args.number in
    let low : n < length marks = omega (arith, c.requires, ap (λ q. q.count) c.self.view_is) in
    subst (λ zs. AreMarked (set marks n true) (zs ++ c.self.inside.now.items)) (sym c.in_ok-push.ensures.items)
    (waiting_pushed marks c.self.inside.next.items c.self.inside.now.items n low c.self.invariant (get_or_default marks n _ _ low ∙ sym c.index.ensures ∙ c.if-index.false))

pub returns-then-index-clause-numbers : goal.returns-then-index-clause-numbers
returns-then-index-clause-numbers c k =
    let marks = c.self.inside.is_waiting.items in
    let n = c.args.number in
    let low : n < length marks = omega (arith, c.requires, ap (λ q. q.count) c.self.view_is) in
    let is : get_or marks n false ≡ true = get_or_default marks n _ _ low ∙ sym c.index.ensures ∙ c.if-index.true in
    let there = sym (ap (λ q. has n q.numbers) c.self.view_is) ∙ waits_marked marks (c.self.inside.next.items ++ c.self.inside.now.items) c.self.invariant n ∙ is in
    same_member c.args.self.now.numbers n k there

pub returns-then-index-clause-few : goal.returns-then-index-clause-few
returns-then-index-clause-few c =
    let few = waiting_few c.self.inside.is_waiting.items (c.self.inside.next.items ++ c.self.inside.now.items) c.self.invariant in
    omega (arith, few, ap (λ q. q.count) c.self.view_is, ap (λ q. length q.numbers) c.self.view_is)

pub returns-clause-few : goal.returns-clause-few
returns-clause-few c = waiting_few (set c.self.inside.is_waiting.items c.args.number true) (c.push.new.self.items ++ c.self.inside.now.items) (invariant_of-self-2 c)

pub returns-clause-same : goal.returns-clause-same
returns-clause-same c h =
    let marks = c.self.inside.is_waiting.items in
    let n = c.args.number in
    let low : n < length marks = omega (arith, c.requires, ap (λ q. q.count) c.self.view_is) in
    let free : get_or marks n false ≡ false = get_or_default marks n _ _ low ∙ sym c.index.ensures ∙ c.if-index.false in
    let there = ap (λ q. has n q.numbers) c.self.view_is ∙ h in
    absurd (false≢true (sym (waits_marked marks (c.self.inside.next.items ++ c.self.inside.now.items) c.self.invariant n ∙ free) ∙ there))
