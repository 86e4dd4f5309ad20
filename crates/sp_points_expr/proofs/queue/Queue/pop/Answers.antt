use Rattle.std.proofs.Common.{◌≡◌, ◌∙◌, ◌++◌, ◌∷◌, [], length, ap, sym, subst, set, false, arith, length-append}
use Rattle.std.proofs.lemmas.List.{nil_from_length}
use Rattle.sp_base_sets.specs.Sets.{has}
use Rattle.sp_points_expr.specs.Queue.{AreMarked}
use Rattle.sp_points_expr.proofs.Waiting.{waiting_last, waiting_popped, waiting_few, others_wait}
use Rattle.sp_points_expr.proofs.queue.Queue.pop.Goals as goal

pub index_mut-requires : goal.index_mut-requires
index_mut-requires c =
    let marks = c.self.inside.is_waiting.items in
    let xs = c.turn.new.next.items in
    let are = subst (λ l. AreMarked marks (xs ++ l)) c.in_ok-number.ensures.items (subst (λ l. AreMarked marks l) (sym c.turn.ensures.same) c.self.invariant) in
    let last = waiting_last marks xs c.pop.new.self.items c.in_ok-number.number are in
    omega (arith, last.1, c.self.inside.is_waiting.ok)

pub invariant_of-self-2 : goal.invariant_of-self-2
invariant_of-self-2 c =
    let marks = c.self.inside.is_waiting.items in
    let xs = c.turn.new.next.items in
    let are = subst (λ l. AreMarked marks (xs ++ l)) c.in_ok-number.ensures.items (subst (λ l. AreMarked marks l) (sym c.turn.ensures.same) c.self.invariant) in
    waiting_popped marks xs c.pop.new.self.items c.in_ok-number.number are

pub returns-clause-numbers : goal.returns-clause-numbers
returns-clause-numbers c =
    let marks = c.self.inside.is_waiting.items in
    let xs = c.turn.new.next.items in
    let ys = c.pop.new.self.items in
    let n = c.in_ok-number.number in
    let are = subst (λ l. AreMarked marks (xs ++ l)) c.in_ok-number.ensures.items (subst (λ l. AreMarked marks l) (sym c.turn.ensures.same) c.self.invariant) in
    let last = waiting_last marks xs ys n are in
    let old = sym (ap (λ l. xs ++ l) c.in_ok-number.ensures.items) ∙ c.turn.ensures.same ∙ ap (λ q. q.numbers) c.self.view_is in (
      omega (arith, last.1, ap (λ q. q.count) c.self.view_is),
      omega (arith, ap length old, length-append xs (ys ++ n ∷ []), length-append ys (n ∷ []), length-append xs ys),
      λ k apart h. others_wait xs ys n k apart (ap (λ l. has k l) old ∙ h),
    )

pub returns-clause-few : goal.returns-clause-few
returns-clause-few c = waiting_few (set c.self.inside.is_waiting.items c.in_ok-number.number false) (c.turn.new.next.items ++ c.pop.new.self.items) (invariant_of-self-2 c)

pub returns-in_err-number-clause-numbers : goal.returns-in_err-number-clause-numbers
returns-in_err-number-clause-numbers c =
    let now_none : c.turn.new.now.items ≡ [] = nil_from_length c.turn.new.now.items (omega (arith, c.in_err-number.ensures.cases.0, c.turn.new.now.ok)) in
    let next_none = c.turn.ensures.left now_none in
    let pop_none : c.pop.new.self.items ≡ [] = nil_from_length c.pop.new.self.items (omega (arith, c.in_err-number.ensures.cases.1, c.pop.new.self.ok)) in
    rw c.from_residual.ensures (
      sym (ap (λ q. q.numbers) c.self.view_is) ∙ sym c.turn.ensures.same ∙ ap (λ l. l ++ c.turn.new.now.items) next_none ∙ now_none,
      ap (λ l. l ++ c.pop.new.self.items) next_none ∙ pop_none,
    )

pub returns-in_err-number-clause-few : goal.returns-in_err-number-clause-few
returns-in_err-number-clause-few c =
    let now_none : c.turn.new.now.items ≡ [] = nil_from_length c.turn.new.now.items (omega (arith, c.in_err-number.ensures.cases.0, c.turn.new.now.ok)) in
    let next_none = c.turn.ensures.left now_none in
    let pop_none : c.pop.new.self.items ≡ [] = nil_from_length c.pop.new.self.items (omega (arith, c.in_err-number.ensures.cases.1, c.pop.new.self.ok)) in
    omega (arith, ap length (ap (λ l. l ++ c.pop.new.self.items) next_none ∙ pop_none))
