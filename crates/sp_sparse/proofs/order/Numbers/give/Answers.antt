use Rattle.std.proofs.Common.{◌≡◌, false, length, slice_index_or, sym, subst, arith}
use Rattle.sp_sparse.proofs.Numbering.{set-less, one-given}
use Rattle.sp_sparse.proofs.order.Numbers.give.Goals as goal

pub overflow_add-self : goal.overflow_add-self
overflow_add-self c =
    let ns = c.args.self.now in
    let are = c.requires.numbers in
    let new : slice_index_or ns.given.items c.args.node false ≡ false =
    sym (subst (λ b. b ≡ slice_index_or ns.given.items c.args.node b) c.if-not-index.true c.index.ensures) in
    let less = set-less ns.given.items c.args.node (omega (arith, c.if-at-len.true, c.len.ensures)) new in
    let count = are.count in
    let marks = are.marks in
    omega (arith, less, count, marks, c.requires.few)

pub returns-then-not-index-clause-numbers : goal.returns-then-not-index-clause-numbers
returns-then-not-index-clause-numbers c =
    let ns = c.args.self.now in
    let are = c.requires.numbers in
    let new : slice_index_or ns.given.items c.args.node false ≡ false =
    sym (subst (λ b. b ≡ slice_index_or ns.given.items c.args.node b) c.if-not-index.true c.index.ensures) in
    let marks = are.marks in
    one-given (length ns.order.items) ns.order.items ns.given.items ns.next c.args.node are
    (omega (arith, c.if-at-len.true, c.len.ensures, marks)) new
