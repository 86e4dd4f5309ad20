use Rattle.std.proofs.Common.{◌<◌, ◌+◌, ◌-◌, set, length, ap, subst, arith}
use Rattle.std.specs.List.{slice_range}
use Rattle.sp_sparse.specs.inner.Queue.{Removes}
use Rattle.sp_sparse.proofs.Windows.{node_low, first_left, last_moves}
use Rattle.sp_sparse.proofs.waiting.WaitingNodes.take.Goals as goal

pub index_mut-requires : goal.index_mut-requires
index_mut-requires c =
    let b = c.self.inside.buffer.items in
    let first = c.self.inside.first in
    let end = c.self.inside.end in
    let marks = c.self.inside.is_waiting.items in
    let low : c.args.index < length (slice_range b first end) = omega (arith, c.requires, ap (λ w. length w.waiting) c.self.view_is) in
    omega (arith, node_low b first end marks c.self.invariant c.args.index c.index-node.result.now low c.index-node.ensures, c.self.inside.is_waiting.ok.0)

pub invariant_of-self : goal.invariant_of-self
invariant_of-self c =
    let b = c.self.inside.buffer.items in
    let first = c.self.inside.first in
    let end = c.self.inside.end in
    let marks = c.self.inside.is_waiting.items in
    let low : c.args.index < length (slice_range b first end) = omega (arith, c.requires, ap (λ w. length w.waiting) c.self.view_is) in
    (first_left b first end marks c.self.invariant c.args.index c.index-node.result.now low c.index-node.ensures c.if-index-eq0.true).0

pub returns-then-index-eq0-clause-there : goal.returns-then-index-eq0-clause-there
returns-then-index-eq0-clause-there c =
    let b = c.self.inside.buffer.items in
    let first = c.self.inside.first in
    let end = c.self.inside.end in
    let marks = c.self.inside.is_waiting.items in
    let low : c.args.index < length (slice_range b first end) = omega (arith, c.requires, ap (λ w. length w.waiting) c.self.view_is) in
    omega (arith, node_low b first end marks c.self.invariant c.args.index c.index-node.result.now low c.index-node.ensures, ap (λ w. w.nodes) c.self.view_is)

pub returns-then-index-eq0-clause-removed : goal.returns-then-index-eq0-clause-removed
returns-then-index-eq0-clause-removed c =
    let b = c.self.inside.buffer.items in
    let first = c.self.inside.first in
    let end = c.self.inside.end in
    let marks = c.self.inside.is_waiting.items in
    let low : c.args.index < length (slice_range b first end) = omega (arith, c.requires, ap (λ w. length w.waiting) c.self.view_is) in
    subst (λ xs. Removes xs (slice_range b (first + 1) end) c.index-node.result.now) (ap (λ w. w.waiting) c.self.view_is) (first_left b first end marks c.self.invariant c.args.index c.index-node.result.now low c.index-node.ensures c.if-index-eq0.true).1

pub invariant_of-self-2 : goal.invariant_of-self-2
invariant_of-self-2 c =
    let b = c.self.inside.buffer.items in
    let first = c.self.inside.first in
    let end = c.self.inside.end in
    let marks = c.self.inside.is_waiting.items in
    let low : c.args.index < length (slice_range b first end) = omega (arith, c.requires, ap (λ w. length w.waiting) c.self.view_is) in
    (last_moves b first end marks c.self.invariant c.args.index c.index-node.result.now low c.index-node.ensures c.index.result.now c.index.ensures).0

pub returns-clause-there : goal.returns-clause-there
returns-clause-there c =
    let b = c.self.inside.buffer.items in
    let first = c.self.inside.first in
    let end = c.self.inside.end in
    let marks = c.self.inside.is_waiting.items in
    let low : c.args.index < length (slice_range b first end) = omega (arith, c.requires, ap (λ w. length w.waiting) c.self.view_is) in
    omega (arith, node_low b first end marks c.self.invariant c.args.index c.index-node.result.now low c.index-node.ensures, ap (λ w. w.nodes) c.self.view_is)

pub returns-clause-removed : goal.returns-clause-removed
returns-clause-removed c =
    let b = c.self.inside.buffer.items in
    let first = c.self.inside.first in
    let end = c.self.inside.end in
    let marks = c.self.inside.is_waiting.items in
    let low : c.args.index < length (slice_range b first end) = omega (arith, c.requires, ap (λ w. length w.waiting) c.self.view_is) in
    subst (λ xs. Removes xs (slice_range (set b (first + c.args.index) c.index.result.now) first (end - 1)) c.index-node.result.now) (ap (λ w. w.waiting) c.self.view_is) (last_moves b first end marks c.self.invariant c.args.index c.index-node.result.now low c.index-node.ensures c.index.result.now c.index.ensures).1
