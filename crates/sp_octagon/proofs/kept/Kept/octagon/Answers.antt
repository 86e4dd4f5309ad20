use Rattle.std.proofs.Common.{◌≡◌, ℕ, ℤ, List, ◌<◌, ◌+◌, sym, ap, ◌∙◌, subst, arith}
use Rattle.sp_octagon.specs.declared.octagon.Octagon.{Octagon}
use Rattle.sp_octagon.specs.Entries.{entries_of}
use Rattle.sp_octagon.specs.Facts.{IsOctagon}
use Rattle.sp_octagon.specs.Octagons.{rows, entries}
use Rattle.sp_octagon.specs.Kept.{width, start}
use Rattle.sp_octagon.specs.inner.Reading.{ReadTo}
use Rattle.sp_octagon.proofs.OrderLaws.{octagon_same}
use Rattle.sp_octagon.proofs.Halves.{start-zero, start-next, place-small, read-first, read-all, octagon-equal}
use Rattle.sp_octagon.proofs.kept.Kept.octagon.Goals as goal

pub rows-init : goal.rows-init
rows-init c = record {
  room = omega arith;
  first = sym start-zero;
  read = read-first (rows c.args.self.now) (entries c.args.self.now) (entries_of c.change_entries.new.cells) c.change_entries.ensures.inside;
}

size_is : (o a : Octagon) (n : ℕ) → a ≡ o → a.size ≡ n → o.size ≡ n
size_is o a n e s = ap (λ (x : Octagon). x.size) (sym e) ∙ s

pub read_row-requires-clause-row : goal.read_row-requires-clause-row
read_row-requires-clause-row c =
    let size = size_is c.args.self.now _ c.self.inside.size c.self.view_is c.self.invariant.sized in
    omega (arith, size, c.rows-test.true)

pub overflow_add-first : goal.overflow_add-first
overflow_add-first c =
    let size = size_is c.args.self.now _ c.self.inside.size c.self.view_is c.self.invariant.sized in
    let row : c.rows.row < 16 = omega (arith, size, c.rows-test.true, c.args.self.now.facts.few) in
    let none : 0 < width c.rows.row = omega arith in
    let small = place-small c.rows.row 0 row none in
    omega (arith, small, row, c.rows.invariant.first, c.width-first.ensures)

pub rows-preserved : goal.rows-preserved
rows-preserved c = record {
  room = omega (arith, c.rows.invariant.room);
  first = ap (λ k. k + c.width-first.result) c.rows.invariant.first ∙ ap (λ k. start c.rows.row + k) c.width-first.ensures ∙ start-next c.rows.row;
  read = c.read_row.ensures;
}

all : (o : Octagon) (cells : List ℤ) (row : ℕ) → row ≡ rows o → ReadTo (rows o) (entries o) row 0 (entries_of cells) → (r k : ℕ) → r < 16 → k < 16 → entries_of cells r k ≡ entries o r k
all o cells row end read = read-all o (entries_of cells) (subst (λ (k : ℕ). ReadTo (rows o) (entries o) k 0 (entries_of cells)) end read)

pub invariant_of-result : goal.invariant_of-result
invariant_of-result c =
    let o = c.args.self.now in
    let size = size_is o _ c.self.inside.size c.self.view_is c.self.invariant.sized in
    let end : c.rows.row ≡ rows o = omega (arith, size, c.rows-test.false, c.rows.auto.row-end) in
    record { facts = subst (λ (n : ℕ). IsOctagon n c.rows.cells) size (octagon-equal o c.rows.cells c.rows.invariant.room (all o c.rows.cells c.rows.row end c.rows.invariant.read)) }

pub returns : goal.returns
returns c =
    let o = c.args.self.now in
    let size = size_is o _ c.self.inside.size c.self.view_is c.self.invariant.sized in
    let end : c.rows.row ≡ rows o = omega (arith, size, c.rows-test.false, c.rows.auto.row-end) in
    octagon_same _ o (sym size) (λ r k hr hk. all o c.rows.cells c.rows.row end c.rows.invariant.read r k (omega (arith, hr, size, o.facts.few)) (omega (arith, hk, size, o.facts.few)))
