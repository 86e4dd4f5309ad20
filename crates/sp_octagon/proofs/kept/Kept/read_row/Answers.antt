use Rattle.std.proofs.Common.{◌≡◌, ◌<◌, ◌+◌, ℕ, get_or, FitsSigned, sym, ap, ◌∙◌, subst, rules, arith}
use Rattle.std.specs.Int.{w128}
use Rattle.std.proofs.lemmas.Int.{to_z-of_z}
use Rattle.sp_octagon.specs.Entries.{entries_of}
use Rattle.sp_octagon.specs.Octagons.{rows, entries}
use Rattle.sp_octagon.specs.Kept.{width, half_of}
use Rattle.sp_octagon.specs.inner.Reading.{ReadTo}
use Rattle.sp_octagon.proofs.Halves.{place-small, kept-room, kept-value, read-next, read-next_row}
use Rattle.sp_octagon.proofs.kept.Kept.read_row.Goals as goal

pub overflow_add-first : goal.overflow_add-first
overflow_add-first c =
    let row : c.args.row < 16 = omega (arith, c.requires.row, c.args.self.now.facts.few) in
    let column : c.columns.column < width c.args.row = omega (arith, c.width-column-end.ensures, c.columns-test.true) in
    let small = place-small c.args.row c.columns.column row column in
    omega (arith, c.requires.first, small)

pub index-requires : goal.index-requires
index-requires c =
    let column : c.columns.column < width c.args.row = omega (arith, c.width-column-end.ensures, c.columns-test.true) in
    let is = ap half_of (sym c.self.view_is) ∙ c.self.invariant.half in
    let room = kept-room c.args.self.now c.self.inside.bounds.items c.args.row c.columns.column is c.requires.row column in
    omega (arith, c.requires.first, room)

pub columns-preserved : goal.columns-preserved
columns-preserved c =
    let o = c.args.self.now in
    let column : c.columns.column < width c.args.row = omega (arith, c.width-column-end.ensures, c.columns-test.true) in
    let kept : half_of c.args.self.now ≡ c.self.inside.bounds.items = ap half_of (sym c.self.view_is) ∙ c.self.invariant.half in
    let fits : FitsSigned w128 c.index.result.now = search rules in
    let written = simp to_z-of_z at c.set_pair.ensures.written in
    let value = c.index.ensures ∙ ap (λ k. get_or c.self.inside.bounds.items (k + c.columns.column) c.index.result.now) c.requires.first
    ∙ kept-value o c.self.inside.bounds.items c.args.row c.columns.column c.index.result.now kept c.requires.row column in
    read-next o.size c.args.row c.columns.column (entries o) (entries_of c.columns.cells) (entries_of c.set_pair.new.cells) c.index.result.now o.facts.few o.facts.matrix c.requires.row column value written c.columns.invariant

pub returns : goal.returns
returns c =
    let end : c.columns.column ≡ width c.args.row = omega (arith, c.width-column-end.ensures) in
    read-next_row (rows c.args.self.now) (entries c.args.self.now) c.args.row (entries_of c.columns.cells)
    (subst (λ (k : ℕ). ReadTo (rows c.args.self.now) (entries c.args.self.now) c.args.row k (entries_of c.columns.cells)) end c.columns.invariant)
