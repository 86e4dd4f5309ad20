use Rattle.std.proofs.Common.{◌*◌, ◌∙◌, arith}
use Rattle.sp_octagon.specs.Entries.{entries_of}
use Rattle.sp_octagon.specs.Walks.{closed_entry}
use Rattle.sp_octagon.specs.Changes.{no_bounds}
use Rattle.sp_octagon.proofs.Rounds.{rounds-first, within_all}
use Rattle.sp_octagon.proofs.Closures.{closed-proper}
use Rattle.sp_octagon.proofs.Matrices.{matrix-from}
use Rattle.sp_octagon.proofs.Proper.{no_bounds-proper}
use Rattle.sp_octagon.proofs.closing.close_entries.Goals as goal

pub shortest_walks-requires-clause-first : goal.shortest_walks-requires-clause-first
shortest_walks-requires-clause-first c =
    rounds-first (2 * c.args.size) c.args.size (entries_of c.args.cells.now) (omega (arith, c.requires.size)) c.requires.matrix

pub take_half_sums-requires-clause-within : goal.take_half_sums-requires-clause-within
take_half_sums-requires-clause-within c =
    within_all (2 * c.args.size) (entries_of c.args.cells.now) (2 * c.args.size) (entries_of c.shortest_walks.new.cells) (omega (arith, c.requires.size)) c.if-shortest_walks.ensures.walks

pub returns-then-shortest_walks-clause-closed : goal.returns-then-shortest_walks-clause-closed
returns-then-shortest_walks-clause-closed c = record {
  walks = entries_of c.shortest_walks.new.cells;
  after = c.if-shortest_walks.ensures.walks;
  entries = c.take_half_sums.ensures.inside;
}

pub returns-then-shortest_walks-clause-matrix : goal.returns-then-shortest_walks-clause-matrix
returns-then-shortest_walks-clause-matrix c =
    let d = entries_of c.shortest_walks.new.cells in
    matrix-from c.args.size (entries_of c.args.cells.now) (entries_of c.take_half_sums.new.cells) (closed_entry d) c.requires.size c.requires.matrix
    (closed-proper c.args.size (entries_of c.args.cells.now) d c.requires.size c.requires.matrix c.if-shortest_walks.ensures.walks)
    c.take_half_sums.ensures.inside
    (λ r k hr hk far. c.take_half_sums.ensures.outside r k hr hk far ∙ c.if-shortest_walks.ensures.outside r k hr hk far)

pub returns-else-shortest_walks-clause-matrix : goal.returns-else-shortest_walks-clause-matrix
returns-else-shortest_walks-clause-matrix c =
    matrix-from c.args.size (entries_of c.args.cells.now) (entries_of c.change_entries.new.cells) no_bounds c.requires.size c.requires.matrix
    (no_bounds-proper (2 * c.args.size)) c.change_entries.ensures.inside
    (λ r k hr hk far. c.change_entries.ensures.outside r k hr hk far ∙ c.if-shortest_walks.ensures.outside r k hr hk far)
