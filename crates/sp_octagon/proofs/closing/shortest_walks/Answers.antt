use Rattle.std.proofs.Common.{◌∙◌, arith}
use Rattle.sp_octagon.specs.Entries.{entries_of}
use Rattle.sp_octagon.proofs.Rounds.{rounds-step, step_negative, within_all}
use Rattle.sp_octagon.proofs.closing.shortest_walks.Goals as goal

pub pass_through-requires-clause-within : goal.pass_through-requires-clause-within
pass_through-requires-clause-within c =
    within_all c.args.count (entries_of c.args.cells.now) c.rounds.middle (entries_of c.rounds.cells) (omega (arith, c.requires.count)) c.rounds.invariant.after

pub pass_through-requires-clause-diagonal : goal.pass_through-requires-clause-diagonal
pass_through-requires-clause-diagonal c = c.rounds.invariant.after.diagonal c.rounds.middle c.rounds-test.true

pub returns-then-has_negative-clause-walks : goal.returns-then-has_negative-clause-walks
returns-then-has_negative-clause-walks c =
    let found = c.if-has_negative.ensures in
    step_negative c.args.count (entries_of c.args.cells.now) c.rounds.middle (entries_of c.rounds.cells) (entries_of c.pass_through.new.cells)
    c.requires.count c.rounds-test.true c.rounds.invariant.after c.pass_through.ensures.inside found.0 found.1 found.2

pub rounds-preserved : goal.rounds-preserved
rounds-preserved c = record {
  after = rounds-step c.args.count (entries_of c.args.cells.now) c.rounds.middle (entries_of c.rounds.cells) (entries_of c.pass_through.new.cells)
      c.requires.count c.rounds-test.true c.rounds.invariant.after c.pass_through.ensures.inside c.if-has_negative.ensures;
  outside = λ r k hr hk far. c.pass_through.ensures.outside r k hr hk far ∙ c.rounds.invariant.outside r k hr hk far;
}
