use Rattle.std.proofs.Common.{◌≡◌, ◌<◌, ◌∙◌, refl, sym, eqb-true}
use Rattle.sp_deps.specs.Rows.{total, most_dependencies}
use Rattle.sp_deps.proofs.Adding.{row_there, last, gained, rows_more, exceeds, room_left}
use Rattle.sp_deps.proofs.collect.add_found.Goals as goal

pub returns-then-is_full-clause-refused : goal.returns-then-is_full-clause-refused
returns-then-is_full-clause-refused c =
    let at = c.loop-from.invariant in
    let i = c.loop-from.from-index in
    let full : total c.loop-from.deps ≡ most_dependencies = eqb-true (total c.loop-from.deps) most_dependencies (sym c.is_full.ensures.full ∙ c.if-is_full.true) in (
      refl,
      exceeds c.args.deps.now c.loop-from.deps c.args.found.now i 0 c.args.location c.args.to c.loop-from-test.true c.requires.once at.kept c.requires.before at.so_far (c.requires.low i 0 c.loop-from-test.true) full,
    )

pub add-requires-clause-there : goal.add-requires-clause-there
add-requires-clause-there c =
    let at = c.loop-from.invariant in
    let i = c.loop-from.from-index in
    row_there c.args.deps.now c.loop-from.deps c.args.found.now i 0 c.args.location c.args.to c.loop-from-test.true c.requires.once at.kept c.requires.before at.so_far (c.requires.low i 0 c.loop-from-test.true)

pub add-requires-clause-last : goal.add-requires-clause-last
add-requires-clause-last c =
    let at = c.loop-from.invariant in
    let i = c.loop-from.from-index in
    last c.args.deps.now c.loop-from.deps c.args.found.now i 0 c.args.location c.args.to c.loop-from-test.true c.requires.once at.kept c.requires.before at.so_far (c.requires.low i 0 c.loop-from-test.true)

pub loop-from-preserved : goal.loop-from-preserved
loop-from-preserved c =
    let at = c.loop-from.invariant in
    let i = c.loop-from.from-index in
    let there = c.requires.low i 0 c.loop-from-test.true in
    let room : total c.loop-from.deps < most_dependencies = room_left (total c.loop-from.deps) c.is_full.ensures.few (sym c.is_full.ensures.full ∙ c.if-is_full.false) in
    record {
      kept =
          rows_more c.args.deps.now c.loop-from.deps c.args.found.now i 0 c.args.location c.args.to c.loop-from-test.true c.requires.once at.kept c.requires.before at.so_far there c.add.new.self c.in_ok-add.ensures room;
      so_far = gained c.args.deps.now c.loop-from.deps c.args.found.now i 0 c.args.location c.args.to c.loop-from-test.true c.requires.once at.kept c.requires.before at.so_far there c.add.new.self c.in_ok-add.ensures;
    }
