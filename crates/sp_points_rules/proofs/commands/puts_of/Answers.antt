use Rattle.std.proofs.Common.{map, sym, subst}
use Rattle.std.specs.Prelude.{slice_get, option_map}
use Rattle.sp_ir.specs.Programs.{lowered_of}
use Rattle.sp_ir.specs.View.{expression_of, lvalue_of, command_of}
use Rattle.sp_points_rules.specs.Gathered.{Adds}
use Rattle.sp_points_rules.specs.Puts.{Passes, GivesResult, Moves, Puts, given_by, moved_by}
use Rattle.sp_points_rules.proofs.Finding.{adds_then}
use Rattle.sp_points_rules.proofs.commands.puts_of.Goals as goal

pub returns-in_ok-assign_put-in-Assign : goal.returns-in_ok-assign_put-in-Assign
returns-in_ok-assign_put-in-Assign c = subst (λ x. Adds c.args.facts.now.rows.now (λ u y r. Puts (lowered_of c.args.facts.now.lowered.now) u (command_of x) y r) c.args.out.now c.assign_put.new.out) (sym c.in-Assign.is) c.in_ok-assign_put-in-Assign.ensures

pub returns-in_ok-copy_put-in-Copy : goal.returns-in_ok-copy_put-in-Copy
returns-in_ok-copy_put-in-Copy c = subst (λ x. Adds c.args.facts.now.rows.now (λ u y r. Puts (lowered_of c.args.facts.now.lowered.now) u (command_of x) y r) c.args.out.now c.copy_put.new.out) (sym c.in-Copy.is) c.in_ok-copy_put-in-Copy.ensures

pub returns-in_ok-pass_each-in-Call : goal.returns-in_ok-pass_each-in-Call
returns-in_ok-pass_each-in-Call c = subst (λ x. Adds c.args.facts.now.rows.now (λ u y r. Puts (lowered_of c.args.facts.now.lowered.now) u (command_of x) y r) c.args.out.now c.pass_each.new.out) (sym c.in-Call.is) (subst (λ xs. Adds c.args.facts.now.rows.now (λ u y r. Passes (lowered_of c.args.facts.now.lowered.now) u (expression_of c.in-Call.callee) (map expression_of xs) y r) c.args.out.now c.pass_each.new.out) c.deref-in-Call.ensures.value c.in_ok-pass_each-in-Call.ensures)

pub returns-in_ok-move_cells-in-Library : goal.returns-in_ok-move_cells-in-Library
returns-in_ok-move_cells-in-Library c = subst (λ x. Adds c.args.facts.now.rows.now (λ u y r. Puts (lowered_of c.args.facts.now.lowered.now) u (command_of x) y r) c.args.out.now c.move_cells.new.out) (sym c.in-Library.is)
    (let mid = c.give.new.out in
    let b = c.move_cells.new.out in
    let to = option_map lvalue_of c.in-Library.to in
    let args = c.in-Library.args.items in
    let site = c.in-Library.site in
    let first = subst (λ g. Adds c.args.facts.now.rows.now (λ u y r. GivesResult (lowered_of c.args.facts.now.lowered.now) u g to (map expression_of args) site y r) c.args.out.now mid) c.given_by.ensures
    (subst (λ xs. Adds c.args.facts.now.rows.now (λ u y r. GivesResult (lowered_of c.args.facts.now.lowered.now) u c.given_by.result to (map expression_of xs) site y r) c.args.out.now mid) c.deref-in-Library.ensures.value c.in_ok-give-in-Library.ensures) in
    let second = subst (λ g. Adds c.args.facts.now.rows.now (λ u y r. Moves (lowered_of c.args.facts.now.lowered.now) u g (slice_get (map expression_of args) 0) (slice_get (map expression_of args) 1) y r) mid b) c.moved_by.ensures
    (subst (λ xs. Adds c.args.facts.now.rows.now (λ u y r. Moves (lowered_of c.args.facts.now.lowered.now) u c.moved_by.result (slice_get (map expression_of xs) 0) (slice_get (map expression_of xs) 1) y r) mid b) c.deref-in-Library-2.ensures.value c.in_ok-move_cells-in-Library.ensures) in
    adds_then c.args.facts.now.rows.now (λ u y r. GivesResult (lowered_of c.args.facts.now.lowered.now) u (given_by c.in-Library.which) to (map expression_of args) site y r) (λ u y r. Moves (lowered_of c.args.facts.now.lowered.now) u (moved_by c.in-Library.which) (slice_get (map expression_of args) 0) (slice_get (map expression_of args) 1) y r) c.args.out.now mid b first second)

pub returns-in_ok-from_outside-in-Outside : goal.returns-in_ok-from_outside-in-Outside
returns-in_ok-from_outside-in-Outside c = subst (λ x. Adds c.args.facts.now.rows.now (λ u y r. Puts (lowered_of c.args.facts.now.lowered.now) u (command_of x) y r) c.args.out.now c.from_outside.new.out) (sym c.in-Outside.is) c.in_ok-from_outside-in-Outside.ensures
