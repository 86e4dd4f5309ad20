use Rattle.std.proofs.Common.{◌≡◌, ◌||◌, ◌∙◌, map, rules, sym, ap, subst}
use Rattle.std.specs.Option.{option_map}
use Rattle.sp_lattice.specs.System.{has}
use Rattle.sp_ir.specs.View.{expression_of, lvalue_of, command_of}
use Rattle.sp_effect_rows.specs.Setting.{cell_of}
use Rattle.sp_effect_rows.specs.Storing.{may_hit}
use Rattle.sp_effect_scene.specs.Analysed.{setting_of}
use Rattle.sp_effect_scene.specs.View.{analysed_of}
use Rattle.sp_effect_call.specs.Copies.{result_defines}
use Rattle.sp_effect_library.specs.Written.{written_by}
use Rattle.sp_effect_library.specs.Effects.{written_to}
use Rattle.sp_transfer.specs.Effects.{defined_by}
use Rattle.sp_effect_uses.proofs.Steps.{or-parts}
use Rattle.sp_effect_uses.proofs.lists.add_defined_by.Goals as goal

pub returns-in_ok-add_start-in-Start : goal.returns-in_ok-add_start-in-Start
returns-in_ok-add_start-in-Start c = λ l. subst (λ x. has (cell_of (setting_of (analysed_of c.args.analysis.now)) l) c.add_start.new.set ≡ (has (cell_of (setting_of (analysed_of c.args.analysis.now)) l) c.args.set.now || defined_by (analysed_of c.args.analysis.now) c.args.node (command_of x) l)) (sym c.in-Start.is)
    (c.in_ok-add_start-in-Start.ensures l)

pub returns-in_ok-add_fresh-in-Entry : goal.returns-in_ok-add_fresh-in-Entry
returns-in_ok-add_fresh-in-Entry c = λ l. subst (λ x. has (cell_of (setting_of (analysed_of c.args.analysis.now)) l) c.add_fresh.new.set ≡ (has (cell_of (setting_of (analysed_of c.args.analysis.now)) l) c.args.set.now || defined_by (analysed_of c.args.analysis.now) c.args.node (command_of x) l)) (sym c.in-Entry.is)
    (c.in_ok-add_fresh-in-Entry.ensures l)

pub returns-in_ok-add_destination-in-Assign : goal.returns-in_ok-add_destination-in-Assign
returns-in_ok-add_destination-in-Assign c = λ l. subst (λ x. has (cell_of (setting_of (analysed_of c.args.analysis.now)) l) c.add_destination.new.set ≡ (has (cell_of (setting_of (analysed_of c.args.analysis.now)) l) c.args.set.now || defined_by (analysed_of c.args.analysis.now) c.args.node (command_of x) l)) (sym c.in-Assign.is)
    (c.in_ok-add_destination-in-Assign.ensures l)

pub returns-in_ok-add_stored-in-Copy : goal.returns-in_ok-add_stored-in-Copy
returns-in_ok-add_stored-in-Copy c = λ l. subst (λ x. has (cell_of (setting_of (analysed_of c.args.analysis.now)) l) c.add_stored.new.set ≡ (has (cell_of (setting_of (analysed_of c.args.analysis.now)) l) c.args.set.now || defined_by (analysed_of c.args.analysis.now) c.args.node (command_of x) l)) (sym c.in-Copy.is)
    (c.in_ok-add_stored-in-Copy.ensures l)

pub returns-in_ok-add_object-in-Init : goal.returns-in_ok-add_object-in-Init
returns-in_ok-add_object-in-Init c = λ l. subst (λ x. has (cell_of (setting_of (analysed_of c.args.analysis.now)) l) c.add_object.new.set ≡ (has (cell_of (setting_of (analysed_of c.args.analysis.now)) l) c.args.set.now || defined_by (analysed_of c.args.analysis.now) c.args.node (command_of x) l)) (sym c.in-Init.is)
    (c.in_ok-add_object-in-Init.ensures l)

pub returns-in_ok-add_sides-in-Assume : goal.returns-in_ok-add_sides-in-Assume
returns-in_ok-add_sides-in-Assume c = λ l. subst (λ x. has (cell_of (setting_of (analysed_of c.args.analysis.now)) l) c.add_sides.new.set ≡ (has (cell_of (setting_of (analysed_of c.args.analysis.now)) l) c.args.set.now || defined_by (analysed_of c.args.analysis.now) c.args.node (command_of x) l)) (sym c.in-Assume.is)
    (c.in_ok-add_sides-in-Assume.ensures l)

pub returns-in_ok-add_called-in-Call : goal.returns-in_ok-add_called-in-Call
returns-in_ok-add_called-in-Call c = λ l. subst (λ x. has (cell_of (setting_of (analysed_of c.args.analysis.now)) l) c.add_called.new.set ≡ (has (cell_of (setting_of (analysed_of c.args.analysis.now)) l) c.args.set.now || defined_by (analysed_of c.args.analysis.now) c.args.node (command_of x) l)) (sym c.in-Call.is)
    (c.in_ok-add_called-in-Call.ensures l)

pub returns-in_ok-add_result_stored-in-Library : goal.returns-in_ok-add_result_stored-in-Library
returns-in_ok-add_result_stored-in-Library c = λ l.
    let a = analysed_of c.args.analysis.now in
    let cell = cell_of (setting_of a) l in
    let args = map expression_of c.in-Library.args.items in
    let to = option_map lvalue_of c.in-Library.to in
    let written : has cell c.add_written.new.set ≡ (has cell c.args.set.now || may_hit (written_to a args c.in-Library.site (written_by c.in-Library.which)) l) =
    c.in_ok-add_written-in-Library.ensures l
    ∙ ap (λ es. has cell c.args.set.now || may_hit (written_to a (map expression_of es) c.in-Library.site c.written_by.result) l) c.deref.ensures.value
    ∙ ap (λ w. has cell c.args.set.now || may_hit (written_to a args c.in-Library.site w) l) c.written_by.ensures in
    let given : has cell c.add_result_stored.new.set ≡ (has cell c.add_written.new.set || result_defines a to l) = search rules in
    subst (λ x. has cell c.add_result_stored.new.set ≡ (has cell c.args.set.now || defined_by a c.args.node (command_of x) l)) (sym c.in-Library.is)
    (given ∙ ap (λ b. b || result_defines a to l) written ∙ or-parts (has cell c.args.set.now) (may_hit (written_to a args c.in-Library.site (written_by c.in-Library.which)) l) (result_defines a to l))
