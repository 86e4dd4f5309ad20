use Rattle.std.proofs.Common.{◌∙◌, ap}
use Rattle.std.specs.Prelude.{flat_map}
use Rattle.std.specs.List.{list_any}
use Rattle.sp_lattice.specs.System.{has}
use Rattle.sp_ir.specs.View.{lvalue_of}
use Rattle.sp_points_rules.specs.Paths.{reaches}
use Rattle.sp_effect_scene.specs.View.{analysed_of}
use Rattle.sp_effect_call.specs.Copied.{cells_in}
use Rattle.sp_effect_uses.specs.Parts.{stands_at, found_by}
use Rattle.sp_effect_uses.proofs.Steps.{adds-as, adds-both}
use Rattle.sp_effect_uses.proofs.Picked.{under-cells}
use Rattle.sp_effect_uses.proofs.structs.add_struct.Goals as goal

pub returns : goal.returns
returns c =
    adds-both (flat_map (cells_in (analysed_of c.args.analysis.now).program) (stands_at (analysed_of c.args.analysis.now) (lvalue_of c.args.from.now))) (found_by (analysed_of c.args.analysis.now) (lvalue_of c.args.from.now))
    c.args.set.now c.add_all_under.new.set c.add_pointer_uses.new.set
    (adds-as (λ r. list_any (λ q. reaches (analysed_of c.args.analysis.now).program q r) c.as_slice.result.now) (λ r. has r (flat_map (cells_in (analysed_of c.args.analysis.now).program) (stands_at (analysed_of c.args.analysis.now) (lvalue_of c.args.from.now)))) c.args.set.now c.add_all_under.new.set
    (under-cells (analysed_of c.args.analysis.now).program c.as_slice.result.now (stands_at (analysed_of c.args.analysis.now) (lvalue_of c.args.from.now)) (λ x. ap (has x) c.as_slice.ensures.numbers ∙ c.in_ok-regions.ensures x))
    c.in_ok-add_all_under.ensures)
    c.in_ok-add_pointer_uses.ensures
