use Rattle.std.proofs.Common.{◌≡◌, map, option_map, true, suc, Some, ◌-◌, sym, ap, ◌∙◌, arith}
use Rattle.sp_types.specs.View.{struct_of}
use Rattle.sp_check_initialisers.specs.InitView.{init_of, part_of}
use Rattle.sp_check_initialisers.specs.Runs.{is_structure, into_struct}
use Rattle.sp_check_initialisers.proofs.Order.{inwards_step}
use Rattle.sp_check_initialisers.proofs.runs.inwards.Goals as goal

pub levels-preserved : goal.levels-preserved
levels-preserved c =
    let ss = map struct_of c.args.structs.now in
    let i = init_of c.args.init.now in
    let before = part_of c.levels.part in
    let after = part_of c.in-Some.next in
    let entered : into_struct ss i before ≡ Some after = sym c.in_ok-next.ensures ∙ ap (option_map part_of) c.in-Some.is in
    let structure : is_structure before.of ≡ true = cc in
    let less : c.levels.levels ≡ suc (c.levels.levels - 1) = omega arith in
    sym (inwards_step ss i c.levels.levels (c.levels.levels - 1) before after less structure entered) ∙ c.levels.invariant
