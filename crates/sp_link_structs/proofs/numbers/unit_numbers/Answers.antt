use Rattle.std.proofs.Common.{◌<◌, map, length, arith, ◌∙◌, ap}
use Rattle.sp_types.specs.View.{struct_of}
use Rattle.sp_link_structs.specs.Matched.{of_unit}
use Rattle.sp_link_structs.specs.Turns.{number_by}
use Rattle.sp_link_structs.proofs.NumberLaws.{numbers_more}
use Rattle.sp_link_structs.proofs.numbers.unit_numbers.Goals as goal

pub structs-preserved : goal.structs-preserved
structs-preserved c =
    let inside : c.structs.k < length c.args.structs.now = omega arith in
    numbers_more (number_by c.args.numbering.now) c.args.unit c.structs.k c.args.structs.now c.structs.numbers.items c.push.new.self.items c.number.result c.index-structs-k.result
    (map (number_by c.args.numbering.now) (of_unit c.args.unit 0 (map struct_of c.args.structs.now)))
    inside c.in_ok-push.ensures.items (c.number.ensures ∙ ap (number_by c.args.numbering.now) c.in_ok-entity.ensures) c.structs.invariant
