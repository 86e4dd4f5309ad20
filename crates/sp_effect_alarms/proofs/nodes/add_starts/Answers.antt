use Rattle.std.proofs.Common.{map, ap, ◌∙◌}
use Rattle.sp_ir.specs.Programs.{Object as PlainObject, object_of}
use Rattle.sp_ir.specs.View.{leaf_of}
use Rattle.sp_ir.specs.declared.program.Object.{Object}
use Rattle.sp_effect_alarms.specs.Commands.{are_proper_leaves}
use Rattle.sp_effect_alarms.proofs.Lists.{all-at}
use Rattle.sp_effect_alarms.proofs.nodes.add_starts.Goals as goal

pub add_leaves-requires : goal.add_leaves-requires
add_leaves-requires g c =
    ap (λ ls. are_proper_leaves (map leaf_of ls)) c.deref.ensures.value
    ∙ ap (λ (o : Object). are_proper_leaves (map leaf_of o.start.items)) c.object-item.is
    ∙ all-at (λ (o : PlainObject). are_proper_leaves o.start) object_of c.args.objects.now c.loop-object.object-index c.object-item.result c.loop-object-test.true c.requires
