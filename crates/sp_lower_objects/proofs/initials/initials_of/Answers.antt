use Rattle.std.proofs.Common.{map}
use Rattle.sp_types.specs.View.{struct_of}
use Rattle.sp_types.specs.Programs.{object_of}
use Rattle.sp_lower_objects.specs.Initials.{initials_from}
use Rattle.sp_lower_objects.proofs.Past.{initials-turn}
use Rattle.sp_lower_objects.proofs.initials.initials_of.Goals as goal

pub loop-object-preserved : goal.loop-object-preserved
loop-object-preserved c =
    initials-turn (initials_from (map struct_of c.args.structs.now) 0 (map object_of c.args.objects.now)) (map struct_of c.args.structs.now) c.loop-object.initials.items c.push.new.self.items
    c.loop-object.root c.in_ok-count.count c.region_behind-root.result c.args.objects.now c.loop-object.object-index c.object-item.result c.in_ok-initial_at.field-0
    c.loop-object-test.true c.object-item.is c.in_ok-count.ensures c.in_ok-initial_at.ensures c.region_behind-root.ensures c.in_ok-push.ensures.items c.loop-object.invariant
