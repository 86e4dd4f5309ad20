use Rattle.std.proofs.Common.{sym, arith, map}
use Rattle.std.specs.List.{list_any}
use Rattle.sp_effect_scene.specs.View.{analysed_of}
use Rattle.sp_lattice.specs.System.{has}
use Rattle.std.specs.Prelude.{flat_map}
use Rattle.sp_ir.specs.Programs.{Object, object_of}
use Rattle.sp_ir.specs.View.{leaf_of}
use Rattle.sp_effect_scene.specs.Analysed.{scene_of}
use Rattle.sp_effect_entry.specs.Initials.{leaf_reads}
use Rattle.sp_effect_uses.specs.Parts.{Adds}
use Rattle.sp_effect_uses.proofs.Steps.{adds-begun, adds-next, adds-all, adds-as, has-flat_map-map, changed}
use Rattle.sp_effect_uses.proofs.structs.add_starts.Goals as goal

pub loop-object-init : goal.loop-object-init
loop-object-init c = adds-begun (λ x r. has r (leaf_reads (scene_of (analysed_of c.args.analysis.now)) (object_of x).start)) c.args.objects.now c.args.set.now

pub loop-object-preserved : goal.loop-object-preserved
loop-object-preserved c =
    adds-next (λ x r. has r (leaf_reads (scene_of (analysed_of c.args.analysis.now)) (object_of x).start)) c.args.objects.now c.loop-object.object-index c.object-item.result c.args.set.now c.loop-object.set c.add_leaves.new.set c.loop-object-test.true c.object-item.is c.loop-object.invariant (changed (λ ls. Adds (λ r. has r (leaf_reads (scene_of (analysed_of c.args.analysis.now)) (map leaf_of ls))) c.loop-object.set c.add_leaves.new.set) c.deref.ensures.value c.in_ok-add_leaves.ensures)

pub returns : goal.returns
returns c =
    adds-as (λ r. list_any (λ x. has r (leaf_reads (scene_of (analysed_of c.args.analysis.now)) (object_of x).start)) c.args.objects.now) (λ r. has r (flat_map (λ o. leaf_reads (scene_of (analysed_of c.args.analysis.now)) o.start) (map object_of c.args.objects.now))) c.args.set.now c.loop-object.set
    (λ r. sym (has-flat_map-map (λ (o : Object). leaf_reads (scene_of (analysed_of c.args.analysis.now)) o.start) object_of c.args.objects.now r))
    (adds-all (λ x r. has r (leaf_reads (scene_of (analysed_of c.args.analysis.now)) (object_of x).start)) c.args.objects.now c.loop-object.object-index c.args.set.now c.loop-object.set (omega (arith, c.loop-object-test.false)) c.loop-object.invariant)
