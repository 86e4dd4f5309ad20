use Rattle.std.proofs.Common.{sym, arith, map}
use Rattle.std.specs.List.{list_any}
use Rattle.sp_effect_scene.specs.View.{analysed_of}
use Rattle.sp_lattice.specs.System.{has}
use Rattle.sp_ir.specs.Commands.{Leaf}
use Rattle.sp_ir.specs.View.{leaf_of}
use Rattle.sp_effect_scene.specs.Analysed.{scene_of}
use Rattle.sp_effect_entry.specs.Initials.{leaf_reads}
use Rattle.sp_effect_uses.specs.Parts.{read_by}
use Rattle.sp_effect_uses.proofs.Steps.{adds-begun, adds-next, adds-all, adds-as, has-flat_map-map}
use Rattle.sp_effect_uses.proofs.structs.add_leaves.Goals as goal

pub loop-leaf-init : goal.loop-leaf-init
loop-leaf-init c = adds-begun (λ x r. has r (read_by (analysed_of c.args.analysis.now) (leaf_of x).value)) c.args.leaves.now c.args.set.now

pub loop-leaf-preserved : goal.loop-leaf-preserved
loop-leaf-preserved c =
    adds-next (λ x r. has r (read_by (analysed_of c.args.analysis.now) (leaf_of x).value)) c.args.leaves.now c.loop-leaf.leaf-index c.leaf-item.result c.args.set.now c.loop-leaf.set c.add_uses.new.set c.loop-leaf-test.true c.leaf-item.is c.loop-leaf.invariant c.in_ok-add_uses.ensures

pub returns : goal.returns
returns c =
    adds-as (λ r. list_any (λ x. has r (read_by (analysed_of c.args.analysis.now) (leaf_of x).value)) c.args.leaves.now) (λ r. has r (leaf_reads (scene_of (analysed_of c.args.analysis.now)) (map leaf_of c.args.leaves.now))) c.args.set.now c.loop-leaf.set
    (λ r. sym (has-flat_map-map (λ (leaf : Leaf). read_by (analysed_of c.args.analysis.now) leaf.value) leaf_of c.args.leaves.now r))
    (adds-all (λ x r. has r (read_by (analysed_of c.args.analysis.now) (leaf_of x).value)) c.args.leaves.now c.loop-leaf.leaf-index c.args.set.now c.loop-leaf.set (omega (arith, c.loop-leaf-test.false)) c.loop-leaf.invariant)
