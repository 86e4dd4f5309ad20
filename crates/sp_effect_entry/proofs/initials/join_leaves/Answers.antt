use Rattle.std.proofs.Common.{◌≡◌, true, map, arith}
use Rattle.sp_ir.specs.Commands.{Leaf}
use Rattle.sp_ir.specs.View.{leaf_of}
use Rattle.sp_eval.specs.Evaluation.{is_proper}
use Rattle.sp_effect_rows.specs.Updates.{store_of}
use Rattle.sp_effect_scene.specs.View.{analysed_of}
use Rattle.sp_effect_entry.proofs.Lists.{all_at, mapped_at}
use Rattle.sp_effect_entry.proofs.Steps.{joins-begun, joins-next, joins-viewed, leaf_slot}
use Rattle.sp_effect_entry.proofs.initials.join_leaves.Goals as goal

pub loop-leaf-init : goal.loop-leaf-init
loop-leaf-init g c = λ k h. joins-begun (λ x. leaf_slot (analysed_of c.args.analysis.now) (λ n. g.V.View.store c.args.view.now n) k (leaf_of x)) c.args.leaves.now (store_of c.args.places.now c.args.row.now k)

pub join_leaf-requires-clause-proper : goal.join_leaf-requires-clause-proper
join_leaf-requires-clause-proper g c = all_at (λ (leaf : Leaf). is_proper leaf.value ≡ true) (map leaf_of c.args.leaves.now) c.requires.proper c.loop-leaf.leaf-index (leaf_of c.leaf-item.result)
    (mapped_at leaf_of c.args.leaves.now c.loop-leaf.leaf-index c.leaf-item.result c.loop-leaf-test.true c.leaf-item.is)

pub loop-leaf-preserved : goal.loop-leaf-preserved
loop-leaf-preserved g c = λ k h.
    joins-next (λ x. leaf_slot (analysed_of c.args.analysis.now) (λ n. g.V.View.store c.args.view.now n) k (leaf_of x)) c.args.leaves.now c.loop-leaf.leaf-index c.leaf-item.result
    (store_of c.args.places.now c.args.row.now k) (store_of c.args.places.now c.loop-leaf.row k) (store_of c.args.places.now c.join_leaf.new.row k)
    c.loop-leaf-test.true c.leaf-item.is (c.loop-leaf.invariant k h) (c.in_ok-join_leaf.ensures k h)

pub returns : goal.returns
returns g c = λ k h.
    joins-viewed (leaf_slot (analysed_of c.args.analysis.now) (λ n. g.V.View.store c.args.view.now n) k) leaf_of c.args.leaves.now c.loop-leaf.leaf-index
    (store_of c.args.places.now c.args.row.now k) (store_of c.args.places.now c.loop-leaf.row k) (omega (arith, c.loop-leaf-test.false)) (c.loop-leaf.invariant k h)
