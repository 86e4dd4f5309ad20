use Rattle.std.proofs.Common.{ap, ◌∙◌}
use Rattle.sp_ir.specs.Commands.{Leaf as PlainLeaf}
use Rattle.sp_ir.specs.declared.command.Leaf.{Leaf}
use Rattle.sp_ir.specs.View.{expression_of, leaf_of}
use Rattle.sp_eval.specs.Evaluation.{is_proper}
use Rattle.sp_effect_alarms.proofs.Lists.{all-at}
use Rattle.sp_effect_alarms.proofs.nodes.add_leaves.Goals as goal

pub add_expression-requires : goal.add_expression-requires
add_expression-requires g c =
    ap (λ (l : Leaf). is_proper (expression_of l.value)) c.leaf-item.is
    ∙ all-at (λ (l : PlainLeaf). is_proper l.value) leaf_of c.args.leaves.now c.loop-leaf.leaf-index c.leaf-item.result c.loop-leaf-test.true c.requires
