use Rattle.std.proofs.Common.{ap, ◌∙◌}
use Rattle.sp_ir.specs.declared.expr.Expr.{Expr}
use Rattle.sp_ir.specs.View.{expression_of}
use Rattle.sp_eval.specs.Evaluation.{is_proper}
use Rattle.sp_effect_alarms.proofs.Lists.{all-at}
use Rattle.sp_effect_alarms.proofs.nodes.add_list.Goals as goal

pub add_expression-requires : goal.add_expression-requires
add_expression-requires g c =
    ap (λ (e : Expr). is_proper (expression_of e)) c.expr-item.is
    ∙ all-at is_proper expression_of c.args.exprs.now c.loop-expr.expr-index c.expr-item.result c.loop-expr-test.true c.requires
