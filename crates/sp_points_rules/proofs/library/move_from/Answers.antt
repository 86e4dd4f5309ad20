use Rattle.std.proofs.Common.{sym, subst}
use Rattle.sp_ir.specs.Programs.{lowered_of}
use Rattle.sp_ir.specs.View.{expression_of}
use Rattle.sp_points_rules.specs.Gathered.{Adds}
use Rattle.sp_points_rules.specs.Puts.{MovesFrom}
use Rattle.sp_points_rules.proofs.library.move_from.Goals as goal

pub returns-in_ok-copying-in-AllCells : goal.returns-in_ok-copying-in-AllCells
returns-in_ok-copying-in-AllCells c = subst (λ x. Adds c.args.facts.now.rows.now (λ u y r. MovesFrom (lowered_of c.args.facts.now.lowered.now) u x (expression_of c.args.target.now) (expression_of c.args.source.now) y r) c.args.out.now c.copying.new.out) (sym c.in-AllCells.is) c.in_ok-copying-in-AllCells.ensures

pub returns-in_ok-product-in-Text : goal.returns-in_ok-product-in-Text
returns-in_ok-product-in-Text c = subst (λ x. Adds c.args.facts.now.rows.now (λ u y r. MovesFrom (lowered_of c.args.facts.now.lowered.now) u x (expression_of c.args.target.now) (expression_of c.args.source.now) y r) c.args.out.now c.product.new.out) (sym c.in-Text.is) c.in_ok-product-in-Text.ensures
