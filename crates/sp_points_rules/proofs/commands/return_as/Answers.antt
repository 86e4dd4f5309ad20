use Rattle.std.proofs.Common.{sym, subst}
use Rattle.sp_ir.specs.Programs.{lowered_of}
use Rattle.sp_ir.specs.Commands.{lvalue_type}
use Rattle.sp_ir.specs.View.{expression_of, lvalue_of}
use Rattle.sp_points_rules.specs.Gathered.{Adds}
use Rattle.sp_points_rules.specs.Sources.{cells, results}
use Rattle.sp_ir.specs.Denoted.{keeps_targets}
use Rattle.sp_points_rules.specs.declared.sources.Only.TheVariants.{Every}
use Rattle.sp_points_rules.specs.declared.sources.Test.TheVariants.{AnyScalar}
use Rattle.sp_points_rules.specs.Puts.{all_of, read_of, Product, ReturnsAs}
use Rattle.sp_points_rules.proofs.Cases.{kept_adds}
use Rattle.sp_points_rules.proofs.commands.return_as.Goals as goal

pub returns-in_ok-product-in-None : goal.returns-in_ok-product-in-None
returns-in_ok-product-in-None c =
    let b = c.product.new.out in
    let to = lvalue_of c.args.to.now in
    let callee = expression_of c.args.callee.now in
    subst (λ o. Adds c.args.facts.now.rows.now (λ u x r. ReturnsAs (lowered_of c.args.facts.now.lowered.now) u callee c.args.count o to x r) c.args.out.now b) c.in-None.ensures
    (kept_adds c.args.facts.now.rows.now c.args.out.now b (keeps_targets (lvalue_type to)) (λ u x r. Product (lowered_of c.args.facts.now.lowered.now) u (all_of (cells to)) (read_of Every (results callee c.args.count AnyScalar)) x r) (sym c.if-keeps.ensures) c.in_ok-product-in-None.ensures)
