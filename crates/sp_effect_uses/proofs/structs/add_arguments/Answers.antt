use Rattle.std.proofs.Common.{sym, arith, map}
use Rattle.std.specs.List.{list_any}
use Rattle.sp_effect_scene.specs.View.{analysed_of}
use Rattle.sp_ir.specs.View.{expression_of}
use Rattle.sp_points_rules.specs.Puts.{as_struct}
use Rattle.sp_lattice.specs.System.{has}
use Rattle.sp_effect_call.specs.Copies.{argument_reads, arguments_read}
use Rattle.sp_effect_uses.proofs.Steps.{adds-begun, adds-next, adds-all, adds-as, has-flat_map-map}
use Rattle.sp_effect_uses.proofs.structs.add_arguments.Goals as goal

pub loop-arg-init : goal.loop-arg-init
loop-arg-init c = adds-begun (λ x r. has r (argument_reads (analysed_of c.args.analysis.now) (expression_of x) (as_struct (expression_of x)))) c.args.args.now c.args.set.now

pub loop-arg-preserved : goal.loop-arg-preserved
loop-arg-preserved c =
    adds-next (λ x r. has r (argument_reads (analysed_of c.args.analysis.now) (expression_of x) (as_struct (expression_of x)))) c.args.args.now c.loop-arg.arg-index c.arg-item.result c.args.set.now c.loop-arg.set c.add_argument.new.set c.loop-arg-test.true c.arg-item.is c.loop-arg.invariant c.in_ok-add_argument.ensures

pub returns : goal.returns
returns c =
    adds-as (λ r. list_any (λ x. has r (argument_reads (analysed_of c.args.analysis.now) (expression_of x) (as_struct (expression_of x)))) c.args.args.now) (λ r. has r (arguments_read (analysed_of c.args.analysis.now) (map expression_of c.args.args.now))) c.args.set.now c.loop-arg.set
    (λ r. sym (has-flat_map-map (λ e. argument_reads (analysed_of c.args.analysis.now) e (as_struct e)) expression_of c.args.args.now r))
    (adds-all (λ x r. has r (argument_reads (analysed_of c.args.analysis.now) (expression_of x) (as_struct (expression_of x)))) c.args.args.now c.loop-arg.arg-index c.args.set.now c.loop-arg.set (omega (arith, c.loop-arg-test.false)) c.loop-arg.invariant)
