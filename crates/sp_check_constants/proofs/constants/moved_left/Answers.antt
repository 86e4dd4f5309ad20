use Rattle.std.proofs.Common.{◌∙◌, ap, sym, subst, ℤ, ◌*ℤ◌}
use Rattle.std.specs.Int.{w128}
use Rattle.std.specs.Int.RustNames.{FitsSigned}
use Rattle.sp_check_constants.specs.Constants.{within}
use Rattle.sp_check_constants.proofs.Wrapping.{settled, power_fits}
use Rattle.sp_check_constants.proofs.constants.moved_left.Goals as goal

pub pow-requires : goal.pow-requires
pow-requires c = power_fits c.args.by c.requires

pub returns : goal.returns
returns c =
    let fits : FitsSigned w128 c.pow.result = subst (FitsSigned w128) (sym c.pow.ensures) (power_fits c.args.by c.requires) in
    settled c.args.kind c.product.result (λ a b. a *ℤ b) c.args.x c.pow.result c.ranges.x fits c.product.ensures
    ∙ ap (λ p. within c.args.kind (c.args.x *ℤ p)) c.pow.ensures
