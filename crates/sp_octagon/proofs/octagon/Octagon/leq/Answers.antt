use Rattle.std.proofs.Common.{sym, ◌∙◌}
use Rattle.sp_octagon.specs.Octagons.{rows, entries}
use Rattle.sp_octagon.proofs.OrderLaws.{below_from_test, test_from_below}
use Rattle.sp_octagon.proofs.octagon.Octagon.leq.Goals as goal

pub returns-clause-below : goal.returns-clause-below
returns-clause-below c =
    let a = c.args.self.now in
    let b = c.args.other.now in
    let value = c.is_below.ensures in
    (λ h. below_from_test (rows a) (entries a) (entries b) (sym value ∙ h), λ h. value ∙ test_from_below (rows a) (entries a) (entries b) h)
