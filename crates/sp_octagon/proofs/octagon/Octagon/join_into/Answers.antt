use Rattle.std.proofs.Common.{ℕ, sym, subst}
use Rattle.sp_octagon.specs.Facts.{IsMatrix}
use Rattle.sp_octagon.specs.Order.{joined}
use Rattle.sp_octagon.specs.Octagons.{entries}
use Rattle.sp_octagon.proofs.ChangeLaws.{joined-proper}
use Rattle.sp_octagon.proofs.Made.{becomes_made}
use Rattle.sp_octagon.proofs.octagon.Octagon.join_into.Goals as goal

pub returns-clause-value : goal.returns-clause-value
returns-clause-value c =
    let a = c.args.self.now in
    let b = c.args.other.now in
    becomes_made a c.raise.new.self (joined (entries a) (entries b))
    (joined-proper a.size (entries a) (entries b) a.facts.few a.facts.matrix (subst (λ (n : ℕ). IsMatrix n (entries b)) (sym c.requires) b.facts.matrix))
    c.raise.ensures
