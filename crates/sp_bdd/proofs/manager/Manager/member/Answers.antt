use Rattle.std.proofs.Common.{◌≡◌, ◌<◌, ◌∙◌, ℕ, zero, suc, List, eqb, refl, sym, arith}
use Rattle.sp_bdd.specs.Diagram.{Diagram, holds}
use Rattle.sp_bdd.specs.Table.{diagram, diagrams}
use Rattle.sp_bdd.specs.inner.Formed.{diagram_at}
use Rattle.sp_bdd.proofs.Giving.{set_is}
use Rattle.sp_bdd.proofs.Telling.{has-listed}
use Rattle.sp_bdd.proofs.manager.Manager.member.Goals as goal

-- what the two ends say
at_end : (ds : List Diagram) (edge row : ℕ) → edge < 2 → eqb edge 1 ≡ holds (diagram_at ds edge) row
at_end ds zero row low = refl
at_end ds (suc zero) row low = refl
at_end ds (suc (suc k)) row low = absurd (omega arith)

pub returns-clause-listed : goal.returns-clause-listed
returns-clause-listed c = λ small.
    let m = c.args.self.now in
    let is = set_is m c.args.set c.formed.ensures c.requires in
    at_end (diagrams m) c.loop-edge.edge c.args.row c.loop-edge-test.false ∙ c.loop-edge.invariant.holds
    ∙ sym (has-listed m.bits (diagram m c.args.set) c.args.row is.reduced is.within small)
