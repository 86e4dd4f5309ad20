use Rattle.std.proofs.Common.{ap, sym, ◌∙◌}
use Rattle.sp_ir.specs.Programs.{lowered_of}
use Rattle.sp_points_rules.specs.Paths.{object_at}
use Rattle.sp_base_sets.specs.Sets.{has}
use Rattle.sp_effect_scene.proofs.analysis.Analysis.under.Goals as goal

pub returns-clause-under : goal.returns-clause-under
returns-clause-under c = λ k h. ap (has k) c.under.ensures ∙ c.args.self.now.grouped.under c.args.region k h

pub returns-clause-own : goal.returns-clause-own
returns-clause-own c = λ k h. c.args.self.now.grouped.own (object_at (lowered_of c.args.self.now.lowered) c.args.region) k (ap (has k) (sym c.under.ensures) ∙ h)

pub returns-clause-cells : goal.returns-clause-cells
returns-clause-cells c = λ k h. c.args.self.now.grouped.cells (object_at (lowered_of c.args.self.now.lowered) c.args.region) k (ap (has k) (sym c.under.ensures) ∙ h)
