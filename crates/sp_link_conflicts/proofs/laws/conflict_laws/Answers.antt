use Rattle.sp_link_conflicts.proofs.Pairs.{conflicts_are_one, conflicts_exclude, agreement_is_harmony}
use Rattle.sp_link_conflicts.proofs.laws.conflict_laws.Goals as goal

pub returns-clause-one : goal.returns-clause-one
returns-clause-one c = conflicts_are_one

pub returns-clause-exclude : goal.returns-clause-exclude
returns-clause-exclude c = conflicts_exclude

pub returns-clause-pairs : goal.returns-clause-pairs
returns-clause-pairs c = agreement_is_harmony
