use Rattle.sp_effect_rows.proofs.AllLaws.{row_laws}
use Rattle.sp_effect_rows.proofs.laws.rows_are_lawful.Goals as goal

pub returns : goal.returns
returns c = record { laws = row_laws }
