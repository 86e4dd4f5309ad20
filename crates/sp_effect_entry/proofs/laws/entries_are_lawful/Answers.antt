use Rattle.sp_effect_entry.proofs.AllLaws.{entry_laws}
use Rattle.sp_effect_entry.proofs.laws.entries_are_lawful.Goals as goal

pub returns : goal.returns
returns c = record { laws = entry_laws }
