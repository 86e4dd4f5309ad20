use Rattle.sp_effect_library.proofs.AllLaws.{library_laws}
use Rattle.sp_effect_library.proofs.laws.library_is_lawful.Goals as goal

pub returns : goal.returns
returns c = record { laws = library_laws }
