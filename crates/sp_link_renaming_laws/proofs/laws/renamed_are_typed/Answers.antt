use Rattle.sp_link_renaming_laws.proofs.Trees.{renamed_typed}
use Rattle.sp_link_renaming_laws.proofs.Statements.{bodies_renamed}
use Rattle.sp_link_renaming_laws.proofs.Constants.{stored_same}
use Rattle.sp_link_renaming_laws.proofs.laws.renamed_are_typed.Goals as goal

pub returns : goal.returns
returns c = record { expressions = renamed_typed; bodies = bodies_renamed; constants = stored_same }
