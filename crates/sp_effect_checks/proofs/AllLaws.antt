-- The laws of cuts together.
use Rattle.sp_effect_checks.specs.Laws.{CheckLaws}
use Rattle.sp_effect_checks.proofs.CuttingLaws.{cutting-lawful}
use Rattle.sp_effect_checks.proofs.CutLaws.{cuts-lawful}
use Rattle.sp_effect_checks.proofs.NamedLaws.{named-read, unchecked, checked-applied}

pub check_laws : CheckLaws
check_laws = record {
  cutting_lawful = cutting-lawful;
  cuts_lawful = cuts-lawful;
  named_read = named-read;
  unchecked = unchecked;
  checked_applied = checked-applied;
}
