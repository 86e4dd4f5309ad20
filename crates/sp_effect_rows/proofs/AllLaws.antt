-- The laws of rows together.
use Rattle.sp_effect_rows.specs.Laws.{RowLaws}
use Rattle.sp_effect_rows.proofs.EffectLaws.{row-effect}
use Rattle.sp_effect_rows.proofs.StoringLaws.{storing-lawful, joining-lawful, storing-plain, joining-plain}
use Rattle.sp_effect_rows.proofs.PlacingLaws.{placing-lawful, untouched-lawful, followed-lawful}

pub row_laws : RowLaws
row_laws a is = record {
  effects = row-effect a is;
  storing_lawful = storing-lawful a is;
  joining_lawful = joining-lawful a is;
  placing_lawful = placing-lawful a is;
  untouched_lawful = untouched-lawful a;
  followed_lawful = followed-lawful a is;
  storing_plain = storing-plain a is;
  joining_plain = joining-plain a is;
}
