-- The law of these rows.
use Rattle.sp_effect_library.specs.Laws.{LibraryLaws}
use Rattle.sp_effect_library.proofs.RowLaws.{row-lawful}

pub library_laws : LibraryLaws
library_laws a whole n which to args site is = row-lawful a whole n which args site to is
