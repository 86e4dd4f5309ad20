-- The laws of the rows of starts, entries and initialisers together.
use Rattle.std.proofs.Common.{◌≡◌, ℕ, List, get_or}
use Rattle.sp_ir.specs.Commands.{Leaf, start, init}
use Rattle.sp_ir.specs.Formed.{table_of}
use Rattle.sp_points_rules.specs.Puts.{command_at}
use Rattle.sp_eval.proofs.ProperLaws.{expression-proper}
use Rattle.sp_effect_rows.specs.Laws.{IsLawful}
use Rattle.sp_effect_scene.specs.Analysed.{Analysed, setting_of}
use Rattle.sp_effect_scene.specs.Whole.{IsAnalysed}
use Rattle.sp_effect_scene.specs.SceneLaws.{scene-is}
use Rattle.sp_effect_scene.proofs.Formed.{command-formed}
use Rattle.sp_effect_scene.proofs.AllLaws.{put-closed}
use Rattle.sp_effect_entry.specs.Initials.{initialising, init_defines, init_uses}
use Rattle.sp_effect_entry.specs.Starts.{starting, start_defines, start_uses}
use Rattle.sp_effect_entry.specs.Laws.{AreProper, EntryLaws}
use Rattle.sp_effect_entry.proofs.InitialLaws.{init-lawful}
use Rattle.sp_effect_entry.proofs.StartLaws.{starts-proper, entry-lawful, start-lawful}

module _ (a : Analysed) (whole : IsAnalysed a) (n : ℕ) where
  started : command_at a.program n ≡ start → IsLawful (setting_of a) (start_defines a) (start_uses a) (starting a)
  started is = start-lawful a (scene-is a whole) (put-closed a whole n start is) (starts-proper a.program whole.formed)

  module _ (o : ℕ) (leaves : List Leaf) (zeros : List ℕ) (is : command_at a.program n ≡ init o leaves zeros) where
    leaves-proper : AreProper leaves
    leaves-proper k d low =
        let found = command-formed a.program whole.formed n (init o leaves zeros) is in
        expression-proper (table_of a.program) found.0 (get_or leaves k d).value (found.1.4.leaves k d low).formed

    initialised : IsLawful (setting_of a) (init_defines a o) (init_uses a o leaves) (initialising a o leaves zeros)
    initialised = init-lawful a (scene-is a whole) o leaves zeros leaves-proper (put-closed a whole n (init o leaves zeros) is)

pub entry_laws : EntryLaws
entry_laws = record {
  started = started;
  entered = λ a whole. entry-lawful a (scene-is a whole);
  initialised = initialised;
  proper = leaves-proper;
}
