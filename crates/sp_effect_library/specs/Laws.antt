-- The law of these rows, as the layers above use it.
use Rattle.std.specs.Prelude.{◌≡◌, ℕ, List, Option}
use Rattle.sp_ir.specs.declared.command.Routine.{Routine}
use Rattle.sp_ir.specs.Commands.{Expression, Lvalue, library}
use Rattle.sp_points_rules.specs.Puts.{command_at}
use Rattle.sp_effect_rows.specs.Laws.{IsLawful}
use Rattle.sp_effect_scene.specs.Analysed.{Analysed, setting_of}
use Rattle.sp_effect_scene.specs.Whole.{IsAnalysed}
use Rattle.sp_effect_library.specs.Effects.{library_row, library_defines, library_uses}

-- in a whole analysis the row of each call of the library is lawful, with these definitions and uses
abbrev pub LibraryLaws : Type 0
LibraryLaws = (a : Analysed) → IsAnalysed a → (n : ℕ) (which : Routine) (to : Option Lvalue)
    (args : List Expression) (site : Option ℕ)
    → command_at a.program n ≡ library which to args site
    → IsLawful (setting_of a) (library_defines a args site which to)
    (library_uses a args site which to) (library_row a args site which to)
