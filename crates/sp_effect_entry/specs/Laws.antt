-- The laws of these rows, as the layers above use them.
use Rattle.std.specs.Prelude.{◌≡◌, ℕ, true, false, List, All}
use Rattle.sp_ir.specs.Commands.{Leaf, start, init}
use Rattle.sp_ir.specs.Programs.{Object}
use Rattle.sp_points_rules.specs.Puts.{command_at}
use Rattle.sp_eval.specs.Evaluation.{is_proper}
use Rattle.sp_effect_rows.specs.Laws.{IsLawful}
use Rattle.sp_effect_scene.specs.Analysed.{Analysed, setting_of}
use Rattle.sp_effect_scene.specs.Whole.{IsAnalysed}
use Rattle.sp_effect_entry.specs.Initials.{initialising, init_defines, init_uses}
use Rattle.sp_effect_entry.specs.Entries.{entering, entry_defines}
use Rattle.sp_effect_entry.specs.Starts.{starting, start_defines, start_uses}

-- the value of each leaf is proper
abbrev pub AreProper : List Leaf → Type 0
AreProper leaves = All (λ leaf. is_proper leaf.value ≡ true) leaves

-- so is each start value of these objects
abbrev pub AreProperStarts : List Object → Type 0
AreProperStarts objects = All (λ o. AreProper o.start) objects

-- in a whole analysis each is a lawful row, with these definitions and uses; and the values that an
-- initialiser of the program names are proper
pub record EntryLaws : Type 0 where
  pub started : (a : Analysed) → IsAnalysed a → (n : ℕ) → command_at a.program n ≡ start
      → IsLawful (setting_of a) (start_defines a) (start_uses a) (starting a)
  pub entered : (a : Analysed) → IsAnalysed a → (f : ℕ)
      → IsLawful (setting_of a) (entry_defines a f) (λ l. false) (entering a f)
  pub initialised : (a : Analysed) → IsAnalysed a → (n o : ℕ) (leaves : List Leaf)
      (zeros : List ℕ) → command_at a.program n ≡ init o leaves zeros
      → IsLawful (setting_of a) (init_defines a o) (init_uses a o leaves)
      (initialising a o leaves zeros)
  pub proper : (a : Analysed) → IsAnalysed a → (n o : ℕ) (leaves : List Leaf)
      (zeros : List ℕ) → command_at a.program n ≡ init o leaves zeros → AreProper leaves
