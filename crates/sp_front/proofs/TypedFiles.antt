-- The units of files are such as the checks accept, so their program is well typed.
use Rattle.std.proofs.Common.{◌<◌, ℕ, List, [], ◌∷◌, All}
use Rattle.std.proofs.lemmas.List.Elements.{All-nil, All-cons, All-append}
use Rattle.sp_tree.specs.Names.{with_name}
use Rattle.sp_lexer.specs.Scan.{start}
use Rattle.sp_types.specs.Programs.{Program}
use Rattle.sp_base_checked.specs.Units.{CheckedUnit}
use Rattle.sp_check_typing.specs.Programs.{IsTypedProgram}
use Rattle.sp_lower.specs.Programs.{start_place}
use Rattle.sp_check_written_laws.specs.Laws.{UnitsAreWritten, AreByteNames, NamesAreBytes}
use Rattle.sp_check_written_laws.proofs.Named.{with_bytes}
use Rattle.sp_front_laws.specs.Programs.{IsChecked, ProgramsAreTyped}
use Rattle.sp_front.specs.Sources.{Source}
use Rattle.sp_front.specs.Files.{Progress, beginning, IsFileOf, AreFilesOf, none, another}
use Rattle.sp_front.specs.Answers.{IsProgramOf}

module _ (written : UnitsAreWritten) (named : NamesAreBytes) where
  -- the names after a file, whose own name is added first
  names_after : (before : Progress) (s : Source) (after : Progress) (unit : CheckedUnit)
      → IsFileOf before s after unit → AreByteNames before.names → AreByteNames after.names
  names_after before s after unit file h =
      named s.text (start file.scanned.number) (with_name before.names s.name) after.names
      file.scanned.bytes.text (with_bytes before.names s.name h file.scanned.bytes.name)
      file.scanned.named

  file_checked : (before : Progress) (s : Source) (after : Progress) (unit : CheckedUnit)
      → IsFileOf before s after unit → AreByteNames before.names → IsChecked unit
  file_checked before s after unit file h = record {
    names = after.names;
    bytes = names_after before s after unit file h;
    tree = file.tree;
    written = written after.names s.text (start file.scanned.number) before.room file.tokens
        (file.parsed.last ∷ []) file.tree file.scanned.bytes.text file.scanned.answer.found
        file.parsed.spells file.parsed.levelled;
    checked = file.checked;
  }

  files_checked : (before : Progress) (sources : List Source) (after : Progress) (units : List CheckedUnit)
      → AreFilesOf before sources after units → AreByteNames before.names
      → AreByteNames after.names × All IsChecked units
  files_checked before [] after [] none h = (h, All-nil IsChecked)
  files_checked before sources after units (another {sources = earlier} {mid = mid} {units = us} files s later unit file) h =
      let so_far : AreByteNames mid.names × All IsChecked us = files_checked before earlier mid us files h in (
        names_after mid s later unit file so_far.0,
        All-append IsChecked us (unit ∷ []) so_far.1
            (All-cons IsChecked unit [] (file_checked mid s later unit file so_far.0) (All-nil IsChecked)),
      )

  pub typed_program : ProgramsAreTyped → (sources : List Source) (names : List (List ℕ)) (p : Program)
      → IsProgramOf sources names p → IsTypedProgram p
  typed_program typed sources names p is =
      typed names start_place is.units p
      (files_checked beginning sources (record { names = names; room = is.room }) is.units is.files
      (All-nil (λ bytes. All (λ b. b < 256) bytes))).1 is.linked
