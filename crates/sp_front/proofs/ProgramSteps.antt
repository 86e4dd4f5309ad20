-- The program of files, and its lowering.
use Rattle.std.proofs.Common.{◌≡◌, ℕ, List, Err, inr, subst}
use Rattle.sp_types.specs.Programs.{Program}
use Rattle.sp_base_checked.specs.Answers.{accepted, refused}
use Rattle.sp_base_checked.specs.declared.error.CheckError.{CheckError}
use Rattle.sp_base_checked.specs.declared.error.CheckError.TheVariants as check
use Rattle.sp_base_checked.specs.Units.{CheckedUnit}
use Rattle.sp_link_units.specs.Links.{Links, LinksTo}
use Rattle.sp_lower.specs.declared.program.LowerError.{LowerError}
use Rattle.sp_lower.specs.declared.program.LowerError.TheVariants as lower
use Rattle.sp_lower.specs.Programs.{start_place}
use Rattle.sp_lower.specs.Answers.{Lowers}
use Rattle.sp_front.specs.Sources.{Source}
use Rattle.sp_front.specs.Answers.{IsProgramOf, past_limit, Answers}
use Rattle.sp_front.specs.inner.Errors.{of_check, of_lower}
use Rattle.sp_front.specs.inner.Steps.{AreUnits, MakesProgram}

-- units that are linked are a program
pub linked : (sources : List Source) (names : List (List ℕ)) (units seen : List CheckedUnit) (p : Program)
    → AreUnits sources names units → seen ≡ units → Links names start_place seen (accepted p)
    → IsProgramOf sources names p
linked sources names units seen p read same links = record {
  units = units;
  room = read.room;
  files = read.files;
  linked = subst (λ us. Links names start_place us (accepted p)) same links;
}

-- units that aren't are refused
pub not_linked : (sources : List Source) (names : List (List ℕ)) (units seen : List CheckedUnit) (e : CheckError)
    → AreUnits sources names units → seen ≡ units → LinksTo names start_place seen (Err e)
    → MakesProgram sources names (Err (of_check e))
not_linked sources names units seen (check.Fault f) read same links = inr (record {
  units = units;
  room = read.room;
  files = read.files;
  linked = subst (λ us. Links names start_place us (refused f.kind f.place)) same links;
})
not_linked sources names units seen check.NoMemory read same links = tt

-- files are refused as a program past a limit is
pub past : (sources : List Source) (names : List (List ℕ)) (p : Program) (e : LowerError)
    → IsProgramOf sources names p → Lowers p names (Err e) → Answers sources names (Err (of_lower e))
past sources names p (lower.Fault f) is stands = past_limit p is stands.0 stands.1
past sources names p lower.NoMemory is stands = tt
