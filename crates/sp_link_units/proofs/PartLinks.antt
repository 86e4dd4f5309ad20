-- What the parts of linking answer is what the units give.
use Rattle.std.proofs.Common.{◌≡◌, ℕ, List, Ok, Err, refl}
use Rattle.std.specs.Prelude.{Result}
use Rattle.sp_tree.specs.declared.fault.Place.{Place}
use Rattle.sp_types.specs.Programs.{program_of}
use Rattle.sp_types.specs.declared.program.Program.{Program as CodeProgram}
use Rattle.sp_base_checked.specs.Answers.{Answers}
use Rattle.sp_base_checked.specs.declared.error.CheckError.{CheckError}
use Rattle.sp_base_checked.specs.declared.error.CheckError.TheVariants.{NoMemory}
use Rattle.sp_base_checked.specs.declared.error.CheckError.TheVariants.{Fault as Faulty}
use Rattle.sp_base_checked.specs.Units.{CheckedUnit}
use Rattle.sp_link_structs.specs.Matching.{Matching}
use Rattle.sp_link_structs.specs.Matched.{AreMatched}
use Rattle.sp_link_conflicts.specs.Conflicts.{tables_of, AgreeOnNames, AreChecked}
use Rattle.sp_link_units.specs.Linking.{linked}
use Rattle.sp_link_units.specs.Links.{in_conflict, in_agreement, LinksTo}

pub conflict_links : (names : List (List ℕ)) (first : Place) (xs : List CheckedUnit) (e : CheckError)
    → AreChecked xs (Err e) → LinksTo names first xs (Err e)
conflict_links names first xs (Faulty f) h = in_conflict f.kind f.place h refl
conflict_links names first xs NoMemory h = tt

pub agreement_links : (names : List (List ℕ)) (first : Place) (xs : List CheckedUnit) (m : Matching) (r : Result CodeProgram CheckError)
    → AgreeOnNames xs → AreMatched (tables_of xs) m → Answers program_of (linked names first m xs) r → LinksTo names first xs r
agreement_links names first xs m (Ok p) agree matched h = in_agreement m agree matched h
agreement_links names first xs m (Err (Faulty f)) agree matched h = in_agreement m agree matched h
agreement_links names first xs m (Err NoMemory) agree matched h = tt
