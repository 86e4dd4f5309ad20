-- Files that are read one after another.
use Rattle.std.proofs.Common.{◌≡◌, ◌+◌, ◌≤◌, ℕ, List, [], ◌∷◌, ◌++◌, map, Err, Ok, length, refl, sym, ap, ◌∙◌, subst, arith, append_assoc}
use Rattle.std.proofs.lemmas.List.{map-append}
use Rattle.sp_tree.specs.declared.fault.Fault.{Fault}
use Rattle.sp_tree.specs.declared.token.Token.{Token}
use Rattle.sp_parse_trees.specs.Syntax.{External}
use Rattle.sp_parse_laws.specs.UnitAnswers.{IsUnit}
use Rattle.sp_base_checked.specs.Answers.{Answers}
use Rattle.sp_base_checked.specs.declared.error.CheckError.{CheckError}
use Rattle.sp_base_checked.specs.declared.error.CheckError.TheVariants as check
use Rattle.sp_base_checked.specs.Units.{CheckedUnit, checked_unit_of}
use Rattle.sp_base_checked.specs.declared.unit.CheckedUnit.{CheckedUnit as CodeUnit}
use Rattle.sp_decl_check.specs.Units.{unit_checked}
use Rattle.sp_front.specs.declared.front.FrontError.{FrontError}
use Rattle.sp_front.specs.declared.front.FrontError.TheVariants as errors
use Rattle.sp_front.specs.Sources.{Source, total_length, most_files, max_text, AreWithin}
use Rattle.sp_front.specs.Files as specs
use Rattle.sp_front.specs.Files.{Progress, beginning, max_depth, max_tokens, IsScanned, IsFileOf, IsFileRefused, AreFilesOf, none, another}
use Rattle.sp_front.specs.inner.Errors.{of_check}
use Rattle.sp_front.specs.inner.Steps.{AreRefusedAs, misparsed, mistyped, GivesUnit, ReadsFile, ReadsFiles}

-- ---- one file

-- a unit is refused at one of its types
pub wrong_type : (tokens : List Token) (names : List (List ℕ)) (tree : List External) (e : CheckError)
    → IsUnit max_depth tokens tree → Answers checked_unit_of (unit_checked names tree) (Err e)
    → GivesUnit tokens names (Err (of_check e))
wrong_type tokens names tree (check.Fault f) parsed refused = mistyped tree parsed refused
wrong_type tokens names tree check.NoMemory parsed refused = tt

refused_as : (before : Progress) (s : Source) (names : List (List ℕ)) (tokens : List Token) (fault : Fault)
    → IsScanned before s names (Ok tokens) → AreRefusedAs tokens names fault
    → IsFileRefused before s names fault
refused_as before s names tokens fault scanned (misparsed refused) = specs.misparsed tokens scanned refused
refused_as before s names tokens fault scanned (mistyped tree parsed refused) =
    specs.mistyped tokens tree scanned parsed refused

-- a file is refused as its tokens are
pub no_unit : (before : Progress) (s : Source) (names : List (List ℕ)) (tokens : List Token) (e : FrontError)
    → IsScanned before s names (Ok tokens) → GivesUnit tokens names (Err e)
    → ReadsFile before s names (Err e)
no_unit before s names tokens (errors.Fault f) scanned refused = refused_as before s names tokens f scanned refused
no_unit before s names tokens errors.NoMemory scanned refused = tt

-- ---- all files

-- Of the whole the files before the rest are units, and the names and the rest are within the
-- limits.
pub record IsAt (whole : List Source) (rest : List Source) (names : List (List ℕ)) (room : ℕ) (units : List CheckedUnit) : Type 0 where
  pub done : List Source
  pub is : whole ≡ done ++ rest
  pub files : AreFilesOf beginning done (record { names = names; room = room }) units
  pub few : length names + (length rest + total_length rest) ≤ most_files + max_text

-- before the first
pub begun : (whole : List Source) (names : List (List ℕ)) (units : List CheckedUnit)
    → names ≡ [] → units ≡ [] → AreWithin whole → IsAt whole whole names max_tokens units
begun whole names units no_names no_units within =
    let count : length names ≡ 0 = ap length no_names in
    record {
      done = [];
      is = refl;
      files = subst (λ ns. AreFilesOf beginning [] (record { names = ns; room = max_tokens }) units) (sym no_names)
          (subst (λ us. AreFilesOf beginning [] beginning us) (sym no_units) none);
      few = omega (arith, count, within.files, within.bytes);
    }

-- the next is a unit
pub more : (whole rest : List Source) (s : Source) (names : List (List ℕ)) (room : ℕ) (units : List CheckedUnit)
    (later : List (List ℕ)) (left : ℕ) (unit : CheckedUnit)
    → IsAt whole (s ∷ rest) names room units
    → IsFileOf (record { names = names; room = room }) s (record { names = later; room = left }) unit
    → length later ≤ length names + length s.text + 1
    → IsAt whole rest later left (units ++ unit ∷ [])
more whole rest s names room units later left unit at file few = record {
  done = at.done ++ s ∷ [];
  is = at.is ∙ sym (append_assoc at.done (s ∷ []) rest);
  files = another at.files s (record { names = later; room = left }) unit file;
  few = omega (arith, few, at.few);
}

-- the next is refused
pub stopped : (whole rest : List Source) (s : Source) (names : List (List ℕ)) (room : ℕ) (units : List CheckedUnit)
    (later : List (List ℕ)) (e : FrontError)
    → IsAt whole (s ∷ rest) names room units
    → ReadsFile (record { names = names; room = room }) s later (Err e)
    → ReadsFiles whole later (Err e)
stopped whole rest s names room units later (errors.Fault f) at refused = record {
  before = at.done;
  after = rest;
  file = s;
  whole = at.is;
  mid = record { names = names; room = room };
  units = units;
  files = at.files;
  refused = refused;
}
stopped whole rest s names room units later errors.NoMemory at refused = tt

-- one more unit behind others
pub one_more : (items : List CodeUnit) (later : List CodeUnit) (unit : CodeUnit) → later ≡ items ++ unit ∷ []
    → map checked_unit_of later ≡ map checked_unit_of items ++ checked_unit_of unit ∷ []
one_more items later unit e = ap (map checked_unit_of) e ∙ map-append checked_unit_of items (unit ∷ [])
