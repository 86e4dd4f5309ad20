-- Units that the checks accept are typed, and what they are linked to is the program that is.
use Rattle.std.proofs.Common.{◌≡◌, ℕ, List, Option, Some, None, All, refl, subst}
use Rattle.sp_tree.specs.declared.fault.FaultKind.{FaultKind}
use Rattle.sp_tree.specs.declared.fault.FaultKind.TheVariants.{NoMain}
use Rattle.sp_tree.specs.declared.fault.Place.{Place}
use Rattle.sp_types.specs.Programs.{Program}
use Rattle.sp_base_checked.specs.Answers.{accepted, refused, where_given}
use Rattle.sp_base_checked.specs.Units.{CheckedUnit}
use Rattle.sp_link_structs.specs.Matching.{Matching}
use Rattle.sp_link_structs.specs.Matched.{AreMatched}
use Rattle.sp_link_conflicts.specs.Conflicts.{AgreeOnNames, tables_of}
use Rattle.sp_link_units.specs.Linking.{main_from}
use Rattle.sp_link_units.specs.Links.{in_conflict, in_agreement}
use Rattle.sp_check_typing.specs.Programs.{IsTypedProgram}
use Rattle.sp_link_names_laws.specs.Names.{all_joined}
use Rattle.sp_check_expr_laws.proofs.Characters.{all_at}
use Rattle.sp_check_unit_laws.specs.Units.{UnitsAreTyped}
use Rattle.sp_link_typed_laws.specs.Linked.{linked_program, AreTypedUnits, LinkedProgramsAreTyped}
use Rattle.sp_front_laws.specs.Programs.{IsChecked, ProgramsAreTyped}

-- ---- answers

accepted_is : (p q : Program) → accepted p ≡ accepted q → p ≡ q
accepted_is p q e = cc

not_refused : (kind : FaultKind) (place : Place) (p : Program) → refused kind place ≡ accepted p → ⊥
not_refused kind place p e = cc

-- ---- programs

module _ (typed : UnitsAreTyped) (linked : LinkedProgramsAreTyped) where
  typed_units : (units : List CheckedUnit) (m : Matching) → All IsChecked units → AgreeOnNames units
      → AreMatched (tables_of units) m → AreTypedUnits units m
  typed_units units m checked agree matched = record {
    agree = agree;
    matched = matched;
    typed = λ u x at.
        let c : IsChecked x = all_at IsChecked units u x checked at in
        typed c.names c.tree x c.bytes c.written c.checked;
  }

  -- what starts with this function
  from_main : (names : List (List ℕ)) (first : Place) (units : List CheckedUnit) (m : Matching) (p : Program)
      → AreTypedUnits units m → (main : Option ℕ)
      → main_from names 0 (all_joined m.numbers units).1.functions ≡ main
      → where_given main NoMain first (λ k. accepted (linked_program units m k)) ≡ accepted p
      → IsTypedProgram p
  from_main names first units m p h None is e = absurd (not_refused NoMain first p e)
  from_main names first units m p h (Some main) is e =
      subst IsTypedProgram (accepted_is (linked_program units m main) p e)
      (linked names units m main h is)

  pub programs_typed : ProgramsAreTyped
  programs_typed names first units p checked (in_conflict kind place at e) =
      absurd (not_refused kind place p e)
  programs_typed names first units p checked (in_agreement m agree matched e) =
      from_main names first units m p (typed_units units m checked agree matched)
      (main_from names 0 (all_joined m.numbers units).1.functions) refl e
