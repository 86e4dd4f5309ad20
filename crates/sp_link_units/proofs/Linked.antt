-- What is linked, step by step.
use Rattle.std.proofs.Common.{◌≡◌, ℕ, List, [], Some, ap, sym, ◌∙◌}
use Rattle.sp_tree.specs.declared.fault.FaultKind.TheVariants.{NoMain}
use Rattle.sp_tree.specs.declared.fault.Place.{Place}
use Rattle.sp_base_checked.specs.Answers.{accepted, where_given}
use Rattle.sp_link_renaming.specs.Renaming.{Renaming}
use Rattle.sp_base_checked.specs.Units.{CheckedUnit}
use Rattle.sp_link_structs.specs.Matching.{Matching}
use Rattle.sp_link_entries.specs.Entries.{Joined, Numbers, nothing_joined}
use Rattle.sp_link_entries.specs.Units.{units_joined}
use Rattle.sp_link_units.specs.Linking.{main_from, renamings, program_made, linked, linked_with}

pub linked_is : (names : List (List ℕ)) (first : Place) (m : Matching) (xs : List CheckedUnit) (ns : List Numbers) (j : Joined) (rs : List Renaming) (main : ℕ)
    → units_joined m.numbers ([], nothing_joined) xs ≡ (ns, j) → main_from names 0 j.functions ≡ Some main → rs ≡ renamings j ns
    → linked names first m xs ≡ accepted (program_made m xs rs j main)
linked_is names first m xs ns j rs main joined starts are =
    ap (linked_with names first m xs) joined
    ∙ ap (λ k. where_given k NoMain first (λ n. accepted (program_made m xs (renamings j ns) j n))) starts
    ∙ ap (λ z. accepted (program_made m xs z j main)) (sym are)
