-- Units are one program, or have one fault.
use Rattle.std.proofs.Common.{◌≡◌, ◌∙◌, sym, ap}
use Rattle.sp_base_checked.specs.Answers.{refused}
use Rattle.sp_base_checked.specs.Units.{CheckedUnit}
use Rattle.sp_link_structs.specs.Laws.{MatchingsEqual}
use Rattle.sp_link_conflicts.specs.Conflicts.{tables_of}
use Rattle.sp_link_conflicts.specs.Laws.{ConflictsAreOne, ConflictsExclude}
use Rattle.sp_link_units.specs.Linking.{linked}
use Rattle.sp_link_units.specs.Links.{Links, in_conflict, in_agreement, LinksAreOne}

-- one declaration is the first in conflict, or none is; the structs have one matching, and by it the
-- rest is a function
pub links_one : ConflictsAreOne → ConflictsExclude → MatchingsEqual → LinksAreOne
links_one one exclude equal names first units x y (in_conflict k p c e) (in_conflict j q d f) =
    let same : refused k p ≡ refused j q = (let w : (k ≡ j) × (p ≡ q) = one units k p j q c d in λ i. refused (w.0 i) (w.1 i)) in
    sym e ∙ same ∙ f
links_one one exclude equal names first units x y (in_conflict k p c e) (in_agreement m a h f) = absurd (exclude units k p c a)
links_one one exclude equal names first units x y (in_agreement m a h e) (in_conflict k p c f) = absurd (exclude units k p c a)
links_one one exclude equal names first units x y (in_agreement m a h e) (in_agreement n b g f) =
    sym e ∙ ap (λ z. linked names first z units) (equal (tables_of units) m n h g) ∙ f
