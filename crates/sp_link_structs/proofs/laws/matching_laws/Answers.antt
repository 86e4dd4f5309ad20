use Rattle.std.proofs.Common.{◌≡◌, ℕ, Bool, true, false, List, map, Option, Some, None, if◌then◌else◌, refl, sym, ◌∙◌, ap}
use Rattle.sp_types.specs.Types.{Struct}
use Rattle.sp_link_structs.specs.Joined.{is_complete, itself}
use Rattle.sp_link_structs.specs.Matched.{of_units, first_namesake, first_elsewhere, AreLeaders, own_stand_in, stand_in_of, open_stand_in, final_stand_in, AreStandIns, matched}
use Rattle.sp_link_structs.proofs.Numbered.{structs_are_numbered, joined_are_one, structs_are_there}
use Rattle.sp_link_structs.proofs.OneUnit.{one_unit_stays}
use Rattle.sp_link_structs.proofs.Standing.{one_leader}
use Rattle.sp_link_structs.proofs.laws.matching_laws.Goals as goal

-- the units tell who leads
module _ (us : List (List Struct)) (a b : ℕ × ℕ → ℕ × ℕ) (h : AreLeaders us a) (g : AreLeaders us b) where
  leaders_equal : (x : ℕ × ℕ) → is_complete us x ≡ true → a x ≡ b x
  leaders_equal x full = one_leader us x x (a x) (b x) (itself refl) (h x full) (g x full)

  own_equal : (x : ℕ × ℕ) → own_stand_in us a x ≡ own_stand_in us b x
  own_equal x = by (is_complete us x) refl
    where
      by : (c : Bool) → is_complete us x ≡ c → (if c then a x else x) ≡ (if c then b x else x)
      by true e = leaders_equal x e
      by false e = refl

  of_equal : (x : ℕ × ℕ) (o : Option (ℕ × ℕ)) → stand_in_of us a x o ≡ stand_in_of us b x o
  of_equal x None = refl
  of_equal x (Some y) = own_equal y

  open_equal : (x : ℕ × ℕ) (o : Option (ℕ × ℕ)) → open_stand_in us a x o ≡ open_stand_in us b x o
  open_equal x None = refl
  open_equal x (Some y) = of_equal x (if is_complete us y then Some y else first_namesake us x)

  final_equal : (x : ℕ × ℕ) → final_stand_in us a x ≡ final_stand_in us b x
  final_equal x = by (is_complete us x) refl
    where
      by : (c : Bool) → is_complete us x ≡ c
          → (if c then a x else open_stand_in us a x (first_elsewhere us x)) ≡ (if c then b x else open_stand_in us b x (first_elsewhere us x))
      by true e = leaders_equal x e
      by false e = open_equal x (first_elsewhere us x)

stand_ins_equal : (us : List (List Struct)) (ps qs : List ((ℕ × ℕ) × (ℕ × ℕ))) → AreStandIns us ps → AreStandIns us qs → ps ≡ qs
stand_ins_equal us ps qs h g =
    h.2 ∙ (λ i. map (λ x. (x, final_equal us h.0 g.0 h.1 g.1 x i)) (of_units 0 us)) ∙ sym g.2

pub returns-clause-equal : goal.returns-clause-equal
returns-clause-equal c = λ us m n h g. h.2 ∙ ap (matched us) (stand_ins_equal us h.0 g.0 h.1 g.1) ∙ sym g.2

pub returns-clause-one : goal.returns-clause-one
returns-clause-one c = one_unit_stays

pub returns-clause-numbered : goal.returns-clause-numbered
returns-clause-numbered c = structs_are_numbered

pub returns-clause-joined : goal.returns-clause-joined
returns-clause-joined c = joined_are_one

pub returns-clause-there : goal.returns-clause-there
returns-clause-there c = structs_are_there
