-- The first place of a list that is bad, where each place stands with a key.
use Rattle.std.specs.Prelude.{Bool, List, [], ◌∷◌, ◌++◌, Option, Some, None, if◌then◌else◌}
use Rattle.std.specs.List.{list_any}
use Rattle.sp_tree.specs.declared.fault.FaultKind.{FaultKind}
use Rattle.sp_tree.specs.declared.fault.Place.{Place}
use Rattle.sp_base_checked.specs.Answers.{Checked, refused}

-- whether a key is among these
abbrev pub is_among : {K : Type 0} → (K → K → Bool) → List K → K → Bool
is_among same ks k = list_any (same k) ks

-- the place of the first key that stands before it already, among these or in the list
abbrev pub repeated : {K : Type 0} → (K → K → Bool) → List K → List (K × Place) → Option Place
repeated same before [] = None
repeated same before (x ∷ xs) = if is_among same before x.0 then Some x.1 else repeated same (before ++ x.0 ∷ []) xs

-- the place of the first key that isn't among these
abbrev pub lost : {K : Type 0} → (K → K → Bool) → List K → List (K × Place) → Option Place
lost same ks [] = None
lost same ks (x ∷ xs) = if is_among same ks x.0 then lost same ks xs else Some x.1

-- where there is a bad place, this fault stands at it
abbrev pub where_none : {A : Type 0} → Option Place → FaultKind → Checked A → Checked A
where_none None k c = c
where_none (Some p) k c = refused k p
