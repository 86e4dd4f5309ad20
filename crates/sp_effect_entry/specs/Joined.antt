-- The join of what is known over a list.
use Rattle.std.specs.Prelude.{List, [], ◌∷◌}
use Rattle.sp_value.specs.Known.{Known, none, known_join}

abbrev pub joined : {A : Type 0} → (A → Known) → List A → Known
joined f [] = none
joined f (x ∷ xs) = known_join (f x) (joined f xs)
