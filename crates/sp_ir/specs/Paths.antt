-- Paths of regions: which are the same, and what is fed to a hash of one.
use Rattle.std.specs.Prelude.{ℕ, nat_eq, Bool, true, false, List, [], ◌∷◌, ◌++◌, Option, None, Some, flat_map}
use Rattle.std.specs.Cmp.Lexicographic.{pointwise}
use Rattle.std.specs.Hash as fed
use Rattle.sp_ir.specs.declared.region.Step.{Step}
use Rattle.sp_ir.specs.declared.region.Step.TheVariants.{Field, Element}

abbrev pub same_step : Step → Step → Bool
same_step (Field k) (Field n) = nat_eq k n
same_step Element Element = true
same_step _ _ = false

abbrev pub same_path : List Step → List Step → Bool
same_path = pointwise same_step

-- the bytes of a step, in the order of their writes
abbrev pub step_input : Step → List (List ℕ)
step_input (Field k) = fed.u8 1 ++ fed.u32 k
step_input Element = fed.u8 0

-- those of a path, step by step and without its length
abbrev pub path_input : List Step → List (List ℕ)
path_input p = flat_map step_input p

-- ---- an object with a path

-- a path may be given in two parts: its steps, and one more
abbrev pub whole_path : List Step → Option Step → List Step
whole_path p None = p
whole_path p (Some s) = p ++ s ∷ []

abbrev pub place_input : ℕ → List Step → List (List ℕ)
place_input o p = fed.u32 o ++ path_input p
