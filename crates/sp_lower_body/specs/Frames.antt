-- What lowering knows of the function whose statements it lowers.
use Rattle.std.specs.Prelude.{ℕ, List, [], Option, Some, None, slice_get}
use Rattle.sp_types.specs.Types.{CType}
use Rattle.sp_lower_draft.specs.Context.{Context}

-- of an object with start values: the cell of each in their order, and the cells with a leaf that
-- has no value
pub record Initial : Type 0 where
  pub cells : List ℕ
  pub zero : List ℕ

pub record Frame : Type 0 where
  pub context : Context
  -- of each object of the program
  pub initials : List Initial
  -- the object of the function's result, and its type
  pub result : ℕ
  pub result_type : CType

abbrev pub known_initial : Option Initial → Initial
known_initial None = record { cells = []; zero = [] }
known_initial (Some i) = i

abbrev pub initial_of : Frame → ℕ → Initial
initial_of f n = known_initial (slice_get f.initials n)
