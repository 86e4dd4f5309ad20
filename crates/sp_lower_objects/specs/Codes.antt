-- What is kept of each defined function.
use Rattle.std.specs.Prelude.{ℕ, ◌+◌, List, [], ◌∷◌, Option, Some, None, length, slice_get, if◌then◌else◌}
use Rattle.sp_types.specs.Types.{result_of}
use Rattle.sp_types.specs.Programs.{Function}
use Rattle.sp_ir.specs.Programs.{Code}
use Rattle.sp_lower_draft.specs.Context.{is_void}
use Rattle.sp_lower_functions.specs.Functions.{Part, result_count}

abbrev pub known_part : Option Part → Part
known_part None = record { entry = 0; exit = 0; temporaries = [] }
known_part (Some p) = p

abbrev pub part_at : List Part → ℕ → Part
part_at ps k = known_part (slice_get ps k)

abbrev pub known_number : Option ℕ → ℕ
known_number None = 0
known_number (Some n) = n

abbrev pub number_in : List ℕ → ℕ → ℕ
number_in ns n = known_number (slice_get ns n)

-- the object of its result, behind its temporaries
abbrev pub result_object : ℕ → Function → Part → Option ℕ
result_object first g p =
    if is_void (result_of g.of) then None else Some (first + length p.temporaries)

-- where the objects behind its own begin
abbrev pub first_behind : ℕ → Function → Part → ℕ
first_behind first g p = first + length p.temporaries + result_count g

abbrev pub code_for : ℕ → ℕ → Function → Part → Code
code_for object first g p = record {
  entry = p.entry;
  exit = p.exit;
  formals = g.formals;
  result = result_object first g p;
  object = object;
}

-- The functions from the number k on, whose own objects begin at `first`. These are the numbers in
-- the program of all, and their parts; so many objects stand before the functions of the program.
abbrev pub codes_from : ℕ → List ℕ → List Part → ℕ → ℕ → List Function → List Code
codes_from before ns ps k first [] = []
codes_from before ns ps k first (g ∷ gs) =
    code_for (before + number_in ns k) first g (part_at ps k)
    ∷ codes_from before ns ps (k + 1) (first_behind first g (part_at ps k)) gs
