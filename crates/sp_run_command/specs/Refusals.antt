-- The lines that refuse files.
use Rattle.std.specs.Prelude.{ℕ, List, [], ◌∷◌, ◌++◌, codes, Option, Some, None, slice_get}
use Rattle.std.specs.Fmt.{decimal}
use Rattle.sp_tree.specs.declared.fault.Fault.{Fault}
use Rattle.sp_tree.specs.declared.fault.FaultKind.{FaultKind}
use Rattle.sp_run_faults.specs.Faults.{code_of, text_of}

-- the line that refuses a file at its beginning
abbrev pub refusal_text : List ℕ → FaultKind → List ℕ
refusal_text name kind = name ++ (codes ":1:1: refused " ++ (code_of kind ++ (codes ": " ++ (text_of kind ++ 10 ∷ []))))

-- the bytes of a name by its number
abbrev pub name_of : Option (List ℕ) → List ℕ
name_of None = []
name_of (Some bytes) = bytes

-- what follows the name in the line of a fault
abbrev pub fault_tail : Fault → List ℕ
fault_tail f = codes ":" ++ (decimal f.place.line ++ (codes ":" ++ (decimal f.place.column ++ (codes ": refused " ++ (code_of f.kind ++ (codes ": " ++ (text_of f.kind ++ 10 ∷ [])))))))

-- the line that refuses a file at the place of a fault
abbrev pub fault_text : List (List ℕ) → Fault → List ℕ
fault_text names f = name_of (slice_get names f.place.name) ++ fault_tail f
