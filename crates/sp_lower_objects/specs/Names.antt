-- How objects are named in a report.
use Rattle.std.specs.Prelude.{ℕ, List, [], ◌++◌, Option, Some, None, slice_get, codes}
use Rattle.std.specs.Fmt.{decimal}

abbrev pub known_name : Option (List ℕ) → List ℕ
known_name None = []
known_name (Some name) = name

-- the bytes of a name
abbrev pub name_at : List (List ℕ) → ℕ → List ℕ
name_at names n = known_name (slice_get names n)

-- what is local is named behind its function
abbrev pub local_name : List ℕ → List ℕ → List ℕ
local_name function name = function ++ (codes "." ++ name)

-- strings and temporaries are counted from 1
abbrev pub string_name : ℕ → List ℕ
string_name k = codes "%str." ++ decimal k

abbrev pub temporary_name : List ℕ → ℕ → List ℕ
temporary_name function k = local_name function (codes "%" ++ decimal k)

abbrev pub result_name : List ℕ → List ℕ
result_name function = local_name function (codes "%ret")

-- sites are named by their nodes
abbrev pub heap_name : ℕ → List ℕ
heap_name n = codes "%heap." ++ decimal n

abbrev pub foreign_name : ℕ → List ℕ
foreign_name n = codes "%ext." ++ decimal n
