-- What a form tells.
use Rattle.std.specs.Prelude.{◌≡◌, ◌≤◌, ℕ, List, length, All}
use Rattle.sp_bdd.specs.Listed.{listed}
use Rattle.sp_bdd.specs.Table.{diagram, Belongs}
use Rattle.sp_engine_keeping.specs.declared.keeping.Form.{Form}
use Rattle.sp_engine_keeping.specs.declared.keeping.Form.TheVariants.{Rows, Diagram}
use Rattle.sp_engine_keeping.specs.Triples.{Ascends}
use Rattle.sp_engine_keeping.specs.Codes.{told_from}

-- the rows of so many nodes
abbrev pub rows_of : ℕ → Form → List (List (ℕ × ℕ))
rows_of nodes (Rows rows) = rows
rows_of nodes (Diagram manager set) = told_from 0 nodes (listed manager.bits (diagram manager set) 0)

abbrev pub IsKept : ℕ → Form → Type 0
IsKept nodes (Rows rows) = (length rows ≡ nodes) × All Ascends rows
IsKept nodes (Diagram manager set) = (nodes ≤ 1048576) × (manager.bits ≡ 60) × Belongs manager set
