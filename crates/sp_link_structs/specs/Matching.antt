-- The structs of a program, as structs of its units, without pointers (C90 6.1.2.6).
use Rattle.std.specs.Prelude.{ℕ, List, map}
use Rattle.sp_link_structs.specs.declared.record.Matching.{Matching as CodeMatching}

-- the unit and the number there of each struct of the program, in its order; and for each unit the
-- program's number of each of its structs
pub record Matching : Type 0 where
  pub structs : List (ℕ × ℕ)
  pub numbers : List (List ℕ)

abbrev pub matching_of : CodeMatching → Matching
matching_of m = record { structs = m.structs.items; numbers = map (λ ns. ns.items) m.numbers.items }
