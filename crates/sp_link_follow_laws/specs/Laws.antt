-- A program has the structs that its units name (C90 6.1.2.6).
use Rattle.std.specs.Prelude.{◌≡◌, ℕ, List, [], Some, slice_get, slice_index_or}
use Rattle.sp_types.specs.Types.{Struct}
use Rattle.sp_link_structs.specs.Matching.{Matching}
use Rattle.sp_link_structs.specs.Matched.{AreMatched}
use Rattle.sp_link_structs_laws.specs.Tables.{program_structs, AreTables}
use Rattle.sp_base_layout_laws.specs.Laws.{HaveMembers}
use Rattle.sp_link_renaming_laws.specs.Follows.{StructsFollow}

-- with the sizes that they have there, and members of the same names and sorts
abbrev pub LinkedStructsFollow : Type 0
LinkedStructsFollow = (us : List (List Struct)) (m : Matching) (u : ℕ) (ss : List Struct) → AreMatched us m
    → AreTables us → slice_get us u ≡ Some ss
    → StructsFollow (slice_index_or m.numbers u []) ss (program_structs us m)

-- and none is without a member where none of the units' is
abbrev pub LinkedStructsHaveMembers : Type 0
LinkedStructsHaveMembers = (us : List (List Struct)) (m : Matching) → AreMatched us m
    → ((u : ℕ) (ss : List Struct) → slice_get us u ≡ Some ss → HaveMembers ss)
    → HaveMembers (program_structs us m)
