use Rattle.std.proofs.Common.{◌≡◌, ◌++◌, map, drop}
use Rattle.sp_types.specs.Programs.{function_of}
use Rattle.sp_link_entries.specs.Objects.{owned_by}
use Rattle.sp_link_entries.proofs.objects.owned_by.Given as goal

abbrev pub invariant-loop-number : goal.invariant-loop-number
invariant-loop-number l =
    l.owned.items ++ owned_by (map function_of l.functions) (drop l.number-index l.definitions)
    ≡ owned_by (map function_of l.functions) l.definitions
