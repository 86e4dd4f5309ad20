use Rattle.std.proofs.Common.{◌≡◌, map, drop}
use Rattle.std.specs.List.{list_any}
use Rattle.sp_types.specs.Programs.{function_of}
use Rattle.sp_check_mentions.specs.Undefined.{is_internal_without_body}
use Rattle.sp_check_mentions.proofs.undefined.any_internal_without_body.Given as goal

abbrev pub invariant-functions : goal.invariant-functions
invariant-functions l =
    list_any is_internal_without_body (map function_of (drop l.i l.functions))
    ≡ list_any is_internal_without_body (map function_of l.functions)
