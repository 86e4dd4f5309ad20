use Rattle.std.proofs.Common.{◌≡◌, ◌++◌, map, drop}
use Rattle.sp_base_checked.specs.Units.{typing_of}
use Rattle.sp_link_conflicts.specs.Declarations.{typings_declared}
use Rattle.sp_link_conflicts.specs.Views.{declaration_of}
use Rattle.sp_link_conflicts.proofs.declarations.add_typings.Given as goal

abbrev pub invariant-typings : goal.invariant-typings
invariant-typings l =
    map declaration_of l.all.items ++ typings_declared l.unit (map typing_of (drop l.typing-index l.typings))
    ≡ map declaration_of l.initial.all.items ++ typings_declared l.unit (map typing_of l.typings)
