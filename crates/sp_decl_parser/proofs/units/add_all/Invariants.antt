-- The names that are left, behind the type names so far, are all.
use Rattle.std.proofs.Common.{◌≡◌, ◌++◌, length}
use Rattle.sp_decl_parser.proofs.units.add_all.Given as goal

abbrev pub invariant-names : goal.invariant-names
invariant-names l = l.types ++ l.rest ≡ l.initial.types ++ l.fn.names

abbrev pub decreases-names : goal.decreases-names
decreases-names l = length l.rest
