use Rattle.std.proofs.Common.{◌≡◌, ◌≤◌, map, take, length}
use Rattle.std.specs.Prelude.{reverse}
use Rattle.sp_check_scopes.specs.Scopes.{meaning_in}
use Rattle.sp_check_scopes.specs.Views.{scope_of}
use Rattle.sp_check_scopes.proofs.scopes.meaning_around.Given as goal

abbrev pub invariant-scopes : goal.invariant-scopes
invariant-scopes l = record {
  within : l.left ≤ length l.scopes;
  inside : meaning_in (reverse (map scope_of (take l.left l.scopes))) l.name ≡ meaning_in (reverse (map scope_of l.scopes)) l.name;
}

abbrev pub decreases-scopes : goal.decreases-scopes
decreases-scopes l = l.left
