-- The scopes around the innermost, the last of the list first.
use Rattle.std.proofs.Common.{◌≡◌, List, [], ◌∷◌, ◌++◌}
use Rattle.std.specs.Prelude.{reverse}
use Rattle.std.proofs.lemmas.List.{reverse-append}
use Rattle.sp_check_scopes.specs.Scopes.{Scope}

-- what is put last comes first
pub reverse-last : (ss : List Scope) (s : Scope) → reverse (ss ++ s ∷ []) ≡ s ∷ reverse ss
reverse-last ss s = reverse-append ss (s ∷ [])

pub ruleset around = (reverse-last)
