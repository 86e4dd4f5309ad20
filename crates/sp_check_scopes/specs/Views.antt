-- What the scopes of the code stand for.
use Rattle.std.specs.Prelude.{ℕ, List, [], ◌++◌, Option, Some, None, Result, Ok, Err, map, reverse}
use Rattle.std.specs.declared.alloc.Global.{Global}
use Rattle.std.specs.declared.boxed.Box.{Box}
use Rattle.indexmap.specs.IndexMap.{IndexMap}
use Rattle.sp_check_scopes.specs.declared.space.Space.{Space}
use Rattle.sp_check_scopes.specs.declared.scope.Scope.{Scope as CodeScope}
use Rattle.sp_check_scopes.specs.declared.scopes.Scopes.{Scopes as CodeScopes}
use Rattle.sp_check_scopes.specs.Meanings.{named_meaning}
use Rattle.sp_check_scopes.specs.Scopes.{Scope, Scopes}

-- those behind the first
abbrev pub later_of : {A S : Type 0} → Option (Box (IndexMap ℕ A S) Global) → List (ℕ × A)
later_of None = []
later_of (Some later) = later.value.entries

unfoldable pub entries_of : {A : Type 0} → Space A → List (ℕ × A)
entries_of s = s.first.items ++ later_of s.later

unfoldable pub scope_of : CodeScope → Scope
scope_of s = record { kind = s.kind; names = map named_meaning (entries_of s.names); tags = entries_of s.tags }

unfoldable pub scopes_of : CodeScopes → Scopes
scopes_of s = record { inner = scope_of s.inner; around = reverse (map scope_of s.around.items) }

-- whether a name that has this already takes what is new, which is the error where it has nothing
abbrev pub replaced_or : {A : Type 0} → Option A → A → Result (Unit {0}) A
replaced_or (Some old) new = Ok tt
replaced_or None new = Err new
