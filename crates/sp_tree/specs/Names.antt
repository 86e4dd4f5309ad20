-- Names by number: a list of names, of which each is a list of bytes. A name's number is its place.
use Rattle.std.specs.Prelude.{◌≡◌, ℕ, Bool, List, [], ◌∷◌, ◌++◌, slice_get, Some, if◌then◌else◌}
use Rattle.std.specs.List.{list_any}
use Rattle.std.specs.Str.{bytes_eq}

-- whether the bytes are a name of the list
abbrev pub has_name : List (List ℕ) → List ℕ → Bool
has_name names bytes = list_any (bytes_eq bytes) names

-- the names after the bytes are added: they go last where they aren't held yet
abbrev pub with_name : List (List ℕ) → List ℕ → List (List ℕ)
with_name names bytes = if has_name names bytes then names else names ++ bytes ∷ []

-- no two names have the same bytes: so a name has one number
abbrev pub AreDistinct : List (List ℕ) → Type 0
AreDistinct names = (i j : ℕ) (bytes : List ℕ) → slice_get names i ≡ Some bytes → slice_get names j ≡ Some bytes → i ≡ j

-- the later names hold each earlier one under its number
abbrev pub Extends : List (List ℕ) → List (List ℕ) → Type 0
Extends earlier later = (i : ℕ) (bytes : List ℕ) → slice_get earlier i ≡ Some bytes → slice_get later i ≡ Some bytes
