-- What an object of the outside tells of its bytes, and which of them are left to read.
use Rattle.std.specs.Prelude.{◌≡◌, ℕ, ◌-◌, ◌≤◌, Bool, true, false, List, drop, nat_eq, Option, Some, None, IfSome, ⊤}

-- what an object tells of the bytes under a name: nothing, that there is no text, or the text
pub data Told : Type 0 where
  untold : Told
  missing : Told
  held : List ℕ → Told

abbrev pub is_missing : Told → Bool
is_missing untold = false
is_missing missing = true
is_missing (held text) = false

-- P holds of the text, where it is told
abbrev pub IfHeld : Told → (List ℕ → Type 0) → Type 0
IfHeld untold P = ⊤
IfHeld missing P = ⊤
IfHeld (held text) P = P text

-- a position is the start of a text; where the text is told, so is the position
abbrev pub IsStart : Told → Option ℕ → Type 0
IsStart (held text) at = at ≡ Some 0
IsStart untold at = IfSome at (λ position. position ≡ 0)
IsStart missing at = IfSome at (λ position. position ≡ 0)

-- the bytes of a text from a position on, where both are told
abbrev pub rest_of : Told → Option ℕ → Option (List ℕ)
rest_of (held text) (Some position) = Some (drop position text)
rest_of (held text) None = None
rest_of untold at = None
rest_of missing at = None

-- the bytes that are left to read under the name that was asked for, where they are told
abbrev pub bytes_left : (List ℕ → Told) → Option (List ℕ) → Option ℕ → Option (List ℕ)
bytes_left text_of (Some name) at = rest_of (text_of name) at
bytes_left text_of None at = None

-- a sink's room after it took n bytes, where it is told: they had room
abbrev pub TakesRoom : Option ℕ → Option ℕ → ℕ → Type 0
TakesRoom None new n = ⊤
TakesRoom (Some room) new n = (n ≤ room) × (new ≡ Some (room - n))

-- a sink tells that it has no room left
abbrev pub is_full : Option ℕ → Bool
is_full None = false
is_full (Some room) = nat_eq room 0
