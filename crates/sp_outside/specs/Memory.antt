-- What files in memory hold.
use Rattle.std.specs.Prelude.{ℕ, Bool, false, List, length, nat_le, find, Option, Some, None, bytes_eq, String, string_bytes, Vec}
use Rattle.std.specs.declared.alloc.Global.{Global}
use Rattle.sp_outside.specs.Told.{Told, untold, missing, held}

-- what an entry of names and texts, if there is one, tells
abbrev pub told_by : Option (String Global × Vec ℕ Global) → Told
told_by None = missing
told_by (Some entry) = held entry.1.items

-- the text under a name: the first of that name
abbrev pub told_in : List (String Global × Vec ℕ Global) → List ℕ → Told
told_in entries name = told_by (find (λ entry. bytes_eq (string_bytes entry.0) name) entries)

abbrev pub is_within : ℕ → Told → Bool
is_within position (held text) = nat_le position (length text)
is_within position untold = false
is_within position missing = false

-- a name was asked for, its text is held, and the position is within it
abbrev pub is_open_at : List (String Global × Vec ℕ Global) → Option (String Global) → ℕ → Bool
is_open_at texts None position = false
is_open_at texts (Some name) position = is_within position (told_in texts (string_bytes name))
