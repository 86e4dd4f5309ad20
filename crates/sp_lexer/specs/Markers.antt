-- Marker lines, as a preprocessor writes them: `# N "NAME" FLAGS`, `#line N "NAME"`, and `#pragma` with any rest.
use Rattle.std.specs.Prelude.{ℕ, ◌^◌, ◌<◌, Bool, false, not, ◌&&◌, ◌||◌, nat_eq, nat_le, List, [], ◌∷◌, ◌+◌, take, drop, codes, ◌==◌, Option, Some, None, if◌then◌else◌}
use Rattle.std.specs.List.{starts_with, list_all}
use Rattle.sp_lexer.specs.declared.markers.Marker.TheVariants as code
use Rattle.sp_lexer.specs.Bytes.{is_gap, is_digit, begins, front, after}
use Rattle.sp_lexer.specs.Extents.{before_quote}
use Rattle.sp_lexer.specs.Numerals.{value_of}

-- what a marker line says of the line after it: its number and its name, or nothing
pub data Marker : Type 0 where
  named : ℕ → List ℕ → Marker
  pragma : Marker

abbrev pub is_flag_byte : ℕ → Bool
is_flag_byte b = is_gap b || is_digit b

-- flags of digits, with blanks before each, and blanks
abbrev pub are_flags : List ℕ → Bool
are_flags bytes = not (begins is_digit bytes) && list_all is_flag_byte bytes

abbrev pub are_gaps : List ℕ → Bool
are_gaps bytes = list_all is_gap bytes

-- a number, a name, and the rest of the line
abbrev pub Numbered : Type 0
Numbered = ℕ × List ℕ × List ℕ

abbrev pub name_before : ℕ → List ℕ → Option ℕ → Option Numbered
name_before number bytes None = None
name_before number bytes (Some n) = Some (number, take n bytes, drop (n + 1) bytes)

-- a name in quotes
abbrev pub name_then : ℕ → List ℕ → Option Numbered
name_then number [] = None
name_then number (b ∷ bs) = if b == 34 then name_before number bs (before_quote false 34 bs) else None

-- digits of a number up to 2147483647, blanks, and a name in quotes
abbrev pub number_then : List ℕ → Option Numbered
number_then bytes =
    if begins is_digit bytes && begins is_gap (after is_digit bytes) && nat_le (value_of 10 (front is_digit bytes)) 2147483647
    then name_then (value_of 10 (front is_digit bytes)) (after is_gap (after is_digit bytes))
    else None

-- that after blanks
abbrev pub numbered : List ℕ → Option Numbered
numbered bytes = if begins is_gap bytes then number_then (after is_gap bytes) else None

-- the marker, where the rest of the line passes a test
abbrev pub checked : (List ℕ → Bool) → Option Numbered → Option Marker
checked test None = None
checked test (Some p) = if test p.2 then Some (named p.0 p.1) else None

-- the marker after a `#`
unfoldable pub marker_after : List ℕ → Option Marker
marker_after bytes =
    if starts_with nat_eq bytes (codes "pragma") then Some pragma
    else if starts_with nat_eq bytes (codes "line") then checked are_gaps (numbered (drop 4 bytes))
    else checked are_flags (numbered bytes)

-- the marker that a line is, from its `#` on
abbrev pub marker_of : List ℕ → Option Marker
marker_of [] = None
marker_of (b ∷ bs) = marker_after bs

-- a marker as the code has it
abbrev pub seen : code.the_data → Marker
seen (code.Named line name) = named line name.now
seen code.Pragma = pragma

-- its number fits
abbrev pub IsSmall : code.the_data → Type 0
IsSmall (code.Named line name) = line < 2 ^ 31
IsSmall code.Pragma = Unit {0}
