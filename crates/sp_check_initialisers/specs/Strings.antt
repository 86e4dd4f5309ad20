-- String literals that initialise arrays of characters (C90 6.5.7).
use Rattle.std.specs.Prelude.{ℕ, Bool, true, false, List, [], ◌∷◌, ◌++◌, length, Option, Some, None, if◌then◌else◌, nat_le, nat_lt}
use Rattle.sp_tree.specs.declared.fault.Place.{Place}
use Rattle.sp_tree.specs.declared.fault.FaultKind.TheVariants.{BadInitialiser}
use Rattle.sp_parse_trees.specs.Syntax.{Expression, expression, Init, one, list, Inits, no_inits, next_init}
use Rattle.sp_parse_trees.specs.Syntax as syntax
use Rattle.sp_parse_trees.specs.Places.{place_of}
use Rattle.sp_types.specs.declared.ctype.IntKind.{IntKind}
use Rattle.sp_types.specs.declared.ctype.IntKind.TheVariants.{Char, SChar, UChar}
use Rattle.sp_types.specs.Types.{CType, integer, array}
use Rattle.sp_types.specs.Typed.{Typed}
use Rattle.sp_base_checked.specs.Answers.{Checked, accepted, where_met, where_given}
use Rattle.sp_check_primaries.specs.Literals.{text_bytes, characters}

abbrev pub is_character_kind : IntKind → Bool
is_character_kind Char = true
is_character_kind SChar = true
is_character_kind UChar = true
is_character_kind _ = false

abbrev pub is_character : CType → Bool
is_character (integer k) = is_character_kind k
is_character _ = false

abbrev pub is_character_array : CType → Bool
is_character_array (array t n) = is_character t
is_character_array _ = false

abbrev pub literal_in : Expression → Option Expression
literal_in (expression (syntax.text ns) p m) = Some (expression (syntax.text ns) p m)
literal_in e = None

abbrev pub one_value : Init → Option Expression
one_value (one e) = Some e
one_value (list is c) = None

-- the value of a list that has one and no more
abbrev pub only_value : Inits → Option Expression
only_value (next_init i no_inits) = one_value i
only_value is = None

abbrev pub literal_among : Option Expression → Option Expression
literal_among None = None
literal_among (Some e) = literal_in e

-- a literal, alone or alone between braces
abbrev pub literal_of : Init → Option Expression
literal_of (one e) = literal_in e
literal_of (list is c) = literal_among (only_value is)

abbrev pub string_for : CType → Init → Option Expression
string_for t i = if is_character_array t then literal_of i else None

abbrev pub pieces_of : Expression → List ℕ
pieces_of (expression (syntax.text ns) p m) = ns
pieces_of e = []

-- a zero ends the string where there is room for it, or the length isn't told; the characters
-- before it fit
abbrev pub has_room : Option ℕ → ℕ → Bool
has_room None n = true
has_room (Some m) n = nat_lt n m

abbrev pub fits : Option ℕ → ℕ → Bool
fits None n = true
fits (Some m) n = nat_le n m

abbrev pub ended : Option ℕ → List ℕ → List ℕ
ended room bytes = if has_room room (length bytes) then bytes ++ 0 ∷ [] else bytes

-- an array of integers: their kind, and its length where it is told
abbrev pub integer_elements : CType → Option ℕ → Option (IntKind × Option ℕ)
integer_elements (integer c) n = Some (c, n)
integer_elements _ n = None

abbrev pub integers_in : CType → Option (IntKind × Option ℕ)
integers_in (array t n) = integer_elements t n
integers_in _ = None

-- the values that a literal of these bytes at `p` gives an array, from this leaf on, behind those
-- that are given; `name` is the place of the declared name
abbrev pub string_values : List (ℕ × Typed) → ℕ → Place → Place → List ℕ → IntKind × Option ℕ → Checked (List (ℕ × Typed))
string_values vs k p name bytes x = where_met (fits x.1 (length bytes)) BadInitialiser name (accepted (vs ++ characters x.0 p k (ended x.1 bytes)))

abbrev pub string_added : List (List ℕ) → List (ℕ × Typed) → CType → ℕ → Place → Expression → Checked (List (ℕ × Typed))
string_added names vs t k name e = where_given (integers_in t) BadInitialiser name (λ x. string_values vs k (place_of e) name (text_bytes names (pieces_of e)) x)
