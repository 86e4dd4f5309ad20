-- The tokens of C90 as its grammar sees them: by sorts, with whatever else a parser wants of them beside.
use Rattle.std.specs.Prelude.{◌≡◌, ℕ, ◌+◌, Bool, true, false, ◌&&◌, not, max, ◌==◌, List, [], ◌∷◌, Option, Some, None, if◌then◌else◌}
use Rattle.std.specs.List.{list_any}

-- the words of type specifiers
pub data TypeWord : Type 0 where
  void char short int long float double sign : TypeWord

-- the tokens that stand for themselves
pub data Mark : Type 0 where
  opening closing bracket unbracket brace unbrace semicolon colon question ellipsis comma equal member step star ampersand additive tilde : Mark
  sizeof if_word else_word switch case default while do_word for goto continue break return struct enum typedef end : Mark

-- A sort of tokens. A binary operator has its level: 1 for products up to 10 for the logical or; those that are other
-- operators too are marks. `named_type` is what a name is where it is a type name.
pub data Sort : Type 0 where
  name named_type : ℕ → Sort
  constant text storage qualifier assigning : Sort
  basic : TypeWord → Sort
  binary : ℕ → Sort
  mark : Mark → Sort

-- a token: what is known of it, and its sort, which follows from that
pub record Token (P : Type 0) (sort_of : P → Sort) : Type 0 where
  pub sort : Sort
  pub what : P
  pub right : sort_of what ≡ sort

-- what the sort is where these names are type names
abbrev pub view : List ℕ → Sort → Sort
view types (name n) = if list_any (λ t. t == n) types then named_type n else name n
view types s = s

-- the marks by number, to compare them
abbrev pub number_of : Mark → ℕ
number_of opening = 0
number_of closing = 1
number_of bracket = 2
number_of unbracket = 3
number_of brace = 4
number_of unbrace = 5
number_of semicolon = 6
number_of colon = 7
number_of question = 8
number_of ellipsis = 9
number_of comma = 10
number_of equal = 11
number_of member = 12
number_of step = 13
number_of star = 14
number_of ampersand = 15
number_of additive = 16
number_of tilde = 17
number_of sizeof = 18
number_of if_word = 19
number_of else_word = 20
number_of switch = 21
number_of case = 22
number_of default = 23
number_of while = 24
number_of do_word = 25
number_of for = 26
number_of goto = 27
number_of continue = 28
number_of break = 29
number_of return = 30
number_of struct = 31
number_of enum = 32
number_of typedef = 33
number_of end = 34

abbrev pub is_mark : Mark → Sort → Bool
is_mark m (mark k) = number_of m == number_of k
is_mark m _ = false

abbrev pub is_name : Sort → Bool
is_name (name n) = true
is_name _ = false

-- How tight the token binds what stands before it: 0 behind a postfix expression, 1 to 10 a binary operator, 11 `?`, 12 an
-- assignment, 13 the comma, 14 where it isn't an operator behind an operand.
abbrev pub looseness : Sort → ℕ
looseness text = 0
looseness (mark opening) = 0
looseness (mark bracket) = 0
looseness (mark member) = 0
looseness (mark step) = 0
looseness (mark star) = 1
looseness (mark additive) = 2
looseness (mark ampersand) = 6
looseness (binary k) = k
looseness (mark question) = 11
looseness (mark equal) = 12
looseness assigning = 12
looseness (mark comma) = 13
looseness _ = 14

-- the token begins or goes on with specifiers, where names are viewed
abbrev pub is_specifier : Sort → Bool
is_specifier (named_type n) = true
is_specifier storage = true
is_specifier qualifier = true
is_specifier (basic w) = true
is_specifier (mark struct) = true
is_specifier (mark enum) = true
is_specifier (mark typedef) = true
is_specifier _ = false

-- the token begins a declarator or goes on with one
abbrev pub is_declaring : Sort → Bool
is_declaring (name n) = true
is_declaring (named_type n) = true
is_declaring qualifier = true
is_declaring (mark opening) = true
is_declaring (mark bracket) = true
is_declaring (mark star) = true
is_declaring _ = false

-- ---- the words of a specifier list

-- how long, by `short` or `long`
pub data Length : Type 0 where
  plain_length short_length long_length : Length

-- what is known of the type: nothing, one of these words, or a type of another kind
pub data Base : Type 0 where
  no_base char_base int_base double_base whole_base : Base

-- The type specifiers seen so far, and whether a storage class was.
pub record Seen : Type 0 where
  pub stored : Bool
  pub signed : Bool
  pub length : Length
  pub base : Base

abbrev pub nothing_seen : Seen
nothing_seen = record { stored = false; signed = false; length = plain_length; base = no_base }

-- of these, some type specifier was seen
abbrev pub typed : Bool → Length → Base → Bool
typed false plain_length no_base = false
typed _ _ _ = true

abbrev pub is_typed : Seen → Bool
is_typed s = typed s.signed s.length s.base

-- with a type of another kind: a type name, a structure, an enumeration
abbrev pub whole_seen : Seen → Seen
whole_seen s = record { stored = s.stored; signed = false; length = plain_length; base = whole_base }

-- what is seen with one word more, where it may stand beside the others
abbrev pub add_word : Bool → TypeWord → Bool → Length → Base → Option Seen
add_word stored void false plain_length no_base = Some (record { stored = stored; signed = false; length = plain_length; base = whole_base })
add_word stored float false plain_length no_base = Some (record { stored = stored; signed = false; length = plain_length; base = whole_base })
add_word stored char signed plain_length no_base = Some (record { stored = stored; signed = signed; length = plain_length; base = char_base })
add_word stored short signed plain_length no_base = Some (record { stored = stored; signed = signed; length = short_length; base = no_base })
add_word stored short signed plain_length int_base = Some (record { stored = stored; signed = signed; length = short_length; base = int_base })
add_word stored long signed plain_length no_base = Some (record { stored = stored; signed = signed; length = long_length; base = no_base })
add_word stored long signed plain_length int_base = Some (record { stored = stored; signed = signed; length = long_length; base = int_base })
add_word stored long false plain_length double_base = Some (record { stored = stored; signed = false; length = long_length; base = double_base })
add_word stored int signed length no_base = Some (record { stored = stored; signed = signed; length = length; base = int_base })
add_word stored double false plain_length no_base = Some (record { stored = stored; signed = false; length = plain_length; base = double_base })
add_word stored double false long_length no_base = Some (record { stored = stored; signed = false; length = long_length; base = double_base })
add_word stored sign false length no_base = Some (record { stored = stored; signed = true; length = length; base = no_base })
add_word stored sign false plain_length char_base = Some (record { stored = stored; signed = true; length = plain_length; base = char_base })
add_word stored sign false length int_base = Some (record { stored = stored; signed = true; length = length; base = int_base })
add_word stored _ signed length base = None

-- what is seen with one specifier more, where it may stand there: storage classes where `stores` says so, `typedef` outside
-- functions alone
abbrev pub add : Bool → Bool → Seen → Sort → Option Seen
add stores inside s qualifier = Some s
add stores inside s storage = if stores && not s.stored then Some (record s { stored = true }) else None
add stores inside s (mark typedef) = if stores && not s.stored && not inside then Some (record s { stored = true }) else None
add stores inside s (basic w) = add_word s.stored w s.signed s.length s.base
add stores inside s (named_type n) = if is_typed s then None else Some (whole_seen s)
add stores inside s (mark struct) = if is_typed s then None else Some (whole_seen s)
add stores inside s (mark enum) = if is_typed s then None else Some (whole_seen s)
add stores inside s _ = None

-- a number above all of these
abbrev pub above : List ℕ → ℕ
above [] = 0
above (n ∷ ns) = max (n + 1) (above ns)
