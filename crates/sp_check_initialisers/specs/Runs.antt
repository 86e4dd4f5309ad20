-- Which part of an object a value goes to (C90 6.5.7).
--
-- The *leaves* of an object are its scalars in the order of declaration; of a union those of its
-- first member. What is still to be initialised is a list of *runs*, the innermost first: of each
-- aggregate that is entered, the parts that have no value yet. A part is named by the number of its
-- first leaf.
use Rattle.std.specs.Prelude.{ℕ, zero, suc, ◌+◌, ◌-◌, Bool, true, false, List, [], ◌∷◌, ◌++◌, Option, Some, None, if◌then◌else◌, nat_lt, slice_get, is_some, option_map}
use Rattle.sp_tree.specs.declared.fault.Place.{Place}
use Rattle.sp_tree.specs.declared.fault.FaultKind.TheVariants.{BadInitialiser}
use Rattle.sp_parse_trees.specs.Syntax.{Init, one, list}
use Rattle.sp_types.specs.Types.{CType, array, structure, Struct}
use Rattle.sp_types.specs.Structs.{leaves, plus, height}
use Rattle.sp_base_checked.specs.Answers.{Checked, accepted, where_given}
use Rattle.sp_check_binary_rules.specs.Rules.{members_of}
use Rattle.sp_check_type_names.specs.Tags.{is_union}
use Rattle.sp_check_initialisers.specs.Strings.{string_for}

-- so many elements of an array (none told: any number), the first at this leaf; or the members of a
-- struct from that of a number on, the first of them at this leaf
pub data Run : Type 0 where
  elements : CType → ℕ → Option ℕ → Run
  members : ℕ → ℕ → ℕ → Run

-- a part that is about to get its value, and what is left behind it
pub record Part : Type 0 where
  pub of : CType
  pub from : ℕ
  pub behind : List Run

abbrev pub part : CType → ℕ → List Run → Part
part t k rs = record { of = t; from = k; behind = rs }

-- the next part of a run, and what is left of the run
pub record Step : Type 0 where
  pub of : CType
  pub from : ℕ
  pub rest : Run

abbrev pub step : CType → ℕ → Run → Step
step t k r = record { of = t; from = k; rest = r }

abbrev pub has_more : Option ℕ → Bool
has_more None = true
has_more (Some n) = nat_lt 0 n

abbrev pub one_less : Option ℕ → Option ℕ
one_less None = None
one_less (Some n) = Some (n - 1)

-- the elements behind the one at this leaf
abbrev pub elements_behind : List Struct → CType → ℕ → Option ℕ → Run
elements_behind ss t k n = elements t (plus k (leaves ss t)) (one_less n)

-- the type of the member of a number
abbrev pub numbered : Option (List (ℕ × CType)) → ℕ → Option CType
numbered None i = None
numbered (Some ms) i = option_map (λ m. m.1) (slice_get ms i)

abbrev pub member_numbered : List Struct → ℕ → ℕ → Option CType
member_numbered ss j i = numbered (members_of (slice_get ss j)) i

-- a run that has a part left
abbrev pub element_next : List Struct → CType → ℕ → Option ℕ → Option Step
element_next ss t k n = if has_more n then Some (step t k (elements_behind ss t k n)) else None

abbrev pub member_next : List Struct → ℕ → ℕ → ℕ → Option CType → Option Step
member_next ss j i k None = None
member_next ss j i k (Some t) = Some (step t k (members j (i + 1) (plus k (leaves ss t))))

abbrev pub next_in : List Struct → Run → Option Step
next_in ss (elements t k n) = element_next ss t k n
next_in ss (members j i k) = member_next ss j i k (member_numbered ss j i)

abbrev pub or_part : Option Step → List Run → Option Part → Option Part
or_part (Some s) rs other = Some (part s.of s.from (s.rest ∷ rs))
or_part None rs other = other

-- the innermost run that has one left gives the next part
abbrev pub next_part : List Struct → List Run → Option Part
next_part ss [] = None
next_part ss (r ∷ rs) = or_part (next_in ss r) rs (next_part ss rs)

-- ---- the parts of an aggregate or a union whose first leaf is k

abbrev pub first_member : ℕ → Option CType → List Run
first_member k None = []
first_member k (Some t) = elements t k (Some 1) ∷ []

abbrev pub struct_parts : List Struct → ℕ → ℕ → Option Bool → List Run
struct_parts ss j k None = []
struct_parts ss j k (Some true) = first_member k (member_numbered ss j 0)
struct_parts ss j k (Some false) = members j 0 k ∷ []

abbrev pub parts : List Struct → CType → ℕ → List Run
parts ss (array t n) k = elements t k n ∷ []
parts ss (structure j) k = struct_parts ss j k (is_union (slice_get ss j))
parts ss t k = []

-- ---- inwards: a value without braces goes to the first part of what is next, until it is a scalar, or an array of characters for
-- a string

abbrev pub into_arrays : List Struct → Init → CType → ℕ → List Run → Part
into_arrays ss i (array t n) k rs =
    if is_some (string_for (array t n) i) then part (array t n) k rs
    else into_arrays ss i t k (elements_behind ss t k n ∷ rs)
into_arrays ss i t k rs = part t k rs

abbrev pub from_array : List Struct → Init → Part → Part
from_array ss i x = into_arrays ss i x.of x.from x.behind

abbrev pub is_structure : CType → Bool
is_structure (structure j) = true
is_structure _ = false

abbrev pub into_struct : List Struct → Init → Part → Option Part
into_struct ss i x = option_map (from_array ss i) (next_part ss (parts ss x.of x.from ++ x.behind))

abbrev pub then_part : Option Part → (Part → Option Part) → Option Part
then_part None f = None
then_part (Some x) f = f x

-- through so many structs that lie in each other
abbrev pub inwards : List Struct → Init → ℕ → Part → Option Part
inwards ss i zero x = if is_structure x.of then None else Some x
inwards ss i (suc n) x = if is_structure x.of then then_part (into_struct ss i x) (λ y. inwards ss i n y) else Some x

abbrev pub innermost : List Struct → Init → Part → Option Part
innermost ss i x = inwards ss i (height ss x.of) (from_array ss i x)

-- the part that is next, as this initialiser takes it: a list takes it whole
abbrev pub reached : List Struct → Init → Part → Option Part
reached ss (one e) x = innermost ss (one e) x
reached ss (list is c) x = Some x

-- where none is left there are too many values; `name` is the place of the declared name
abbrev pub taken : List Struct → Place → List Run → Init → Checked Part
taken ss name rs i = where_given (then_part (next_part ss rs) (λ x. reached ss i x)) BadInitialiser name (λ x. accepted x)
