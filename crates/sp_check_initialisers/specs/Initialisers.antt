-- Initialisers (C90 6.5.7): the values of the scalar leaves of an object, and the type that they
-- complete.
--
-- Values are numbered by their leaves and come in that order, so the last of them has the highest
-- number.
use Rattle.std.specs.Prelude.{ℕ, zero, suc, ◌+◌, ◌-◌, ◌/◌, ◌^◌, pos, Bool, true, false, not, ◌||◌, List, [], ◌∷◌, ◌++◌, length, slice_get, Option, Some, None, if◌then◌else◌, nat_le}
use Rattle.sp_tree.specs.declared.fault.Place.{Place}
use Rattle.sp_tree.specs.declared.fault.FaultKind.TheVariants.{IncompleteType, NotConvertible, NotAConstant, BadInitialiser, BadLength, FloatingType}
use Rattle.sp_parse_trees.specs.Syntax.{Expression, Init, one, list, Inits, no_inits, next_init}
use Rattle.sp_parse_trees.specs.Places.{place_of}
use Rattle.sp_types.specs.Types.{CType, array, structure, Struct}
use Rattle.sp_types.specs.Typed.{Typed, of}
use Rattle.sp_types.specs.Programs.{Object}
use Rattle.sp_types.specs.Compatible.{convertible}
use Rattle.sp_types.specs.Structs.{leaves}
use Rattle.sp_base_checked.specs.Answers.{Checked, accepted, refused, and_then, where_met, where_given}
use Rattle.sp_check_operands.specs.Conversions.{converted, is_floating, is_complete}
use Rattle.sp_check_binary_rules.specs.Lengths.{made_array}
use Rattle.sp_check_env.specs.Env.{Env, with_constant}
use Rattle.sp_expr_check.specs.Expressions.{value_checked}
use Rattle.sp_expr_check.specs.Specifiers.{stays}
use Rattle.sp_check_initialisers.specs.declared.targets.Target.{Target}
use Rattle.sp_check_initialisers.specs.Runs.{Run, parts, taken}
use Rattle.sp_check_initialisers.specs.StaticValues.{is_static}
use Rattle.sp_check_initialisers.specs.Strings.{only_value, string_for, string_added}

-- ---- one value

-- for a scalar: it converts as in an assignment (6.3.16.1), and is a constant where the object is
-- static; `at` is its place
abbrev pub leaf : List Object → Target → Place → CType → Typed → Checked Typed
leaf os w at t e =
    where_met (not (is_floating t)) FloatingType at
    (where_met (convertible (of e) t) NotConvertible at
    (where_met (not w.fixed || is_static os e) NotAConstant at
    (accepted (converted t e))))

-- the leaf of a number, behind the values that are given
abbrev pub leaf_added : List Object → Target → Place → List (ℕ × Typed) → CType → ℕ → Typed → Checked (List (ℕ × Typed))
leaf_added os w at vs t k e = and_then (leaf os w at t e) (λ v. accepted (vs ++ (k, v) ∷ []))

abbrev pub leaf_given : List (List ℕ) → Env → Target → List (ℕ × Typed) → CType → ℕ → Expression → Checked (List (ℕ × Typed) × Env)
leaf_given names env w vs t k e =
    and_then (value_checked names env e) (λ x. stays x.1 (leaf_added x.1.tables.objects w (place_of e) vs t k x.0))

-- a value for one part: a string for an array of characters, else one for a scalar
abbrev pub one_given : List (List ℕ) → Env → Target → List (ℕ × Typed) → CType → ℕ → Expression → Checked (List (ℕ × Typed) × Env)
one_given names env w vs t k e = elim (string_for t (one e)) [ Some s ↦ stays env (string_added names vs t k w.name s) | None ↦ leaf_given names env w vs t k e ]

-- braces round a scalar have one value
abbrev pub only_given : List (List ℕ) → Env → Target → List (ℕ × Typed) → CType → ℕ → Inits → Checked (List (ℕ × Typed) × Env)
only_given names env w vs t k is = where_given (only_value is) BadInitialiser w.name (λ e. leaf_given names env w vs t k e)

abbrev pub is_aggregate : CType → Bool
is_aggregate (array t n) = true
is_aggregate (structure k) = true
is_aggregate t = false

-- ---- lists

-- what is still to be initialised, and the values that are given
pub record Progress : Type 0 where
  pub runs : List Run
  pub values : List (ℕ × Typed)

abbrev pub moved_on : List Run → List (ℕ × Typed) × Env → Checked (Progress × Env)
moved_on rs z = accepted (record { runs = rs; values = z.0 }, z.1)

abbrev mutual
  -- the values of a list go to the parts in order
  pub filled : List (List ℕ) → Env → Target → Progress → Inits → Checked (List (ℕ × Typed) × Env)
  filled names env w x no_inits = accepted (x.values, env)
  filled names env w x (next_init i is) =
      and_then (and_then (taken env.tables.structs w.name x.runs i) (λ y.
      and_then (given names env w x.values y.of y.from i) (λ z. moved_on y.behind z))) (λ y.
      filled names y.1 w y.0 is)

  -- an initialiser for a part of this type, whose first leaf is k
  pub given : List (List ℕ) → Env → Target → List (ℕ × Typed) → CType → ℕ → Init → Checked (List (ℕ × Typed) × Env)
  given names env w vs t k (one e) = one_given names env w vs t k e
  given names env w vs t k (list is c) =
      elim (string_for t (list is c)) [
        | Some s ↦ stays env (string_added names vs t k w.name s)
        | None ↦
            if is_aggregate t then filled names env w (record { runs = parts env.tables.structs t k; values = vs }) is
            else only_given names env w vs t k is
      ]

-- the next initialiser of a list
abbrev pub next_filled : List (List ℕ) → Env → Target → Progress → Init → Checked (Progress × Env)
next_filled names env w x i =
    and_then (taken env.tables.structs w.name x.runs i) (λ y.
    and_then (given names env w x.values y.of y.from i) (λ z. moved_on y.behind z))

abbrev pub inits_of : Init → Inits
inits_of (one e) = no_inits
inits_of (list is c) = is

-- ---- whole objects

-- an automatic struct or union takes one expression of its type, as its value of number 0
abbrev pub struct_whole : Target → Place → CType → Typed → Checked (List (ℕ × Typed))
struct_whole w at t e =
    where_met (convertible (of e) t) NotConvertible at
    (where_met (not w.fixed) NotAConstant at
    (accepted ((0, e) ∷ [])))

abbrev pub struct_given : List (List ℕ) → Env → Target → CType → Expression → Checked (List (ℕ × Typed) × Env)
struct_given names env w t e = and_then (value_checked names env e) (λ x. stays x.1 (struct_whole w (place_of e) t x.0))

-- an array takes braces, or one string
abbrev pub array_given : List (List ℕ) → Env → Target → CType → Expression → Checked (List (ℕ × Typed) × Env)
array_given names env w t e = elim (string_for t (one e)) [ Some s ↦ stays env (string_added names [] t 0 w.name s) | None ↦ refused BadInitialiser w.name ]

abbrev pub alone : List (List ℕ) → Env → Target → CType → Expression → Checked (List (ℕ × Typed) × Env)
alone names env w (structure j) e = struct_given names env w (structure j) e
alone names env w (array t n) e = array_given names env w (array t n) e
alone names env w t e = one_given names env w [] t 0 e

abbrev pub initialised : List (List ℕ) → Env → Target → CType → Init → Checked (List (ℕ × Typed) × Env)
initialised names env w t (one e) = alone names env w t e
initialised names env w t (list is c) = given names env w [] t 0 (list is c)

-- ---- the length of an array that no length is told of: its elements reach to the last value

abbrev pub leaf_number : Option (ℕ × Typed) → ℕ
leaf_number None = 0
leaf_number (Some v) = v.0

abbrev pub last_leaf : List (ℕ × Typed) → ℕ
last_leaf vs = leaf_number (slice_get vs (length vs - 1))

abbrev pub how_many : ℕ → ℕ → ℕ
how_many last zero = 1
how_many last (suc each) = last / suc each + 1

abbrev pub measured : List Struct → Place → List (ℕ × Typed) → CType → Checked CType
measured ss at vs (array t None) =
    where_met (nat_le (how_many (last_leaf vs) (leaves ss t)) (2 ^ 31 - 1)) BadLength at
    (made_array ss t (Some (how_many (last_leaf vs) (leaves ss t))) at)
measured ss at vs t = accepted t

-- the length that is told so is a constant of the ladder
abbrev pub with_length : Env → Bool → CType → Env
with_length env true (array t (Some n)) = with_constant env (pos n)
with_length env _ t = env

abbrev pub is_unmeasured : CType → Bool
is_unmeasured (array t None) = true
is_unmeasured t = false

-- the type of an object, and its values
pub record Started : Type 0 where
  pub of : CType
  pub values : List (ℕ × Typed)

-- an object of this type, with its initialiser
abbrev pub started : List (List ℕ) → Env → Target → CType → Init → Checked (Started × Env)
started names env w t i =
    where_met (is_unmeasured t || is_complete env.tables.structs t) IncompleteType w.declarator
    (and_then (initialised names env w t i) (λ x.
    and_then (measured x.1.tables.structs w.declarator x.0 t) (λ u.
    accepted (record { of = u; values = x.0 }, with_length x.1 (is_unmeasured t) u))))
