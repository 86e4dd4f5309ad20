-- What the four uses of a well-typed expression give: a draft that has grown by what is formed, and
-- a formed expression or lvalue of the sort that its type says.
use Rattle.std.specs.Prelude.{◌≡◌, ℕ, ◌≤◌, Bool, true, false, List, Option, Some, ⊤}
use Rattle.sp_types.specs.Types.{CType, void, integer, floating, pointer, array, structure, function}
use Rattle.sp_types.specs.Structs.{IsFormed}
use Rattle.sp_types.specs.Typed.{Typed, of}
use Rattle.sp_ir.specs.Commands.{Expression, read, Lvalue, direct, through, field, lvalue_type, expression_type}
use Rattle.sp_ir.specs.Regions.{Region}
use Rattle.sp_ir.specs.Programs.{Object}
use Rattle.sp_ir.specs.Formed.{IsExpression, IsLvalue, is_integer, is_pointer, is_scalar, is_floating}
use Rattle.sp_ir.specs.Terrain.{size_of}
use Rattle.sp_lower_draft.specs.Context.{Context, is_void}
use Rattle.sp_lower_draft.specs.Draft.{Draft, Left, Branch}
use Rattle.sp_lower_draft.specs.Expressions.{Meaning, meaning}
use Rattle.sp_check_typing.specs.Sorts.{agrees}
use Rattle.sp_check_typing.specs.Trees.{IsTyped, has_place}
use Rattle.sp_lower_expr_laws.specs.Stands.{table, scene, Fits, Holds}
use Rattle.sp_lower_expr_laws.specs.Grown.{Grown, AreEnds, IsReady, IsMaybeFormed}

-- The value of a tree of this type: arrays and functions are pointers. A struct with a layout is
-- read, one without is its address.
abbrev pub IsRead : Context → Expression → CType → Type 0
IsRead c e t = 1 ≤ size_of c.structs t → (l : Lvalue) × (e ≡ read l) × (lvalue_type l ≡ t)

abbrev pub Yields : Context → CType → Expression → Type 0
Yields c void e = ⊤
Yields c (integer k) e = is_integer (expression_type e) ≡ true
Yields c (floating k) e = ⊥
Yields c (pointer t) e = is_pointer (expression_type e) ≡ true
Yields c (array t n) e = is_pointer (expression_type e) ≡ true
Yields c (structure k) e = IsRead c e (structure k)
Yields c (function s) e = is_pointer (expression_type e) ≡ true

-- an lvalue that may lack a layout, where a pointer is followed
abbrev pub IsPlace : Context → List Object → Lvalue → Type 0
IsPlace c os (direct n t) = IsLvalue (table c os) (Some c.function) (direct n t)
IsPlace c os (through e t at) = IsExpression (table c os) (Some c.function) e
    × (is_pointer (expression_type e) ≡ true) × (is_floating t ≡ false) × IsFormed c.structs t
IsPlace c os (field l k t) = IsLvalue (table c os) (Some c.function) (field l k t)

abbrev pub IsValue : Context → List Object → CType → Expression → Type 0
IsValue c os t e = IsExpression (table c os) (Some c.function) e × Yields c t e

abbrev pub Designates : Context → List Object → CType → Lvalue → Type 0
Designates c os t l = IsPlace c os l × (agrees (lvalue_type l) t ≡ true)

pub record Gives {A : Type 0} (c : Context) (os : List Object) (rs : List Region) (P : A → Type 0) (s : Draft) (r : Left A) : Type 0 where
  pub grown : Grown c os rs s r.after
  pub pure : Holds c os r.after → P r.pure

pub record GivesEnds (c : Context) (os : List Object) (rs : List Region) (s : Draft) (b : Branch) : Type 0 where
  pub grown : Grown c os rs s b.after
  pub yes : IsReady c s → AreEnds c b.after b.yes
  pub no : IsReady c s → AreEnds c b.after b.no

-- the uses of an expression that the typing rules allow
pub record IsGood (c : Context) (os : List Object) (rs : List Region) (e : Typed) (m : Meaning) : Type 0 where
  pub value : is_void (of e) ≡ false → (to : Option CType) → IsMaybeFormed c to → (s : Draft)
      → Gives c os rs (IsValue c os (of e)) s (m.value to s)
  pub place : has_place e ≡ true → (s : Draft) → Gives c os rs (Designates c os (of e)) s (m.place s)
  pub unused : (s : Draft) → Grown c os rs s (m.unused s)
  pub branch : is_scalar (of e) ≡ true → (s : Draft) → GivesEnds c os rs s (m.branch s)

-- the law
abbrev pub ExpressionsAreGood : Type 0
ExpressionsAreGood = (c : Context) (os : List Object) (rs : List Region) (v : ℕ → Bool) (e : Typed)
    → Fits c os v → IsTyped (scene c v) e → IsGood c os rs e (meaning c e)
