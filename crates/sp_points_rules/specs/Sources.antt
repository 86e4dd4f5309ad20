-- Sets of regions that the rules of points-to speak of, by what each cell may point to.
use Rattle.std.specs.Prelude.{◌≡◌, ℕ, Bool, true, false, nat_eq, cond, ◌&&◌, Option, Some, None, slice_get}
use Rattle.sp_types.specs.Types.{CType, structure}
use Rattle.sp_ir.specs.Commands.{Expression, Lvalue}
use Rattle.sp_ir.specs.Programs.{Lowered, Code}
use Rattle.sp_ir.specs.Formed.{is_scalar}
use Rattle.sp_ir.specs.Terrain.{terrain_of}
use Rattle.sp_ir.specs.Functions.{function_at}
use Rattle.sp_ir.specs.Denoted.{keeps_targets, regions_of, cells_of}
use Rattle.sp_base_sets.specs.Sets.{has}
use Rattle.sp_points_expr.specs.Tables.{Table}
use Rattle.sp_points_rules.specs.declared.sources.Test.{Test}
use Rattle.sp_points_rules.specs.declared.sources.Test.TheVariants.{KeptScalar, AnyScalar, Aggregate}
use Rattle.sp_points_rules.specs.declared.sources.Only.{Only}
use Rattle.sp_points_rules.specs.declared.sources.Only.TheVariants.{Every, Texts, HeapRoots, Pointers, PointerLeaves}
use Rattle.sp_points_rules.specs.Leaves.{type_in}
use Rattle.sp_points_rules.specs.Paths.{is_text, is_heap_root, points_under, leaf_points_under}

-- ---- formals and results

-- a type of integers or pointers whose values keep what they point to; any such type; a struct
abbrev pub is_of : Test → CType → Bool
is_of KeptScalar t = is_scalar t && keeps_targets t
is_of AnyScalar t = is_scalar t
is_of (Aggregate n) (structure k) = nat_eq n k
is_of (Aggregate n) t = false

abbrev pub typed_root : Lowered → Test → ℕ → Option CType → Option ℕ
typed_root p test o None = None
typed_root p test o (Some t) = cond (is_of test t) (Some ((terrain_of p).root o)) None

-- the root region of an object whose type passes
abbrev pub root_where : Lowered → Test → Option ℕ → Option ℕ
root_where p test None = None
root_where p test (Some o) = typed_root p test o (type_in (slice_get p.objects o))

abbrev pub formal_in : Option Code → ℕ → Option ℕ
formal_in None i = None
formal_in (Some c) i = slice_get c.formals i

-- the object of a parameter of a function
abbrev pub formal_at : Lowered → ℕ → ℕ → Option ℕ
formal_at p f i = formal_in (slice_get p.functions f) i

abbrev pub result_in : Option Code → Option ℕ
result_in None = None
result_in (Some c) = c.result

-- the object of a function's result
abbrev pub result_of : Lowered → ℕ → Option ℕ
result_of p f = result_in (slice_get p.functions f)

-- a call of this expression with so many arguments calls the function
abbrev pub Calls : Lowered → Table → Expression → ℕ → ℕ → Type 0
Calls p u callee count f = (r : ℕ) × (has r (regions_of (terrain_of p) u callee) ≡ true)
    × (function_at p r count ≡ Some f)

-- ---- sources

-- where an expression's value may point; where an lvalue is read and written; one region; the roots
-- of the parameters at one place of what an expression calls, and of its results
pub data Base : Type 0 where
  regions : Expression → Base
  cells : Lvalue → Base
  region : ℕ → Base
  formals : Expression → ℕ → ℕ → Test → Base
  results : Expression → ℕ → Test → Base

abbrev pub InBase : Lowered → Table → Base → ℕ → Type 0
InBase p u (regions e) r = has r (regions_of (terrain_of p) u e) ≡ true
InBase p u (cells l) r = has r (cells_of (terrain_of p) u l) ≡ true
InBase p u (region n) r = n ≡ r
InBase p u (formals callee count place test) r = (f : ℕ) × Calls p u callee count f
    × (root_where p test (formal_at p f place) ≡ Some r)
InBase p u (results callee count test) r = (f : ℕ) × Calls p u callee count f
    × (root_where p test (result_of p f) ≡ Some r)

-- what is taken of a region: itself; where it is text; where it is the whole of what was allocated;
-- the cells under it that hold a pointer, where one comes from outside; those with such a leaf
abbrev pub passes : Lowered → Only → ℕ → Bool
passes p Every q = true
passes p Texts q = is_text p q
passes p HeapRoots q = is_heap_root p q
passes p Pointers q = false
passes p PointerLeaves q = false

abbrev pub narrows : Lowered → Only → ℕ → ℕ → Bool
narrows p Pointers q r = points_under p q r
narrows p PointerLeaves q r = leaf_points_under p q r
narrows p Every q r = nat_eq q r && passes p Every q
narrows p Texts q r = nat_eq q r && passes p Texts q
narrows p HeapRoots q r = nat_eq q r && passes p HeapRoots q

-- a base, narrowed, and either these regions or where they point
pub record Source : Type 0 where
  pub base : Base
  pub only : Only
  pub read : Bool

pub record InOnly (p : Lowered) (u : Table) (base : Base) (only : Only) (r : ℕ) : Type 0 where
  pub of : ℕ
  pub there : InBase p u base of
  pub narrowed : narrows p only of r ≡ true

pub record InRead (p : Lowered) (u : Table) (base : Base) (only : Only) (r : ℕ) : Type 0 where
  pub cell : ℕ
  pub there : InOnly p u base only cell
  pub holds : has r (u cell) ≡ true

abbrev pub InEither : Bool → Lowered → Table → Base → Only → ℕ → Type 0
InEither false p u base only r = InOnly p u base only r
InEither true p u base only r = InRead p u base only r

abbrev pub InSource : Lowered → Table → Source → ℕ → Type 0
InSource p u s r = InEither s.read p u s.base s.only r
