-- Where a path leads from a region, and which cells correspond.
use Rattle.std.specs.Prelude.{◌≡◌, ℕ, Bool, true, false, nat_eq, cond, ◌&&◌, ◌||◌, List, [], ◌∷◌, length, drop, Option, Some, None, slice_get}
use Rattle.std.specs.Option.{option_eq}
use Rattle.sp_types.specs.Types.{CType, integer}
use Rattle.sp_types.specs.Layout.{integer_size}
use Rattle.sp_ir.specs.declared.region.Step.{Step}
use Rattle.sp_ir.specs.declared.program.ObjectKind.{ObjectKind}
use Rattle.sp_ir.specs.declared.program.ObjectKind.TheVariants.{Heap}
use Rattle.sp_ir.specs.Regions.{Region, child_at, is_cell_at}
use Rattle.sp_ir.specs.Programs.{Lowered, Object}
use Rattle.sp_ir.specs.Formed.{is_pointer}
use Rattle.sp_ir.specs.Terrain.{is_bytes, matches}
use Rattle.sp_base_sets.specs.Sets.{has}
use Rattle.sp_base_sets.specs.Reached.{row}
use Rattle.sp_points_rules.specs.declared.groups.Groups.{Groups}
use Rattle.sp_points_rules.specs.Leaves.{leaf_points}

abbrev pub option_region : Lowered → ℕ → Option Region
option_region p r = slice_get p.regions r

abbrev pub option_object : Lowered → ℕ → Option Object
option_object p o = slice_get p.objects o

-- ---- paths

-- a step inside a region that is kept as bytes stays there; else there may be no region
abbrev pub step_to : Lowered → ℕ → Step → Option ℕ
step_to p r s = cond (is_bytes (slice_get p.regions r)) (Some r) (child_at p.regions r s)

abbrev pub next : Lowered → Option ℕ → Step → Option ℕ
next p None s = None
next p (Some r) s = step_to p r s

-- where a path leads from a region
abbrev pub descend : Lowered → Option ℕ → List Step → Option ℕ
descend p o [] = o
descend p o (s ∷ path) = descend p (next p o s) path

abbrev pub path_in : Option Region → List Step
path_in None = []
path_in (Some r) = r.path

-- the path from a region to one under it
abbrev pub between : Lowered → ℕ → ℕ → List Step
between p q c = drop (length (path_in (slice_get p.regions q))) (path_in (slice_get p.regions c))

-- the cell is under the region
abbrev pub reaches : Lowered → ℕ → ℕ → Bool
reaches p q c = is_cell_at p.regions c && option_eq nat_eq (descend p (Some q) (between p q c)) (Some c)

abbrev pub only_cell : Lowered → Option ℕ → Option ℕ
only_cell p None = None
only_cell p (Some b) = cond (is_cell_at p.regions b) (Some b) None

-- the cell to which the path from a region q to a cell c under it leads from another region
abbrev pub mirrored : Lowered → ℕ → ℕ → ℕ → Option ℕ
mirrored p q s c = cond (reaches p q c) (only_cell p (descend p (Some s) (between p q c))) None

abbrev pub object_in : Option Region → ℕ
object_in None = 0
object_in (Some r) = r.object

-- the object of a region
abbrev pub object_at : Lowered → ℕ → ℕ
object_at p q = object_in (slice_get p.regions q)

-- The list of an object has the cells of its regions: what is in it is a cell of that object, and all
-- that is under one of its regions is in it. Just the pointers' regions have a leaf that is a pointer.
pub record AreGroups (p : Lowered) (groups : Groups) : Type 0 where
  pub under : (q c : ℕ) → reaches p q c ≡ true
      → has c (row groups.objects.items (object_at p q)) ≡ true
  pub own : (o c : ℕ) → has c (row groups.objects.items o) ≡ true → object_at p c ≡ o
  pub cells : (o c : ℕ) → has c (row groups.objects.items o) ≡ true
      → is_cell_at p.regions c ≡ true
  pub pointers : (c : ℕ) → has c groups.pointers ≡ leaf_points p c

-- ---- what a region is

-- what may be copied cell by cell: elements of matching types, or bytes on one side
abbrev pub elements_pair : Option CType → Option CType → Bool
elements_pair None of = true
elements_pair (Some t) None = true
elements_pair (Some t) (Some of) = matches t of

abbrev pub regions_pair : Option Region → Option Region → Bool
regions_pair None b = false
regions_pair (Some a) None = false
regions_pair (Some a) (Some b) = elements_pair a.element b.element

abbrev pub pairs : Lowered → ℕ → ℕ → Bool
pairs p q s = regions_pair (slice_get p.regions q) (slice_get p.regions s)

-- integers of one byte, or bytes
abbrev pub text_element : Option CType → Bool
text_element None = true
text_element (Some (integer k)) = nat_eq (integer_size k) 1
text_element (Some t) = false

abbrev pub text_region : Option Region → Bool
text_region None = false
text_region (Some r) = text_element r.element

abbrev pub is_text : Lowered → ℕ → Bool
is_text p r = text_region (slice_get p.regions r)

-- a pointer, or bytes where it is said that they hold one
abbrev pub pointer_element : Bool → Option CType → Bool
pointer_element bytes None = bytes
pointer_element bytes (Some t) = is_pointer t

abbrev pub pointer_region : Bool → Option Region → Bool
pointer_region bytes None = false
pointer_region bytes (Some r) = pointer_element bytes r.element

-- A cell under the region q that may hold a pointer, where a value with one comes to q from
-- outside. It is of pointer type, or it is kept as bytes. Then it is q, to which all leaves go, or a
-- leaf of the type that stands there is a pointer.
abbrev pub points_under : Lowered → ℕ → ℕ → Bool
points_under p q c = reaches p q c
    && pointer_region (nat_eq q c || leaf_points p c) (slice_get p.regions c)

-- the same, where what comes has the type that stands at q
abbrev pub leaf_points_under : Lowered → ℕ → ℕ → Bool
leaf_points_under p q c = reaches p q c
    && pointer_region (leaf_points p c) (slice_get p.regions c)

abbrev pub is_heap_kind : ObjectKind → Bool
is_heap_kind (Heap n) = true
is_heap_kind k = false

abbrev pub is_heap_object : Option Object → Bool
is_heap_object None = false
is_heap_object (Some o) = is_heap_kind o.kind

abbrev pub is_root_path : List Step → Bool
is_root_path path = nat_eq (length path) 0

abbrev pub heap_root_in : Lowered → Option Region → Bool
heap_root_in p None = false
heap_root_in p (Some r) = is_root_path r.path && is_heap_object (slice_get p.objects r.object)

-- the whole of what the library allocated at a node
abbrev pub is_heap_root : Lowered → ℕ → Bool
is_heap_root p r = heap_root_in p (slice_get p.regions r)
