-- Regions: what each is, and the list of those of a program. A region's number is its place.
use Rattle.std.specs.Prelude.{◌≡◌, ℕ, zero, suc, ◌+◌, nat_eq, Bool, true, false, not, cond, ◌&&◌, ◌||◌, List, [], ◌∷◌, ◌++◌, length, take, map, Option, Some, None, option_map, slice_get, is_some, if◌then◌else◌, position}
use Rattle.std.specs.Option.{option_eq}
use Rattle.std.specs.List.{list_any}
use Rattle.sp_types.specs.Types.{CType, integer, pointer}
use Rattle.sp_types.specs.View.{type_of}
use Rattle.sp_ir.specs.declared.region.Step.{Step}
use Rattle.sp_ir.specs.declared.region.Region.{Region as CodeRegion}
use Rattle.sp_ir.specs.declared.regions.Regions.{Regions}
use Rattle.sp_ir.specs.Paths.{same_path}

-- Its object and the path to it from there; the type of its elements, none where they are bytes;
-- the size of one in bytes; and how many there are, none where that isn't fixed.
pub record Region : Type 0 where
  pub object : ℕ
  pub path : List Step
  pub element : Option CType
  pub size : ℕ
  pub count : Option ℕ

abbrev pub region_of : CodeRegion → Region
region_of r = record {
  object = r.object;
  path = r.path.items;
  element = option_map type_of r.element;
  size = r.size;
  count = r.count;
}

-- ---- the list

-- whether a region has this object and this path
abbrev pub stands_at : ℕ → List Step → Region → Bool
stands_at o p r = nat_eq o r.object && same_path p r.path

-- the number of the region of this object and this path
abbrev pub number_at : List Region → ℕ → List Step → Option ℕ
number_at rs o p = position (stands_at o p) rs

-- the regions after one is added: it goes last where none has its object and path
abbrev pub with_region : List Region → Region → List Region
with_region rs r = if list_any (stands_at r.object r.path) rs then rs else rs ++ r ∷ []

-- the regions that a value of the code stands for
abbrev pub region_list : Regions → List Region
region_list r = map region_of r.set.keys

-- the region one step under this one
abbrev pub child_of : List Region → Option Region → Step → Option ℕ
child_of rs None s = None
child_of rs (Some r) s = number_at rs r.object (r.path ++ s ∷ [])

abbrev pub child_at : List Region → ℕ → Step → Option ℕ
child_at rs n s = child_of rs (slice_get rs n) s

abbrev pub region_of_number : List Region → Option ℕ → Option Region
region_of_number rs None = None
region_of_number rs (Some n) = slice_get rs n

-- the region of this object and this path
abbrev pub region_at : List Region → ℕ → List Step → Option Region
region_at rs o p = region_of_number rs (number_at rs o p)

-- no two have one object and one path
abbrev pub AreDistinct : List Region → Type 0
AreDistinct rs = (i j : ℕ) (r s : Region) → slice_get rs i ≡ Some r → slice_get rs j ≡ Some s
    → stands_at r.object r.path s ≡ true → i ≡ j

-- ---- what is read of them

-- a region is under another where its path begins with that one's; each is under itself
abbrev pub is_under : Region → Region → Bool
is_under above r = nat_eq above.object r.object && same_path above.path (take (length above.path) r.path)

-- a cell: of integer or pointer type, or kept as bytes
abbrev pub is_cell_type : Option CType → Bool
is_cell_type None = true
is_cell_type (Some (integer k)) = true
is_cell_type (Some (pointer t)) = true
is_cell_type (Some t) = false

abbrev pub is_cell : Region → Bool
is_cell r = is_cell_type r.element

-- the numbers of those that pass a test, from this number on
abbrev pub numbers_of : (Region → Bool) → ℕ → List Region → List ℕ
numbers_of test n [] = []
numbers_of test n (r ∷ rs) = cond (test r) (n ∷ numbers_of test (n + 1) rs) (numbers_of test (n + 1) rs)

-- the cells under the region of a number, itself among them, ascending
abbrev pub cells_below : List Region → Option Region → List ℕ
cells_below rs None = []
cells_below rs (Some above) = numbers_of (λ r. is_cell r && is_under above r) 0 rs

abbrev pub cells_under_at : List Region → ℕ → List ℕ
cells_under_at rs n = cells_below rs (slice_get rs n)

abbrev pub is_cell_region : Option Region → Bool
is_cell_region None = false
is_cell_region (Some r) = is_cell r

abbrev pub is_cell_at : List Region → ℕ → Bool
is_cell_at rs n = is_cell_region (slice_get rs n)

-- ---- summaries

-- whether there is one element; of a site there may be more
abbrev pub is_one : Option Region → Bool
is_one None = true
is_one (Some r) = option_eq nat_eq r.count (Some 1)

abbrev pub is_many : List Region → ℕ → List Step → Bool
is_many rs o p = not (is_one (region_at rs o p))

-- whether the region at one of the fronts of a path of less than k steps has other than one element
abbrev pub is_under_many : List Region → ℕ → List Step → ℕ → Bool
is_under_many rs o p zero = false
is_under_many rs o p (suc k) = is_many rs o (take k p) || is_under_many rs o p k

-- it stands for more than one place of the machine: kept as bytes, in an element of several, or
-- under a site; under a step to a member there is one element
abbrev pub is_summary : List Region → Region → Bool
is_summary rs r = not (is_some r.element)
    || (is_many rs r.object r.path || is_under_many rs r.object r.path (length r.path))

abbrev pub is_summary_region : List Region → Option Region → Bool
is_summary_region rs None = false
is_summary_region rs (Some r) = is_summary rs r

abbrev pub is_summary_at : List Region → ℕ → Bool
is_summary_at rs n = is_summary_region rs (slice_get rs n)
