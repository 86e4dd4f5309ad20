-- What evaluation and points-to need to know of a program: its regions.
use Rattle.std.specs.Prelude.{ℕ, zero, suc, ◌-◌, ◌*◌, ◌/◌, ◌<◌, ◌^◌, nat_eq, Bool, true, false, not, ◌&&◌, List, [], ◌∷◌, Option, Some, None, is_some, unwrap_or, slice_get, min, max}
use Rattle.sp_types.specs.Types.{CType, integer, pointer, array, structure, Struct}
use Rattle.sp_types.specs.Layout.{layout, integer_size}
use Rattle.sp_types.specs.Structs.{plus}
use Rattle.sp_types.specs.Compatible.{same_length}
use Rattle.sp_types.specs.declared.extents.Extent.{Extent}
use Rattle.sp_ir.specs.declared.region.Step.TheVariants.{Field, Element}
use Rattle.sp_ir.specs.Regions.{Region, number_at, child_at}
use Rattle.sp_ir.specs.Programs.{Lowered}

-- ---- access

-- an access of the second type finds an element of the first as it was stored
abbrev pub matches : CType → CType → Bool
matches (integer k) (integer n) = nat_eq (integer_size k) (integer_size n)
matches (pointer t) (pointer u) = true
matches (structure k) (structure n) = nat_eq k n
matches (array t n) (array u m) = same_length n m && matches t u
matches _ _ = false

-- bytes match every access
abbrev pub element_accepts : Option CType → CType → Bool
element_accepts None t = true
element_accepts (Some of) t = matches of t

-- ---- sizes in bytes

abbrev pub size_in : Option Extent → ℕ
size_in None = 0
size_in (Some e) = e.size

-- 0 without a layout
abbrev pub size_of : List Struct → CType → ℕ
size_of ss t = size_in (layout ss t)

-- where a member of this alignment begins, behind so many bytes (C90 6.5.2.1); as in sp_types, sums
-- stop at the largest number that the code holds, which no struct of a formed program reaches
abbrev pub begins_at : Option Extent → ℕ → ℕ
begins_at None from = from
begins_at (Some e) from = plus from (e.align - 1) / e.align * e.align

abbrev pub offset_among : List Struct → ℕ → List (ℕ × CType) → ℕ → ℕ
offset_among ss from [] k = 0
offset_among ss from (m ∷ ms) zero = begins_at (layout ss m.1) from
offset_among ss from (m ∷ ms) (suc k) =
    offset_among ss (plus (begins_at (layout ss m.1) from) (size_of ss m.1)) ms k

-- of a union all begin at 0
abbrev pub offset_in : List Struct → Bool → Option (List (ℕ × CType)) → ℕ → ℕ
offset_in ss union None k = 0
offset_in ss true (Some ms) k = 0
offset_in ss false (Some ms) k = offset_among ss 0 ms k

abbrev pub offset_of : List Struct → Option Struct → ℕ → ℕ
offset_of ss None k = 0
offset_of ss (Some s) k = offset_in ss s.union s.members k

-- where a member begins in its struct or union
abbrev pub member_offset : List Struct → CType → ℕ → ℕ
member_offset ss (structure n) k = offset_of ss (slice_get ss n) k
member_offset ss t k = 0

-- ---- the terrain

pub record Terrain : Type 0 where
  -- the root region of an object
  pub root : ℕ → ℕ
  -- the region of a member, and the one of an array's elements
  pub member : ℕ → ℕ → ℕ
  pub element : ℕ → ℕ
  -- whether it is kept as bytes
  pub collapsed : ℕ → Bool
  -- the size of an element in bytes, and how many elements there are; 0 where that isn't fixed
  pub element_size : ℕ → ℕ
  pub count : ℕ → ℕ
  -- whether an access of this type matches
  pub accepts : ℕ → CType → Bool
  -- the size of an access of this type, in bytes
  pub access_size : CType → ℕ
  -- where a member begins in its struct or union, in bytes
  pub member_offset : CType → ℕ → ℕ

-- what holds of the regions of every program
pub record IsTerrain (g : Terrain) : Type 0 where
  pub count_fits : (r : ℕ) → g.count r < 2 ^ 63
  pub size_proper : (r : ℕ) → 0 < g.element_size r

abbrev pub is_bytes : Option Region → Bool
is_bytes None = false
is_bytes (Some r) = not (is_some r.element)

-- at least 1 and at most the greatest size of a target: each region of a formed program is within
abbrev pub element_bytes : Option Region → ℕ
element_bytes None = 1
element_bytes (Some r) = max r.size 1

abbrev pub fixed_count : Option Region → ℕ
fixed_count None = 0
fixed_count (Some r) = min (unwrap_or r.count 0) (2 ^ 63 - 1)

abbrev pub region_accepts : Option Region → CType → Bool
region_accepts None t = false
region_accepts (Some r) t = element_accepts r.element t

-- where a program has no such region, region 0 stands for it: a formed program asks for none
abbrev pub terrain_over : List Struct → List Region → Terrain
terrain_over ss rs = record {
  root = λ o. unwrap_or (number_at rs o []) 0;
  member = λ r k. unwrap_or (child_at rs r (Field k)) 0;
  element = λ r. unwrap_or (child_at rs r Element) 0;
  collapsed = λ r. is_bytes (slice_get rs r);
  element_size = λ r. element_bytes (slice_get rs r);
  count = λ r. fixed_count (slice_get rs r);
  accepts = λ r t. region_accepts (slice_get rs r) t;
  access_size = size_of ss;
  member_offset = member_offset ss;
}

abbrev pub terrain_of : Lowered → Terrain
terrain_of p = terrain_over p.structs p.regions
