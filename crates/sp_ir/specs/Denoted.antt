-- The regions of an expression: those that its value may point to, by those that each cell may
-- point to. And the cells that it reads. Evaluation and points-to share these.
use Rattle.std.specs.Prelude.{ℕ, nat_eq, Bool, false, true, cond, List, [], ◌∷◌, ◌++◌, map, filter, flat_map}
use Rattle.sp_types.specs.Types.{CType, integer, pointer}
use Rattle.sp_types.specs.Layout.{integer_size}
use Rattle.sp_ir.specs.Commands.{Expression, number, address, decay, read, convert, unary, binary, compare, move, distance, Lvalue, direct, through, field}
use Rattle.sp_ir.specs.Terrain.{Terrain}

-- the regions to which each cell may point
abbrev pub PointsTo : Type 0
PointsTo = ℕ → List ℕ

-- whether a value converted to a type still points: the types of 8 bytes
abbrev pub keeps_targets : CType → Bool
keeps_targets (integer k) = nat_eq (integer_size k) 8
keeps_targets (pointer t) = true
keeps_targets t = false

-- of the regions of an lvalue's address, those at which an access matches
abbrev pub matched_regions : Terrain → Lvalue → List ℕ → List ℕ
matched_regions g (direct o t) rs = rs
matched_regions g (through e t at) rs = filter (λ r. g.accepts r t) rs
matched_regions g (field l k t) rs = rs

-- a step inside a region that is kept as bytes stays there
abbrev pub member_region : Terrain → ℕ → ℕ → ℕ
member_region g k r = cond (g.collapsed r) r (g.member r k)

abbrev pub element_region : Terrain → ℕ → ℕ
element_region g r = cond (g.collapsed r) r (g.element r)

abbrev mutual
  -- where an lvalue may stand, punned regions too
  pub address_regions : Terrain → PointsTo → Lvalue → List ℕ
  address_regions g points (direct o t) = g.root o ∷ []
  address_regions g points (through e t at) = regions_of g points e
  address_regions g points (field l k t) =
      map (member_region g k) (matched_regions g l (address_regions g points l))

  -- where an expression's value may point
  pub regions_of : Terrain → PointsTo → Expression → List ℕ
  regions_of g points (number z k) = []
  regions_of g points (address l) = address_regions g points l
  regions_of g points (decay l) =
      map (element_region g) (matched_regions g l (address_regions g points l))
  regions_of g points (read l) =
      flat_map points (matched_regions g l (address_regions g points l))
  regions_of g points (convert t e) = cond (keeps_targets t) (regions_of g points e) []
  regions_of g points (unary s k e) = []
  regions_of g points (binary op k e f at) = []
  regions_of g points (compare op e f) = []
  regions_of g points (move e f back size) = regions_of g points e
  regions_of g points (distance e f size) = []

-- the cells that an lvalue is read from, or written to
abbrev pub cells_of : Terrain → PointsTo → Lvalue → List ℕ
cells_of g points l = matched_regions g l (address_regions g points l)

abbrev mutual
  -- the cells that are read to find an lvalue
  pub pointer_uses : Terrain → PointsTo → Lvalue → List ℕ
  pointer_uses g points (direct o t) = []
  pointer_uses g points (through e t at) = uses_of g points e
  pointer_uses g points (field l k t) = pointer_uses g points l

  -- the cells that an expression reads
  pub uses_of : Terrain → PointsTo → Expression → List ℕ
  uses_of g points (number z k) = []
  uses_of g points (address l) = pointer_uses g points l
  uses_of g points (decay l) = pointer_uses g points l
  uses_of g points (read l) = cells_of g points l ++ pointer_uses g points l
  uses_of g points (convert t e) = uses_of g points e
  uses_of g points (unary s k e) = uses_of g points e
  uses_of g points (binary op k e f at) = uses_of g points e ++ uses_of g points f
  uses_of g points (compare op e f) = uses_of g points e ++ uses_of g points f
  uses_of g points (move e f back size) = uses_of g points e ++ uses_of g points f
  uses_of g points (distance e f size) = uses_of g points e ++ uses_of g points f
