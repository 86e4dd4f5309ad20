-- The regions of an expression as a relation: what the lists of `sp_ir.specs.Denoted` hold.
use Rattle.std.specs.Prelude.{◌≡◌, ℕ, Bool, true}
use Rattle.sp_ir.specs.Commands.{Expression, number, address, decay, read, convert, unary, binary, compare, move, distance, Lvalue, direct, through, field}
use Rattle.sp_ir.specs.Terrain.{Terrain}
use Rattle.sp_ir.specs.Denoted.{keeps_targets, member_region, element_region}
use Rattle.sp_base_sets.specs.Sets.{has}
use Rattle.sp_points_expr.specs.Tables.{Table}

-- an access at a region finds what was stored there; elsewhere it is punned
abbrev pub is_matched : Terrain → Lvalue → ℕ → Bool
is_matched g (direct o t) r = true
is_matched g (through e t at) r = g.accepts r t
is_matched g (field l k t) r = true

abbrev mutual
  -- the regions to which an expression's value may point
  pub Gives : Terrain → Table → Expression → ℕ → Type 0
  Gives g t (number z k) r = ⊥
  Gives g t (address l) r = Denotes g t l r
  Gives g t (decay l) r = (q : ℕ) × Denotes g t l q × (is_matched g l q ≡ true) × (element_region g q ≡ r)
  Gives g t (read l) r = (c : ℕ) × Denotes g t l c × (is_matched g l c ≡ true) × (has r (t c) ≡ true)
  Gives g t (convert to e) r = (keeps_targets to ≡ true) × Gives g t e r
  Gives g t (unary s k e) r = ⊥
  Gives g t (binary op k e f at) r = ⊥
  Gives g t (compare op e f) r = ⊥
  Gives g t (move e f back size) r = Gives g t e r
  Gives g t (distance e f size) r = ⊥

  -- the regions where an lvalue may stand, punned ones too
  pub Denotes : Terrain → Table → Lvalue → ℕ → Type 0
  Denotes g t (direct o of) r = g.root o ≡ r
  Denotes g t (through e of at) r = Gives g t e r
  Denotes g t (field l k of) r = (q : ℕ) × Denotes g t l q × (is_matched g l q ≡ true) × (member_region g k q ≡ r)

-- the cells that an lvalue is read from, or written to
abbrev pub Stores : Terrain → Table → Lvalue → ℕ → Type 0
Stores g t l c = Denotes g t l c × (is_matched g l c ≡ true)
