-- Which cells are read of a struct.
use Rattle.std.proofs.Common.{◌≡◌, ◌⊎◌, inl, inr, ℕ, zero, suc, ◌+◌, ◌^◌, Bool, true, false, cond, nat_eq, ◌||◌, List, [], ◌∷◌, Option, Some, None, refl, sym, ap, ◌∙◌, subst, arith, eqb-true}
use Rattle.std.specs.Prelude.{slice_get, flat_map}
use Rattle.std.proofs.lemmas.Bool.{false≢true, eq-eqb, or_cases}
use Rattle.sp_lattice.specs.System.{has}
use Rattle.sp_ir.specs.Commands.{Lvalue}
use Rattle.sp_ir.specs.Regions.{Region, is_cell, is_cell_at, is_cell_region, numbers_of}
use Rattle.sp_ir.specs.Terrain.{terrain_of}
use Rattle.sp_ir.specs.Denoted.{cells_of, pointer_uses}
use Rattle.sp_ir.specs.Programs.{Lowered}
use Rattle.sp_base_sets.proofs.Members.{has_there}
use Rattle.sp_value.specs.Slots.{known_in}
use Rattle.sp_value.specs.Locations.{location_of, known_at}
use Rattle.sp_eval.proofs.Among.{among-left, among-right, among-filter, among-flat_map}
use Rattle.sp_effect_rows.specs.Rows.{Store}
use Rattle.sp_effect_rows.specs.Setting.{IsSetting, cell_of}
use Rattle.sp_effect_rows.specs.Laws.{AgreeAt}
use Rattle.sp_effect_rows.proofs.Choices.{or_left, or_right}
use Rattle.sp_effect_rows.proofs.SettingLaws.{location-found}
use Rattle.sp_effect_assign.specs.Scene.{known_in_regions}
use Rattle.sp_points_rules.specs.Paths.{reaches}
use Rattle.sp_points_rules.proofs.Reaching.{reached-cell}
use Rattle.sp_effect_scene.specs.Analysed.{Analysed, setting_of, scene_of, locations_of}
use Rattle.sp_effect_call.specs.Copied.{cells_in}
use Rattle.sp_effect_call.specs.Copies.{struct_reads}

-- the number of a region that passes is among the numbers
numbers-have : (test : Region → Bool) (n : ℕ) (rs : List Region) (i : ℕ) (r : Region) → slice_get rs i ≡ Some r → test r ≡ true → has (n + i) (numbers_of test n rs) ≡ true
numbers-have test n [] i r at h = absurd (cc)
numbers-have test n (x ∷ rs) zero r at h = subst (λ b. has (n + 0) (cond b (n ∷ numbers_of test (n + 1) rs) (numbers_of test (n + 1) rs)) ≡ true) (sym (ap test (same at) ∙ h))
    (or_left (nat_eq (n + 0) n) (has (n + 0) (numbers_of test (n + 1) rs)) (eq-eqb (n + 0) n (omega arith)))
  where
    same : Some x ≡ Some r → x ≡ r
    same e = cc
numbers-have test n (x ∷ rs) (suc i) r at h = by (test x) (numbers-have test (n + 1) rs i r at h)
  where
    next : n + 1 + i ≡ n + suc i
    next = omega arith

    by : (b : Bool) → has (n + 1 + i) (numbers_of test (n + 1) rs) ≡ true → has (n + suc i) (cond b (n ∷ numbers_of test (n + 1) rs) (numbers_of test (n + 1) rs)) ≡ true
    by true k = or_right (nat_eq (n + suc i) n) (has (n + suc i) (numbers_of test (n + 1) rs)) (subst (λ m. has m (numbers_of test (n + 1) rs) ≡ true) next k)
    by false k = subst (λ m. has m (numbers_of test (n + 1) rs) ≡ true) next k

pub cell-there : (p : Lowered) (b : ℕ) → is_cell_at p.regions b ≡ true → has b (locations_of p) ≡ true
cell-there p b h = by (slice_get p.regions b) refl h
  where
    by : (o : Option Region) → slice_get p.regions b ≡ o → is_cell_region o ≡ true → has b (locations_of p) ≡ true
    by None e k = absurd (false≢true k)
    by (Some r) e k = let same : 0 + b ≡ b = omega arith in subst (λ m. has m (locations_of p) ≡ true) same (numbers-have is_cell 0 p.regions b r e k)

-- a cell that is reached is one of those under the region
pub in-cells : (p : Lowered) (r b : ℕ) → reaches p r b ≡ true → has b (cells_in p r) ≡ true
in-cells p r b h = among-filter (reaches p r) (locations_of p) b h (cell-there p b (reached-cell p r b h))

module _ (a : Analysed) (from : Lvalue) where
  -- what finds the struct is read, and each cell under where it may be
  pub struct-found : (r : ℕ) → has r (pointer_uses (terrain_of a.program) (setting_of a).points_to from) ≡ true → has r (struct_reads a from) ≡ true
  struct-found r m = among-right (flat_map (cells_in a.program) (cells_of (terrain_of a.program) (setting_of a).points_to from)) (pointer_uses (terrain_of a.program) (setting_of a).points_to from) r m

  pub struct-held : (r b : ℕ) → has r (cells_of (terrain_of a.program) (setting_of a).points_to from) ≡ true → reaches a.program r b ≡ true → has b (struct_reads a from) ≡ true
  struct-held r b m there = among-left (flat_map (cells_in a.program) (cells_of (terrain_of a.program) (setting_of a).points_to from)) (pointer_uses (terrain_of a.program) (setting_of a).points_to from) b
      (among-flat_map (cells_in a.program) (cells_of (terrain_of a.program) (setting_of a).points_to from) r b m (in-cells a.program r b there))

-- ---- what isn't a cell holds nothing

numbers-pass : (test : Region → Bool) (n : ℕ) (rs : List Region) (r : ℕ) → has r (numbers_of test n rs) ≡ true → (i : ℕ) × (r ≡ n + i) × ((x : Region) × (slice_get rs i ≡ Some x) × (test x ≡ true))
numbers-pass test n [] r h = absurd (false≢true h)
numbers-pass test n (x ∷ rs) r h = by (test x) refl h (numbers-pass test (n + 1) rs r)
  where
    later : ((i : ℕ) × (r ≡ n + 1 + i) × ((y : Region) × (slice_get rs i ≡ Some y) × (test y ≡ true))) → (i : ℕ) × (r ≡ n + i) × ((y : Region) × (slice_get (x ∷ rs) i ≡ Some y) × (test y ≡ true))
    later (i, e, found) = (suc i, omega (arith, e), found)

    this : test x ≡ true → (nat_eq r n ≡ true) ⊎ (has r (numbers_of test (n + 1) rs) ≡ true) → (has r (numbers_of test (n + 1) rs) ≡ true → (i : ℕ) × (r ≡ n + 1 + i) × ((y : Region) × (slice_get rs i ≡ Some y) × (test y ≡ true)))
        → (i : ℕ) × (r ≡ n + i) × ((y : Region) × (slice_get (x ∷ rs) i ≡ Some y) × (test y ≡ true))
    this e (inl same) rest = let is : r ≡ n = eqb-true r n same in (0, omega (arith, is), (x, refl, e))
    this e (inr k) rest = later (rest k)

    by : (b : Bool) → test x ≡ b → has r (cond b (n ∷ numbers_of test (n + 1) rs) (numbers_of test (n + 1) rs)) ≡ true → (has r (numbers_of test (n + 1) rs) ≡ true → (i : ℕ) × (r ≡ n + 1 + i) × ((y : Region) × (slice_get rs i ≡ Some y) × (test y ≡ true)))
        → (i : ℕ) × (r ≡ n + i) × ((y : Region) × (slice_get (x ∷ rs) i ≡ Some y) × (test y ≡ true))
    by true e k rest = this e (or_cases (nat_eq r n) (has r (numbers_of test (n + 1) rs)) k) rest
    by false e k rest = later (rest k)

-- a location is a cell
pub location-cell : (p : Lowered) (r : ℕ) → has r (locations_of p) ≡ true → is_cell_at p.regions r ≡ true
location-cell p r h =
    let found = numbers-pass is_cell 0 p.regions r h in
    let same : r ≡ found.0 = omega (arith, found.1) in
    ap (λ k. is_cell_region (slice_get p.regions k)) same ∙ ap is_cell_region found.2.1 ∙ found.2.2

-- two stores that agree where a cell is read say the same of it
pub read-alike : (a : Analysed) → IsSetting (setting_of a) → (s t : Store) (us : List ℕ) → AgreeAt (λ l. has (cell_of (setting_of a) l) us) s t → (r : ℕ) → (is_cell_at a.program.regions r ≡ true → has r us ≡ true)
    → known_in_regions (scene_of a) s r ≡ known_in_regions (scene_of a) t r
read-alike a is s t us agree r there = by (location_of (locations_of a.program) r) refl
  where
    by : (o : Option ℕ) → location_of (locations_of a.program) r ≡ o → known_at s o ≡ known_at t o
    by None e = refl
    by (Some l) e =
        let found = location-found (locations_of a.program) r l 0 e in
        let member = has_there (locations_of a.program) r l found.0 found.1 in
        ap known_in (agree l (ap (λ q. has q us) (location-found (locations_of a.program) r l (2 ^ 32) e).1 ∙ there (location-cell a.program r member)))
