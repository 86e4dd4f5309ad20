-- Where a store goes, by the regions of the bottom.
use Rattle.std.proofs.Common.{◌≡◌, ◌⊎◌, inl, inr, ℕ, Bool, true, false, nat_eq, ◌||◌, ◌&&◌, List, [], ◌∷◌, Some, refl, sym, ap, ◌∙◌, eqb-true}
use Rattle.std.specs.List.{list_any}
use Rattle.sp_lattice.specs.System.{has}
use Rattle.sp_types.specs.Types.{CType}
use Rattle.sp_ir.specs.Commands.{Lvalue, lvalue_type}
use Rattle.sp_ir.specs.Terrain.{terrain_of}
use Rattle.sp_effect_assign.specs.Destinations.{bottom_accepts, region_under, destination}
use Rattle.sp_effect_rows.specs.Setting.{cell_of}
use Rattle.sp_effect_rows.specs.Storing.{may_hit}
use Rattle.sp_effect_scene.specs.Analysed.{Analysed, setting_of, scene_of}
use Rattle.sp_effect_call.specs.Copied.{has_cell}
use Rattle.sp_effect_uses.specs.Parts.{bottoms, assigned_at}
use Rattle.std.proofs.lemmas.Bool.{false≢true, or_cases, eq-eqb}
use Rattle.sp_effect_uses.proofs.Steps.{both-ways, or-true, any-there, any-from, any-same, any-alike, eq-swap}

abbrev pub placed_at : Analysed → Lvalue → List ℕ → ℕ → Bool
placed_at a to qs r = list_any (λ q. bottom_accepts (terrain_of a.program) to q && nat_eq r (region_under (terrain_of a.program) to q)) qs

pub places-same : (a : Analysed) (to : Lvalue) (qs : List ℕ) → ((x : ℕ) → has x qs ≡ has x (bottoms a to)) → (r : ℕ) → placed_at a to qs r ≡ assigned_at a to r
places-same a to qs same r = any-same (λ q. bottom_accepts (terrain_of a.program) to q && nat_eq r (region_under (terrain_of a.program) to q)) qs (bottoms a to) same

pub destination-same : (a : Analysed) (to : Lvalue) (l : ℕ) → assigned_at a to (cell_of (setting_of a) l) ≡ may_hit (destination (scene_of a) to) l
destination-same a to l = any-alike (λ r. bottom_accepts (terrain_of a.program) to r && nat_eq (cell_of (setting_of a) l) (region_under (terrain_of a.program) to r)) (λ r. bottom_accepts (terrain_of a.program) to r && nat_eq (region_under (terrain_of a.program) to r) (cell_of (setting_of a) l)) (bottoms a to)
    (λ r. ap (λ b. bottom_accepts (terrain_of a.program) to r && b) (eq-swap (cell_of (setting_of a) l) (region_under (terrain_of a.program) to r)))

-- the cells at the regions at which an lvalue may be stored to
abbrev pub stored_at : Analysed → Lvalue → ℕ → Bool
stored_at a to c = list_any (λ r. bottom_accepts (terrain_of a.program) to r
    && has_cell a.program (Some (lvalue_type to)) (region_under (terrain_of a.program) to r) c)
    (bottoms a to)

-- ---- what is stored at each of these is stored at the bottoms

-- a number among those that are made of others
module _ (test : ℕ → Bool) (f : ℕ → ℕ) (p : ℕ → Bool) where
  abbrev made : List ℕ → ℕ → Bool
  made rs q = list_any (λ r. test r && nat_eq q (f r)) rs

  one-made : (b c : Bool) → (b && c) ≡ true → (b ≡ true) × (c ≡ true)
  one-made true c h = (refl, h)
  one-made false c h = absurd (false≢true h)

  made-there : (rs : List ℕ) (q : ℕ) → made rs q ≡ true → p q ≡ true → list_any (λ r. test r && p (f r)) rs ≡ true
  made-there [] q h k = absurd (false≢true h)
  made-there (r ∷ rs) q h k = by (or_cases (test r && nat_eq q (f r)) (made rs q) h) (λ g. made-there rs q g k)
    where
      by : ((test r && nat_eq q (f r)) ≡ true) ⊎ (made rs q ≡ true) → (made rs q ≡ true → list_any (λ x. test x && p (f x)) rs ≡ true) → ((test r && p (f r)) || list_any (λ x. test x && p (f x)) rs) ≡ true
      by (inl e) rest =
          let two = one-made (test r) (nat_eq q (f r)) e in
          ap (λ b. (b && p (f r)) || list_any (λ x. test x && p (f x)) rs) two.0
          ∙ ap (λ b. b || list_any (λ x. test x && p (f x)) rs) (ap p (sym (eqb-true q (f r) two.1)) ∙ k)
      by (inr g) rest = ap (λ b. (test r && p (f r)) || b) (rest g) ∙ or-true (test r && p (f r))

  made-from : (rs : List ℕ) → list_any (λ r. test r && p (f r)) rs ≡ true → (q : ℕ) × (made rs q ≡ true) × (p q ≡ true)
  made-from [] h = absurd (false≢true h)
  made-from (r ∷ rs) h = by (or_cases (test r && p (f r)) (list_any (λ x. test x && p (f x)) rs) h) (made-from rs)
    where
      by : ((test r && p (f r)) ≡ true) ⊎ (list_any (λ x. test x && p (f x)) rs ≡ true) → (list_any (λ x. test x && p (f x)) rs ≡ true → (q : ℕ) × (made rs q ≡ true) × (p q ≡ true)) → (q : ℕ) × (made (r ∷ rs) q ≡ true) × (p q ≡ true)
      by (inl e) rest = let two = one-made (test r) (p (f r)) e in
          (f r, ap (λ b. (b && nat_eq (f r) (f r)) || made rs (f r)) two.0 ∙ ap (λ b. b || made rs (f r)) (eq-eqb (f r) (f r) refl), two.1)
      by (inr g) rest = let one = rest g in (one.0, ap (λ b. (test r && nat_eq one.0 (f r)) || b) one.1 ∙ or-true (test r && nat_eq one.0 (f r)), one.2)

  pub any-made : (qs rs : List ℕ) → ((q : ℕ) → has q qs ≡ list_any (λ r. test r && nat_eq q (f r)) rs) → list_any p qs ≡ list_any (λ r. test r && p (f r)) rs
  any-made qs rs same = both-ways (list_any p qs) (list_any (λ r. test r && p (f r)) rs)
      (λ h. let one = any-from p qs h in made-there rs one.0 (sym (same one.0) ∙ one.1) one.2)
      (λ h. let one = made-from rs h in any-there p qs one.0 (same one.0 ∙ one.1) one.2)

pub stored-same : (a : Analysed) (to : Lvalue) (of : CType) (qs : List ℕ) → of ≡ lvalue_type to → ((x : ℕ) → has x qs ≡ assigned_at a to x) → (r : ℕ) → list_any (λ q. has_cell a.program (Some of) q r) qs ≡ stored_at a to r
stored-same a to of qs typed same r =
    ap (λ t. list_any (λ q. has_cell a.program (Some t) q r) qs) typed
    ∙ any-made (bottom_accepts (terrain_of a.program) to) (region_under (terrain_of a.program) to) (λ q. has_cell a.program (Some (lvalue_type to)) q r) qs (bottoms a to) same
