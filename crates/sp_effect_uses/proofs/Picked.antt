-- Members that are picked by a test.
use Rattle.std.proofs.Common.{◌≡◌, ◌⊎◌, inl, inr, ℕ, Bool, true, false, cond, nat_eq, ◌||◌, ◌&&◌, List, [], ◌∷◌, filter, refl, sym, ap, ◌∙◌, eqb-true}
use Rattle.std.specs.Prelude.{Some, flat_map}
use Rattle.std.specs.List.{list_any}
use Rattle.std.proofs.lemmas.Bool.{false≢true, or_cases}
use Rattle.sp_lattice.specs.System.{has}
use Rattle.sp_points_rules.specs.Paths.{reaches}
use Rattle.sp_ir.specs.Programs.{Lowered}
use Rattle.sp_ir.specs.Terrain.{terrain_of}
use Rattle.sp_points_rules.specs.Sources.{result_of}
use Rattle.sp_effect_scene.specs.Analysed.{locations_of}
use Rattle.sp_effect_call.specs.Copied.{cells_in}
use Rattle.sp_effect_call.specs.Returns.{result_cells}
use Rattle.sp_effect_call.proofs.ReadCells.{in-cells}
use Rattle.sp_effect_uses.proofs.Steps.{both-ways, any-same, any-alike, has-flat_map}

pub both-true : (a b : Bool) → (a && b) ≡ true → (a ≡ true) × (b ≡ true)
both-true true b h = (refl, h)
both-true false b h = absurd (false≢true h)

pub and-none : (a b : Bool) → b ≡ false → (a && b) ≡ false
and-none true b h = h
and-none false b h = refl

module _ (p : ℕ → Bool) (r : ℕ) where
  -- a number is picked where it is there and passes
  pub any-members : (xs : List ℕ) → list_any (λ x. p x && nat_eq r x) xs ≡ (has r xs && p r)
  any-members [] = refl
  any-members (x ∷ xs) = by (nat_eq r x) refl (any-members xs)
    where
      passes : (b c : Bool) → ((b && true) || (c && b)) ≡ b
      passes true c = refl
      passes false true = refl
      passes false false = refl

      by : (e : Bool) → nat_eq r x ≡ e → list_any (λ y. p y && nat_eq r y) xs ≡ (has r xs && p r) → ((p x && e) || list_any (λ y. p y && nat_eq r y) xs) ≡ ((e || has r xs) && p r)
      by true e rest = ap (λ b. (p x && true) || b) rest ∙ ap (λ y. (p y && true) || (has r xs && p r)) (sym (eqb-true r x e)) ∙ passes (p r) (has r xs)
      by false e rest = ap (λ b. (p x && false) || b) rest ∙ ap (λ b. b || (has r xs && p r)) (and-none (p x) false refl)

  pub any-picked : (xs : List ℕ) → (p r ≡ true → has r xs ≡ true) → list_any (λ x. p x && nat_eq r x) xs ≡ p r
  any-picked xs there = any-members xs ∙ by (p r) there
    where
      by : (b : Bool) → (b ≡ true → has r xs ≡ true) → (has r xs && b) ≡ b
      by true h = ap (λ t. t && true) (h refl)
      by false h = and-none (has r xs) false refl

pub filter-passes : (test : ℕ → Bool) (xs : List ℕ) (r : ℕ) → has r (filter test xs) ≡ true → test r ≡ true
filter-passes test [] r h = absurd (false≢true h)
filter-passes test (x ∷ xs) r h = by (test x) refl h (filter-passes test xs r)
  where
    by : (b : Bool) → test x ≡ b → has r (cond b (x ∷ filter test xs) (filter test xs)) ≡ true → (has r (filter test xs) ≡ true → test r ≡ true) → test r ≡ true
    by true e k rest = this (or_cases (nat_eq r x) (has r (filter test xs)) k)
      where
        this : (nat_eq r x ≡ true) ⊎ (has r (filter test xs) ≡ true) → test r ≡ true
        this (inl same) = ap test (eqb-true r x same) ∙ e
        this (inr g) = rest g
    by false e k rest = rest k

-- the cells under a region are those that it reaches
pub has-cells : (p : Lowered) (q r : ℕ) → has r (cells_in p q) ≡ reaches p q r
has-cells p q r = both-ways (has r (cells_in p q)) (reaches p q r) (filter-passes (reaches p q) (locations_of p) r) (in-cells p q r)

pub under-cells : (p : Lowered) (qs rs : List ℕ) → ((x : ℕ) → has x qs ≡ has x rs) → (r : ℕ) → list_any (λ q. reaches p q r) qs ≡ has r (flat_map (cells_in p) rs)
under-cells p qs rs same r =
    any-same (λ q. reaches p q r) qs rs same
    ∙ any-alike (λ q. reaches p q r) (λ q. has r (cells_in p q)) rs (λ q. sym (has-cells p q r))
    ∙ sym (has-flat_map (cells_in p) rs r)

pub result-under : (p : Lowered) (f o q : ℕ) → Some o ≡ result_of p f → q ≡ (terrain_of p).root o → (r : ℕ) → reaches p q r ≡ has r (result_cells p (result_of p f))
result-under p f o q found is r =
    ap (λ n. reaches p n r) is
    ∙ sym (has-cells p ((terrain_of p).root o) r)
    ∙ ap (λ x. has r (result_cells p x)) found
