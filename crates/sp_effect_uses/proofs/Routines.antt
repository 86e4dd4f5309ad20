-- What routines of the library write and read.
use Rattle.std.proofs.Common.{◌≡◌, ℕ, Bool, true, false, cond, not, nat_eq, ◌||◌, ◌&&◌, List, [], ◌∷◌, length, filter, Option, refl, sym, ap, ◌∙◌, arith, eqb-true}
use Rattle.std.specs.Prelude.{flat_map}
use Rattle.std.specs.List.{list_any}
use Rattle.sp_lattice.specs.System.{has}
use Rattle.sp_ir.specs.Commands.{Expression}
use Rattle.sp_ir.specs.Programs.{Lowered}
use Rattle.sp_points_rules.specs.Paths.{reaches, pairs, is_text}
use Rattle.sp_effect_rows.specs.Setting.{cell_of}
use Rattle.sp_effect_rows.specs.Storing.{may_hit}
use Rattle.sp_effect_scene.specs.Analysed.{Analysed, setting_of}
use Rattle.sp_effect_library.specs.declared.written.Written.{Written}
use Rattle.sp_effect_library.specs.Written.{may_come, lands, paired_cells, read_text}
use Rattle.sp_effect_library.specs.Effects.{written_to}
use Rattle.sp_effect_call.specs.Copied.{cells_in}
use Rattle.sp_effect_uses.specs.Parts.{aimed_at}
use Rattle.sp_effect_uses.proofs.Steps.{any-alike, any-same, eq-swap, has-flat_map}
use Rattle.sp_effect_uses.proofs.Picked.{has-cells}

-- a list has a member, or none
pub some-there : (xs : List ℕ) → not (nat_eq (length xs) 0) ≡ list_any (λ x. true) xs
some-there [] = refl
some-there (x ∷ xs) = by (nat_eq (length (x ∷ xs)) 0) refl
  where
    by : (b : Bool) → nat_eq (length (x ∷ xs)) 0 ≡ b → not b ≡ true
    by true e = let none : length (x ∷ xs) ≡ 0 = eqb-true (length (x ∷ xs)) 0 e in absurd (omega arith)
    by false e = refl

pub any-none : (xs : List ℕ) → list_any (λ x. false) xs ≡ false
any-none [] = refl
any-none (x ∷ xs) = any-none xs

-- ---- what is written

module _ (a : Analysed) (w : Written) (args : List Expression) (site : Option ℕ) (l : ℕ) where
  abbrev comes : Bool
  comes = may_come a.program (setting_of a).points_to w args

  abbrev lands_at : ℕ → Bool
  lands_at r = lands a.program w r (cell_of (setting_of a) l)

  pub written-same : (regions : List ℕ) → comes ≡ true → ((x : ℕ) → has x regions ≡ has x (aimed_at a w args site)) → list_any lands_at regions ≡ may_hit (written_to a args site w) l
  written-same regions is same =
      any-same lands_at regions (aimed_at a w args site) same
      ∙ any-alike lands_at (λ r. comes && lands_at r) (aimed_at a w args site) (λ r. ap (λ b. b && lands_at r) (sym is))

  pub written-none : comes ≡ false → may_hit (written_to a args site w) l ≡ false
  written-none is =
      any-alike (λ r. comes && lands_at r) (λ r. false) (aimed_at a w args site) (λ r. ap (λ b. b && lands_at r) is)
      ∙ any-none (aimed_at a w args site)

-- ---- what is read

has-filter : (test : ℕ → Bool) (xs : List ℕ) (r : ℕ) → list_any (λ x. test x && nat_eq x r) xs ≡ has r (filter test xs)
has-filter test [] r = refl
has-filter test (x ∷ xs) r = by (test x) (has-filter test xs r)
  where
    by : (b : Bool) → list_any (λ y. test y && nat_eq y r) xs ≡ has r (filter test xs) → ((b && nat_eq x r) || list_any (λ y. test y && nat_eq y r) xs) ≡ has r (cond b (x ∷ filter test xs) (filter test xs))
    by true rest = ap (λ b. b || list_any (λ y. test y && nat_eq y r) xs) (eq-swap x r) ∙ ap (λ b. nat_eq r x || b) rest
    by false rest = rest

module _ (p : Lowered) where
  -- text, where some goes to text
  pub text-read : (ds ss : List ℕ) (r : ℕ) → (list_any (is_text p) ds && list_any (λ s. is_text p s && nat_eq s r) ss) ≡ has r (read_text p ds ss)
  text-read ds ss r = by (list_any (is_text p) ds)
    where
      by : (b : Bool) → (b && list_any (λ s. is_text p s && nat_eq s r) ss) ≡ has r (cond b (filter (is_text p) ss) [])
      by true = has-filter (is_text p) ss r
      by false = refl

  paired-cells : (ds : List ℕ) (s r : ℕ) → (list_any (λ d. pairs p d s) ds && reaches p s r) ≡ has r (paired_cells p ds s)
  paired-cells ds s r = by (list_any (λ d. pairs p d s) ds)
    where
      by : (b : Bool) → (b && reaches p s r) ≡ has r (cond b (cells_in p s) [])
      by true = sym (has-cells p s r)
      by false = refl

  -- the same of sets with the same numbers
  module _ (ds ds2 ss ss2 : List ℕ) (same_targets : (x : ℕ) → has x ds ≡ has x ds2) (same_sources : (x : ℕ) → has x ss ≡ has x ss2) (r : ℕ) where
    pub text-same : has r (read_text p ds ss) ≡ has r (read_text p ds2 ss2)
    text-same =
        sym (text-read ds ss r)
        ∙ ap (λ b. b && list_any (λ s. is_text p s && nat_eq s r) ss) (any-same (is_text p) ds ds2 same_targets)
        ∙ ap (λ b. list_any (is_text p) ds2 && b) (any-same (λ s. is_text p s && nat_eq s r) ss ss2 same_sources)
        ∙ text-read ds2 ss2 r

    pub paired-same : list_any (λ s. list_any (λ d. pairs p d s) ds && reaches p s r) ss ≡ has r (flat_map (paired_cells p ds2) ss2)
    paired-same =
        any-same (λ s. list_any (λ d. pairs p d s) ds && reaches p s r) ss ss2 same_sources
        ∙ any-alike (λ s. list_any (λ d. pairs p d s) ds && reaches p s r) (λ s. has r (paired_cells p ds2 s)) ss2
        (λ s. ap (λ b. b && reaches p s r) (any-same (λ d. pairs p d s) ds ds2 same_targets) ∙ paired-cells ds2 s r)
        ∙ sym (has-flat_map (paired_cells p ds2) ss2 r)
