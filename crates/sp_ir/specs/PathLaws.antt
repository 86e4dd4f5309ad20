-- The tests of paths decide whether they are the same, and the same paths are hashed alike.
use Rattle.std.proofs.Common.{◌≡◌, ℕ, nat_eq, Bool, true, false, ◌&&◌, List, [], ◌∷◌, ◌++◌, Option, Some, None, refl, sym, ap, ◌∙◌}
use Rattle.std.proofs.lemmas.Bool.{false≢true}
use Rattle.std.specs.Bool.{Decides, one_answer}
use Rattle.std.specs.Option.{option_eq}
use Rattle.std.specs.Cmp.{IsPartialEquivalence, IsEquivalence, decided, partial_equiv_from_equiv, unsigned_Decides, nat_eq_equiv, on_equiv, and_equiv, first_so, second_so}
use Rattle.std.specs.Cmp.Lexicographic.{pointwise_decides, lists_equiv, options_equiv}
use Rattle.sp_ir.specs.declared.region.Step.{Step}
use Rattle.sp_ir.specs.declared.region.Step.TheVariants.{Field, Element}
use Rattle.sp_ir.specs.Paths.{same_step, same_path, whole_path, step_input, place_input}

-- ---- steps

pub step-decides : (s t : Step) → Decides (same_step s t) (s ≡ t)
step-decides (Field k) (Field n) = (λ h. ap Field ((unsigned_Decides k n).0 h), λ e. (unsigned_Decides k n).1 (cc))
step-decides (Field k) Element = (λ h. absurd (false≢true h), λ e. cc)
step-decides Element (Field n) = (λ h. absurd (false≢true h), λ e. cc)
step-decides Element Element = (λ h. refl, λ e. refl)

pub step_equivalence : IsEquivalence same_step
step_equivalence = decided same_step step-decides

pub step_partial : IsPartialEquivalence same_step
step_partial = partial_equiv_from_equiv step_equivalence

pub steps_fed : (s t : Step) → same_step s t ≡ true → step_input s ≡ step_input t
steps_fed s t h = ap step_input ((step-decides s t).0 h)

-- ---- paths

pub path-decides : (p q : List Step) → Decides (same_path p q) (p ≡ q)
path-decides p q = pointwise_decides step-decides p q

pub end-decides : (s t : Option Step) → option_eq same_step s t ≡ true → s ≡ t
end-decides None None h = refl
end-decides None (Some t) h = absurd (false≢true h)
end-decides (Some s) None h = absurd (false≢true h)
end-decides (Some s) (Some t) h = ap Some ((step-decides s t).0 h)

-- ---- what has an object and a path

module _ {K : Type 0} (object : K → ℕ) (path : K → List Step) where
  pub places_equivalence : IsEquivalence (λ (x y : K). nat_eq (object x) (object y) && same_path (path x) (path y))
  places_equivalence = and_equiv (on_equiv object nat_eq_equiv) (on_equiv path (lists_equiv step_equivalence))

  pub places_partial : IsPartialEquivalence (λ (x y : K). nat_eq (object x) (object y) && same_path (path x) (path y))
  places_partial = partial_equiv_from_equiv places_equivalence

  pub places_fed : (x y : K) → (nat_eq (object x) (object y) && same_path (path x) (path y)) ≡ true → place_input (object x) (path x) ≡ place_input (object y) (path y)
  places_fed x y h =
      ap (λ o. place_input o (path x)) ((unsigned_Decides (object x) (object y)).0 (first_so (nat_eq (object x) (object y)) (same_path (path x) (path y)) h))
      ∙ ap (place_input (object y)) ((path-decides (path x) (path y)).0 (second_so (nat_eq (object x) (object y)) (same_path (path x) (path y)) h))

-- ---- a path in two parts

module _ {K : Type 0} (object : K → ℕ) (path : K → List Step) (end : K → Option Step) where
  pub ends_equivalence : IsEquivalence (λ (x y : K). nat_eq (object x) (object y) && (same_path (path x) (path y) && option_eq same_step (end x) (end y)))
  ends_equivalence = and_equiv (on_equiv object nat_eq_equiv) (and_equiv (on_equiv path (lists_equiv step_equivalence)) (on_equiv end (options_equiv step_equivalence)))

  pub ends_partial : IsPartialEquivalence (λ (x y : K). nat_eq (object x) (object y) && (same_path (path x) (path y) && option_eq same_step (end x) (end y)))
  ends_partial = partial_equiv_from_equiv ends_equivalence

  pub ends_fed : (x y : K) → (nat_eq (object x) (object y) && (same_path (path x) (path y) && option_eq same_step (end x) (end y))) ≡ true
      → place_input (object x) (whole_path (path x) (end x)) ≡ place_input (object y) (whole_path (path y) (end y))
  ends_fed x y h =
      let rest = second_so (nat_eq (object x) (object y)) (same_path (path x) (path y) && option_eq same_step (end x) (end y)) h in
      ap (λ o. place_input o (whole_path (path x) (end x))) ((unsigned_Decides (object x) (object y)).0 (first_so (nat_eq (object x) (object y)) (same_path (path x) (path y) && option_eq same_step (end x) (end y)) h))
      ∙ ap (λ p. place_input (object y) (whole_path p (end x))) ((path-decides (path x) (path y)).0 (first_so (same_path (path x) (path y)) (option_eq same_step (end x) (end y)) rest))
      ∙ ap (λ e. place_input (object y) (whole_path (path y) e)) (end-decides (end x) (end y) (second_so (same_path (path x) (path y)) (option_eq same_step (end x) (end y)) rest))

-- a look-up by a place finds what stands there, whichever of them it is
pub look-up : (o : ℕ) (p : List Step) (o₁ : ℕ) (p₁ : List Step) (o₂ : ℕ) (p₂ : List Step)
    → (nat_eq o o₁ && same_path p p₁) ≡ true → (nat_eq o o₂ && same_path p p₂) ≡ (nat_eq o₁ o₂ && same_path p₁ p₂)
look-up o p o₁ p₁ o₂ p₂ h =
    ap (λ n. nat_eq n o₂ && same_path p p₂) ((unsigned_Decides o o₁).0 (first_so (nat_eq o o₁) (same_path p p₁) h))
    ∙ ap (λ q. nat_eq o₁ o₂ && same_path q p₂) ((path-decides p p₁).0 (second_so (nat_eq o o₁) (same_path p p₁) h))

pub look-up_fed : (o : ℕ) (p : List Step) (o₁ : ℕ) (p₁ : List Step) → (nat_eq o o₁ && same_path p p₁) ≡ true → place_input o p ≡ place_input o₁ p₁
look-up_fed o p o₁ p₁ h =
    ap (λ n. place_input n p) ((unsigned_Decides o o₁).0 (first_so (nat_eq o o₁) (same_path p p₁) h))
    ∙ ap (place_input o₁) ((path-decides p p₁).0 (second_so (nat_eq o o₁) (same_path p p₁) h))

-- ---- a path and its last step

ends : (p : List Step) (s : Step) (q : List Step) (t : Step) → (p ++ s ∷ []) ≡ (q ++ t ∷ []) → (p ≡ q) × (s ≡ t)
ends [] s [] t e = (refl, cc)
ends [] s (u ∷ []) t e = absurd cc
ends [] s (u ∷ v ∷ q) t e = absurd cc
ends (u ∷ []) s [] t e = absurd cc
ends (u ∷ v ∷ p) s [] t e = absurd cc
ends (u ∷ p) s (v ∷ q) t e =
    let head : u ≡ v = cc in
    let tail : (p ++ s ∷ []) ≡ (q ++ t ∷ []) = cc in
    let rest = ends p s q t tail in
    (ap (λ w. w ∷ p) head ∙ ap (λ r. v ∷ r) rest.0, rest.1)

-- the test of a path against steps and one more goes by the last step and the steps before it
pub last-same : (p : List Step) (s : Step) (q : List Step) (t : Step) → same_path (p ++ s ∷ []) (q ++ t ∷ []) ≡ (same_step s t && same_path p q)
last-same p s q t = one_answer (same_path (p ++ s ∷ []) (q ++ t ∷ [])) (same_step s t && same_path p q) (path-decides (p ++ s ∷ []) (q ++ t ∷ [])) (to, from)
  where
    to : (same_step s t && same_path p q) ≡ true → (p ++ s ∷ []) ≡ (q ++ t ∷ [])
    to h = ap (λ r. r ++ s ∷ []) ((path-decides p q).0 (second_so (same_step s t) (same_path p q) h)) ∙ ap (λ u. q ++ u ∷ []) ((step-decides s t).0 (first_so (same_step s t) (same_path p q) h))

    from : (p ++ s ∷ []) ≡ (q ++ t ∷ []) → (same_step s t && same_path p q) ≡ true
    from e = let both = ends p s q t e in
        ap (λ b. b && same_path p q) ((step-decides s t).1 both.1) ∙ (path-decides p q).1 both.0

pub none-same : (p : List Step) (s : Step) → same_path (p ++ s ∷ []) [] ≡ false
none-same [] s = refl
none-same (t ∷ p) s = refl

-- so a path is tested from its end
pub from-end : (p : List Step) (last : Option Step) (s : Step) (path q : List Step) (t : Step) (b : Bool) → last ≡ Some s → path ≡ q ++ t ∷ []
    → b ≡ (same_step s t && same_path p q) → b ≡ same_path (whole_path p last) path
from-end p last s path q t b e f g =
    g ∙ sym (last-same p s q t) ∙ ap (same_path (p ++ s ∷ [])) (sym f) ∙ ap (λ l. same_path (whole_path p l) path) (sym e)
