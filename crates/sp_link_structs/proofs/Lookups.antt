-- Maps that keep the first value of each key, by the list that is still to come.
use Rattle.std.proofs.Common.{◌≡◌, ℕ, ◌+◌, Bool, true, false, cond, List, ◌∷◌, drop, Option, Some, None, is_some, refl, ap, sym, ◌∙◌, true≢false}
use Rattle.std.specs.List.{position_from}
use Rattle.std.specs.Map.{lookup}
use Rattle.sp_link_agreement.specs.Inner.{same_entity}
use Rattle.sp_link_structs.proofs.Tests.{entity_is, entity_turned}

abbrev pub or_else : {V : Type 0} → Option V → Option V → Option V
or_else None b = b
or_else (Some v) b = Some v

-- what a map gives, and what is found behind it in the rest of the list
module _ {V : Type 0} (get : ℕ × ℕ → Option V) (key : ℕ × ℕ) (value : V) (rest : ℕ × ℕ → Option V) where
  -- the key is there
  pub step_kept : is_some (get key) ≡ true → (x : ℕ × ℕ) → or_else (get x) (rest x) ≡ or_else (get x) (cond (same_entity x key) (Some value) (rest x))
  step_kept there x = by (get x) (same_entity x key) refl refl
    where
      by : (a : Option V) (b : Bool) → get x ≡ a → same_entity x key ≡ b → or_else a (rest x) ≡ or_else a (cond b (Some value) (rest x))
      by (Some v) b e s = refl
      by None false e s = refl
      by None true e s = absurd (true≢false (sym there ∙ ap (λ z. is_some (get z)) (sym (entity_is x key s)) ∙ ap is_some e))

  -- the key is new
  pub step_new : (more : ℕ × ℕ → Option V) → is_some (get key) ≡ false → ((x : ℕ × ℕ) → more x ≡ cond (same_entity key x) (Some value) (get x))
      → (x : ℕ × ℕ) → or_else (more x) (rest x) ≡ or_else (get x) (cond (same_entity x key) (Some value) (rest x))
  step_new more absent is x = ap (λ m. or_else m (rest x)) (is x) ∙ by (get x) (same_entity x key) refl refl (entity_turned x key (same_entity x key) refl)
    where
      by : (a : Option V) (b : Bool) → get x ≡ a → same_entity x key ≡ b → same_entity key x ≡ b → or_else (cond (same_entity key x) (Some value) (get x)) (rest x) ≡ or_else a (cond b (Some value) (rest x))
      by (Some v) true e s t = absurd (true≢false (ap is_some (sym e) ∙ ap (λ z. is_some (get z)) (entity_is x key s) ∙ absent))
      by None true e s t = ap (λ c. or_else (cond c (Some value) (get x)) (rest x)) t
      by (Some v) false e s t = ap (λ c. or_else (cond c (Some value) (get x)) (rest x)) t ∙ ap (λ o. or_else o (rest x)) e
      by None false e s t = ap (λ c. or_else (cond c (Some value) (get x)) (rest x)) t ∙ ap (λ o. or_else o (rest x)) e

module _ {V : Type 0} (ps : List ((ℕ × ℕ) × V)) (i : ℕ) (p : (ℕ × ℕ) × V) (at : drop i ps ≡ p ∷ drop (i + 1) ps) (get : ℕ × ℕ → Option V)
    (all : (x : ℕ × ℕ) → or_else (get x) (lookup (same_entity x) (drop i ps)) ≡ lookup (same_entity x) ps) where
  pub pairs_kept : is_some (get p.0) ≡ true → (x : ℕ × ℕ) → or_else (get x) (lookup (same_entity x) (drop (i + 1) ps)) ≡ lookup (same_entity x) ps
  pairs_kept there x =
      step_kept get p.0 p.1 (λ x. lookup (same_entity x) (drop (i + 1) ps)) there x
      ∙ ap (λ xs. or_else (get x) (lookup (same_entity x) xs)) (sym at) ∙ all x

  pub pairs_new : (more : ℕ × ℕ → Option V) → is_some (get p.0) ≡ false → ((x : ℕ × ℕ) → more x ≡ cond (same_entity p.0 x) (Some p.1) (get x))
      → (x : ℕ × ℕ) → or_else (more x) (lookup (same_entity x) (drop (i + 1) ps)) ≡ lookup (same_entity x) ps
  pairs_new more absent is x =
      step_new get p.0 p.1 (λ x. lookup (same_entity x) (drop (i + 1) ps)) more absent is x
      ∙ ap (λ xs. or_else (get x) (lookup (same_entity x) xs)) (sym at) ∙ all x

module _ (xs : List (ℕ × ℕ)) (i : ℕ) (x : ℕ × ℕ) (at : drop i xs ≡ x ∷ drop (i + 1) xs) (get : ℕ × ℕ → Option ℕ)
    (all : (y : ℕ × ℕ) → or_else (get y) (position_from (same_entity y) i (drop i xs)) ≡ position_from (same_entity y) 0 xs) where
  pub places_kept : is_some (get x) ≡ true → (y : ℕ × ℕ) → or_else (get y) (position_from (same_entity y) (i + 1) (drop (i + 1) xs)) ≡ position_from (same_entity y) 0 xs
  places_kept there y =
      step_kept get x i (λ y. position_from (same_entity y) (i + 1) (drop (i + 1) xs)) there y
      ∙ ap (λ zs. or_else (get y) (position_from (same_entity y) i zs)) (sym at) ∙ all y

  pub places_new : (more : ℕ × ℕ → Option ℕ) → is_some (get x) ≡ false → ((y : ℕ × ℕ) → more y ≡ cond (same_entity x y) (Some i) (get y))
      → (y : ℕ × ℕ) → or_else (more y) (position_from (same_entity y) (i + 1) (drop (i + 1) xs)) ≡ position_from (same_entity y) 0 xs
  places_new more absent is y =
      step_new get x i (λ y. position_from (same_entity y) (i + 1) (drop (i + 1) xs)) more absent is y
      ∙ ap (λ zs. or_else (get y) (position_from (same_entity y) i zs)) (sym at) ∙ all y

pub all_found : {V : Type 0} (a b : Option V) → or_else a None ≡ b → a ≡ b
all_found None b h = h
all_found (Some v) b h = h
