-- Small laws of tests and choices, and of members of lists.
use Rattle.std.proofs.Common.{◌≡◌, ◌⊎◌, inl, inr, ℕ, nat_eq, Bool, true, false, cond, ◌||◌, List, ◌∷◌, refl, sym, eqb-true}
use Rattle.std.proofs.lemmas.Bool.{false≢true, eq-eqb, or_cases}
use Rattle.sp_lattice.specs.System.{has}
use Rattle.sp_value.specs.declared.slots.Slot.{Slot}
use Rattle.sp_value.specs.declared.slots.Slot.TheVariants.{Nothing, Plain}
use Rattle.sp_value.specs.Slots.{slot_le, slot_join}
use Rattle.sp_effect_rows.specs.Rows.{kept_if}

abbrev pub Implies : Bool → Bool → Type 0
Implies a b = a ≡ true → b ≡ true

pub or_left : (a b : Bool) → a ≡ true → (a || b) ≡ true
or_left true b h = refl
or_left false b h = absurd (false≢true h)

pub or_right : (a b : Bool) → b ≡ true → (a || b) ≡ true
or_right true b h = refl
or_right false b h = h

pub neither_left : (a b : Bool) → (a || b) ≡ false → a ≡ false
neither_left true b h = h
neither_left false b h = refl

pub neither_right : (a b : Bool) → (a || b) ≡ false → b ≡ false
neither_right true b h = absurd (false≢true (sym h))
neither_right false b h = h

-- what holds of both choices holds of the one taken
pub chosen : {A : Type 0} (P : A → Type 0) (b : Bool) (x y : A) → (b ≡ true → P x) → (b ≡ false → P y) → P (cond b x y)
chosen P true x y h g = h refl
chosen P false x y h g = g refl

-- ---- members

pub member_first : (r x : ℕ) (xs : List ℕ) → r ≡ x → has r (x ∷ xs) ≡ true
member_first r x xs h = or_left (nat_eq r x) (has r xs) (eq-eqb r x h)

pub member_rest : (r x : ℕ) (xs : List ℕ) → has r xs ≡ true → has r (x ∷ xs) ≡ true
member_rest r x xs h = or_right (nat_eq r x) (has r xs) h

pub member_cases : (r x : ℕ) (xs : List ℕ) → has r (x ∷ xs) ≡ true → (r ≡ x) ⊎ (has r xs ≡ true)
member_cases r x xs h = by (or_cases (nat_eq r x) (has r xs) h)
  where
    by : (nat_eq r x ≡ true) ⊎ (has r xs ≡ true) → (r ≡ x) ⊎ (has r xs ≡ true)
    by (inl e) = inl (eqb-true r x e)
    by (inr k) = inr k

-- ---- slots that are kept, or put somewhere

pub kept-monotone : (b c : Bool) (x y : Slot) → Implies b c → slot_le x y ≡ true → slot_le (kept_if b x) (kept_if c y) ≡ true
kept-monotone true true x y h p = p
kept-monotone true false x y h p = absurd (false≢true (h refl))
kept-monotone false c x y h p = refl

pub kept-within : (b : Bool) (x c : Slot) → slot_le x c ≡ true → slot_le (kept_if b x) c ≡ true
kept-within true x c h = h
kept-within false x c h = refl

pub join-nothing : (x : Slot) → slot_join x Nothing ≡ x
join-nothing Nothing = refl
join-nothing (Plain v) = refl

pub choice-monotone : (b : Bool) (x y : Slot) → slot_le x y ≡ true → slot_le (cond b x Nothing) (cond b y Nothing) ≡ true
choice-monotone true x y h = h
choice-monotone false x y h = refl
