-- Joins over lists: formed, rising, within regions, and stored part by part.
use Rattle.std.proofs.Common.{◌≡◌, ℕ, Bool, true, false, cond, List, [], ◌∷◌, refl, ap, ◌∙◌, ℤ}
use Rattle.std.specs.Prelude.{All}
use Rattle.sp_lattice.specs.Ladder.{IsLadder}
use Rattle.sp_value.specs.declared.slots.Slot.{Slot}
use Rattle.sp_value.specs.declared.slots.Slot.TheVariants.{Nothing}
use Rattle.sp_value.specs.Known.{Known, none, known_le, known_join}
use Rattle.sp_value.specs.KnownLaws.{known-trans, known-left, known-right, known-least, known_join-monotone}
use Rattle.sp_value.specs.FormedLaws.{IsFormedKnown, none-formed, known_join-formed, Within, within-join}
use Rattle.sp_value.specs.Slots.{known_in, slot_join}
use Rattle.sp_value.specs.SlotLaws.{slot-antisym, slot-left, slot-right, slot-least, known_in-monotone}
use Rattle.sp_value.specs.Held.{stored}
use Rattle.sp_value.specs.HeldLaws.{stored-held, stored-above, stored-monotone, stored-below_held, slot_join-held}
use Rattle.sp_effect_rows.specs.Rows.{joins}
use Rattle.sp_effect_entry.specs.Joined.{joined}
use Rattle.sp_effect_entry.proofs.Lists.{all_first, all_rest}

module _ {A : Type 0} where
  pub joined-formed : (f : A → Known) (xs : List A) → All (λ x. IsFormedKnown (f x)) xs → IsFormedKnown (joined f xs)
  joined-formed f [] h = none-formed
  joined-formed f (x ∷ xs) h = known_join-formed (f x) (joined f xs) (all_first (λ y. IsFormedKnown (f y)) x xs h) (joined-formed f xs (all_rest (λ y. IsFormedKnown (f y)) x xs h))

  pub joined-monotone : (f g : A → Known) (xs : List A) → All (λ x. known_le (f x) (g x) ≡ true) xs → known_le (joined f xs) (joined g xs) ≡ true
  joined-monotone f g [] h = refl
  joined-monotone f g (x ∷ xs) h = known_join-monotone (f x) (joined f xs) (g x) (joined g xs) (all_first (λ y. known_le (f y) (g y) ≡ true) x xs h) (joined-monotone f g xs (all_rest (λ y. known_le (f y) (g y) ≡ true) x xs h))

  pub joined-within : (P : ℕ → Type 0) (f : A → Known) (xs : List A) → All (λ x. Within P (f x).targets) xs → Within P (joined f xs).targets
  joined-within P f [] h = tt
  joined-within P f (x ∷ xs) h = within-join P (f x).targets (joined f xs).targets (all_first (λ y. Within P (f y).targets) x xs h) (joined-within P f xs (all_rest (λ y. Within P (f y).targets) x xs h))

  pub joined-agrees : (f g : A → Known) (xs : List A) → All (λ x. f x ≡ g x) xs → joined f xs ≡ joined g xs
  joined-agrees f g [] h = refl
  joined-agrees f g (x ∷ xs) h = ap (λ v. known_join v (joined f xs)) (all_first (λ y. f y ≡ g y) x xs h) ∙ ap (λ v. known_join (g x) v) (joined-agrees f g xs (all_rest (λ y. f y ≡ g y) x xs h))

-- ---- storing keeps joins

module _ (points : List ℤ) (is : IsLadder points) where
  pub stored-join : (v w : Known) → IsFormedKnown v → IsFormedKnown w → stored points (known_join v w) ≡ slot_join (stored points v) (stored points w)
  stored-join v w hv hw = slot-antisym (stored points (known_join v w)) (slot_join (stored points v) (stored points w))
      (stored-below_held points is (known_join v w) (slot_join (stored points v) (stored points w)) (known_join-formed v w hv hw)
      (slot_join-held points is (stored points v) (stored points w) (stored-held points is v hv) (stored-held points is w hw))
      (known-least v w (known_in (slot_join (stored points v) (stored points w)))
      (known-trans v (known_in (stored points v)) (known_in (slot_join (stored points v) (stored points w))) (stored-above points is v hv) (known_in-monotone (stored points v) (slot_join (stored points v) (stored points w)) (slot-left (stored points v) (stored points w))))
      (known-trans w (known_in (stored points w)) (known_in (slot_join (stored points v) (stored points w))) (stored-above points is w hw) (known_in-monotone (stored points w) (slot_join (stored points v) (stored points w)) (slot-right (stored points v) (stored points w))))))
      (slot-least (stored points v) (stored points w) (stored points (known_join v w))
      (stored-monotone points is v (known_join v w) hv (known_join-formed v w hv hw) (known-left v w))
      (stored-monotone points is w (known_join v w) hw (known_join-formed v w hv hw) (known-right v w)))

  pub stored-joined : {A : Type 0} (f : A → Known) (xs : List A) → All (λ x. IsFormedKnown (f x)) xs → stored points (joined f xs) ≡ joins (λ x. stored points (f x)) xs
  stored-joined f [] h = refl
  stored-joined f (x ∷ xs) h =
      stored-join (f x) (joined f xs) (all_first (λ y. IsFormedKnown (f y)) x xs h) (joined-formed f xs (all_rest (λ y. IsFormedKnown (f y)) x xs h))
      ∙ ap (λ s. slot_join (stored points (f x)) s) (stored-joined f xs (all_rest (λ y. IsFormedKnown (f y)) x xs h))

-- what is stored where a test is true
pub stored-where : (points : List ℤ) (b : Bool) (v : Known) → stored points (cond b v none) ≡ cond b (stored points v) Nothing
stored-where points true v = refl
stored-where points false v = refl

pub joins-same : {A : Type 0} (f g : A → Slot) → ((x : A) → f x ≡ g x) → (xs : List A) → joins f xs ≡ joins g xs
joins-same f g same [] = refl
joins-same f g same (x ∷ xs) = ap (λ s. slot_join s (joins f xs)) (same x) ∙ ap (λ s. slot_join (g x) s) (joins-same f g same xs)

pub joins-alike : {A : Type 0} (f g : A → Slot) (xs : List A) → All (λ x. f x ≡ g x) xs → joins f xs ≡ joins g xs
joins-alike f g [] h = refl
joins-alike f g (x ∷ xs) h = ap (λ s. slot_join s (joins f xs)) (all_first (λ y. f y ≡ g y) x xs h) ∙ ap (λ s. slot_join (g x) s) (joins-alike f g xs (all_rest (λ y. f y ≡ g y) x xs h))
