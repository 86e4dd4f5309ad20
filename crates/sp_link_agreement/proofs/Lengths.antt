-- Lists of other lengths aren't compatible.
use Rattle.std.proofs.Common.{◌≡◌, ◌≢◌, ℕ, suc, Bool, true, false, ◌&&◌, ◌==◌, List, [], ◌∷◌, length, refl, ap}
use Rattle.sp_types.specs.Types.{CType}
use Rattle.sp_types.specs.View.{types}
use Rattle.sp_link_agreement.specs.Agreement.{compatible_by, all_compatible_by, members_agree}

both_false : (a : Bool) → (a && false) ≡ false
both_false a = elim a as (λ b. (b && false) ≡ false) [ true ↦ refl | false ↦ refl ]

pub types_of_other_lengths : (agree : ℕ → ℕ → Bool) (ts us : List CType) → length ts ≢ length us → all_compatible_by agree (types ts) (types us) ≡ false
types_of_other_lengths agree [] [] h = absurd (h refl)
types_of_other_lengths agree [] (u ∷ us) h = refl
types_of_other_lengths agree (t ∷ ts) [] h = refl
types_of_other_lengths agree (t ∷ ts) (u ∷ us) h =
    rw (types_of_other_lengths agree ts us (λ e. h (ap suc e))) (both_false (compatible_by agree t u))

pub members_of_other_lengths : (agree : ℕ → ℕ → Bool) (ms ks : List (ℕ × CType)) → length ms ≢ length ks → members_agree agree ms ks ≡ false
members_of_other_lengths agree [] [] h = absurd (h refl)
members_of_other_lengths agree [] (k ∷ ks) h = refl
members_of_other_lengths agree (m ∷ ms) [] h = refl
members_of_other_lengths agree (m ∷ ms) (k ∷ ks) h =
    rw (members_of_other_lengths agree ms ks (λ e. h (ap suc e))) (both_false (m.0 == k.0 && compatible_by agree m.1 k.1))
