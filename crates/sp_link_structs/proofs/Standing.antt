-- What leads a struct leads itself.
use Rattle.std.proofs.Common.{◌≡◌, ℕ, zero, suc, true, List, [], ◌∷◌, Option, Some, inl, inr, ap, sym, subst}
use Rattle.sp_types.specs.Types.{Struct}
use Rattle.sp_link_structs.specs.Joined.{is_complete, Joined}
use Rattle.sp_link_structs.specs.Matched.{of_units, IsFirst, AreLeaders}
use Rattle.sp_link_structs.proofs.Firsts.{one_first}
use Rattle.sp_link_structs.proofs.Joining.{joined_on, joined_back, joined_complete}
use Rattle.sp_link_structs.proofs.Members.{Has, some_is}

pub first_some : {A : Type 0} (P : A → Type 0) (xs : List A) (x : A) → IsFirst P xs (Some x) → P x × Has xs x
first_some P [] x h = absurd (cc)
first_some P (y ∷ ys) x (inl h) = let same : x ≡ y = some_is x y h.1 in (subst P (sym same) h.0, (zero, ap Some (sym same)))
first_some P (y ∷ ys) x (inr h) = let w : P x × Has ys x = first_some P ys x h.1 in (w.0, (suc w.1.0, w.1.1))

-- where the same holds of each
first_alike : {A : Type 0} (P Q : A → Type 0) → ((x : A) → P x → Q x) → ((x : A) → Q x → P x) → (xs : List A) (r : Option A) → IsFirst P xs r → IsFirst Q xs r
first_alike P Q to from [] r h = h
first_alike P Q to from (x ∷ xs) r (inl h) = inl (to x h.0, h.1)
first_alike P Q to from (x ∷ xs) r (inr h) = inr ((λ q. h.0 (from x q)), first_alike P Q to from xs r h.1)

module _ (us : List (List Struct)) where
  -- those that are joined have one first
  pub one_leader : (x y r s : ℕ × ℕ) → Joined us x y → IsFirst (Joined us x) (of_units 0 us) (Some r) → IsFirst (Joined us y) (of_units 0 us) (Some s) → r ≡ s
  one_leader x y r s j h g =
      some_is r s
      (one_first (Joined us y) (of_units 0 us) (Some r) (Some s)
      (first_alike (Joined us x) (Joined us y) (λ z i. joined_on us y x z (joined_back us x y j) i) (λ z i. joined_on us x y z j i) (of_units 0 us) (Some r) h)
      g)

module _ (us : List (List Struct)) (leader : ℕ × ℕ → ℕ × ℕ) (leaders : AreLeaders us leader) where
  pub leader_joined : (x : ℕ × ℕ) → is_complete us x ≡ true → Joined us x (leader x)
  leader_joined x full = (first_some (Joined us x) (of_units 0 us) (leader x) (leaders x full)).0

  pub leader_complete : (x : ℕ × ℕ) → is_complete us x ≡ true → is_complete us (leader x) ≡ true
  leader_complete x full = joined_complete us x (leader x) (leader_joined x full) full

  pub joined_one : (x y : ℕ × ℕ) → is_complete us x ≡ true → Joined us x y → leader x ≡ leader y
  joined_one x y full j = one_leader us x y (leader x) (leader y) j (leaders x full) (leaders y (joined_complete us x y j full))

  pub leader_self : (x : ℕ × ℕ) → is_complete us x ≡ true → leader (leader x) ≡ leader x
  leader_self x full = sym (joined_one x (leader x) full (leader_joined x full))
