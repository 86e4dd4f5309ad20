-- What chains of steps keep.
use Rattle.std.proofs.Common.{◌≡◌, ℕ, zero, suc, true, List, refl, ap, sym, subst, ◌∙◌}
use Rattle.sp_types.specs.Types.{Struct}
use Rattle.sp_link_agreement.specs.Depths.{struct_at, agrees_within}
use Rattle.sp_link_structs.specs.Joined.{is_complete, IsStep, Joined, itself, onward, backward}
use Rattle.sp_link_structs.specs.Groups.{full_key}
use Rattle.sp_link_structs.proofs.Keys.{full_keys}

module _ (us : List (List Struct)) where
  -- one chain behind another
  pub joined_on : (x y z : ℕ × ℕ) → Joined us x y → Joined us y z → Joined us x z
  joined_on x y z h (itself e) = subst (Joined us x) e h
  joined_on x y z h (onward w g s) = onward w (joined_on x y w h g) s
  joined_on x y z h (backward w g s) = backward w (joined_on x y w h g) s

  pub one_step : (x y : ℕ × ℕ) → IsStep us x y → Joined us x y
  one_step x y s = onward x (itself refl) s

  -- a chain the other way
  pub joined_back : (x y : ℕ × ℕ) → Joined us x y → Joined us y x
  joined_back x y (itself e) = itself (sym e)
  joined_back x y (onward w g s) = joined_on y w x (backward y (itself refl) s) (joined_back x w g)
  joined_back x y (backward w g s) = joined_on y w x (onward y (itself refl) s) (joined_back x w g)

  pub joined_complete : (x y : ℕ × ℕ) → Joined us x y → is_complete us x ≡ true → is_complete us y ≡ true
  joined_complete x y (itself e) full = subst (λ z. is_complete us z ≡ true) e full
  joined_complete x y (onward w g s) full = s.1
  joined_complete x y (backward w g s) full = s.0

  pub step_key : (x y : ℕ × ℕ) → IsStep us x y → full_key (struct_at us y) ≡ full_key (struct_at us x)
  step_key x y s = full_keys (λ k j. agrees_within zero us (x.0, k) (y.0, j)) (struct_at us x) (struct_at us y) s.0 s.1 (s.3 (suc zero))

  pub joined_key : (x y : ℕ × ℕ) → Joined us x y → full_key (struct_at us y) ≡ full_key (struct_at us x)
  joined_key x y (itself e) = ap (λ z. full_key (struct_at us z)) (sym e)
  joined_key x y (onward w g s) = step_key w y s ∙ joined_key x w g
  joined_key x y (backward w g s) = sym (step_key y w s) ∙ joined_key x w g

  -- what each step keeps, a chain keeps
  pub joined_keeps : {V : Type 0} (f : ℕ × ℕ → V) → ((x y : ℕ × ℕ) → IsStep us x y → f x ≡ f y) → (x y : ℕ × ℕ) → Joined us x y → f x ≡ f y
  joined_keeps f keep x y (itself e) = ap f e
  joined_keeps f keep x y (onward w g s) = joined_keeps f keep x w g ∙ keep w y s
  joined_keeps f keep x y (backward w g s) = joined_keeps f keep x w g ∙ sym (keep y w s)
