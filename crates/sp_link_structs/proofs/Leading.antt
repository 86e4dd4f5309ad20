-- What a step keeps of the leaders, and what they are once all steps are taken.
use Rattle.std.proofs.Common.{◌≡◌, ◌<◌, ◌+◌, length, take, get_or, ◌⊎◌, ℕ, zero, suc, Bool, true, false, ◌&&◌, ◌||◌, if◌then◌else◌, List, [], ◌∷◌, Some, refl, ap, sym, subst, ◌∙◌}
use Rattle.std.proofs.lemmas.List.Folds.{list_any_more}
use Rattle.std.specs.Prelude.{slice_get}
use Rattle.std.specs.List.{list_any}
use Rattle.sp_types.specs.Types.{Struct}
use Rattle.sp_link_agreement.specs.Depths.{struct_at}
use Rattle.sp_link_agreement.specs.Inner.{same_entity}
use Rattle.sp_link_structs.specs.Joined.{is_complete, IsStep, Joined}
use Rattle.sp_link_structs.specs.Matched.{of_units, AreLeaders}
use Rattle.sp_link_structs.specs.Groups.{same_key, full_key, of_key}
use Rattle.sp_link_structs.specs.Leading.{is_before, earlier, later, moved, IsLeading, KeepsOne, IsAlike}
use Rattle.sp_link_structs.proofs.Keys.{key_is, key_self}
use Rattle.sp_link_structs.proofs.Joining.{joined_on, one_step, joined_back, joined_complete, joined_key, joined_keeps}
use Rattle.sp_link_structs.proofs.Members.{Has, some_is, has_filtered, filtered_passes, there_in, complete_there}
use Rattle.sp_link_structs.proofs.Order.{stays_behind, before_not, first_of_units, earlier_low}
use Rattle.sp_link_structs.proofs.Tests.{and_left, and_right, both, entity_is, entity_self, entity_turned}

-- ---- those of a key

any_here : (xs : List (ℕ × ℕ)) (x : ℕ × ℕ) (i : ℕ) → slice_get xs i ≡ Some x → list_any (same_entity x) xs ≡ true
any_here [] x i e = absurd (cc)
any_here (y ∷ ys) x zero e =
    ap (λ b. b || list_any (same_entity x) ys) (subst (λ z. same_entity x z ≡ true) (sym (some_is y x e)) (entity_self x))
any_here (y ∷ ys) x (suc i) e = by (same_entity x y) (any_here ys x i e)
  where
    by : (b : Bool) → list_any (same_entity x) ys ≡ true → (b || list_any (same_entity x) ys) ≡ true
    by true h = refl
    by false h = h

module _ (us : List (List Struct)) (x : ℕ × ℕ) where
  pub has_alike : (p : ℕ × ℕ) → is_complete us p ≡ true → full_key (struct_at us p) ≡ full_key (struct_at us x)
      → Has (of_key us (full_key (struct_at us x)) (of_units 0 us)) p
  has_alike p full key =
      let w : Has (of_units 0 us) p = there_in us p (complete_there (struct_at us p) full) in
      let test : same_key (full_key (struct_at us p)) (full_key (struct_at us x)) ≡ true =
      subst (λ k. same_key k (full_key (struct_at us x)) ≡ true) (sym key) (key_self (full_key (struct_at us x))) in
      has_filtered (λ z. is_complete us z && same_key (full_key (struct_at us z)) (full_key (struct_at us x))) (of_units 0 us) p w.0 w.1 (both full test)

  in_list : (y : ℕ × ℕ) → is_complete us y ≡ true → full_key (struct_at us y) ≡ full_key (struct_at us x)
      → list_any (same_entity y) (of_key us (full_key (struct_at us x)) (of_units 0 us)) ≡ true
  in_list y full key =
      let v : Has (of_key us (full_key (struct_at us x)) (of_units 0 us)) y = has_alike y full key in
      any_here (of_key us (full_key (struct_at us x)) (of_units 0 us)) y v.0 v.1

  pub alike_in : (i : ℕ) (p : ℕ × ℕ) → slice_get (of_key us (full_key (struct_at us x)) (of_units 0 us)) i ≡ Some p → IsAlike us x p
  alike_in i p e =
      let t : (is_complete us p && same_key (full_key (struct_at us p)) (full_key (struct_at us x))) ≡ true =
      filtered_passes (λ z. is_complete us z && same_key (full_key (struct_at us z)) (full_key (struct_at us x))) (of_units 0 us) p i e in (
        and_left (is_complete us p) (same_key (full_key (struct_at us p)) (full_key (struct_at us x))) t,
        key_is (full_key (struct_at us p)) (full_key (struct_at us x)) (and_right (is_complete us p) (same_key (full_key (struct_at us p)) (full_key (struct_at us x))) t),
      )

-- ---- a step

moved_cases : (P : ℕ × ℕ → Type 0) (r old new : ℕ × ℕ) (b c : Bool) → same_entity r old ≡ c → P r → (r ≡ old → P new) → P (if b && c then new else r)
moved_cases P r old new true true e p q = q (entity_is r old e)
moved_cases P r old new true false e p q = p
moved_cases P r old new false c e p q = p

same_either : (b : Bool) (r : ℕ × ℕ) → (if b then r else r) ≡ r
same_either true r = refl
same_either false r = refl

-- ---- one more of a list

and_never : (b : Bool) (x y : ℕ × ℕ) → (if b && false then x else y) ≡ y
and_never true x y = refl
and_never false x y = refl

moved_again : (old new r : ℕ × ℕ) (a b c : Bool) → same_entity r old ≡ c
    → (if b && same_entity (if a && c then new else r) old then new else (if a && c then new else r)) ≡ (if (a || b) && c then new else r)
moved_again old new r true b true e = same_either (b && same_entity new old) new
moved_again old new r true b false e = ap (λ z. if b && z then new else r) e ∙ and_never b new r
moved_again old new r false b c e = ap (λ z. if b && z then new else r) e

pub moved_more : (xs : List (ℕ × ℕ)) (i : ℕ) (d old new x r now next : ℕ × ℕ) → i < length xs → now ≡ moved (take i xs) old new x r
    → next ≡ (if same_entity (get_or xs i d) x && same_entity now old then new else now) → next ≡ moved (take (i + 1) xs) old new x r
moved_more xs i d old new x r now next inside was is =
    is
    ∙ ap (λ z. if same_entity (get_or xs i d) x && same_entity z old then new else z) was
    ∙ moved_again old new r (list_any (same_entity x) (take i xs)) (same_entity (get_or xs i d) x) (same_entity r old) refl
    ∙ ap (λ b. if (list_any (same_entity x) (take i xs) || b) && same_entity r old then new else r)
    (sym (entity_turned (get_or xs i d) x (same_entity (get_or xs i d) x) refl))
    ∙ ap (λ b. if b && same_entity r old then new else r) (sym (list_any_more (same_entity x) xs i d inside))

-- ---- what a step gives

module _ (us : List (List Struct)) (old new : ℕ × ℕ → ℕ × ℕ) (leading : IsLeading us old) (p x : ℕ × ℕ) (alike : IsAlike us x p) (full : is_complete us x ≡ true) (step : IsStep us p x)
    (xs : List (ℕ × ℕ)) (list : xs ≡ of_key us (full_key (struct_at us x)) (of_units 0 us))
    (is : (y : ℕ × ℕ) → new y ≡ moved xs (later (old p) (old x)) (earlier (old p) (old x)) y (old y)) where
  leaders_joined : Joined us (old p) (old x)
  leaders_joined =
      joined_on us (old p) p (old x) (joined_back us p (old p) (leading.0 p))
      (joined_on us p x (old x) (one_step us p x step) (leading.0 x))

  two_joined : Joined us (later (old p) (old x)) (earlier (old p) (old x))
  two_joined = by (is_before (old x) (old p))
    where
      by : (b : Bool) → Joined us (if b then old p else old x) (if b then old x else old p)
      by true = leaders_joined
      by false = joined_back us (old p) (old x) leaders_joined

  later_key : full_key (struct_at us (later (old p) (old x))) ≡ full_key (struct_at us x)
  later_key = by (is_before (old x) (old p))
    where
      by : (b : Bool) → full_key (struct_at us (if b then old p else old x)) ≡ full_key (struct_at us x)
      by true = joined_key us p (old p) (leading.0 p) ∙ alike.1
      by false = joined_key us x (old x) (leading.0 x)

  pub step_leads : IsLeading us new
  step_leads = ((λ y. subst (Joined us y) (sym (is y)) (one y)), (λ y. subst (λ z. is_before y z ≡ false) (sym (is y)) (two y)))
    where
      one : (y : ℕ × ℕ) → Joined us y (moved xs (later (old p) (old x)) (earlier (old p) (old x)) y (old y))
      one y =
          moved_cases (Joined us y) (old y) (later (old p) (old x)) (earlier (old p) (old x)) (list_any (same_entity y) xs) (same_entity (old y) (later (old p) (old x))) refl (leading.0 y)
          (λ e. joined_on us y (later (old p) (old x)) (earlier (old p) (old x)) (subst (Joined us y) e (leading.0 y)) two_joined)

      two : (y : ℕ × ℕ) → is_before y (moved xs (later (old p) (old x)) (earlier (old p) (old x)) y (old y)) ≡ false
      two y =
          moved_cases (λ z. is_before y z ≡ false) (old y) (later (old p) (old x)) (earlier (old p) (old x)) (list_any (same_entity y) xs) (same_entity (old y) (later (old p) (old x))) refl (leading.1 y)
          (λ e. stays_behind y (later (old p) (old x)) (earlier (old p) (old x)) (subst (λ z. is_before y z ≡ false) e (leading.1 y)) (earlier_low (old p) (old x)))

  listed : (y : ℕ × ℕ) → is_complete us y ≡ true → full_key (struct_at us y) ≡ full_key (struct_at us x) → list_any (same_entity y) xs ≡ true
  listed y whole key = subst (λ zs. list_any (same_entity y) zs ≡ true) (sym list) (in_list us x y whole key)

  moved_in : (y : ℕ × ℕ) → list_any (same_entity y) xs ≡ true
      → new y ≡ (if same_entity (old y) (later (old p) (old x)) then earlier (old p) (old x) else old y)
  moved_in y e = is y ∙ ap (λ b. if b && same_entity (old y) (later (old p) (old x)) then earlier (old p) (old x) else old y) e

  pub step_taken : new p ≡ new x
  step_taken =
      moved_in p (listed p alike.0 alike.1)
      ∙ by (is_before (old x) (old p))
      ∙ sym (moved_in x (listed x full refl))
    where
      self : (r s : ℕ × ℕ) → (if same_entity r r then s else r) ≡ s
      self r s = ap (λ b. if b then s else r) (entity_self r)

      by : (b : Bool) → (if same_entity (old p) (if b then old p else old x) then (if b then old x else old p) else old p)
          ≡ (if same_entity (old x) (if b then old p else old x) then (if b then old x else old p) else old x)
      by true = self (old p) (old x) ∙ sym (same_either (same_entity (old x) (old p)) (old x))
      by false = same_either (same_entity (old p) (old x)) (old p) ∙ sym (self (old x) (old p))

  pub step_keeps : KeepsOne us old new
  step_keeps y z whole-y whole-z e = by (same_entity (old y) (later (old p) (old x))) refl
    where
      stays : (v : ℕ × ℕ) → same_entity (old v) (later (old p) (old x)) ≡ false → (b : Bool) → (if b && same_entity (old v) (later (old p) (old x)) then earlier (old p) (old x) else old v) ≡ old v
      stays v f true = ap (λ c. if c then earlier (old p) (old x) else old v) f
      stays v f false = refl

      goes : (v : ℕ × ℕ) → is_complete us v ≡ true → same_entity (old v) (later (old p) (old x)) ≡ true → new v ≡ earlier (old p) (old x)
      goes v whole t =
          let key : full_key (struct_at us v) ≡ full_key (struct_at us x) =
          sym (joined_key us v (old v) (leading.0 v)) ∙ ap (λ w. full_key (struct_at us w)) (entity_is (old v) (later (old p) (old x)) t) ∙ later_key in
          moved_in v (listed v whole key) ∙ ap (λ c. if c then earlier (old p) (old x) else old v) t

      by : (c : Bool) → same_entity (old y) (later (old p) (old x)) ≡ c → new y ≡ new z
      by true t =
          goes y whole-y t
          ∙ sym (goes z whole-z (subst (λ w. same_entity w (later (old p) (old x)) ≡ true) e t))
      by false f =
          is y ∙ stays y f (list_any (same_entity y) xs) ∙ e
          ∙ sym (is z ∙ stays z (subst (λ w. same_entity w (later (old p) (old x)) ≡ false) e f) (list_any (same_entity z) xs))

-- ---- once all are taken

pub are_leaders : (us : List (List Struct)) (leader : ℕ × ℕ → ℕ × ℕ) → IsLeading us leader → ((x y : ℕ × ℕ) → IsStep us x y → leader x ≡ leader y) → AreLeaders us leader
are_leaders us leader leading taken x full =
    first_of_units (Joined us x) us (leader x)
    (there_in us (leader x) (complete_there (struct_at us (leader x)) (joined_complete us x (leader x) (leading.0 x) full)))
    (leading.0 x)
    (λ y j b. before_not y (leader y) (leading.1 y) (subst (λ (z : ℕ × ℕ). (y.0 < z.0) ⊎ ((y.0 ≡ z.0) × (y.1 < z.1))) (joined_keeps us leader taken x y j) b))
