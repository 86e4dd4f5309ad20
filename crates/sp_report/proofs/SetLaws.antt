-- Keys that are inserted one by one: their order, and what they hold.
use Rattle.std.proofs.Common.{◌≡◌, ◌↔◌, Bool, true, false, ◌||◌, List, [], ◌∷◌, map, fold, refl, sym, ap, ◌∙◌, arith}
use Rattle.std.specs.List.{AllByRecursion, Contains, list_any}
use Rattle.std.specs.List.Sorted.{IsStrictlySortedBy}
use Rattle.std.specs.Cmp.{IsTotalOrder}
use Rattle.std.specs.BTreeSet.{insert_key}
use Rattle.std.specs.declared.cmp.Ordering.{Ordering}
use Rattle.std.specs.declared.cmp.Ordering.TheVariants.{Less, Equal, Greater}
use Rattle.std.specs.Ordering.{match_ordering, ordering_reverse, eq_by_cmp, is_eq}
use Rattle.std.proofs.lemmas.Cmp.{alike_right}
use Rattle.std.proofs.lemmas.List.Elements.{Contains-append_left, Contains-append_right}
use Rattle.std.proofs.lemmas.List.Folds.{list_any_at}
use Rattle.std.proofs.lemmas.Map.Lookups.{CmpEqualImpliesEq, btree_set_from_contains}

module _ {K : Type 0} {c : K → K → Ordering} (o : IsTotalOrder c) where
  -- ---- in order

  after : (k x : K) → c k x ≡ Less → (ys : List K) → AllByRecursion (λ y. c x y ≡ Less) ys → AllByRecursion (λ y. c k y ≡ Less) ys
  after k x e [] a = tt
  after k x e (y ∷ ys) a = (o.trans k x y e a.0, after k x e ys a.1)

  all_inserted : (P : K → Type 0) (ks : List K) (k : K) → P k → AllByRecursion P ks → AllByRecursion P (insert_key c ks k)
  all_inserted P [] k p a = (p, tt)
  all_inserted P (x ∷ xs) k p a = by_order (c k x) (all_inserted P xs k p a.1)
    where
      by_order : (r : Ordering) → AllByRecursion P (insert_key c xs k) → AllByRecursion P (match_ordering r (k ∷ x ∷ xs) (x ∷ xs) (x ∷ insert_key c xs k))
      by_order Less b = (p, a)
      by_order Equal b = a
      by_order Greater b = (a.0, b)

  sorted_inserted : (ks : List K) (k : K) → IsStrictlySortedBy c ks → IsStrictlySortedBy c (insert_key c ks k)
  unfolding IsStrictlySortedBy
  sorted_inserted [] k s = (tt, tt)
  sorted_inserted (x ∷ xs) k s = by_order (c k x) refl (sorted_inserted xs k s.1)
    where
      by_order : (r : Ordering) → c k x ≡ r → IsStrictlySortedBy c (insert_key c xs k) → IsStrictlySortedBy c (match_ordering r (k ∷ x ∷ xs) (x ∷ xs) (x ∷ insert_key c xs k))
      by_order Less e t = ((e, after k x e xs s.0), s)
      by_order Equal e t = s
      by_order Greater e t = (all_inserted (λ y. c x y ≡ Less) xs k (o.antisymm x k ∙ ap ordering_reverse e) s.0, t)

  pub sorted_fold : (new ks : List K) → IsStrictlySortedBy c ks → IsStrictlySortedBy c (fold (insert_key c) ks new)
  sorted_fold [] ks s = s
  sorted_fold (k ∷ new) ks s = sorted_fold new (insert_key c ks k) (sorted_inserted ks k s)

  -- ---- what is there

  swapped : (a b t : Bool) → (a || (b || t)) ≡ (b || (a || t))
  swapped true true t = refl
  swapped true false t = refl
  swapped false b t = refl

  twice : (a t : Bool) → (a || t) ≡ (a || (a || t))
  twice true t = refl
  twice false t = refl

  any_inserted : (q : K) (ks : List K) (k : K) → list_any (eq_by_cmp c q) (insert_key c ks k) ≡ (eq_by_cmp c q k || list_any (eq_by_cmp c q) ks)
  any_inserted q [] k = refl
  any_inserted q (x ∷ xs) k = by_order (c k x) refl (any_inserted q xs k)
    where
      by_order : (r : Ordering) → c k x ≡ r → list_any (eq_by_cmp c q) (insert_key c xs k) ≡ (eq_by_cmp c q k || list_any (eq_by_cmp c q) xs)
          → list_any (eq_by_cmp c q) (match_ordering r (k ∷ x ∷ xs) (x ∷ xs) (x ∷ insert_key c xs k)) ≡ (eq_by_cmp c q k || (eq_by_cmp c q x || list_any (eq_by_cmp c q) xs))
      by_order Less e h = refl
      by_order Equal e h =
          let same : eq_by_cmp c q k ≡ eq_by_cmp c q x = ap is_eq (alike_right o k x q e) in
          twice (eq_by_cmp c q x) _ ∙ ap (λ b. b || (eq_by_cmp c q x || list_any (eq_by_cmp c q) xs)) (sym same)
      by_order Greater e h = ap (λ b. eq_by_cmp c q x || b) h ∙ swapped (eq_by_cmp c q x) (eq_by_cmp c q k) _

  moved : (a b t : Bool) → (a || (b || t)) ≡ ((b || a) || t)
  moved true true t = refl
  moved true false t = refl
  moved false true t = refl
  moved false false t = refl

  any_fold : (q : K) (new ks : List K) → list_any (eq_by_cmp c q) (fold (insert_key c) ks new) ≡ (list_any (eq_by_cmp c q) new || list_any (eq_by_cmp c q) ks)
  any_fold q [] ks = refl
  any_fold q (k ∷ new) ks =
      any_fold q new (insert_key c ks k)
      ∙ ap (λ b. list_any (eq_by_cmp c q) new || b) (any_inserted q ks k)
      ∙ moved (list_any (eq_by_cmp c q) new) (eq_by_cmp c q k) (list_any (eq_by_cmp c q) ks)

-- ---- lists with the same members

within : {X : Type 0} (p : X → Bool) (xs ys : List X) → ((x : X) → Contains xs x → Contains ys x) → list_any p xs ≡ true → list_any p ys ≡ true
within p [] ys h e = cc
within {X} p (x ∷ xs) ys h e = by_test (p x) refl (within p xs ys (λ y m. h y (Contains-append_right (x ∷ []) xs y m)))
  where
    found : Contains ys x → p x ≡ true → list_any p ys ≡ true
    found m t = list_any_at p ys m.0 x m.1 (ap p m.2 ∙ t)

    by_test : (b : Bool) → p x ≡ b → (list_any p xs ≡ true → list_any p ys ≡ true) → list_any p ys ≡ true
    by_test true t rest = found (h x (Contains-append_left (x ∷ []) xs x (0, search arith, refl))) t
    by_test false t rest = rest (rw t at e)

both_ways : (a b : Bool) → (a ≡ true → b ≡ true) → (b ≡ true → a ≡ true) → a ≡ b
both_ways true b f g = sym (f refl)
both_ways false true f g = g refl
both_ways false false f g = refl

same_any : {X : Type 0} (p : X → Bool) (xs ys : List X) → ((x : X) → Contains xs x ↔ Contains ys x) → list_any p xs ≡ list_any p ys
same_any p xs ys h = both_ways _ _ (within p xs ys (λ x. (h x).0)) (within p ys xs (λ x. (h x).1))

any_map : {X Y : Type 0} (p : Y → Bool) (f : X → Y) (xs : List X) → list_any p (map f xs) ≡ list_any (λ x. p (f x)) xs
any_map p f [] = refl
any_map p f (x ∷ xs) = ap (λ b. p (f x) || b) (any_map p f xs)

-- keys of the same members are the same list
pub same_fold : {X K : Type 0} {c : K → K → Ordering} → IsTotalOrder c → CmpEqualImpliesEq c → (f : X → K) (xs ys : List X) → ((x : X) → Contains xs x ↔ Contains ys x)
    → fold (insert_key c) [] (map f xs) ≡ fold (insert_key c) [] (map f ys)
unfolding IsStrictlySortedBy
same_fold {X} {K} {c} o exact f xs ys h =
    let same = λ (q : K). any_fold o q (map f xs) [] ∙ ap (λ b. b || false) (any_map (eq_by_cmp c q) f xs ∙ same_any (λ x. eq_by_cmp c q (f x)) xs ys h ∙ sym (any_map (eq_by_cmp c q) f ys)) ∙ sym (any_fold o q (map f ys) []) in
    btree_set_from_contains o (record { keys = fold (insert_key c) [] (map f xs) }) (record { keys = fold (insert_key c) [] (map f ys) }) (sorted_fold o (map f xs) [] tt) (sorted_fold o (map f ys) [] tt) same exact
