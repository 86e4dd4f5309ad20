-- The first of a list that passes a test, and maps that keep the first of each head.
use Rattle.std.proofs.Common.{◌≡◌, ℕ, ◌+◌, Bool, true, false, not, ◌&&◌, ◌==◌, cond, if◌then◌else◌, List, [], ◌∷◌, drop, Option, Some, None, is_some, ◌⊎◌, inl, inr, refl, ap, sym, subst, ◌∙◌, true≢false, eqb-true}
use Rattle.indexmap.specs.IndexMap.{get}
use Rattle.sp_types.specs.Types.{Struct}
use Rattle.sp_link_agreement.specs.Depths.{struct_at}
use Rattle.sp_link_structs.specs.Matched.{first_where, are_namesakes}
use Rattle.sp_link_structs.specs.Groups.{Key, same_key, head_key}
use Rattle.sp_link_structs.specs.Turns.{has_head, is_apart, AreFirsts, IsHeads, elsewhere_from, elsewhere_by}
use Rattle.sp_link_structs.specs.declared.heads.Heads.{Heads}
use Rattle.sp_link_structs.proofs.Keys.{key_is, heads_same, none_alike}
use Rattle.sp_link_structs.proofs.Lookups.{or_else}

-- ---- firsts of a list

some_none : {A : Type 0} (x : A) → Some x ≡ None → ⊥
some_none x e = true≢false (ap is_some e)

pub first_same : {A : Type 0} (f g : A → Bool) (xs : List A) → ((x : A) → f x ≡ g x) → first_where f xs ≡ first_where g xs
first_same f g xs e = λ i. first_where (λ x. e x i) xs

nowhere : {A : Type 0} (xs : List A) → first_where (λ x. false) xs ≡ None
nowhere [] = refl
nowhere (x ∷ xs) = nowhere xs

pub first_never : {A : Type 0} (f : A → Bool) (xs : List A) → ((x : A) → f x ≡ false) → first_where f xs ≡ None
first_never f xs e = first_same f (λ x. false) xs e ∙ nowhere xs

module _ {A : Type 0} (a b : A → Bool) where
  pub first_none_and : (xs : List A) → first_where a xs ≡ None → first_where (λ y. a y && b y) xs ≡ None
  first_none_and [] h = refl
  first_none_and (x ∷ xs) h = by (a x) h (λ g. first_none_and xs g)
    where
      by : (p : Bool) → (if p then Some x else first_where a xs) ≡ None → (first_where a xs ≡ None → first_where (λ y. a y && b y) xs ≡ None)
          → (if p && b x then Some x else first_where (λ y. a y && b y) xs) ≡ None
      by true g ih = absurd (some_none x g)
      by false g ih = ih g

  pub first_found_and : (f : A) (xs : List A) → first_where a xs ≡ Some f → b f ≡ true → first_where (λ y. a y && b y) xs ≡ Some f
  first_found_and f [] h t = absurd (some_none f (sym h))
  first_found_and f (x ∷ xs) h t = by (a x) h (λ g. first_found_and f xs g t)
    where
      by : (p : Bool) → (if p then Some x else first_where a xs) ≡ Some f → (first_where a xs ≡ Some f → first_where (λ y. a y && b y) xs ≡ Some f)
          → (if p && b x then Some x else first_where (λ y. a y && b y) xs) ≡ Some f
      by true g ih =
          let same : f ≡ x = cc in
          ap (λ c. if c then Some x else first_where (λ y. a y && b y) xs) (subst (λ z. b z ≡ true) same t) ∙ g
      by false g ih = ih g

-- ---- one more

none_is : {V : Type 0} (o : Option V) → is_some o ≡ false → o ≡ None
none_is None e = refl
none_is (Some v) e = absurd (true≢false e)

-- what a map gives, and what is found behind it; only those of the key pass the test
module _ (get : Key → Option (ℕ × ℕ)) (x : ℕ × ℕ) (key : Key) (test : Key → Bool) (rest : Key → Option (ℕ × ℕ))
    (only : (k : Key) → same_key key k ≡ false → test k ≡ false) where
  kept_here : (k : Key) (o : Option (ℕ × ℕ)) → get k ≡ o → (is_some (get k) ≡ true) ⊎ (test k ≡ false) → or_else o (rest k) ≡ or_else o (if test k then Some x else rest k)
  kept_here k (Some v) e h = refl
  kept_here k None e (inl h) = absurd (true≢false (sym h ∙ ap is_some e))
  kept_here k None e (inr h) = ap (λ b. if b then Some x else rest k) (sym h)

  -- it is left out
  pub head_kept : (is_some (get key) ≡ true) ⊎ (test key ≡ false) → (k : Key) → or_else (get k) (rest k) ≡ or_else (get k) (if test k then Some x else rest k)
  head_kept h k = by (same_key key k) refl
    where
      by : (b : Bool) → same_key key k ≡ b → or_else (get k) (rest k) ≡ or_else (get k) (if test k then Some x else rest k)
      by true e = kept_here k (get k) refl (subst (λ z. (is_some (get z) ≡ true) ⊎ (test z ≡ false)) (key_is key k e) h)
      by false e = ap (λ b. or_else (get k) (if b then Some x else rest k)) (sym (only k e))

  -- it is the first of its key
  pub head_new : (more : Key → Option (ℕ × ℕ)) → is_some (get key) ≡ false → test key ≡ true → ((k : Key) → more k ≡ cond (same_key key k) (Some x) (get k))
      → (k : Key) → or_else (more k) (rest k) ≡ or_else (get k) (if test k then Some x else rest k)
  head_new more absent passes is k = ap (λ m. or_else m (rest k)) (is k) ∙ by (same_key key k) refl
    where
      by : (b : Bool) → same_key key k ≡ b → or_else (cond b (Some x) (get k)) (rest k) ≡ or_else (get k) (if test k then Some x else rest k)
      by true e =
          let none : get k ≡ None = none_is (get k) (subst (λ z. is_some (get z) ≡ false) (key_is key k e) absent) in
          let pass : test k ≡ true = subst (λ z. test z ≡ true) (key_is key k e) passes in
          sym (λ i. or_else (none i) (if pass i then Some x else rest k))
      by false e = ap (λ b. or_else (get k) (if b then Some x else rest k)) (sym (only k e))

-- the same of a list that is gone through
module _ (turn : List (ℕ × ℕ)) (i : ℕ) (x : ℕ × ℕ) (at : drop i turn ≡ x ∷ drop (i + 1) turn) (key : Key) (test : Key → ℕ × ℕ → Bool)
    (only : (k : Key) → same_key key k ≡ false → test k x ≡ false) (get : Key → Option (ℕ × ℕ))
    (all : (k : Key) → or_else (get k) (first_where (test k) (drop i turn)) ≡ first_where (test k) turn) where
  pub firsts_kept : (is_some (get key) ≡ true) ⊎ (test key x ≡ false) → (k : Key) → or_else (get k) (first_where (test k) (drop (i + 1) turn)) ≡ first_where (test k) turn
  firsts_kept h k =
      head_kept get x key (λ k. test k x) (λ k. first_where (test k) (drop (i + 1) turn)) only h k
      ∙ ap (λ xs. or_else (get k) (first_where (test k) xs)) (sym at) ∙ all k

  pub firsts_new : (more : Key → Option (ℕ × ℕ)) → is_some (get key) ≡ false → test key x ≡ true → ((k : Key) → more k ≡ cond (same_key key k) (Some x) (get k))
      → (k : Key) → or_else (more k) (first_where (test k) (drop (i + 1) turn)) ≡ first_where (test k) turn
  firsts_new more absent passes is k =
      head_new get x key (λ k. test k x) (λ k. first_where (test k) (drop (i + 1) turn)) only more absent passes is k
      ∙ ap (λ xs. or_else (get k) (first_where (test k) xs)) (sym at) ∙ all k

pub new_parts : (a b : Bool) → (a && not b) ≡ true → (a ≡ true) × (b ≡ false)
new_parts true true h = absurd (true≢false (sym h))
new_parts true false h = (refl, refl)
new_parts false b h = absurd (true≢false (sym h))

pub old_parts : (a b : Bool) → (a && not b) ≡ false → (b ≡ true) ⊎ (a ≡ false)
old_parts true true h = inl refl
old_parts true false h = absurd (true≢false h)
old_parts false b h = inr refl

-- ---- what is found

module _ (us : List (List Struct)) (turn : List (ℕ × ℕ)) (x : ℕ × ℕ) where
  pub namesake_found : (firsts : Key → Option (ℕ × ℕ)) → is_some (struct_at us x) ≡ true → AreFirsts us turn firsts
      → firsts (head_key (struct_at us x)) ≡ first_where (λ y. are_namesakes us y x) turn
  namesake_found firsts there are =
      are (head_key (struct_at us x))
      ∙ first_same (has_head us (head_key (struct_at us x))) (λ y. are_namesakes us y x) turn (λ y. heads_same (struct_at us y) (struct_at us x) there)

  pub namesake_absent : is_some (struct_at us x) ≡ false → first_where (λ y. are_namesakes us y x) turn ≡ None
  namesake_absent absent = first_never (λ y. are_namesakes us y x) turn (λ y. none_alike (struct_at us y) (struct_at us x) absent)

  pub elsewhere_absent : is_some (struct_at us x) ≡ false → first_where (λ y. are_namesakes us y x && not (y.0 == x.0)) turn ≡ None
  elsewhere_absent absent = first_none_and (λ y. are_namesakes us y x) (λ y. not (y.0 == x.0)) turn (namesake_absent absent)

module _ (us : List (List Struct)) (turn : List (ℕ × ℕ)) (x : ℕ × ℕ) (k : Key) (h : Heads) (heads : IsHeads us turn h) where
  from_first : (f : ℕ × ℕ) → get same_key h.firsts k ≡ Some f → (b : Bool) → (f.0 == x.0) ≡ b
      → (if not b then Some f else get same_key h.seconds k) ≡ first_where (λ y. has_head us k y && not (y.0 == x.0)) turn
  from_first f e false u = sym (first_found_and (has_head us k) (λ y. not (y.0 == x.0)) f turn (sym (heads.0 k) ∙ e) (ap not u))
  from_first f e true u =
      heads.1 k
      ∙ ap (λ o. first_where (λ y. has_head us k y && is_apart o y) turn) e
      ∙ ap (λ n. first_where (λ y. has_head us k y && not (y.0 == n)) turn) (eqb-true f.0 x.0 u)

  from_maps : (o : Option (ℕ × ℕ)) → get same_key h.firsts k ≡ o → elsewhere_from o (get same_key h.seconds k) x ≡ first_where (λ y. has_head us k y && not (y.0 == x.0)) turn
  from_maps None e = sym (first_none_and (has_head us k) (λ y. not (y.0 == x.0)) turn (sym (heads.0 k) ∙ e))
  from_maps (Some f) e = from_first f e (f.0 == x.0) refl

  pub elsewhere_of_key : elsewhere_by h k x ≡ first_where (λ y. has_head us k y && not (y.0 == x.0)) turn
  elsewhere_of_key = from_maps (get same_key h.firsts k) refl

pub elsewhere_found : (us : List (List Struct)) (turn : List (ℕ × ℕ)) (x : ℕ × ℕ) (h : Heads) → is_some (struct_at us x) ≡ true → IsHeads us turn h
    → elsewhere_by h (head_key (struct_at us x)) x ≡ first_where (λ y. are_namesakes us y x && not (y.0 == x.0)) turn
elsewhere_found us turn x h there heads =
    elsewhere_of_key us turn x (head_key (struct_at us x)) h heads
    ∙ first_same (λ y. has_head us (head_key (struct_at us x)) y && not (y.0 == x.0)) (λ y. are_namesakes us y x && not (y.0 == x.0)) turn
    (λ y. ap (λ b. b && not (y.0 == x.0)) (heads_same (struct_at us y) (struct_at us x) there))
