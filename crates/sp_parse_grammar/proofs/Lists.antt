-- Fronts of lists.
use Rattle.std.proofs.Common.{◌≡◌, ◌⊎◌, List, [], ◌∷◌, ◌++◌, refl, sym, ap, inl, inr}
use Rattle.std.proofs.lemmas.List.{append_cancel_right}
use Rattle.sp_parse_grammar.specs.Table.{first, Heads}

pub nil_or_cons : {A : Type 0} (xs : List A) → (xs ≡ []) ⊎ ((x : A) × (ys : List A) × (xs ≡ x ∷ ys))
nil_or_cons [] = inl refl
nil_or_cons (x ∷ xs) = inr (x, xs, refl)

-- both parts of nothing are nothing
pub left_nil : {A : Type 0} (xs ys : List A) → xs ++ ys ≡ [] → xs ≡ []
left_nil [] ys e = refl
left_nil (x ∷ xs) ys e = absurd cc

pub right_nil : {A : Type 0} (xs ys : List A) → xs ++ ys ≡ [] → ys ≡ []
right_nil [] ys e = e
right_nil (x ∷ xs) ys e = absurd cc

-- a list is read up to itself by no token
pub no_front : {A : Type 0} (f ys : List A) → ys ≡ f ++ ys → f ≡ []
no_front f ys e = sym (append_cancel_right [] f ys e)

-- the token behind a front and the rest behind it
pub behind : {A : Type 0} → List A → A → List A → List A
behind [] z zs = zs
behind (x ∷ xs) z zs = xs ++ z ∷ zs

pub next_token : {A : Type 0} (f : List A) (z : A) (zs : List A) → f ++ z ∷ zs ≡ first f z ∷ behind f z zs
unfolding behind
next_token [] z zs = refl
next_token (x ∷ xs) z zs = refl

-- a list that begins with a token begins with it
pub heads : {A : Type 0} (xs : List A) (x : A) (ys : List A) → xs ≡ x ∷ ys → Heads xs x
heads [] x ys e = absurd cc
heads (v ∷ xs) x ys e = cc

pub head_tail : {A : Type 0} (xs : List A) (x : A) → Heads xs x → (ys : List A) × (xs ≡ x ∷ ys)
head_tail [] x h = absurd h
head_tail (v ∷ xs) x h = (xs, ap (λ u. u ∷ xs) h)
