-- Which function an object is of, and which code a function has.
use Rattle.std.proofs.Common.{◌≡◌, ◌⊎◌, inl, inr, ℕ, zero, suc, ◌+◌, ◌<◌, List, [], ◌∷◌, ◌++◌, length, Option, Some, None, slice_get, slice_set, refl, ap, sym, ◌∙◌, subst, arith}
use Rattle.std.proofs.lemmas.Option.{none-some}
use Rattle.sp_types.specs.Programs.{Object, Function}
use Rattle.sp_lower_objects.specs.Owners.{marked, owned, nothing_for, owners_of, numbered, codes_of, known_mark, mark_at}
use Rattle.sp_lower_starts_laws.proofs.Lists.{some_is, behind, place_cases}
use Rattle.sp_lower_expr_laws.proofs.Growing.{before_all}

-- ---- lists that are set

set_length : {A : Type 0} (xs : List A) (i : ℕ) (y : A) → length (slice_set xs i y) ≡ length xs
set_length [] i y = refl
set_length (z ∷ zs) zero y = refl
set_length (z ∷ zs) (suc i) y = ap suc (set_length zs i y)

set_there : {A : Type 0} (xs : List A) (i : ℕ) (y : A) → i < length xs → slice_get (slice_set xs i y) i ≡ Some y
set_there [] i y low = absurd (omega arith)
set_there (z ∷ zs) zero y low = refl
set_there (z ∷ zs) (suc i) y low = set_there zs i y (omega arith)

-- what a place holds is what was set there, or what it held before
set_cases : {A : Type 0} (xs : List A) (i : ℕ) (y : A) (n : ℕ) → (slice_get (slice_set xs i y) n ≡ slice_get xs n) ⊎ ((n ≡ i) × (slice_get (slice_set xs i y) n ≡ Some y))
set_cases [] i y n = inl refl
set_cases (z ∷ zs) zero y zero = inr (refl, refl)
set_cases (z ∷ zs) zero y (suc n) = inl refl
set_cases (z ∷ zs) (suc i) y zero = inl refl
set_cases (z ∷ zs) (suc i) y (suc n) = by (set_cases zs i y n)
  where
    by : (slice_get (slice_set zs i y) n ≡ slice_get zs n) ⊎ ((n ≡ i) × (slice_get (slice_set zs i y) n ≡ Some y))
        → (slice_get (slice_set zs i y) n ≡ slice_get zs n) ⊎ ((suc n ≡ suc i) × (slice_get (slice_set zs i y) n ≡ Some y))
    by (inl h) = inl h
    by (inr h) = inr (ap suc h.0, h.1)

nothing_length : {A : Type 0} (xs : List A) → length (nothing_for xs) ≡ length xs
nothing_length [] = refl
nothing_length (x ∷ xs) = ap suc (nothing_length xs)

nothing_at : {A : Type 0} (xs : List A) (n : ℕ) → mark_at (nothing_for xs) n ≡ None
nothing_at [] n = refl
nothing_at (x ∷ xs) zero = refl
nothing_at (x ∷ xs) (suc n) = nothing_at xs n

-- ---- marks

-- an element of the list under some number
abbrev pub IsIn : List ℕ → ℕ → Type 0
IsIn xs n = (i : ℕ) × (slice_get xs i ≡ Some n)

marked_length : (k : ℕ) (ns : List ℕ) (marks : List (Option ℕ)) → length (marked k ns marks) ≡ length marks
marked_length k [] marks = refl
marked_length k (n ∷ ns) marks = marked_length k ns (slice_set marks n (Some k)) ∙ set_length marks n (Some k)

-- a mark is as it was, or is this one of a number of the list
marked_cases : (k : ℕ) (ns : List ℕ) (marks : List (Option ℕ)) (n : ℕ) → (mark_at (marked k ns marks) n ≡ mark_at marks n) ⊎ (IsIn ns n × (mark_at (marked k ns marks) n ≡ Some k))
marked_cases k [] marks n = inl refl
marked_cases k (m ∷ ms) marks n = by (marked_cases k ms (slice_set marks m (Some k)) n) (set_cases marks m (Some k) n)
  where
    after : List (Option ℕ)
    after = slice_set marks m (Some k)

    by : (mark_at (marked k ms (slice_set marks m (Some k))) n ≡ mark_at (slice_set marks m (Some k)) n) ⊎ (IsIn ms n × (mark_at (marked k ms (slice_set marks m (Some k))) n ≡ Some k))
        → (slice_get (slice_set marks m (Some k)) n ≡ slice_get marks n) ⊎ ((n ≡ m) × (slice_get (slice_set marks m (Some k)) n ≡ Some (Some k)))
        → (mark_at (marked k ms (slice_set marks m (Some k))) n ≡ mark_at marks n) ⊎ (IsIn (m ∷ ms) n × (mark_at (marked k ms (slice_set marks m (Some k))) n ≡ Some k))
    by (inl h) (inl g) = inl (h ∙ ap known_mark g)
    by (inl h) (inr g) = inr ((0, ap (λ x. Some x) (sym g.0)), h ∙ ap known_mark g.1)
    by (inr h) g = inr ((suc h.0.0, h.0.1), h.1)

-- each number of the list has this mark
marked_all : (k : ℕ) (ns : List ℕ) (marks : List (Option ℕ)) (n i : ℕ) → slice_get ns i ≡ Some n → n < length marks → mark_at (marked k ns marks) n ≡ Some k
marked_all k [] marks n i e low = absurd (none-some n e)
marked_all k (m ∷ ms) marks n zero e low = by (marked_cases k ms (slice_set marks m (Some k)) n)
  where
    is : m ≡ n
    is = some_is m n e

    by : (mark_at (marked k ms (slice_set marks m (Some k))) n ≡ mark_at (slice_set marks m (Some k)) n) ⊎ (IsIn ms n × (mark_at (marked k ms (slice_set marks m (Some k))) n ≡ Some k))
        → mark_at (marked k ms (slice_set marks m (Some k))) n ≡ Some k
    by (inl h) = h ∙ ap known_mark (subst (λ j. slice_get (slice_set marks m (Some k)) j ≡ Some (Some k)) is (set_there marks m (Some k) (omega (arith, is, low))))
    by (inr h) = h.1
marked_all k (m ∷ ms) marks n (suc i) e low = marked_all k ms (slice_set marks m (Some k)) n i e (omega (arith, set_length marks m (Some k), low))

-- what a function lists
abbrev pub listed : Function → List ℕ
listed g = g.formals ++ g.locals

-- the function of this number, from k on, lists it
pub record IsListed (k : ℕ) (gs : List Function) (n : ℕ) (owner : ℕ) : Type 0 where
  pub index : ℕ
  pub function : Function
  pub there : slice_get gs index ≡ Some function
  pub number : owner ≡ k + index
  pub own : IsIn (listed function) n

pub in_left : (xs ys : List ℕ) (n : ℕ) → IsIn xs n → IsIn (xs ++ ys) n
in_left xs ys n h = (h.0, before_all xs ys h.0 n h.1)

in_right : (xs ys : List ℕ) (n : ℕ) → IsIn ys n → IsIn (xs ++ ys) n
in_right xs ys n h = (length xs + h.0, behind xs ys h.0 n h.1)

in_cases : (xs ys : List ℕ) (n i : ℕ) → slice_get (xs ++ ys) i ≡ Some n → IsIn xs n ⊎ IsIn ys n
in_cases xs ys n i e = by (place_cases xs ys i n e)
  where
    by : (slice_get xs i ≡ Some n) ⊎ ((m : ℕ) × (i ≡ length xs + m) × (slice_get ys m ≡ Some n)) → IsIn xs n ⊎ IsIn ys n
    by (inl h) = inl (i, h)
    by (inr h) = inr (h.0, h.2)

-- a mark is as it was, or is that of a function that lists the object
owned_cases : (k : ℕ) (gs : List Function) (marks : List (Option ℕ)) (n : ℕ) → (mark_at (owned k gs marks) n ≡ mark_at marks n) ⊎ ((j : ℕ) × (mark_at (owned k gs marks) n ≡ Some j) × IsListed k gs n j)
owned_cases k [] marks n = inl refl
owned_cases k (g ∷ gs) marks n = by (owned_cases (k + 1) gs after n) (marked_cases k g.locals formals n) (marked_cases k g.formals marks n)
  where
    formals : List (Option ℕ)
    formals = marked k g.formals marks

    after : List (Option ℕ)
    after = marked k g.locals (marked k g.formals marks)

    by : (mark_at (owned (k + 1) gs (marked k g.locals (marked k g.formals marks))) n ≡ mark_at (marked k g.locals (marked k g.formals marks)) n)
        ⊎ ((j : ℕ) × (mark_at (owned (k + 1) gs (marked k g.locals (marked k g.formals marks))) n ≡ Some j) × IsListed (k + 1) gs n j)
        → (mark_at (marked k g.locals (marked k g.formals marks)) n ≡ mark_at (marked k g.formals marks) n) ⊎ (IsIn g.locals n × (mark_at (marked k g.locals (marked k g.formals marks)) n ≡ Some k))
        → (mark_at (marked k g.formals marks) n ≡ mark_at marks n) ⊎ (IsIn g.formals n × (mark_at (marked k g.formals marks) n ≡ Some k))
        → (mark_at (owned (k + 1) gs (marked k g.locals (marked k g.formals marks))) n ≡ mark_at marks n)
        ⊎ ((j : ℕ) × (mark_at (owned (k + 1) gs (marked k g.locals (marked k g.formals marks))) n ≡ Some j) × IsListed k (g ∷ gs) n j)
    by (inr h) y z = let s : k + 1 + h.2.index ≡ k + suc h.2.index = omega arith in
        inr (h.0, h.1, record { index = suc h.2.index; function = h.2.function; there = h.2.there; number = h.2.number ∙ s; own = h.2.own })
    by (inl h) (inr y) z = let s : k ≡ k + 0 = omega arith in inr (k, h ∙ y.1, record { index = 0; function = g; there = refl; number = s; own = in_right g.formals g.locals n y.0 })
    by (inl h) (inl y) (inr z) = let s : k ≡ k + 0 = omega arith in inr (k, h ∙ y ∙ z.1, record { index = 0; function = g; there = refl; number = s; own = in_left g.formals g.locals n z.0 })
    by (inl h) (inl y) (inl z) = inl (h ∙ y ∙ z)

owned_length : (k : ℕ) (gs : List Function) (marks : List (Option ℕ)) → length (owned k gs marks) ≡ length marks
owned_length k [] marks = refl
owned_length k (g ∷ gs) marks =
    owned_length (k + 1) gs (marked k g.locals (marked k g.formals marks)) ∙ marked_length k g.locals (marked k g.formals marks) ∙ marked_length k g.formals marks

-- what a function lists has some mark
owned_some : (k : ℕ) (gs : List Function) (marks : List (Option ℕ)) (n i : ℕ) (g : Function) → slice_get gs i ≡ Some g → IsIn (listed g) n → n < length marks
    → (j : ℕ) × (mark_at (owned k gs marks) n ≡ Some j) × IsListed k gs n j
owned_some k [] marks n i g e own low = absurd (none-some g e)
owned_some k (x ∷ gs) marks n zero g e own low = by (owned_cases k (x ∷ gs) marks n) (owned_cases (k + 1) gs (marked k x.locals (marked k x.formals marks)) n) (in_cases x.formals x.locals n at.0 at.1)
  where
    at : IsIn (listed x) n
    at = subst (λ y. IsIn (listed y) n) (sym (some_is x g e)) own

    here : ℕ → IsListed k (x ∷ gs) n k
    here z = let s : k ≡ k + 0 = omega arith in record { index = 0; function = x; there = refl; number = s; own = at }

    first : IsIn x.formals n ⊎ IsIn x.locals n → mark_at (marked k x.locals (marked k x.formals marks)) n ≡ Some k
    first (inr h) = marked_all k x.locals (marked k x.formals marks) n h.0 h.1 (omega (arith, marked_length k x.formals marks, low))
    first (inl h) = last (marked_cases k x.locals (marked k x.formals marks) n)
      where
        last : (mark_at (marked k x.locals (marked k x.formals marks)) n ≡ mark_at (marked k x.formals marks) n) ⊎ (IsIn x.locals n × (mark_at (marked k x.locals (marked k x.formals marks)) n ≡ Some k))
            → mark_at (marked k x.locals (marked k x.formals marks)) n ≡ Some k
        last (inl w) = w ∙ marked_all k x.formals marks n h.0 h.1 low
        last (inr w) = w.1

    by : (mark_at (owned k (x ∷ gs) marks) n ≡ mark_at marks n) ⊎ ((j : ℕ) × (mark_at (owned k (x ∷ gs) marks) n ≡ Some j) × IsListed k (x ∷ gs) n j)
        → (mark_at (owned (k + 1) gs (marked k x.locals (marked k x.formals marks))) n ≡ mark_at (marked k x.locals (marked k x.formals marks)) n)
        ⊎ ((j : ℕ) × (mark_at (owned (k + 1) gs (marked k x.locals (marked k x.formals marks))) n ≡ Some j) × IsListed (k + 1) gs n j)
        → IsIn x.formals n ⊎ IsIn x.locals n → (j : ℕ) × (mark_at (owned k (x ∷ gs) marks) n ≡ Some j) × IsListed k (x ∷ gs) n j
    by (inr h) y z = h
    by (inl h) (inl y) z = (k, y ∙ first z, here 0)
    by (inl h) (inr y) z = let s : k + 1 + y.2.index ≡ k + suc y.2.index = omega arith in
        (y.0, y.1, record { index = suc y.2.index; function = y.2.function; there = y.2.there; number = y.2.number ∙ s; own = y.2.own })
owned_some k (x ∷ gs) marks n (suc i) g e own low =
    let h : (j : ℕ) × (mark_at (owned (k + 1) gs (marked k x.locals (marked k x.formals marks))) n ≡ Some j) × IsListed (k + 1) gs n j =
    owned_some (k + 1) gs (marked k x.locals (marked k x.formals marks)) n i g e own (omega (arith, marked_length k x.locals (marked k x.formals marks), marked_length k x.formals marks, low)) in
    let s : k + 1 + h.2.index ≡ k + suc h.2.index = omega arith in
    (h.0, h.1, record { index = suc h.2.index; function = h.2.function; there = h.2.there; number = h.2.number ∙ s; own = h.2.own })

-- what a function lists has an owner that lists it
pub listed_owned : (objects : List Object) (gs : List Function) (n i : ℕ) (g : Function) → slice_get gs i ≡ Some g → IsIn (listed g) n → n < length objects
    → (j : ℕ) × (mark_at (owners_of objects gs) n ≡ Some j) × IsListed 0 gs n j
listed_owned objects gs n i g e own low = owned_some 0 gs (nothing_for objects) n i g e own (omega (arith, nothing_length objects, low))

-- ---- codes

-- a mark is as it was, or is the place of the number in the list
numbered_cases : (k : ℕ) (ns : List ℕ) (marks : List (Option ℕ)) (n : ℕ) → (mark_at (numbered k ns marks) n ≡ mark_at marks n) ⊎ ((i : ℕ) × (slice_get ns i ≡ Some n) × (mark_at (numbered k ns marks) n ≡ Some (k + i)))
numbered_cases k [] marks n = inl refl
numbered_cases k (m ∷ ms) marks n = by (numbered_cases (k + 1) ms (slice_set marks m (Some k)) n) (set_cases marks m (Some k) n)
  where
    by : (mark_at (numbered (k + 1) ms (slice_set marks m (Some k))) n ≡ mark_at (slice_set marks m (Some k)) n) ⊎ ((i : ℕ) × (slice_get ms i ≡ Some n) × (mark_at (numbered (k + 1) ms (slice_set marks m (Some k))) n ≡ Some (k + 1 + i)))
        → (slice_get (slice_set marks m (Some k)) n ≡ slice_get marks n) ⊎ ((n ≡ m) × (slice_get (slice_set marks m (Some k)) n ≡ Some (Some k)))
        → (mark_at (numbered (k + 1) ms (slice_set marks m (Some k))) n ≡ mark_at marks n) ⊎ ((i : ℕ) × (slice_get (m ∷ ms) i ≡ Some n) × (mark_at (numbered (k + 1) ms (slice_set marks m (Some k))) n ≡ Some (k + i)))
    by (inl h) (inl g) = inl (h ∙ ap known_mark g)
    by (inl h) (inr g) = let s : k ≡ k + 0 = omega arith in inr (0, ap (λ x. Some x) (sym g.0), h ∙ ap known_mark g.1 ∙ ap (λ x. Some x) s)
    by (inr h) g = let s : k + 1 + h.0 ≡ k + suc h.0 = omega arith in inr (suc h.0, h.1, h.2 ∙ ap (λ x. Some x) s)

pub code_defines : (functions : List Function) (ns : List ℕ) (n k : ℕ) → mark_at (codes_of functions ns) n ≡ Some k → slice_get ns k ≡ Some n
code_defines functions ns n k e = by (numbered_cases 0 ns (nothing_for functions) n)
  where
    by : (mark_at (codes_of functions ns) n ≡ mark_at (nothing_for functions) n) ⊎ ((i : ℕ) × (slice_get ns i ≡ Some n) × (mark_at (codes_of functions ns) n ≡ Some (0 + i))) → slice_get ns k ≡ Some n
    by (inl h) = absurd (none-some k (sym (nothing_at functions n) ∙ sym h ∙ e))
    by (inr h) = let s : 0 + h.0 ≡ h.0 = omega arith in subst (λ i. slice_get ns i ≡ Some n) (sym s ∙ some_is (0 + h.0) k (sym h.2 ∙ e)) h.1

numbered_length : (k : ℕ) (ns : List ℕ) (marks : List (Option ℕ)) → length (numbered k ns marks) ≡ length marks
numbered_length k [] marks = refl
numbered_length k (m ∷ ms) marks = numbered_length (k + 1) ms (slice_set marks m (Some k)) ∙ set_length marks m (Some k)

numbered_some : (k : ℕ) (ns : List ℕ) (marks : List (Option ℕ)) (n i : ℕ) → slice_get ns i ≡ Some n → n < length marks → (j : ℕ) × (mark_at (numbered k ns marks) n ≡ Some j)
numbered_some k [] marks n i e low = absurd (none-some n e)
numbered_some k (m ∷ ms) marks n zero e low = by (numbered_cases (k + 1) ms (slice_set marks m (Some k)) n)
  where
    by : (mark_at (numbered (k + 1) ms (slice_set marks m (Some k))) n ≡ mark_at (slice_set marks m (Some k)) n) ⊎ ((i : ℕ) × (slice_get ms i ≡ Some n) × (mark_at (numbered (k + 1) ms (slice_set marks m (Some k))) n ≡ Some (k + 1 + i)))
        → (j : ℕ) × (mark_at (numbered (k + 1) ms (slice_set marks m (Some k))) n ≡ Some j)
    by (inl h) = let w : m < length marks = omega (arith, some_is m n e, low) in
        (k, h ∙ ap known_mark (subst (λ j. slice_get (slice_set marks m (Some k)) j ≡ Some (Some k)) (some_is m n e) (set_there marks m (Some k) w)))
    by (inr h) = (k + 1 + h.0, h.2)
numbered_some k (m ∷ ms) marks n (suc i) e low = numbered_some (k + 1) ms (slice_set marks m (Some k)) n i e (omega (arith, set_length marks m (Some k), low))

-- the code of a function that is defined once
pub code_is : (functions : List Function) (ns : List ℕ) (n k : ℕ) → ((i j m : ℕ) → slice_get ns i ≡ Some m → slice_get ns j ≡ Some m → i ≡ j) → slice_get ns k ≡ Some n → n < length functions
    → mark_at (codes_of functions ns) n ≡ Some k
code_is functions ns n k once e low =
    let h : (j : ℕ) × (mark_at (codes_of functions ns) n ≡ Some j) = numbered_some 0 ns (nothing_for functions) n k e (omega (arith, nothing_length functions, low)) in
    h.1 ∙ ap (λ x. Some x) (once h.0 k n (code_defines functions ns n h.0 h.1) e)
