-- The triples of rows are told again by their codes.
use Rattle.std.proofs.Common.{◌≡◌, ◌⊎◌, inl, inr, ℕ, zero, suc, ◌+◌, ◌-◌, ◌*◌, ◌/◌, ◌%◌, ◌<◌, ◌≤◌, Bool, true, false, ◌&&◌, ◌||◌, eqb, ltb, leb, List, [], ◌∷◌, ◌++◌, length, get_or, map, filter, refl, sym, ap, ◌∙◌, subst, arith, append_assoc, length-append}
use Rattle.std.specs.List.{All}
use Rattle.std.proofs.lemmas.Bool.{cond-true, cond-false, cases_lt, and_from, and_left, and_right, le-leb, lt-leb}
use Rattle.std.proofs.lemmas.Bool.Decides.{nat_tests}
use Rattle.std.proofs.lemmas.List.{get_or-map, length-map, append-nil, get_or_append_left, get_or-append_right}
use Rattle.std.proofs.lemmas.List.Elements.{filter-append}
use Rattle.std.proofs.lemmas.Nat.{div-mul-add, mod-mul-add}
use Rattle.sp_lattice.specs.Flat.{row_at}
use Rattle.sp_bdd.specs.Ascending.{Ascends}
use Rattle.sp_engine_keeping.specs.Triples as triples
use Rattle.sp_bdd.specs.Listed.{is_within}
use Rattle.sp_engine_keeping.specs.Codes.{code, pair, codes_from, told_of, told_from, AreSmall}

-- a code parts again
pub pair-code : (k : ℕ) (p : ℕ × ℕ) → p.0 < 1048576 → p.1 < 1048576 → pair (code k p) ≡ p
pair-code k p a b = ap (λ x. (x, code k p % 1048576)) first ∙ ap (λ x. (p.0, x)) second
  where
    turned : code k p ≡ (k * 1048576 + p.0) * 1048576 + p.1
    turned = omega arith

    first : code k p / 1048576 % 1048576 ≡ p.0
    first = ap (λ x. x / 1048576 % 1048576) turned ∙ ap (λ x. x % 1048576) (div-mul-add (k * 1048576 + p.0) 1048576 p.1 b) ∙ mod-mul-add k 1048576 p.0 a

    second : code k p % 1048576 ≡ p.1
    second = ap (λ x. x % 1048576) turned ∙ mod-mul-add (k * 1048576 + p.0) 1048576 p.1 b

-- rows of one node
pub codes_low : (k : ℕ) (row : List (ℕ × ℕ)) → AreSmall row → All (λ x. k * 1099511627776 ≤ x) (map (code k) row)
codes_low k row small i d h =
    let low : i < length row = omega (arith, length-map row (code k)) in
    omega (arith, get_or-map (code k) row i (0, 0) d low)

pub codes_high : (k : ℕ) (row : List (ℕ × ℕ)) → AreSmall row → All (λ x. x < (k + 1) * 1099511627776) (map (code k) row)
codes_high k row small i d h =
    let low : i < length row = omega (arith, length-map row (code k)) in
    let s = small i (0, 0) low in
    omega (arith, get_or-map (code k) row i (0, 0) d low, s.0, s.1)

-- what passes, and what doesn't
filter-all : (p : ℕ → Bool) (xs : List ℕ) → All (λ x. p x ≡ true) xs → filter p xs ≡ xs
filter-all p [] all = refl
filter-all p (x ∷ xs) all = cond-true (p x) (x ∷ filter p xs) (filter p xs) (all 0 x (omega arith)) ∙ ap (λ ys. x ∷ ys) (filter-all p xs (λ k d h. all (suc k) d (omega arith)))

filter-none : (p : ℕ → Bool) (xs : List ℕ) → All (λ x. p x ≡ false) xs → filter p xs ≡ []
filter-none p [] none = refl
filter-none p (x ∷ xs) none = cond-false (p x) (x ∷ filter p xs) (filter p xs) (none 0 x (omega arith)) ∙ filter-none p xs (λ k d h. none (suc k) d (omega arith))

within : (k x : ℕ) → k * 1099511627776 ≤ x → x < (k + 1) * 1099511627776 → is_within (k * 1099511627776) (k * 1099511627776 + 1099511627775) x ≡ true
within k x from to = and_from (leb (k * 1099511627776) x) (leb x (k * 1099511627776 + 1099511627775)) (le-leb _ _ from) (le-leb _ _ (omega arith))

before : (k x : ℕ) → x < k * 1099511627776 → is_within (k * 1099511627776) (k * 1099511627776 + 1099511627775) x ≡ false
before k x less = and_left (leb (k * 1099511627776) x) (leb x (k * 1099511627776 + 1099511627775)) (lt-leb _ _ less)

behind : (k x : ℕ) → (k + 1) * 1099511627776 ≤ x → is_within (k * 1099511627776) (k * 1099511627776 + 1099511627775) x ≡ false
behind k x le = and_right (leb (k * 1099511627776) x) (leb x (k * 1099511627776 + 1099511627775)) (lt-leb _ _ (omega arith))

all-append : (P : ℕ → Type 0) (xs ys : List ℕ) → All P xs → All P ys → All P (xs ++ ys)
all-append P xs ys a b i d h = elim (cases_lt i (length xs)) [
  | inl less ↦ subst P (sym (get_or_append_left xs ys d i less)) (a i d less)
  | inr le ↦ subst P (sym (get_or-append_right xs ys (length xs) i d refl le)) (b (i - length xs) d (omega (arith, length-append xs ys)))
]

rest-all : (P : List (ℕ × ℕ) → Type 0) (row : List (ℕ × ℕ)) (rows : List (List (ℕ × ℕ))) → All P (row ∷ rows) → All P rows
rest-all P row rows all k d h = all (suc k) d (omega arith)

pub all_low : (k : ℕ) (rows : List (List (ℕ × ℕ))) → All AreSmall rows → All (λ x. k * 1099511627776 ≤ x) (codes_from k rows)
all_low k [] small = λ i d h. absurd (omega arith)
all_low k (row ∷ rows) small =
    all-append (λ x. k * 1099511627776 ≤ x) (map (code k) row) (codes_from (k + 1) rows) (codes_low k row (small 0 row (omega arith)))
    (λ i d h. let one = all_low (k + 1) rows (rest-all AreSmall row rows small) i d h in omega (arith, one))

pub all_high : (k : ℕ) (rows : List (List (ℕ × ℕ))) → All AreSmall rows → All (λ x. x < (k + length rows) * 1099511627776) (codes_from k rows)
all_high k [] small = λ i d h. absurd (omega arith)
all_high k (row ∷ rows) small =
    all-append (λ x. x < (k + length (row ∷ rows)) * 1099511627776) (map (code k) row) (codes_from (k + 1) rows)
    (λ i d h. let one = codes_high k row (small 0 row (omega arith)) i d h in omega (arith, one))
    (λ i d h. let one = all_high (k + 1) rows (rest-all AreSmall row rows small) i d h in omega (arith, one))

pairs-again : (k : ℕ) (row : List (ℕ × ℕ)) → AreSmall row → map pair (map (code k) row) ≡ row
pairs-again k [] small = refl
pairs-again k (p ∷ row) small =
    let s = small 0 p (omega arith) in
    ap (λ q. q ∷ map pair (map (code k) row)) (pair-code k p s.0 s.1) ∙ ap (λ qs. p ∷ qs) (pairs-again k row (λ i d h. small (suc i) d (omega arith)))

-- behind rows of lesser nodes
told_behind : (k : ℕ) (front : List ℕ) (rows : List (List (ℕ × ℕ))) → All (λ x. x < k * 1099511627776) front → All AreSmall rows → told_from k (length rows) (front ++ codes_from k rows) ≡ rows
told_behind k front [] low small = refl
told_behind k front (row ∷ rows) low small =
    let own = map (code k) row in
    let later = codes_from (k + 1) rows in
    let p = is_within (k * 1099511627776) (k * 1099511627776 + 1099511627775) in
    let s = small 0 row (omega arith) in
    let rest = rest-all AreSmall row rows small in
    let one = filter-none p front (λ i d h. let x = low i d h in before k (get_or front i d) x) in
    let two = filter-all p own (λ i d h. within k (get_or own i d) (codes_low k row s i d h) (codes_high k row s i d h)) in
    let three = filter-none p later (λ i d h. behind k (get_or later i d) (all_low (k + 1) rows rest i d h)) in
    let kept : filter p (front ++ (own ++ later)) ≡ own =
    filter-append p front (own ++ later) ∙ ap (λ xs. xs ++ filter p (own ++ later)) one ∙ filter-append p own later ∙ ap (λ xs. xs ++ filter p later) two ∙ ap (λ xs. own ++ xs) three ∙ append-nil own in
    let further : told_from (k + 1) (length rows) (front ++ (own ++ later)) ≡ rows =
    ap (told_from (k + 1) (length rows)) (sym (append_assoc front own later))
    ∙ told_behind (k + 1) (front ++ own) rows (all-append (λ x. x < (k + 1) * 1099511627776) front own (λ i d h. let x = low i d h in omega (arith, x)) (codes_high k row s)) rest in
    ap (λ xs. map pair xs ∷ told_from (k + 1) (length rows) (front ++ (own ++ later))) kept
    ∙ ap (λ ps. ps ∷ told_from (k + 1) (length rows) (front ++ (own ++ later))) (pairs-again k row s)
    ∙ ap (λ qs. row ∷ qs) further

pub told_again : (rows : List (List (ℕ × ℕ))) → All AreSmall rows → told_from 0 (length rows) (codes_from 0 rows) ≡ rows
told_again rows small = told_behind 0 [] rows (λ i d h. absurd (omega arith)) small

-- the codes ascend
ascends-append : (xs ys : List ℕ) (bound : ℕ) → Ascends xs → Ascends ys → All (λ x. x < bound) xs → All (λ y. bound ≤ y) ys → Ascends (xs ++ ys)
ascends-append xs ys bound a b under over i j d less low = by (cases_lt i (length xs)) (cases_lt j (length xs))
  where
    by : (i < length xs) ⊎ (length xs ≤ i) → (j < length xs) ⊎ (length xs ≤ j) → get_or (xs ++ ys) i d < get_or (xs ++ ys) j d
    by (inl p) (inl q) = omega (arith, a i j d less q, get_or_append_left xs ys d i p, get_or_append_left xs ys d j q)
    by (inl p) (inr q) =
        omega (arith, under i d p, over (j - length xs) d (omega (arith, length-append xs ys)), get_or_append_left xs ys d i p, get_or-append_right xs ys (length xs) j d refl q)
    by (inr p) (inl q) = absurd (omega arith)
    by (inr p) (inr q) =
        omega (arith, b (i - length xs) (j - length xs) d (omega arith) (omega (arith, length-append xs ys)), get_or-append_right xs ys (length xs) i d refl p, get_or-append_right xs ys (length xs) j d refl q)

code-less : (k a b c d : ℕ) → b < 1048576 → d < 1048576 → (ltb a c || eqb a c && ltb b d) ≡ true → code k (a, b) < code k (c, d)
code-less k a b c d small big h = grind (arith, nat_tests)

own_ascend : (k : ℕ) (row : List (ℕ × ℕ)) → AreSmall row → triples.Ascends row → Ascends (map (code k) row)
own_ascend k row small rises i j d less low =
    let j_low : j < length row = omega (arith, length-map row (code k)) in
    let i_low : i < length row = omega arith in
    let p = get_or row i (0, 0) in
    let q = get_or row j (0, 0) in
    let one = code-less k p.0 p.1 q.0 q.1 (small i (0, 0) i_low).1 (small j (0, 0) j_low).1 (rises i j (0, 0) less j_low) in
    omega (arith, one, get_or-map (code k) row i (0, 0) d i_low, get_or-map (code k) row j (0, 0) d j_low)

pub all_ascend : (k : ℕ) (rows : List (List (ℕ × ℕ))) → All AreSmall rows → All triples.Ascends rows → Ascends (codes_from k rows)
all_ascend k [] small rises = λ i j d less low. absurd (omega arith)
all_ascend k (row ∷ rows) small rises =
    ascends-append (map (code k) row) (codes_from (k + 1) rows) ((k + 1) * 1099511627776)
    (own_ascend k row (small 0 row (omega arith)) (rises 0 row (omega arith)))
    (all_ascend (k + 1) rows (rest-all AreSmall row rows small) (rest-all triples.Ascends row rows rises))
    (codes_high k row (small 0 row (omega arith))) (all_low (k + 1) rows (rest-all AreSmall row rows small))

-- a row of what is told
told_row : (k n i : ℕ) (rows : List ℕ) → i < n → row_at (told_from k n rows) i ≡ told_of (k + i) rows
told_row k zero i rows low = absurd (omega arith)
told_row k (suc n) zero rows low = let e : k ≡ k + 0 = omega arith in ap (λ x. told_of x rows) e
told_row k (suc n) (suc i) rows low = let e : k + 1 + i ≡ k + suc i = omega arith in told_row (k + 1) n i rows (omega arith) ∙ ap (λ x. told_of x rows) e

pub told_at : (n i : ℕ) (rows : List ℕ) → i < n → row_at (told_from 0 n rows) i ≡ told_of i rows
told_at n i rows low = let e : 0 + i ≡ i = omega arith in told_row 0 n i rows low ∙ ap (λ x. told_of x rows) e

pub length-told : (k n : ℕ) (rows : List ℕ) → length (told_from k n rows) ≡ n
length-told k zero rows = refl
length-told k (suc n) rows = ap suc (length-told (k + 1) n rows)

-- one more row of codes
pub codes_more : (k : ℕ) (rows : List (List (ℕ × ℕ))) (row : List (ℕ × ℕ)) → codes_from k (rows ++ row ∷ []) ≡ codes_from k rows ++ map (code (k + length rows)) row
codes_more k [] row = let e : k ≡ k + 0 = omega arith in append-nil (map (code k) row) ∙ ap (λ x. map (code x) row) e
codes_more k (first ∷ rows) row =
    let e : k + 1 + length rows ≡ k + suc (length rows) = omega arith in
    ap (λ xs. map (code k) first ++ xs) (codes_more (k + 1) rows row ∙ ap (λ x. codes_from (k + 1) rows ++ map (code x) row) e)
    ∙ sym (append_assoc (map (code k) first) (codes_from (k + 1) rows) (map (code (k + suc (length rows))) row))
