-- A triple is told exactly where its code is among the rows.
use Rattle.std.proofs.Common.{◌≡◌, ◌⊎◌, inl, inr, ℕ, ◌+◌, ◌*◌, ◌/◌, ◌%◌, ◌<◌, ◌≤◌, Bool, true, false, ◌&&◌, ◌||◌, cond, eqb, leb, List, [], ◌∷◌, map, filter, refl, sym, ap, ◌∙◌, arith}
use Rattle.std.specs.List.{list_any}
use Rattle.std.proofs.lemmas.Bool.{and_parts, and_from, and_left, and_right, eq-eqb, eqb-true, leb-true, le-leb}
use Rattle.std.proofs.lemmas.Bool.Decides.{nat_tests}
use Rattle.std.proofs.lemmas.Nat.{div-add-mod'}
use Rattle.sp_bdd.specs.Ascending.{has}
use Rattle.sp_engine_keeping.specs.Triples.{same_pair}
use Rattle.sp_engine_keeping.specs.Codes.{code, pair, leaves, told_of, is_told}
use Rattle.sp_engine_keeping.proofs.Coding.{pair-code}

same-truth : (a b : Bool) → (a ≡ true → b ≡ true) → (b ≡ true → a ≡ true) → a ≡ b
same-truth true b to back = sym (to refl)
same-truth false true to back = back refl
same-truth false false to back = refl

same_pair-refl : (p : ℕ × ℕ) → same_pair p p ≡ true
same_pair-refl p = and_from (eqb p.0 p.0) (eqb p.1 p.1) (eq-eqb p.0 p.0 refl) (eq-eqb p.1 p.1 refl)

apart : (a b : ℕ) → b < a → eqb a b ≡ false
apart a b less = grind (arith, nat_tests)

mod_low : (n : ℕ) → n % 1048576 < 1048576
mod_low n = omega arith

-- the code of a triple leaves its node
code-leaves : (k : ℕ) (p : ℕ × ℕ) → p.0 < 1048576 → p.1 < 1048576 → leaves k (code k p) ≡ true
code-leaves k p a b = and_from (leb (k * 1099511627776) (code k p)) (leb (code k p) (k * 1099511627776 + 1099511627775)) (le-leb _ _ (omega arith)) (le-leb _ _ (omega (arith, a, b)))

-- a row that leaves a node is put together again
code-pair : (k row : ℕ) → leaves k row ≡ true → code k (pair row) ≡ row
code-pair k row h =
    let ends = and_parts (leb (k * 1099511627776) row) (leb row (k * 1099511627776 + 1099511627775)) h in
    let from = leb-true (k * 1099511627776) row ends.0 in
    let to = leb-true row (k * 1099511627776 + 1099511627775) ends.1 in
    by (row / 1048576) (row % 1048576) (row / 1048576 / 1048576) (row / 1048576 % 1048576) (div-add-mod' row 1048576) (div-add-mod' (row / 1048576) 1048576)
    (mod_low row) (mod_low (row / 1048576)) from to
  where
    by : (high low top location : ℕ) → high * 1048576 + low ≡ row → top * 1048576 + location ≡ high → low < 1048576 → location < 1048576 → k * 1099511627776 ≤ row → row ≤ k * 1099511627776 + 1099511627775 → k * 1099511627776 + (location * 1048576 + low) ≡ row
    by high low top location one two a b from to = let same : top ≡ k = omega arith in omega (arith, same)

-- one row
one-told : (k : ℕ) (p : ℕ × ℕ) (row : ℕ) → p.0 < 1048576 → p.1 < 1048576 → (leaves k row && same_pair p (pair row)) ≡ eqb (code k p) row
one-told k p row a b = same-truth (leaves k row && same_pair p (pair row)) (eqb (code k p) row) to back
  where
    to : (leaves k row && same_pair p (pair row)) ≡ true → eqb (code k p) row ≡ true
    to h =
        let both = and_parts (leaves k row) (same_pair p (pair row)) h in
        let parts = and_parts (eqb p.0 (pair row).0) (eqb p.1 (pair row).1) both.1 in
        let whole = code-pair k row both.0 in
        eq-eqb (code k p) row (omega (arith, whole, eqb-true p.0 (pair row).0 parts.0, eqb-true p.1 (pair row).1 parts.1))

    back : eqb (code k p) row ≡ true → (leaves k row && same_pair p (pair row)) ≡ true
    back h =
        let same = eqb-true (code k p) row h in
        ap (λ x. leaves k x && same_pair p (pair x)) (sym same)
        ∙ and_from (leaves k (code k p)) (same_pair p (pair (code k p))) (code-leaves k p a b) (ap (same_pair p) (pair-code k p a b) ∙ same_pair-refl p)

step : (passes : Bool) (test head : Bool) (p q : ℕ × ℕ) (rest : List (ℕ × ℕ)) → same_pair p q ≡ test → (passes && test) ≡ head → list_any (same_pair p) (cond passes (q ∷ rest) rest) ≡ (head || list_any (same_pair p) rest)
step true test head p q rest e h = ap (λ b. b || list_any (same_pair p) rest) (e ∙ h)
step false test head p q rest e h = ap (λ b. b || list_any (same_pair p) rest) h

mapped : (b : Bool) (row : ℕ) (rest : List ℕ) → map pair (cond b (row ∷ rest) rest) ≡ cond b (pair row ∷ map pair rest) (map pair rest)
mapped true row rest = refl
mapped false row rest = refl

pub told-code : (k : ℕ) (p : ℕ × ℕ) (rows : List ℕ) → p.0 < 1048576 → p.1 < 1048576 → is_told rows k p ≡ has (code k p) rows
told-code k p [] a b = refl
told-code k p (row ∷ rows) a b =
    ap (list_any (same_pair p)) (mapped (leaves k row) row (filter (leaves k) rows))
    ∙ step (leaves k row) (same_pair p (pair row)) (eqb (code k p) row) p (pair row) (told_of k rows) refl (one-told k p row a b)
    ∙ ap (λ t. eqb (code k p) row || t) (told-code k p rows a b)

-- numbers past those that rows have are never told
never-same : (p : ℕ × ℕ) (row : ℕ) → (1048576 ≤ p.0) ⊎ (1048576 ≤ p.1) → same_pair p (pair row) ≡ false
never-same p row (inl past) = let low = mod_low (row / 1048576) in and_left (eqb p.0 (pair row).0) (eqb p.1 (pair row).1) (apart p.0 (pair row).0 (omega arith))
never-same p row (inr past) = let low = mod_low row in and_right (eqb p.0 (pair row).0) (eqb p.1 (pair row).1) (apart p.1 (pair row).1 (omega arith))

pub told-never : (k : ℕ) (p : ℕ × ℕ) (rows : List ℕ) → (1048576 ≤ p.0) ⊎ (1048576 ≤ p.1) → is_told rows k p ≡ false
told-never k p [] past = refl
told-never k p (row ∷ rows) past =
    ap (list_any (same_pair p)) (mapped (leaves k row) row (filter (leaves k) rows))
    ∙ step (leaves k row) (same_pair p (pair row)) false p (pair row) (told_of k rows) refl (and_right (leaves k row) (same_pair p (pair row)) (never-same p row past))
    ∙ told-never k p rows past
