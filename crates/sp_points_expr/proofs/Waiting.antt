-- Marks of the numbers that wait.
use Rattle.std.proofs.Common.{◌≡◌, ◌≢◌, ◌⊎◌, inl, inr, ℕ, ◌+◌, ◌<◌, ◌≤◌, Bool, true, false, cond, ◌||◌, eqb, List, [], ◌∷◌, ◌++◌, length, get_or, set, refl, sym, ap, ◌∙◌, arith}
use Rattle.std.specs.List.{IsDistinct, AllByRecursion}
use Rattle.std.proofs.lemmas.Bool.{false≢true}
use Rattle.std.proofs.lemmas.Map.Keys.{IsDistinct-cons}
use Rattle.std.proofs.lemmas.Map.Steps.{length-le_from_distinct_below}
use Rattle.sp_base_sets.specs.Sets.{has}
use Rattle.sp_base_sets.proofs.Members.{which, eqb-refl, eqb-apart}
use Rattle.sp_base_sets.proofs.Images.{or-cases}
use Rattle.sp_base_sets.proofs.Marking.{mark-set, mark_low}
use Rattle.sp_points_expr.specs.Queue.{occurs, AreMarked}

pub occurs-append : (n : ℕ) (xs ys : List ℕ) → occurs n (xs ++ ys) ≡ occurs n xs + occurs n ys
occurs-append n [] ys = omega arith
occurs-append n (x ∷ xs) ys = omega (arith, occurs-append n xs ys)

-- a number is in a list where it occurs there
pub has_from : (n : ℕ) (xs : List ℕ) → 0 < occurs n xs → has n xs ≡ true
has_from n [] h = absurd (omega arith)
has_from n (x ∷ xs) h = by (eqb n x) h (λ g. has_from n xs g)
  where
    by : (b : Bool) → 0 < cond b 1 0 + occurs n xs → (0 < occurs n xs → has n xs ≡ true) → (b || has n xs) ≡ true
    by true h rest = refl
    by false h rest = rest (omega arith)

pub occurs_from : (n : ℕ) (xs : List ℕ) → has n xs ≡ true → 0 < occurs n xs
occurs_from n [] h = absurd (false≢true h)
occurs_from n (x ∷ xs) h = by (eqb n x) h (λ g. occurs_from n xs g)
  where
    by : (b : Bool) → (b || has n xs) ≡ true → (has n xs ≡ true → 0 < occurs n xs) → 0 < cond b 1 0 + occurs n xs
    by true h rest = omega arith
    by false h rest = let one = rest h in omega (arith, one)

bool_same : (a b : Bool) → (a ≡ true → b ≡ true) → (b ≡ true → a ≡ true) → a ≡ b
bool_same true b to from = sym (to refl)
bool_same false true to from = from refl
bool_same false false to from = refl

at_one : (b : Bool) → cond {A = ℕ} b 1 0 ≤ 1
at_one true = omega arith
at_one false = omega arith

marked : (b : Bool) → 0 < cond {A = ℕ} b 1 0 → b ≡ true
marked true h = refl
marked false h = absurd (omega arith)

alone : (x : ℕ) (xs : List ℕ) → occurs x xs ≡ 0 → AllByRecursion (λ y. eqb x y ≡ false) xs
alone x [] none = tt
alone x (y ∷ ys) none = by (eqb x y) none (λ e. alone x ys e)
  where
    by : (b : Bool) → cond b 1 0 + occurs x ys ≡ 0 → (occurs x ys ≡ 0 → AllByRecursion (λ y. eqb x y ≡ false) ys) → (b ≡ false) × AllByRecursion (λ y. eqb x y ≡ false) ys
    by true e rest = absurd (omega (arith, e))
    by false e rest = (refl, rest (omega (arith, e)))

distinct : (xs : List ℕ) → ((n : ℕ) → occurs n xs ≤ 1) → IsDistinct eqb xs
unfolding IsDistinct
distinct [] once = tt
distinct (x ∷ xs) once = IsDistinct-cons eqb x xs (alone x xs (by (eqb x x) (eqb-refl x) (once x))) (distinct xs (λ n. omega (arith, once n)))
  where
    by : (b : Bool) → b ≡ true → cond b 1 0 + occurs x xs ≤ 1 → occurs x xs ≡ 0
    by true e h = omega arith
    by false e h = absurd (false≢true e)

-- what waits is what is marked
pub waits_marked : (marks : List Bool) (xs : List ℕ) → AreMarked marks xs → (n : ℕ) → has n xs ≡ get_or marks n false
waits_marked marks xs are n = bool_same (has n xs) (get_or marks n false)
    (λ h. let there = occurs_from n xs h in marked (get_or marks n false) (omega (arith, there, are n)))
    (λ h. has_from n xs (by (get_or marks n false) h (are n)))
  where
    by : (b : Bool) → b ≡ true → occurs n xs ≡ cond b 1 0 → 0 < occurs n xs
    by true e h = omega (arith, h)
    by false e h = absurd (false≢true e)

pub waiting_few : (marks : List Bool) (xs : List ℕ) → AreMarked marks xs → length xs ≤ length marks
waiting_few marks xs are = length-le_from_distinct_below xs (length marks) (distinct xs (λ n. let one = at_one (get_or marks n false) in omega (arith, are n, one))) (λ n h. mark_low marks n (sym (waits_marked marks xs are n) ∙ h))

pub waiting_none : (marks : List Bool) → ((n : ℕ) → get_or marks n false ≡ false) → AreMarked marks []
waiting_none marks none n = ap (λ b. cond {A = ℕ} b 1 0) (sym (none n))

one_more : (marks : List Bool) (n k : ℕ) → n < length marks → get_or marks n false ≡ false → cond {A = ℕ} (get_or (set marks n true) k false) 1 0 ≡ cond {A = ℕ} (eqb k n) 1 0 + cond {A = ℕ} (get_or marks k false) 1 0
one_more marks n k low free = by (which k n)
  where
    by : (k ≡ n) ⊎ (k ≢ n) → cond {A = ℕ} (get_or (set marks n true) k false) 1 0 ≡ cond {A = ℕ} (eqb k n) 1 0 + cond {A = ℕ} (get_or marks k false) 1 0
    by (inl e) =
        let a : get_or (set marks n true) k false ≡ true = mark-set marks n k true low ∙ ap (λ j. cond (eqb j n) true (get_or marks j false)) e ∙ ap (λ b. cond b true (get_or marks n false)) (eqb-refl n) in
        let b : get_or marks k false ≡ false = ap (λ j. get_or marks j false) e ∙ free in
        let d : eqb k n ≡ true = ap (λ j. eqb j n) e ∙ eqb-refl n in
        ap (λ x. cond {A = ℕ} x 1 0) a ∙ sym (ap (λ x. cond {A = ℕ} x 1 0 + cond {A = ℕ} (get_or marks k false) 1 0) d ∙ ap (λ x. 1 + cond {A = ℕ} x 1 0) b)
    by (inr apart) =
        let d : eqb k n ≡ false = eqb-apart k n apart in
        let a : get_or (set marks n true) k false ≡ get_or marks k false = mark-set marks n k true low ∙ ap (λ x. cond x true (get_or marks k false)) d in
        omega (arith, ap (λ x. cond {A = ℕ} x 1 0) a, ap (λ x. cond {A = ℕ} x 1 0) d)

-- a number comes, somewhere in the list
pub waiting_pushed : (marks : List Bool) (xs ys : List ℕ) (n : ℕ) → n < length marks → AreMarked marks (xs ++ ys) → get_or marks n false ≡ false → AreMarked (set marks n true) ((xs ++ n ∷ []) ++ ys)
waiting_pushed marks xs ys n low are free k =
    omega (arith, occurs-append k (xs ++ n ∷ []) ys, occurs-append k xs (n ∷ []), occurs-append k xs ys, are k, one_more marks n k low free)

one_less : (marks : List Bool) (n k : ℕ) → n < length marks → get_or marks n false ≡ true → cond {A = ℕ} (get_or (set marks n false) k false) 1 0 + cond {A = ℕ} (eqb k n) 1 0 ≡ cond {A = ℕ} (get_or marks k false) 1 0
one_less marks n k low there = by (which k n)
  where
    by : (k ≡ n) ⊎ (k ≢ n) → cond {A = ℕ} (get_or (set marks n false) k false) 1 0 + cond {A = ℕ} (eqb k n) 1 0 ≡ cond {A = ℕ} (get_or marks k false) 1 0
    by (inl e) =
        let a : get_or (set marks n false) k false ≡ false = mark-set marks n k false low ∙ ap (λ j. cond (eqb j n) false (get_or marks j false)) e ∙ ap (λ b. cond b false (get_or marks n false)) (eqb-refl n) in
        let b : get_or marks k false ≡ true = ap (λ j. get_or marks j false) e ∙ there in
        let d : eqb k n ≡ true = ap (λ j. eqb j n) e ∙ eqb-refl n in
        omega (arith, ap (λ x. cond {A = ℕ} x 1 0) a, ap (λ x. cond {A = ℕ} x 1 0) b, ap (λ x. cond {A = ℕ} x 1 0) d)
    by (inr apart) =
        let d : eqb k n ≡ false = eqb-apart k n apart in
        let a : get_or (set marks n false) k false ≡ get_or marks k false = mark-set marks n k false low ∙ ap (λ x. cond x false (get_or marks k false)) d in
        omega (arith, ap (λ x. cond {A = ℕ} x 1 0) a, ap (λ x. cond {A = ℕ} x 1 0) d)

pub waiting_last : (marks : List Bool) (xs ys : List ℕ) (n : ℕ) → AreMarked marks (xs ++ (ys ++ n ∷ [])) → (get_or marks n false ≡ true) × (n < length marks)
waiting_last marks xs ys n are =
    let there : 0 < occurs n (xs ++ (ys ++ n ∷ [])) = omega (arith, occurs-append n xs (ys ++ n ∷ []), occurs-append n ys (n ∷ []), ap (λ b. cond {A = ℕ} b 1 0) (eqb-refl n)) in
    let is = marked (get_or marks n false) (omega (arith, there, are n)) in
    (is, mark_low marks n is)

-- the last number goes
pub waiting_popped : (marks : List Bool) (xs ys : List ℕ) (n : ℕ) → AreMarked marks (xs ++ (ys ++ n ∷ [])) → AreMarked (set marks n false) (xs ++ ys)
waiting_popped marks xs ys n are k =
    let last = waiting_last marks xs ys n are in
    omega (arith, occurs-append k xs (ys ++ n ∷ []), occurs-append k ys (n ∷ []), occurs-append k xs ys, are k, one_less marks n k last.1 last.0)

-- and the others stay
pub others_wait : (xs ys : List ℕ) (n k : ℕ) → k ≢ n → has k (xs ++ (ys ++ n ∷ [])) ≡ true → has k (xs ++ ys) ≡ true
others_wait xs ys n k apart h =
    let there = occurs_from k (xs ++ (ys ++ n ∷ [])) h in
    has_from k (xs ++ ys) (omega (arith, there, occurs-append k xs (ys ++ n ∷ []), occurs-append k ys (n ∷ []), occurs-append k xs ys, ap (λ b. cond {A = ℕ} b 1 0) (eqb-apart k n apart)))

pub pushed_waits : (xs ys : List ℕ) (n k : ℕ) → has k ((xs ++ n ∷ []) ++ ys) ≡ (eqb k n || has k (xs ++ ys))
pushed_waits xs ys n k = bool_same (has k ((xs ++ n ∷ []) ++ ys)) (eqb k n || has k (xs ++ ys)) to (λ h. from (or-cases (eqb k n) (has k (xs ++ ys)) h))
  where
    sum : occurs k ((xs ++ n ∷ []) ++ ys) ≡ cond {A = ℕ} (eqb k n) 1 0 + occurs k (xs ++ ys)
    sum = omega (arith, occurs-append k (xs ++ n ∷ []) ys, occurs-append k xs (n ∷ []), occurs-append k xs ys)

    to : has k ((xs ++ n ∷ []) ++ ys) ≡ true → (eqb k n || has k (xs ++ ys)) ≡ true
    to h = by (eqb k n) refl (occurs_from k ((xs ++ n ∷ []) ++ ys) h)
      where
        by : (b : Bool) → eqb k n ≡ b → 0 < occurs k ((xs ++ n ∷ []) ++ ys) → (b || has k (xs ++ ys)) ≡ true
        by true e g = refl
        by false e g = has_from k (xs ++ ys) (omega (arith, g, sum, ap (λ b. cond {A = ℕ} b 1 0) e))

    from : (eqb k n ≡ true) ⊎ (has k (xs ++ ys) ≡ true) → has k ((xs ++ n ∷ []) ++ ys) ≡ true
    from (inl e) = has_from k ((xs ++ n ∷ []) ++ ys) (omega (arith, sum, ap (λ b. cond {A = ℕ} b 1 0) e))
    from (inr h) = let there = occurs_from k (xs ++ ys) h in has_from k ((xs ++ n ∷ []) ++ ys) (omega (arith, there, sum))
