-- Nodes that wait, and their marks.
use Rattle.std.proofs.Common.{◌≡◌, ◌≢◌, ◌⊎◌, inl, inr, ℕ, zero, suc, ◌+◌, ◌<◌, ◌≤◌, Bool, true, false, ◌||◌, eqb, List, [], ◌∷◌, ◌++◌, length, get_or, set, take, refl, sym, ap, ◌∙◌, subst, arith, eqb-true, length-set, length-append, get_or-set_same, get_or-set_other}
use Rattle.std.proofs.lemmas.Bool.{false≢true}
use Rattle.std.proofs.lemmas.List.{take_more}
use Rattle.std.proofs.lemmas.List.Folds.{list_any-append}
use Rattle.std.proofs.lemmas.List.Elements.{All-append}
use Rattle.std.proofs.lemmas.Bool.Decides.{nat_tests}
use Rattle.sp_lattice.specs.System.{AllBelow, has}
use Rattle.sp_dense.specs.inner.Waiting.{IsKept, Adds}

-- how many marks are not set
abbrev pub idle : List Bool → ℕ
idle [] = 0
idle (true ∷ marks) = idle marks
idle (false ∷ marks) = suc (idle marks)

pub idle-le : (marks : List Bool) → idle marks ≤ length marks
idle-le [] = omega arith
idle-le (true ∷ marks) = omega (arith, idle-le marks)
idle-le (false ∷ marks) = omega (arith, idle-le marks)

idle-set : (marks : List Bool) (i : ℕ) → i < length marks → get_or marks i false ≡ false → idle (set marks i true) + 1 ≡ idle marks
idle-set [] i low h = absurd (omega arith)
idle-set (true ∷ marks) zero low h = absurd (false≢true (sym h))
idle-set (false ∷ marks) zero low h = omega arith
idle-set (true ∷ marks) (suc i) low h = idle-set marks i (omega arith) h
idle-set (false ∷ marks) (suc i) low h = omega (arith, idle-set marks i (omega arith) h)

or-true_left : (a b : Bool) → a ≡ true → (a || b) ≡ true
or-true_left true b h = refl
or-true_left false b h = absurd (false≢true h)

or-true_right : (a b : Bool) → b ≡ true → (a || b) ≡ true
or-true_right true b h = refl
or-true_right false b h = h

or-cases : (a b : Bool) → (a || b) ≡ true → (a ≡ true) ⊎ (b ≡ true)
or-cases true b h = inl refl
or-cases false b h = inr h

same : (n : ℕ) → eqb n n ≡ true
same n = grind (arith, nat_tests)

pub has-left : (n : ℕ) (xs ys : List ℕ) → has n xs ≡ true → has n (xs ++ ys) ≡ true
has-left n xs ys h = list_any-append (eqb n) xs ys ∙ or-true_left (has n xs) (has n ys) h

pub has-last : (n : ℕ) (xs : List ℕ) → has n (xs ++ n ∷ []) ≡ true
has-last n xs = list_any-append (eqb n) xs (n ∷ []) ∙ or-true_right (has n xs) (has n (n ∷ [])) (or-true_left (eqb n n) false (same n))

pub has-cases : (n : ℕ) (xs ys : List ℕ) → has n (xs ++ ys) ≡ true → (has n xs ≡ true) ⊎ (has n ys ≡ true)
has-cases n xs ys h = or-cases (has n xs) (has n ys) (sym (list_any-append (eqb n) xs ys) ∙ h)

-- an element of a front that is one longer is in the front, or is the last
pub has-take_more : (n i d : ℕ) (xs : List ℕ) → i < length xs → has n (take (i + 1) xs) ≡ true → (has n (take i xs) ≡ true) ⊎ (n ≡ get_or xs i d)
has-take_more n i d xs low h = by (has-cases n (take i xs) (get_or xs i d ∷ []) (sym (ap (λ ys. has n ys) (take_more xs i d low)) ∙ h))
  where
    by : (has n (take i xs) ≡ true) ⊎ (has n (get_or xs i d ∷ []) ≡ true) → (has n (take i xs) ≡ true) ⊎ (n ≡ get_or xs i d)
    by (inl k) = inl k
    by (inr k) = inr (last (or-cases (eqb n (get_or xs i d)) false k))
      where
        last : (eqb n (get_or xs i d) ≡ true) ⊎ (false ≡ true) → n ≡ get_or xs i d
        last (inl e) = eqb-true n (get_or xs i d) e
        last (inr e) = absurd (false≢true e)

pub below-push : (bound k : ℕ) (xs : List ℕ) → AllBelow bound xs → k < bound → AllBelow bound (xs ++ k ∷ [])
below-push bound k xs low k_low = All-append (λ x. x < bound) xs (k ∷ []) low one
  where
    one : AllBelow bound (k ∷ [])
    one zero d h = k_low
    one (suc i) d h = absurd (omega arith)

pub below-more : (bound more : ℕ) (xs : List ℕ) → bound ≤ more → AllBelow bound xs → AllBelow more xs
below-more bound more xs le low k d h = let one = low k d h in omega arith

-- a mark that is set has a place
marked_low : (marks : List Bool) (n : ℕ) → get_or marks n false ≡ true → n < length marks
marked_low [] n h = absurd (false≢true h)
marked_low (b ∷ marks) zero h = omega arith
marked_low (b ∷ marks) (suc n) h = omega (arith, marked_low marks n h)

-- where every node waits, whatever the marks
pub kept_all : (marks : List Bool) (queue : List ℕ) (nodes : ℕ) → length marks ≡ nodes → AllBelow nodes queue → ((n : ℕ) → n < nodes → has n queue ≡ true) → IsKept marks queue
kept_all marks queue nodes long low every = record {
  low = below-more nodes (length marks) queue (omega arith) low;
  marked = λ n h. every n (omega (arith, marked_low marks n h));
}

which : (k n : ℕ) → (k ≡ n) ⊎ (k ≢ n)
which k n = grind arith

-- the first node leaves the queue and loses its mark
pub kept_taken : (marks : List Bool) (queue rest : List ℕ) (node : ℕ) → IsKept marks queue → queue ≡ node ∷ rest → IsKept (set marks node false) rest
kept_taken marks queue rest node kept split = record {
  low = λ k d h. let one = low_all (suc k) d (omega arith) in omega (arith, length-set marks node false);
  marked = λ n h. by n (which n node) h;
}
  where
    low_all : AllBelow (length marks) (node ∷ rest)
    low_all = subst (λ xs. AllBelow (length marks) xs) split kept.low

    by : (n : ℕ) → (n ≡ node) ⊎ (n ≢ node) → get_or (set marks node false) n false ≡ true → has n rest ≡ true
    by n (inl e) h = absurd (false≢true (sym (get_or-set_same marks node false false (low_all 0 0 (omega arith))) ∙ ap (λ i. get_or (set marks node false) i false) (sym e) ∙ h))
    by n (inr apart) h = past (or-cases (eqb n node) (has n rest) (ap (λ xs. has n xs) (sym split) ∙ kept.marked n (sym (get_or-set_other marks node n false false apart) ∙ h)))
      where
        past : (eqb n node ≡ true) ⊎ (has n rest ≡ true) → has n rest ≡ true
        past (inl e) = absurd (apart (eqb-true n node e))
        past (inr e) = e

-- a node comes in at the back and gets its mark
pub kept_added : (marks : List Bool) (queue : List ℕ) (node : ℕ) → IsKept marks queue → node < length marks → IsKept (set marks node true) (queue ++ node ∷ [])
kept_added marks queue node kept low = record {
  low = below-more (length marks) (length (set marks node true)) (queue ++ node ∷ []) (omega (arith, length-set marks node true)) (below-push (length marks) node queue kept.low low);
  marked = λ n h. by n (which n node) h;
}
  where
    by : (n : ℕ) → (n ≡ node) ⊎ (n ≢ node) → get_or (set marks node true) n false ≡ true → has n (queue ++ node ∷ []) ≡ true
    by n (inl e) h = ap (λ k. has k (queue ++ node ∷ [])) e ∙ has-last node queue
    by n (inr apart) h = has-left n queue (node ∷ []) (kept.marked n (sym (get_or-set_other marks node n true false apart) ∙ h))

pub adds_none : (before now : List ℕ) → before ≡ now → Adds before now []
adds_none before now same_list = record { still = λ n h. ap (λ xs. has n xs) (sym same_list) ∙ h; added = λ n h. absurd (false≢true h) }

-- one more of the nodes that are to wait: it does already, or it comes in
pub adds_waiting : (before now nodes : List ℕ) (i d : ℕ) → i < length nodes → Adds before now (take i nodes) → has (get_or nodes i d) now ≡ true → Adds before now (take (i + 1) nodes)
adds_waiting before now nodes i d low so_far there = record {
  still = so_far.still;
  added = λ n h. by n (has-take_more n i d nodes low h);
}
  where
    by : (n : ℕ) → (has n (take i nodes) ≡ true) ⊎ (n ≡ get_or nodes i d) → has n now ≡ true
    by n (inl h) = so_far.added n h
    by n (inr e) = ap (λ k. has k now) e ∙ there

pub adds_new : (before now nodes : List ℕ) (i d : ℕ) → i < length nodes → Adds before now (take i nodes) → Adds before (now ++ get_or nodes i d ∷ []) (take (i + 1) nodes)
adds_new before now nodes i d low so_far =
    adds_waiting before (now ++ get_or nodes i d ∷ []) nodes i d low
    (record { still = λ n h. has-left n now (get_or nodes i d ∷ []) (so_far.still n h); added = λ n h. has-left n now (get_or nodes i d ∷ []) (so_far.added n h) })
    (has-last (get_or nodes i d) now)

pub fewer_marked : (marks : List Bool) (queue : List ℕ) (node most : ℕ) → node < length marks → get_or marks node false ≡ false → length queue + idle marks ≤ most → length (queue ++ node ∷ []) + idle (set marks node true) ≤ most
fewer_marked marks queue node most low h few = omega (arith, idle-set marks node low h, length-append queue (node ∷ []))

-- every node below one more, where the last comes in
pub every_more : (queue : List ℕ) (node n : ℕ) → ((k : ℕ) → k < node → has k queue ≡ true) → n < node + 1 → has n (queue ++ node ∷ []) ≡ true
every_more queue node n every low = by (which n node)
  where
    by : (n ≡ node) ⊎ (n ≢ node) → has n (queue ++ node ∷ []) ≡ true
    by (inl e) = ap (λ k. has k (queue ++ node ∷ [])) e ∙ has-last node queue
    by (inr apart) = has-left n queue (node ∷ []) (every n (omega (arith, apart)))
