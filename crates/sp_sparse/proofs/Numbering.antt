-- Numbers that are given to nodes one behind the other are all different, and as many as nodes at most.
use Rattle.std.proofs.Common.{◌≡◌, ◌≢◌, ◌<◌, ◌≤◌, ◌+◌, ℕ, zero, suc, Bool, true, false, List, [], ◌∷◌, length, slice_index_or, slice_set, replicate, refl, sym, ap, ◌∙◌, arith, ⊎_elim}
use Rattle.std.proofs.lemmas.Bool.{false≢true, cases_eq}
use Rattle.std.proofs.lemmas.List.{length-set, length-replicate, get_or-set_same, get_or-set_other}
use Rattle.sp_sparse.specs.Order.{IsOrder}
use Rattle.sp_sparse.specs.inner.Order.{set_in, AreGiven}

set-most : (bs : List Bool) → set_in bs ≤ length bs
set-most [] = omega arith
set-most (true ∷ bs) = let most = set-most bs in omega (arith, most)
set-most (false ∷ bs) = let most = set-most bs in omega (arith, most)

pub set-less : (bs : List Bool) (i : ℕ) → i < length bs → slice_index_or bs i false ≡ false → set_in bs < length bs
set-less [] i low e = absurd (omega (arith, low))
set-less (true ∷ bs) zero low e = absurd (false≢true (sym e))
set-less (false ∷ bs) zero low e = let most = set-most bs in omega (arith, most)
set-less (true ∷ bs) (suc i) low e = let less = set-less bs i (omega (arith, low)) e in omega (arith, less)
set-less (false ∷ bs) (suc i) low e = let less = set-less bs i (omega (arith, low)) e in omega (arith, less)

set-one-more : (bs : List Bool) (i : ℕ) → i < length bs → slice_index_or bs i false ≡ false → set_in (slice_set bs i true) ≡ set_in bs + 1
set-one-more [] i low e = absurd (omega (arith, low))
set-one-more (true ∷ bs) zero low e = absurd (false≢true (sym e))
set-one-more (false ∷ bs) zero low e = omega arith
set-one-more (true ∷ bs) (suc i) low e = let more = set-one-more bs i (omega (arith, low)) e in omega (arith, more)
set-one-more (false ∷ bs) (suc i) low e = set-one-more bs i (omega (arith, low)) e

none-set : (n : ℕ) → set_in (replicate n false) ≡ 0
none-set zero = refl
none-set (suc n) = none-set n

none-marked : (n i : ℕ) → slice_index_or (replicate n false) i false ≡ true → ⊥
none-marked zero i h = false≢true h
none-marked (suc n) zero h = false≢true h
none-marked (suc n) (suc i) h = none-marked n i h

pub none-given : (nodes : ℕ) → AreGiven nodes (replicate nodes 0) (replicate nodes false) 0
none-given nodes = record {
  long = length-replicate nodes 0;
  marks = length-replicate nodes false;
  count = none-set nodes;
  low = λ n h. absurd (none-marked nodes n h);
  different = λ m n h g same. absurd (none-marked nodes m h);
}

-- a node that had a number before, or the one that gets one now
older : (bs : List Bool) (i m : ℕ) → slice_index_or (slice_set bs i true) m false ≡ true → m ≢ i → slice_index_or bs m false ≡ true
older bs i m h other = sym (get_or-set_other bs i m true false other) ∙ h

module _ (nodes : ℕ) (order : List ℕ) (given : List Bool) (next n : ℕ) (are : AreGiven nodes order given next) (low : n < nodes) (new : slice_index_or given n false ≡ false) where
  here : n < length order
  here = let long = are.long in omega (arith, low, long)

  marked : n < length given
  marked = let long = are.marks in omega (arith, low, long)

  now : (m : ℕ) → m ≡ n → slice_index_or (slice_set order n next) m 0 ≡ next
  now m e = ap (λ k. slice_index_or (slice_set order n next) k 0) e ∙ get_or-set_same order n next 0 here

  before : (m : ℕ) → m ≢ n → slice_index_or (slice_set order n next) m 0 ≡ slice_index_or order m 0
  before m other = get_or-set_other order n m next 0 other

  its_low : (m : ℕ) → slice_index_or (slice_set given n true) m false ≡ true → slice_index_or (slice_set order n next) m 0 < next + 1
  its_low m h = ⊎_elim
      (λ e. let is = now m e in omega (arith, is))
      (λ other. let is = before m other in let less = are.low m (older given n m h other) in omega (arith, is, less))
      (cases_eq m n)

  apart : (m k : ℕ) → m ≡ n → k ≢ n → slice_index_or (slice_set given n true) k false ≡ true → slice_index_or (slice_set order n next) m 0 ≢ slice_index_or (slice_set order n next) k 0
  apart m k e other h same =
      let a = now m e in
      let b = before k other in
      let less = are.low k (older given n k h other) in
      omega (arith, a, b, less, same)

  its_different : (m k : ℕ) → slice_index_or (slice_set given n true) m false ≡ true → slice_index_or (slice_set given n true) k false ≡ true
      → slice_index_or (slice_set order n next) m 0 ≡ slice_index_or (slice_set order n next) k 0 → m ≡ k
  its_different m k h g same = ⊎_elim
      (λ e. ⊎_elim (λ d. e ∙ sym d) (λ other. absurd (apart m k e other g same)) (cases_eq k n))
      (λ other. ⊎_elim
      (λ d. absurd (apart k m d other h (sym same)))
      (λ also. are.different m k (older given n m h other) (older given n k g also) (sym (before m other) ∙ same ∙ before k also))
      (cases_eq k n))
      (cases_eq m n)

  pub one-given : AreGiven nodes (slice_set order n next) (slice_set given n true) (next + 1)
  one-given = record {
    long = length-set order n next ∙ are.long;
    marks = length-set given n true ∙ are.marks;
    count = set-one-more given n marked new ∙ ap (λ k. k + 1) are.count;
    low = its_low;
    different = its_different;
  }

-- where all nodes have a number
pub all-given : (nodes : ℕ) (order : List ℕ) (given : List Bool) (next : ℕ) → AreGiven nodes order given next → ((n : ℕ) → n < nodes → slice_index_or given n false ≡ true) → IsOrder nodes order
all-given nodes order given next are all =
    record {
      long = are.long;
      low = λ n low. let less = are.low n (all n low) in let most = set-most given in let count = are.count in let marks = are.marks in omega (arith, less, most, count, marks);
      different = λ m n low below same. are.different m n (all m (let long = are.long in omega (arith, low, long))) (all n (let long = are.long in omega (arith, below, long))) same;
    }
