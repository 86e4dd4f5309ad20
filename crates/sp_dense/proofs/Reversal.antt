-- The lists of successors, while they are made.
use Rattle.std.proofs.Common.{◌≡◌, ◌≢◌, ◌⊎◌, inl, inr, ℕ, ◌+◌, ◌<◌, ◌≤◌, true, List, [], ◌∷◌, ◌++◌, length, get_or, set, take, Vec, sym, ap, ◌∙◌, subst, arith, length-set}
use Rattle.std.specs.declared.alloc.Global.{Global}
use Rattle.sp_lattice.specs.System.{Meaning, AllBelow, has}
use Rattle.sp_lattice.specs.Flat.{vector_at}
use Rattle.sp_dense.specs.inner.Visit.{HasSuccessors}
use Rattle.sp_dense.proofs.Grids.{vector_at-get_or, vector_at-set_same, vector_at-set_other}
use Rattle.sp_dense.proofs.Queue.{has-left, has-last, has-take_more, below-push}

-- the lists have the edges into the nodes below i, and of those into i these
pub record Reversing {V : Type 0} (m : Meaning V) (lists : List (Vec ℕ Global)) (i : ℕ) (edges : List ℕ) : Type 0 where
  pub long : length lists ≡ m.nodes
  pub low : (n : ℕ) → n < m.nodes → AllBelow m.nodes (vector_at lists n)
  pub all : (n k : ℕ) → k < i → has n (m.into k) ≡ true → has k (vector_at lists n) ≡ true
  pub now : (n : ℕ) → has n edges ≡ true → has i (vector_at lists n) ≡ true

module _ {V : Type 0} (m : Meaning V) where
  which : (k n : ℕ) → (k ≡ n) ⊎ (k ≢ n)
  which k n = grind arith

  -- one more edge into i
  pub reversing_more : (lists : List (Vec ℕ Global)) (list new : Vec ℕ Global) (edges : List ℕ) (i j d : ℕ) → i < m.nodes → j < length edges → get_or edges j d < m.nodes → list ≡ get_or lists (get_or edges j d) list → new.items ≡ list.items ++ i ∷ [] → Reversing m lists i (take j edges) → Reversing m (set lists (get_or edges j d) new) i (take (j + 1) edges)
  reversing_more lists list new edges i j d low j_low from_low at is so_far = record {
    long = length-set lists from new ∙ so_far.long;
    low = λ n n_low. by_row (AllBelow m.nodes) n (which n from) (below-push m.nodes i (vector_at lists from) (so_far.low from from_low) low) (so_far.low n n_low);
    all = λ n k k_low h. kept n k (so_far.all n k k_low h);
    now = λ n h. last n (has-take_more n j d edges j_low h);
  }
    where
      from : ℕ
      from = get_or edges j d

      there : vector_at (set lists from new) from ≡ vector_at lists from ++ i ∷ []
      there =
          vector_at-set_same lists from new (omega (arith, so_far.long, from_low)) ∙ is
          ∙ ap (λ xs. xs ++ i ∷ []) (ap (λ (l : Vec ℕ Global). l.items) at ∙ sym (vector_at-get_or lists from list (omega (arith, so_far.long, from_low))))

      by_row : (P : List ℕ → Type 0) (n : ℕ) → (n ≡ from) ⊎ (n ≢ from) → P (vector_at lists from ++ i ∷ []) → P (vector_at lists n) → P (vector_at (set lists from new) n)
      by_row P n (inl same) here other = subst (λ k. P (vector_at (set lists from new) k)) (sym same) (subst P (sym there) here)
      by_row P n (inr apart) here other = subst P (sym (vector_at-set_other lists from n new apart)) other

      kept : (n k : ℕ) → has k (vector_at lists n) ≡ true → has k (vector_at (set lists from new) n) ≡ true
      kept n k h = at_row (which n from)
        where
          at_row : (n ≡ from) ⊎ (n ≢ from) → has k (vector_at (set lists from new) n) ≡ true
          at_row (inl same) = ap (λ l. has k (vector_at (set lists from new) l)) same ∙ ap (λ xs. has k xs) there ∙ has-left k (vector_at lists from) (i ∷ []) (ap (λ l. has k (vector_at lists l)) (sym same) ∙ h)
          at_row (inr apart) = ap (λ xs. has k xs) (vector_at-set_other lists from n new apart) ∙ h

      last : (n : ℕ) → (has n (take j edges) ≡ true) ⊎ (n ≡ from) → has i (vector_at (set lists from new) n) ≡ true
      last n (inl h) = kept n i (so_far.now n h)
      last n (inr same) = ap (λ l. has i (vector_at (set lists from new) l)) same ∙ ap (λ xs. has i xs) there ∙ has-last i (vector_at lists from)

  below : (k i : ℕ) → k < i + 1 → (k < i) ⊎ (k ≡ i)
  below k i h = grind arith

  pub reversed : (lists : List (Vec ℕ Global)) (i : ℕ) → m.nodes ≤ i → Reversing m lists i [] → HasSuccessors m lists
  reversed lists i past done = record { long = done.long; low = done.low; all = λ n k low h. done.all n k (omega (arith, past, low)) h }
