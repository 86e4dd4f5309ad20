-- The join over one more edge.
use Rattle.std.proofs.Common.{◌≡◌, ℕ, zero, suc, ◌+◌, ◌<◌, Bool, cond, List, [], ◌∷◌, length, get_or, take, Vec, refl, sym, ap, ◌∙◌, arith, add-one}
use Rattle.std.specs.declared.alloc.Global.{Global}
use Rattle.sp_lattice.specs.Lattice.{Order}
use Rattle.sp_lattice.specs.System.{Meaning}
use Rattle.sp_lattice.specs.Dense.{joined, store_of, table_of}
use Rattle.sp_lattice.proofs.Stores.{table_of-get_or}
use Rattle.sp_dense.specs.inner.Visit.{IsStore, JoinsPassed}

module _ {V : Type 0} (o : Order V) where
  joined-take_suc : (pass : ℕ → Bool) (row : ℕ → V) (sum : V) (ps : List ℕ) (i d : ℕ) → i < length ps → joined o pass row sum (take (suc i) ps) ≡ cond (pass (get_or ps i d)) (o.join (joined o pass row sum (take i ps)) (row (get_or ps i d))) (joined o pass row sum (take i ps))
  joined-take_suc pass row sum [] i d low = absurd (omega arith)
  joined-take_suc pass row sum (p ∷ ps) zero d low = refl
  joined-take_suc pass row sum (p ∷ ps) (suc i) d low = joined-take_suc pass row (cond (pass p) (o.join sum (row p)) sum) ps i d (omega arith)

  -- a row joined over some edges, and then over the next one
  pub joined_one_more : (m : Meaning V) (rows : List (Vec V Global)) (n i d : ℕ) (other : Vec V Global) (edges : List ℕ) (before after : List V) → get_or edges i d < length rows → other ≡ get_or rows (get_or edges i d) other → i < length edges
      → IsStore o m before (λ k. joined o (λ p. m.passes p n k) (λ p. table_of o.bottom rows p k) o.bottom (take i edges))
      → JoinsPassed o m (get_or edges i d) n other.items before after
      → IsStore o m after (λ k. joined o (λ p. m.passes p n k) (λ p. table_of o.bottom rows p k) o.bottom (take (i + 1) edges))
  joined_one_more m rows n i d other edges before after there at low so_far joins = record {
    long = joins.long;
    values = λ k k_low. joins.values k k_low ∙ step k (so_far.values k k_low) (row_is k) ∙ sym (ap (λ j. sum_at k j) (add-one i) ∙ joined-take_suc (λ p. m.passes p n k) (λ p. table_of o.bottom rows p k) o.bottom edges i d low);
  }
    where
      sum_at : ℕ → ℕ → V
      sum_at k j = joined o (λ p. m.passes p n k) (λ p. table_of o.bottom rows p k) o.bottom (take j edges)

      row_is : (k : ℕ) → store_of o.bottom other.items k ≡ table_of o.bottom rows (get_or edges i d) k
      row_is k = ap (λ (row : Vec V Global). store_of o.bottom row.items k) at ∙ sym (table_of-get_or o.bottom rows (get_or edges i d) k other there)

      step : (k : ℕ) → store_of o.bottom before k ≡ sum_at k i → store_of o.bottom other.items k ≡ table_of o.bottom rows (get_or edges i d) k → cond (m.passes (get_or edges i d) n k) (o.join (store_of o.bottom before k) (store_of o.bottom other.items k)) (store_of o.bottom before k) ≡ cond (m.passes (get_or edges i d) n k) (o.join (sum_at k i) (table_of o.bottom rows (get_or edges i d) k)) (sum_at k i)
      step k e f = cc
