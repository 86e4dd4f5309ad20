-- Rows of links are laid, one for each definition, node by node.
use Rattle.std.proofs.Common.{◌≡◌, ◌⊎◌, inl, inr, ℕ, zero, suc, ◌+◌, ◌<◌, Bool, true, List, [], ◌∷◌, ◌++◌, length, get_or, sym, ap, ◌∙◌, subst, arith, length-append}
use Rattle.std.specs.List.{list_any}
use Rattle.sp_lattice.specs.Flat.{row_at}
use Rattle.sp_lattice.specs.System.{Meaning, has}
use Rattle.sp_lattice.specs.Dependency.{Depends, IsDependencies}
use Rattle.sp_lattice.specs.Bound.{sum_below}
use Rattle.sp_lattice.proofs.Paths.{Path-end}
use Rattle.sp_lattice.proofs.Ranks.{sum_below-same}
use Rattle.sp_deps.specs.Rows.{held, same_pair}
use Rattle.sp_sparse.specs.inner.Grid.{IsListGrid}
use Rattle.sp_sparse.specs.inner.Links.{AreLinks, UsedAt, definitions_before}
use Rattle.sp_sparse.proofs.Numbers.{below_next}
use Rattle.sp_sparse.proofs.GridLaws.{row_at-push_last, row_at-push_other}
use Rattle.sp_sparse.proofs.Linking.{found_at}

module _ {V : Type 0} (m : Meaning V) where
  pub before_next : (n : ℕ) → definitions_before m (n + 1) ≡ definitions_before m n + length (m.defs n)
  before_next n = ap (definitions_before m) (next n)
    where
      next : (k : ℕ) → k + 1 ≡ suc k
      next k = omega arith

  -- a definition's row comes before those of the later nodes
  pub before_later : (n k p : ℕ) → n < k → p < length (m.defs n) → definitions_before m n + p < definitions_before m k
  before_later n zero p less low = absurd (omega arith)
  before_later n (suc k) p less low = by (near n k less) (λ h. before_later n k p h low)
    where
      near : (a b : ℕ) → a < suc b → (a < b) ⊎ (a ≡ b)
      near a b h = grind arith

      by : (n < k) ⊎ (n ≡ k) → (n < k → definitions_before m n + p < definitions_before m k) → definitions_before m n + p < definitions_before m k + length (m.defs k)
      by (inl h) more = omega (arith, more h)
      by (inr e) more = omega (arith, low, ap (definitions_before m) e, ap (λ j. length (m.defs j)) e)

  -- a row of outputs begins at its node's first definition
  pub before_first : (rows : List (List V)) (n : ℕ) → IsListGrid m.nodes m.defs rows → n < m.nodes + 1 → sum_below n (λ k. length (row_at rows k)) ≡ definitions_before m n
  before_first rows n grid low = sum_below-same n (λ k. length (row_at rows k)) (λ k. length (m.defs k)) (λ k k_low. grid.rows_long k (omega (arith, low, k_low)))

  module _ (test : ℕ → ℕ → ℕ → Bool) where
    -- the rows of the nodes before one, and of some of its definitions
    pub record IsLaying (rows : List (List (ℕ × ℕ))) (node count : ℕ) : Type 0 where
      pub long : length rows ≡ definitions_before m node + count
      pub each : (n p : ℕ) → n < node → p < length (m.defs n) → AreLinks m test n (get_or (m.defs n) p 0) (row_at rows (definitions_before m n + p))
      pub here : (p : ℕ) → p < count → AreLinks m test node (get_or (m.defs node) p 0) (row_at rows (definitions_before m node + p))

    pub laying_more : (rows later : List (List (ℕ × ℕ))) (row : List (ℕ × ℕ)) (node count : ℕ) → later ≡ rows ++ row ∷ [] → AreLinks m test node (get_or (m.defs node) count 0) row → IsLaying rows node count → IsLaying later node (count + 1)
    laying_more rows later row node count is links so_far = record {
      long = omega (arith, ap length is, length-append rows (row ∷ []), so_far.long);
      each = λ n p low p_low. subst (AreLinks m test n (get_or (m.defs n) p 0)) (sym (old (definitions_before m n + p) (omega (arith, before_later n node p low p_low, so_far.long)))) (so_far.each n p low p_low);
      here = λ p low. by p (below_next p count low);
    }
      where
        old : (k : ℕ) → k < length rows → row_at later k ≡ row_at rows k
        old k low = ap (λ rs. row_at rs k) is ∙ row_at-push_other rows row k low

        by : (p : ℕ) → (p < count) ⊎ (p ≡ count) → AreLinks m test node (get_or (m.defs node) p 0) (row_at later (definitions_before m node + p))
        by p (inl less) = subst (AreLinks m test node (get_or (m.defs node) p 0)) (sym (old (definitions_before m node + p) (omega (arith, less, so_far.long)))) (so_far.here p less)
        by p (inr same) =
            subst (λ q. AreLinks m test node (get_or (m.defs node) q 0) (row_at later (definitions_before m node + q))) (sym same)
            (subst (AreLinks m test node (get_or (m.defs node) count 0)) (sym (ap (λ rs. row_at rs (definitions_before m node + count)) is ∙ ap (λ k. row_at (rows ++ row ∷ []) k) (sym so_far.long) ∙ row_at-push_last rows row)) links)

    pub laying_next : (rows : List (List (ℕ × ℕ))) (node count : ℕ) → count ≡ length (m.defs node) → IsLaying rows node count → IsLaying rows (node + 1) 0
    laying_next rows node count is so_far = record {
      long = omega (arith, so_far.long, before_next node, is);
      each = λ n p low p_low. by n p p_low (below_next n node low);
      here = λ p low. absurd (omega arith);
    }
      where
        by : (n p : ℕ) → p < length (m.defs n) → (n < node) ⊎ (n ≡ node) → AreLinks m test n (get_or (m.defs n) p 0) (row_at rows (definitions_before m n + p))
        by n p p_low (inl less) = so_far.each n p less p_low
        by n p p_low (inr same) = subst (λ k. AreLinks m test k (get_or (m.defs k) p 0) (row_at rows (definitions_before m k + p))) (sym same) (so_far.here p (omega (arith, p_low, ap (λ k. length (m.defs k)) same, is)))

  module _ (rows : List (List (ℕ × ℕ))) (node : ℕ) (pairs : List (ℕ × ℕ)) (are : pairs ≡ row_at rows node) where
    -- the pairs that leave a node are its dependencies
    pub pairs_used : IsDependencies m (held rows) → UsedAt m pairs
    pairs_used exact k d low = by ((exact node (get_or pairs k d).0 (get_or pairs k d).1).0 (ap (λ ps. list_any (same_pair (get_or pairs k d)) ps) (sym are) ∙ found_at pairs k d low))
      where
        by : Depends m node (get_or pairs k d).0 (get_or pairs k d).1 → ((get_or pairs k d).1 < m.nodes) × (has (get_or pairs k d).0 (m.uses (get_or pairs k d).1) ≡ true)
        by depends = (Path-end depends.path, depends.used)

    pub links_held : (l : ℕ) (links : List (ℕ × ℕ)) → AreLinks m (λ _ j to. list_any (same_pair (j, to)) pairs) 0 l links → AreLinks m (held rows) node l links
    links_held l links told = record {
      each = λ k d low. record {
        depends = ap (λ ps. list_any (same_pair (l, (get_or links k d).0)) ps) (sym are) ∙ (told.each k d low).depends;
        within = (told.each k d low).within;
        there = (told.each k d low).there;
      };
      all = λ to h. told.all to (ap (λ ps. list_any (same_pair (l, to)) ps) are ∙ h);
    }
