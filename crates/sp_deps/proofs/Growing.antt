-- The triples in the order in which they are found: one more of them, and what stands behind them after a failure.
use Rattle.std.proofs.Common.{◌≡◌, ◌<◌, ◌++◌, ◌∷◌, ◌∙◌, [], ℕ, List, length, take, All, true, sym, ap, subst, arith, replicate}
use Rattle.std.proofs.lemmas.List.{length_push, length-take-le, take_at, get_or-take}
use Rattle.std.proofs.lemmas.List.Elements.{All-push}
use Rattle.sp_lattice.specs.System.{AllBelow}
use Rattle.sp_lattice.specs.Flat.{row_at}
use Rattle.sp_deps.specs.Rows.{total, is_before, most_dependencies}
use Rattle.sp_deps.specs.inner.Grouped.{added, grouped}
use Rattle.sp_deps.specs.inner.Kept.{IsKept, IsGrowing}
use Rattle.sp_deps.proofs.Grouping.{grouped-push, gathered-take, length-grouped}
use Rattle.sp_deps.proofs.Held.{kept_added}

module _ (nodes : ℕ) (froms : List ℕ) (pairs : List (ℕ × ℕ)) (from : ℕ) (so_far : IsGrowing nodes froms pairs) (there : from < nodes) where
  -- the nodes of the pairs, and the new one
  abbrev more : List ℕ
  more = take (length pairs) froms ++ from ∷ []

  long : length (take (length pairs) froms) ≡ length pairs
  long = length-take-le (length pairs) froms so_far.paired

  low : AllBelow nodes more
  low = All-push (λ n. n < nodes) (take (length pairs) froms) from (λ k d k_low. subst (λ n. n < nodes) (sym (get_or-take (length pairs) froms k d (omega (arith, k_low, long)))) (so_far.low k d (omega (arith, k_low, long, so_far.paired)))) there

  -- where there was no room for the pair, the node behind the others counts for nothing
  pub same_failed : grouped nodes more pairs ≡ grouped nodes froms pairs
  same_failed =
      sym (gathered-take (replicate nodes []) more pairs)
      ∙ ap (λ ns. grouped nodes ns pairs) (take_at (take (length pairs) froms) (from ∷ []) (length pairs) long)
      ∙ gathered-take (replicate nodes []) froms pairs

  pub growing_failed : IsGrowing nodes more pairs
  growing_failed = record {
    low = low;
    paired = omega (arith, length_push (take (length pairs) froms) from, long);
    kept = subst (λ rows. IsKept rows (length pairs)) (sym same_failed) so_far.kept;
  }

  module _ (pair : ℕ × ℕ) where
    pub same_added : grouped nodes more (pairs ++ pair ∷ []) ≡ added (grouped nodes froms pairs) from pair
    same_added = grouped-push nodes (take (length pairs) froms) pairs from pair (sym long) ∙ ap (λ rows. added rows from pair) (gathered-take (replicate nodes []) froms pairs)

    pub growing_added : total (grouped nodes froms pairs) < most_dependencies → All (λ p. is_before p pair ≡ true) (row_at (grouped nodes froms pairs) from) → IsGrowing nodes more (pairs ++ pair ∷ [])
    growing_added room last = record {
      low = low;
      paired = omega (arith, length_push (take (length pairs) froms) from, length_push pairs pair, long);
      kept = subst (λ rows. IsKept rows (length (pairs ++ pair ∷ []))) (sym same_added)
          (subst (IsKept (added (grouped nodes froms pairs) from pair)) (sym (length_push pairs pair))
          (kept_added (grouped nodes froms pairs) from pair (length pairs) (omega (arith, there, length-grouped nodes froms pairs)) room last so_far.kept));
    }
