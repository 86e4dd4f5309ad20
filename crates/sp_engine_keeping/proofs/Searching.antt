-- A search in an ascending row finds a pair exactly where the row has it.
use Rattle.std.proofs.Common.{◌≡◌, ◌≢◌, ◌⊎◌, inl, inr, ℕ, ◌<◌, ◌≤◌, true, false, ◌&&◌, ◌||◌, eqb, ltb, List, length, get_or, Ok, Err, is_ok, sym, ap, arith}
use Rattle.std.specs.Prelude.{Result}
use Rattle.std.specs.List.{list_any}
use Rattle.std.specs.List.Sorted.{IsBinarySearchResult, IsNonDecreasingBy, IsPartitionPoint, IsSearchInRange}
use Rattle.std.specs.Ordering.{nat_cmp, ordering_then, ordering_index}
use Rattle.std.specs.declared.cmp.Ordering.{Ordering}
use Rattle.std.specs.declared.cmp.Ordering.TheVariants.{Less, Equal, Greater}
use Rattle.std.proofs.lemmas.Bool.Decides.{nat_tests}
use Rattle.std.proofs.lemmas.List.Folds.{list_any_at, list_any_none}
use Rattle.sp_engine_keeping.specs.Triples.{same_pair, Ascends}

which : (k n : ℕ) → (k ≡ n) ⊎ (k ≢ n)
which k n = grind arith

below : (k n : ℕ) → (k < n) ⊎ (n ≤ k)
below k n = grind arith

abbrev pair_cmp : ℕ × ℕ → ℕ × ℕ → Ordering
pair_cmp p q = ordering_then (nat_cmp p.0 q.0) (nat_cmp p.1 q.1)

same_from_equal : (a b c d : ℕ) → pair_cmp (a, b) (c, d) ≡ Equal → (eqb c a && eqb d b) ≡ true
same_from_equal a b c d h = grind (arith, nat_tests)

apart_from_less : (a b c d : ℕ) → pair_cmp (a, b) (c, d) ≡ Less → (eqb c a && eqb d b) ≡ false
apart_from_less a b c d h = grind (arith, nat_tests)

apart_from_greater : (a b c d : ℕ) → pair_cmp (a, b) (c, d) ≡ Greater → (eqb c a && eqb d b) ≡ false
apart_from_greater a b c d h = grind (arith, nat_tests)

index_rises : (a b c d e f : ℕ) → (ltb a c || eqb a c && ltb b d) ≡ true → ordering_index (pair_cmp (a, b) (e, f)) ≤ ordering_index (pair_cmp (c, d) (e, f))
index_rises a b c d e f h = grind (arith, nat_tests)

module _ (xs : List (ℕ × ℕ)) (x : ℕ × ℕ) (ascending : Ascends xs) where
  no_falls : IsNonDecreasingBy (λ y. ordering_index (pair_cmp y x)) xs
  no_falls i j d le low = by (which i j)
    where
      by : (i ≡ j) ⊎ (i ≢ j) → ordering_index (pair_cmp (get_or xs i d) x) ≤ ordering_index (pair_cmp (get_or xs j d) x)
      by (inl e) = omega (arith, ap (λ k. ordering_index (pair_cmp (get_or xs k d) x)) e)
      by (inr apart) =
          let p = get_or xs i d in
          let q = get_or xs j d in
          index_rises p.0 p.1 q.0 q.1 x.0 x.1 (ascending i j d (omega (arith, apart)) low)

  pub pair_searched : (r : Result ℕ ℕ) → IsSearchInRange r (length xs) → IsBinarySearchResult (λ y. pair_cmp y x) xs r → is_ok r ≡ list_any (same_pair x) xs
  pair_searched (Ok i) low found =
      let p = get_or xs i x in
      sym (list_any_at (same_pair x) xs i x low (same_from_equal p.0 p.1 x.0 x.1 (found x)))
  pair_searched (Err i) low found = sym (list_any_none (same_pair x) xs (λ k d k_low. at k d k_low (below k i)))
    where
      point : IsPartitionPoint (λ y. pair_cmp y x ≡ Less) (λ y. pair_cmp y x ≡ Greater) xs i
      point = found no_falls

      at : (k : ℕ) (d : ℕ × ℕ) → k < length xs → (k < i) ⊎ (i ≤ k) → same_pair x (get_or xs k d) ≡ false
      at k d k_low (inl less) = let p = get_or xs k d in apart_from_less p.0 p.1 x.0 x.1 (point.0 k d (omega arith) less)
      at k d k_low (inr le) = let p = get_or xs k d in apart_from_greater p.0 p.1 x.0 x.1 (point.1 k d le k_low)
