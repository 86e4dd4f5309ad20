-- Edges in groups by the places from which they lead.
use Rattle.std.proofs.Common.{◌≡◌, ◌≢◌, ◌⊎◌, inl, inr, ℕ, ◌+◌, ◌<◌, ◌≤◌, true, false, cond, nat_eq, List, [], ◌∷◌, ◌++◌, length, take, get_or, set, replicate, refl, sym, ap, ◌∙◌, subst, arith, get_or-set_same, get_or-set_other}
use Rattle.std.specs.List.Sorted.{IsStrictlyIncreasing}
use Rattle.std.proofs.lemmas.Bool.{false≢true}
use Rattle.std.proofs.lemmas.List.{append-nil, length-replicate, get_or-replicate}
use Rattle.std.proofs.lemmas.List.Elements.{filter_more}
use Rattle.std.proofs.lemmas.List.Kept.{AllPairs-from_increasing}
use Rattle.sp_base_sets.specs.Sets.{has}
use Rattle.sp_base_sets.proofs.Members.{has_there}
use Rattle.sp_graph.specs.declared.edge.Edge.{Edge}
use Rattle.sp_effect_rows.proofs.Numbers.{which, side, same_number, apart_numbers}
use Rattle.sp_defuse.specs.Sources.{number_at, edges_from, AreGroups}

distinct : (xs : List ℕ) → IsStrictlyIncreasing xs → (i j : ℕ) → i < length xs → j < length xs → i ≢ j → get_or xs i 0 ≢ get_or xs j 0
distinct xs rises i j i_low j_low apart = by (side i j)
  where
    by : (i < j) ⊎ (j ≤ i) → get_or xs i 0 ≢ get_or xs j 0
    by (inl less) = λ e. omega (arith, e, AllPairs-from_increasing xs rises i j 0 less j_low)
    by (inr more) = λ e. omega (arith, e, AllPairs-from_increasing xs rises j i 0 (grind (arith, more, apart)) i_low)

-- a group, and an edge where it leads from a node
abbrev with : List Edge → Edge → ℕ → List Edge
with xs e number = xs ++ cond (nat_eq e.from number) (e ∷ []) []

kept : (xs : List Edge) (e : Edge) (number : ℕ) → nat_eq e.from number ≡ false → xs ≡ with xs e number
kept xs e number h = sym (ap (λ b. xs ++ cond b (e ∷ []) []) h ∙ append-nil xs)

module _ (nodes places : List ℕ) (rises : IsStrictlyIncreasing nodes) (climbs : IsStrictlyIncreasing places) (low : (j : ℕ) → has j places ≡ true → j < length nodes) (groups : List (List Edge)) (e : Edge) where
  place-low : (i : ℕ) → i < length places → get_or places i 0 < length nodes
  place-low i i_low = low (get_or places i 0) (has_there places (get_or places i 0) i i_low refl)

  pub group-pushed : (at p : ℕ) (new : List Edge) → length groups ≡ length places → at < length places → get_or places at 0 ≡ p → p < length nodes → get_or nodes p 0 ≡ e.from → new ≡ get_or groups at [] ++ e ∷ []
      → (i : ℕ) → i < length places → get_or (set groups at new) i [] ≡ with (get_or groups i []) e (number_at nodes (get_or places i 0))
  group-pushed at p new long at_low at_is p_low from_is new_is i i_low = by (which i at)
    where
      here : nat_eq e.from (number_at nodes (get_or places at 0)) ≡ true
      here = ap (λ n. nat_eq e.from n) (ap (number_at nodes) at_is ∙ from_is) ∙ same_number e.from

      elsewhere : i ≢ at → e.from ≢ number_at nodes (get_or places i 0)
      elsewhere apart h = distinct nodes rises (get_or places i 0) (get_or places at 0) (place-low i i_low) (place-low at at_low) (distinct places climbs i at i_low at_low apart)
          (sym h ∙ sym (ap (number_at nodes) at_is ∙ from_is))

      by : (i ≡ at) ⊎ (i ≢ at) → get_or (set groups at new) i [] ≡ with (get_or groups i []) e (number_at nodes (get_or places i 0))
      by (inl same) = subst (λ k. get_or (set groups at new) k [] ≡ with (get_or groups k []) e (number_at nodes (get_or places k 0))) (sym same)
          (get_or-set_same groups at new [] (omega (arith, at_low, long)) ∙ new_is ∙ ap (λ b. get_or groups at [] ++ cond b (e ∷ []) []) (sym here))
      by (inr apart) = get_or-set_other groups at i new [] apart ∙ kept (get_or groups i []) e (number_at nodes (get_or places i 0)) (apart_numbers e.from (number_at nodes (get_or places i 0)) (elsewhere apart))

  -- an edge from a node that isn't in the list, or at no place of these, comes to no group
  pub group-absent : has e.from nodes ≡ false → (i : ℕ) → i < length places → get_or groups i [] ≡ with (get_or groups i []) e (number_at nodes (get_or places i 0))
  group-absent absent i i_low = kept (get_or groups i []) e (number_at nodes (get_or places i 0)) (apart_numbers e.from (number_at nodes (get_or places i 0))
      (λ h. false≢true (sym absent ∙ has_there nodes e.from (get_or places i 0) (place-low i i_low) (sym h))))

  pub group-unlisted : (p : ℕ) → p < length nodes → get_or nodes p 0 ≡ e.from → has p places ≡ false → (i : ℕ) → i < length places → get_or groups i [] ≡ with (get_or groups i []) e (number_at nodes (get_or places i 0))
  group-unlisted p p_low from_is absent i i_low = kept (get_or groups i []) e (number_at nodes (get_or places i 0)) (apart_numbers e.from (number_at nodes (get_or places i 0)) (λ h. by h (which (get_or places i 0) p)))
    where
      by : e.from ≡ number_at nodes (get_or places i 0) → (get_or places i 0 ≡ p) ⊎ (get_or places i 0 ≢ p) → ⊥
      by h (inl same) = false≢true (sym absent ∙ has_there places p i i_low same)
      by h (inr apart) = distinct nodes rises (get_or places i 0) p (place-low i i_low) p_low apart (sym h ∙ sym from_is)

-- ---- all edges

pub groups-begun : (nodes places : List ℕ) (n : ℕ) (groups : List (List Edge)) → n ≡ length places → groups ≡ replicate n [] → AreGroups nodes places [] groups
groups-begun nodes places n groups many empty = record {
  long = ap length empty ∙ length-replicate n [] ∙ many;
  each = λ i low. ap (λ gs. get_or gs i []) empty ∙ get_or-replicate n i [] [] (omega (arith, low, many));
}

pub groups-more : (nodes seen places : List ℕ) (edges : List Edge) (i : ℕ) (d : Edge) (old new : List (List Edge)) → seen ≡ nodes → i < length edges → AreGroups nodes places (take i edges) old → length new ≡ length old
    → ((k : ℕ) → k < length places → get_or new k [] ≡ with (get_or old k []) (get_or edges i d) (number_at seen (get_or places k 0))) → AreGroups nodes places (take (i + 1) edges) new
groups-more nodes seen places edges i d old new same low so_far long each = record {
  long = long ∙ so_far.long;
  each = λ k k_low. each k k_low
      ∙ ap (λ xs. with xs (get_or edges i d) (number_at seen (get_or places k 0))) (so_far.each k k_low)
      ∙ ap (λ ns. with (edges_from (number_at nodes (get_or places k 0)) (take i edges)) (get_or edges i d) (number_at ns (get_or places k 0))) same
      ∙ sym (filter_more (λ (e : Edge). nat_eq e.from (number_at nodes (get_or places k 0))) edges i d low);
}
