-- What comes to the rows when a use's triples are added, one by one.
use Rattle.std.proofs.Common.{◌≡◌, ◌⊎◌, inl, inr, ℕ, ◌+◌, ◌<◌, ◌≤◌, Bool, true, false, ◌&&◌, ◌||◌, eqb, List, [], ◌∷◌, ◌++◌, length, get_or, take, drop, All, refl, sym, ap, ◌∙◌, subst, arith, eqb-true, length-set}
use Rattle.std.specs.List.{IsDistinct}
use Rattle.std.proofs.lemmas.Bool.{false≢true}
use Rattle.std.proofs.lemmas.Bool.Decides.{nat_tests}
use Rattle.std.proofs.lemmas.List.{take-append-drop}
use Rattle.std.proofs.lemmas.List.Folds.{list_any-append}
use Rattle.sp_lattice.specs.System.{Meaning, has}
use Rattle.sp_lattice.specs.Dependency.{Depends}
use Rattle.sp_lattice.specs.Flat.{row_at}
use Rattle.sp_deps.specs.Rows.{held, total, is_before, Ascends, most_dependencies}
use Rattle.sp_deps.specs.inner.Grouped.{added}
use Rattle.sp_deps.specs.Answer.{HasTooMany}
use Rattle.sp_deps.specs.inner.Walk.{IsFound}
use Rattle.sp_deps.specs.inner.Progress.{AreRows, AreBefore, AreSound, Gains, Exceeds}
use Rattle.sp_deps.proofs.Lists.{has-take_more, distinct-new}
use Rattle.sp_deps.proofs.Held.{held_at, held-added, ascends-added, total-added}
use Rattle.sp_deps.proofs.Bools.{and-parts, or-cases, or-left}

-- ((h || t && s) || e && s) is (h || (t || e) && s)
spread : (h t e s : Bool) → ((h || t && s) || e && s) ≡ (h || (t || e) && s)
spread true t e s = refl
spread false true true true = refl
spread false true true false = refl
spread false true false true = refl
spread false true false false = refl
spread false false e s = refl

has-take : (b i : ℕ) (xs : List ℕ) → has b (take i xs) ≡ true → has b xs ≡ true
has-take b i xs h =
    ap (λ ys. has b ys) (sym (take-append-drop i xs)) ∙ list_any-append (eqb b) (take i xs) (drop i xs) ∙ or-left (has b (take i xs)) (has b (drop i xs)) h

-- a triple that came in is one of the use, from a node that passes the test
came : (b l c location to : ℕ) (t : Bool) → (t && (eqb l location && eqb c to)) ≡ true → (t ≡ true) × (l ≡ location) × (c ≡ to)
came b l c location to t h =
    let first = and-parts t (eqb l location && eqb c to) h in
    let second = and-parts (eqb l location) (eqb c to) first.1 in
    (first.0, eqb-true l location second.0, eqb-true c to second.1)

module _ {V : Type 0} (m : Meaning V) (location to : ℕ) (used : has location (m.uses to) ≡ true) where
  found_depends : (found : List ℕ) (b : ℕ) → IsFound m location to found → has b found ≡ true → Depends m b location to
  found_depends found b is_found h = let both = (is_found.exact b).0 h in record { defined = both.0; used = used; path = both.1 }

  -- triples that come from nodes that were found are dependencies
  pub sound_gained : (before after : List (List (ℕ × ℕ))) (found : List ℕ) (i : ℕ) → IsFound m location to found → Gains before after (λ b. has b (take i found)) location to → AreSound m before → AreSound m after
  sound_gained before after found i is_found gains sound b l c h =
      by (or-cases (held before b l c) (has b (take i found) && (eqb l location && eqb c to)) (sym (gains b l c) ∙ h))
    where
      by : (held before b l c ≡ true) ⊎ ((has b (take i found) && (eqb l location && eqb c to)) ≡ true) → Depends m b l c
      by (inl k) = sound b l c k
      by (inr k) =
          let at = came b l c location to (has b (take i found)) k in
          subst (λ j. Depends m b j c) (sym at.1) (subst (λ j. Depends m b location j) (sym at.2) (found_depends found b is_found (has-take b i found at.0)))

  -- triples that are too many, where those before are dependencies
  pub too_many : (before : List (List (ℕ × ℕ))) (found : List ℕ) → IsFound m location to found → AreSound m before → Exceeds before found location to → HasTooMany m
  too_many before found is_found sound exceeds = record {
    rows = exceeds.rows;
    ascending = exceeds.ascending;
    sound = sound_gained before exceeds.rows found exceeds.front is_found exceeds.gains sound;
    count = exceeds.count;
  }

pub room_left : (count : ℕ) → count ≤ most_dependencies → eqb count most_dependencies ≡ false → count < most_dependencies
room_left count few h = grind (arith, nat_tests)

-- one triple more
module _ (before now : List (List (ℕ × ℕ))) (found : List ℕ) (i d location to : ℕ) (low : i < length found) (once : IsDistinct eqb found) (rows : AreRows (length before) now) (earlier : AreBefore before location to)
    (so_far : Gains before now (λ b. has b (take i found)) location to) (there : get_or found i d < length before) where
  -- all that leaves the next node comes before the new pair
  earlier_at : (l c : ℕ) → held now (get_or found i d) l c ≡ true → is_before (l, c) (location, to) ≡ true
  earlier_at l c h = by (or-cases (held before (get_or found i d) l c) (has (get_or found i d) (take i found) && (eqb l location && eqb c to)) (sym (so_far (get_or found i d) l c) ∙ h))
    where
      by : (held before (get_or found i d) l c ≡ true) ⊎ ((has (get_or found i d) (take i found) && (eqb l location && eqb c to)) ≡ true) → is_before (l, c) (location, to) ≡ true
      by (inl k) = earlier (get_or found i d) l c k
      by (inr k) = absurd (false≢true (sym (distinct-new found i d once low) ∙ (and-parts (has (get_or found i d) (take i found)) (eqb l location && eqb c to) k).0))

  pub last : All (λ p. is_before p (location, to) ≡ true) (row_at now (get_or found i d))
  last k e k_low = let pair = get_or (row_at now (get_or found i d)) k e in earlier_at pair.0 pair.1 (held_at now (get_or found i d) k e k_low)

  pub row_there : get_or found i d < length now
  row_there = omega (arith, rows.long, there)

  gains_more : Gains before (added now (get_or found i d) (location, to)) (λ b. has b (take (i + 1) found)) location to
  gains_more b l c =
      held-added now (get_or found i d) (location, to) row_there b l c ∙ ap (λ t. t || eqb b (get_or found i d) && (eqb l location && eqb c to)) (so_far b l c)
      ∙ spread (held before b l c) (has b (take i found)) (eqb b (get_or found i d)) (eqb l location && eqb c to)
      ∙ ap (λ t. held before b l c || t && (eqb l location && eqb c to)) (sym (has-take_more b i d found low))

  -- the rows with the new triple
  pub gained : (after : List (List (ℕ × ℕ))) → after ≡ added now (get_or found i d) (location, to) → Gains before after (λ b. has b (take (i + 1) found)) location to
  gained after is b l c = ap (λ rs. held rs b l c) is ∙ gains_more b l c

  pub rows_more : (after : List (List (ℕ × ℕ))) → after ≡ added now (get_or found i d) (location, to) → total now < most_dependencies → AreRows (length before) after
  rows_more after is room = record {
    long = ap length is ∙ length-set now (get_or found i d) (row_at now (get_or found i d) ++ (location, to) ∷ []) ∙ rows.long;
    ascending = subst (λ rs. All Ascends rs) (sym is) (ascends-added now (get_or found i d) (location, to) row_there rows.ascending last);
    few = omega (arith, ap total is, total-added now (get_or found i d) (location, to) row_there);
  }

  -- where there is no room, the triples with the new one are too many
  pub exceeds : total now ≡ most_dependencies → Exceeds before found location to
  exceeds full = record {
    rows = added now (get_or found i d) (location, to);
    ascending = ascends-added now (get_or found i d) (location, to) row_there rows.ascending last;
    front = i + 1;
    gains = gains_more;
    count = total-added now (get_or found i d) (location, to) row_there ∙ ap (λ n. n + 1) full;
  }
