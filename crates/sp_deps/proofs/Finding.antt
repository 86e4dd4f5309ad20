-- The dependencies are found use by use, in the order of locations and of targets.
use Rattle.std.proofs.Common.{refl, zero, suc, replicate, ◌≡◌, ◌≢◌, ◌⊎◌, inl, inr, ℕ, ◌+◌, ◌<◌, ◌≤◌, Bool, true, ◌&&◌, ◌||◌, eqb, ltb, List, [], length, get_or, take, sym, ap, ◌∙◌, subst, arith, eqb-true}
use Rattle.std.specs.Prelude.{AllPairs}
use Rattle.std.proofs.lemmas.Bool.{false≢true}
use Rattle.std.proofs.lemmas.Bool.Decides.{nat_tests}
use Rattle.std.specs.List.{All, list_any}
use Rattle.std.proofs.lemmas.List.{length-replicate, take_all, get_or-take, get_or_default, length-take-le}
use Rattle.std.proofs.lemmas.List.Elements.{All-contains}
use Rattle.std.proofs.lemmas.List.Folds.{Any-from_list_any}
use Rattle.std.proofs.lemmas.Map.Views.{Contains-from_any}
use Rattle.sp_lattice.specs.Lattice.{Order}
use Rattle.sp_lattice.specs.System.{Meaning, IsSystem, has}
use Rattle.sp_lattice.specs.Dependency.{Depends}
use Rattle.sp_lattice.proofs.Paths.{Path-end}
use Rattle.sp_lattice.specs.Flat.{row_at}
use Rattle.sp_engine_keeping.specs.Triples.{AreWithin}
use Rattle.sp_deps.specs.Rows.{held, is_before, same_pair, total, Ascends}
use Rattle.sp_deps.specs.Answer.{AreDependencies}
use Rattle.sp_deps.specs.inner.Users.{AreUsers}
use Rattle.sp_deps.specs.inner.Walk.{IsFound}
use Rattle.sp_deps.specs.Cause.{IsCause}
use Rattle.sp_deps.specs.inner.Progress.{IsExcess, AreRows, AreBefore, AreSound, AreUpTo, GainsUse, is_done}
use Rattle.sp_deps.specs.declared.triples.DepError.{DepError}
use Rattle.sp_deps.specs.declared.triples.DepError.TheVariants.{TooMany, NoMemory}
use Rattle.sp_deps.proofs.Adding.{too_many}
use Rattle.sp_deps.proofs.Held.{held_at}
use Rattle.sp_deps.proofs.Lists.{which, eqb-refl, has-take_more, has-get_or}
use Rattle.sp_deps.proofs.Bools.{and-parts, and-both, or-cases, or-left, or-right}

-- what has been done, as cases and back
done_cases : (location : ℕ) (users : List ℕ) (l c : ℕ) → is_done location users l c ≡ true → (l < location) ⊎ ((l ≡ location) × (has c users ≡ true))
done_cases location users l c h = by (or-cases (ltb l location) (eqb l location && has c users) h)
  where
    by : (ltb l location ≡ true) ⊎ ((eqb l location && has c users) ≡ true) → (l < location) ⊎ ((l ≡ location) × (has c users ≡ true))
    by (inl k) = inl (grind (arith, nat_tests))
    by (inr k) = let parts = and-parts (eqb l location) (has c users) k in inr (eqb-true l location parts.0, parts.1)

done_less : (location : ℕ) (users : List ℕ) (l c : ℕ) → l < location → is_done location users l c ≡ true
done_less location users l c less = or-left (ltb l location) (eqb l location && has c users) (grind (arith, nat_tests))

done_here : (location : ℕ) (users : List ℕ) (l c : ℕ) → l ≡ location → has c users ≡ true → is_done location users l c ≡ true
done_here location users l c is h = or-right (ltb l location) (eqb l location && has c users) (and-both (eqb l location) (has c users) (ap (λ k. eqb k location) is ∙ eqb-refl location) h)

before_less : (l c location to : ℕ) → l < location → is_before (l, c) (location, to) ≡ true
before_less l c location to less = grind (arith, nat_tests)

before_here : (l c location to : ℕ) → l ≡ location → c < to → is_before (l, c) (location, to) ≡ true
before_here l c location to is less = grind (arith, nat_tests)

-- those before a place of an ascending list are less
less_before : (xs : List ℕ) (i d c : ℕ) → AllPairs (λ x y. x < y) xs → i < length xs → has c (take i xs) ≡ true → c < get_or xs i d
less_before xs i d c ascending low h =
    let any = Any-from_list_any (eqb c) (take i xs) h in
    let k_low : any.0 < i = omega (arith, any.2, length-take-le i xs (omega arith)) in
    let same : get_or xs any.0 d ≡ any.1 = get_or_default xs any.0 d any.1 (omega arith) ∙ sym (get_or-take i xs any.0 any.1 k_low) ∙ any.3 in
    let is : c ≡ any.1 = eqb-true c any.1 any.4 in
    let less = ascending any.0 i d k_low low in
    omega (arith, less, same, is)

module _ {V : Type 0} (m : Meaning V) where
  pub sound_upto : (rows : List (List (ℕ × ℕ))) (done : ℕ → ℕ → Bool) → AreUpTo m rows done → AreSound m rows
  sound_upto rows done upto b l c h = ((upto.exact b l c).0 h).0

  module _ (location : ℕ) (targets : List ℕ) (users : AreUsers m location targets) where
    is_user : (c : ℕ) → has c targets ≡ true → (c < m.nodes) × (has location (m.uses c) ≡ true)
    is_user c h = let parts = and-parts (ltb c m.nodes) (has location (m.uses c)) (sym (users.exact c) ∙ h) in (low c parts.0, parts.1)
      where
        low : (c : ℕ) → ltb c m.nodes ≡ true → c < m.nodes
        low c h = grind (arith, nat_tests)

    pub target_low : (i d : ℕ) → i < length targets → get_or targets i d < m.nodes
    target_low i d low = (is_user (get_or targets i d) (has-get_or targets i d low)).0

    pub target_uses : (i d : ℕ) → i < length targets → has location (m.uses (get_or targets i d)) ≡ true
    target_uses i d low = (is_user (get_or targets i d) (has-get_or targets i d low)).1

    pub before_target : (rows : List (List (ℕ × ℕ))) (i d : ℕ) → i < length targets → AreUpTo m rows (is_done location (take i targets)) → AreBefore rows location (get_or targets i d)
    before_target rows i d low upto b l c h = by (done_cases location (take i targets) l c ((upto.exact b l c).0 h).1)
      where
        by : (l < location) ⊎ ((l ≡ location) × (has c (take i targets) ≡ true)) → is_before (l, c) (location, get_or targets i d) ≡ true
        by (inl less) = before_less l c location (get_or targets i d) less
        by (inr at) = before_here l c location (get_or targets i d) at.0 (less_before targets i d c users.ascending low at.1)

    -- one use more
    pub upto_more : (rows after : List (List (ℕ × ℕ))) (i d : ℕ) → i < length targets → AreRows m.nodes after → GainsUse m rows after location (get_or targets i d) → AreUpTo m rows (is_done location (take i targets)) → AreUpTo m after (is_done location (take (i + 1) targets))
    upto_more rows after i d low kept gains upto = record {
      kept = kept;
      exact = λ b l c. (λ h. to_depends b l c (gains.sound b l c h), λ h. from_depends b l c h.0 (done_cases location (take (i + 1) targets) l c h.1));
    }
      where
        more : (c : ℕ) → has c (take (i + 1) targets) ≡ (has c (take i targets) || eqb c (get_or targets i d))
        more c = has-take_more c i d targets low

        still : (l c : ℕ) → (l < location) ⊎ ((l ≡ location) × (has c (take i targets) ≡ true)) → is_done location (take (i + 1) targets) l c ≡ true
        still l c (inl less) = done_less location (take (i + 1) targets) l c less
        still l c (inr at) = done_here location (take (i + 1) targets) l c at.0 (more c ∙ or-left (has c (take i targets)) (eqb c (get_or targets i d)) at.1)

        to_depends : (b l c : ℕ) → (held rows b l c ≡ true) ⊎ ((l ≡ location) × (c ≡ get_or targets i d) × Depends m b location (get_or targets i d)) → Depends m b l c × (is_done location (take (i + 1) targets) l c ≡ true)
        to_depends b l c (inl h) = let was = (upto.exact b l c).0 h in (was.0, still l c (done_cases location (take i targets) l c was.1))
        to_depends b l c (inr at) = (
          subst (λ j. Depends m b j c) (sym at.0) (subst (λ j. Depends m b location j) (sym at.1) at.2),
          done_here location (take (i + 1) targets) l c at.0 (more c ∙ or-right (has c (take i targets)) (eqb c (get_or targets i d)) (ap (λ k. eqb k (get_or targets i d)) at.1 ∙ eqb-refl (get_or targets i d))),
        )

        from_depends : (b l c : ℕ) → Depends m b l c → (l < location) ⊎ ((l ≡ location) × (has c (take (i + 1) targets) ≡ true)) → held after b l c ≡ true
        from_depends b l c depends (inl less) = gains.still b l c ((upto.exact b l c).1 (depends, done_less location (take i targets) l c less))
        from_depends b l c depends (inr at) = by (or-cases (has c (take i targets)) (eqb c (get_or targets i d)) (sym (more c) ∙ at.1))
          where
            by : (has c (take i targets) ≡ true) ⊎ (eqb c (get_or targets i d) ≡ true) → held after b l c ≡ true
            by (inl h) = gains.still b l c ((upto.exact b l c).1 (depends, done_here location (take i targets) l c at.0 h))
            by (inr e) =
                let is = eqb-true c (get_or targets i d) e in
                ap (λ k. held after b k c) at.0 ∙ ap (λ k. held after b location k) is ∙ gains.gained b (subst (λ k. Depends m b location k) is (subst (λ k. Depends m b k c) at.0 depends))

    -- all uses of the location
    pub upto_next : (rows : List (List (ℕ × ℕ))) (i : ℕ) → length targets ≤ i → AreUpTo m rows (is_done location (take i targets)) → AreUpTo m rows (is_done (location + 1) [])
    upto_next rows i all upto = record {
      kept = upto.kept;
      exact = λ b l c. (
        λ h. let was = (upto.exact b l c).0 h in (was.0, later l c (done_cases location (take i targets) l c was.1)),
        λ h. (upto.exact b l c).1 (h.0, earlier b l c h.0 (done_cases (location + 1) [] l c h.1)),
      );
    }
      where
        later : (l c : ℕ) → (l < location) ⊎ ((l ≡ location) × (has c (take i targets) ≡ true)) → is_done (location + 1) [] l c ≡ true
        later l c (inl less) = done_less (location + 1) [] l c (omega arith)
        later l c (inr at) = done_less (location + 1) [] l c (omega (arith, at.0))

        user : (b l c : ℕ) → Depends m b l c → l ≡ location → has c (take i targets) ≡ true
        user b l c depends is =
            ap (λ xs. has c xs) (take_all i targets all) ∙ users.exact c
            ∙ and-both (ltb c m.nodes) (has location (m.uses c)) (is_low c (Path-end depends.path)) (ap (λ k. has k (m.uses c)) (sym is) ∙ depends.used)
          where
            is_low : (c : ℕ) → c < m.nodes → ltb c m.nodes ≡ true
            is_low c h = grind (arith, nat_tests)

        earlier : (b l c : ℕ) → Depends m b l c → (l < location + 1) ⊎ ((l ≡ location + 1) × (has c [] ≡ true)) → is_done location (take i targets) l c ≡ true
        earlier b l c depends (inl less) = by (which l location)
          where
            by : (l ≡ location) ⊎ (l ≢ location) → is_done location (take i targets) l c ≡ true
            by (inl is) = done_here location (take i targets) l c is (user b l c depends is)
            by (inr apart) = done_less location (take i targets) l c (omega (arith, apart, less))
        earlier b l c depends (inr at) = absurd (false≢true at.1)

  -- before the first location there is none
  pub upto_none : AreUpTo m (replicate m.nodes []) (is_done 0 [])
  upto_none = record {
    kept = record {
      long = length-replicate m.nodes [];
      ascending = λ k d low. subst Ascends (sym (empty_row m.nodes k d (omega (arith, low, length-replicate {A = List (ℕ × ℕ)} m.nodes [])))) (λ i j e less j_low. absurd (omega (arith, j_low)));
      few = omega (arith, none_total m.nodes);
    };
    exact = λ b l c. (λ h. absurd (false≢true (sym (ap (λ xs. list_any (same_pair (l, c)) xs) (no_row m.nodes b)) ∙ h)), λ h. not_done l c (done_cases 0 [] l c h.1));
  }
    where
      empty_row : (n k : ℕ) (d : List (ℕ × ℕ)) → k < n → get_or (replicate n []) k d ≡ []
      empty_row zero k d low = absurd (omega arith)
      empty_row (suc n) zero d low = refl
      empty_row (suc n) (suc k) d low = empty_row n k d (omega (arith, low))

      no_row : (n k : ℕ) → row_at (replicate {A = List (ℕ × ℕ)} n []) k ≡ []
      no_row zero k = refl
      no_row (suc n) zero = refl
      no_row (suc n) (suc k) = no_row n k

      none_total : (n : ℕ) → total (replicate n []) ≡ 0
      none_total zero = refl
      none_total (suc n) = none_total n

      not_done : {A : Type 0} (l c : ℕ) → (l < 0) ⊎ ((l ≡ 0) × (has c [] ≡ true)) → A
      not_done l c (inl less) = absurd (omega (arith, less))
      not_done l c (inr at) = absurd (false≢true at.1)

  -- a location that is used is there
  pub use_low : (o : Order V) → IsSystem o m → (l c : ℕ) → c < m.nodes → has l (m.uses c) ≡ true → l < m.locations
  use_low o sys l c low h = All-contains (λ x. x < m.locations) (m.uses c) l (sys.uses_below c low) (Contains-from_any eqb-true l (m.uses c) h)

  -- all locations
  pub upto_all : (o : Order V) → IsSystem o m → (rows : List (List (ℕ × ℕ))) (location : ℕ) → m.locations ≤ location → AreUpTo m rows (is_done location []) → AreDependencies m rows
  upto_all o sys rows location all upto = record {
    nodes = upto.kept.long;
    ascending = upto.kept.ascending;
    exact = λ b l c. (
      λ h. ((upto.exact b l c).0 h).0,
      λ depends. (upto.exact b l c).1 (depends, done_less location [] l c (omega (arith, use_low o sys l c (Path-end depends.path) depends.used))),
    );
  }

  pub cause_from_excess : (location to : ℕ) → has location (m.uses to) ≡ true → (before : List (List (ℕ × ℕ))) (found : List ℕ) (error : DepError) → IsFound m location to found → AreSound m before → IsExcess before found location to error → IsCause m error
  cause_from_excess location to used before found (TooMany count) is_found sound h = (h.0, too_many m location to used before found is_found sound h.1)
  cause_from_excess location to used before found NoMemory is_found sound h = tt

-- the triples are of nodes and locations that are there
module _ {V : Type 0} (o : Order V) (m : Meaning V) (sys : IsSystem o m) (rows : List (List (ℕ × ℕ))) (done : ℕ → ℕ → Bool) (upto : AreUpTo m rows done) where
  within_at : (from : ℕ) → from < length rows → AreWithin m.locations (length rows) (row_at rows from)
  within_at from low k d k_low =
      let pair = get_or (row_at rows from) k d in
      let depends = ((upto.exact from pair.0 pair.1).0 (held_at rows from k d k_low)).0 in
      let below = sys.defs_below from (omega (arith, upto.kept.long)) in
      let to = Path-end depends.path in
      (All-contains (λ x. x < m.locations) (m.defs from) pair.0 below (Contains-from_any eqb-true pair.0 (m.defs from) depends.defined), omega (arith, to, upto.kept.long))

  pub within_upto : All (AreWithin m.locations (length rows)) rows
  within_upto from d low = subst (AreWithin m.locations (length rows)) (sym (get_or_default rows from d [] low)) (within_at from low)
