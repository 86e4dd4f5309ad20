-- Evaluations are paid: each node's first, and then one wherever an input of it rises in rank.
use Rattle.std.proofs.Common.{◌≡◌, ◌≢◌, ◌⊎◌, inl, inr, ℕ, ◌+◌, ◌-◌, ◌*◌, ◌<◌, ◌≤◌, Bool, true, false, not, cond, List, refl, sym, ap, ◌∙◌, subst, arith}
use Rattle.std.proofs.Math.Nat.{mul-le-mul_left}
use Rattle.std.proofs.lemmas.Bool.{false≢true}
use Rattle.sp_lattice.specs.Lattice.{Order, IsLattice}
use Rattle.sp_lattice.specs.System.{Meaning, IsSystem, Held, has}
use Rattle.sp_lattice.specs.Dense.{Table}
use Rattle.sp_lattice.specs.Bound.{sum_below, dependencies_into, most_evaluations, all_evaluations}
use Rattle.sp_lattice.proofs.Ranks.{rank_le, sum_below-le, sum_below-lt}
use Rattle.sp_sparse.specs.inner.Engine.{IsWorking, Raises, risen, IsPaid}
use Rattle.sp_sparse.specs.inner.Queue.{Removes}
use Rattle.sp_lattice.proofs.Chains.{all_or_some}
use Rattle.sp_sparse.proofs.Summing.{sum_by-mono, sum_by-lt, sum_by-times, sum_below-term}
use Rattle.sp_sparse.proofs.Numbers.{which}
use Rattle.sp_sparse.proofs.Working.{use_below}

one : (b : Bool) → cond {A = ℕ} b 1 0 ≤ 1
one true = omega arith
one false = omega arith

-- what letting one node wait does to the list, where it is let
pub record Lets (before after : List ℕ) (n : ℕ) (grew : Bool) : Type 0 where
  pub waits : grew ≡ true → has n after ≡ true
  pub quiet : grew ≡ false → has n after ≡ has n before
  pub others : (k : ℕ) → k ≢ n → has k after ≡ has k before

module _ {V : Type 0} (o : Order V) (m : Meaning V) (laws : IsLattice o) (sys : IsSystem o m) where
  -- the evaluation for which a node waited is done
  pub paid_evaluated : (ins : Table V) (waiting rest : List ℕ) (counts after : ℕ → ℕ) (n : ℕ) → has n waiting ≡ true → Removes waiting rest n → after n ≡ counts n + 1 → ((k : ℕ) → k ≢ n → after k ≡ counts k) → IsPaid o m ins waiting counts → IsPaid o m ins rest after
  paid_evaluated ins waiting rest counts after n there removes here others paid k low = by (which k n)
    where
      at_n : n < m.nodes → after n + cond (has n rest) 1 0 ≤ 1 + risen o m ins n
      at_n n_low =
          let waited : cond {A = ℕ} (has n waiting) 1 0 ≡ 1 = ap (λ b. cond b 1 0) there in
          let gone : cond {A = ℕ} (has n rest) 1 0 ≡ 0 = ap (λ b. cond b 1 0) removes.gone in
          omega (arith, paid n n_low, waited, gone, here)

      by : (k ≡ n) ⊎ (k ≢ n) → after k + cond (has k rest) 1 0 ≤ 1 + risen o m ins k
      by (inl e) = subst (λ i. after i + cond (has i rest) 1 0 ≤ 1 + risen o m ins i) (sym e) (at_n (subst (λ i. i < m.nodes) e low))
      by (inr e) =
          let same : cond {A = ℕ} (has k rest) 1 0 ≡ cond (has k waiting) 1 0 = ap (λ b. cond b 1 0) (removes.others k e) in
          omega (arith, paid k low, same, others k e)

  module _ (ins after : Table V) (held : (n : ℕ) → n < m.nodes → Held m (ins n)) (held_after : (n : ℕ) → n < m.nodes → Held m (after n)) (above : (n l : ℕ) → o.le (ins n l) (after n l) ≡ true) where
    term_le : (n l : ℕ) → n < m.nodes → l < m.locations → m.rank (ins n l) - m.rank o.bottom ≤ m.rank (after n l) - m.rank o.bottom
    term_le n l low l_low = omega (arith, rank_le o m laws sys (ins n l) (after n l) (held n low l l_low) (held_after n low l l_low) (above n l))

    risen_le : (n : ℕ) → n < m.nodes → risen o m ins n ≤ risen o m after n
    risen_le n low = sum_by-mono (λ l. m.rank (ins n l) - m.rank o.bottom) (λ l. m.rank (after n l) - m.rank o.bottom) (m.uses n) (λ l used. term_le n l low (use_below o m laws sys n l low used))

    risen_lt : (n l : ℕ) → n < m.nodes → has l (m.uses n) ≡ true → o.le (after n l) (ins n l) ≡ false → risen o m ins n < risen o m after n
    risen_lt n l low used strict =
        let l_low = use_below o m laws sys n l low used in
        let rises = sys.rises (ins n l) (after n l) (held n low l l_low) (held_after n low l l_low) (above n l) strict in
        let least = rank_le o m laws sys o.bottom (ins n l) sys.bottom_held (held n low l l_low) (laws.bottom (ins n l)) in
        sum_by-lt (λ j. m.rank (ins n j) - m.rank o.bottom) (λ j. m.rank (after n j) - m.rank o.bottom) (m.uses n) l (λ j h. term_le n j low (use_below o m laws sys n j low h)) used (omega (arith, rises, least))

    -- the evaluation for which a node waits anew is paid by the input that rose
    pub paid_sent : (waiting now : List ℕ) (counts : ℕ → ℕ) (v : V) (l c : ℕ) (grew : Bool) → has l (m.uses c) ≡ true → Raises o ins after c l v grew → Lets waiting now c grew → IsPaid o m ins waiting counts → IsPaid o m after now counts
    paid_sent waiting now counts v l c grew used raises lets paid k low = by (which k c)
      where
        strict : (t : Bool) → o.le (after c l) (ins c l) ≡ t → not (o.le v (ins c l)) ≡ true → t ≡ false
        strict true is h = absurd (false≢true (ap not (sym (laws.transitive v (after c l) (ins c l) (subst (λ w. o.le v w ≡ true) (sym raises.raised) (laws.right (ins c l) v)) is)) ∙ h))
        strict false is h = refl

        at_c : (g : Bool) → grew ≡ g → c < m.nodes → counts c + cond (has c now) 1 0 ≤ 1 + risen o m after c
        at_c true is c_low =
            let less = risen_lt c l c_low used (strict (o.le (after c l) (ins c l)) refl (sym raises.grown ∙ is)) in
            omega (arith, paid c c_low, less, one (has c now))
        at_c false is c_low =
            let same : cond {A = ℕ} (has c now) 1 0 ≡ cond (has c waiting) 1 0 = ap (λ b. cond b 1 0) (lets.quiet is) in
            omega (arith, paid c c_low, risen_le c c_low, same)

        by : (k ≡ c) ⊎ (k ≢ c) → counts k + cond (has k now) 1 0 ≤ 1 + risen o m after k
        by (inl e) = subst (λ i. counts i + cond (has i now) 1 0 ≤ 1 + risen o m after i) (sym e) (at_c grew refl (subst (λ i. i < m.nodes) e low))
        by (inr e) =
            let same : cond {A = ℕ} (has k now) 1 0 ≡ cond (has k waiting) 1 0 = ap (λ b. cond b 1 0) (lets.others k e) in
            omega (arith, paid k low, risen_le k low, same)

  module _ (test : ℕ → ℕ → ℕ → Bool) (due : ℕ → ℕ → ℕ → Type 0) (ins outs : Table V) (waiting : List ℕ) (counts : ℕ → ℕ) (working : IsWorking o m test due ins outs waiting) where
    into : ℕ → ℕ → ℕ
    into n l = sum_below m.nodes (λ b. cond (test b l n) 1 0)

    -- an input rises by at most the height, and only where a dependency leads into it
    term_most : (n l : ℕ) → n < m.nodes → l < m.locations → m.rank (ins n l) - m.rank o.bottom ≤ m.height * into n l
    unfolding into
    term_most n l low l_low = by (all_or_some (λ b. test b l n ≡ false) (λ b. test b l n ≡ true) m.nodes (λ b b_low. either (test b l n)))
      where
        either : (t : Bool) → (t ≡ false) ⊎ (t ≡ true)
        either true = inr refl
        either false = inl refl

        by : ((b : ℕ) → b < m.nodes → test b l n ≡ false) ⊎ ((b : ℕ) × (b < m.nodes) × (test b l n ≡ true)) → m.rank (ins n l) - m.rank o.bottom ≤ m.height * sum_below m.nodes (λ b. cond (test b l n) 1 0)
        by (inl none) = omega (arith, ap m.rank (working.untouched n l low none))
        by (inr some) =
            let here : cond {A = ℕ} (test some.0 l n) 1 0 ≡ 1 = ap (λ b. cond b 1 0) some.2 in
            let some_into = sum_below-term m.nodes (λ b. cond (test b l n) 1 0) some.0 some.1 in
            let at_least : 1 ≤ sum_below m.nodes (λ b. cond (test b l n) 1 0) = omega (arith, here, some_into) in
            omega (arith, sys.ranked l (ins n l) l_low (working.part.in_held n low l l_low) (working.part.in_under n low l l_low), mul-le-mul_left {m = 1} {n = sum_below m.nodes (λ b. cond (test b l n) 1 0)} m.height at_least)

    risen_most : (n : ℕ) → n < m.nodes → risen o m ins n ≤ m.height * dependencies_into m test n
    unfolding into
    risen_most n low =
        omega (arith, sum_by-mono (λ l. m.rank (ins n l) - m.rank o.bottom) (λ l. m.height * into n l) (m.uses n) (λ l used. term_most n l low (use_below o m laws sys n l low used)), sum_by-times m.height (into n) (m.uses n))

    -- so the evaluations that are paid stay within the bound
    pub paid_most : IsPaid o m ins waiting counts → (n : ℕ) → n < m.nodes → counts n + cond (has n waiting) 1 0 ≤ most_evaluations m test n
    paid_most paid n low = omega (arith, paid n low, risen_most n low)

    pub paid_sum : IsPaid o m ins waiting counts → sum_below m.nodes counts ≤ all_evaluations m test
    paid_sum paid = sum_below-le m.nodes counts (most_evaluations m test) (λ n low. omega (arith, paid_most paid n low))

    -- where a node waits, there is room for its evaluation
    pub paid_room : IsPaid o m ins waiting counts → (n : ℕ) → n < m.nodes → has n waiting ≡ true → sum_below m.nodes counts < all_evaluations m test
    paid_room paid n low there =
        let waited : cond {A = ℕ} (has n waiting) 1 0 ≡ 1 = ap (λ b. cond b 1 0) there in
        sum_below-lt m.nodes counts (most_evaluations m test) (λ k k_low. omega (arith, paid_most paid k k_low)) n low (omega (arith, paid_most paid n low, waited))
