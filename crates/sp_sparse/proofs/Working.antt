-- The first induction: the sparse values stay below every table under the ceiling whose rows lie above the effects of
-- their inputs, as nodes are evaluated and values are sent along paths that define nothing of their location between.
use Rattle.std.proofs.Common.{◌≡◌, ◌≢◌, ◌⊎◌, inl, inr, ℕ, ◌<◌, Bool, true, false, not, ◌||◌, nat_eq, List, [], ◌∷◌, sym, ap, ◌∙◌, subst, refl, eqb-true}
use Rattle.std.proofs.lemmas.Bool.{false≢true}
use Rattle.std.proofs.lemmas.Map.Views.{Contains-from_any}
use Rattle.std.proofs.lemmas.List.Elements.{All-contains}
use Rattle.sp_lattice.specs.Lattice.{Order, IsLattice}
use Rattle.sp_lattice.specs.System.{Meaning, IsSystem, Below, has}
use Rattle.sp_lattice.specs.Dense.{Table, input, Under, Above}
use Rattle.sp_lattice.specs.Dependency.{Path, direct, onward, Depends, IsDependencies}
use Rattle.sp_lattice.specs.Laws.{SolutionLaws}
use Rattle.sp_lattice.proofs.Tables.{edge_below}
use Rattle.sp_lattice.proofs.Paths.{Path-end}
use Rattle.sp_sparse.specs.inner.Sparse.{SparsePartial, IsEvaluated, IsSent, IsStanding}
use Rattle.sp_sparse.specs.inner.Engine.{IsWorking, Every, EveryBut, Evaluates, Raises}
use Rattle.sp_sparse.specs.inner.Queue.{Removes}
use Rattle.sp_sparse.proofs.Numbers.{which, apart_numbers}

same_nat : (x y : ℕ) → nat_eq x y ≡ true → x ≡ y
same_nat x y h = eqb-true x y h

-- where a value is sent, or another place
pub at_place : (k j c l : ℕ) → ((k ≡ c) × (j ≡ l)) ⊎ ((k ≢ c) ⊎ (j ≢ l))
at_place k j c l = by (which k c) (which j l)
  where
    by : (k ≡ c) ⊎ (k ≢ c) → (j ≡ l) ⊎ (j ≢ l) → ((k ≡ c) × (j ≡ l)) ⊎ ((k ≢ c) ⊎ (j ≢ l))
    by (inl e) (inl f) = inl (e, f)
    by (inl e) (inr f) = inr (inr f)
    by (inr e) f = inr (inl e)

module _ {V : Type 0} (o : Order V) (m : Meaning V) (laws : IsLattice o) (sys : IsSystem o m) where
  pub def_below : (n l : ℕ) → n < m.nodes → has l (m.defs n) ≡ true → l < m.locations
  def_below n l low h = All-contains (λ x. x < m.locations) (m.defs n) l (sys.defs_below n low) (Contains-from_any same_nat l (m.defs n) h)

  pub use_below : (n l : ℕ) → n < m.nodes → has l (m.uses n) ≡ true → l < m.locations
  use_below n l low h = All-contains (λ x. x < m.locations) (m.uses n) l (sys.uses_below n low) (Contains-from_any same_nat l (m.uses n) h)

  -- a path begins at a node that is there
  pub Path-begin : (l from to : ℕ) → Path m l from to → from < m.nodes
  Path-begin l from to (direct p) = edge_below o m laws sys to from p.there p.edge
  Path-begin l from to (onward {mid} q free p) = Path-begin l from mid q

  -- stores that agree at the uses have the same effect at the definitions
  effect_agrees : (n l : ℕ) (s t : ℕ → V) → n < m.nodes → Below o m s m.ceiling → Below o m t m.ceiling → ((u : ℕ) → s u ≡ t u) → has l (m.defs n) ≡ true → m.effect n s l ≡ m.effect n t l
  effect_agrees n l s t low under_s under_t same defined = sys.support n l s t low under_s under_t (λ u h. same u) defined

  module _ (known : SolutionLaws o m) (test : ℕ → ℕ → ℕ → Bool) where
    -- where no node waits, the way is at its end
    pub standing_last : (ins outs : Table V) → IsWorking o m test (Every test) ins outs [] → IsStanding o m test ins outs
    standing_last ins outs working = record {
      part = working.part;
      evaluated = λ n low. working.evaluated n low refl;
      sent = λ b l c is. working.sent b l c is;
    }

    -- a node that waited is evaluated: then what grew is to be sent
    pub working_evaluated : (ins outs after : Table V) (waiting rest grown : List ℕ) (n : ℕ) → n < m.nodes → IsWorking o m test (Every test) ins outs waiting → Evaluates o m ins outs after n grown → Removes waiting rest n → IsWorking o m test (EveryBut test n grown) ins after rest
    working_evaluated ins outs after waiting rest grown n low working evaluates removes = record {
      part = record {
        in_held = working.part.in_held;
        in_under = working.part.in_under;
        in_below = working.part.in_below;
        out_held = λ k k_low l l_low. split k l m.held (working.part.out_held k k_low l l_low) (sys.effect_held n (ins n) low (working.part.in_held n low) (working.part.in_under n low) l l_low);
        out_under = λ k k_low l l_low. split k l (λ v. o.le v (m.ceiling l) ≡ true) (working.part.out_under k k_low l l_low) (known.effects_under n (ins n) low (working.part.in_held n low) (working.part.in_under n low) l l_low);
        out_below = λ other under above k k_low l l_low. elim (which k n) [
          | inl e ↦ subst (λ i. o.le (after i l) (other i l) ≡ true) (sym e) (here_below other under above l l_low)
          | inr e ↦ subst (λ v. o.le v (other k l) ≡ true) (sym (evaluates.others k l e)) (working.part.out_below other under above k k_low l l_low)
        ];
      };
      evaluated = λ k k_low idle. elim (which k n) [
        | inl e ↦ subst (λ i. IsEvaluated o m ins after i) (sym e) (λ l defined. here_evaluated l defined (has l grown) refl)
        | inr e ↦ λ l defined. subst (λ v. o.le (m.effect k (ins k) l) v ≡ true) (sym (evaluates.others k l e)) (working.evaluated k k_low (sym (removes.others k e) ∙ idle) l defined)
      ];
      sent = λ b l c due. still_sent b l c due.0 due.1 (which b n);
      untouched = working.untouched;
    }
      where
        at : (l : ℕ) (P : V → Type 0) → (b : Bool) → has l grown ≡ b → P (outs n l) → P (m.effect n (ins n) l) → P (after n l)
        at l P true is kept made = subst P (sym (evaluates.made l is)) made
        at l P false is kept made = subst P (sym (evaluates.kept l is)) kept

        split : (k l : ℕ) (P : V → Type 0) → P (outs k l) → P (m.effect n (ins n) l) → P (after k l)
        split k l P kept made = by (which k n)
          where
            by : (k ≡ n) ⊎ (k ≢ n) → P (after k l)
            by (inl e) = subst (λ i. P (after i l)) (sym e) (at l P (has l grown) refl (subst (λ i. P (outs i l)) e kept) made)
            by (inr e) = subst P (sym (evaluates.others k l e)) kept

        here_below : (other : Table V) → Under o m other → Above o m other → (l : ℕ) → l < m.locations → o.le (after n l) (other n l) ≡ true
        here_below other under above l l_low =
            at l (λ v. o.le v (other n l) ≡ true) (has l grown) refl (working.part.out_below other under above n low l l_low)
            (laws.transitive (m.effect n (ins n) l) (m.effect n (input o m other n) l) (other n l)
            (sys.monotone n (ins n) (input o m other n) low (working.part.in_held n low) (working.part.in_below other under above n low) (known.inputs_under other under n low) l l_low)
            (above n low l l_low))

        here_evaluated : (l : ℕ) → has l (m.defs n) ≡ true → (b : Bool) → has l grown ≡ b → o.le (m.effect n (ins n) l) (after n l) ≡ true
        here_evaluated l defined true is = subst (λ v. o.le (m.effect n (ins n) l) v ≡ true) (sym (evaluates.made l is)) (laws.reflexive (m.effect n (ins n) l))
        here_evaluated l defined false is = subst (λ v. o.le (m.effect n (ins n) l) v ≡ true) (sym (evaluates.kept l is)) (evaluates.settled l defined is)

        still_sent : (b l c : ℕ) → test b l c ≡ true → (b ≢ n) ⊎ (has l grown ≡ false) → (b ≡ n) ⊎ (b ≢ n) → IsSent o ins after b l c
        still_sent b l c is due (inr e) = subst (λ v. o.le v (ins c l) ≡ true) (sym (evaluates.others b l e)) (working.sent b l c is)
        still_sent b l c is (inl apart) (inl e) = absurd (apart e)
        still_sent b l c is (inr idle) (inl e) = subst (λ i. o.le (after i l) (ins c l) ≡ true) (sym e) (subst (λ v. o.le v (ins c l) ≡ true) (sym (evaluates.kept l idle)) (working.sent n l c (ap (λ i. test i l c) (sym e) ∙ is)))

    -- a value is sent along a dependency; where the input grew, its node waits
    module _ (exact : IsDependencies m test) (due : ℕ → ℕ → ℕ → Type 0) (ins outs after : Table V) (waiting now : List ℕ) (b l c : ℕ) (grew : Bool) (holds : test b l c ≡ true) (working : IsWorking o m test due ins outs waiting) (raises : Raises o ins after c l (outs b l) grew)
        (waits : grew ≡ true → has c now ≡ true) (stays : (k : ℕ) → has k waiting ≡ true → has k now ≡ true) where
      depends : Depends m b l c
      depends = (exact b l c).0 holds

      c_low : c < m.nodes
      c_low = Path-end depends.path

      b_low : b < m.nodes
      b_low = Path-begin l b c depends.path

      l_low : l < m.locations
      l_low = def_below b l b_low depends.defined

      -- the input is the join at the place, and what it was elsewhere
      split : (k j : ℕ) (P : ℕ → ℕ → V → Type 0) → P k j (ins k j) → P c l (o.join (ins c l) (outs b l)) → P k j (after k j)
      split k j P kept made = by (at_place k j c l)
        where
          by : ((k ≡ c) × (j ≡ l)) ⊎ ((k ≢ c) ⊎ (j ≢ l)) → P k j (after k j)
          by (inl e) = subst (λ i. P i j (after i j)) (sym e.0) (subst (λ i. P c i (after c i)) (sym e.1) (subst (P c l) (sym raises.raised) made))
          by (inr e) = subst (P k j) (sym (raises.others k j e)) kept

      pub raised_above : (k j : ℕ) → o.le (ins k j) (after k j) ≡ true
      raised_above k j = by (at_place k j c l)
        where
          by : ((k ≡ c) × (j ≡ l)) ⊎ ((k ≢ c) ⊎ (j ≢ l)) → o.le (ins k j) (after k j) ≡ true
          by (inl e) = subst (λ i. o.le (ins i j) (after i j) ≡ true) (sym e.0) (subst (λ i. o.le (ins c i) (after c i) ≡ true) (sym e.1) (subst (λ v. o.le (ins c l) v ≡ true) (sym raises.raised) (laws.left (ins c l) (outs b l))))
          by (inr e) = subst (λ v. o.le (ins k j) v ≡ true) (sym (raises.others k j e)) (laws.reflexive (ins k j))

      pub raised_sent : IsSent o after outs b l c
      raised_sent = subst (λ v. o.le (outs b l) v ≡ true) (sym raises.raised) (laws.right (ins c l) (outs b l))

      -- where nothing grew, the inputs are as they were
      pub raised_same : grew ≡ false → (k j : ℕ) → after k j ≡ ins k j
      raised_same idle k j = by (at_place k j c l)
        where
          below : (t : Bool) → not t ≡ false → t ≡ true
          below true h = refl
          below false h = absurd (false≢true (sym h))

          here : o.join (ins c l) (outs b l) ≡ ins c l
          here =
              let le = below (o.le (outs b l) (ins c l)) (sym raises.grown ∙ idle) in
              laws.antisymmetric (o.join (ins c l) (outs b l)) (ins c l) (laws.least (ins c l) (outs b l) (ins c l) (laws.reflexive (ins c l)) le) (laws.left (ins c l) (outs b l))

          by : ((k ≡ c) × (j ≡ l)) ⊎ ((k ≢ c) ⊎ (j ≢ l)) → after k j ≡ ins k j
          by (inl e) = subst (λ i. after i j ≡ ins i j) (sym e.0) (subst (λ i. after c i ≡ ins c i) (sym e.1) (raises.raised ∙ here))
          by (inr e) = raises.others k j e

      raised_part : SparsePartial o m after outs
      raised_part = record {
        in_held = λ k k_low j j_low. split k j (λ _ _ v. m.held v) (working.part.in_held k k_low j j_low)
            (sys.join_held l (ins c l) (outs b l) l_low (working.part.in_held c c_low l l_low) (working.part.out_held b b_low l l_low) (working.part.in_under c c_low l l_low) (working.part.out_under b b_low l l_low));
        in_under = λ k k_low j j_low. split k j (λ _ i v. o.le v (m.ceiling i) ≡ true) (working.part.in_under k k_low j j_low)
            (laws.least (ins c l) (outs b l) (m.ceiling l) (working.part.in_under c c_low l l_low) (working.part.out_under b b_low l l_low));
        in_below = λ other under above k k_low j j_low. split k j (λ i h v. o.le v (input o m other i h) ≡ true) (working.part.in_below other under above k k_low j j_low)
            (laws.least (ins c l) (outs b l) (input o m other c l) (working.part.in_below other under above c c_low l l_low)
            (laws.transitive (outs b l) (other b l) (input o m other c l) (working.part.out_below other under above b b_low l l_low) (known.along other under above l b c l_low depends.path)));
        out_held = working.part.out_held;
        out_under = working.part.out_under;
        out_below = working.part.out_below;
      }

      idle_before : (k : ℕ) → has k now ≡ false → (t : Bool) → has k waiting ≡ t → t ≡ false
      idle_before k idle true is = absurd (false≢true (sym idle ∙ stays k is))
      idle_before k idle false is = refl

      idle_same : (k : ℕ) → has k now ≡ false → (j : ℕ) → after k j ≡ ins k j
      idle_same k idle j = by (which k c)
        where
          still : (g : Bool) → grew ≡ g → k ≡ c → g ≡ false
          still true is e = absurd (false≢true (sym idle ∙ ap (λ i. has i now) e ∙ waits is))
          still false is e = refl

          by : (k ≡ c) ⊎ (k ≢ c) → after k j ≡ ins k j
          by (inl e) = raised_same (still grew refl e) k j
          by (inr e) = raises.others k j (inl e)

      pub working_sent : IsWorking o m test due after outs now
      working_sent = record {
        part = raised_part;
        evaluated = λ k k_low idle h defined.
            subst (λ v. o.le v (outs k h) ≡ true)
            (effect_agrees k h (ins k) (after k) k_low (working.part.in_under k k_low) (raised_part.in_under k k_low) (λ u. sym (idle_same k idle u)) defined)
            (working.evaluated k k_low (idle_before k idle (has k waiting) refl) h defined);
        sent = λ from h to is. laws.transitive (outs from h) (ins to h) (after to h) (working.sent from h to is) (raised_above to h);
        untouched = λ k j k_low none. elim (at_place k j c l) [
          | inl e ↦ absurd (false≢true (sym (none b b_low) ∙ ap (λ i. test b j i) e.0 ∙ ap (λ i. test b i c) e.1 ∙ holds))
          | inr e ↦ raises.others k j e ∙ working.untouched k j k_low none
        ];
      }

    -- when a node's output at one location is sent, that is due again
    pub working_location : (ins outs : Table V) (waiting pending : List ℕ) (n l : ℕ) → IsWorking o m test (EveryBut test n (l ∷ pending)) ins outs waiting → ((c : ℕ) → test n l c ≡ true → IsSent o ins outs n l c) → IsWorking o m test (EveryBut test n pending) ins outs waiting
    working_location ins outs waiting pending n l working all = record {
      part = working.part;
      evaluated = working.evaluated;
      sent = λ b j c due. by b j c due.0 due.1 (which b n) (which j l);
      untouched = working.untouched;
    }
      where
        or-false : (a b : Bool) → a ≡ false → b ≡ false → (a || b) ≡ false
        or-false true b h k = absurd (false≢true (sym h))
        or-false false b h k = k

        by : (b j c : ℕ) → test b j c ≡ true → (b ≢ n) ⊎ (has j pending ≡ false) → (b ≡ n) ⊎ (b ≢ n) → (j ≡ l) ⊎ (j ≢ l) → IsSent o ins outs b j c
        by b j c is due (inr e) f = working.sent b j c (is, inl e)
        by b j c is due (inl e) (inl f) = subst (λ i. IsSent o ins outs i j c) (sym e) (subst (λ i. IsSent o ins outs n i c) (sym f) (all c (ap (λ i. test i l c) (sym e) ∙ ap (λ i. test b i c) (sym f) ∙ is)))
        by b j c is (inl apart) (inl e) (inr f) = absurd (apart e)
        by b j c is (inr idle) (inl e) (inr f) = working.sent b j c (is, inr (or-false (nat_eq j l) (has j pending) (apart_numbers j l f) idle))

    -- when all that grew is sent, every dependency is due again
    pub working_all : (ins outs : Table V) (waiting : List ℕ) (n : ℕ) → IsWorking o m test (EveryBut test n []) ins outs waiting → IsWorking o m test (Every test) ins outs waiting
    working_all ins outs waiting n working = record {
      part = working.part;
      evaluated = working.evaluated;
      sent = λ b l c is. working.sent b l c (is, inr refl);
      untouched = working.untouched;
    }
