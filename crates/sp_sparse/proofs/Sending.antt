-- What a node's output is sent along, link after link of its definition.
use Rattle.std.proofs.Common.{◌≡◌, ◌≢◌, ◌⊎◌, inl, inr, ℕ, zero, suc, ◌+◌, ◌<◌, Bool, true, false, ◌||◌, nat_eq, if◌then◌else◌, List, [], ◌∷◌, ◌++◌, length, get_or, refl, sym, ap, ◌∙◌, subst, arith}
use Rattle.std.proofs.lemmas.Bool.{false≢true}
use Rattle.std.proofs.lemmas.List.Folds.{list_any-append}
use Rattle.sp_lattice.specs.Lattice.{Order, IsLattice}
use Rattle.sp_lattice.specs.System.{Meaning, IsSystem, has}
use Rattle.sp_lattice.specs.Dense.{Table}
use Rattle.sp_lattice.specs.Dependency.{Depends, IsDependencies}
use Rattle.sp_lattice.specs.Laws.{SolutionLaws}
use Rattle.sp_lattice.proofs.Paths.{Path-end}
use Rattle.sp_sparse.specs.inner.Sparse.{IsSent}
use Rattle.sp_sparse.specs.inner.Links.{AreLinks}
use Rattle.sp_sparse.specs.inner.Engine.{IsWorking, EveryBut, Raises, IsPaid}
use Rattle.sp_sparse.proofs.Numbers.{which, below_next, same_number, apart_numbers}
use Rattle.sp_sparse.proofs.Working.{working_sent, raised_above, raised_sent, working_location}
use Rattle.sp_sparse.proofs.Paying.{Lets, paid_sent}

or-true : (a b : Bool) → b ≡ true → (a || b) ≡ true
or-true true b h = refl
or-true false b h = h

-- a node that is let wait: what it does to the list
pub lets_add : (waiting now : List ℕ) (n : ℕ) → now ≡ (if has n waiting then waiting else waiting ++ n ∷ []) → Lets waiting now n true
lets_add waiting now n is = by (has n waiting) refl is
  where
    last : (k : ℕ) → has k (waiting ++ n ∷ []) ≡ (has k waiting || (nat_eq k n || false))
    last k = list_any-append (nat_eq k) waiting (n ∷ [])

    or-nothing : (a b : Bool) → b ≡ false → (a || (b || false)) ≡ a
    or-nothing true b h = refl
    or-nothing false true h = absurd (false≢true (sym h))
    or-nothing false false h = refl

    by : (b : Bool) → has n waiting ≡ b → now ≡ (if b then waiting else waiting ++ n ∷ []) → Lets waiting now n true
    by true there e = record {
      waits = λ _. ap (λ xs. has n xs) e ∙ there;
      quiet = λ h. absurd (false≢true (sym h));
      others = λ k _. ap (λ xs. has k xs) e;
    }
    by false there e = record {
      waits = λ _. ap (λ xs. has n xs) e ∙ last n ∙ or-true (has n waiting) (nat_eq n n || false) (ap (λ t. t || false) (same_number n));
      quiet = λ h. absurd (false≢true (sym h));
      others = λ k h. ap (λ xs. has k xs) e ∙ last k ∙ or-nothing (has k waiting) (nat_eq k n) (apart_numbers k n h);
    }

pub lets_none : (waiting : List ℕ) (n : ℕ) → Lets waiting waiting n false
lets_none waiting n = record { waits = λ h. absurd (false≢true h); quiet = λ _. refl; others = λ k _. refl }

pub lets_stay : (waiting now : List ℕ) (n : ℕ) (grew : Bool) → Lets waiting now n grew → (k : ℕ) → has k waiting ≡ true → has k now ≡ true
lets_stay waiting now n grew lets k there = by (which k n)
  where
    here : (g : Bool) → grew ≡ g → has n waiting ≡ true → has n now ≡ true
    here true is h = lets.waits is
    here false is h = lets.quiet is ∙ h

    by : (k ≡ n) ⊎ (k ≢ n) → has k now ≡ true
    by (inl e) = subst (λ i. has i now ≡ true) (sym e) (here grew refl (ap (λ i. has i waiting) (sym e) ∙ there))
    by (inr e) = lets.others k e ∙ there

module _ {V : Type 0} (o : Order V) (m : Meaning V) (laws : IsLattice o) (sys : IsSystem o m) (known : SolutionLaws o m) (test : ℕ → ℕ → ℕ → Bool) (exact : IsDependencies m test) (node l : ℕ) (links : List (ℕ × ℕ)) (are : AreLinks m test node l links) where
  -- a link goes along a dependency
  pub link_depends : (k : ℕ) (d : ℕ × ℕ) → k < length links → Depends m node l (get_or links k d).0
  link_depends k d low = (exact node l (get_or links k d).0).0 (are.each k d low).depends

  pub link_low : (k : ℕ) (d : ℕ × ℕ) → k < length links → (get_or links k d).0 < m.nodes
  link_low k d low = Path-end (link_depends k d low).path

  -- the value is sent along the link i
  module _ (due : ℕ → ℕ → ℕ → Type 0) (ins outs after : Table V) (waiting now : List ℕ) (i : ℕ) (d : ℕ × ℕ) (grew : Bool) (low : i < length links) (working : IsWorking o m test due ins outs waiting) (raises : Raises o ins after (get_or links i d).0 l (outs node l) grew) (lets : Lets waiting now (get_or links i d).0 grew) where
    pub sending_working : IsWorking o m test due after outs now
    sending_working =
        working_sent o m laws sys known test exact due ins outs after waiting now node l (get_or links i d).0 grew (are.each i d low).depends working raises lets.waits (lets_stay waiting now (get_or links i d).0 grew lets)

    rises : (k j : ℕ) → o.le (ins k j) (after k j) ≡ true
    rises = raised_above o m laws sys known test exact due ins outs after waiting now node l (get_or links i d).0 grew (are.each i d low).depends working raises lets.waits (lets_stay waiting now (get_or links i d).0 grew lets)

    pub sending_reached : ((k : ℕ) (e : ℕ × ℕ) → k < i → IsSent o ins outs node l (get_or links k e).0) → (k : ℕ) (e : ℕ × ℕ) → k < i + 1 → IsSent o after outs node l (get_or links k e).0
    sending_reached so_far k e k_low = by (below_next k i k_low)
      where
        default : (xs : List (ℕ × ℕ)) (j : ℕ) → j < length xs → get_or xs j d ≡ get_or xs j e
        default [] j j_low = absurd (omega arith)
        default (x ∷ xs) zero j_low = refl
        default (x ∷ xs) (suc j) j_low = default xs j (omega arith)

        here : IsSent o after outs node l (get_or links i d).0
        here = raised_sent o m laws sys known test exact due ins outs after waiting now node l (get_or links i d).0 grew (are.each i d low).depends working raises lets.waits (lets_stay waiting now (get_or links i d).0 grew lets)

        by : (k < i) ⊎ (k ≡ i) → IsSent o after outs node l (get_or links k e).0
        by (inl less) = laws.transitive (outs node l) (ins (get_or links k e).0 l) (after (get_or links k e).0 l) (so_far k e less) (rises (get_or links k e).0 l)
        by (inr same) = subst (λ j. IsSent o after outs node l (get_or links j e).0) (sym same) (subst (λ (p : ℕ × ℕ). IsSent o after outs node l p.0) (default links i low) here)

    pub sending_paid : (counts : ℕ → ℕ) → IsPaid o m ins waiting counts → IsPaid o m after now counts
    sending_paid counts paid =
        paid_sent o m laws sys ins after working.part.in_held sending_working.part.in_held rises waiting now counts (outs node l) l (get_or links i d).0 grew (link_depends i d low).used raises lets paid

  -- when every link is done, the location isn't pending any more
  pub sending_done : (ins outs : Table V) (waiting pending : List ℕ) → IsWorking o m test (EveryBut test node (l ∷ pending)) ins outs waiting → ((k : ℕ) (d : ℕ × ℕ) → k < length links → IsSent o ins outs node l (get_or links k d).0) → IsWorking o m test (EveryBut test node pending) ins outs waiting
  sending_done ins outs waiting pending working all =
      working_location o m laws sys known test ins outs waiting pending node l working (λ c is. by c (are.all c is))
    where
      by : (c : ℕ) → (k : ℕ) × (k < length links) × ((d : ℕ × ℕ) → (get_or links k d).0 ≡ c) → IsSent o ins outs node l c
      by c at = subst (λ j. IsSent o ins outs node l j) (at.2 (0, 0)) (all at.0 (0, 0) at.1)
