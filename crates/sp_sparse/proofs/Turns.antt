-- One turn: a node that waited is evaluated and counted, and what it defines is sent.
use Rattle.std.proofs.Common.{◌≡◌, ◌≢◌, ◌⊎◌, inl, inr, ℕ, zero, suc, ◌+◌, ◌^◌, ◌<◌, ◌≤◌, Bool, true, false, cond, nat_eq, List, [], ◌∷◌, length, get_or, set, take, sum, refl, sym, ap, ◌∙◌, subst, arith, get_or-set_same, get_or-set_other}
use Rattle.std.proofs.Math.Nat.{mul-le-mul_left}
use Rattle.std.proofs.lemmas.Bool.{false≢true}
use Rattle.std.proofs.lemmas.Bool.Decides.{nat_tests}
use Rattle.std.proofs.lemmas.List.{get_or_default}
use Rattle.sp_lattice.specs.Lattice.{Order, IsLattice}
use Rattle.sp_lattice.specs.System.{Meaning, IsSystem, has}
use Rattle.sp_lattice.specs.Dense.{Table}
use Rattle.sp_lattice.specs.Laws.{SolutionLaws}
use Rattle.sp_lattice.specs.Bound.{sum_below, dependencies_into, all_evaluations}
use Rattle.sp_deps.specs.Rows.{held, total, most_dependencies}
use Rattle.sp_deps.specs.Answer.{AreDependencies}
use Rattle.sp_sparse.specs.inner.Sparse.{EqualsDense}
use Rattle.sp_sparse.specs.inner.Engine.{IsWorking, Every, IsPaid}
use Rattle.sp_sparse.specs.Solution.{IsWithinBounds}
use Rattle.sp_sparse.specs.inner.Queue.{Removes, most_shown}
use Rattle.sp_sparse.proofs.Numbers.{which}
use Rattle.sp_sparse.proofs.Working.{standing_last}
use Rattle.sp_sparse.proofs.Spreading.{equals_dense}
use Rattle.sp_sparse.proofs.Summing.{sum-terms, sum-one_more}
use Rattle.sp_sparse.proofs.Paying.{paid_most, paid_sum, paid_room}
use Rattle.sp_sparse.proofs.Few.{dependencies_few}

-- how often each node was evaluated, from the list that is kept
abbrev pub counted : List ℕ → ℕ → ℕ
counted counts n = get_or counts n 0

-- a list in which nothing waits
pub nothing_waits : (waiting : List ℕ) → nat_eq (length waiting) 0 ≡ true → waiting ≡ []
nothing_waits [] h = refl
nothing_waits (x ∷ waiting) h = absurd (false≢true (sym (never (length waiting)) ∙ h))
  where
    never : (n : ℕ) → nat_eq (suc n) 0 ≡ false
    never n = grind (arith, nat_tests)

length-take_le : (k : ℕ) (xs : List ℕ) → length (take k xs) ≤ length xs
length-take_le zero xs = omega arith
length-take_le (suc k) [] = omega arith
length-take_le (suc k) (x ∷ xs) = omega (arith, length-take_le k xs)

-- what a picker is shown of a list
pub shown_low : (waiting : List ℕ) (i : ℕ) → i < length (take most_shown waiting) → i < length waiting
shown_low waiting i low = below most_shown waiting low
  where
    below : (k : ℕ) (xs : List ℕ) → i < length (take k xs) → i < length xs
    below k xs h = omega (arith, h, length-take_le k xs)

pub shown_some : (waiting : List ℕ) → 0 < length waiting → 0 < length (take most_shown waiting)
shown_some [] some = absurd (omega arith)
shown_some (x ∷ waiting) some = begins 127
  where
    begins : (k : ℕ) → 0 < length (take (suc k) (x ∷ waiting))
    begins k = omega arith

-- one more evaluation of a node, in the list that is kept
module _ (counts : List ℕ) (node count : ℕ) (low : node < length counts) (is : count ≡ get_or counts node count) where
  pub count_is : count ≡ counted counts node
  count_is = is ∙ get_or_default counts node count 0 low

  pub counted_here : counted (set counts node (count + 1)) node ≡ counted counts node + 1
  counted_here = get_or-set_same counts node (count + 1) 0 low ∙ ap (λ k. k + 1) count_is

  pub counted_other : (k : ℕ) → k ≢ node → counted (set counts node (count + 1)) k ≡ counted counts k
  counted_other k apart = get_or-set_other counts node k (count + 1) 0 apart

  pub counted_sum : sum (set counts node (count + 1)) ≡ sum counts + 1
  counted_sum = ap (λ k. sum (set counts node (k + 1))) count_is ∙ sum-one_more counts node low

  -- a node that doesn't wait was evaluated
  pub counted_once : (nodes : ℕ) (waiting rest now : List ℕ) → Removes waiting rest node → ((n : ℕ) → has n rest ≡ true → has n now ≡ true) → ((n : ℕ) → n < nodes → has n waiting ≡ false → 1 ≤ counted counts n) → (n : ℕ) → n < nodes → has n now ≡ false → 1 ≤ counted (set counts node (count + 1)) n
  counted_once nodes waiting rest now removes stay once n n_low idle = by (which n node)
    where
      idle_before : (t : Bool) → has n rest ≡ t → t ≡ false
      idle_before true is' = absurd (false≢true (sym idle ∙ stay n is'))
      idle_before false is' = refl

      by : (n ≡ node) ⊎ (n ≢ node) → 1 ≤ counted (set counts node (count + 1)) n
      by (inl e) = subst (λ k. 1 ≤ counted (set counts node (count + 1)) k) (sym e) (omega (arith, counted_here))
      by (inr e) = omega (arith, counted_other n e, once n n_low (sym (removes.others n e) ∙ idle_before (has n rest) refl))

module _ {V : Type 0} (o : Order V) (m : Meaning V) (laws : IsLattice o) (sys : IsSystem o m) (rows : List (List (ℕ × ℕ))) (deps : AreDependencies m rows) where
  module _ (ins outs : Table V) (waiting counts : List ℕ) (working : IsWorking o m (held rows) (Every (held rows)) ins outs waiting) (paid : IsPaid o m ins waiting (counted counts)) (long : length counts ≡ m.nodes) where
    sum_is : sum counts ≡ sum_below m.nodes (counted counts)
    sum_is = sum-terms counts ∙ ap (λ n. sum_below n (counted counts)) long

    -- the evaluations so far are within the bound
    pub turns_bound : (old steps : ℕ) → steps ≡ old + sum counts → steps ≤ old + all_evaluations m (held rows)
    turns_bound old steps is = omega (arith, is, sum_is, paid_sum o m laws sys (held rows) (Every (held rows)) ins outs waiting (counted counts) working paid)

    -- and one more is, where a node waits
    pub turns_room : (old steps n : ℕ) → steps ≡ old + sum counts → n < m.nodes → has n waiting ≡ true → steps + 1 ≤ old + all_evaluations m (held rows)
    turns_room old steps n is low there = omega (arith, is, sum_is, paid_room o m laws sys (held rows) (Every (held rows)) ins outs waiting (counted counts) working paid n low there)

    -- its count fits
    pub turns_fit : total rows ≤ most_dependencies → (n : ℕ) → n < m.nodes → has n waiting ≡ true → counted counts n + 1 < 2 ^ 64
    turns_fit few n low there =
        let into = dependencies_few m rows n deps.nodes (sys.uses_ascend n low) in
        let most = mul-le-mul_left {m = dependencies_into m (held rows) n} {n = 50000000} m.height (omega (arith, into, few)) in
        let waited : cond {A = ℕ} (has n waiting) 1 0 ≡ 1 = ap (λ b. cond b 1 0) there in
        omega (arith, paid_most o m laws sys (held rows) (Every (held rows)) ins outs waiting (counted counts) working paid n low, most, waited, sys.height_below)

    -- at the end each count is within its bound
    pub turns_most : ((n : ℕ) → n < m.nodes → 1 ≤ counted counts n) → IsWithinBounds m (held rows) counts
    turns_most once = record {
      long = long;
      some = once;
      most = λ n low. omega (arith, paid_most o m laws sys (held rows) (Every (held rows)) ins outs waiting (counted counts) working paid n low);
    }

  -- and the tables are those of the dense least solution
  pub turns_done : SolutionLaws o m → (ins outs : Table V) → IsWorking o m (held rows) (Every (held rows)) ins outs [] → EqualsDense o m ins outs
  turns_done known ins outs working = equals_dense o m laws sys known (held rows) deps.exact ins outs (standing_last o m laws sys known (held rows) ins outs working)
