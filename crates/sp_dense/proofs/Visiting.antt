-- What the visit of a node does to the table, and to the nodes that wait.
use Rattle.std.proofs.Common.{◌≡◌, ◌≢◌, ◌⊎◌, inl, inr, ℕ, ◌+◌, ◌*◌, ◌<◌, ◌≤◌, Bool, true, false, ◌||◌, MatchBool, List, [], ◌∷◌, Vec, length, get_or, set, refl, sym, ap, ◌∙◌, subst, arith}
use Rattle.std.proofs.lemmas.Bool.{false≢true}
use Rattle.std.proofs.lemmas.Bool.Decides.{nat_tests}
use Rattle.std.proofs.Math.Nat.{mul-le-mul_left}
use Rattle.std.specs.declared.alloc.Global.{Global}
use Rattle.sp_lattice.specs.Lattice.{Order, IsLattice}
use Rattle.sp_lattice.specs.System.{Meaning, IsSystem, Below, has}
use Rattle.sp_lattice.specs.Dense.{Table, input, Partial, IsLeast, RaisesRow, store_of, table_of}
use Rattle.sp_lattice.specs.Bound.{total_rank}
use Rattle.sp_lattice.specs.Laws.{SolutionLaws}
use Rattle.sp_lattice.proofs.Tables.{edge_below, input_same}
use Rattle.sp_lattice.proofs.Joins.{joined_same}
use Rattle.sp_lattice.proofs.Ranks.{total_rank-same}
use Rattle.std.proofs.lemmas.List.Elements.{All-contains}
use Rattle.std.proofs.lemmas.Map.Views.{Contains-from_any}
use Rattle.std.proofs.Common.{eqb, eqb-true}
use Rattle.sp_lattice.specs.Row.{joined_rows, any_grows}
use Rattle.sp_lattice.proofs.RowLaws.{length-joined_rows, le_from_no_growth, place_from_growth}
use Rattle.sp_lattice.proofs.Stores.{table_of-get_or, table_of-set_same, table_of-set_other, store_of-joined_rows}
use Rattle.sp_lattice.specs.Flat.{vector_at}
use Rattle.sp_dense.specs.inner.Visit.{IsStoreGrid, IsStore, IsSettled, Grows, Visits, HasSuccessors, IsWorking, Works}
use Rattle.sp_dense.specs.inner.Waiting.{Adds}
use Rattle.sp_dense.proofs.Grids.{row_long, grid_set, count_long}

same_nat : (x y : ℕ) → eqb x y ≡ true → x ≡ y
same_nat x y h = eqb-true x y h

which : (k n : ℕ) → (k ≡ n) ⊎ (k ≢ n)
which k n = grind arith

-- a node that is not among those that wait, and is not the one taken out
or-false : (a b : Bool) → a ≡ false → b ≡ false → (a || b) ≡ false
or-false a b e f = cc

not_equal : (k n : ℕ) → k ≢ n → eqb k n ≡ false
not_equal k n apart = grind (arith, nat_tests)

none : (a : Bool) → (a ≡ true → ⊥) → a ≡ false
none true h = absurd (h refl)
none false h = refl

module _ {V : Type 0} (o : Order V) (m : Meaning V) (laws : IsLattice o) (sys : IsSystem o m) (known : SolutionLaws o m) where
  use_below : (n u : ℕ) → n < m.nodes → has u (m.uses n) ≡ true → u < m.locations
  use_below n u low h = All-contains (λ x. x < m.locations) (m.uses n) u (sys.uses_below n low) (Contains-from_any same_nat u (m.uses n) h)

  -- stores that agree have the same effect
  pub effect_same : (n : ℕ) (s t : ℕ → V) → n < m.nodes → Below o m s m.ceiling → Below o m t m.ceiling → ((l : ℕ) → l < m.locations → s l ≡ t l) → (l : ℕ) → l < m.locations → m.effect n s l ≡ m.effect n t l
  effect_same n s t low under_s under_t agree l l_low = by (has l (m.defs n)) refl
    where
      by : (b : Bool) → has l (m.defs n) ≡ b → m.effect n s l ≡ m.effect n t l
      by true is = sys.support n l s t low under_s under_t (λ u h. agree u (use_below n u low h)) is
      by false is = sys.frame n l s low l_low under_s is ∙ agree l l_low ∙ sym (sys.frame n l t low l_low under_t is)

  -- tables that agree have the same settled nodes
  settled_same : (table other : Table V) → Partial o m table → Partial o m other → ((n l : ℕ) → n < m.nodes → l < m.locations → other n l ≡ table n l) → (n : ℕ) → n < m.nodes → IsSettled o m table n → IsSettled o m other n
  settled_same table other part part_other same n low settled l l_low =
      subst (λ v. o.le v (other n l) ≡ true) (sym effects)
      (subst (λ v. o.le (m.effect n (input o m table n) l) v ≡ true) (sym (same n l low l_low)) (settled l l_low))
    where
      effects : m.effect n (input o m other n) l ≡ m.effect n (input o m table n) l
      effects = effect_same n (input o m other n) (input o m table n) low (known.inputs_under other part_other.under n low) (known.inputs_under table part.under n low) (λ j j_low. input_same o m laws sys other table same n j low j_low) l l_low

  beside : (k n : ℕ) (rest : List ℕ) → k ≢ n → has k rest ≡ false → has k (n ∷ rest) ≡ false
  beside k n rest apart h = or-false (eqb k n) (has k rest) (not_equal k n apart) h

  -- the visit of a node whose row doesn't grow
  pub working_still : (table after : Table V) (n : ℕ) (rest : List ℕ) → n < m.nodes → IsWorking o m table (n ∷ rest) → RaisesRow o m table after n → IsSettled o m table n → IsWorking o m after rest
  working_still table after n rest low working raises settled = record {
    part = part;
    settled = λ k k_low h. settled_same table after working.part part still k k_low (at k k_low h (which k n));
  }
    where
      part : Partial o m after
      part = known.goes_on table working.part after n low raises

      still : (k l : ℕ) → k < m.nodes → l < m.locations → after k l ≡ table k l
      still = known.rests table after n low working.part raises settled

      at : (k : ℕ) → k < m.nodes → has k rest ≡ false → (k ≡ n) ⊎ (k ≢ n) → IsSettled o m table k
      at k k_low h (inl same) = subst (λ j. IsSettled o m table j) (sym same) settled
      at k k_low h (inr apart) = working.settled k k_low (beside k n rest apart h)

  -- the visit of one whose row grows, where the nodes behind it wait from then on
  pub working_on : (table after : Table V) (n : ℕ) (rest waiting next : List ℕ) → n < m.nodes → IsWorking o m table (n ∷ rest) → RaisesRow o m table after n → Adds rest waiting next → ((k : ℕ) → k < m.nodes → has n (m.into k) ≡ true → has k next ≡ true) → IsWorking o m after waiting
  working_on table after n rest waiting next low working raises adds behind = record { part = part; settled = λ k k_low h. at k k_low h (which k n) }
    where
      part : Partial o m after
      part = known.goes_on table working.part after n low raises

      -- a node that doesn't wait has no edge from n, and so the input that it had
      input_kept : (k : ℕ) → k < m.nodes → has k waiting ≡ false → (l : ℕ) → l < m.locations → input o m after k l ≡ input o m table k l
      input_kept k k_low h l l_low =
          joined_same o laws (λ p. m.passes p k l) (λ p. after p l) (λ p. table p l) o.bottom (m.into k)
          (λ p edge. raises.others p l (edge_below o m laws sys k p k_low edge) l_low (λ same. false≢true (sym h ∙ adds.added k (behind k k_low (ap (λ j. has j (m.into k)) (sym same) ∙ edge)))))

      effect_kept : (k : ℕ) → k < m.nodes → has k waiting ≡ false → (l : ℕ) → l < m.locations → m.effect k (input o m after k) l ≡ m.effect k (input o m table k) l
      effect_kept k k_low h = effect_same k (input o m after k) (input o m table k) k_low (known.inputs_under after part.under k k_low) (known.inputs_under table working.part.under k k_low) (input_kept k k_low h)

      at : (k : ℕ) → k < m.nodes → has k waiting ≡ false → (k ≡ n) ⊎ (k ≢ n) → IsSettled o m after k
      at k k_low h (inl same) l l_low =
          subst (λ v. o.le v (after k l) ≡ true) (sym (effect_kept k k_low h l l_low))
          (subst (λ j. o.le (m.effect j (input o m table j) l) (after j l) ≡ true) (sym same)
          (subst (λ v. o.le (m.effect n (input o m table n) l) v ≡ true) (sym (raises.raised l l_low)) (laws.right (table n l) (m.effect n (input o m table n) l))))
      at k k_low h (inr apart) l l_low =
          subst (λ v. o.le v (after k l) ≡ true) (sym (effect_kept k k_low h l l_low))
          (subst (λ v. o.le (m.effect k (input o m table k) l) v ≡ true) (sym (raises.others k l k_low l_low apart)) (working.settled k k_low (beside k n rest apart (none (has k rest) (λ e. false≢true (sym h ∙ adds.still k e)))) l l_low))

  -- a row that has a node's input is under the ceiling
  pub reached_below : (rows : List (Vec V Global)) (n : ℕ) (row : List V) → n < m.nodes → Partial o m (table_of o.bottom rows) → IsStore o m row (input o m (table_of o.bottom rows) n) → Below o m (store_of o.bottom row) m.ceiling
  reached_below rows n row low part reached l l_low =
      subst (λ v. o.le v (m.ceiling l) ≡ true) (sym (reached.values l l_low)) (known.inputs_under (table_of o.bottom rows) part.under n low l l_low)

  -- a node's row raised by a row that has the effect of its input
  module _ (rows : List (Vec V Global)) (n : ℕ) (old new : Vec V Global) (input_row effect : List V) (low : n < m.nodes) (grid : IsStoreGrid m rows) (part : Partial o m (table_of o.bottom rows)) (at : old ≡ get_or rows n old)
      (reached : IsStore o m input_row (input o m (table_of o.bottom rows) n)) (made : IsStore o m effect (m.effect n (store_of o.bottom input_row))) (raised : new.items ≡ joined_rows o old.items effect) where
    before : Table V
    before = table_of o.bottom rows

    effect_is : (l : ℕ) → l < m.locations → store_of o.bottom effect l ≡ m.effect n (input o m before n) l
    unfolding before
    effect_is l l_low =
        made.values l l_low ∙ effect_same n (store_of o.bottom input_row) (input o m before n) low (reached_below rows n input_row low part reached) (known.inputs_under before part.under n low) reached.values l l_low

    old_long : length old.items ≡ m.locations
    old_long = row_long m rows n old grid low at

    old_is : (l : ℕ) → before n l ≡ store_of o.bottom old.items l
    unfolding before
    old_is l = table_of-get_or o.bottom rows n l old (omega (arith, low, count_long m rows grid)) ∙ ap (λ (row : Vec V Global). store_of o.bottom row.items l) (sym at)

    pub raises_row : RaisesRow o m (table_of o.bottom rows) (table_of o.bottom (set rows n new)) n
    unfolding before
    raises_row = record {
      others = λ k l k_low l_low apart. table_of-set_other o.bottom rows n k l new apart;
      raised = λ l l_low.
          table_of-set_same o.bottom rows n l new (omega (arith, low, count_long m rows grid)) ∙ ap (λ row. store_of o.bottom row l) raised
          ∙ store_of-joined_rows o o.bottom old.items effect l (omega (arith, old_long, l_low)) (omega (arith, made.long, l_low))
          ∙ ap (λ v. o.join v (store_of o.bottom effect l)) (sym (old_is l)) ∙ ap (λ v. o.join (before n l) v) (effect_is l l_low);
    }

    pub visits : (grew : Bool) → grew ≡ any_grows o old.items effect → Visits o m rows (set rows n new) n grew
    unfolding before
    visits grew is = record {
      grid = grid_set m rows n new grid low (ap length raised ∙ length-joined_rows o old.items effect ∙ old_long);
      raises = raises_row;
      grown = by grew is;
    }
      where
        le_is : (l : ℕ) → l < m.locations → o.le (get_or effect l o.bottom) (get_or old.items l o.bottom) ≡ o.le (m.effect n (input o m before n) l) (before n l)
        le_is l l_low = ap (λ v. o.le v (get_or old.items l o.bottom)) (effect_is l l_low) ∙ ap (λ v. o.le (m.effect n (input o m before n) l) v) (sym (old_is l))

        by : (b : Bool) → b ≡ any_grows o old.items effect → MatchBool b (Grows o m before n) (IsSettled o m before n)
        by true e =
            let place = place_from_growth o old.items effect o.bottom (sym e) in
            let there : place.0 < m.locations = omega (arith, place.1, old_long) in
            record { location = place.0; there = there; above = sym (le_is place.0 there) ∙ place.3 }
        by false e = λ l l_low. sym (le_is l l_low) ∙ le_from_no_growth o old.items effect l o.bottom (sym e) (omega (arith, l_low, old_long)) (omega (arith, l_low, made.long))

  -- what a visit comes to
  pub works_still : (before after : List (Vec V Global)) (n : ℕ) (rest : List ℕ) (grew : Bool) → grew ≡ false → n < m.nodes → IsWorking o m (table_of o.bottom before) (n ∷ rest) → Visits o m before after n grew → Works o m before after rest rest
  works_still before after n rest true e low working visits = absurd (false≢true (sym e))
  works_still before after n rest false e low working visits = record {
    grid = visits.grid;
    working = working_still (table_of o.bottom before) (table_of o.bottom after) n rest low working visits.raises visits.grown;
    higher = omega (arith, ranks);
    paid = omega (arith, ap (λ r. m.nodes * r) ranks);
  }
    where
      ranks : total_rank m (table_of o.bottom after) ≡ total_rank m (table_of o.bottom before)
      ranks = total_rank-same o m laws sys (table_of o.bottom after) (table_of o.bottom before) (known.rests (table_of o.bottom before) (table_of o.bottom after) n low working.part visits.raises visits.grown)

  pub works_on : (before after : List (Vec V Global)) (n : ℕ) (rest waiting : List ℕ) (lists : List (Vec ℕ Global)) (grew : Bool) → grew ≡ true → n < m.nodes → IsWorking o m (table_of o.bottom before) (n ∷ rest) → Visits o m before after n grew → HasSuccessors m lists → Adds rest waiting (vector_at lists n) → length waiting ≤ length rest + m.nodes → Works o m before after rest waiting
  works_on before after n rest waiting lists false e low working visits successors adds few = absurd (false≢true e)
  works_on before after n rest waiting lists true e low working visits successors adds few = record {
    grid = visits.grid;
    working = working_on (table_of o.bottom before) (table_of o.bottom after) n rest waiting (vector_at lists n) low working visits.raises adds (λ k k_low edge. successors.all n k k_low edge);
    higher = omega (arith, rises);
    paid = omega (arith, few, mul-le-mul_left {m = total_rank m (table_of o.bottom before) + 1} {n = total_rank m (table_of o.bottom after)} m.nodes rises);
  }
    where
      rises : total_rank m (table_of o.bottom before) + 1 ≤ total_rank m (table_of o.bottom after)
      rises = let less = known.rises (table_of o.bottom before) (table_of o.bottom after) n low working.part visits.raises visits.grown.location visits.grown.there visits.grown.above in omega (arith, less)

  -- where no node waits, the table is the least solution
  pub least_when_done : (table : Table V) → IsWorking o m table [] → IsLeast o m table
  least_when_done table working = known.ends table working.part (λ n low. working.settled n low refl)
