-- Grids of rows: what stands in a row, and in the table that the grid is.
use Rattle.std.proofs.Common.{◌≡◌, ◌≢◌, ◌⊎◌, inl, inr, ℕ, zero, suc, ◌+◌, ◌<◌, ◌≤◌, Bool, true, false, not, List, [], ◌∷◌, ◌++◌, length, get_or, set, take, drop, map, refl, sym, ap, ◌∙◌, subst, arith, length-set, get_or-set_same, get_or-set_other}
use Rattle.std.specs.List.Sorted.{IsStrictlyIncreasing}
use Rattle.std.proofs.lemmas.Bool.{false≢true}
use Rattle.std.proofs.lemmas.List.{length-map}
use Rattle.sp_lattice.specs.Lattice.{Order}
use Rattle.sp_lattice.specs.Flat.{row_at}
use Rattle.sp_lattice.specs.System.{Meaning, has, store_at, values_at}
use Rattle.sp_lattice.specs.Dense.{Table}
use Rattle.sp_lattice.proofs.Joins.{has-cons}
use Rattle.sp_lattice.proofs.Stores.{written_elsewhere}
use Rattle.sp_sparse.specs.inner.Grid.{IsListGrid, table_at, BeginsWith}
use Rattle.sp_sparse.specs.inner.Engine.{Evaluates, Raises, UpdatesRow, locations_at}
use Rattle.sp_sparse.proofs.Numbers.{which}
use Rattle.sp_sparse.proofs.Ordered.{written-at, written-set_other}
use Rattle.sp_sparse.proofs.Summing.{has_first, has_later}

module _ {V : Type 0} where
  pub row_at-past : (rows : List (List V)) (n : ℕ) → length rows < n + 1 → row_at rows n ≡ []
  row_at-past [] n past = refl
  row_at-past (row ∷ rows) zero past = absurd (omega arith)
  row_at-past (row ∷ rows) (suc n) past = row_at-past rows n (omega arith)

  -- a row behind the others
  pub row_at-push_last : (rows : List (List V)) (row : List V) → row_at (rows ++ row ∷ []) (length rows) ≡ row
  row_at-push_last [] row = refl
  row_at-push_last (r ∷ rows) row = row_at-push_last rows row

  pub row_at-push_other : (rows : List (List V)) (row : List V) (n : ℕ) → n < length rows → row_at (rows ++ row ∷ []) n ≡ row_at rows n
  row_at-push_other [] row n low = absurd (omega arith)
  row_at-push_other (r ∷ rows) row zero low = refl
  row_at-push_other (r ∷ rows) row (suc n) low = row_at-push_other rows row n (omega arith)

  -- a row of the right length in place of another
  pub grid_set : (nodes : ℕ) (lists : ℕ → List ℕ) (rows : List (List V)) (n : ℕ) (row : List V) → IsListGrid nodes lists rows → n < nodes → length row ≡ length (lists n) → IsListGrid nodes lists (set rows n row)
  grid_set nodes lists rows n row grid low long = record {
    long = length-set rows n row ∙ grid.long;
    rows_long = λ k k_low. by k k_low (which k n);
  }
    where
      by : (k : ℕ) → k < nodes → (k ≡ n) ⊎ (k ≢ n) → length (row_at (set rows n row) k) ≡ length (lists k)
      by k k_low (inl same) = subst (λ i. length (row_at (set rows n row) i) ≡ length (lists i)) (sym same) (ap length (get_or-set_same rows n row [] (omega (arith, grid.long, low))) ∙ long)
      by k k_low (inr apart) = ap length (get_or-set_other rows n k row [] apart) ∙ grid.rows_long k k_low

-- a location of a list stands somewhere in it
pub place_of : (l : ℕ) (ls : List ℕ) → has l ls ≡ true → (p : ℕ) × (p < length ls) × (get_or ls p 0 ≡ l)
place_of l [] h = absurd (false≢true h)
place_of l (x ∷ ls) h = by (has-cons l x ls h) (place_of l ls)
  where
    by : (l ≡ x) ⊎ (has l ls ≡ true) → (has l ls ≡ true → (p : ℕ) × (p < length ls) × (get_or ls p 0 ≡ l)) → (p : ℕ) × (p < length (x ∷ ls)) × (get_or (x ∷ ls) p 0 ≡ l)
    by (inl e) more = (0, omega arith, sym e)
    by (inr k) more = let r = more k in (suc r.0, omega (arith, r.1), r.2)

-- what some places of a list have
pub has-map : (f : ℕ → ℕ) (p : ℕ) (ps : List ℕ) → has p ps ≡ true → has (f p) (map f ps) ≡ true
has-map f p [] h = absurd (false≢true h)
has-map f p (q ∷ ps) h = by (has-cons p q ps h) (has-map f p ps)
  where
    by : (p ≡ q) ⊎ (has p ps ≡ true) → (has p ps ≡ true → has (f p) (map f ps) ≡ true) → has (f p) (f q ∷ map f ps) ≡ true
    by (inl e) more = subst (λ k. has (f p) (f k ∷ map f ps) ≡ true) e (has_first (f p) (map f ps))
    by (inr k) more = has_later (f p) (f q) (map f ps) (more k)

pub from_map : (f : ℕ → ℕ) (l : ℕ) (ps : List ℕ) → has l (map f ps) ≡ true → (p : ℕ) × (has p ps ≡ true) × (f p ≡ l)
from_map f l [] h = absurd (false≢true h)
from_map f l (q ∷ ps) h = by (has-cons l (f q) (map f ps) h) (from_map f l ps)
  where
    by : (l ≡ f q) ⊎ (has l (map f ps) ≡ true) → (has l (map f ps) ≡ true → (p : ℕ) × (has p ps ≡ true) × (f p ≡ l)) → (p : ℕ) × (has p (q ∷ ps) ≡ true) × (f p ≡ l)
    by (inl e) more = (q, has_first q ps, sym e)
    by (inr k) more = let r = more k in (r.0, has_later r.0 q ps r.1, r.2)

module _ {V : Type 0} (o : Order V) (m : Meaning V) (ins : Table V) (made : List V) (before after : List (List V)) (n : ℕ) (grown : List ℕ) (low : n < m.nodes) (rises : IsStrictlyIncreasing (m.defs n)) (grid : IsListGrid m.nodes m.defs before) (begins : BeginsWith m o.bottom n (ins n) made) (updates : UpdatesRow o made before after n grown) where
  row_low : (p : ℕ) → p < length (m.defs n) → p < length (row_at before n)
  row_low p h = omega (arith, h, grid.rows_long n low)

  after_low : (p : ℕ) → p < length (m.defs n) → p < length (row_at after n)
  after_low p h = omega (arith, h, grid.rows_long n low, updates.row.long)

  -- what the tables have at a definition
  at_before : (p : ℕ) → p < length (m.defs n) → table_at o.bottom m.defs before n (get_or (m.defs n) p 0) ≡ get_or (row_at before n) p o.bottom
  at_before p h = written-at (λ k. o.bottom) (m.defs n) (row_at before n) p o.bottom rises h (row_low p h)

  at_after : (p : ℕ) → p < length (m.defs n) → table_at o.bottom m.defs after n (get_or (m.defs n) p 0) ≡ get_or (row_at after n) p o.bottom
  at_after p h = written-at (λ k. o.bottom) (m.defs n) (row_at after n) p o.bottom rises h (after_low p h)

  false_from : (b : Bool) → (b ≡ true → ⊥) → b ≡ false
  false_from true h = absurd (h refl)
  false_from false h = refl

  -- a place whose location didn't grow isn't among those that did
  not_grown : (p l : ℕ) → get_or (m.defs n) p 0 ≡ l → has l (locations_at m n grown) ≡ false → has p grown ≡ false
  not_grown p l at h = false_from (has p grown) (λ t. false≢true (sym h ∙ ap (λ j. has j (locations_at m n grown)) (sym at) ∙ has-map (λ q. get_or (m.defs n) q 0) p grown t))

  grew_at : (l : ℕ) → has l (locations_at m n grown) ≡ true → table_at o.bottom m.defs after n l ≡ m.effect n (ins n) l
  grew_at l h = by (from_map (λ q. get_or (m.defs n) q 0) l grown h)
    where
      by : (p : ℕ) × (has p grown ≡ true) × (get_or (m.defs n) p 0 ≡ l) → table_at o.bottom m.defs after n l ≡ m.effect n (ins n) l
      by g =
          let p_low : g.0 < length (m.defs n) = omega (arith, updates.row.low g.0 g.1, grid.rows_long n low) in
          subst (λ j. table_at o.bottom m.defs after n j ≡ m.effect n (ins n) j) g.2 (at_after g.0 p_low ∙ updates.row.grew g.0 (row_low g.0 p_low) g.1 ∙ begins g.0 p_low)

  kept_at : (l : ℕ) → has l (locations_at m n grown) ≡ false → (b : Bool) → has l (m.defs n) ≡ b → table_at o.bottom m.defs after n l ≡ table_at o.bottom m.defs before n l
  kept_at l h true defined = by (place_of l (m.defs n) defined)
    where
      by : (p : ℕ) × (p < length (m.defs n)) × (get_or (m.defs n) p 0 ≡ l) → table_at o.bottom m.defs after n l ≡ table_at o.bottom m.defs before n l
      by g = subst (λ j. table_at o.bottom m.defs after n j ≡ table_at o.bottom m.defs before n j) g.2 (at_after g.0 g.1 ∙ updates.row.kept g.0 (row_low g.0 g.1) (not_grown g.0 l g.2 h) ∙ sym (at_before g.0 g.1))
  kept_at l h false free = written_elsewhere (λ k. o.bottom) (m.defs n) (row_at after n) l free ∙ sym (written_elsewhere (λ k. o.bottom) (m.defs n) (row_at before n) l free)

  settled_at : (l : ℕ) → has l (m.defs n) ≡ true → has l (locations_at m n grown) ≡ false → o.le (m.effect n (ins n) l) (table_at o.bottom m.defs before n l) ≡ true
  settled_at l defined h = by (place_of l (m.defs n) defined)
    where
      by : (p : ℕ) × (p < length (m.defs n)) × (get_or (m.defs n) p 0 ≡ l) → o.le (m.effect n (ins n) l) (table_at o.bottom m.defs before n l) ≡ true
      by g =
          subst (λ j. o.le (m.effect n (ins n) j) (table_at o.bottom m.defs before n j) ≡ true) g.2
          (subst (λ v. o.le v (table_at o.bottom m.defs before n (get_or (m.defs n) g.0 0)) ≡ true) (begins g.0 g.1)
          (subst (λ v. o.le (get_or made g.0 o.bottom) v ≡ true) (sym (at_before g.0 g.1)) (updates.row.settled g.0 (row_low g.0 g.1) (not_grown g.0 l g.2 h))))

  -- a node's row is brought up to date with the effect of its inputs
  pub evaluates : Evaluates o m ins (table_at o.bottom m.defs before) (table_at o.bottom m.defs after) n (locations_at m n grown)
  evaluates = record {
    made = grew_at;
    kept = λ l h. kept_at l h (has l (m.defs n)) refl;
    settled = settled_at;
    others = λ k l apart. ap (λ row. store_at o.bottom (m.defs k) row l) (updates.others k apart);
  }

  pub updated_grid : IsListGrid m.nodes m.defs after
  updated_grid = record { long = updates.long ∙ grid.long; rows_long = λ k k_low. by k k_low (which k n) }
    where
      by : (k : ℕ) → k < m.nodes → (k ≡ n) ⊎ (k ≢ n) → length (row_at after k) ≡ length (m.defs k)
      by k k_low (inl e) = subst (λ i. length (row_at after i) ≡ length (m.defs i)) (sym e) (updates.row.long ∙ grid.rows_long n low)
      by k k_low (inr e) = ap length (updates.others k e) ∙ grid.rows_long k k_low

-- one input is raised
module _ {V : Type 0} (o : Order V) (m : Meaning V) (inputs : List (List V)) (to l p : ℕ) (v made : V) (low : to < m.nodes) (rises : IsStrictlyIncreasing (m.uses to)) (grid : IsListGrid m.nodes m.uses inputs) (within : p < length (m.uses to)) (at : get_or (m.uses to) p 0 ≡ l) (made_is : made ≡ o.join (get_or (row_at inputs to) p o.bottom) v) where
  row_within : p < length (row_at inputs to)
  row_within = omega (arith, within, grid.rows_long to low)

  row_is : row_at (set inputs to (set (row_at inputs to) p made)) to ≡ set (row_at inputs to) p made
  row_is = get_or-set_same inputs to (set (row_at inputs to) p made) [] (omega (arith, low, grid.long))

  input_before : table_at o.bottom m.uses inputs to l ≡ get_or (row_at inputs to) p o.bottom
  input_before =
      ap (λ j. table_at o.bottom m.uses inputs to j) (sym at)
      ∙ written-at (λ k. o.bottom) (m.uses to) (row_at inputs to) p o.bottom rises within row_within

  other : (k j : ℕ) → (k ≡ to) ⊎ (k ≢ to) → (k ≢ to) ⊎ (j ≢ l) → table_at o.bottom m.uses (set inputs to (set (row_at inputs to) p made)) k j ≡ table_at o.bottom m.uses inputs k j
  other k j (inr apart) h = ap (λ row. store_at o.bottom (m.uses k) row j) (get_or-set_other inputs to k (set (row_at inputs to) p made) [] apart)
  other k j (inl same) (inl apart) = absurd (apart same)
  other k j (inl same) (inr apart) =
      subst (λ i. table_at o.bottom m.uses (set inputs to (set (row_at inputs to) p made)) i j ≡ table_at o.bottom m.uses inputs i j) (sym same)
      (ap (λ row. store_at o.bottom (m.uses to) row j) row_is
      ∙ written-set_other (λ k. o.bottom) (m.uses to) (row_at inputs to) p made j within (λ e. apart (e ∙ at)))

  raises_set : (grew : Bool) → grew ≡ not (o.le v (get_or (row_at inputs to) p o.bottom)) → Raises o (table_at o.bottom m.uses inputs) (table_at o.bottom m.uses (set inputs to (set (row_at inputs to) p made))) to l v grew
  raises_set grew said = record {
    raised =
        ap (λ row. store_at o.bottom (m.uses to) row l) row_is
        ∙ ap (λ j. store_at o.bottom (m.uses to) (set (row_at inputs to) p made) j) (sym at)
        ∙ written-at (λ k. o.bottom) (m.uses to) (set (row_at inputs to) p made) p o.bottom rises within (omega (arith, row_within, length-set (row_at inputs to) p made))
        ∙ get_or-set_same (row_at inputs to) p made o.bottom row_within ∙ made_is ∙ ap (λ w. o.join w v) (sym input_before);
    others = λ k j apart. other k j (which k to) apart;
    grown = said ∙ ap (λ w. not (o.le v w)) (sym input_before);
  }

  pub raised_grid : (after : List (List V)) → after ≡ set inputs to (set (row_at inputs to) p made) → IsListGrid m.nodes m.uses after
  raised_grid after is = subst (IsListGrid m.nodes m.uses) (sym is) (grid_set m.nodes m.uses inputs to (set (row_at inputs to) p made) grid low (length-set (row_at inputs to) p made ∙ grid.rows_long to low))

  pub raises : (after : List (List V)) (grew : Bool) → after ≡ set inputs to (set (row_at inputs to) p made) → grew ≡ not (o.le v (get_or (row_at inputs to) p o.bottom)) → Raises o (table_at o.bottom m.uses inputs) (table_at o.bottom m.uses after) to l v grew
  raises after grew is said = subst (λ rows. Raises o (table_at o.bottom m.uses inputs) (table_at o.bottom m.uses rows) to l v grew) (sym is) (raises_set grew said)

-- the value that stands in a row at a place
pub value_there : {V : Type 0} (bottom : V) (lists : ℕ → List ℕ) (rows : List (List V)) (n p : ℕ) → length (row_at rows n) ≡ length (lists n) → IsStrictlyIncreasing (lists n) → p < length (lists n) → get_or (row_at rows n) p bottom ≡ table_at bottom lists rows n (get_or (lists n) p 0)
value_there {V} bottom lists rows n p long rises low = sym (written-at (λ k. bottom) (lists n) (row_at rows n) p bottom rises low (omega (arith, low, long)))

-- a row into whose front the effect is written begins with it
pub begins_with : {V : Type 0} (m : Meaning V) (bottom : V) (n : ℕ) (store : ℕ → V) (new rest : List V) → new ≡ values_at (m.effect n store) (m.defs n) → BeginsWith m bottom n store (new ++ rest)
begins_with {V} m bottom n store new rest filled p low =
    front new rest p (omega (arith, low, ap length filled, length-map (m.defs n) (m.effect n store)))
    ∙ ap (λ row. get_or row p bottom) filled ∙ at_map (m.effect n store) (m.defs n) p low
  where
    front : (xs ys : List V) (k : ℕ) → k < length xs → get_or (xs ++ ys) k bottom ≡ get_or xs k bottom
    front [] ys k less = absurd (omega arith)
    front (x ∷ xs) ys zero less = refl
    front (x ∷ xs) ys (suc k) less = front xs ys k (omega arith)

    at_map : (f : ℕ → V) (ls : List ℕ) (k : ℕ) → k < length ls → get_or (map f ls) k bottom ≡ f (get_or ls k 0)
    at_map f [] k less = absurd (omega arith)
    at_map f (l ∷ ls) zero less = refl
    at_map f (l ∷ ls) (suc k) less = at_map f ls k (omega arith)

-- what comes back of a list that was lent whole
pub returned_whole : {V : Type 0} (lent back : List V) (long : ℕ) → length back ≡ long → length lent ≡ long → take long (back ++ drop (length back) lent) ≡ back
returned_whole {V} lent back long back_is lent_is = ap (λ xs. take long (back ++ xs)) (nothing (length back) lent (omega (arith, back_is, lent_is))) ∙ all long back back_is
  where
    nothing : (k : ℕ) (xs : List V) → length xs ≤ k → drop k xs ≡ []
    nothing zero [] le = refl
    nothing zero (x ∷ xs) le = absurd (omega arith)
    nothing (suc k) [] le = refl
    nothing (suc k) (x ∷ xs) le = nothing k xs (omega arith)

    all : (k : ℕ) (xs : List V) → length xs ≡ k → take k (xs ++ []) ≡ xs
    all zero [] is = refl
    all zero (x ∷ xs) is = absurd (omega (arith, is))
    all (suc k) [] is = absurd (omega (arith, is))
    all (suc k) (x ∷ xs) is = ap (λ ys. x ∷ ys) (all k xs (omega (arith, is)))

-- the locations that are still to be sent
pub pending_next : {V : Type 0} (m : Meaning V) (n : ℕ) (places : List ℕ) (i : ℕ) → i < length places → locations_at m n (drop i places) ≡ get_or (m.defs n) (get_or places i 0) 0 ∷ locations_at m n (drop (i + 1) places)
pending_next m n places i low = ap (locations_at m n) (dropped places i low)
  where
    dropped : (ps : List ℕ) (k : ℕ) → k < length ps → drop k ps ≡ get_or ps k 0 ∷ drop (k + 1) ps
    dropped [] k less = absurd (omega arith)
    dropped (p ∷ ps) zero less = ap (λ k. p ∷ drop k (p ∷ ps)) (one 1 refl)
      where
        one : (k : ℕ) → k ≡ 1 → suc zero ≡ 0 + 1
        one k e = omega arith
    dropped (p ∷ ps) (suc k) less = dropped ps k (omega arith) ∙ ap (λ j. get_or ps k 0 ∷ drop j (p ∷ ps)) (next k)
      where
        next : (j : ℕ) → suc (j + 1) ≡ suc j + 1
        next j = omega arith

pub pending_none : {V : Type 0} (m : Meaning V) (n : ℕ) (places : List ℕ) (i : ℕ) → length places < i + 1 → locations_at m n (drop i places) ≡ []
pending_none m n places i past = ap (locations_at m n) (dropped places i past)
  where
    dropped : (ps : List ℕ) (k : ℕ) → length ps < k + 1 → drop k ps ≡ []
    dropped [] zero less = refl
    dropped [] (suc k) less = refl
    dropped (p ∷ ps) zero less = absurd (omega arith)
    dropped (p ∷ ps) (suc k) less = dropped ps k (omega arith)
