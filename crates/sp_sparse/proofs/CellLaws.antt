-- What a table's rows tell at a location, and how rows of least values begin.
use Rattle.std.proofs.Common.{◌≡◌, ◌⊎◌, inl, inr, ℕ, zero, suc, ◌+◌, ◌<◌, ◌≤◌, Bool, true, false, cond, ◌&&◌, ◌||◌, nat_eq, nat_lt, if◌then◌else◌, List, [], ◌∷◌, ◌++◌, length, get_or, map, replicate, Some, None, refl, sym, ap, ◌∙◌, subst, arith}
use Rattle.std.specs.Prelude.{slice_get}
use Rattle.std.specs.List.Sorted.{IsStrictlyIncreasing}
use Rattle.std.proofs.lemmas.Bool.{false≢true}
use Rattle.std.proofs.lemmas.Bool.Decides.{nat_tests}
use Rattle.std.proofs.lemmas.Option.{slice_get-get_or}
use Rattle.std.proofs.lemmas.List.{length-map, length-replicate}
use Rattle.std.proofs.lemmas.List.Kept.{AllPairs-from_increasing}
use Rattle.sp_lattice.specs.System.{Meaning, has, written}
use Rattle.sp_lattice.specs.Flat.{row_at}
use Rattle.sp_sparse.specs.Solution.{Cells, value_at, cell, IsFormed, within_list}
use Rattle.sp_sparse.specs.inner.Grid.{IsListGrid, AreLists, table_at}
use Rattle.sp_sparse.proofs.Numbers.{side, below_next, same_number, apart_numbers}
use Rattle.sp_sparse.proofs.Few.{rest_rises}
use Rattle.sp_sparse.proofs.GridLaws.{row_at-past, row_at-push_last, row_at-push_other}

-- rows of values at their locations
abbrev pub cells : {V : Type 0} → List (List ℕ) → List (List V) → Cells V
cells places values = record { places = places; values = values }

module _ {V : Type 0} where
  -- a row has nothing at a location that isn't among its own
  pub value_at-absent : (ls : List ℕ) (vs : List V) (l : ℕ) → has l ls ≡ false → value_at ls vs l ≡ None
  value_at-absent [] vs l h = refl
  value_at-absent (p ∷ ls) [] l h = refl
  value_at-absent (p ∷ ls) (v ∷ vs) l h = by (nat_eq l p) h (value_at-absent ls vs l)
    where
      by : (b : Bool) → (b || has l ls) ≡ false → (has l ls ≡ false → value_at ls vs l ≡ None) → cond b (Some v) (value_at ls vs l) ≡ None
      by true k more = absurd (false≢true (sym k))
      by false k more = more k

  -- at one of its own, what a store of the row has there
  pub value_at-there : (bottom : V) (ls : List ℕ) (vs : List V) (l : ℕ) → length vs ≡ length ls → has l ls ≡ true → value_at ls vs l ≡ Some (written (λ k. bottom) ls vs l)
  value_at-there bottom [] vs l long h = absurd (false≢true h)
  value_at-there bottom (p ∷ ls) [] l long h = absurd (omega arith)
  value_at-there bottom (p ∷ ls) (v ∷ vs) l long h = by (nat_eq l p) h (value_at-there bottom ls vs l (omega arith))
    where
      by : (b : Bool) → (b || has l ls) ≡ true → (has l ls ≡ true → value_at ls vs l ≡ Some (written (λ k. bottom) ls vs l)) → cond b (Some v) (value_at ls vs l) ≡ Some (cond b v (written (λ k. bottom) ls vs l))
      by true k more = refl
      by false k more = more k

  -- and at the location that stands at a place, the value there
  pub value_at-place : (ls : List ℕ) (vs : List V) (p : ℕ) → IsStrictlyIncreasing ls → length vs ≡ length ls → p < length ls → value_at ls vs (get_or ls p 0) ≡ slice_get vs p
  value_at-place [] vs p rises long low = absurd (omega arith)
  value_at-place (l ∷ ls) [] p rises long low = absurd (omega arith)
  value_at-place (l ∷ ls) (v ∷ vs) zero rises long low = ap (λ b. cond b (Some v) (value_at ls vs l)) (same_number l)
  value_at-place (l ∷ ls) (v ∷ vs) (suc p) rises long low =
      ap (λ b. cond b (Some v) (value_at ls vs (get_or ls p 0))) (above (get_or ls p 0) l (AllPairs-from_increasing (l ∷ ls) rises 0 (suc p) 0 (omega arith) low))
      ∙ value_at-place ls vs p (rest_rises l ls rises) (omega arith) (omega arith)
    where
      above : (a b : ℕ) → b < a → nat_eq a b ≡ false
      above a b h = apart_numbers a b (omega arith)

  written-least : (bottom : V) (ls : List ℕ) (k l : ℕ) → written (λ j. bottom) ls (replicate k bottom) l ≡ bottom
  written-least bottom [] k l = refl
  written-least bottom (d ∷ ls) zero l = refl
  written-least bottom (d ∷ ls) (suc k) l = by (nat_eq l d) (written-least bottom ls k l)
    where
      by : (b : Bool) → written (λ j. bottom) ls (replicate k bottom) l ≡ bottom → cond b bottom (written (λ j. bottom) ls (replicate k bottom) l) ≡ bottom
      by true more = refl
      by false more = more

  -- rows of least values, one for each list
  least_row : (bottom : V) (places : List (List ℕ)) (n : ℕ) → n < length places → row_at (map (λ (list : List ℕ). replicate (length list) bottom) places) n ≡ replicate (length (row_at places n)) bottom
  least_row bottom [] n low = absurd (omega arith)
  least_row bottom (p ∷ places) zero low = refl
  least_row bottom (p ∷ places) (suc n) low = least_row bottom places n (omega arith)

  module _ (bottom : V) (nodes : ℕ) (lists : ℕ → List ℕ) (places : List (List ℕ)) (rows : List (List V)) (are : AreLists nodes lists places) (is : rows ≡ map (λ (list : List ℕ). replicate (length list) bottom) places) where
    rows_long : length rows ≡ nodes
    rows_long = ap length is ∙ length-map places (λ (list : List ℕ). replicate (length list) bottom) ∙ are.long

    row_is : (n : ℕ) → n < nodes → row_at rows n ≡ replicate (length (lists n)) bottom
    row_is n low = ap (λ rs. row_at rs n) is ∙ least_row bottom places n (omega (arith, low, are.long)) ∙ ap (λ list. replicate (length list) bottom) (are.same n low)

    pub least_grid : IsListGrid nodes lists rows
    least_grid = record { long = rows_long; rows_long = λ n low. ap length (row_is n low) ∙ length-replicate (length (lists n)) bottom }

    pub least_table : (n l : ℕ) → table_at bottom lists rows n l ≡ bottom
    least_table n l = by (side n nodes)
      where
        by : (n < nodes) ⊎ (nodes ≤ n) → table_at bottom lists rows n l ≡ bottom
        by (inl low) = ap (λ row. written (λ j. bottom) (lists n) row l) (row_is n low) ∙ written-least bottom (lists n) (length (lists n)) l
        by (inr past) = ap (λ row. written (λ j. bottom) (lists n) row l) (row_at-past rows n (omega (arith, past, rows_long))) ∙ written-least bottom (lists n) 0 l

-- one more list behind the others
pub lists_more : (lists : ℕ → List ℕ) (rows : List (List ℕ)) (list : List ℕ) (n : ℕ) → length rows ≡ n → ((k : ℕ) → k < n → row_at rows k ≡ lists k) → list ≡ lists n → (k : ℕ) → k < n + 1 → row_at (rows ++ list ∷ []) k ≡ lists k
lists_more lists rows list n long so_far is k low = by (below_next k n low)
  where
    by : (k < n) ⊎ (k ≡ n) → row_at (rows ++ list ∷ []) k ≡ lists k
    by (inl less) = row_at-push_other rows list k (omega (arith, less, long)) ∙ so_far k less
    by (inr same) = ap (λ j. row_at (rows ++ list ∷ []) j) (same ∙ sym long) ∙ row_at-push_last rows list ∙ is ∙ ap lists (sym same)

module _ {V : Type 0} (nodes : ℕ) (lists : ℕ → List ℕ) (places : List (List ℕ)) (rows : List (List V)) (are : AreLists nodes lists places) (grid : IsListGrid nodes lists rows) where
  -- lists that ascend and rows that fit them
  pub formed : ((n : ℕ) → n < nodes → IsStrictlyIncreasing (lists n)) → IsFormed (cells places rows)
  formed rises = record {
    rows = grid.long ∙ sym are.long;
    ascends = λ n. ascends n (side n nodes);
    long = λ n. long n (side n nodes);
  }
    where
      ascends : (n : ℕ) → (n < nodes) ⊎ (nodes ≤ n) → IsStrictlyIncreasing (row_at places n)
      ascends n (inl low) = subst IsStrictlyIncreasing (sym (are.same n low)) (rises n low)
      ascends n (inr past) = subst IsStrictlyIncreasing (sym (row_at-past places n (omega (arith, past, are.long)))) (λ k h. absurd (omega arith))

      long : (n : ℕ) → (n < nodes) ⊎ (nodes ≤ n) → length (row_at rows n) ≡ length (row_at places n)
      long n (inl low) = grid.rows_long n low ∙ ap length (sym (are.same n low))
      long n (inr past) = ap length (row_at-past rows n (omega (arith, past, grid.long))) ∙ ap length (sym (row_at-past places n (omega (arith, past, are.long))))

  -- what such rows tell at each node and location
  pub cells_are : (m : Meaning V) (bottom : V) (dense : ℕ → ℕ → V) → nodes ≡ m.nodes → ((n l : ℕ) → n < nodes → has l (lists n) ≡ true → table_at bottom lists rows n l ≡ dense n l) → (n l : ℕ) → cell (cells places rows) n l ≡ within_list m lists n l (dense n l)
  cells_are m bottom dense same values n l = by (side n nodes)
    where
      below : (t : Bool) → n < m.nodes → t ≡ has l (lists n) → within_list m lists n l (dense n l) ≡ (if t then Some (dense n l) else None)
      below t low is = ap (λ b. if b && has l (lists n) then Some (dense n l) else None) (test n m.nodes low) ∙ ap (λ b. if b then Some (dense n l) else None) (sym is)
        where
          test : (a b : ℕ) → a < b → nat_lt a b ≡ true
          test a b h = grind (arith, nat_tests)

      beyond : m.nodes ≤ n → within_list m lists n l (dense n l) ≡ None
      beyond past = ap (λ b. if b && has l (lists n) then Some (dense n l) else None) (test n m.nodes past)
        where
          test : (a b : ℕ) → b ≤ a → nat_lt a b ≡ false
          test a b h = grind (arith, nat_tests)

      there : n < nodes → (t : Bool) → t ≡ has l (lists n) → value_at (row_at places n) (row_at rows n) l ≡ within_list m lists n l (dense n l)
      there low true is =
          ap (λ ls. value_at ls (row_at rows n) l) (are.same n low) ∙ value_at-there bottom (lists n) (row_at rows n) l (grid.rows_long n low) (sym is)
          ∙ ap Some (values n l low (sym is)) ∙ sym (below true (omega (arith, low, same)) is)
      there low false is =
          ap (λ ls. value_at ls (row_at rows n) l) (are.same n low) ∙ value_at-absent (lists n) (row_at rows n) l (sym is) ∙ sym (below false (omega (arith, low, same)) is)

      by : (n < nodes) ⊎ (nodes ≤ n) → cell (cells places rows) n l ≡ within_list m lists n l (dense n l)
      by (inl low) = there low (has l (lists n)) refl
      by (inr past) = ap (λ ls. value_at ls (row_at rows n) l) (row_at-past places n (omega (arith, past, are.long))) ∙ sym (beyond (omega (arith, past, same)))

-- the row of a node that is there, with the locations at which its values stand
module _ {V : Type 0} (places : List (List ℕ)) (values : List (List V)) (is : IsFormed (cells places values)) (n : ℕ) where
  pub read_absent : (l : ℕ) → has l (row_at places n) ≡ false → cell (cells places values) n l ≡ None
  read_absent l h = value_at-absent (row_at places n) (row_at values n) l h

  pub read_place : (p l : ℕ) (v : V) → p < length (row_at places n) → get_or (row_at places n) p 0 ≡ l → v ≡ get_or (row_at values n) p v → cell (cells places values) n l ≡ Some v
  read_place p l v p_low at v_is =
      ap (λ j. value_at (row_at places n) (row_at values n) j) (sym at) ∙ value_at-place (row_at places n) (row_at values n) p (is.ascends n) (is.long n) p_low
      ∙ slice_get-get_or (row_at values n) p v (omega (arith, p_low, is.long n)) ∙ ap Some (sym v_is)
