-- Grids of rows: what stands in a row, and in the table that the grid is.
use Rattle.std.proofs.Common.{◌≡◌, ◌≢◌, ◌⊎◌, inl, inr, ℕ, zero, suc, ◌<◌, List, [], ◌∷◌, length, get_or, set, Vec, refl, sym, ap, ◌∙◌, arith, length-set}
use Rattle.std.proofs.lemmas.List.{length-map}
use Rattle.std.specs.declared.alloc.Global.{Global}
use Rattle.sp_lattice.specs.System.{Meaning}
use Rattle.sp_lattice.specs.Flat.{vector_at}
use Rattle.sp_dense.specs.inner.Visit.{IsStoreGrid}

which : (k n : ℕ) → (k ≡ n) ⊎ (k ≢ n)
which k n = grind arith

module _ {V : Type 0} where
  pub vector_at-get_or : (rows : List (Vec V Global)) (n : ℕ) (d : Vec V Global) → n < length rows → vector_at rows n ≡ (get_or rows n d).items
  vector_at-get_or [] n d low = absurd (omega arith)
  vector_at-get_or (row ∷ rows) zero d low = refl
  vector_at-get_or (row ∷ rows) (suc n) d low = vector_at-get_or rows n d (omega arith)

  -- a grid has a row for each node
  pub count_long : (m : Meaning V) (rows : List (Vec V Global)) → IsStoreGrid m rows → length rows ≡ m.nodes
  count_long m rows grid = sym (length-map rows (λ (row : Vec V Global). row.items)) ∙ grid.long

  -- a row of a grid has a value for each location
  pub row_long : (m : Meaning V) (rows : List (Vec V Global)) (n : ℕ) (row : Vec V Global) → IsStoreGrid m rows → n < m.nodes → row ≡ get_or rows n row → length row.items ≡ m.locations
  row_long m rows n row grid low at =
      ap (λ (r : Vec V Global). length r.items) at ∙ ap length (sym (vector_at-get_or rows n row (omega (arith, count_long m rows grid)))) ∙ grid.rows_long n low

  pub vector_at-set_same : (rows : List (Vec V Global)) (n : ℕ) (row : Vec V Global) → n < length rows → vector_at (set rows n row) n ≡ row.items
  vector_at-set_same [] n row low = absurd (omega arith)
  vector_at-set_same (r ∷ rows) zero row low = refl
  vector_at-set_same (r ∷ rows) (suc n) row low = vector_at-set_same rows n row (omega arith)

  pub vector_at-set_other : (rows : List (Vec V Global)) (n k : ℕ) (row : Vec V Global) → k ≢ n → vector_at (set rows n row) k ≡ vector_at rows k
  vector_at-set_other [] n k row apart = refl
  vector_at-set_other (r ∷ rows) zero zero row apart = absurd (apart refl)
  vector_at-set_other (r ∷ rows) zero (suc k) row apart = refl
  vector_at-set_other (r ∷ rows) (suc n) zero row apart = refl
  vector_at-set_other (r ∷ rows) (suc n) (suc k) row apart = vector_at-set_other rows n k row (λ e. apart (ap suc e))

  -- a row of the right length in place of another
  pub grid_set : (m : Meaning V) (rows : List (Vec V Global)) (n : ℕ) (row : Vec V Global) → IsStoreGrid m rows → n < m.nodes → length row.items ≡ m.locations → IsStoreGrid m (set rows n row)
  grid_set m rows n row grid low long = record {
    long = length-map (set rows n row) (λ (row : Vec V Global). row.items) ∙ length-set rows n row ∙ count_long m rows grid;
    rows_long = λ k k_low. by k k_low (which k n);
  }
    where
      by : (k : ℕ) → k < m.nodes → (k ≡ n) ⊎ (k ≢ n) → length (vector_at (set rows n row) k) ≡ m.locations
      by k k_low (inl same) = ap (λ i. length (vector_at (set rows n row) i)) same ∙ ap length (vector_at-set_same rows n row (omega (arith, count_long m rows grid, low))) ∙ long
      by k k_low (inr apart) = ap length (vector_at-set_other rows n k row apart) ∙ grid.rows_long k k_low
