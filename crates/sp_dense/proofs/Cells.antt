-- What a solved table gives at a node and a location that are there, and past the counts.
use Rattle.std.proofs.Common.{◌≡◌, ◌⊎◌, inl, inr, ◌∙◌, ℕ, ◌<◌, ◌≤◌, List, [], Vec, map, get_or, Some, None, sym, ap, arith}
use Rattle.std.specs.Prelude.{option_and_then, slice_get}
use Rattle.std.specs.declared.alloc.Global.{Global}
use Rattle.std.proofs.lemmas.Option.{slice_get-get_or, slice_get_past}
use Rattle.std.proofs.lemmas.List.{length-map}
use Rattle.std.proofs.lemmas.Bool.Decides.{nat_tests}
use Rattle.sp_lattice.specs.Lattice.{Order}
use Rattle.sp_lattice.specs.System.{Meaning}
use Rattle.sp_lattice.specs.Dense.{input, table_of}
use Rattle.sp_dense.specs.inner.Visit.{IsStoreGrid}
use Rattle.sp_dense.specs.Solution.{Grids, cell, within_counts, IsSolved}

module _ {V : Type 0} (m : Meaning V) where
  pub within_counts-there : (n l : ℕ) (v : V) → n < m.nodes → l < m.locations → within_counts m n l v ≡ Some v
  within_counts-there n l v low l_low = grind (arith, nat_tests)

  pub within_counts-past_nodes : (n l : ℕ) (v : V) → m.nodes ≤ n → within_counts m n l v ≡ None
  within_counts-past_nodes n l v past = grind (arith, nat_tests)

  pub within_counts-past_locations : (n l : ℕ) (v : V) → m.locations ≤ l → within_counts m n l v ≡ None
  within_counts-past_locations n l v past = grind (arith, nat_tests)

below : (k n : ℕ) → (k < n) ⊎ (n ≤ k)
below k n = grind arith

module _ {V : Type 0} (o : Order V) (m : Meaning V) where
  -- rows that hold a table's values at each node and location, as a grid of cells
  pub cells_of_rows : (rows : List (Vec V Global)) (table : ℕ → ℕ → V) → IsStoreGrid m rows → ((n l : ℕ) → n < m.nodes → l < m.locations → table_of o.bottom rows n l ≡ table n l) → (n l : ℕ) → cell (map (λ row. row.items) rows) n l ≡ within_counts m n l (table n l)
  cells_of_rows rows table grid same n l = by (below n m.nodes) (below l m.locations)
    where
      rows_of : List (List V)
      rows_of = map (λ row. row.items) rows

      there : n < m.nodes → cell rows_of n l ≡ slice_get (get_or rows_of n []) l
      there low = ap (λ row. option_and_then (λ values. slice_get values l) row) (slice_get-get_or rows_of n [] (omega (arith, low, grid.long, length-map rows (λ (row : Vec V Global). row.items))))

      by : (n < m.nodes) ⊎ (m.nodes ≤ n) → (l < m.locations) ⊎ (m.locations ≤ l) → cell rows_of n l ≡ within_counts m n l (table n l)
      by (inl low) (inl l_low) =
          there low ∙ slice_get-get_or (get_or rows_of n []) l o.bottom (omega (arith, l_low, grid.rows_long n low))
          ∙ ap Some (same n l low l_low) ∙ sym (within_counts-there m n l (table n l) low l_low)
      by (inl low) (inr past) =
          there low ∙ slice_get_past (get_or rows_of n []) l (omega (arith, past, grid.rows_long n low)) ∙ sym (within_counts-past_locations m n l (table n l) past)
      by (inr past) h =
          ap (λ row. option_and_then (λ values. slice_get values l) row) (slice_get_past rows_of n (omega (arith, past, grid.long, length-map rows (λ (row : Vec V Global). row.items))))
          ∙ sym (within_counts-past_nodes m n l (table n l) past)

module _ {V : Type 0} (o : Order V) (m : Meaning V) (grids : Grids V) (solved : IsSolved o m grids) where
  -- the input and the output of a node at a location that is there
  pub input_there : (n l : ℕ) → n < m.nodes → l < m.locations → cell grids.inputs n l ≡ Some (input o m solved.dense n l)
  input_there n l low l_low = solved.inputs n l ∙ within_counts-there m n l (input o m solved.dense n l) low l_low

  pub output_there : (n l : ℕ) → n < m.nodes → l < m.locations → cell grids.outputs n l ≡ Some (solved.dense n l)
  output_there n l low l_low = solved.outputs n l ∙ within_counts-there m n l (solved.dense n l) low l_low
