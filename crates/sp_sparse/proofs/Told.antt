-- What a solved table tells at a use and at a definition: what every dense least solution has there.
use Rattle.std.proofs.Common.{◌≡◌, ◌∙◌, ℕ, ◌<◌, true, ◌&&◌, nat_lt, if◌then◌else◌, List, Some, None, ap, arith}
use Rattle.std.proofs.lemmas.Bool.Decides.{nat_tests}
use Rattle.sp_lattice.specs.Lattice.{Order}
use Rattle.sp_lattice.specs.System.{Meaning, has}
use Rattle.sp_lattice.specs.Dense.{input}
use Rattle.sp_sparse.specs.Solution.{SparseCells, cell, within_list, IsSolved}

-- a value that is within a node's list
pub within_list-there : {V : Type 0} (m : Meaning V) (lists : ℕ → List ℕ) (n l : ℕ) (v : V) → n < m.nodes → has l (lists n) ≡ true → within_list m lists n l v ≡ Some v
within_list-there m lists n l v low listed = ap (λ b. if b && has l (lists n) then Some v else None) (below n m.nodes low) ∙ ap (λ b. if b then Some v else None) listed
  where
    below : (a b : ℕ) → a < b → nat_lt a b ≡ true
    below a b h = grind (arith, nat_tests)

module _ {V : Type 0} (o : Order V) (m : Meaning V) (table : SparseCells V) (solved : IsSolved o m table) where
  pub input_there : (n l : ℕ) → n < m.nodes → has l (m.uses n) ≡ true → cell table.inputs n l ≡ Some (input o m solved.dense n l)
  input_there n l low used = solved.inputs n l ∙ within_list-there m m.uses n l (input o m solved.dense n l) low used

  pub output_there : (n l : ℕ) → n < m.nodes → has l (m.defs n) ≡ true → cell table.outputs n l ≡ Some (solved.dense n l)
  output_there n l low defined = solved.outputs n l ∙ within_list-there m m.defs n l (solved.dense n l) low defined
