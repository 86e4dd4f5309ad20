-- Statements one after another.
use Rattle.std.proofs.Common.{◌≡◌, ℕ, zero, suc, ◌<◌, ◌≤◌, List, [], ◌∷◌, length, map, drop, get_or, refl, ap, sym, arith}
use Rattle.sp_parse_trees.specs.Syntax.{no_statements, next_statement}
use Rattle.sp_parse_trees.specs.View.{statement_of, statements}
use Rattle.sp_parse_trees.specs.declared.statement.Statement.{Statement as CodeStatement}

pub first_statement : (xs : List CodeStatement) (i : ℕ) (x : CodeStatement) → i < length xs → x ≡ get_or xs i x → statements (map statement_of (drop i xs)) ≡ next_statement (statement_of x) (statements (map statement_of (drop (suc i) xs)))
first_statement [] i x h e = absurd (omega arith)
first_statement (y ∷ ys) zero x h e = ap (λ z. next_statement (statement_of z) (statements (map statement_of ys))) (sym e)
first_statement (y ∷ ys) (suc i) x h e = first_statement ys i x (omega arith) e

pub no_statement_left : (xs : List CodeStatement) (i : ℕ) → length xs ≤ i → statements (map statement_of (drop i xs)) ≡ no_statements
no_statement_left [] zero h = refl
no_statement_left [] (suc i) h = refl
no_statement_left (y ∷ ys) zero h = absurd (omega arith)
no_statement_left (y ∷ ys) (suc i) h = no_statement_left ys i (omega arith)
