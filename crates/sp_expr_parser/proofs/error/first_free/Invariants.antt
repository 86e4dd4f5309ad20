-- All numbers so far are type names.
use Rattle.std.proofs.Common.{◌≡◌, ◌<◌, ◌==◌, ℕ, true}
use Rattle.std.specs.List.{list_any}
use Rattle.sp_expr_parser.proofs.error.first_free.Given as goal

abbrev pub invariant-loop-name : goal.invariant-loop-name
invariant-loop-name l = (m : ℕ) → m < l.name → list_any (λ t. t == m) l.fn.types ≡ true
