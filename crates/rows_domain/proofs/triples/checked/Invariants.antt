use Rattle.std.proofs.Common.{◌≡◌, length, All}
use Rattle.sp_engine_keeping.specs.Triples.{Ascends, AreWithin}
use Rattle.rows_domain.proofs.triples.checked.Given as goal

abbrev pub invariant-loop-list : goal.invariant-loop-list
invariant-loop-list l = (length l.rows ≡ l.list-index) × All Ascends l.rows × All (AreWithin l.locations l.nodes) l.rows
