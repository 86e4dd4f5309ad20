use Rattle.std.proofs.Common.{◌≡◌, ◌++◌}
use Rattle.sp_octagon.specs.Made.{listed}
use Rattle.sp_octagon.specs.Octagons.{entries}
use Rattle.sp_octagon.proofs.kept.push_row.Given as goal

abbrev pub invariant-columns : goal.invariant-columns
invariant-columns l = l.bounds.items ≡ l.fn.bounds.items ++ listed l.column (entries l.octagon l.row)
