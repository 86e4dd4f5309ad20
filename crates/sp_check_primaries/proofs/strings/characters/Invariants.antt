use Rattle.std.proofs.Common.{◌≡◌, ◌++◌, drop, map}
use Rattle.sp_check_primaries.specs.Literals.{characters, leaf_seen}
use Rattle.sp_check_primaries.proofs.strings.characters.Given as goal

abbrev pub invariant-bytes : goal.invariant-bytes
invariant-bytes l = map leaf_seen l.leaves.items ++ characters l.kind l.place l.i (drop l.i l.bytes) ≡ characters l.kind l.place 0 l.bytes
