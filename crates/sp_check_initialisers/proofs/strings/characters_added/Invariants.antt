use Rattle.std.proofs.Common.{◌≡◌, ◌++◌, drop, map}
use Rattle.sp_check_primaries.specs.Literals.{characters, leaf_seen}
use Rattle.sp_check_initialisers.proofs.strings.characters_added.Given as goal

abbrev pub invariant-bytes : goal.invariant-bytes
invariant-bytes l =
    map leaf_seen l.all.items ++ characters l.kind l.place l.number (drop l.i l.bytes)
    ≡ map leaf_seen l.fn.all.items ++ characters l.kind l.place l.from l.bytes
