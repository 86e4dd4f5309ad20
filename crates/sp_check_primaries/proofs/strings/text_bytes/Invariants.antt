use Rattle.std.proofs.Common.{◌≡◌, ◌++◌, drop}
use Rattle.sp_check_primaries.specs.Literals.{text_bytes}
use Rattle.sp_check_primaries.proofs.strings.text_bytes.Given as goal

abbrev pub invariant-parts : goal.invariant-parts
invariant-parts l = l.bytes.items ++ text_bytes l.names (drop l.i l.parts) ≡ text_bytes l.names l.parts
