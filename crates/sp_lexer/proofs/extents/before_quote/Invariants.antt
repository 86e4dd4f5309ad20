use Rattle.std.proofs.Common.{◌≡◌, ◌+◌, drop, false}
use Rattle.std.specs.Option.{option_map}
use Rattle.sp_lexer.specs.Extents.{before_quote}
use Rattle.sp_lexer.proofs.extents.before_quote.Given as goal

-- the quote that comes in the bytes that are left is the one of all
abbrev pub invariant-loop-i : goal.invariant-loop-i
invariant-loop-i l = option_map (λ n. n + l.i) (before_quote l.kept l.quote (drop l.i l.bytes)) ≡ before_quote false l.quote l.bytes
