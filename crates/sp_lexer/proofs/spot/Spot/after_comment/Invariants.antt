use Rattle.std.proofs.Common.{◌≡◌, ◌+◌, ◌≤◌, drop}
use Rattle.sp_lexer.specs.Scan.{place_after}
use Rattle.sp_lexer.proofs.spot.Spot.after_comment.Given as goal

-- the place so far, before the bytes that are left
abbrev pub invariant-loop-b : goal.invariant-loop-b
invariant-loop-b l = record {
  place : place_after (record { name = l.name; line = l.line; column = l.column }) (drop l.b-index l.comment) ≡ place_after l.fn.self.place l.comment;
  line : l.line ≤ l.fn.self.place.line + l.b-index;
  column : l.column ≤ l.fn.self.place.column + l.b-index;
}
