use Rattle.std.proofs.Common.{◌≡◌, ◌+◌, ◌-◌, ◌<◌, ◌≤◌, true, Some, length, vec_len}
use Rattle.std.specs.Io.KnownBytes.{Consumes}
use Rattle.sp_outside.specs.Told.{missing, IfHeld, bytes_left}
use Rattle.sp_outside.proofs.input.read_whole.Given as goal

-- the pieces so far are the front of the text, each took a call and gave a byte, and nothing failed
abbrev pub invariant-pieces : goal.invariant-pieces
invariant-pieces g l = record {
  texts : g.F.Files.text_of l.files ≡ g.F.Files.text_of l.fn.files;
  failures : g.F.Files.failing l.files ≡ g.F.Files.failing l.fn.files;
  no_fault : g.F.Files.faults l.files ≡ g.F.Files.faults l.fn.files;
  same_name : g.F.Files.asked l.files ≡ Some l.fn.name;
  is_open : g.F.Files.begun l.files ≡ true;
  has_text : g.F.Files.text_of l.fn.files l.fn.name ≡ missing → ⊥;
  front : IfHeld (g.F.Files.text_of l.fn.files l.fn.name) (λ bytes. Consumes (Some bytes) (bytes_left (g.F.Files.text_of l.files) (g.F.Files.asked l.files) (g.F.Files.at l.files)) l.text.items);
  came : vec_len l.text ≡ g.F.Files.given l.files;
  fits : vec_len l.text ≤ l.max;
  few : g.F.Files.calls l.files ≤ g.F.Files.calls l.fn.files + vec_len l.text + 1;
  has_room : 0 < length l.piece;
}

abbrev pub decreases-pieces : goal.decreases-pieces
decreases-pieces g l = l.max - vec_len l.text
