use Rattle.std.proofs.Common.{◌≡◌, ◌+◌, ◌-◌, ◌≤◌, length, take}
use Rattle.std.specs.Io.KnownBytes.{Appends}
use Rattle.sp_outside.specs.Told.{TakesRoom}
use Rattle.sp_outside.proofs.output.write_whole.Given as goal

-- the first `sent` bytes went out, a byte or more a call, and nothing failed
abbrev pub invariant-pieces : goal.invariant-pieces
invariant-pieces g l = record {
  front : Appends (g.W.Sink.written l.fn.out) (g.W.Sink.written l.out) (take l.sent l.bytes);
  less_room : TakesRoom (g.W.Sink.room l.fn.out) (g.W.Sink.room l.out) l.sent;
  within : l.sent ≤ length l.bytes;
  no_fault : g.W.Sink.faults l.out ≡ g.W.Sink.faults l.fn.out;
  few : g.W.Sink.calls l.out ≤ g.W.Sink.calls l.fn.out + l.sent;
  failures : g.W.Sink.failing l.out ≡ g.W.Sink.failing l.fn.out;
}

abbrev pub decreases-pieces : goal.decreases-pieces
decreases-pieces g l = length l.bytes - l.sent
