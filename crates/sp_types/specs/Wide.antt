-- Integers of 128 bits in two words.
use Rattle.std.specs.Prelude.{ℤ, pos, ◌+ℤ◌, ◌*ℤ◌, ◌^◌}
use Rattle.sp_types.specs.declared.wide.WideInt.{WideInt}

abbrev pub wide_of : WideInt → ℤ
wide_of w = w.high *ℤ pos (2 ^ 64) +ℤ pos w.low
