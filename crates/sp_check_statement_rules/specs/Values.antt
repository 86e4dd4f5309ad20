-- The value of a case, converted to the type of its switch (C90 6.2.1.2, 6.6.4.2).
use Rattle.std.specs.Prelude.{ℤ, pos, ◌-ℤ◌, ◌^◌, int_le, if◌then◌else◌}
use Rattle.std.specs.Int.{int_rem_euclid}
use Rattle.sp_types.specs.declared.ctype.IntKind.{IntKind}
use Rattle.sp_check_constants.specs.Constants.{greatest, width}

-- the value that the type has, modulo 2 to its width: of a signed type it may be negative
abbrev pub signed_of : IntKind → ℤ → ℤ
signed_of k z = if int_le z (greatest k) then z else z -ℤ pos (2 ^ width k)

abbrev pub as_kind : IntKind → ℤ → ℤ
as_kind k z = signed_of k (int_rem_euclid z (pos (2 ^ width k)))
