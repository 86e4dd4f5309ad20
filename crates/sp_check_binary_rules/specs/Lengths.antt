-- Arrays (C90 6.5.4.2).
use Rattle.std.specs.Prelude.{ℕ, ℤ, pos, negsuc, ◌-◌, ◌*◌, ◌^◌, Bool, true, ◌&&◌, List, Option, Some, None, if◌then◌else◌, nat_le}
use Rattle.sp_tree.specs.declared.fault.Place.{Place}
use Rattle.sp_tree.specs.declared.fault.FaultKind.TheVariants.{IncompleteType, NotAConstant, BadLength}
use Rattle.sp_types.specs.Types.{CType, array, Struct}
use Rattle.sp_types.specs.Layout.{layout}
use Rattle.sp_base_checked.specs.Answers.{Checked, accepted, where_met, where_given}

-- from 1 to 2^31 - 1
abbrev pub length_from : ℤ → Option ℕ
length_from (pos n) = if nat_le 1 n && nat_le n (2 ^ 31 - 1) then Some n else None
length_from (negsuc n) = None

abbrev pub length_given : Option ℤ → Place → Checked ℕ
length_given z at = where_given z NotAConstant at (λ z. where_given (length_from z) BadLength at (λ n. accepted n))

abbrev pub array_fits : ℕ → Option ℕ → Bool
array_fits size None = true
array_fits size (Some n) = nat_le (size * n) (2 ^ 40)

-- elements of a complete type, and at most 2^40 bytes
abbrev pub made_array : List Struct → CType → Option ℕ → Place → Checked CType
made_array ss base n p =
    where_given (layout ss base) IncompleteType p (λ e.
    where_met (array_fits e.size n) BadLength p
    (accepted (array base n)))
