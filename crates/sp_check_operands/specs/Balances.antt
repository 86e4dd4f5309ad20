-- What balances and lists of members of the code stand for.
use Rattle.std.specs.Prelude.{ℕ, List, map}
use Rattle.sp_types.specs.Types.{CType}
use Rattle.sp_types.specs.declared.ctype.CType.{CType as CodeType}
use Rattle.sp_types.specs.View.{type_of}
use Rattle.sp_check_operands.specs.declared.operands.Balance.{Balance as CodeBalance}
use Rattle.sp_check_operands.specs.Operands.{Balance}

abbrev pub balance_of : CodeBalance → Balance
balance_of b = record { left = type_of b.left; right = type_of b.right; result = type_of b.result }

abbrev pub members_seen : List (ℕ × CodeType) → List (ℕ × CType)
members_seen ms = map (λ m. (m.0, type_of m.1)) ms
