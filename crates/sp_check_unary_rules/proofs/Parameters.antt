-- The type that the argument of a number is converted to.
use Rattle.std.proofs.Common.{◌≡◌, ℕ, zero, suc, List, [], ◌∷◌, refl}
use Rattle.std.specs.Prelude.{slice_get}
use Rattle.sp_types.specs.Types.{CType, no_types}
use Rattle.sp_types.specs.View.{types}
use Rattle.sp_check_operands.specs.Conversions.{promoted_type}
use Rattle.sp_check_binary_rules.specs.Rules.{behind_by, wanted, either}

pub wanted_here : (n : ℕ) (ts : List CType) (t : CType) → wanted (behind_by n (types ts)) t ≡ either (slice_get ts n) t
wanted_here zero [] t = refl
wanted_here zero (u ∷ ts) t = refl
wanted_here (suc n) [] t = refl
wanted_here (suc n) (u ∷ ts) t = wanted_here n ts t

pub wanted_none : (n : ℕ) (t : CType) → wanted (behind_by n no_types) t ≡ promoted_type t
wanted_none zero t = refl
wanted_none (suc n) t = refl
