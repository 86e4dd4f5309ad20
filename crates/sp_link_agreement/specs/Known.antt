-- What is known of pairs that have been compared.
use Rattle.std.specs.Prelude.{◌≡◌, ℕ, List, Some, slice_get}
use Rattle.sp_types.specs.Types.{Struct}
use Rattle.sp_link_agreement.specs.Depths.{Agree, AllAgree}
use Rattle.sp_link_agreement.specs.declared.pairs.Known.{Known}

-- each of these pairs differs
abbrev pub NoneAgrees : List (List Struct) → List ((ℕ × ℕ) × (ℕ × ℕ)) → Type 0
NoneAgrees us ps =
    (i : ℕ) (p : (ℕ × ℕ) × (ℕ × ℕ)) → slice_get ps i ≡ Some p → ¬ Agree us p.0 p.1

abbrev pub IsKnown : List (List Struct) → Known → Type 0
IsKnown us k = AllAgree us k.agreeing.keys × NoneAgrees us k.differing.keys
