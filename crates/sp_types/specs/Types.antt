-- Types without pointers: what contracts and definitions speak of (C90 6.1.2.5).
use Rattle.std.specs.Prelude.{ℕ, Bool, List, Option}
use Rattle.sp_types.specs.declared.ctype.IntKind.{IntKind}
use Rattle.sp_types.specs.declared.ctype.FloatKind.{FloatKind}
use Rattle.sp_types.specs.declared.extents.Extent.{Extent}

mutual
  pub data CType : Type 0 where
    void : CType
    integer : IntKind → CType
    floating : FloatKind → CType
    pointer : CType → CType
    array : CType → Option ℕ → CType
    structure : ℕ → CType
    function : Signature → CType

  -- its result, its parameters where they are known, and whether more arguments may follow them
  pub data Signature : Type 0 where
    signature : CType → Parameters → Bool → Signature

  pub data Parameters : Type 0 where
    untold : Parameters
    listed : CTypes → Parameters

  pub data CTypes : Type 0 where
    no_types : CTypes
    next_type : CType → CTypes → CTypes

-- a struct or a union of the table
pub record Struct : Type 0 where
  pub tag : Option ℕ
  pub union : Bool
  pub members : Option (List (ℕ × CType))
  pub extent : Option Extent
  pub level : ℕ
  pub leaves : ℕ
  pub cells : ℕ

abbrev pub result_of : Signature → CType
result_of (signature r ps dots) = r

abbrev pub parameters_of : Signature → Parameters
parameters_of (signature r ps dots) = ps

abbrev pub is_variadic : Signature → Bool
is_variadic (signature r ps dots) = dots
