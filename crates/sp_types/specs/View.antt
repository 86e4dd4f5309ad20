-- The plain type that a value of the code stands for.
use Rattle.std.specs.Prelude.{List, [], ◌∷◌, map, Option, Some, None, Vec, option_map}
use Rattle.std.specs.declared.alloc.Global.{Global}
use Rattle.std.specs.declared.rc.Rc.{Rc}
use Rattle.sp_types.specs.Types.{CType, void, integer, floating, pointer, array, structure, function, Signature, signature, Parameters, untold, listed, CTypes, no_types, next_type, Struct}
use Rattle.sp_types.specs.declared.ctype.CType.{CType as CodeType, fold-CType}
use Rattle.sp_types.specs.declared.ctype.Signature.{Signature as CodeSignature, fold-Signature}
use Rattle.sp_types.specs.declared.ctype.CType.TheOpen.{CType-F, ArrayType-F, Signature-F, Void, Int, Float, Pointer, Array, Struct as InStruct, Function}
use Rattle.sp_types.specs.declared.structs.StructType.{StructType}

abbrev pub types : List CType → CTypes
types [] = no_types
types (t ∷ ts) = next_type t (types ts)

abbrev pub parameters : Option (Vec CType Global) → Parameters
parameters None = untold
parameters (Some ts) = listed (types ts.items)

abbrev pub array_step : ArrayType-F CType CType Signature → CType
array_step a = array a.element.value a.length

abbrev pub type_step : CType-F CType CType Signature → CType
type_step Void = void
type_step (Int k) = integer k
type_step (Float k) = floating k
type_step (Pointer t) = pointer t.value
type_step (Array a) = a.value
type_step (InStruct k) = structure k
type_step (Function s) = function s.value

abbrev pub signature_step : Signature-F CType CType Signature → Signature
signature_step s = signature s.result (parameters s.params) s.variadic

abbrev pub type_of : CodeType → CType
type_of = fold-CType CType CType Signature type_step array_step signature_step

abbrev pub signature_of : CodeSignature → Signature
signature_of = fold-Signature CType CType Signature type_step array_step signature_step

-- the signature that is shared
abbrev pub shared_signature_of : Rc CodeSignature Global → Signature
shared_signature_of s = signature_of s.value

abbrev pub struct_of : StructType → Struct
struct_of s = record { tag = s.tag; union = s.union; members = option_map (λ ms. map (λ m. (m.0, type_of m.1)) ms.items) s.members; extent = s.extent; level = s.level; leaves = s.leaves; cells = s.cells }

-- the parameters that a list of the code's types tells
abbrev pub told : Option (List CodeType) → Parameters
told None = untold
told (Some ts) = listed (types (map type_of ts))
