-- A type that is formed stays so where the table grows.
use Rattle.std.proofs.Common.{◌≡◌, ℕ, ◌*◌, ◌^◌, ◌≤◌, Bool, true, false, nat_le, if◌then◌else◌, length, List, Option, Some, None, refl, arith}
use Rattle.std.proofs.lemmas.Bool.{leb-true}
use Rattle.sp_types.specs.Types.{CType, void, integer, floating, pointer, array, structure, function, Signature, signature, Parameters, untold, listed, CTypes, no_types, next_type, Struct}
use Rattle.sp_types.specs.Layout.{extent, layout, repeated}
use Rattle.sp_types.specs.Structs.{IsFormed, IsFormedSignature, AreFormedParameters, AreFormed, IsSmall}
use Rattle.sp_types.specs.declared.extents.Extent.{Extent}

small_by : (b : Bool) (e : Extent) (n : ℕ) → nat_le (e.size * n) (2 ^ 40) ≡ b → IsSmall (if b then Some (extent (e.size * n) e.align) else None)
small_by true e n h = leb-true (e.size * n) (2 ^ 40) h
small_by false e n h = tt

pub repeated_small : (n : ℕ) (o : Option Extent) → IsSmall (repeated n o)
repeated_small n None = tt
repeated_small n (Some e) = small_by (nat_le (e.size * n) (2 ^ 40)) e n refl

module _ (ss rs : List Struct) (longer : length ss ≤ length rs) where
  mutual
    pub type_longer : (t : CType) → IsFormed ss t → IsFormed rs t
    type_longer void h = tt
    type_longer (integer k) h = tt
    type_longer (floating k) h = tt
    type_longer (pointer t) h = type_longer t h
    type_longer (array t None) h = type_longer t h
    type_longer (array t (Some n)) h = (type_longer t h.0, h.1, repeated_small n (layout rs t))
    type_longer (structure k) h = omega (arith, h, longer)
    type_longer (function s) h = signature_longer s h

    pub signature_longer : (s : Signature) → IsFormedSignature ss s → IsFormedSignature rs s
    signature_longer (signature r ps v) h = (type_longer r h.0, parameters_longer ps h.1)

    pub parameters_longer : (ps : Parameters) → AreFormedParameters ss ps → AreFormedParameters rs ps
    parameters_longer untold h = tt
    parameters_longer (listed ts) h = types_longer ts h

    types_longer : (ts : CTypes) → AreFormed ss ts → AreFormed rs ts
    types_longer no_types h = tt
    types_longer (next_type t ts) h = (type_longer t h.0, types_longer ts h.1)
