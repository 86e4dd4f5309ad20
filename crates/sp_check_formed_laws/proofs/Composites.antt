-- The composite of two types that are formed is formed, and is a function where the first is one
-- (C90 6.1.2.6).
use Rattle.std.proofs.Common.{◌≡◌, ℕ, ◌≤◌, Option, Some, None, List, refl}
use Rattle.sp_types.specs.Types.{CType, void, integer, floating, pointer, array, structure, function, Signature, signature, Parameters, untold, listed, CTypes, no_types, next_type, Struct}
use Rattle.sp_types.specs.Layout.{layout}
use Rattle.sp_types.specs.Structs.{IsFormed, IsFormedSignature, AreFormedParameters, AreFormed}
use Rattle.sp_check_operands.specs.Conversions.{is_function}
use Rattle.sp_check_primaries.specs.Composite.{told_length, composite, composite_signature, composite_parameters, composites}
use Rattle.sp_check_formed_laws.proofs.Longer.{repeated_small}

pub composite_function : (a b : CType) → is_function (composite a b) ≡ is_function a
composite_function void b = refl
composite_function (integer k) b = refl
composite_function (floating k) b = refl
composite_function (structure k) b = refl
composite_function (pointer a) void = refl
composite_function (pointer a) (integer k) = refl
composite_function (pointer a) (floating k) = refl
composite_function (pointer a) (pointer b) = refl
composite_function (pointer a) (array b m) = refl
composite_function (pointer a) (structure k) = refl
composite_function (pointer a) (function t) = refl
composite_function (array a n) void = refl
composite_function (array a n) (integer k) = refl
composite_function (array a n) (floating k) = refl
composite_function (array a n) (pointer b) = refl
composite_function (array a n) (array b m) = refl
composite_function (array a n) (structure k) = refl
composite_function (array a n) (function t) = refl
composite_function (function s) void = refl
composite_function (function s) (integer k) = refl
composite_function (function s) (floating k) = refl
composite_function (function s) (pointer b) = refl
composite_function (function s) (array b m) = refl
composite_function (function s) (structure k) = refl
composite_function (function s) (function t) = refl

module _ (ss : List Struct) where
  pub element_formed : (t : CType) (n : Option ℕ) → IsFormed ss (array t n) → IsFormed ss t
  element_formed t None h = h
  element_formed t (Some n) h = h.0

  pub array_formed : (t : CType) (n : ℕ) → IsFormed ss t → 1 ≤ n → IsFormed ss (array t (Some n))
  array_formed t n h l = (h, l, repeated_small n (layout ss t))

  lengthened : (t u v : CType) (n m : Option ℕ) → IsFormed ss t → IsFormed ss (array u n) → IsFormed ss (array v m) → IsFormed ss (array t (told_length n m))
  lengthened t u v None None h g f = h
  lengthened t u v None (Some m) h g f = array_formed t m h f.1
  lengthened t u v (Some n) m h g f = array_formed t n h g.1

  mutual
    pub composite_formed : (a b : CType) → IsFormed ss a → IsFormed ss b → IsFormed ss (composite a b)
    composite_formed void b h g = h
    composite_formed (integer k) b h g = h
    composite_formed (floating k) b h g = h
    composite_formed (structure k) b h g = h
    composite_formed (pointer a) void h g = h
    composite_formed (pointer a) (integer k) h g = h
    composite_formed (pointer a) (floating k) h g = h
    composite_formed (pointer a) (pointer b) h g = composite_formed a b h g
    composite_formed (pointer a) (array b m) h g = h
    composite_formed (pointer a) (structure k) h g = h
    composite_formed (pointer a) (function t) h g = h
    composite_formed (array a n) void h g = h
    composite_formed (array a n) (integer k) h g = h
    composite_formed (array a n) (floating k) h g = h
    composite_formed (array a n) (pointer b) h g = h
    composite_formed (array a n) (array b m) h g = lengthened (composite a b) a b n m (composite_formed a b (element_formed a n h) (element_formed b m g)) h g
    composite_formed (array a n) (structure k) h g = h
    composite_formed (array a n) (function t) h g = h
    composite_formed (function s) void h g = h
    composite_formed (function s) (integer k) h g = h
    composite_formed (function s) (floating k) h g = h
    composite_formed (function s) (pointer b) h g = h
    composite_formed (function s) (array b m) h g = h
    composite_formed (function s) (structure k) h g = h
    composite_formed (function s) (function t) h g = signature_composed s t h g

    pub signature_composed : (s t : Signature) → IsFormedSignature ss s → IsFormedSignature ss t → IsFormedSignature ss (composite_signature s t)
    signature_composed (signature r ps v) (signature q qs w) h g = (composite_formed r q h.0 g.0, parameters_composed ps qs h.1 g.1)

    parameters_composed : (ps qs : Parameters) → AreFormedParameters ss ps → AreFormedParameters ss qs → AreFormedParameters ss (composite_parameters ps qs)
    parameters_composed untold qs h g = g
    parameters_composed (listed ts) untold h g = h
    parameters_composed (listed ts) (listed us) h g = types_composed ts us h g

    types_composed : (ts us : CTypes) → AreFormed ss ts → AreFormed ss us → AreFormed ss (composites ts us)
    types_composed no_types us h g = tt
    types_composed (next_type t ts) no_types h g = h
    types_composed (next_type t ts) (next_type u us) h g = (composite_formed t u h.0 g.0, types_composed ts us h.1 g.1)
