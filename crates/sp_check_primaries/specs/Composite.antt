-- The composite of two compatible types (C90 6.1.2.6): what either of them tells of lengths and parameters.
use Rattle.std.specs.Prelude.{ℕ, ◌||◌, Option, Some, None}
use Rattle.sp_types.specs.Types.{CType, pointer, array, function, Signature, signature, Parameters, untold, listed, CTypes, no_types, next_type}

abbrev pub told_length : Option ℕ → Option ℕ → Option ℕ
told_length None m = m
told_length (Some n) m = Some n

abbrev mutual
  pub composite : CType → CType → CType
  composite (pointer a) (pointer b) = pointer (composite a b)
  composite (array a n) (array b m) = array (composite a b) (told_length n m)
  composite (function s) (function t) = function (composite_signature s t)
  composite a b = a

  pub composite_signature : Signature → Signature → Signature
  composite_signature (signature r ps v) (signature q qs w) = signature (composite r q) (composite_parameters ps qs) (v || w)

  -- a list that isn't told takes the other's
  pub composite_parameters : Parameters → Parameters → Parameters
  composite_parameters untold qs = qs
  composite_parameters (listed ts) untold = listed ts
  composite_parameters (listed ts) (listed us) = listed (composites ts us)

  pub composites : CTypes → CTypes → CTypes
  composites no_types us = no_types
  composites (next_type t ts) no_types = next_type t ts
  composites (next_type t ts) (next_type u us) = next_type (composite t u) (composites ts us)

-- the same of the parameter of a number, where the other list has one
abbrev pub composite_with : CType → Option CType → CType
composite_with t None = t
composite_with t (Some u) = composite t u
