-- The composite of two types that are sound is sound (C90 6.1.2.6).
use Rattle.std.proofs.Common.{◌≡◌, refl, ◌∙◌}
use Rattle.sp_types.specs.Types.{CType, pointer, array, function, Signature, signature, Parameters, untold, listed, CTypes, no_types, next_type}
use Rattle.sp_check_operands.specs.Conversions.{is_array}
use Rattle.sp_check_primaries.specs.Composite.{composite, composite_signature, composite_parameters, composites}
use Rattle.sp_check_expr_laws.specs.Sound.{IsSound, IsSoundSignature, AreSoundParameters, AreSound}

composite_array : (a b : CType) → is_array (composite a b) ≡ is_array a
composite_array (pointer a) (pointer b) = refl
composite_array (array a n) (array b m) = refl
composite_array (function s) (function t) = refl
composite_array a b = refl

mutual
  pub composite_sound : (a b : CType) → IsSound a → IsSound b → IsSound (composite a b)
  composite_sound (pointer a) (pointer b) h g = composite_sound a b h g
  composite_sound (array a n) (array b m) h g = composite_sound a b h g
  composite_sound (function s) (function t) h g = signature_sound s t h g
  composite_sound a b h g = h

  pub signature_sound : (s t : Signature) → IsSoundSignature s → IsSoundSignature t
      → IsSoundSignature (composite_signature s t)
  signature_sound (signature r ps v) (signature q qs w) h g =
      (composite_array r q ∙ h.0, composite_sound r q h.1 g.1, parameters_sound ps qs h.2 g.2)

  parameters_sound : (ps qs : Parameters) → AreSoundParameters ps → AreSoundParameters qs
      → AreSoundParameters (composite_parameters ps qs)
  parameters_sound untold qs h g = g
  parameters_sound (listed ts) untold h g = h
  parameters_sound (listed ts) (listed us) h g = types_sound ts us h g

  types_sound : (ts us : CTypes) → AreSound ts → AreSound us → AreSound (composites ts us)
  types_sound no_types us h g = tt
  types_sound (next_type t ts) no_types h g = h
  types_sound (next_type t ts) (next_type u us) h g =
      (composite_sound t u h.0 g.0, types_sound ts us h.1 g.1)
