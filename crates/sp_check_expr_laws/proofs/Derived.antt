-- The types that declarators derive are sound (C90 6.5.4).
use Rattle.std.proofs.Common.{◌≡◌, zero, nat_le, ◌||◌, not, Bool, true, false, List, [], ◌∷◌, Some, None, refl, sym, true≢false}
use Rattle.std.specs.Prelude.{⊤}
use Rattle.sp_tree.specs.declared.fault.Place.{Place}
use Rattle.sp_types.specs.Types.{CType, void, integer, floating, pointer, array, structure, function, signature, Struct}
use Rattle.sp_types.specs.View.{types}
use Rattle.sp_types.specs.Layout.{layout}
use Rattle.sp_check_operands.specs.Conversions.{is_array, is_function}
use Rattle.sp_parse_trees.specs.Syntax.{Params, no_params, next_param}
use Rattle.sp_check_type_names.specs.Derivations.{Derivation, to_pointer, to_array, to_function, derive, derived, made, derivations_in, parts_in}
use Rattle.sp_check_members.specs.Parameters.{adjusted}
use Rattle.sp_expr_check.specs.Parameters.{told_types}
use Rattle.sp_check_formed_laws.proofs.Lists.{Each, each_behind}
use Rattle.sp_check_formed_laws.proofs.Derived.{IsFormedStep, type_made, adjusted_formed}
use Rattle.sp_check_formed_laws.proofs.After.{Gives, gives, gives_then, gives_met, gives_given}
use Rattle.sp_check_expr_laws.specs.Sound.{IsSound, AreSoundParameters, AreSound}
use Rattle.sp_check_expr_laws.proofs.Operators.{IsGood}

-- the types of its parameters are sound
abbrev pub IsSoundStep : Derivation → Type 0
IsSoundStep to_pointer = ⊤
IsSoundStep (to_array n p) = ⊤
IsSoundStep (to_function ps dots p) = AreSoundParameters ps

not_or : (a b : Bool) → not (a || b) ≡ true → a ≡ false
not_or true b h = absurd (true≢false (sym h))
not_or false b h = refl

step_sound : (ss : List Struct) (d : Derivation) (t : CType) → IsSoundStep d → IsSound t
    → Gives IsSound (derive ss d t)
step_sound ss to_pointer t h s = gives {x = pointer t} s
step_sound ss (to_array None p) t h s =
    gives_given {o = layout ss t} _ _ (λ e g. gives {x = array t None} s)
step_sound ss (to_array (Some n) p) t h s =
    gives_given {o = layout ss t} _ _
    (λ e g. gives_met _ _ (λ small. gives {x = array t (Some n)} s))
step_sound ss (to_function ps dots p) t h s =
    gives_met {b = not (is_array t || is_function t)} _ _
    (λ fits. gives {x = function (signature t ps dots)}
    (not_or (is_array t) (is_function t) fits, s, h))

steps_sound : (ss : List Struct) (ds : List Derivation) (t : CType) → Each IsSoundStep ds
    → IsSound t → Gives IsSound (derived ss ds t)
steps_sound ss [] t h s = gives {x = t} s
steps_sound ss (d ∷ ds) t h s =
    gives_then (steps_sound ss ds t (each_behind IsSoundStep d ds h) s)
    (λ u g. step_sound ss d u (h zero d refl) g)

made_sound : (ss : List Struct) (p : Place) (ds : List Derivation) (t : CType) → Each IsSoundStep ds
    → IsSound t → Gives IsSound (made ss p ds t)
made_sound ss p ds t h s =
    gives_then (steps_sound ss ds t h s)
    (λ u g. gives_met {b = nat_le (derivations_in u) 200} _ _ (λ shallow.
    gives_met {b = nat_le (parts_in u) 1000} _ _ (λ few. gives g)))

-- formed and sound
abbrev pub IsGoodStep : List Struct → Derivation → Type 0
IsGoodStep ss d = IsFormedStep ss d × IsSoundStep d

pub made_good : (ss : List Struct) (p : Place) (ds : List Derivation) (t : CType)
    → Each (IsGoodStep ss) ds → IsGood ss t → Gives (IsGood ss) (made ss p ds t)
made_good ss p ds t h g =
    record {
      at = λ u e. (
        ((type_made ss p ds t (λ k d at. (h k d at).0) g.0).at u e).0,
        (made_sound ss p ds t (λ k d at. (h k d at).1) g.1).at u e,
      );
    }

-- ---- parameters

pub adjusted_good : (ss : List Struct) (t : CType) → IsGood ss t
    → IsGood ss (adjusted t) × (is_function (adjusted t) ≡ false)
adjusted_good ss t g = (((adjusted_formed ss t g.0).0, sound t g.1), (adjusted_formed ss t g.0).1)
  where
    sound : (t : CType) → IsSound t → IsSound (adjusted t)
    sound void h = tt
    sound (integer k) h = tt
    sound (floating k) h = tt
    sound (pointer t) h = h
    sound (array t n) h = h
    sound (structure k) h = tt
    sound (function s) h = h

types_sound : (ts : List CType) → Each IsSound ts → AreSound (types ts)
types_sound [] h = tt
types_sound (t ∷ ts) h = (h zero t refl, types_sound ts (each_behind IsSound t ts h))

pub told_sound : (ps : Params) (ts : List CType) → Each IsSound ts
    → AreSoundParameters (told_types ps ts)
told_sound no_params ts h = tt
told_sound (next_param q qs) ts h = types_sound ts h
