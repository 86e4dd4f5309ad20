-- Which typed trees are constants, known before the program runs (C90 6.4): integer constant
-- expressions, and address constants, also converted or moved by an integer constant expression.
use Rattle.std.specs.Prelude.{◌&&◌, ◌||◌, Bool, true, false, is_some}
use Rattle.sp_tree.specs.declared.token.Punct.TheVariants.{Ampersand, Star, Plus, Minus}
use Rattle.sp_types.specs.Types.{integer, pointer}
use Rattle.sp_types.specs.Typed.{Typed, typed, TypedForm}
use Rattle.sp_types.specs.Typed as tree
use Rattle.sp_check_constants.specs.Constants.{constant_of}
use Rattle.sp_ir.specs.Formed.{is_scalar}

abbrev mutual
  pub is_constant : Typed → Bool
  is_constant (typed f (integer k) p m) = is_some (constant_of (typed f (integer k) p m))
  is_constant (typed f (pointer t) p m) = is_address f
  is_constant (typed f t p m) = false

  -- a value of pointer type
  pub is_address : TypedForm → Bool
  is_address (tree.decay e) = is_fixed e
  is_address (tree.unary Ampersand e) = is_fixed e
  is_address (tree.convert e) = is_constant e
  is_address (tree.cast e) = is_constant e
  is_address (tree.binary Plus a b) = is_constant a && is_constant b
  is_address (tree.binary Minus a b) = is_constant a && is_constant b
  is_address f = false

  -- an object or a function, or a part of an object, that is found without reading one
  pub is_fixed : Typed → Bool
  is_fixed (typed f t p m) = designates_fixed f

  pub designates_fixed : TypedForm → Bool
  designates_fixed (tree.object k) = true
  designates_fixed (tree.function k) = true
  designates_fixed (tree.index a b) = is_constant a && is_constant b
  designates_fixed (tree.member e n) = is_fixed e
  designates_fixed (tree.arrow e n) = is_constant e
  designates_fixed (tree.unary Star e) = is_constant e
  designates_fixed f = false

-- a constant, perhaps converted where it is stored (C90 6.5.7): `static char c = 300;` stores the
-- conversion of 300
abbrev pub is_stored : Typed → Bool
is_stored (typed (tree.convert e) t p m) =
    is_constant (typed (tree.convert e) t p m) || (is_scalar t && is_constant e)
is_stored e = is_constant e
