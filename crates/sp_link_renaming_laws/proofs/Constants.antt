-- Constants of a unit are constants in its program (C90 6.4).
use Rattle.std.proofs.Common.{◌≡◌, ℕ, false, ◌&&◌, ◌||◌, if◌then◌else◌, None, is_some, refl, ap, ap₂, sym, ◌∙◌}
use Rattle.sp_tree.specs.declared.fault.Place.{Place}
use Rattle.sp_tree.specs.declared.token.Punct.{Punct}
use Rattle.sp_tree.specs.declared.token.Punct.TheVariants.{Ampersand, Star, Plus, Minus}
use Rattle.sp_types.specs.declared.ctype.IntKind.{IntKind}
use Rattle.sp_types.specs.Types.{CType, void, integer, floating, pointer, array, structure, function}
use Rattle.sp_types.specs.Typed.{Typed, typed, TypedForm}
use Rattle.sp_types.specs.Typed as tree
use Rattle.sp_check_constants.specs.Constants.{within, then_int, negated, joined, chosen, constant_value, form_value, is_constant_operator, is_constant_form, is_constant_operand, constant_of}
use Rattle.sp_ir.specs.Formed.{is_scalar}
use Rattle.sp_link_renaming.specs.Renaming.{Renaming, number_in, renamed_type, type_in, renamed, renamed_form}
use Rattle.sp_check_typing.specs.Constants.{is_constant, is_address, is_fixed, is_stored}

-- the object itself is no constant
object_value : (n : ℕ) (t : CType) (p m : Place) → constant_value (typed (tree.object n) t p m) ≡ None
object_value n void p m = refl
object_value n (integer k) p m = refl
object_value n (floating k) p m = refl
object_value n (pointer t) p m = refl
object_value n (array t l) p m = refl
object_value n (structure k) p m = refl
object_value n (function s) p m = refl

object_form : (n : ℕ) (t : CType) (p m : Place) → is_constant_form (typed (tree.object n) t p m) ≡ false
object_form n void p m = refl
object_form n (integer k) p m = refl
object_form n (floating k) p m = refl
object_form n (pointer t) p m = refl
object_form n (array t l) p m = refl
object_form n (structure k) p m = refl
object_form n (function s) p m = refl

object_constant : (n : ℕ) (t : CType) (p m : Place) → is_constant (typed (tree.object n) t p m) ≡ false
object_constant n void p m = refl
object_constant n (integer k) p m = refl
object_constant n (floating k) p m = refl
object_constant n (pointer t) p m = refl
object_constant n (array t l) p m = refl
object_constant n (structure k) p m = refl
object_constant n (function s) p m = refl

module _ (r : Renaming) where
  abbrev here : CType → CType
  here t = renamed_type r.structs t

  -- ---- integer constant expressions

  by_value : (f : TypedForm) (t : CType) (p m : Place) → ((k : IntKind) → form_value k (renamed_form r f) ≡ form_value k f)
      → constant_value (typed (renamed_form r f) (here t) p m) ≡ constant_value (typed f t p m)
  by_value f (integer k) p m h = h k
  by_value f void p m h = refl
  by_value f (floating k) p m h = refl
  by_value f (pointer t) p m h = refl
  by_value f (array t n) p m h = refl
  by_value f (structure k) p m h = refl
  by_value f (function s) p m h = refl

  by_form : (f : TypedForm) (t : CType) (p m : Place) → is_constant_operand (renamed_form r f) ≡ is_constant_operand f
      → is_constant_form (typed (renamed_form r f) (here t) p m) ≡ is_constant_form (typed f t p m)
  by_form f (integer k) p m h = h
  by_form f void p m h = refl
  by_form f (floating k) p m h = refl
  by_form f (pointer t) p m h = refl
  by_form f (array t n) p m h = refl
  by_form f (structure k) p m h = refl
  by_form f (function s) p m h = refl

  mutual
    value_same : (e : Typed) → constant_value (renamed r e) ≡ constant_value e
    value_same (typed (tree.object n) t p m) =
        object_value (number_in r.objects n) (type_in r (tree.object n) t) p m ∙ sym (object_value n t p m)
    value_same (typed (tree.number n) t p m) = by_value (tree.number n) t p m (λ k. refl)
    value_same (typed (tree.character z) t p m) = by_value (tree.character z) t p m (λ k. refl)
    value_same (typed (tree.constant z) t p m) = by_value (tree.constant z) t p m (λ k. refl)
    value_same (typed (tree.function n) t p m) = by_value (tree.function n) t p m (λ k. refl)
    value_same (typed (tree.convert a) t p m) =
        by_value (tree.convert a) t p m (λ k. ap (λ z. then_int z (within k)) (value_same a))
    value_same (typed (tree.decay a) t p m) = by_value (tree.decay a) t p m (λ k. refl)
    value_same (typed (tree.index a b) t p m) = by_value (tree.index a b) t p m (λ k. refl)
    value_same (typed (tree.call a es) t p m) = by_value (tree.call a es) t p m (λ k. refl)
    value_same (typed (tree.member a n) t p m) = by_value (tree.member a n) t p m (λ k. refl)
    value_same (typed (tree.arrow a n) t p m) = by_value (tree.arrow a n) t p m (λ k. refl)
    value_same (typed (tree.after op a) t p m) = by_value (tree.after op a) t p m (λ k. refl)
    value_same (typed (tree.unary op a) t p m) =
        by_value (tree.unary op a) t p m (λ k. ap (λ z. then_int z (negated k op)) (value_same a))
    value_same (typed (tree.cast a) t p m) =
        by_value (tree.cast a) t p m (λ k. ap (λ z. then_int z (within k)) (value_same a))
    value_same (typed (tree.binary op a b) t p m) =
        by_value (tree.binary op a b) t p m (λ k. ap₂ (joined k op) (value_same a) (value_same b))
    value_same (typed (tree.choice c a b) t p m) =
        by_value (tree.choice c a b) t p m (λ k. λ i. chosen (value_same c i) (value_same a i) (value_same b i))
    value_same (typed (tree.assign op a b) t p m) = by_value (tree.assign op a b) t p m (λ k. refl)
    value_same (typed (tree.comma a b) t p m) = by_value (tree.comma a b) t p m (λ k. refl)

    form_same : (e : Typed) → is_constant_form (renamed r e) ≡ is_constant_form e
    form_same (typed (tree.object n) t p m) =
        object_form (number_in r.objects n) (type_in r (tree.object n) t) p m ∙ sym (object_form n t p m)
    form_same (typed (tree.number n) t p m) = by_form (tree.number n) t p m refl
    form_same (typed (tree.character z) t p m) = by_form (tree.character z) t p m refl
    form_same (typed (tree.constant z) t p m) = by_form (tree.constant z) t p m refl
    form_same (typed (tree.function n) t p m) = by_form (tree.function n) t p m refl
    form_same (typed (tree.convert a) t p m) = by_form (tree.convert a) t p m (form_same a)
    form_same (typed (tree.decay a) t p m) = by_form (tree.decay a) t p m refl
    form_same (typed (tree.index a b) t p m) = by_form (tree.index a b) t p m refl
    form_same (typed (tree.call a es) t p m) = by_form (tree.call a es) t p m refl
    form_same (typed (tree.member a n) t p m) = by_form (tree.member a n) t p m refl
    form_same (typed (tree.arrow a n) t p m) = by_form (tree.arrow a n) t p m refl
    form_same (typed (tree.after op a) t p m) = by_form (tree.after op a) t p m refl
    form_same (typed (tree.unary op a) t p m) =
        by_form (tree.unary op a) t p m (ap (λ b. is_constant_operator op && b) (form_same a))
    form_same (typed (tree.cast a) t p m) = by_form (tree.cast a) t p m (form_same a)
    form_same (typed (tree.binary op a b) t p m) =
        by_form (tree.binary op a b) t p m (ap₂ (λ c d. c && d) (form_same a) (form_same b))
    form_same (typed (tree.choice c a b) t p m) =
        by_form (tree.choice c a b) t p m (λ i. form_same c i && form_same a i && form_same b i)
    form_same (typed (tree.assign op a b) t p m) = by_form (tree.assign op a b) t p m refl
    form_same (typed (tree.comma a b) t p m) = by_form (tree.comma a b) t p m refl

  constant_same : (e : Typed) → constant_of (renamed r e) ≡ constant_of e
  constant_same e = λ i. if form_same e i then value_same e i else None

  -- ---- address constants

  by_constant : (f : TypedForm) (t : CType) (p m : Place)
      → constant_of (typed (renamed_form r f) (here t) p m) ≡ constant_of (typed f t p m)
      → is_address (renamed_form r f) ≡ is_address f
      → is_constant (typed (renamed_form r f) (here t) p m) ≡ is_constant (typed f t p m)
  by_constant f (integer k) p m h g = ap is_some h
  by_constant f (pointer t) p m h g = g
  by_constant f void p m h g = refl
  by_constant f (floating k) p m h g = refl
  by_constant f (array t n) p m h g = refl
  by_constant f (structure k) p m h g = refl
  by_constant f (function s) p m h g = refl

  unary_same : (op : Punct) (a : Typed) → is_fixed (renamed r a) ≡ is_fixed a
      → is_address (tree.unary op (renamed r a)) ≡ is_address (tree.unary op a)
  unary_same Ampersand a h = h
  unary_same op a h = refl

  binary_same : (op : Punct) (a b : Typed) → is_constant (renamed r a) ≡ is_constant a
      → is_constant (renamed r b) ≡ is_constant b
      → is_address (tree.binary op (renamed r a) (renamed r b)) ≡ is_address (tree.binary op a b)
  binary_same Plus a b h g = ap₂ (λ c d. c && d) h g
  binary_same Minus a b h g = ap₂ (λ c d. c && d) h g
  binary_same op a b h g = refl

  mutual
    is_same : (e : Typed) → is_constant (renamed r e) ≡ is_constant e
    is_same (typed (tree.object n) t p m) =
        object_constant (number_in r.objects n) (type_in r (tree.object n) t) p m ∙ sym (object_constant n t p m)
    is_same (typed (tree.number n) t p m) = by_constant (tree.number n) t p m (constant_same (typed (tree.number n) t p m)) refl
    is_same (typed (tree.character z) t p m) = by_constant (tree.character z) t p m (constant_same (typed (tree.character z) t p m)) refl
    is_same (typed (tree.constant z) t p m) = by_constant (tree.constant z) t p m (constant_same (typed (tree.constant z) t p m)) refl
    is_same (typed (tree.function n) t p m) = by_constant (tree.function n) t p m (constant_same (typed (tree.function n) t p m)) refl
    is_same (typed (tree.convert a) t p m) = by_constant (tree.convert a) t p m (constant_same (typed (tree.convert a) t p m)) (is_same a)
    is_same (typed (tree.decay a) t p m) = by_constant (tree.decay a) t p m (constant_same (typed (tree.decay a) t p m)) (fixed_same a)
    is_same (typed (tree.index a b) t p m) = by_constant (tree.index a b) t p m (constant_same (typed (tree.index a b) t p m)) refl
    is_same (typed (tree.call a es) t p m) = by_constant (tree.call a es) t p m (constant_same (typed (tree.call a es) t p m)) refl
    is_same (typed (tree.member a n) t p m) = by_constant (tree.member a n) t p m (constant_same (typed (tree.member a n) t p m)) refl
    is_same (typed (tree.arrow a n) t p m) = by_constant (tree.arrow a n) t p m (constant_same (typed (tree.arrow a n) t p m)) refl
    is_same (typed (tree.after op a) t p m) = by_constant (tree.after op a) t p m (constant_same (typed (tree.after op a) t p m)) refl
    is_same (typed (tree.unary op a) t p m) =
        by_constant (tree.unary op a) t p m (constant_same (typed (tree.unary op a) t p m)) (unary_same op a (fixed_same a))
    is_same (typed (tree.cast a) t p m) = by_constant (tree.cast a) t p m (constant_same (typed (tree.cast a) t p m)) (is_same a)
    is_same (typed (tree.binary op a b) t p m) =
        by_constant (tree.binary op a b) t p m (constant_same (typed (tree.binary op a b) t p m)) (binary_same op a b (is_same a) (is_same b))
    is_same (typed (tree.choice c a b) t p m) = by_constant (tree.choice c a b) t p m (constant_same (typed (tree.choice c a b) t p m)) refl
    is_same (typed (tree.assign op a b) t p m) = by_constant (tree.assign op a b) t p m (constant_same (typed (tree.assign op a b) t p m)) refl
    is_same (typed (tree.comma a b) t p m) = by_constant (tree.comma a b) t p m (constant_same (typed (tree.comma a b) t p m)) refl

    fixed_same : (e : Typed) → is_fixed (renamed r e) ≡ is_fixed e
    fixed_same (typed (tree.index a b) t p m) = ap₂ (λ c d. c && d) (is_same a) (is_same b)
    fixed_same (typed (tree.member a n) t p m) = fixed_same a
    fixed_same (typed (tree.arrow a n) t p m) = is_same a
    fixed_same (typed (tree.unary Star a) t p m) = is_same a
    fixed_same (typed f t p m) = refl

  scalar_same : (t : CType) → is_scalar (here t) ≡ is_scalar t
  scalar_same void = refl
  scalar_same (integer k) = refl
  scalar_same (floating k) = refl
  scalar_same (pointer t) = refl
  scalar_same (array t n) = refl
  scalar_same (structure k) = refl
  scalar_same (function s) = refl

  pub stored_same : (e : Typed) → is_stored (renamed r e) ≡ is_stored e
  stored_same (typed (tree.convert a) t p m) =
      λ i. is_same (typed (tree.convert a) t p m) i || (scalar_same t i && is_same a i)
  stored_same (typed (tree.object n) t p m) = is_same (typed (tree.object n) t p m)
  stored_same (typed f t p m) = is_same (typed f t p m)
