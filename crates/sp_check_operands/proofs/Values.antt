-- Values that are integers or pointers.
use Rattle.std.proofs.Common.{◌≡◌, Bool, true, false, not, List, None, refl}
use Rattle.std.proofs.lemmas.Bool.{false≢true}
use Rattle.sp_tree.specs.declared.fault.Place.{Place}
use Rattle.sp_types.specs.Types.{CType, void, integer, floating, pointer, array, structure, function, Struct}
use Rattle.sp_types.specs.Typed.{Typed, of}
use Rattle.sp_base_checked.specs.Answers.{accepted}
use Rattle.sp_check_operands.specs.Conversions.{is_scalar, is_lvalue, is_open_struct, decayed_type, decayed, value}

stays : (lvalue : Bool) (t : CType) → is_scalar t ≡ true → decayed_type lvalue t ≡ None
stays lvalue void h = absurd (false≢true h)
stays true (integer k) h = refl
stays false (integer k) h = refl
stays lvalue (floating k) h = absurd (false≢true h)
stays true (pointer t) h = refl
stays false (pointer t) h = refl
stays lvalue (array t n) h = absurd (false≢true h)
stays lvalue (structure k) h = absurd (false≢true h)
stays lvalue (function s) h = absurd (false≢true h)

closed : (ss : List Struct) (t : CType) → is_scalar t ≡ true → not (is_open_struct ss t) ≡ true
closed ss void h = absurd (false≢true h)
closed ss (integer k) h = refl
closed ss (floating k) h = absurd (false≢true h)
closed ss (pointer t) h = refl
closed ss (array t n) h = absurd (false≢true h)
closed ss (structure k) h = absurd (false≢true h)
closed ss (function s) h = absurd (false≢true h)

as_it_stands : (e : Typed) → is_scalar (of e) ≡ true → decayed e ≡ e
as_it_stands e h = rw (stays (is_lvalue e) (of e) h, decayed) refl

-- an integer or a pointer is a value as it stands
pub scalar_value : (ss : List Struct) (p : Place) (e : Typed) → is_scalar (of e) ≡ true → value ss p e ≡ accepted e
scalar_value ss p e h = rw (as_it_stands e h, value) (rw (closed ss (of e) h) refl)
