-- Lvalues and conversions (C90 6.2).
use Rattle.std.specs.Prelude.{Bool, true, false, not, ◌&&◌, List, Option, Some, None, if◌then◌else◌, is_some}
use Rattle.sp_tree.specs.declared.fault.Place.{Place}
use Rattle.sp_tree.specs.declared.fault.FaultKind.TheVariants.{IncompleteType}
use Rattle.sp_tree.specs.declared.token.Punct.TheVariants.{Star}
use Rattle.sp_types.specs.Types.{CType, void, integer, floating, pointer, array, structure, function, Struct}
use Rattle.sp_types.specs.Typed.{Typed, typed, TypedForm, of, place_of, mark_of}
use Rattle.sp_types.specs.Typed as tree
use Rattle.sp_types.specs.Compatible.{same_type}
use Rattle.sp_types.specs.Arithmetic.{promoted_kind}
use Rattle.sp_types.specs.Layout.{layout}
use Rattle.sp_base_checked.specs.Answers.{Checked, accepted, where_met}

-- ---- kinds of types (6.1.2.5)

abbrev pub is_complete : List Struct → CType → Bool
is_complete ss t = is_some (layout ss t)

abbrev pub is_scalar : CType → Bool
is_scalar (integer k) = true
is_scalar (pointer t) = true
is_scalar _ = false

abbrev pub is_floating : CType → Bool
is_floating (floating k) = true
is_floating _ = false

abbrev pub is_void : CType → Bool
is_void void = true
is_void _ = false

abbrev pub is_function : CType → Bool
is_function (function s) = true
is_function _ = false

abbrev pub is_array : CType → Bool
is_array (array t n) = true
is_array _ = false

abbrev pub is_object : CType → Bool
is_object void = false
is_object (function s) = false
is_object _ = true

-- ---- lvalues and designators (6.2.2.1)

abbrev mutual
  pub is_lvalue : Typed → Bool
  is_lvalue (typed f t p m) = is_object t && designates f

  -- the form designates an object
  pub designates : TypedForm → Bool
  designates (tree.object k) = true
  designates (tree.index a b) = true
  designates (tree.arrow e n) = true
  designates (tree.unary Star e) = true
  designates (tree.member e n) = is_lvalue e
  designates _ = false

-- an array that is an lvalue becomes a pointer to its first element, and a function a pointer to it
abbrev pub decayed_type : Bool → CType → Option CType
decayed_type true (array t n) = Some (pointer t)
decayed_type _ (function s) = Some (pointer (function s))
decayed_type _ _ = None

abbrev pub decayed : Typed → Typed
decayed e = elim (decayed_type (is_lvalue e) (of e)) [ None ↦ e | Some t ↦ typed (tree.decay e) t (place_of e) (mark_of e) ]

abbrev pub is_open_struct : List Struct → CType → Bool
is_open_struct ss (structure k) = not (is_complete ss (structure k))
is_open_struct ss _ = false

-- an expression as a value; an incomplete struct has none
abbrev pub value : List Struct → Place → Typed → Checked Typed
value ss p e = where_met (not (is_open_struct ss (of (decayed e)))) IncompleteType p (accepted (decayed e))

-- ---- conversions are written out where the types differ

abbrev pub converted : CType → Typed → Typed
converted t e = if same_type (of e) t then e else typed (tree.convert e) t (place_of e) (mark_of e)

-- 6.2.1.1
abbrev pub promoted_type : CType → CType
promoted_type (integer k) = integer (promoted_kind k)
promoted_type t = t

abbrev pub promoted : Typed → Typed
promoted e = converted (promoted_type (of e)) e
