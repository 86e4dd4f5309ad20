-- The value of an lvalue, its address, and the parts that it has.
use Rattle.std.proofs.Common.{◌≡◌, ℕ, ◌≤◌, ◌==◌, Bool, true, false, ◌||◌, List, Option, Some, None, arith, if◌then◌else◌, refl, ap, sym, subst}
use Rattle.sp_types.specs.Types.{CType, void, integer, floating, pointer, array, structure, function}
use Rattle.sp_types.specs.Structs.{IsFormed}
use Rattle.sp_ir.specs.Commands.{Expression, address, decay, read, convert, Lvalue, direct, through, field, lvalue_type, expression_type}
use Rattle.sp_ir.specs.Programs.{Object}
use Rattle.sp_ir.specs.Formed.{IsExpression, IsLvalue, is_integer, is_pointer, is_array, is_struct, is_scalar, is_floating}
use Rattle.sp_ir.specs.Terrain.{size_of}
use Rattle.sp_lower_draft.specs.Context.{Context, is_void}
use Rattle.sp_lower_draft.specs.Steps.{is_bare, pointer_in, addressed, decayed, struct_loaded, loaded}
use Rattle.sp_lower_expr_laws.specs.Stands.{table}
use Rattle.sp_lower_expr_laws.specs.Uses.{IsPlace, IsValue, Designates}
use Rattle.sp_lower_expr_laws.proofs.Sorts.{false_true, zero_not, zero_is, pointer_scalar, agrees_integer, agrees_pointer, agrees_array, agrees_struct, integer_sized, pointer_sized}

module _ (c : Context) (os : List Object) where
  -- ---- places with a layout

  pub place_sized : (l : Lvalue) → IsPlace c os l → 1 ≤ size_of c.structs (lvalue_type l) → IsLvalue (table c os) (Some c.function) l
  place_sized (direct n t) h big = h
  place_sized (through e t at) h big = (h.0, h.1, big, h.2, h.3)
  place_sized (field l k t) h big = h

  pub place_whole : (l : Lvalue) → IsPlace c os l → is_bare c l ≡ false → IsLvalue (table c os) (Some c.function) l
  place_whole (direct n t) h bare = h
  place_whole (through e t at) h bare = (h.0, h.1, zero_not (size_of c.structs t) bare, h.2, h.3)
  place_whole (field l k t) h bare = h

  -- the pointer that is followed, converted
  bare_converted : (l : Lvalue) (t : CType) → IsPlace c os l → is_bare c l ≡ true → is_scalar t ≡ true → IsFormed c.structs t
      → IsExpression (table c os) (Some c.function) (convert t (pointer_in l))
  bare_converted (direct n u) t h bare s f = false_true bare
  bare_converted (through e u at) t h bare s f = (h.0, pointer_scalar (expression_type e) h.1, s, f)
  bare_converted (field l k u) t h bare s f = false_true bare

  -- ---- addresses

  -- a formed pointer
  abbrev pub IsPointer : Expression → Type 0
  IsPointer e = IsExpression (table c os) (Some c.function) e × (is_pointer (expression_type e) ≡ true)

  pub addressed_good : (l : Lvalue) (t : CType) → IsPlace c os l → is_pointer t ≡ true → IsFormed c.structs t → IsPointer (addressed c t l)
  addressed_good l t h p f = by (is_bare c l) refl
    where
      by : (b : Bool) → is_bare c l ≡ b → IsPointer (if b then convert t (pointer_in l) else address l)
      by true e = (bare_converted l t h e (pointer_scalar t p) f, p)
      by false e = (place_whole l h e, refl)

  pub decayed_good : (l : Lvalue) (t : CType) → IsPlace c os l → is_array (lvalue_type l) ≡ true → is_pointer t ≡ true → IsFormed c.structs t → IsPointer (decayed c t l)
  decayed_good l t h a p f = by (is_bare c l) refl
    where
      by : (b : Bool) → is_bare c l ≡ b → IsPointer (if b then convert t (pointer_in l) else decay l)
      by true e = (bare_converted l t h e (pointer_scalar t p) f, p)
      by false e = ((place_whole l h e, a), refl)

  -- ---- values

  read_integer : (l : Lvalue) → IsPlace c os l → is_integer (lvalue_type l) ≡ true → IsExpression (table c os) (Some c.function) (read l)
  read_integer l h i = (place_sized l h (integer_sized c.structs (lvalue_type l) i), stored (lvalue_type l) i, integer_sized c.structs (lvalue_type l) i)
    where
      stored : (u : CType) → is_integer u ≡ true → (is_scalar u || is_struct u) ≡ true
      stored (integer k) i = refl
      stored void i = i
      stored (floating k) i = i
      stored (pointer t) i = refl
      stored (array t n) i = i
      stored (structure k) i = refl
      stored (function s) i = i

  read_pointer : (l : Lvalue) → IsPlace c os l → is_pointer (lvalue_type l) ≡ true → IsExpression (table c os) (Some c.function) (read l)
  read_pointer l h i = (place_sized l h (pointer_sized c.structs (lvalue_type l) i), stored (lvalue_type l) i, pointer_sized c.structs (lvalue_type l) i)
    where
      stored : (u : CType) → is_pointer u ≡ true → (is_scalar u || is_struct u) ≡ true
      stored (integer k) i = refl
      stored void i = i
      stored (floating k) i = i
      stored (pointer t) i = refl
      stored (array t n) i = i
      stored (structure k) i = refl
      stored (function s) i = i

  read_struct : (l : Lvalue) (k : ℕ) → IsPlace c os l → lvalue_type l ≡ structure k → 1 ≤ size_of c.structs (structure k) → IsExpression (table c os) (Some c.function) (read l)
  read_struct l k h e big =
      let sized : 1 ≤ size_of c.structs (lvalue_type l) = subst (λ u. 1 ≤ size_of c.structs u) (sym e) big in
      (place_sized l h sized, ap (λ u. is_scalar u || is_struct u) e, sized)

  struct_good : (l : Lvalue) (k : ℕ) → IsPlace c os l → lvalue_type l ≡ structure k → IsFormed c.structs (structure k) → IsValue c os (structure k) (struct_loaded c (structure k) l)
  struct_good l k h e f = by (size_of c.structs (structure k) == 0) refl
    where
      by : (b : Bool) → (size_of c.structs (structure k) == 0) ≡ b → IsValue c os (structure k) (if b then addressed c (pointer (structure k)) l else read l)
      by true z = ((addressed_good l (pointer (structure k)) h refl f).0, λ big. absurd (omega (arith, big, zero_is (size_of c.structs (structure k)) z)))
      by false z = (read_struct l k h e (zero_not (size_of c.structs (structure k)) z), λ big. (l, refl, e))

  pub loaded_good : (l : Lvalue) (t : CType) → Designates c os t l → IsFormed c.structs t → is_void t ≡ false → is_floating t ≡ false → IsValue c os t (loaded c t l)
  loaded_good l void h f v r = false_true (sym v)
  loaded_good l (integer k) h f v r = let i : is_integer (lvalue_type l) ≡ true = agrees_integer (lvalue_type l) k h.1 in (read_integer l h.0 i, i)
  loaded_good l (floating k) h f v r = false_true (sym r)
  loaded_good l (pointer t) h f v r = let i : is_pointer (lvalue_type l) ≡ true = agrees_pointer (lvalue_type l) t h.1 in (read_pointer l h.0 i, i)
  loaded_good l (array t n) h f v r = decayed_good l (pointer t) h.0 (agrees_array (lvalue_type l) t n h.1) refl (element_formed t n f)
    where
      element_formed : (t : CType) (n : Option ℕ) → IsFormed c.structs (array t n) → IsFormed c.structs (pointer t)
      element_formed t None f = f
      element_formed t (Some n) f = f.0
  loaded_good l (structure k) h f v r = struct_good l k h.0 (agrees_struct (lvalue_type l) k h.1) f
  loaded_good l (function s) h f v r = addressed_good l (pointer (function s)) h.0 refl f
