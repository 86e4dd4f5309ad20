-- Sorts of types, and of what has a type of a sort.
use Rattle.std.proofs.Common.{◌≡◌, ℕ, List, Option, ◌≤◌, ◌==◌, true, false, refl, ap, sym, subst, true≢false, arith, eqb-true, eq-eqb}
use Rattle.std.proofs.lemmas.Bool.Decides.{nat_tests}
use Rattle.sp_types.specs.declared.ctype.IntKind.{IntKind}
use Rattle.sp_types.specs.declared.ctype.IntKind.TheVariants.{Char, SChar, UChar, Short, UShort, Int, UInt, Long, ULong}
use Rattle.sp_types.specs.Types.{Struct, Signature, CType, void, integer, floating, pointer, array, structure, function}
use Rattle.sp_ir.specs.Commands.{Expression}
use Rattle.sp_ir.specs.Formed.{is_struct, is_integer, is_pointer, is_array, is_floating, is_scalar}
use Rattle.sp_ir.specs.Terrain.{size_of}
use Rattle.sp_lower_draft.specs.Context.{Context, is_void}
use Rattle.sp_check_typing.specs.Refines.{Tells, names_void, names_integer, names_floating, names_pointer, names_array, names_struct, names_open, names_function}
use Rattle.sp_check_typing.specs.Sorts.{agrees, same_value, IsStored, IsStepped}
use Rattle.sp_lower_expr_laws.specs.Uses.{Yields}

pub false_true : {P : Type 0} → false ≡ true → P
false_true h = cc

pub zero_not : (n : ℕ) → (n == 0) ≡ false → 1 ≤ n
zero_not n h = grind (arith, nat_tests)

pub zero_is : (n : ℕ) → (n == 0) ≡ true → n ≡ 0
zero_is n h = grind (arith, nat_tests)

pub pointer_scalar : (t : CType) → is_pointer t ≡ true → is_scalar t ≡ true
pointer_scalar (pointer t) h = refl
pointer_scalar void h = h
pointer_scalar (integer k) h = refl
pointer_scalar (floating k) h = h
pointer_scalar (array t n) h = h
pointer_scalar (structure k) h = h
pointer_scalar (function s) h = h

pub integer_scalar : (t : CType) → is_integer t ≡ true → is_scalar t ≡ true
integer_scalar (integer k) h = refl
integer_scalar (pointer t) h = refl
integer_scalar void h = h
integer_scalar (floating k) h = h
integer_scalar (array t n) h = h
integer_scalar (structure k) h = h
integer_scalar (function s) h = h

-- ---- what agrees with a sort

pub agrees_integer : (u : CType) (k : IntKind) → agrees u (integer k) ≡ true → is_integer u ≡ true
agrees_integer (integer j) k a = refl
agrees_integer void k a = a
agrees_integer (floating j) k a = a
agrees_integer (pointer t) k a = a
agrees_integer (array t n) k a = a
agrees_integer (structure n) k a = a
agrees_integer (function s) k a = a

pub agrees_pointer : (u t : CType) → agrees u (pointer t) ≡ true → is_pointer u ≡ true
agrees_pointer (pointer v) t a = refl
agrees_pointer void t a = a
agrees_pointer (integer k) t a = a
agrees_pointer (floating k) t a = a
agrees_pointer (array v n) t a = a
agrees_pointer (structure n) t a = a
agrees_pointer (function s) t a = a

pub agrees_array : (u t : CType) (n : Option ℕ) → agrees u (array t n) ≡ true → is_array u ≡ true
agrees_array (array v m) t n a = refl
agrees_array void t n a = a
agrees_array (integer k) t n a = a
agrees_array (floating k) t n a = a
agrees_array (pointer v) t n a = a
agrees_array (structure k) t n a = a
agrees_array (function s) t n a = a

pub agrees_struct : (u : CType) (k : ℕ) → agrees u (structure k) ≡ true → u ≡ structure k
agrees_struct (structure j) k a = ap structure (eqb-true j k a)
agrees_struct void k a = false_true a
agrees_struct (integer j) k a = false_true a
agrees_struct (floating j) k a = false_true a
agrees_struct (pointer v) k a = false_true a
agrees_struct (array v n) k a = false_true a
agrees_struct (function s) k a = false_true a

-- no floating type agrees with any
pub agrees_floating : (u t : CType) → agrees u t ≡ true → is_floating u ≡ false
agrees_floating (floating k) t a = false_true a
agrees_floating void t a = refl
agrees_floating (integer j) t a = refl
agrees_floating (pointer v) t a = refl
agrees_floating (array v n) t a = refl
agrees_floating (structure n) t a = refl
agrees_floating (function s) t a = refl

pub agrees_self : (t : CType) → is_floating t ≡ false → agrees t t ≡ true
agrees_self void h = refl
agrees_self (integer k) h = refl
agrees_self (floating k) h = sym h
agrees_self (pointer t) h = refl
agrees_self (array t n) h = refl
agrees_self (structure k) h = eq-eqb k k refl
agrees_self (function s) h = refl

-- what tells at least as much agrees
pub tells_agree : (u t : CType) → Tells u t → is_floating t ≡ false → agrees u t ≡ true
tells_agree u t names_void h = refl
tells_agree u t (names_integer k) h = refl
tells_agree u t (names_floating k) h = sym h
tells_agree u t (names_pointer a b) h = refl
tells_agree u t (names_array a b n m k) h = refl
tells_agree u t (names_struct k) h = eq-eqb k k refl
tells_agree u t (names_open k j e) h = absurd (true≢false (sym e))
tells_agree u t (names_function a b) h = refl

-- ---- sizes

pub integer_sized : (ss : List Struct) (u : CType) → is_integer u ≡ true → 1 ≤ size_of ss u
integer_sized ss (integer Char) h = omega arith
integer_sized ss (integer SChar) h = omega arith
integer_sized ss (integer UChar) h = omega arith
integer_sized ss (integer Short) h = omega arith
integer_sized ss (integer UShort) h = omega arith
integer_sized ss (integer Int) h = omega arith
integer_sized ss (integer UInt) h = omega arith
integer_sized ss (integer Long) h = omega arith
integer_sized ss (integer ULong) h = omega arith
integer_sized ss void h = false_true h
integer_sized ss (floating k) h = false_true h
integer_sized ss (pointer t) h = false_true h
integer_sized ss (array t n) h = false_true h
integer_sized ss (structure n) h = false_true h
integer_sized ss (function s) h = false_true h

pub pointer_sized : (ss : List Struct) (u : CType) → is_pointer u ≡ true → 1 ≤ size_of ss u
pointer_sized ss (pointer t) h = omega arith
pointer_sized ss void h = false_true h
pointer_sized ss (integer k) h = false_true h
pointer_sized ss (floating k) h = false_true h
pointer_sized ss (array t n) h = false_true h
pointer_sized ss (structure n) h = false_true h
pointer_sized ss (function s) h = false_true h

-- ---- what else a sort says

pub scalar_there : (t : CType) → is_scalar t ≡ true → is_void t ≡ false
scalar_there (integer k) h = refl
scalar_there (pointer t) h = refl
scalar_there void h = sym h
scalar_there (floating k) h = refl
scalar_there (array t n) h = refl
scalar_there (structure n) h = refl
scalar_there (function s) h = refl

pub stored_there : (ss : List Struct) (t : CType) → IsStored ss t → is_void t ≡ false
stored_there ss (integer k) h = refl
stored_there ss (pointer t) h = refl
stored_there ss (structure k) h = refl
stored_there ss void h = absurd h
stored_there ss (floating k) h = absurd h
stored_there ss (array t n) h = absurd h
stored_there ss (function s) h = absurd h

pub scalar_stored : (ss : List Struct) (t : CType) → is_scalar t ≡ true → IsStored ss t
scalar_stored ss (integer k) h = tt
scalar_stored ss (pointer t) h = tt
scalar_stored ss void h = false_true h
scalar_stored ss (floating k) h = false_true h
scalar_stored ss (array t n) h = false_true h
scalar_stored ss (structure n) h = false_true h
scalar_stored ss (function s) h = false_true h

pub stepped_scalar : (ss : List Struct) (t : CType) → IsStepped ss t → is_scalar t ≡ true
stepped_scalar ss (integer k) h = refl
stepped_scalar ss (pointer t) h = refl
stepped_scalar ss void h = absurd h
stepped_scalar ss (floating k) h = absurd h
stepped_scalar ss (array t n) h = absurd h
stepped_scalar ss (structure n) h = absurd h
stepped_scalar ss (function s) h = absurd h

-- an object of the first type is one of the second type's sort too
pub agrees_as : (u a t : CType) → agrees u a ≡ true → same_value a t ≡ true → agrees u t ≡ true
agrees_as u (integer j) (integer k) h s = by u h
  where
    by : (u : CType) → agrees u (integer j) ≡ true → agrees u (integer k) ≡ true
    by (integer i) h = refl
    by void h = h
    by (floating i) h = h
    by (pointer t) h = h
    by (array t n) h = h
    by (structure n) h = h
    by (function s) h = h
agrees_as u (pointer a) (pointer t) h s = by u h
  where
    by : (u : CType) → agrees u (pointer a) ≡ true → agrees u (pointer t) ≡ true
    by (pointer v) h = refl
    by void h = h
    by (integer i) h = h
    by (floating i) h = h
    by (array v n) h = h
    by (structure n) h = h
    by (function s) h = h
agrees_as u (structure j) (structure k) h s = subst (λ v. agrees u v ≡ true) (agrees_struct (structure j) k s) h
agrees_as u (integer j) void h s = false_true s
agrees_as u (integer j) (floating k) h s = false_true s
agrees_as u (integer j) (pointer t) h s = false_true s
agrees_as u (integer j) (array t n) h s = false_true s
agrees_as u (integer j) (structure k) h s = false_true s
agrees_as u (integer j) (function r) h s = false_true s
agrees_as u (pointer a) void h s = false_true s
agrees_as u (pointer a) (integer k) h s = false_true s
agrees_as u (pointer a) (floating k) h s = false_true s
agrees_as u (pointer a) (array t n) h s = false_true s
agrees_as u (pointer a) (structure k) h s = false_true s
agrees_as u (pointer a) (function r) h s = false_true s
agrees_as u (structure j) void h s = false_true s
agrees_as u (structure j) (integer k) h s = false_true s
agrees_as u (structure j) (floating k) h s = false_true s
agrees_as u (structure j) (pointer t) h s = false_true s
agrees_as u (structure j) (array t n) h s = false_true s
agrees_as u (structure j) (function r) h s = false_true s
agrees_as u void t h s = false_true s
agrees_as u (floating k) t h s = false_true s
agrees_as u (array a n) t h s = false_true s
agrees_as u (function r) t h s = false_true s

-- ---- types of one sort

pub data AreOneSort : CType → CType → Type 0 where
  both_void : AreOneSort void void
  both_integers : {j k : IntKind} → AreOneSort (integer j) (integer k)
  both_pointers : {t u : CType} → AreOneSort (pointer t) (pointer u)
  both_arrays : {t u : CType} {n m : Option ℕ} → AreOneSort (array t n) (array u m)
  one_struct : {k : ℕ} → AreOneSort (structure k) (structure k)
  both_functions : {s r : Signature} → AreOneSort (function s) (function r)

pub one_sort : (u t : CType) → agrees u t ≡ true → AreOneSort u t
one_sort void void h = both_void
one_sort (integer j) (integer k) h = both_integers
one_sort (pointer t) (pointer u) h = both_pointers
one_sort (array t n) (array u m) h = both_arrays
one_sort (structure j) (structure k) h = subst (λ i. AreOneSort (structure j) (structure i)) (eqb-true j k h) one_struct
one_sort (function s) (function r) h = both_functions
one_sort u t h = false_true h

pub one_void : {u t : CType} → AreOneSort u t → is_void u ≡ is_void t
one_void both_void = refl
one_void both_integers = refl
one_void both_pointers = refl
one_void both_arrays = refl
one_void one_struct = refl
one_void both_functions = refl

pub one_struct_too : {u t : CType} → AreOneSort u t → is_struct u ≡ is_struct t
one_struct_too both_void = refl
one_struct_too both_integers = refl
one_struct_too both_pointers = refl
one_struct_too both_arrays = refl
one_struct_too one_struct = refl
one_struct_too both_functions = refl

pub one_yields : {u t : CType} (c : Context) (e : Expression) → AreOneSort u t → Yields c u e → Yields c t e
one_yields c e both_void y = y
one_yields c e both_integers y = y
one_yields c e both_pointers y = y
one_yields c e both_arrays y = y
one_yields c e one_struct y = y
one_yields c e both_functions y = y

pub one_agrees : {x u t : CType} → AreOneSort x u → AreOneSort u t → agrees x t ≡ true
one_agrees both_void both_void = refl
one_agrees both_integers both_integers = refl
one_agrees both_pointers both_pointers = refl
one_agrees both_arrays both_arrays = refl
one_agrees (one_struct {k = k}) one_struct = eq-eqb k k refl
one_agrees both_functions both_functions = refl
