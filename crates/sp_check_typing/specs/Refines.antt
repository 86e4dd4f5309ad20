-- Which types tell more than another (C90 6.1.2.6): the same type, but for lengths and parameters
-- that a further declaration, or another unit, tells.
use Rattle.std.specs.Prelude.{◌≡◌, ℕ, Bool, true, false, Option, Some, None, ⊤}
use Rattle.sp_types.specs.declared.ctype.IntKind.{IntKind}
use Rattle.sp_types.specs.declared.ctype.FloatKind.{FloatKind}
use Rattle.sp_types.specs.Types.{CType, void, integer, floating, pointer, array, structure, function, Signature}

abbrev pub KeepsLength : Option ℕ → Option ℕ → Type 0
KeepsLength None m = ⊤
KeepsLength (Some n) m = m ≡ Some n

-- The second type tells at least what the first does, where `f` gives the number of each struct. One
-- without members, as `o` says, may be another there. Functions aren't compared.
pub data Refines (o : ℕ → Bool) (f : ℕ → ℕ) : CType → CType → Type 0 where
  of_void : Refines o f void void
  of_integer : (k : IntKind) → Refines o f (integer k) (integer k)
  of_floating : (k : FloatKind) → Refines o f (floating k) (floating k)
  of_pointer : (t u : CType) → Refines o f t u → Refines o f (pointer t) (pointer u)
  of_array : (t u : CType) (n m : Option ℕ) → Refines o f t u → KeepsLength n m → Refines o f (array t n) (array u m)
  of_struct : (k : ℕ) → Refines o f (structure k) (structure (f k))
  of_open : (k j : ℕ) → o k ≡ true → Refines o f (structure k) (structure j)
  of_function : (r s : Signature) → Refines o f (function r) (function s)

-- An object of the second type may be named with the first: it is of the same sort, and as long as
-- the first tells. What pointers point to, elements and functions aren't compared.
pub data MayName (o : ℕ → Bool) (f : ℕ → ℕ) : CType → CType → Type 0 where
  names_void : MayName o f void void
  names_integer : (k : IntKind) → MayName o f (integer k) (integer k)
  names_floating : (k : FloatKind) → MayName o f (floating k) (floating k)
  names_pointer : (t u : CType) → MayName o f (pointer t) (pointer u)
  names_array : (t u : CType) (n m : Option ℕ) → KeepsLength n m → MayName o f (array t n) (array u m)
  names_struct : (k : ℕ) → MayName o f (structure k) (structure (f k))
  names_open : (k j : ℕ) → o k ≡ true → MayName o f (structure k) (structure j)
  names_function : (r s : Signature) → MayName o f (function r) (function s)

-- the second type names an object of the first, in one table of structs
abbrev pub Tells : CType → CType → Type 0
Tells u t = MayName (λ k. false) (λ k. k) t u
