-- Which structs of several units agree, also in the structs that their members name (C90 6.1.2.6).
use Rattle.std.specs.Prelude.{◌≡◌, ℕ, zero, suc, Bool, true, false, List, map, Option, Some, None, slice_get}
use Rattle.sp_types.specs.Types.{CType, Struct}
use Rattle.sp_types.specs.View.{struct_of}
use Rattle.sp_base_checked.specs.declared.unit.CheckedUnit.{CheckedUnit as CodeUnit}
use Rattle.sp_link_agreement.specs.Agreement.{compatible_by, structs_agree}

-- the table of structs of each unit
abbrev pub table_of : CodeUnit → List Struct
table_of u = map struct_of u.structs.items

abbrev pub tables : List CodeUnit → List (List Struct)
tables us = map table_of us

-- A struct of several units is named by its unit and its number there.
abbrev pub struct_of_table : Option (List Struct) → ℕ → Option Struct
struct_of_table None k = None
struct_of_table (Some ss) k = slice_get ss k

abbrev pub struct_at : List (List Struct) → ℕ × ℕ → Option Struct
struct_at us x = struct_of_table (slice_get us x.0) x.1

abbrev pub found_agree : (ℕ → ℕ → Bool) → Option Struct → Option Struct → Bool
found_agree agree (Some s) (Some t) = structs_agree agree s t
found_agree agree _ _ = false

-- They agree to a depth: so far down nothing differs.
abbrev pub agrees_within : ℕ → List (List Struct) → ℕ × ℕ → ℕ × ℕ → Bool
agrees_within zero us x y = true
agrees_within (suc n) us x y =
    found_agree (λ k j. agrees_within n us (x.0, k) (y.0, j)) (struct_at us x) (struct_at us y)

-- They agree to every depth. A type that names itself has no last one.
abbrev pub Agree : List (List Struct) → ℕ × ℕ → ℕ × ℕ → Type 0
Agree us x y = (n : ℕ) → agrees_within n us x y ≡ true

-- each of these pairs agrees
abbrev pub AllAgree : List (List Struct) → List ((ℕ × ℕ) × (ℕ × ℕ)) → Type 0
AllAgree us ps = (i : ℕ) (p : (ℕ × ℕ) × (ℕ × ℕ)) → slice_get ps i ≡ Some p → Agree us p.0 p.1

-- Types are compatible where they are to every depth of the structs that they name. A type is given
-- with its unit.
abbrev pub TypesAgree : List (List Struct) → ℕ × CType → ℕ × CType → Type 0
TypesAgree us x y =
    (n : ℕ) → compatible_by (λ k j. agrees_within n us (x.0, k) (y.0, j)) x.1 y.1 ≡ true

-- each of these pairs of numbers agrees, in two units
abbrev pub EachAgrees : List (List Struct) → ℕ → ℕ → List (ℕ × ℕ) → Type 0
EachAgrees us u v qs =
    (i : ℕ) (q : ℕ × ℕ) → slice_get qs i ≡ Some q → Agree us (u, q.0) (v, q.1)
