-- What a call does once its arguments are lowered.
use Rattle.std.specs.Prelude.{ℕ, ◌+◌, ◌==◌, ◌&&◌, ◌||◌, not, Bool, true, false, List, [], ◌∷◌, ◌++◌, Option, Some, None, length, is_none, if◌then◌else◌}
use Rattle.std.specs.List.{list_all}
use Rattle.sp_types.specs.Types.{CType, void}
use Rattle.sp_types.specs.Typed.{Typed, of, place_of}
use Rattle.sp_ir.specs.declared.command.Routine.{Routine}
use Rattle.sp_ir.specs.declared.command.Routine.TheVariants.{Exit, Abort}
use Rattle.sp_ir.specs.Commands.{Expression, Lvalue, direct, call, return, library, outside}
use Rattle.sp_ir.specs.Formed.{is_pointer, is_scalar, argument_count, allocates}
use Rattle.sp_lower_draft.specs.Context.{Context, is_void, pointee, pointee_size, has_pointer, routine_named}
use Rattle.sp_lower_draft.specs.Draft.{Draft, Left, left, next, with_loose, add, temporary}

-- where a call's result goes: a new temporary, if it is used
abbrev pub result_of : Context → Bool → CType → Draft → Left (Option Lvalue)
result_of c used t s =
    if used && not (is_void t) then
    (let made : Left Lvalue = temporary c t s in left (Some made.pure) made.after)
    else left None s

-- `exit` and `abort` don't (C90 7.10.4)
abbrev pub comes_back : Routine → Bool
comes_back Exit = false
comes_back Abort = false
comes_back r = true

-- the object of the next site
abbrev pub next_site : Context → Draft → ℕ
next_site c s = c.first_site + length s.sites

-- a site at the next node
abbrev pub with_site : Option CType → Bool → Draft → Draft
with_site of heap s =
    record s { sites = s.sites ++ record { node = length s.nodes; of = of; heap = heap } ∷ [] }

-- a site at the next node, where one is due
abbrev pub sited : Context → Bool → Option CType → Bool → Draft → Left (Option ℕ)
sited c due of heap s =
    if due then left (Some (next_site c s)) (with_site of heap s) else left None s

-- what a pointer of this type points to, where that is a complete object type
abbrev pub complete_pointee : Context → CType → Option CType
complete_pointee c t =
    if is_pointer t then (if pointee_size c t == 0 then None else Some (pointee t)) else None

-- the element type of a site, by the type to which the call's result is directly converted
abbrev pub element_given : Context → Option CType → Option CType
element_given c None = None
element_given c (Some t) = complete_pointee c t

-- a routine of the library; `to` is the type to which the result is directly converted
abbrev pub library_called : Context → Routine → Typed → Option CType → List Expression → Option Lvalue
    → Draft → Draft
library_called c which e to args result s =
    let site : Left (Option ℕ) = sited c (allocates which) (element_given c to) true s in
    let made : Draft = add c (library which result args site.pure) (place_of e) site.after in
    if comes_back which then made else with_loose [] made

-- another function that isn't defined: a used result with a leaf of pointer type has a site
abbrev pub outside_called : Context → Typed → List Expression → Option Lvalue → Draft → Draft
outside_called c e args result s =
    let site : Left (Option ℕ) =
    sited c (not (is_none result) && has_pointer c.pointers (of e)) None false s in
    add c (outside result args site.pure) (place_of e) site.after

-- the types of a call with an effect of the library's: integers and pointers, and a result of one
-- or none
abbrev pub are_scalar : List Typed → Bool
are_scalar es = list_all (λ (a : Typed). is_scalar (of a)) es

abbrev pub fits : Typed → List Typed → Routine → Bool
fits e es which =
    (length es == argument_count which) && are_scalar es && (is_scalar (of e) || is_void (of e))

abbrev pub if_fits : Typed → List Typed → Option Routine → Option Routine
if_fits e es None = None
if_fits e es (Some which) = if fits e es which then Some which else None

-- the routine of the library that the undefined function n is in this call (C90 7.10, 7.11)
abbrev pub routine_called : Context → ℕ → Typed → List Typed → Option Routine
routine_called c n e es = if_fits e es (routine_named c n)

abbrev pub undefined_by : Context → Option Routine → Typed → Option CType → List Expression
    → Option Lvalue → Draft → Draft
undefined_by c None e to args result s = outside_called c e args result s
undefined_by c (Some which) e to args result s = library_called c which e to args result s

-- a call of the undefined function n by its name
abbrev pub undefined_called : Context → ℕ → Typed → Option CType → Bool → List Typed → List Expression
    → Draft → Left (Option Lvalue)
undefined_called c n e to used es args s =
    let result : Left (Option Lvalue) = result_of c used (of e) s in
    left result.pure
    (undefined_by c (routine_called c n e es) e to args result.pure result.after)

-- a call and its return node; there is no edge between them
abbrev pub defined_called : Context → Typed → Bool → Expression → List Expression → Draft
    → Left (Option Lvalue)
defined_called c e used callee args s =
    let result : Left (Option Lvalue) = result_of c used (of e) s in
    left result.pure
    (add c (return (next result.after) result.pure) (place_of e)
    (with_loose [] (add c (call callee args) (place_of e) result.after)))

-- where a call's result stands; a typed program asks for that of no other call
abbrev pub result_place : CType → Option Lvalue → Lvalue
result_place t None = direct 0 t
result_place t (Some l) = l
