-- The functions of the library that have an effect of their own, by name (C90 7.10, 7.11).
use Rattle.std.specs.Prelude.{ℕ, List, Option, Some, None, map, if◌then◌else◌, codes, bytes_eq}
use Rattle.sp_types.specs.Programs.{Function}
use Rattle.sp_ir.specs.declared.command.Routine.{Routine}
use Rattle.sp_ir.specs.declared.command.Routine.TheVariants.{Malloc, Calloc, Realloc, Free, Exit, Abort, Memset, Memcpy, Memmove, Strlen, Strcpy, Strncpy, Strcat}
use Rattle.sp_lower_objects.specs.Names.{name_at}

-- of memory and of the program (C90 7.10.3, 7.10.4)
abbrev pub system_routine : List ℕ → Option Routine
system_routine name =
    if bytes_eq name (codes "malloc") then Some Malloc
    else if bytes_eq name (codes "calloc") then Some Calloc
    else if bytes_eq name (codes "realloc") then Some Realloc
    else if bytes_eq name (codes "free") then Some Free
    else if bytes_eq name (codes "exit") then Some Exit
    else if bytes_eq name (codes "abort") then Some Abort
    else None

-- of strings (C90 7.11)
abbrev pub string_routine : List ℕ → Option Routine
string_routine name =
    if bytes_eq name (codes "memset") then Some Memset
    else if bytes_eq name (codes "memcpy") then Some Memcpy
    else if bytes_eq name (codes "memmove") then Some Memmove
    else if bytes_eq name (codes "strlen") then Some Strlen
    else if bytes_eq name (codes "strcpy") then Some Strcpy
    else if bytes_eq name (codes "strncpy") then Some Strncpy
    else if bytes_eq name (codes "strcat") then Some Strcat
    else None

abbrev pub either : Option Routine → Option Routine → Option Routine
either None r = r
either (Some r) s = Some r

abbrev pub routine_of : List ℕ → Option Routine
routine_of name = either (system_routine name) (string_routine name)

-- of each function the routine that its name says
abbrev pub routines_of : List (List ℕ) → List Function → List (Option Routine)
routines_of names fs = map (λ (f : Function). routine_of (name_at names f.name)) fs
