-- The functions that a unit mentions, and those that it has to define (C90 6.7).
use Rattle.std.specs.Prelude.{ℕ, suc, Bool, true, false, ◌&&◌, List, [], ◌∷◌, ◌++◌, Option, Some, None, if◌then◌else◌, is_none, nat_eq}
use Rattle.std.specs.List.{list_any}
use Rattle.sp_tree.specs.declared.fault.Place.{Place}
use Rattle.sp_types.specs.Programs.{Object, Function}
use Rattle.sp_types.specs.declared.program.Linkage.{Linkage}
use Rattle.sp_types.specs.declared.program.Linkage.TheVariants.{Internal}
use Rattle.sp_check_mentions.specs.Mentions.{start_mentions, body_mentions}

abbrev pub objects_mention : List Object → List ℕ
objects_mention [] = []
objects_mention (o ∷ os) = start_mentions o.start ++ objects_mention os

abbrev pub bodies_mention : List Function → List ℕ
bodies_mention [] = []
bodies_mention (f ∷ fs) = body_mentions f.body ++ bodies_mention fs

-- in the start values of its objects, then in the bodies of its functions
abbrev pub unit_mentions : List Object → List Function → List ℕ
unit_mentions os fs = objects_mention os ++ bodies_mention fs

abbrev pub is_internal : Linkage → Bool
is_internal Internal = true
is_internal _ = false

-- 6.7: its body isn't in the unit, and no other unit can have it
abbrev pub is_internal_without_body : Function → Bool
is_internal_without_body f = is_internal f.linkage && is_none f.body

-- 6.7: a function with internal linkage that an expression mentions has a definition in its unit
abbrev pub lacks_definition : List ℕ → ℕ → Function → Bool
lacks_definition ms k f = is_internal_without_body f && list_any (nat_eq k) ms

-- the place of the first function, from this number on, that lacks one
abbrev pub first_undefined : List ℕ → ℕ → List Function → Option Place
first_undefined ms k [] = None
first_undefined ms k (f ∷ fs) = if lacks_definition ms k f then Some f.place else first_undefined ms (suc k) fs

abbrev pub undefined_function : List Object → List Function → Option Place
undefined_function os fs = first_undefined (unit_mentions os fs) 0 fs
