-- The alarms of a node hang on the locations that it uses alone.
use Rattle.std.proofs.Common.{◌≡◌, ◌⊎◌, inl, inr, ℕ, nat_eq, Bool, true, false, ◌&&◌, ◌||◌, List, [], ◌∷◌, ◌++◌, Option, Some, None, refl, subst}
use Rattle.std.specs.Prelude.{flat_map}
use Rattle.std.proofs.lemmas.Bool.{false≢true, or_cases}
use Rattle.sp_ir.specs.Commands.{Expression, Lvalue, Command, start, entry, exit, skip, assign, copy, init, assume, eval, call, return, library, outside, read, number, address, decay, convert, unary, binary, compare, move, distance, lvalue_type}
use Rattle.sp_ir.specs.Terrain.{Terrain, terrain_of}
use Rattle.sp_ir.specs.Denoted.{PointsTo, pointer_uses, uses_of, cells_of}
use Rattle.sp_eval.specs.Laws.{Among}
use Rattle.sp_eval.proofs.Among.{among-left, among-right, among-filter, among-flat_map}
use Rattle.sp_points_rules.specs.Puts.{as_struct, struct_in, struct_read}
use Rattle.sp_points_rules.specs.Paths.{reaches}
use Rattle.sp_points_rules.proofs.Reaching.{reaches-self}
use Rattle.sp_effect_alarms.specs.Uses.{list_uses, result_uses, command_uses}
use Rattle.sp_lattice.specs.System.{has}
use Rattle.sp_effect_rows.specs.Setting.{cell_of}
use Rattle.sp_effect_assign.specs.Destinations.{keeps_hit, assigned_reads}
use Rattle.sp_effect_assume.specs.Conditions.{assume_defines, assumed_reads}
use Rattle.sp_effect_scene.specs.Analysed.{Analysed, setting_of, scene_of, locations_of, is_summary}
use Rattle.sp_effect_entry.specs.Initials.{init_defines, is_shared, leaf_reads}
use Rattle.sp_effect_call.specs.Copied.{cells_in}
use Rattle.sp_effect_call.specs.Copies.{keeps_leaves, struct_reads, argument_reads, arguments_read, result_keeps, result_found}
use Rattle.sp_effect_call.specs.Passed.{call_defines}
use Rattle.sp_effect_call.specs.Returns.{result_reads}
use Rattle.sp_effect_call.proofs.ReadCells.{location-cell}
use Rattle.sp_effect_rows.specs.Storing.{may_hit}
use Rattle.sp_effect_library.specs.Written.{written_by}
use Rattle.sp_effect_library.specs.Effects.{written_to, moved_reads, library_reads}
use Rattle.sp_transfer.specs.Effects.{used_by}

pub or-right : (a b : Bool) → b ≡ true → (a || b) ≡ true
or-right true b h = refl
or-right false b h = h

pub or-left : (a b : Bool) → a ≡ true → (a || b) ≡ true
or-left true b h = refl
or-left false b h = absurd (false≢true h)

pub split : (xs ys : List ℕ) (r : ℕ) → Among (xs ++ ys) r → Among xs r ⊎ Among ys r
split [] ys r h = inr h
split (x ∷ xs) ys r h = by (or_cases (nat_eq r x) (has r (xs ++ ys)) h) (split xs ys r)
  where
    rest : Among xs r ⊎ Among ys r → Among (x ∷ xs) r ⊎ Among ys r
    rest (inl k) = inl (or-right (nat_eq r x) (has r xs) k)
    rest (inr k) = inr k

    by : (nat_eq r x ≡ true) ⊎ Among (xs ++ ys) r → (Among (xs ++ ys) r → Among xs r ⊎ Among ys r) → Among (x ∷ xs) r ⊎ Among ys r
    by (inl e) more = inl (or-left (nat_eq r x) (has r xs) e)
    by (inr k) more = rest (more k)

swapped : (xs ys : List ℕ) (r : ℕ) → Among (xs ++ ys) r → Among (ys ++ xs) r
swapped xs ys r h = by (split xs ys r h)
  where
    by : Among xs r ⊎ Among ys r → Among (ys ++ xs) r
    by (inl k) = among-right ys xs r k
    by (inr k) = among-left ys xs r k

-- of a region that is the cell of a location
module _ (a : Analysed) (r : ℕ) (cell : has r (locations_of a.program) ≡ true) where
  abbrev g : Terrain
  g = terrain_of a.program

  abbrev points : PointsTo
  points = (setting_of a).points_to

  in-itself : Among (cells_in a.program r) r
  in-itself = among-filter (reaches a.program r) (locations_of a.program) r (reaches-self a.program r (location-cell a.program r cell)) cell

  -- what is read of a struct has the cells that its lvalue denotes
  struct-read : (l : Lvalue) → Among (cells_of g points l ++ pointer_uses g points l) r → Among (struct_reads a l) r
  struct-read l h = by (split (cells_of g points l) (pointer_uses g points l) r h)
    where
      by : Among (cells_of g points l) r ⊎ Among (pointer_uses g points l) r → Among (struct_reads a l) r
      by (inl k) = among-left (flat_map (cells_in a.program) (cells_of g points l)) (pointer_uses g points l) r (among-flat_map (cells_in a.program) (cells_of g points l) r r k in-itself)
      by (inr k) = among-right (flat_map (cells_in a.program) (cells_of g points l)) (pointer_uses g points l) r k

  argument-read : (e : Expression) → Among (uses_of g points e) r → Among (argument_reads a e (as_struct e)) r
  argument-read (number z k) h = h
  argument-read (address l) h = h
  argument-read (decay l) h = h
  argument-read (read l) h = by (struct_in (lvalue_type l))
    where
      by : (s : Option ℕ) → Among (argument_reads a (read l) (struct_read s l)) r
      by None = h
      by (Some n) = struct-read l h
  argument-read (convert t e) h = h
  argument-read (unary op k e) h = h
  argument-read (binary op k e f at) h = h
  argument-read (compare op e f) h = h
  argument-read (move e f back size) h = h
  argument-read (distance e f size) h = h

  arguments-read : (args : List Expression) → Among (list_uses a.program points args) r → Among (arguments_read a args) r
  arguments-read [] h = h
  arguments-read (e ∷ args) h = by (split (uses_of g points e) (list_uses a.program points args) r h) (arguments-read args)
    where
      by : Among (uses_of g points e) r ⊎ Among (list_uses a.program points args) r → (Among (list_uses a.program points args) r → Among (arguments_read a args) r) → Among (arguments_read a (e ∷ args)) r
      by (inl k) more = among-left (argument_reads a e (as_struct e)) (arguments_read a args) r (argument-read e k)
      by (inr k) more = among-right (argument_reads a e (as_struct e)) (arguments_read a args) r (more k)

  result-read : (to : Option Lvalue) → Among (result_uses a.program points to) r → Among (result_found a to) r
  result-read None h = h
  result-read (Some to) h = h

  given-read : (to : Option Lvalue) (args : List Expression) → Among (result_uses a.program points to ++ list_uses a.program points args) r → Among (arguments_read a args ++ result_found a to) r
  given-read to args h = by (split (result_uses a.program points to) (list_uses a.program points args) r h)
    where
      by : Among (result_uses a.program points to) r ⊎ Among (list_uses a.program points args) r → Among (arguments_read a args ++ result_found a to) r
      by (inl k) = among-right (arguments_read a args) (result_found a to) r (result-read to k)
      by (inr k) = among-left (arguments_read a args) (result_found a to) r (arguments-read args k)

  module _ (l : ℕ) (at : r ≡ cell_of (setting_of a) l) where
    moved : (rs : List ℕ) → Among rs r → has (cell_of (setting_of a) l) rs ≡ true
    moved rs h = subst (λ q. has q rs ≡ true) at h

    pub alarms-used : (n : ℕ) (c : Command) → Among (command_uses a.program points c) r → used_by a n c l ≡ true
    alarms-used n start h = moved (flat_map (λ o. leaf_reads (scene_of a) o.start) a.program.objects) h
    alarms-used n (entry f) h = absurd (false≢true h)
    alarms-used n (exit f) h = absurd (false≢true h)
    alarms-used n skip h = absurd (false≢true h)
    alarms-used n (assign to e) h = or-right (keeps_hit (scene_of a) to l) _
        (moved (assigned_reads (scene_of a) to e) (swapped (pointer_uses g points to) (uses_of g points e) r h))
    alarms-used n (copy to from) h = or-right (keeps_leaves a to l) _
        (moved (struct_reads a from ++ pointer_uses g points to) (by (split (pointer_uses g points to) (pointer_uses g points from) r h)))
      where
        by : Among (pointer_uses g points to) r ⊎ Among (pointer_uses g points from) r → Among (struct_reads a from ++ pointer_uses g points to) r
        by (inl k) = among-right (struct_reads a from) (pointer_uses g points to) r k
        by (inr k) = among-left (struct_reads a from) (pointer_uses g points to) r
            (among-right (flat_map (cells_in a.program) (cells_of g points from)) (pointer_uses g points from) r k)
    alarms-used n (init o values zeros) h = or-right (init_defines a o l && is_shared a o) _ (moved (leaf_reads (scene_of a) values) h)
    alarms-used n (assume e op f) h = or-right (assume_defines (scene_of a) e f l) _ (moved (assumed_reads (scene_of a) e f) h)
    alarms-used n (eval e) h = moved (uses_of g points e) h
    alarms-used n (call callee args) h = or-right (call_defines a n l && is_summary a.program a.told (cell_of (setting_of a) l)) _
        (moved (arguments_read a args ++ uses_of g points callee) (by (split (uses_of g points callee) (list_uses a.program points args) r h)))
      where
        by : Among (uses_of g points callee) r ⊎ Among (list_uses a.program points args) r → Among (arguments_read a args ++ uses_of g points callee) r
        by (inl k) = among-right (arguments_read a args) (uses_of g points callee) r k
        by (inr k) = among-left (arguments_read a args) (uses_of g points callee) r (arguments-read args k)
    alarms-used n (return c to) h = or-right (result_keeps a to l) _
        (moved (result_reads a c to ++ result_found a to) (among-right (result_reads a c to) (result_found a to) r (result-read to h)))
    alarms-used n (library which to args site) h = or-right (may_hit (written_to a args site (written_by which)) l) _ (or-right (result_keeps a to l) _
        (moved (library_reads a args which to) (among-right (moved_reads a args (written_by which)) (arguments_read a args ++ result_found a to) r (given-read to args h))))
    alarms-used n (outside to args site) h = or-right (result_keeps a to l) _ (moved (arguments_read a args ++ result_found a to) (given-read to args h))
