-- The pointers of a command's accesses are proper, and what they read the command uses.
use Rattle.std.proofs.Common.{◌≡◌, ◌⊎◌, inl, inr, ℕ, Bool, true, false, cond, ◌&&◌, List, [], ◌∷◌, ◌++◌, Option, Some, None, refl, ap, ◌∙◌}
use Rattle.std.specs.List.{list_all, flat_map}
use Rattle.std.proofs.lemmas.Bool.{false≢true}
use Rattle.sp_ir.specs.Commands.{Expression, Lvalue, Leaf, Command, start, entry, exit, skip, assign, copy, init, assume, eval, call, return, library, outside, read, number, address, decay, convert, unary, binary, compare, move, distance, direct, through, field, lvalue_type}
use Rattle.sp_ir.specs.Terrain.{Terrain, terrain_of}
use Rattle.sp_ir.specs.Denoted.{PointsTo, pointer_uses, uses_of, cells_of}
use Rattle.sp_eval.specs.Evaluation.{is_proper, is_proper_lvalue, is_proper_size}
use Rattle.sp_eval.specs.Laws.{Among}
use Rattle.sp_eval.proofs.Among.{among-left, among-right}
use Rattle.sp_points_rules.specs.Puts.{as_struct, struct_in, struct_read}
use Rattle.sp_effect_alarms.specs.Commands.{are_proper, are_proper_leaves, is_proper_result, is_proper_command}
use Rattle.sp_effect_rows.specs.Setting.{cell_of}
use Rattle.sp_effect_rows.specs.Storing.{may_hit}
use Rattle.sp_effect_assign.specs.Destinations.{keeps_hit}
use Rattle.sp_effect_assume.specs.Conditions.{assume_defines}
use Rattle.sp_effect_checks.specs.Accesses.{Access, access, accesses_at, accesses_to, accesses_in, leaf_accesses, result_accesses, command_accesses}
use Rattle.sp_effect_checks.specs.Cuts.{accessed_reads}
use Rattle.sp_effect_scene.specs.Analysed.{Analysed, setting_of, scene_of}
use Rattle.sp_effect_entry.specs.Initials.{init_defines, is_shared, leaf_reads}
use Rattle.sp_effect_call.specs.Copied.{cells_in}
use Rattle.sp_effect_call.specs.Copies.{keeps_leaves, struct_reads, argument_reads, arguments_read, result_keeps, result_found}
use Rattle.sp_effect_library.specs.Written.{written_by as routine_writes}
use Rattle.sp_effect_library.specs.Effects.{written_to, moved_reads}
use Rattle.sp_transfer.specs.Effects.{used_by, accessed_by}
use Rattle.sp_transfer.proofs.UsedLaws.{or-right, split}

-- ---- proper pointers

abbrev all_proper : List Access → Bool
all_proper xs = list_all (λ (x : Access). is_proper x.pointer) xs

left-true : (a b : Bool) → (a && b) ≡ true → a ≡ true
left-true true b h = refl
left-true false b h = absurd (false≢true h)

right-true : (a b : Bool) → (a && b) ≡ true → b ≡ true
right-true true b h = h
right-true false b h = absurd (false≢true h)

all-both : (xs ys : List Access) → all_proper xs ≡ true → all_proper ys ≡ true → all_proper (xs ++ ys) ≡ true
all-both [] ys h k = k
all-both (x ∷ xs) ys h k =
    ap (λ b. b && all_proper (xs ++ ys)) (left-true (is_proper x.pointer) (all_proper xs) h)
    ∙ all-both xs ys (right-true (is_proper x.pointer) (all_proper xs) h) k

mutual
  at-proper : (l : Lvalue) → is_proper_lvalue l ≡ true → all_proper (accesses_at l) ≡ true
  at-proper (direct o t) h = refl
  at-proper (through e t at) h = all-both (accesses_in e) (access e t ∷ []) (in-proper e h) (ap (λ b. b && true) h)
  at-proper (field l k t) h = at-proper l h

  to-proper : (l : Lvalue) → is_proper_lvalue l ≡ true → all_proper (accesses_to l) ≡ true
  to-proper (direct o t) h = refl
  to-proper (through e t at) h = in-proper e h
  to-proper (field l k t) h = at-proper l h

  in-proper : (e : Expression) → is_proper e ≡ true → all_proper (accesses_in e) ≡ true
  in-proper (number z k) h = refl
  in-proper (address l) h = to-proper l h
  in-proper (decay l) h = at-proper l h
  in-proper (read l) h = at-proper l h
  in-proper (convert t e) h = in-proper e h
  in-proper (unary op k e) h = in-proper e h
  in-proper (binary op k e f at) h = all-both (accesses_in e) (accesses_in f) (in-proper e (left-true (is_proper e) (is_proper f) h)) (in-proper f (right-true (is_proper e) (is_proper f) h))
  in-proper (compare op e f) h = all-both (accesses_in e) (accesses_in f) (in-proper e (left-true (is_proper e) (is_proper f) h)) (in-proper f (right-true (is_proper e) (is_proper f) h))
  in-proper (move e f back size) h =
      let two = right-true (is_proper_size size) (is_proper e && is_proper f) h in
      all-both (accesses_in e) (accesses_in f) (in-proper e (left-true (is_proper e) (is_proper f) two)) (in-proper f (right-true (is_proper e) (is_proper f) two))
  in-proper (distance e f size) h =
      let two = right-true (is_proper_size size) (is_proper e && is_proper f) h in
      all-both (accesses_in e) (accesses_in f) (in-proper e (left-true (is_proper e) (is_proper f) two)) (in-proper f (right-true (is_proper e) (is_proper f) two))

leaves-proper : (ls : List Leaf) → are_proper_leaves ls ≡ true → all_proper (flat_map leaf_accesses ls) ≡ true
leaves-proper [] h = refl
leaves-proper (l ∷ ls) h = all-both (accesses_in l.value) (flat_map leaf_accesses ls)
    (in-proper l.value (left-true (is_proper l.value) (are_proper_leaves ls) h)) (leaves-proper ls (right-true (is_proper l.value) (are_proper_leaves ls) h))

list-proper : (es : List Expression) → are_proper es ≡ true → all_proper (flat_map accesses_in es) ≡ true
list-proper [] h = refl
list-proper (e ∷ es) h = all-both (accesses_in e) (flat_map accesses_in es)
    (in-proper e (left-true (is_proper e) (are_proper es) h)) (list-proper es (right-true (is_proper e) (are_proper es) h))

result-proper : (to : Option Lvalue) → is_proper_result to ≡ true → all_proper (result_accesses to) ≡ true
result-proper None h = refl
result-proper (Some l) h = at-proper l h

module _ (a : Analysed) where
  command-proper : (c : Command) → is_proper_command a.program c ≡ true → all_proper (command_accesses c) ≡ true
  command-proper start h = refl
  command-proper (entry f) h = refl
  command-proper (exit f) h = refl
  command-proper skip h = refl
  command-proper (assign to e) h = all-both (accesses_at to) (accesses_in e) (at-proper to (left-true (is_proper_lvalue to) (is_proper e) h)) (in-proper e (right-true (is_proper_lvalue to) (is_proper e) h))
  command-proper (copy to from) h = all-both (accesses_at to) (accesses_at from) (at-proper to (left-true (is_proper_lvalue to) (is_proper_lvalue from) h)) (at-proper from (right-true (is_proper_lvalue to) (is_proper_lvalue from) h))
  command-proper (init o values zeros) h = leaves-proper values h
  command-proper (assume e op f) h = all-both (accesses_in e) (accesses_in f) (in-proper e (left-true (is_proper e) (is_proper f) h)) (in-proper f (right-true (is_proper e) (is_proper f) h))
  command-proper (eval e) h = in-proper e h
  command-proper (call callee args) h = refl
  command-proper (return c to) h = refl
  command-proper (library which to args site) h = all-both (result_accesses to) (flat_map accesses_in args) (result-proper to (left-true (is_proper_result to) (are_proper args) h)) (list-proper args (right-true (is_proper_result to) (are_proper args) h))
  command-proper (outside to args site) h = all-both (result_accesses to) (flat_map accesses_in args) (result-proper to (left-true (is_proper_result to) (are_proper args) h)) (list-proper args (right-true (is_proper_result to) (are_proper args) h))

  pub accessed-proper : (sharp : Bool) (c : Command) → is_proper_command a.program c ≡ true → all_proper (accessed_by sharp c) ≡ true
  accessed-proper sharp c h = by sharp
    where
      by : (b : Bool) → all_proper (cond b (command_accesses c) []) ≡ true
      by true = command-proper c h
      by false = refl

-- ---- what they read

module _ (a : Analysed) (r : ℕ) where
  abbrev g : Terrain
  g = terrain_of a.program

  abbrev points : PointsTo
  points = (setting_of a).points_to

  abbrev reads : List Access → List ℕ
  reads xs = accessed_reads (scene_of a) xs

  both : (xs ys : List Access) → Among (reads (xs ++ ys)) r → Among (reads xs) r ⊎ Among (reads ys) r
  both [] ys h = inr h
  both (x ∷ xs) ys h = by (split (uses_of g points x.pointer) (reads (xs ++ ys)) r h) (both xs ys)
    where
      rest : Among (reads xs) r ⊎ Among (reads ys) r → Among (reads (x ∷ xs)) r ⊎ Among (reads ys) r
      rest (inl k) = inl (among-right (uses_of g points x.pointer) (reads xs) r k)
      rest (inr k) = inr k

      by : Among (uses_of g points x.pointer) r ⊎ Among (reads (xs ++ ys)) r → (Among (reads (xs ++ ys)) r → Among (reads xs) r ⊎ Among (reads ys) r) → Among (reads (x ∷ xs)) r ⊎ Among (reads ys) r
      by (inl k) more = inl (among-left (uses_of g points x.pointer) (reads xs) r k)
      by (inr k) more = rest (more k)

  -- what both lists read is among what both parts use
  joined : (xs ys : List Access) (us vs : List ℕ) → (Among (reads xs) r → Among us r) → (Among (reads ys) r → Among vs r) → Among (reads (xs ++ ys)) r → Among (us ++ vs) r
  joined xs ys us vs first second h = by (both xs ys h)
    where
      by : Among (reads xs) r ⊎ Among (reads ys) r → Among (us ++ vs) r
      by (inl k) = among-left us vs r (first k)
      by (inr k) = among-right us vs r (second k)

  turned : (us vs : List ℕ) → Among (us ++ vs) r → Among (vs ++ us) r
  turned us vs h = by (split us vs r h)
    where
      by : Among us r ⊎ Among vs r → Among (vs ++ us) r
      by (inl k) = among-right vs us r k
      by (inr k) = among-left vs us r k

  whole : (us : List ℕ) → Among (us ++ []) r → Among us r
  whole us h = by (split us [] r h)
    where
      by : Among us r ⊎ Among [] r → Among us r
      by (inl k) = k
      by (inr k) = absurd (false≢true k)

  mutual
    at-read : (l : Lvalue) → Among (reads (accesses_at l)) r → Among (pointer_uses g points l) r
    at-read (direct o t) h = h
    at-read (through e t at) h = by (both (accesses_in e) (access e t ∷ []) h) (in-read e)
      where
        by : Among (reads (accesses_in e)) r ⊎ Among (reads (access e t ∷ [])) r → (Among (reads (accesses_in e)) r → Among (uses_of g points e) r) → Among (uses_of g points e) r
        by (inl k) more = more k
        by (inr k) more = whole (uses_of g points e) k
    at-read (field l k t) h = at-read l h

    to-read : (l : Lvalue) → Among (reads (accesses_to l)) r → Among (pointer_uses g points l) r
    to-read (direct o t) h = h
    to-read (through e t at) h = in-read e h
    to-read (field l k t) h = at-read l h

    in-read : (e : Expression) → Among (reads (accesses_in e)) r → Among (uses_of g points e) r
    in-read (number z k) h = h
    in-read (address l) h = to-read l h
    in-read (decay l) h = at-read l h
    in-read (read l) h = among-right (cells_of g points l) (pointer_uses g points l) r (at-read l h)
    in-read (convert t e) h = in-read e h
    in-read (unary op k e) h = in-read e h
    in-read (binary op k e f at) h = joined (accesses_in e) (accesses_in f) (uses_of g points e) (uses_of g points f) (in-read e) (in-read f) h
    in-read (compare op e f) h = joined (accesses_in e) (accesses_in f) (uses_of g points e) (uses_of g points f) (in-read e) (in-read f) h
    in-read (move e f back size) h = joined (accesses_in e) (accesses_in f) (uses_of g points e) (uses_of g points f) (in-read e) (in-read f) h
    in-read (distance e f size) h = joined (accesses_in e) (accesses_in f) (uses_of g points e) (uses_of g points f) (in-read e) (in-read f) h

  leaves-read : (ls : List Leaf) → Among (reads (flat_map leaf_accesses ls)) r → Among (leaf_reads (scene_of a) ls) r
  leaves-read [] h = h
  leaves-read (l ∷ ls) h = joined (accesses_in l.value) (flat_map leaf_accesses ls) (uses_of g points l.value) (leaf_reads (scene_of a) ls) (in-read l.value) (leaves-read ls) h

  struct-read : (l : Lvalue) → Among (reads (accesses_at l)) r → Among (struct_reads a l) r
  struct-read l h = among-right (flat_map (cells_in a.program) (cells_of g points l)) (pointer_uses g points l) r (at-read l h)

  argument-read : (e : Expression) → Among (reads (accesses_in e)) r → Among (argument_reads a e (as_struct e)) r
  argument-read (number z k) h = in-read (number z k) h
  argument-read (address l) h = in-read (address l) h
  argument-read (decay l) h = in-read (decay l) h
  argument-read (read l) h = by (struct_in (lvalue_type l))
    where
      by : (s : Option ℕ) → Among (argument_reads a (read l) (struct_read s l)) r
      by None = in-read (read l) h
      by (Some n) = struct-read l h
  argument-read (convert t e) h = in-read (convert t e) h
  argument-read (unary op k e) h = in-read (unary op k e) h
  argument-read (binary op k e f at) h = in-read (binary op k e f at) h
  argument-read (compare op e f) h = in-read (compare op e f) h
  argument-read (move e f back size) h = in-read (move e f back size) h
  argument-read (distance e f size) h = in-read (distance e f size) h

  arguments-read : (es : List Expression) → Among (reads (flat_map accesses_in es)) r → Among (arguments_read a es) r
  arguments-read [] h = h
  arguments-read (e ∷ es) h = joined (accesses_in e) (flat_map accesses_in es) (argument_reads a e (as_struct e)) (arguments_read a es) (argument-read e) (arguments-read es) h

  result-read : (to : Option Lvalue) → Among (reads (result_accesses to)) r → Among (result_found a to) r
  result-read None h = h
  result-read (Some to) h = at-read to h

  given-read : (to : Option Lvalue) (args : List Expression) → Among (reads (result_accesses to ++ flat_map accesses_in args)) r → Among (arguments_read a args ++ result_found a to) r
  given-read to args h = turned (result_found a to) (arguments_read a args) (joined (result_accesses to) (flat_map accesses_in args) (result_found a to) (arguments_read a args) (result-read to) (arguments-read args) h)

-- a node uses what its command's accesses read
module _ (a : Analysed) (n l : ℕ) where
  abbrev cell : ℕ
  cell = cell_of (setting_of a) l

  command-used : (c : Command) → Among (accessed_reads (scene_of a) (command_accesses c)) cell → used_by a n c l ≡ true
  command-used start h = absurd (false≢true h)
  command-used (entry f) h = absurd (false≢true h)
  command-used (exit f) h = absurd (false≢true h)
  command-used skip h = absurd (false≢true h)
  command-used (assign to e) h = or-right (keeps_hit (scene_of a) to l) _
      (turned a cell (pointer_uses (g a cell) (points a cell) to) (uses_of (g a cell) (points a cell) e)
      (joined a cell (accesses_at to) (accesses_in e) (pointer_uses (g a cell) (points a cell) to) (uses_of (g a cell) (points a cell) e) (at-read a cell to) (in-read a cell e) h))
  command-used (copy to from) h = or-right (keeps_leaves a to l) _
      (turned a cell (pointer_uses (g a cell) (points a cell) to) (struct_reads a from)
      (joined a cell (accesses_at to) (accesses_at from) (pointer_uses (g a cell) (points a cell) to) (struct_reads a from) (at-read a cell to) (struct-read a cell from) h))
  command-used (init o values zeros) h = or-right (init_defines a o l && is_shared a o) _ (leaves-read a cell values h)
  command-used (assume e op f) h = or-right (assume_defines (scene_of a) e f l) _
      (joined a cell (accesses_in e) (accesses_in f) (uses_of (g a cell) (points a cell) e) (uses_of (g a cell) (points a cell) f) (in-read a cell e) (in-read a cell f) h)
  command-used (eval e) h = in-read a cell e h
  command-used (call callee args) h = absurd (false≢true h)
  command-used (return c to) h = absurd (false≢true h)
  command-used (library which to args site) h = or-right (may_hit (written_to a args site (routine_writes which)) l) _ (or-right (result_keeps a to l) _
      (among-right (moved_reads a args (routine_writes which)) (arguments_read a args ++ result_found a to) cell (given-read a cell to args h)))
  command-used (outside to args site) h = or-right (result_keeps a to l) _ (given-read a cell to args h)

  pub accessed-used : (sharp : Bool) (c : Command) → Among (accessed_reads (scene_of a) (accessed_by sharp c)) cell → used_by a n c l ≡ true
  accessed-used sharp c h = by sharp h
    where
      by : (b : Bool) → Among (accessed_reads (scene_of a) (cond b (command_accesses c) [])) cell → used_by a n c l ≡ true
      by true k = command-used c k
      by false k = absurd (false≢true k)
