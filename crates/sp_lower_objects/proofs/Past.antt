-- Past the limit of regions it is the same where an object's root is.
use Rattle.std.proofs.Common.{◌≡◌, ◌⊎◌, inl, inr, ℕ, suc, ◌+◌, ◌<◌, ◌≤◌, ◌==◌, ◌||◌, min, nat_lt, Bool, true, false, if◌then◌else◌, List, [], ◌∷◌, ◌++◌, length, map, get_or, drop, refl, ap, sym, ◌∙◌, arith, add-one, drop-cons, append_assoc}
use Rattle.std.proofs.lemmas.List.{map-append}
use Rattle.std.proofs.lemmas.Bool.Decides.{nat_tests}
use Rattle.sp_types.specs.Types.{Struct}
use Rattle.sp_types.specs.Programs.{Object, object_of}
use Rattle.sp_types.specs.declared.program.ObjectDef.{ObjectDef}
use Rattle.sp_ir.specs.Terrain.{size_of}
use Rattle.sp_lower_body.specs.Frames.{Initial}
use Rattle.sp_lower_body.specs.View.{initial_view}
use Rattle.sp_lower_body.specs.declared.frame.Initial.{Initial as CodeInitial}
use Rattle.sp_lower_objects.specs.Regions.{most_regions}
use Rattle.sp_lower_objects.specs.Initials.{object_region_count, no_cells, all_cells, initial_at, initials_from}

or-true : (b : Bool) (x y : Initial) → (if b || true then x else y) ≡ x
or-true true x y = refl
or-true false x y = refl

more-past : (m r c : ℕ) → m < r → nat_lt m (r + c) ≡ true
more-past m r c h = grind (arith, nat_tests)

none-past : (ss : List Struct) (r : ℕ) (o : Object) → most_regions < r → initial_at ss r o ≡ no_cells
none-past ss r o h =
    ap (λ b. if (size_of ss o.of == 0) || b then no_cells else all_cells ss r o) (more-past most_regions r (object_region_count ss o.of) h)
    ∙ or-true (size_of ss o.of == 0) no_cells (all_cells ss r o)

all-past : (ss : List Struct) (r s : ℕ) (os : List Object) → most_regions < r → most_regions < s → initials_from ss r os ≡ initials_from ss s os
all-past ss r s [] h k = refl
all-past ss r s (o ∷ os) h k =
    let n : ℕ = object_region_count ss o.of in
    ap (λ i. i ∷ initials_from ss (r + n) os) (none-past ss r o h ∙ sym (none-past ss s o k))
    ∙ ap (λ is. initial_at ss s o ∷ is) (all-past ss (r + n) (s + n) os (omega (arith, h)) (omega (arith, k)))

initials-capped : (ss : List Struct) (r : ℕ) (os : List Object) → initials_from ss (min r (most_regions + 1)) os ≡ initials_from ss r os
initials-capped ss r os = by (within r most_regions)
  where
    within : (a b : ℕ) → (a ≤ b) ⊎ (b < a)
    within a b = grind arith

    by : (r ≤ most_regions) ⊎ (most_regions < r) → initials_from ss (min r (most_regions + 1)) os ≡ initials_from ss r os
    by (inl h) = ap (λ n. initials_from ss n os) (omega (arith, h))
    by (inr h) = all-past ss (min r (most_regions + 1)) r os (omega (arith, h)) h

-- one more object
pub initials-turn : (all : List Initial) (ss : List Struct) (made more : List CodeInitial) (root n behind : ℕ) (os : List ObjectDef) (k : ℕ) (o : ObjectDef) (i : CodeInitial)
    → k < length os → o ≡ get_or os k o → n ≡ object_region_count ss (object_of o).of → initial_view i ≡ initial_at ss root (object_of o)
    → behind ≡ min (root + n) (most_regions + 1) → more ≡ made ++ i ∷ []
    → map initial_view made ++ initials_from ss root (map object_of (drop k os)) ≡ all
    → map initial_view more ++ initials_from ss behind (map object_of (drop (k + 1) os)) ≡ all
initials-turn all ss made more root n behind os k o i low at counted here capped pushed so_far =
    let rest : List ObjectDef = drop (k + 1) os in
    let count : ℕ = object_region_count ss (object_of o).of in
    ap (λ xs. map initial_view xs ++ initials_from ss behind (map object_of rest)) pushed
    ∙ ap (λ xs. xs ++ initials_from ss behind (map object_of rest)) (map-append initial_view made (i ∷ []))
    ∙ append_assoc (map initial_view made) (initial_view i ∷ []) (initials_from ss behind (map object_of rest))
    ∙ ap (λ x. map initial_view made ++ x ∷ initials_from ss behind (map object_of rest)) here
    ∙ ap (λ r. map initial_view made ++ initial_at ss root (object_of o) ∷ initials_from ss r (map object_of rest)) capped
    ∙ ap (λ xs. map initial_view made ++ initial_at ss root (object_of o) ∷ xs) (initials-capped ss (root + n) (map object_of rest))
    ∙ ap (λ m. map initial_view made ++ initial_at ss root (object_of o) ∷ initials_from ss (root + m) (map object_of rest)) counted
    ∙ ap (λ xs. map initial_view made ++ initials_from ss root (map object_of xs)) (sym from-here)
    ∙ so_far
  where
    from-here : drop k os ≡ o ∷ drop (k + 1) os
    from-here = rw add-one (drop-cons os k o low ∙ ap (λ (x : ObjectDef). x ∷ drop (suc k) os) (sym at))
