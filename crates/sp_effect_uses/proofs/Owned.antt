-- The cells of objects, as locations see them.
use Rattle.std.proofs.Common.{◌≡◌, ◌⊎◌, inl, inr, ℕ, zero, suc, ◌<◌, ◌≤◌, ◌^◌, Bool, true, false, not, nat_eq, ◌&&◌, ◌||◌, List, [], ◌∷◌, length, Option, Some, None, refl, sym, ap, ◌∙◌, subst, arith, eqb-true}
use Rattle.std.specs.Prelude.{slice_get}
use Rattle.std.specs.List.{list_any}
use Rattle.std.specs.Option.{option_eq}
use Rattle.std.proofs.Props.{props}
use Rattle.std.proofs.Math.Logic.{∥∥₁_elim}
use Rattle.std.proofs.lemmas.Bool.{false≢true}
use Rattle.std.proofs.lemmas.List.{get_or_past}
use Rattle.sp_lattice.specs.System.{has}
use Rattle.sp_base_sets.specs.Reached.{row}
use Rattle.sp_base_sets.proofs.Members.{below}
use Rattle.sp_ir.specs.Regions.{Region, is_cell_at, is_cell_region}
use Rattle.sp_ir.specs.Programs.{Object}
use Rattle.sp_ir.specs.Terrain.{terrain_of}
use Rattle.sp_points_rules.specs.declared.groups.Groups.{Groups}
use Rattle.sp_points_rules.specs.Paths.{reaches, object_in, object_at, AreGroups}
use Rattle.sp_points_rules.proofs.Reaching.{reaches-self, reached-cell}
use Rattle.sp_effect_rows.specs.Setting.{cell_of, count}
use Rattle.sp_effect_scene.specs.Analysed.{Analysed, setting_of, locations_of, owner_at, owner_of, owner_in, is_summary}
use Rattle.sp_effect_scene.specs.Whole.{IsAnalysed}
use Rattle.sp_effect_entry.specs.Entries.{is_fresh, fresh_in, fresh_at, entry_defines}
use Rattle.sp_effect_entry.specs.Initials.{is_of, init_defines}
use Rattle.sp_effect_entry.specs.Starts.{is_static, has_kind, kind_at, is_main_formal, main_formals, start_defines}
use Rattle.sp_effect_call.proofs.ReadCells.{cell-there}
use Rattle.sp_effect_call.proofs.StoringSteps.{location-region}
use Rattle.sp_effect_uses.specs.Locals.{AreLocals}
use Rattle.sp_effect_uses.proofs.Picked.{any-picked, both-true, and-none}

slice-past : {A : Type 0} (xs : List A) (i : ℕ) → length xs ≤ i → slice_get xs i ≡ None
slice-past [] i h = refl
slice-past (x ∷ xs) zero h = absurd (omega (arith, h))
slice-past (x ∷ xs) (suc i) h = slice-past xs i (omega (arith, h))

-- a location is a cell, or past the last, where no region is
cell-or-none : (a : Analysed) → IsAnalysed a → (l : ℕ) → (is_cell_at a.program.regions (cell_of (setting_of a) l) ≡ true) ⊎ (slice_get a.program.regions (cell_of (setting_of a) l) ≡ None)
cell-or-none a whole l = by (below l (count (setting_of a)))
  where
    by : (l < count (setting_of a)) ⊎ (count (setting_of a) ≤ l) → (is_cell_at a.program.regions (cell_of (setting_of a) l) ≡ true) ⊎ (slice_get a.program.regions (cell_of (setting_of a) l) ≡ None)
    by (inl low) = inl (location-region a l low)
    by (inr past) = inr (ap (λ n. slice_get a.program.regions n) (get_or_past (locations_of a.program) l (2 ^ 32) past)
        ∙ slice-past a.program.regions (2 ^ 32) (let few = whole.formed.few_regions in omega (arith, few)))

module _ (a : Analysed) (whole : ∥ IsAnalysed a ∥₁) where
  -- what no region passes, a location passes only where it is a cell
  cell-where : (t : ℕ → Bool) (l : ℕ) → (slice_get a.program.regions (cell_of (setting_of a) l) ≡ None → t (cell_of (setting_of a) l) ≡ false) → t (cell_of (setting_of a) l) ≡ true → is_cell_at a.program.regions (cell_of (setting_of a) l) ≡ true
  cell-where t l none h = ∥∥₁_elim whole (hlevel props) (λ w. by (cell-or-none a w l))
    where
      by : (is_cell_at a.program.regions (cell_of (setting_of a) l) ≡ true) ⊎ (slice_get a.program.regions (cell_of (setting_of a) l) ≡ None) → is_cell_at a.program.regions (cell_of (setting_of a) l) ≡ true
      by (inl cell) = cell
      by (inr gone) = absurd (false≢true (sym (none gone) ∙ h))

  -- ---- of one object

  abbrev pub of_at : ℕ → ℕ → ℕ → Bool
  of_at o r x = is_of o (slice_get a.program.regions x) && nat_eq r x

  object-is : (o : ℕ) (x : Option Region) → is_of o x ≡ true → object_in x ≡ o
  object-is o None h = absurd (false≢true h)
  object-is o (Some r) h = eqb-true r.object o h

  pub object-picked : (groups : Groups) → AreGroups a.program groups → (o l : ℕ) → list_any (of_at o (cell_of (setting_of a) l)) (row groups.objects.items o) ≡ init_defines a o l
  object-picked groups grouped o l = any-picked (λ x. is_of o (slice_get a.program.regions x)) (cell_of (setting_of a) l) (row groups.objects.items o) there
    where
      there : is_of o (slice_get a.program.regions (cell_of (setting_of a) l)) ≡ true → has (cell_of (setting_of a) l) (row groups.objects.items o) ≡ true
      there h =
          let cell = cell-where (λ x. is_of o (slice_get a.program.regions x)) l (λ gone. ap (is_of o) gone) h in
          subst (λ k. has (cell_of (setting_of a) l) (row groups.objects.items k) ≡ true) (object-is o (slice_get a.program.regions (cell_of (setting_of a) l)) h) (grouped.under (cell_of (setting_of a) l) (cell_of (setting_of a) l) (reaches-self a.program (cell_of (setting_of a) l) cell))

  -- ---- a function's own

  abbrev pub own_at : ℕ → ℕ → ℕ → Bool
  own_at f r x = (fresh_at a.program f (slice_get a.program.regions x) && not (is_summary a.program a.told x)) && nat_eq r x

  owned-in : (f : ℕ) (o : Option Object) → fresh_in f o ≡ true → option_eq nat_eq (owner_in o) (Some f) ≡ true
  owned-in f None h = absurd (false≢true h)
  owned-in f (Some o) h = (both-true (is_fresh o.kind) (option_eq nat_eq o.function (Some f)) h).1

  owned : (f : ℕ) (x : Option Region) → fresh_at a.program f x ≡ true → option_eq nat_eq (owner_at a.program x) (Some f) ≡ true
  owned f None h = absurd (false≢true h)
  owned f (Some r) h = owned-in f (slice_get a.program.objects r.object) h

  pub fresh-picked : (sets : List (List ℕ)) → AreLocals a sets → (f l : ℕ) → list_any (own_at f (cell_of (setting_of a) l)) (row sets f) ≡ entry_defines a f l
  fresh-picked sets locals f l = any-picked (λ x. fresh_at a.program f (slice_get a.program.regions x) && not (is_summary a.program a.told x)) (cell_of (setting_of a) l) (row sets f) there
    where
      there : (fresh_at a.program f (slice_get a.program.regions (cell_of (setting_of a) l)) && not (is_summary a.program a.told (cell_of (setting_of a) l))) ≡ true → has (cell_of (setting_of a) l) (row sets f) ≡ true
      there h =
          let fresh = (both-true (fresh_at a.program f (slice_get a.program.regions (cell_of (setting_of a) l))) (not (is_summary a.program a.told (cell_of (setting_of a) l))) h).0 in
          let cell = cell-where (λ x. fresh_at a.program f (slice_get a.program.regions x)) l (λ gone. ap (fresh_at a.program f) gone) fresh in
          locals f (cell_of (setting_of a) l)
          ∙ ap (λ b. b && option_eq nat_eq (owner_of a.program (cell_of (setting_of a) l)) (Some f)) cell
          ∙ owned f (slice_get a.program.regions (cell_of (setting_of a) l)) fresh

  -- ---- at the start

  abbrev pub start_at : ℕ → ℕ → Bool
  start_at r x = (has_kind is_static a.program x || is_main_formal a.program x) && nat_eq r x

  no-start : (r : ℕ) → slice_get a.program.regions r ≡ None → (has_kind is_static a.program r || is_main_formal a.program r) ≡ false
  no-start r gone =
      ap (λ x. kind_at is_static a.program x || is_main_formal a.program r) gone
      ∙ and-none (has (object_at a.program r) (main_formals a.program)) (reaches a.program ((terrain_of a.program).root (object_at a.program r)) r) (unreached (reaches a.program ((terrain_of a.program).root (object_at a.program r)) r) refl)
    where
      unreached : (b : Bool) → reaches a.program ((terrain_of a.program).root (object_at a.program r)) r ≡ b → b ≡ false
      unreached true e = absurd (false≢true (sym (ap is_cell_region gone) ∙ reached-cell a.program ((terrain_of a.program).root (object_at a.program r)) r e))
      unreached false e = refl

  pub start-picked : (l : ℕ) → list_any (start_at (cell_of (setting_of a) l)) (locations_of a.program) ≡ start_defines a l
  start-picked l = any-picked (λ x. has_kind is_static a.program x || is_main_formal a.program x) (cell_of (setting_of a) l) (locations_of a.program)
      (λ h. cell-there a.program (cell_of (setting_of a) l) (cell-where (λ x. has_kind is_static a.program x || is_main_formal a.program x) l (no-start (cell_of (setting_of a) l)) h))
