-- The result of a function that isn't defined is lawful.
use Rattle.std.proofs.Common.{◌≡◌, ◌⊎◌, inl, inr, ℕ, Bool, true, false, cond, nat_eq, ◌&&◌, ◌||◌, List, [], ◌∷◌, ◌++◌, Option, Some, None, refl, sym, ap, ◌∙◌, subst, eqb-true}
use Rattle.std.specs.Prelude.{slice_get}
use Rattle.std.proofs.lemmas.Bool.{false≢true}
use Rattle.sp_lattice.specs.System.{has}
use Rattle.sp_types.specs.Types.{CType, void, integer, floating, pointer, array, structure, function}
use Rattle.sp_ir.specs.Commands.{Expression, Lvalue, lvalue_type, outside}
use Rattle.sp_ir.specs.Regions.{Region, is_cell_at, is_cell_region, is_cell_type}
use Rattle.sp_ir.specs.Terrain.{Terrain, terrain_of}
use Rattle.sp_ir.specs.Denoted.{PointsTo, cells_of}
use Rattle.sp_ir.specs.Formed.{table_of, IsCommand, IsLvalue, is_integer, is_pointer, is_scalar}
use Rattle.sp_value.specs.Known.{Known}
use Rattle.sp_value.specs.Tests.{which, both}
use Rattle.sp_value.specs.KnownLaws.{known-refl}
use Rattle.sp_value.specs.FormedLaws.{IsFormedKnown, Within}
use Rattle.sp_eval.proofs.Among.{chosen, among-right}
use Rattle.sp_eval.proofs.ProperLaws.{lvalue-proper}
use Rattle.sp_points_rules.specs.Paths.{reaches, pointer_element, pointer_region}
use Rattle.sp_points_rules.specs.Leaves.{leaf_points}
use Rattle.sp_points_rules.specs.Sources.{region, cells as cells_source}
use Rattle.sp_points_rules.specs.Puts.{command_at}
use Rattle.sp_points_rules.proofs.Reaching.{reaches-self, reached-cell}
use Rattle.sp_base_sets.proofs.Members.{eqb-refl}
use Rattle.sp_effect_rows.specs.Rows.{Store}
use Rattle.sp_effect_rows.specs.Setting.{cell_of}
use Rattle.sp_effect_rows.specs.Laws.{IsLawful, IsPlain}
use Rattle.sp_effect_rows.proofs.Choices.{or_left, or_right}
use Rattle.sp_effect_rows.proofs.PlacingLaws.{untouched-lawful}
use Rattle.sp_effect_assign.specs.Scene.{IsScene}
use Rattle.sp_effect_assign.specs.Destinations.{bottom_regions, bottom_accepts, region_under}
use Rattle.sp_effect_scene.specs.Analysed.{Analysed, setting_of, scene_of, element_in, element_of}
use Rattle.sp_effect_scene.specs.Whole.{IsAnalysed}
use Rattle.sp_effect_scene.specs.SceneLaws.{scene-is}
use Rattle.sp_effect_scene.proofs.Formed.{command-formed}
use Rattle.sp_effect_scene.proofs.AllLaws.{put-closed}
use Rattle.sp_effect_scene.proofs.Closed.{in-all, under-cells}
use Rattle.sp_effect_entry.specs.Given.{site_targets, foreign_value}
use Rattle.sp_effect_entry.proofs.GivenLaws.{foreign-formed}
use Rattle.sp_effect_call.specs.Copied.{has_cell}
use Rattle.sp_effect_call.specs.Copies.{arguments_read, result_defines, result_keeps, result_found}
use Rattle.sp_effect_call.specs.Outside.{written_as, foreign_leaf, from_outside, outside_uses}
use Rattle.sp_effect_call.proofs.Fits.{HasFit, lvalue-fits, pointer-fits}
use Rattle.sp_effect_call.proofs.LeafLaws.{Points, IsLeafValue, leaves-lawful, leaves-plain}

-- ---- cells that may hold a pointer

element-cell : (bytes : Bool) (of : Option CType) → pointer_element bytes of ≡ true → is_cell_type of ≡ true
element-cell bytes None h = refl
element-cell bytes (Some (pointer t)) h = refl
element-cell bytes (Some void) h = absurd (false≢true h)
element-cell bytes (Some (integer k)) h = absurd (false≢true h)
element-cell bytes (Some (floating k)) h = absurd (false≢true h)
element-cell bytes (Some (array t n)) h = absurd (false≢true h)
element-cell bytes (Some (structure n)) h = absurd (false≢true h)
element-cell bytes (Some (function s)) h = absurd (false≢true h)

region-cell : (bytes : Bool) (o : Option Region) → pointer_region bytes o ≡ true → is_cell_region o ≡ true
region-cell bytes None h = absurd (false≢true h)
region-cell bytes (Some r) h = element-cell bytes r.element h

-- of a region that is there
there-points : (bytes : Bool) (o : Option Region) → is_cell_region o ≡ true → pointer_element bytes (element_in o) ≡ true → pointer_region bytes o ≡ true
there-points bytes None cell h = absurd (false≢true cell)
there-points bytes (Some r) cell h = h

-- bytes hold a pointer at most
most-points : (bytes : Bool) (of : Option CType) → pointer_element bytes of ≡ true → pointer_element true of ≡ true
most-points bytes None h = refl
most-points bytes (Some t) h = h

-- what is written as an integer points nowhere
written-points : (bytes : Bool) (t : CType) (of : Option CType) → is_pointer t ≡ false → pointer_element bytes (written_as t of) ≡ true → pointer_element bytes of ≡ true
written-points bytes (integer k) None h g = g
written-points bytes (integer k) (Some e) h g = absurd (false≢true g)
written-points bytes (pointer v) of h g = absurd (false≢true (sym h))
written-points bytes void of h g = g
written-points bytes (floating k) of h g = g
written-points bytes (array v n) of h g = g
written-points bytes (structure n) of h g = g
written-points bytes (function s) of h g = g

where-true : {A : Type 0} (P : List A → Type 0) (b : Bool) (xs : List A) → P [] → (b ≡ true → P xs) → P (cond b xs [])
where-true P true xs none h = h refl
where-true P false xs none h = none

module _ (a : Analysed) (whole : IsAnalysed a) (n : ℕ) (to : Lvalue) (args : List Expression) (site : Option ℕ) (is : command_at a.program n ≡ outside (Some to) args site) where
  abbrev g : Terrain
  g = terrain_of a.program

  abbrev u : PointsTo
  u = (setting_of a).points_to

  abbrev reads : List ℕ
  reads = arguments_read a args ++ result_found a (Some to)

  formed : (f : Option ℕ) × IsCommand (table_of a.program) a.program.regions n f (outside (Some to) args site)
  formed = command-formed a.program whole.formed n (outside (Some to) args site) is

  to_formed : IsLvalue (table_of a.program) formed.0 to
  to_formed = formed.1.1.0.0

  -- whether bytes at the cell c, under the region q of the lvalue, hold a pointer
  abbrev bytes_hold : ℕ → ℕ → Bool
  bytes_hold q c = nat_eq q c || leaf_points a.program c

  -- a cell of the lvalue that may hold a pointer may point to the site
  points-there : (q c : ℕ) → has q (cells_of g u to) ≡ true → reaches a.program q c ≡ true → pointer_region (bytes_hold q c) (slice_get a.program.regions c) ≡ true → (s : Option ℕ) → site ≡ s → Within (Points a c) (site_targets g s)
  points-there q c m under points None e = tt
  points-there q c m under points (Some k) e = (
    put-closed a whole n (outside (Some to) args (Some k)) (is ∙ ap (outside (Some to) args) e) c (g.root k) (
      record { of = q; there = m; narrowed = both (reaches a.program q c) (pointer_region (bytes_hold q c) (slice_get a.program.regions c)) under points },
      in-all a.program u (region (g.root k)) (g.root k) refl,
    ),
    tt,
  )

  -- the cell of a scalar is where the lvalue is
  scalar-points : (q c : ℕ) → has q (cells_of g u to) ≡ true → q ≡ c → pointer_region true (slice_get a.program.regions q) ≡ true → Within (Points a c) (site_targets g site)
  scalar-points q c m same points = subst (λ k. Within (Points a k) (site_targets g site)) same
      (points-there q q m (reaches-self a.program q (region-cell true (slice_get a.program.regions q) points))
      (ap (λ b. pointer_region (b || leaf_points a.program q) (slice_get a.program.regions q)) (eqb-refl q) ∙ points) site refl)

  fit-points : (q : ℕ) (fit : HasFit a.program q (lvalue_type to)) → pointer_element true fit.region.element ≡ true → pointer_region true (slice_get a.program.regions q) ≡ true
  fit-points q fit h = ap (pointer_region true) fit.there ∙ h

  module _ (r c : ℕ) (m : has r (bottom_regions g u to) ≡ true) (accepts : bottom_accepts g to r ≡ true) (h : has_cell a.program (Some (lvalue_type to)) (region_under g to r) c ≡ true) where
    abbrev q : ℕ
    q = region_under g to r

    there : has q (cells_of g u to) ≡ true
    there = under-cells g u to r m accepts

    fit : HasFit a.program q (lvalue_type to)
    fit = lvalue-fits a.program whole.formed formed.0 to to_formed u r m accepts

    scalar-here : is_scalar (lvalue_type to) ≡ true → q ≡ c
    scalar-here e = eqb-true q c (subst (λ b. cond b (nat_eq q c) (reaches a.program q c) ≡ true) e h)

    struct-here : is_scalar (lvalue_type to) ≡ false → reaches a.program q c ≡ true
    struct-here e = subst (λ b. cond b (nat_eq q c) (reaches a.program q c) ≡ true) e h

    pointer-within : is_pointer (lvalue_type to) ≡ true → Within (Points a c) (site_targets g site)
    pointer-within e = scalar-points q c there (scalar-here (or_right (is_integer (lvalue_type to)) (is_pointer (lvalue_type to)) e))
        (fit-points q fit (pointer-fits fit.region.element (lvalue_type to) e fit.fits))

    other-within : pointer_element (bytes_hold q c) (element_of a.program c) ≡ true → Within (Points a c) (site_targets g site)
    other-within e = by (which (is_scalar (lvalue_type to)))
      where
        by : (is_scalar (lvalue_type to) ≡ true) ⊎ (is_scalar (lvalue_type to) ≡ false) → Within (Points a c) (site_targets g site)
        by (inl s) =
            let same : q ≡ c = scalar-here s in
            let of : element_of a.program c ≡ fit.region.element = ap (element_of a.program) (sym same) ∙ ap element_in fit.there in
            scalar-points q c there same (fit-points q fit (ap (pointer_element true) (sym of) ∙ most-points (bytes_hold q c) (element_of a.program c) e))
        by (inr s) =
            let under = struct-here s in
            points-there q c there under (there-points (bytes_hold q c) (slice_get a.program.regions c) (reached-cell a.program q c under) e) site refl

    leaf-within : Within (Points a c) (foreign_leaf a.program to (site_targets g site) q c).targets
    leaf-within = by (is_pointer (lvalue_type to)) refl
      where
        by : (b : Bool) → is_pointer (lvalue_type to) ≡ b
            → Within (Points a c) (cond b (foreign_value true (Some (lvalue_type to)) (site_targets g site)) (foreign_value (bytes_hold q c) (written_as (lvalue_type to) (element_of a.program c)) (site_targets g site))).targets
        by true e = where-true (Within (Points a c)) (pointer_element true (Some (lvalue_type to))) (site_targets g site) tt (λ k. pointer-within e)
        by false e = where-true (Within (Points a c)) (pointer_element (bytes_hold q c) (written_as (lvalue_type to) (element_of a.program c))) (site_targets g site) tt
            (λ k. other-within (written-points (bytes_hold q c) (lvalue_type to) (element_of a.program c) e k))

  the_value : IsLeafValue a to (outside_uses a (Some to) args) (λ s q c. foreign_leaf a.program to (site_targets g site) q c)
  the_value = record {
    formed = λ s q c. chosen IsFormedKnown (is_pointer (lvalue_type to)) (foreign_value true (Some (lvalue_type to)) (site_targets g site)) (foreign_value (bytes_hold q c) (written_as (lvalue_type to) (element_of a.program c)) (site_targets g site))
        (λ e. foreign-formed true (Some (lvalue_type to)) g site) (λ e. foreign-formed (bytes_hold q c) (written_as (lvalue_type to) (element_of a.program c)) g site);
    rises = λ s t q c below. known-refl (foreign_leaf a.program to (site_targets g site) q c);
    within = leaf-within;
    agree = λ s t q c under same. refl;
  }

  came_to : IsLawful (setting_of a) (result_defines a (Some to)) (outside_uses a (Some to) args) (from_outside a (Some to) site)
  came_to = leaves-lawful a (scene-is a whole) to (lvalue-proper (table_of a.program) formed.0 to to_formed) (outside_uses a (Some to) args)
      (λ l m. or_right (result_keeps a (Some to) l) (has (cell_of (setting_of a) l) reads) (among-right (arguments_read a args) (result_found a (Some to)) (cell_of (setting_of a) l) m))
      (λ l k. or_left (result_keeps a (Some to) l) (has (cell_of (setting_of a) l) reads) k)
      (λ s q c. foreign_leaf a.program to (site_targets g site) q c) the_value

  came-plain : IsPlain (setting_of a) (from_outside a (Some to) site)
  came-plain = leaves-plain a (scene-is a whole) to (lvalue-proper (table_of a.program) formed.0 to to_formed) (outside_uses a (Some to) args)
      (λ l m. or_right (result_keeps a (Some to) l) (has (cell_of (setting_of a) l) reads) (among-right (arguments_read a args) (result_found a (Some to)) (cell_of (setting_of a) l) m))
      (λ l k. or_left (result_keeps a (Some to) l) (has (cell_of (setting_of a) l) reads) k)
      (λ s q c. foreign_leaf a.program to (site_targets g site) q c) the_value

pub outside-plain : (a : Analysed) → IsAnalysed a → (n : ℕ) (to : Option Lvalue) (args : List Expression) (site : Option ℕ) → command_at a.program n ≡ outside to args site → IsPlain (setting_of a) (from_outside a to site)
outside-plain a whole n None args site is = λ s t l low below under. refl
outside-plain a whole n (Some to) args site is = came-plain a whole n to args site is

pub outside-lawful : (a : Analysed) → IsAnalysed a → (n : ℕ) (to : Option Lvalue) (args : List Expression) (site : Option ℕ) → command_at a.program n ≡ outside to args site
    → IsLawful (setting_of a) (result_defines a to) (outside_uses a to args) (from_outside a to site)
outside-lawful a whole n None args site is = untouched-lawful (setting_of a) (outside_uses a None args)
outside-lawful a whole n (Some to) args site is = came_to a whole n to args site is
