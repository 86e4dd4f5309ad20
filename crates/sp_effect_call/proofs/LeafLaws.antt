-- A store to the cells of an lvalue is lawful, where what goes there is.
use Rattle.std.proofs.Common.{◌≡◌, ◌⊎◌, inl, inr, ℕ, Bool, true, false, not, ◌&&◌, ◌||◌, [], ◌∷◌, Some, refl, ap, ◌∙◌, subst}
use Rattle.std.specs.List.{list_any}
use Rattle.std.proofs.lemmas.Bool.{false≢true}
use Rattle.sp_lattice.specs.System.{has}
use Rattle.sp_ir.specs.Commands.{Lvalue, direct, through, field, lvalue_type}
use Rattle.sp_ir.specs.Terrain.{Terrain, terrain_of}
use Rattle.sp_ir.specs.Denoted.{PointsTo, pointer_uses}
use Rattle.sp_value.specs.declared.targets.Target.{Target}
use Rattle.sp_value.specs.Known.{Known, known_le, of_target}
use Rattle.sp_value.specs.Tests.{which, both, first, second}
use Rattle.sp_value.specs.KnownLaws.{the_targets_le, known-refl}
use Rattle.sp_value.specs.FormedLaws.{IsFormedKnown, Within}
use Rattle.sp_eval.specs.Steps.{whole_of}
use Rattle.sp_eval.specs.Evaluation.{is_proper_lvalue}
use Rattle.sp_eval.proofs.MonotoneLaws.{value-monotone}
use Rattle.sp_eval.proofs.SupportLaws.{value-agrees}
use Rattle.sp_effect_rows.specs.Rows.{Store}
use Rattle.sp_effect_rows.specs.Setting.{cell_of, ceiling}
use Rattle.sp_effect_rows.specs.Storing.{may_hit, kept_by}
use Rattle.sp_effect_rows.specs.Laws.{BelowStore, UnderCeiling, AgreeAt, IsLawful, IsLawfulDestination, IsLawfulValue, IsPlain}
use Rattle.sp_effect_rows.proofs.SettingLaws.{cells-formed, cells-monotone, cells-within, cells-agree}
use Rattle.sp_effect_rows.proofs.StoringLaws.{storing-lawful, storing-plain}
use Rattle.sp_effect_assign.specs.Scene.{IsScene, fitted, known_in_regions}
use Rattle.sp_effect_assign.specs.Destinations.{bottom_of, bottom_regions, bottom_accepts, region_under, is_direct}
use Rattle.sp_effect_assign.proofs.AssignLaws.{fitted-lawful, bottom-monotone, bottom-within, bottom-agrees, direct-one}
use Rattle.sp_effect_scene.specs.Analysed.{Analysed, setting_of, scene_of, is_summary}
use Rattle.sp_effect_call.specs.Copied.{has_cell}
use Rattle.sp_effect_call.specs.Copies.{leaf_destination, storing_leaves, keeps_leaves}

-- the cell may point to the region
abbrev pub Points : Analysed → ℕ → ℕ → Type 0
Points a c q = has q ((setting_of a).points_to c) ≡ true

-- what goes to a cell of the lvalue, at a region that it may have
pub record IsLeafValue (a : Analysed) (to : Lvalue) (uses : ℕ → Bool) (value : Store → ℕ → ℕ → Known) : Type 0 where
  pub formed : (s : Store) (q c : ℕ) → IsFormedKnown (value s q c)
  pub rises : (s t : Store) (q c : ℕ) → BelowStore (setting_of a) s t → known_le (value s q c) (value t q c) ≡ true
  pub within : (r c : ℕ) → has r (bottom_regions (terrain_of a.program) (setting_of a).points_to to) ≡ true → bottom_accepts (terrain_of a.program) to r ≡ true
      → has_cell a.program (Some (lvalue_type to)) (region_under (terrain_of a.program) to r) c ≡ true
      → Within (Points a c) (value (ceiling (setting_of a)) (region_under (terrain_of a.program) to r) c).targets
  pub agree : (s t : Store) (q c : ℕ) → UnderCeiling (setting_of a) s → AgreeAt uses s t → value s q c ≡ value t q c

module _ (a : Analysed) (is : IsScene (scene_of a)) where
  abbrev g : Terrain
  g = terrain_of a.program

  abbrev u : PointsTo
  u = (setting_of a).points_to

  abbrev cells : Store → ℕ → Known
  cells s = known_in_regions (scene_of a) s

  module _ (to : Lvalue) (proper : is_proper_lvalue to ≡ true) (uses : ℕ → Bool) (finds : (l : ℕ) → has (cell_of (setting_of a) l) (pointer_uses g u to) ≡ true → uses l ≡ true) (keeps : (l : ℕ) → keeps_leaves a to l ≡ true → uses l ≡ true) where
    the_destination : IsLawfulDestination (setting_of a) uses (leaf_destination a to)
    the_destination = record {
      rise = λ s t below under. the_targets_le (bottom_of g (cells s) to) (bottom_of g (cells t) to) (bottom-monotone (scene_of a) is s t below to proper);
      within = λ s under. bottom-within (scene_of a) is s under to;
      agree = λ s t under under' agree. ap (λ (v : Known). v.targets) (bottom-agrees (scene_of a) is s t under to (cells-agree (setting_of a) is.setting s t (pointer_uses g u to) (λ l m. agree l (finds l m))));
    }

    -- what is kept is used: of a direct lvalue only summaries
    kept_used : (s : Store) (l : ℕ) → UnderCeiling (setting_of a) s → may_hit (leaf_destination a to) l ≡ true → kept_by (leaf_destination a to) (bottom_of g (cells s) to).targets l ≡ true → uses l ≡ true
    kept_used s l under hit kept = keeps l (by (which (is_direct to)))
      where
        either_way : (b d : Bool) → (b || false) ≡ true → not (b && not d) ≡ true → d ≡ true
        either_way true true m k = refl
        either_way true false m k = absurd (false≢true k)
        either_way false d m k = absurd (false≢true m)

        summary : (x : Target) × ((bottom_of g (cells s) to).targets ≡ x ∷ []) × (bottom_regions g u to ≡ x.region ∷ []) → is_summary a.program a.told (cell_of (setting_of a) l) ≡ true
        summary one = either_way ((leaf_destination a to).hits one.0.region l) (is_summary a.program a.told (cell_of (setting_of a) l))
            (subst (λ rs. list_any (λ r. (leaf_destination a to).hits r l) rs ≡ true) one.2 hit)
            (subst (λ xs. kept_by (leaf_destination a to) xs l ≡ true) one.1 kept)

        by : (is_direct to ≡ true) ⊎ (is_direct to ≡ false) → keeps_leaves a to l ≡ true
        by (inr h) = both (may_hit (leaf_destination a to) l) (not (is_direct to) || is_summary a.program a.told (cell_of (setting_of a) l)) hit (ap (λ b. not b || is_summary a.program a.told (cell_of (setting_of a) l)) h)
        by (inl h) = both (may_hit (leaf_destination a to) l) (not (is_direct to) || is_summary a.program a.told (cell_of (setting_of a) l)) hit (ap (λ b. not b || is_summary a.program a.told (cell_of (setting_of a) l)) h ∙ summary (direct-one (scene_of a) is s to h))

    module _ (value : Store → ℕ → ℕ → Known) (fine : IsLeafValue a to uses value) where
      the_value : IsLawfulValue (setting_of a) uses (leaf_destination a to) (λ s r l. value s (region_under g to r) (cell_of (setting_of a) l))
      the_value = record {
        formed = λ s r l. fine.formed s (region_under g to r) (cell_of (setting_of a) l);
        rises = λ s t r l below under. fine.rises s t (region_under g to r) (cell_of (setting_of a) l) below;
        within = λ r l m h. fine.within r (cell_of (setting_of a) l) m
            (first (bottom_accepts g to r) (has_cell a.program (Some (lvalue_type to)) (region_under g to r) (cell_of (setting_of a) l)) h)
            (second (bottom_accepts g to r) (has_cell a.program (Some (lvalue_type to)) (region_under g to r) (cell_of (setting_of a) l)) h);
        agree = λ s t r l m h under under' same. fine.agree s t (region_under g to r) (cell_of (setting_of a) l) under same;
      }

      the_fitted : IsLawfulValue (setting_of a) uses (leaf_destination a to) (λ s r l. fitted (scene_of a) (cell_of (setting_of a) l) (value s (region_under g to r) (cell_of (setting_of a) l)))
      the_fitted = fitted-lawful (scene_of a) uses (leaf_destination a to) (λ s r l. value s (region_under g to r) (cell_of (setting_of a) l)) the_value

      pub leaves-lawful : IsLawful (setting_of a) (may_hit (leaf_destination a to)) uses (storing_leaves a to value)
      leaves-lawful = storing-lawful (setting_of a) is.setting uses (leaf_destination a to) (λ s r l. fitted (scene_of a) (cell_of (setting_of a) l) (value s (region_under g to r) (cell_of (setting_of a) l))) the_destination the_fitted kept_used

      pub leaves-plain : IsPlain (setting_of a) (storing_leaves a to value)
      leaves-plain = storing-plain (setting_of a) is.setting uses (leaf_destination a to) (λ s r l. fitted (scene_of a) (cell_of (setting_of a) l) (value s (region_under g to r) (cell_of (setting_of a) l))) the_destination the_fitted
