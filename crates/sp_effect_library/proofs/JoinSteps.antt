-- What is joined to a row, step by step.
use Rattle.std.proofs.Common.{◌≡◌, ℕ, Bool, true, false, cond, nat_eq, ◌&&◌, refl, sym, ap, ◌∙◌, eqb-true}
use Rattle.sp_value.specs.declared.slots.Slot.{Slot}
use Rattle.sp_value.specs.declared.slots.Slot.TheVariants.{Nothing}
use Rattle.sp_value.specs.Slots.{slot_join}
use Rattle.sp_points_rules.specs.Paths.{is_text}
use Rattle.sp_effect_rows.specs.Setting.{cell_of}
use Rattle.sp_effect_rows.proofs.UpdateLaws.{join-nothing}
use Rattle.sp_effect_scene.specs.Analysed.{Analysed, setting_of}
use Rattle.sp_effect_library.specs.declared.written.Written.TheVariants.{CopiedText}
use Rattle.sp_effect_library.specs.Slots.{landed_slot}

module _ (a : Analysed) (slots : ℕ → ℕ → Slot) (r l : ℕ) (old new : Slot) where
  abbrev own : ℕ
  own = cell_of (setting_of a) l

  -- a text region gets its own slot
  pub text-joined : (slot : Slot) → slot ≡ slots r r → is_text a.program r ≡ true → new ≡ slot_join old (cond (nat_eq r own) slot Nothing) → new ≡ slot_join old (landed_slot a CopiedText slots l r)
  text-joined slot made text is = is ∙ ap (slot_join old) (ap (λ s. cond (nat_eq r own) s Nothing) made ∙ by (nat_eq r own) refl ∙ ap (λ b. cond (b && nat_eq r own) (slots r own) Nothing) (sym text))
    where
      by : (b : Bool) → nat_eq r own ≡ b → cond b (slots r r) Nothing ≡ cond b (slots r own) Nothing
      by true e = ap (slots r) (eqb-true r own e)
      by false e = refl

  pub no-text : is_text a.program r ≡ false → old ≡ slot_join old (landed_slot a CopiedText slots l r)
  no-text other = sym (join-nothing old) ∙ ap (λ b. slot_join old (cond (b && nat_eq r own) (slots r own) Nothing)) (sym other)
