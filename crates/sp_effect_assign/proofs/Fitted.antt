-- What a cell holds of a value, by the type of its elements.
use Rattle.std.proofs.Common.{◌≡◌, ℕ, false, [], Option, Some, None, refl, sym, ap, ◌∙◌}
use Rattle.std.proofs.lemmas.Bool.{false≢true}
use Rattle.sp_types.specs.Types.{CType, integer}
use Rattle.sp_interval.specs.declared.interval.Interval.{Interval}
use Rattle.sp_interval.specs.declared.interval.Interval.TheVariants.{Empty}
use Rattle.sp_ir.specs.Formed.{is_integer}
use Rattle.sp_value.specs.Known.{Known, none}
use Rattle.sp_eval.specs.Steps.{numbers_as}
use Rattle.sp_effect_assign.specs.Scene.{Scene, fitted_numbers, fitted}

with_type : Option CType → Known → Known
with_type o v = record { numbers = fitted_numbers o v.numbers; targets = v.targets }

other-stays : (t : CType) (i : Interval) → is_integer t ≡ false → i ≡ numbers_as t i
other-stays (integer k) i h = absurd (false≢true (sym h))
other-stays t i h = refl

module _ (c : Scene) (r : ℕ) (v : Known) where
  pub fitted-typed : (t : CType) → Some t ≡ c.element r → record { numbers = numbers_as t v.numbers; targets = v.targets } ≡ fitted c r v
  unfolding with_type
  fitted-typed t e = ap (λ o. with_type o v) e

  pub fitted-other : (t : CType) → Some t ≡ c.element r → is_integer t ≡ false → v ≡ fitted c r v
  fitted-other t e h = ap (λ (i : Interval). let k : Known = record { numbers = i; targets = v.targets } in k) (other-stays t v.numbers h) ∙ fitted-typed t e

  pub fitted-bytes : None ≡ c.element r → v ≡ fitted c r v
  unfolding with_type
  fitted-bytes e = ap (λ o. with_type o v) e

none-stays : (o : Option CType) → fitted_numbers o Empty ≡ Empty
none-stays None = refl
none-stays (Some (integer k)) = refl
none-stays (Some t) = refl

-- of nothing a cell holds nothing
pub fitted-none : (c : Scene) (r : ℕ) → fitted c r none ≡ none
fitted-none c r = ap (λ (i : Interval). let k : Known = record { numbers = i; targets = [] } in k) (none-stays (c.element r))
