-- What commands give to cells is formed.
use Rattle.std.proofs.Common.{◌≡◌, ℕ, Bool, true, false, cond, [], Option, Some, None, refl, arith}
use Rattle.sp_types.specs.Types.{CType, void, integer, floating, pointer, array, structure, function}
use Rattle.sp_interval.specs.declared.interval.Interval.{Interval}
use Rattle.sp_interval.specs.Interval.{whole, IsFormed}
use Rattle.sp_ir.specs.Terrain.{Terrain}
use Rattle.sp_value.specs.Known.{Known, none, of_numbers, known_le}
use Rattle.sp_value.specs.FormedLaws.{IsFormedKnown, none-formed, formed_from_test, test_from_formed, IsFormedTarget, formed_cons, ascend_cons, Within}
use Rattle.sp_eval.proofs.Among.{chosen}
use Rattle.sp_eval.proofs.FormLaws.{every_number-formed}
use Rattle.sp_points_rules.specs.Paths.{pointer_element}
use Rattle.sp_effect_entry.specs.Given.{zero_value, every_in, site_target, site_targets, foreign_numbers, foreign_value}

pub of_numbers-formed : (i : Interval) → IsFormed i → IsFormedKnown (of_numbers i)
of_numbers-formed i h = record { numbers = test_from_formed i h; targets = refl; ascending = refl }

pub zero-formed : IsFormedKnown zero_value
zero-formed = record { numbers = refl; targets = refl; ascending = refl }

whole-formed : IsFormed whole
whole-formed = formed_from_test whole refl

pub every_in-formed : (of : Option CType) → IsFormed (every_in of)
every_in-formed None = whole-formed
every_in-formed (Some t) = every_number-formed t

foreign_numbers-formed : (of : Option CType) → IsFormed (foreign_numbers of)
foreign_numbers-formed None = whole-formed
foreign_numbers-formed (Some (integer k)) = every_number-formed (integer k)
foreign_numbers-formed (Some void) = tt
foreign_numbers-formed (Some (floating k)) = tt
foreign_numbers-formed (Some (pointer t)) = tt
foreign_numbers-formed (Some (array t n)) = tt
foreign_numbers-formed (Some (structure n)) = tt
foreign_numbers-formed (Some (function s)) = tt

site-formed : (g : Terrain) (n : ℕ) → IsFormedTarget (site_target g n)
site-formed g n = record { offset = refl; size = refl }

foreign-some : (numbers : Interval) (b : Bool) (g : Terrain) (site : Option ℕ) → IsFormed numbers → IsFormedKnown (record { numbers = numbers; targets = cond b (site_targets g site) [] })
foreign-some numbers true g (Some n) h = record { numbers = test_from_formed numbers h; targets = formed_cons (site_target g n) [] (site-formed g n) refl; ascending = ascend_cons 0 (site_target g n) [] (omega arith) refl }
foreign-some numbers true g None h = record { numbers = test_from_formed numbers h; targets = refl; ascending = refl }
foreign-some numbers false g site h = record { numbers = test_from_formed numbers h; targets = refl; ascending = refl }

pub foreign-formed : (bytes : Bool) (of : Option CType) (g : Terrain) (site : Option ℕ) → IsFormedKnown (foreign_value bytes of (site_targets g site))
foreign-formed bytes of g site = foreign-some (foreign_numbers of) (pointer_element bytes of) g site (foreign_numbers-formed of)

-- where a value goes, or nothing
pub where-formed : (b : Bool) (v : Known) → IsFormedKnown v → IsFormedKnown (cond b v none)
where-formed b v h = chosen IsFormedKnown b v none (λ e. h) (λ e. none-formed)

pub where-monotone : (b : Bool) (v w : Known) → known_le v w ≡ true → known_le (cond b v none) (cond b w none) ≡ true
where-monotone true v w h = h
where-monotone false v w h = refl

pub where-within : (P : ℕ → Type 0) (b : Bool) (v : Known) → (b ≡ true → Within P v.targets) → Within P (cond b v none).targets
where-within P true v h = h refl
where-within P false v h = tt
