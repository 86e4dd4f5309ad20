-- A row of slots at ascending places, seen as a store; and what updates make of it.
use Rattle.std.specs.Prelude.{ℕ, nat_eq, Bool, cond, not, List, [], ◌∷◌}
use Rattle.sp_lattice.specs.System.{has, store_at}
use Rattle.sp_value.specs.declared.targets.Target.{Target}
use Rattle.sp_value.specs.declared.slots.Slot.{Slot}
use Rattle.sp_value.specs.declared.slots.Slot.TheVariants.{Nothing}
use Rattle.sp_value.specs.Slots.{slot_join}
use Rattle.sp_effect_rows.specs.Rows.{Store, Row, joins}
use Rattle.sp_effect_rows.specs.Storing.{Destination, kept_by}

-- what the row has at each of its places, and nothing elsewhere
abbrev pub store_of : List ℕ → List Slot → Store
store_of places row l = store_at Nothing places row l

-- the slot, at one location alone
abbrev pub only_at : ℕ → Slot → ℕ → Slot
only_at location slot l = cond (nat_eq l location) slot Nothing

-- the slot of a location, where a target's region hits it
abbrev pub where_hit : (ℕ → ℕ → Bool) → (ℕ → Slot) → List Target → ℕ → Slot
where_hit hits slots xs l = joins (λ x. cond (hits x.region l) (slots l) Nothing) xs

-- slots stored where targets hit, by the rule of strong and weak updates
abbrev pub stored_at : Destination → List Target → (ℕ → Slot) → Row
stored_at d xs slots = record { keeps = kept_by d xs; puts = where_hit d.hits slots xs }

-- slots that go to these locations: at each the join of those that go there
abbrev pub slots_at : List ℕ → List Slot → ℕ → Slot
slots_at [] xs l = Nothing
slots_at (p ∷ ps) [] l = Nothing
slots_at (p ∷ ps) (x ∷ xs) l = slot_join (cond (nat_eq l p) x Nothing) (slots_at ps xs l)

-- slots placed at these locations, of which the strong ones lose what they held
abbrev pub placed_at : List ℕ → List ℕ → List Slot → Row
placed_at strong ps xs = record { keeps = λ l. not (has l strong); puts = slots_at ps xs }
