-- A step of a search leaves less.
use Rattle.std.proofs.Common.{◌≡◌, ℕ, zero, suc, ◌<◌, ◌≤◌, ◌+◌, ◌-◌, true, List, [], ◌∷◌, length, get_or, take, refl, ap, arith}
use Rattle.std.proofs.lemmas.List.{length-append, length-take-le}
use Rattle.std.proofs.lemmas.List.Sums.{sum_by-set}
use Rattle.sp_base_sets.specs.Sets.{has, Ascends}
use Rattle.sp_base_sets.specs.Reached.{row}
use Rattle.sp_base_sets.specs.Circling.{State, stage_at, part_at, weight, entered, Ends, left}
use Rattle.sp_base_sets.specs.declared.circles.Stage.TheVariants.{New, Open}
use Rattle.sp_base_sets.specs.declared.circles.Part.{Part}
use Rattle.sp_base_sets.proofs.Members.{has_there}
use Rattle.sp_base_sets.proofs.Searching.{popped}

-- ascending numbers below a bound are no more than that
no_less : (xs : List ℕ) → Ascends xs → (i : ℕ) → i < length xs → i ≤ get_or xs i 0
no_less xs rises zero low = omega arith
no_less xs rises (suc i) low =
    let before = no_less xs rises i (omega (arith, low)) in
    let up = rises i (suc i) 0 (omega arith) low in
    omega (arith, before, up)

pub ascending_few : (xs : List ℕ) (bound : ℕ) → Ascends xs → ((x : ℕ) → has x xs ≡ true → x < bound) → length xs ≤ bound
ascending_few [] bound rises below = omega arith
ascending_few (x ∷ xs) bound rises below =
    let last = no_less (x ∷ xs) rises (length xs) (omega arith) in
    let high = below (get_or (x ∷ xs) (length xs) 0) (has_there (x ∷ xs) (get_or (x ∷ xs) (length xs) 0) (length xs) (omega arith) refl) in
    omega (arith, last, high)

popped_long : (s : State) → 0 < length s.waiting → length (popped s).waiting ≡ length s.waiting - 1
popped_long s some = length-take-le (length s.waiting - 1) s.waiting (omega arith)

pub entered_less : (lists : List (List ℕ)) (s : State) (n : ℕ) → 0 < length s.waiting → n < length lists → length s.stages ≡ length lists → stage_at s n ≡ New → length (row lists n) ≤ length lists → left lists (entered lists (popped s) n) < left lists s
entered_less lists s n some low long new few =
    let each = length lists + 2 in
    let sum = sum_by-set (weight each) s.stages n (Open (length s.path)) New (omega (arith, low, long)) in
    omega (arith, sum, ap (weight each) new, few, some, popped_long s some, length-append (popped s).waiting (row lists n), length-append s.parts (record { start = length s.path; waiting = length (popped s).waiting } ∷ []))

pub joined_less : (lists : List (List ℕ)) (s : State) (kept : ℕ) → 0 < length s.waiting → kept ≤ length s.parts → left lists (record (popped s) { parts = take kept s.parts }) < left lists s
joined_less lists s kept some few = omega (arith, popped_long s some, length-take-le kept s.parts few, some, few)

pub popped_less : (lists : List (List ℕ)) (s : State) → 0 < length s.waiting → left lists (popped s) < left lists s
popped_less lists s some = omega (arith, popped_long s some, some)

pub ended_less : (lists : List (List ℕ)) (part : Part) (s t : State) → 0 < length s.parts → Ends lists part s t → left lists t < left lists s
ended_less lists part s t some ends =
    omega (arith, some, ends.settled.weighs (length lists + 2), ap length ends.settled.waiting, ap length ends.parts, length-take-le (length s.parts - 1) s.parts (omega arith))

-- ---- parts that are popped

-- the parts past these begin past the place
pub record Joining (place : ℕ) (old now : State) : Type 0 where
  pub few : length now.parts ≤ length old.parts
  pub same : now ≡ record old { parts = take (length now.parts) old.parts }
  pub past : (i : ℕ) → length now.parts ≤ i → i < length old.parts → place < (part_at old i).start
