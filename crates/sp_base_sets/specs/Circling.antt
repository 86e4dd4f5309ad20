-- What is known of a search for numbers that lead to themselves, while it goes on (Gabow 2000).
use Rattle.std.specs.Prelude.{◌≡◌, ◌≢◌, ◌⊎◌, ◌↔◌, ◌<◌, ◌≤◌, ◌+◌, ◌-◌, ℕ, Bool, true, false, List, [], ◌∷◌, ◌++◌, length, take, replicate, Option, Some, slice_get, slice_index_or, slice_set}
use Rattle.std.specs.List.{sum_by}
use Rattle.sp_base_sets.specs.Sets.{has}
use Rattle.sp_base_sets.specs.Reached.{row, Leads}
use Rattle.sp_base_sets.specs.declared.circles.Stage.{Stage}
use Rattle.sp_base_sets.specs.declared.circles.Stage.TheVariants.{New, Open, Done}
use Rattle.sp_base_sets.specs.declared.circles.Part.{Part}
use Rattle.sp_base_sets.specs.declared.circles.Search.{Search}

-- how far the search is with each number, the marks of those that are done, the open numbers, those
-- that wait, and the parts
pub record State : Type 0 where
  pub stages : List Stage
  pub marks : List Bool
  pub path : List ℕ
  pub waiting : List ℕ
  pub parts : List Part

abbrev pub state_of : Search → State
state_of s = record {
  stages = s.stages.items;
  marks = s.marks.items;
  path = s.path.items;
  waiting = s.waiting.items;
  parts = s.parts.items;
}

abbrev pub no_part : Part
no_part = record { start = 0; waiting = 0 }

abbrev pub stage_at : State → ℕ → Stage
stage_at s n = slice_index_or s.stages n New

abbrev pub mark_at : State → ℕ → Bool
mark_at s n = slice_index_or s.marks n false

abbrev pub open_at : State → ℕ → ℕ
open_at s p = slice_index_or s.path p 0

abbrev pub waiting_at : State → ℕ → ℕ
waiting_at s k = slice_index_or s.waiting k 0

abbrev pub part_at : State → ℕ → Part
part_at s i = slice_index_or s.parts i no_part

abbrev pub last_part : List Part → Option Part
last_part ps = slice_get ps (length ps - 1)

-- ---- steps

abbrev pub none_seen : ℕ → State
none_seen count = record {
  stages = replicate count New;
  marks = replicate count false;
  path = [];
  waiting = [];
  parts = [];
}

-- a part of one new number begins
abbrev pub entered : List (List ℕ) → State → ℕ → State
entered lists s n = record {
  stages = slice_set s.stages n (Open (length s.path));
  marks = s.marks;
  path = s.path ++ n ∷ [];
  waiting = s.waiting ++ row lists n;
  parts = s.parts ++ record { start = length s.path; waiting = length s.waiting } ∷ [];
}

-- the parts that begin past a place are of the one before them
pub record Joins (place : ℕ) (old new : State) : Type 0 where
  pub kept : ℕ
  pub few : kept ≤ length old.parts
  pub same : new ≡ record old { parts = take kept old.parts }
  pub last : (i : ℕ) → i + 1 ≡ kept → (part_at old i).start ≤ place
  pub past : (i : ℕ) → kept ≤ i → i < length old.parts → place < (part_at old i).start

-- what an open number adds to a measure of what is left
abbrev pub weight : ℕ → Stage → ℕ
weight each New = each
weight each (Open p) = 0
weight each Done = 0

-- the open numbers from a place on are done, with this mark
pub record Settled (place : ℕ) (mark : Bool) (old new : State) : Type 0 where
  pub long : length new.stages ≡ length old.stages
  pub marks_long : length new.marks ≡ length old.marks
  pub path : new.path ≡ take place old.path
  pub waiting : new.waiting ≡ old.waiting
  pub settled : (n p : ℕ) → stage_at old n ≡ Open p → place ≤ p
      → (stage_at new n ≡ Done) × (mark_at new n ≡ mark)
  pub others : (n : ℕ) → ((p : ℕ) → stage_at old n ≡ Open p → p < place)
      → (stage_at new n ≡ stage_at old n) × (mark_at new n ≡ mark_at old n)
  pub weighs : (each : ℕ) → sum_by (weight each) new.stages ≡ sum_by (weight each) old.stages

-- the numbers of the innermost part are several, or their one leads to itself
abbrev pub IsCircle : List (List ℕ) → Part → State → Type 0
IsCircle lists part s = (1 < length s.path - part.start)
    ⊎ (has (open_at s part.start) (row lists (open_at s part.start)) ≡ true)

abbrev pub IsAlone : List (List ℕ) → Part → State → Type 0
IsAlone lists part s = (length s.path - part.start ≤ 1)
    × (has (open_at s part.start) (row lists (open_at s part.start)) ≡ false)

-- the innermost part is done, and marked by what it is
pub record Ends (lists : List (List ℕ)) (part : Part) (old new : State) : Type 0 where
  pub mark : Bool
  pub settled : Settled part.start mark old new
  pub parts : new.parts ≡ take (length old.parts - 1) old.parts
  pub circle : mark ≡ true → IsCircle lists part old
  pub none : mark ≡ false → IsAlone lists part old

-- no number is new again
abbrev pub GoesOn : State → State → Type 0
GoesOn old new = (n : ℕ) → stage_at old n ≢ New → stage_at new n ≢ New

-- ---- what holds throughout

-- the open numbers are those whose stage says so, with their places
pub record AreOpen (s : State) : Type 0 where
  pub placed : (n p : ℕ) → stage_at s n ≡ Open p → (p < length s.path) × (open_at s p ≡ n)
  pub opened : (p : ℕ) → p < length s.path → stage_at s (open_at s p) ≡ Open p
  pub marks_long : length s.marks ≡ length s.stages

abbrev pub Reaches : List (List ℕ) → ℕ → ℕ → Type 0
Reaches lists n m = (n ≡ m) ⊎ Leads lists n m

-- A number that one of a part or of a later one leads to is done, or open in such a part, or waits.
pub data Looked (s : State) (i n : ℕ) : Type 0 where
  is_done : stage_at s n ≡ Done → Looked s i n
  is_open : (q : ℕ) → stage_at s n ≡ Open q → (part_at s i).start ≤ q → Looked s i n
  is_waiting : (k : ℕ) → (part_at s i).waiting ≤ k → k < length s.waiting → waiting_at s k ≡ n
      → Looked s i n

-- A number that waits is one to which an open number of the part leads where it waits.
pub record Source (lists : List (List ℕ)) (s : State) (k : ℕ) : Type 0 where
  pub place : ℕ
  pub low : place < length s.path
  pub leads : has (waiting_at s k) (row lists (open_at s place)) ≡ true
  pub behind : (i : ℕ) → i < length s.parts → (part_at s i).waiting ≤ k
      → (part_at s i).start ≤ place
  pub before : (i : ℕ) → i < length s.parts → k < (part_at s i).waiting
      → place < (part_at s i).start

-- What is done leads to what is done, and is marked where it leads to itself. An open number reaches
-- all of its part and of those behind it.
pub record IsSearchBut (lists : List (List ℕ)) (s : State) (Else : ℕ → Type 0) : Type 0 where
  pub path : AreOpen s
  pub long : length s.stages ≡ length lists
  pub done : (n m : ℕ) → stage_at s n ≡ Done → has m (row lists n) ≡ true → stage_at s m ≡ Done
  pub marked : (n : ℕ) → stage_at s n ≡ Done → (mark_at s n ≡ true) ↔ Leads lists n n
  pub rises : (i j : ℕ) → i < j → j < length s.parts
      → ((part_at s i).start < (part_at s j).start) × ((part_at s i).waiting ≤ (part_at s j).waiting)
  pub within : (i : ℕ) → i < length s.parts
      → ((part_at s i).start < length s.path) × ((part_at s i).waiting ≤ length s.waiting)
  pub leads : (p q : ℕ) → p < length s.path → q < length s.path
      → ((i : ℕ) → i < length s.parts → (part_at s i).start ≤ p → (part_at s i).start ≤ q)
      → Reaches lists (open_at s p) (open_at s q)
  pub behind : (i p n : ℕ) → i < length s.parts → (part_at s i).start ≤ p → p < length s.path
      → has n (row lists (open_at s p)) ≡ true → Looked s i n ⊎ Else n
  pub source : (k : ℕ) → k < length s.waiting → Source lists s k
  pub covered : (p : ℕ) → p < length s.path
      → (i : ℕ) × (i < length s.parts) × ((part_at s i).start ≤ p)

abbrev pub IsSearch : List (List ℕ) → State → Type 0
IsSearch lists s = IsSearchBut lists s (λ n. ⊥)

-- between two roots nothing is open
abbrev pub IsIdle : List (List ℕ) → State → Type 0
IsIdle lists s = IsSearch lists s × (s.parts ≡ [])

-- a number waits in the innermost part
abbrev pub Waits : State → Type 0
Waits s = (part : Part) × (last_part s.parts ≡ Some part) × (part.waiting < length s.waiting)

-- a measure of what is left
abbrev pub left : List (List ℕ) → State → ℕ
left lists s = sum_by (weight (length lists + 2)) s.stages + (length s.waiting + length s.parts)
