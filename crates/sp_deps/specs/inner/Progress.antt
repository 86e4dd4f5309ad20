-- How far the dependencies are found.
use Rattle.std.specs.Prelude.{◌≡◌, ◌≤◌, ◌+◌, ◌⊎◌, ◌↔◌, ◌&&◌, ◌||◌, ℕ, Bool, true, nat_eq, nat_lt, List, length, All, take}
use Rattle.sp_lattice.specs.System.{Meaning, has}
use Rattle.sp_lattice.specs.Dependency.{Depends}
use Rattle.sp_deps.specs.declared.triples.DepError.{DepError}
use Rattle.sp_deps.specs.declared.triples.DepError.TheVariants.{TooMany, NoMemory}
use Rattle.sp_deps.specs.Rows.{held, total, is_before, Ascends, most_dependencies}

-- rows that can be told: one for each node, ascending, and not too many triples in all
pub record AreRows (nodes : ℕ) (rows : List (List (ℕ × ℕ))) : Type 0 where
  pub long : length rows ≡ nodes
  pub ascending : All Ascends rows
  pub few : total rows ≤ most_dependencies

-- all triples come before a use
abbrev pub AreBefore : List (List (ℕ × ℕ)) → ℕ → ℕ → Type 0
AreBefore rows location to = (b l c : ℕ) → held rows b l c ≡ true → is_before (l, c) (location, to) ≡ true

-- all triples are dependencies
abbrev pub AreSound : {V : Type 0} → Meaning V → List (List (ℕ × ℕ)) → Type 0
AreSound m rows = (b l c : ℕ) → held rows b l c ≡ true → Depends m b l c

-- to the triples of some rows come those from the nodes that pass a test to one use
abbrev pub Gains : List (List (ℕ × ℕ)) → List (List (ℕ × ℕ)) → (ℕ → Bool) → ℕ → ℕ → Type 0
Gains before after test location to = (b l c : ℕ) → held after b l c ≡ (held before b l c || test b && (nat_eq l location && nat_eq c to))

-- some rows and triples that come to them from these nodes to one use are too many
pub record Exceeds (before : List (List (ℕ × ℕ))) (nodes : List ℕ) (location to : ℕ) : Type 0 where
  pub rows : List (List (ℕ × ℕ))
  pub ascending : All Ascends rows
  pub front : ℕ
  pub gains : Gains before rows (λ b. has b (take front nodes)) location to
  pub count : total rows ≡ most_dependencies + 1

-- the uses of all locations below one, and of that one those by the nodes of a list
abbrev pub is_done : ℕ → List ℕ → ℕ → ℕ → Bool
is_done location users l c = nat_lt l location || nat_eq l location && has c users

-- the triples are exactly the dependencies of the uses that are done
pub record AreUpTo {V : Type 0} (m : Meaning V) (rows : List (List (ℕ × ℕ))) (done : ℕ → ℕ → Bool) : Type 0 where
  pub kept : AreRows m.nodes rows
  pub exact : (b l c : ℕ) → (held rows b l c ≡ true) ↔ (Depends m b l c × (done l c ≡ true))

-- to the triples of some rows come the dependencies of one use
pub record GainsUse {V : Type 0} (m : Meaning V) (before after : List (List (ℕ × ℕ))) (location to : ℕ) : Type 0 where
  pub still : (b l c : ℕ) → held before b l c ≡ true → held after b l c ≡ true
  pub gained : (b : ℕ) → Depends m b location to → held after b location to ≡ true
  pub sound : (b l c : ℕ) → held after b l c ≡ true → (held before b l c ≡ true) ⊎ ((l ≡ location) × (c ≡ to) × Depends m b location to)

-- there is no room for the triples of a use: with one of them there are too many; or want of memory
abbrev pub IsExcess : List (List (ℕ × ℕ)) → List ℕ → ℕ → ℕ → DepError → Type 0
IsExcess before found location to (TooMany count) = (count ≡ most_dependencies + 1) × Exceeds before found location to
IsExcess before found location to NoMemory = Unit {0}
