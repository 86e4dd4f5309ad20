-- Walks backward from a use: what is reached, and what is found.
use Rattle.std.specs.Prelude.{◌≡◌, ◌⊎◌, ◌↔◌, ◌&&◌, ◌||◌, ◌++◌, ℕ, Bool, true, false, not, nat_eq, List, [], length, All, Contains, slice_index_or}
use Rattle.std.specs.List.{IsDistinct}
use Rattle.sp_lattice.specs.System.{Meaning, has}
use Rattle.sp_lattice.specs.Dependency.{Path}
use Rattle.sp_deps.specs.inner.Stretches.{IsSkip}
use Rattle.sp_deps.specs.declared.walk.Walk.{Walk}
use Rattle.sp_deps.specs.declared.earlier.Earlier.{Earlier}
use Rattle.sp_deps.specs.declared.earlier.Finding.{Finding}

abbrev pub reached : Walk → ℕ → Bool
reached w n = slice_index_or w.is_reached.items n false

-- each node that is reached stands in one of the two lists, once: among those that wait where it doesn't
-- define the location, else among those that are found
pub record IsListed {V : Type 0} (m : Meaning V) (location : ℕ) (w : Walk) : Type 0 where
  pub nodes : length w.is_reached.items ≡ m.nodes
  pub waiting : (n : ℕ) → has n w.waiting.items ≡ (reached w n && not (has location (m.defs n)))
  pub found : (n : ℕ) → has n w.found.items ≡ (reached w n && has location (m.defs n))
  pub waiting_once : IsDistinct nat_eq w.waiting.items
  pub found_once : IsDistinct nat_eq w.found.items

-- of so many nodes none is reached
pub record IsFresh (count : ℕ) (w : Walk) : Type 0 where
  pub nodes : length w.is_reached.items ≡ count
  pub none : (n : ℕ) → reached w n ≡ false
  pub waiting : w.waiting.items ≡ []
  pub found : w.found.items ≡ []

-- the nodes that are reached are those of the two lists
abbrev pub AreMarked : Walk → Type 0
AreMarked w = (n : ℕ) → (has n w.waiting.items || has n w.found.items) ≡ reached w n

-- what was reached still is, and so is what passes a test; those that come to wait stand behind those that did
pub record Reaches (before after : Walk) (test : ℕ → Bool) : Type 0 where
  pub marks : (n : ℕ) → reached after n ≡ (reached before n || test n)
  pub rest : List ℕ
  pub waiting : after.waiting.items ≡ before.waiting.items ++ rest

-- what is found, each node once: where the location is defined and a path leads to the use
pub record IsFound {V : Type 0} (m : Meaning V) (location to : ℕ) (found : List ℕ) : Type 0 where
  pub once : IsDistinct nat_eq found
  pub exact : (from : ℕ) → (has from found ≡ true) ↔ ((has location (m.defs from) ≡ true) × Path m location from to)

-- an earlier walk to the use by a node found these
pub record IsFinding (e : Earlier) (node : ℕ) (found : List ℕ) : Type 0 where
  pub finding : Finding
  pub there : Contains e.findings.items finding
  pub target : finding.target ≡ node
  pub is : finding.found.items ≡ found

-- what earlier walks found at a location is all that there is to find
pub record AreKnown {V : Type 0} (m : Meaning V) (location : ℕ) (e : Earlier) : Type 0 where
  pub places : length e.place.items ≡ m.nodes
  pub each : All (λ f. IsFound m location f.target f.found.items) e.findings.items

-- what stands behind a node is reached: the nodes from which an edge that passes the location leads there, or
-- the head of its stretch
abbrev pub StepsBack : {V : Type 0} → Meaning V → ℕ → List ℕ → ℕ → Walk → Walk → Type 0
StepsBack m location heads node before after =
    Reaches before after (λ n. has n (m.into node) && m.passes n node location)
    ⊎ ((head : ℕ) × IsSkip m location heads node head × Reaches before after (λ n. nat_eq n head))

-- or what an earlier walk to its use found
abbrev pub GoesBehind : {V : Type 0} → Meaning V → ℕ → List ℕ → Earlier → ℕ → Walk → Walk → Type 0
GoesBehind m location heads e node before after =
    StepsBack m location heads node before after
    ⊎ ((found : List ℕ) × IsFinding e node found × Reaches before after (λ n. has n found))
