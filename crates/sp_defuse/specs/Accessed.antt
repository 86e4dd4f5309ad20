-- What functions access, as it is found: from what their own nodes touch, along calls backwards.
use Rattle.std.specs.Prelude.{◌≡◌, ◌↔◌, ℕ, nat_eq, Bool, true, ◌&&◌, ◌||◌, List, Some, length}
use Rattle.std.specs.List.{list_any}
use Rattle.std.specs.Option.{option_eq}
use Rattle.sp_ir.specs.Programs.{Lowered}
use Rattle.sp_base_sets.specs.Sets.{has}
use Rattle.sp_base_sets.specs.Reached.{row, Reached}
use Rattle.sp_graph.specs.Accessed.{AccessSets, accesses}
use Rattle.sp_graph.specs.Calls.{function_of}
use Rattle.sp_effect_scene.specs.Analysed.{Analysed}
use Rattle.sp_transfer.specs.Effects.{defined_at, used_at}

abbrev pub is_of : Lowered → ℕ → ℕ → Bool
is_of p f n = option_eq nat_eq (Some f) (function_of p n)

-- whether one of these nodes is of the function f, and defines or uses the location
abbrev pub is_touched : Analysed → Bool → List ℕ → ℕ → ℕ → Bool
is_touched a sharp ns l f =
    list_any (λ n. (defined_at a sharp n l || used_at a n l) && is_of a.program f n) ns

-- whether one of these nodes is of the function f, and calls the function g
abbrev pub is_called : Analysed → List ℕ → ℕ → ℕ → Bool
is_called a ns g f = list_any (λ n. has g (row a.told.calls n) && is_of a.program f n) ns

-- exactly the numbers that pass a test came to the set of each row
pub record AddsTo (test : ℕ → ℕ → Bool) (old new : List (List ℕ)) : Type 0 where
  pub long : length new ≡ length old
  pub exact : (r n : ℕ) → has n (row new r) ≡ (has n (row old r) || test r n)

-- a function accesses the locations for which calls lead from it to a function of which one of
-- these nodes touches the location
pub record AreAccessed (a : Analysed) (sharp : Bool) (ns : List ℕ) (accessed : AccessSets) : Type 0 where
  pub callers : List (List ℕ)
  pub owners : List (List ℕ)
  pub called : (g f : ℕ) → has f (row callers g) ≡ is_called a ns g f
  pub touched : (l f : ℕ) → has f (row owners l) ≡ is_touched a sharp ns l f
  pub found : (f l : ℕ) → (accesses accessed f l ≡ true) ↔ Reached callers (row owners l) f
