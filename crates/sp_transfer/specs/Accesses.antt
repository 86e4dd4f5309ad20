-- Which locations the functions of a program access.
use Rattle.std.specs.Prelude.{◌≡◌, ◌⊎◌, ◌||◌, ℕ, Bool, true, Some}
use Rattle.sp_graph.specs.Calls.{function_of, Leads}
use Rattle.sp_effect_scene.specs.Analysed.{Analysed}
use Rattle.sp_transfer.specs.Effects.{defined_at, used_at}

-- a node of the function, or of one that calls lead to from it, defines or uses the location
pub record Accesses (a : Analysed) (sharp : Bool) (f l : ℕ) : Type 0 where
  pub node : ℕ
  pub owner : ℕ
  pub inside : function_of a.program node ≡ Some owner
  pub led_to : (owner ≡ f) ⊎ Leads a.program a.told.calls f owner
  pub touches : (defined_at a sharp node l || used_at a node l) ≡ true
