-- The cells that are local to a function.
use Rattle.std.specs.Prelude.{◌≡◌, ℕ, nat_eq, Bool, ◌&&◌, List, Some}
use Rattle.std.specs.Option.{option_eq}
use Rattle.sp_lattice.specs.System.{has}
use Rattle.sp_base_sets.specs.Reached.{row}
use Rattle.sp_ir.specs.Regions.{is_cell_at}
use Rattle.sp_ir.specs.Programs.{Lowered}
use Rattle.sp_effect_scene.specs.Analysed.{Analysed, owner_of}

-- of its automatic objects, temporaries, result and formals: a formed program's other objects have
-- no function
abbrev pub is_local : Lowered → ℕ → ℕ → Bool
is_local p f c = is_cell_at p.regions c && option_eq nat_eq (owner_of p c) (Some f)

-- for each function a set of them
abbrev pub AreLocals : Analysed → List (List ℕ) → Type 0
AreLocals a sets = (f c : ℕ) → has c (row sets f) ≡ is_local a.program f c
