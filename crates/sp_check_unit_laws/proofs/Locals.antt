-- The objects that the blocks of a function list have no linkage, and those that don't last are
-- complete (C90 6.1.2.2, 6.5).
use Rattle.std.proofs.Common.{◌≡◌, ℕ, ◌≤◌, false, List, [], ◌++◌, Some, refl, ap, ◌∙◌}
use Rattle.std.specs.Prelude.{slice_get}
use Rattle.sp_types.specs.Types.{Struct}
use Rattle.sp_types.specs.Programs.{Object}
use Rattle.sp_check_env.specs.Env.{Env}
use Rattle.sp_ir.specs.Terrain.{size_of}
use Rattle.sp_check_objects.specs.Objects.{has_linkage}
use Rattle.sp_check_typing.specs.Statements.{is_lasting}
use Rattle.sp_check_formed_laws.proofs.Lists.{Each, each_none, each_appended}
use Rattle.sp_check_formed_laws.proofs.Envs.{IsFormedEnv}
use Rattle.sp_check_expr_laws.specs.Sound.{lasting_alone, scene_of}
use Rattle.sp_check_expr_laws.proofs.Envs.{IsKeptObject, Moves, scene_grows}
use Rattle.sp_check_unit_laws.proofs.Going.{size_kept}

pub record IsLocalOf (ss : List Struct) (os : List Object) (n : ℕ) : Type 0 where
  pub object : Object
  pub there : slice_get os n ≡ Some object
  pub private : has_linkage object.linkage ≡ false
  pub sized : is_lasting object.storage ≡ false → 1 ≤ size_of ss object.of

abbrev pub IsLocalIn : Env → ℕ → Type 0
IsLocalIn env n = IsLocalOf env.tables.structs env.tables.objects n

abbrev pub AreLocals : List ℕ → Env → Type 0
AreLocals ns env = Each (IsLocalIn env) ns

pub no_locals : (env : Env) → AreLocals [] env
no_locals env = each_none (IsLocalIn env)

pub locals_both : (env : Env) (ns ms : List ℕ) → AreLocals ns env → AreLocals ms env
    → AreLocals (ns ++ ms) env
locals_both env ns ms h g = each_appended (IsLocalIn env) ns ms h g

local_moved : (env later : Env) → IsFormedEnv env → Moves env later → (n : ℕ) → IsLocalIn env n
    → IsLocalIn later n
local_moved env later f g n h =
    let x : IsKeptObject later.tables.objects n h.object = g.objects n h.object h.there in
    record {
      object = x.object;
      there = x.there;
      private = ap has_linkage x.linkage ∙ h.private;
      sized = size_kept (scene_of lasting_alone env) (scene_of lasting_alone later) f.table
          (scene_grows lasting_alone env later g f) g.objects h.object x.object
          (is_lasting h.object.storage) refl x.stored x.whole h.sized;
    }

pub locals_moved : (env later : Env) → IsFormedEnv env → Moves env later → (ns : List ℕ)
    → AreLocals ns env → AreLocals ns later
locals_moved env later f g ns h = λ i n at. local_moved env later f g n (h i n at)
