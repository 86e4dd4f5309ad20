-- What stands in the finished program for what the statements of a function name.
use Rattle.std.specs.Prelude.{◌≡◌, ℕ, Bool, true, List, [], ◌∷◌, Some, slice_get, ⊤}
use Rattle.sp_types.specs.Typed.{Typed, of}
use Rattle.sp_types.specs.Programs as program
use Rattle.sp_ir.specs.declared.program.ObjectKind.TheVariants.{Auto}
use Rattle.sp_ir.specs.Commands.{Leaf}
use Rattle.sp_ir.specs.Regions.{Region}
use Rattle.sp_ir.specs.Programs.{Object}
use Rattle.sp_ir.specs.Formed.{IsStart}
use Rattle.sp_lower_draft.specs.Context.{Context}
use Rattle.sp_lower_body.specs.Frames.{Frame, initial_of}
use Rattle.sp_lower_body.specs.Declarations.{is_automatic, first_cell, cells_behind}
use Rattle.sp_check_typing.specs.Sorts.{IsStored}
use Rattle.sp_check_typing.specs.Starts.{AreLeafValues}
use Rattle.sp_lower_expr_laws.specs.Stands.{table, scene, Stands, Fits}
use Rattle.sp_lower_expr_laws.specs.Uses.{IsValue}

-- leaves with the numbers of these start values, these cells, and their values
abbrev pub AreLeavesOf : Context → List Object → List ℕ → List (ℕ × Typed) → List Leaf → Type 0
AreLeavesOf c os cells [] [] = ⊤
AreLeavesOf c os cells [] (l ∷ ls) = ⊥
AreLeavesOf c os cells (e ∷ es) [] = ⊥
AreLeavesOf c os cells (e ∷ es) (l ∷ ls) = (l.number ≡ e.0) × (l.cell ≡ first_cell cells) × IsValue c os (of e.1) l.value
    × AreLeavesOf c os (cells_behind cells) es ls

pub record IsAutomatic (os : List Object) (n : ℕ) : Type 0 where
  pub object : Object
  pub there : slice_get os n ≡ Some object
  pub kind : object.kind ≡ Auto

-- what names name, the result, and the automatic objects with the cells of their start values
pub record FitsFrame (f : Frame) (os : List Object) (rs : List Region) (v : ℕ → Bool) : Type 0 where
  pub names : Fits f.context os v
  pub result : IsStored f.context.structs f.result_type → Stands os f.context.function f.result f.result_type
  pub automatic : (n : ℕ) (o : program.Object) → slice_get f.context.objects n ≡ Some o → v n ≡ true
      → is_automatic o.storage ≡ true → IsAutomatic os n
  pub starts : (n : ℕ) (o : program.Object) → slice_get f.context.objects n ≡ Some o → v n ≡ true
      → is_automatic o.storage ≡ true → AreLeafValues (scene f.context v) o.of o.start
      → (ls : List Leaf) → AreLeavesOf f.context os (initial_of f n).cells o.start ls
      → IsStart (table f.context os) rs (Some f.context.function) n o.of ls (initial_of f n).zero
