-- What comes from outside at the start, step by step.
use Rattle.std.specs.Prelude.{◌≡◌, ℕ, true, Some, slice_get}
use Rattle.sp_ir.specs.declared.program.ObjectKind.{ObjectKind}
use Rattle.sp_ir.specs.Programs.{Lowered, Code}
use Rattle.sp_ir.specs.Terrain.{terrain_of}
use Rattle.sp_points_expr.specs.Tables.{Table}
use Rattle.sp_points_rules.specs.declared.sources.Only.TheVariants.{PointerLeaves}
use Rattle.sp_points_rules.specs.Sources.{region}
use Rattle.sp_points_rules.specs.Puts.{all_of, only_of, Product, is_foreign}

abbrev pub PutsForeignTo : Lowered → Table → ℕ → ℕ → ℕ → ℕ → Type 0
PutsForeignTo p u number formal c r = Product p u (only_of PointerLeaves (region ((terrain_of p).root formal))) (all_of (region ((terrain_of p).root number))) c r

pub record PutsForeignAt (p : Lowered) (u : Table) (number : ℕ) (kind : ObjectKind) (c r : ℕ) : Type 0 where
  pub foreign : is_foreign kind 0 ≡ true
  pub place : ℕ
  pub formal : ℕ
  pub code : Code
  pub main : slice_get p.functions p.main ≡ Some code
  pub at : slice_get code.formals place ≡ Some formal
  pub puts : PutsForeignTo p u number formal c r
