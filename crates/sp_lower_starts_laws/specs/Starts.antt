-- What is wanted of start values: those of a program's objects are formed.
use Rattle.std.specs.Prelude.{◌≡◌, ℕ, Bool, true, false, List, Some, None, slice_get, All}
use Rattle.sp_types.specs.Programs as program
use Rattle.sp_types.specs.Programs.{Program}
use Rattle.sp_ir.specs.Commands.{Leaf}
use Rattle.sp_ir.specs.Regions.{Region}
use Rattle.sp_ir.specs.Programs.{Object}
use Rattle.sp_ir.specs.Formed.{IsStart, starts, reads}
use Rattle.sp_lower_draft.specs.Context.{Context}
use Rattle.sp_lower_body.specs.Frames.{Initial, known_initial}
use Rattle.sp_lower_body.specs.Declarations.{is_automatic}
use Rattle.sp_lower_objects.specs.Objects.{kind_of_storage, start_of, zero_of}
use Rattle.sp_check_typing.specs.Starts.{AreLeafValues}
use Rattle.sp_lower_expr_laws.specs.Stands.{table, scene, Fits}
use Rattle.sp_lower_body_laws.specs.Frames.{AreLeavesOf}

-- These are the objects and regions of the lowered program, and the cells of start values. In any
-- context of it (`c`, with what it sees) the leaves of an automatic object are a start of it.
pub record StartsStand (p : Program) (c : Context) (os : List Object) (rs : List Region) (is : List Initial) : Type 0 where
  pub static : (n : ℕ) (o : program.Object) → slice_get p.objects n ≡ Some o → starts (kind_of_storage o.storage) ≡ true
      → IsStart (table c os) rs None n o.of (start_of c o.storage (known_initial (slice_get is n)).cells o.start)
      (zero_of o.storage (known_initial (slice_get is n)).zero)
  -- known before any cell has a value
  pub constant : (n : ℕ) (o : program.Object) → slice_get p.objects n ≡ Some o
      → All (λ l. reads l.value ≡ false) (start_of c o.storage (known_initial (slice_get is n)).cells o.start)
  pub automatic : (k from : ℕ) (v : ℕ → Bool) → Fits (record c { function = k; first_temporary = from }) os v
      → (n : ℕ) (o : program.Object) → slice_get p.objects n ≡ Some o → is_automatic o.storage ≡ true
      → AreLeafValues (scene c v) o.of o.start → (ls : List Leaf)
      → AreLeavesOf (record c { function = k; first_temporary = from }) os (known_initial (slice_get is n)).cells o.start ls
      → IsStart (table c os) rs (Some k) n o.of ls (known_initial (slice_get is n)).zero
