-- What the checks of a unit accept is well formed (C90 6.5.2.1, 6.7).
use Rattle.std.specs.Prelude.{◌≡◌, ℕ, ◌<◌, false, List, length, Some, slice_get}
use Rattle.sp_parse_trees.specs.Syntax.{External}
use Rattle.sp_types.specs.Structs.{IsTable, IsFormed, IsFormedSignature}
use Rattle.sp_types.specs.Programs.{Object, Function}
use Rattle.sp_base_checked.specs.Answers.{accepted}
use Rattle.sp_check_operands.specs.Conversions.{is_function}
use Rattle.sp_base_checked.specs.Units.{CheckedUnit, Typing}
use Rattle.sp_decl_check.specs.Units.{unit_checked}

-- The structs form a table, over which all types are formed. No object has the type of a function.
-- The formals and the locals that a function lists are objects of the unit.
pub record IsFormedUnit (x : CheckedUnit) : Type 0 where
  pub table : IsTable x.structs
  pub objects : (k : ℕ) (o : Object) → slice_get x.objects k ≡ Some o → IsFormed x.structs o.of
  pub object_types : (k : ℕ) (o : Object) → slice_get x.objects k ≡ Some o → is_function o.of ≡ false
  pub functions : (k : ℕ) (f : Function) → slice_get x.functions k ≡ Some f → IsFormedSignature x.structs f.of
  pub typings : (k : ℕ) (t : Typing) → slice_get x.typings k ≡ Some t → IsFormed x.structs t.of
  pub formals : (k : ℕ) (f : Function) → slice_get x.functions k ≡ Some f → (i n : ℕ) → slice_get f.formals i ≡ Some n → n < length x.objects
  pub locals : (k : ℕ) (f : Function) → slice_get x.functions k ≡ Some f → (i n : ℕ) → slice_get f.locals i ≡ Some n → n < length x.objects

-- each unit that the checks accept
abbrev pub UnitsAreFormed : Type 0
UnitsAreFormed = (names : List (List ℕ)) (us : List External) (x : CheckedUnit) → unit_checked names us ≡ accepted x → IsFormedUnit x
