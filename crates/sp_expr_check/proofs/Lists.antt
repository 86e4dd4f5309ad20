-- A list of parameters that is read in its scope.
use Rattle.std.proofs.Common.{◌≡◌}
use Rattle.std.specs.Prelude.{Err}
use Rattle.sp_tree.specs.declared.fault.FaultKind.{FaultKind}
use Rattle.sp_tree.specs.declared.fault.Place.{Place}
use Rattle.sp_base_checked.specs.Answers.{Checked, refused, AnswersIn}
use Rattle.sp_base_checked.specs.declared.error.CheckError.{CheckError}
use Rattle.sp_base_checked.specs.declared.error.CheckError.TheVariants.{Fault as Faulty, NoMemory}
use Rattle.sp_check_env.specs.Declaring.{LeadsTo}
use Rattle.sp_check_expr_steps.proofs.Lists.{list_form}

pub ruleset lists = (list_form)

-- what is refused of a part is refused of the whole
pub part_failed : {A R E F : Type 0} (seen : A → R) (whole : Checked (R × E)) (c : Checked F) (env : F) (after : E) (err : CheckError) → ((k : FaultKind) (p : Place) → c ≡ refused k p → whole ≡ refused k p) → LeadsTo c env (Err err) → AnswersIn seen whole after (Err err)
part_failed seen whole c env after (Faulty f) g h = g f.kind f.place h
part_failed seen whole c env after NoMemory g h = h

pub part_stopped : {E F : Type 0} (whole : Checked E) (c : Checked F) (env : F) (after : E) (err : CheckError) → ((k : FaultKind) (p : Place) → c ≡ refused k p → whole ≡ refused k p) → LeadsTo c env (Err err) → LeadsTo whole after (Err err)
part_stopped whole c env after (Faulty f) g h = g f.kind f.place h
part_stopped whole c env after NoMemory g h = h
