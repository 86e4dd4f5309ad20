-- What a call that answers nothing but a changed environment says.
use Rattle.std.specs.Prelude.{◌≡◌, Ok, Err, Result, ⊤}
use Rattle.sp_base_checked.specs.Answers.{Checked, accepted, refused}
use Rattle.sp_base_checked.specs.declared.error.CheckError.{CheckError}
use Rattle.sp_base_checked.specs.declared.error.CheckError.TheVariants.{Fault as Faulty, NoMemory}

-- the environment behind the call is that of the rules, or their fault stands; want of memory says nothing
abbrev pub LeadsTo : {E : Type 0} → Checked E → E → Result (Unit {0}) CheckError → Type 0
LeadsTo c env (Ok x) = c ≡ accepted env
LeadsTo c env (Err (Faulty f)) = c ≡ refused f.kind f.place
LeadsTo c env (Err NoMemory) = ⊤
