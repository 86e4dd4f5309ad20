-- What a check answers: what the rules give, or a fault and the place where it stands.
use Rattle.std.specs.Prelude.{◌≡◌, Bool, true, false, Option, Some, None, Ok, Err, Result, ⊤}
use Rattle.sp_tree.specs.declared.fault.FaultKind.{FaultKind}
use Rattle.sp_tree.specs.declared.fault.Place.{Place}
use Rattle.sp_base_checked.specs.declared.error.CheckError.{CheckError}
use Rattle.sp_base_checked.specs.declared.error.CheckError.TheVariants.{Fault as Faulty, NoMemory}

pub data Checked (A : Type 0) : Type 0 where
  accepted : A → Checked A
  refused : FaultKind → Place → Checked A

-- the rule behind takes what this one gives
abbrev pub and_then : {A B : Type 0} → Checked A → (A → Checked B) → Checked B
and_then (accepted x) f = f x
and_then (refused k p) f = refused k p

-- the condition is a constraint: where it isn't met, this fault stands
abbrev pub where_met : {A : Type 0} → Bool → FaultKind → Place → Checked A → Checked A
where_met true k p c = c
where_met false k p c = refused k p

-- what a constraint gives: where it gives nothing, this fault stands
abbrev pub where_given : {A B : Type 0} → Option A → FaultKind → Place → (A → Checked B) → Checked B
where_given (Some x) k p f = f x
where_given None k p f = refused k p

-- the answer of a call is that of the rules; want of memory says nothing
abbrev pub Answers : {A B : Type 0} → (A → B) → Checked B → Result A CheckError → Type 0
Answers seen c (Ok x) = c ≡ accepted (seen x)
Answers seen c (Err (Faulty f)) = c ≡ refused f.kind f.place
Answers seen c (Err NoMemory) = ⊤

-- the same, with the scope behind it
abbrev pub AnswersIn : {A B E : Type 0} → (A → B) → Checked (B × E) → E → Result A CheckError → Type 0
AnswersIn seen c env (Ok x) = c ≡ accepted (seen x, env)
AnswersIn seen c env (Err (Faulty f)) = c ≡ refused f.kind f.place
AnswersIn seen c env (Err NoMemory) = ⊤
