-- What follows a part that may have failed: where the part is there its rule goes on, and else its fault is that of the whole.
use Rattle.std.proofs.Common.{◌≡◌, ap}
use Rattle.std.specs.Prelude.{Result, Ok, Err, MatchResult}
use Rattle.sp_base_checked.specs.Answers.{Checked, and_then, AnswersIn}
use Rattle.sp_base_checked.specs.declared.error.CheckError.{CheckError}
use Rattle.sp_base_checked.specs.declared.error.CheckError.TheVariants.{Fault as Faulty, NoMemory}

pub followed : {A B C D E : Type 0} (seen : A → B) (shown : C → D) (c : Checked (B × E)) (rule : B × E → Checked (D × E)) (env after : E) (part : Result A CheckError) (whole : Result C CheckError) → AnswersIn seen c env part → MatchResult part (λ x. AnswersIn shown (rule (seen x, env)) after whole) (λ error. whole ≡ Err error) → AnswersIn shown (and_then c rule) after whole
followed seen shown c rule env after (Ok x) whole g h = rw g h
followed seen shown c rule env after (Err (Faulty f)) whole g h = rw h (ap (λ d. and_then d rule) g)
followed seen shown c rule env after (Err NoMemory) whole g h = rw h g
