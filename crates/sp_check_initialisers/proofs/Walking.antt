-- Initialisers one after another.
use Rattle.std.proofs.Common.{◌≡◌, ℕ, zero, suc, ◌<◌, ◌≤◌, List, [], ◌∷◌, length, map, drop, get_or, refl, ap, sym, ◌∙◌, arith}
use Rattle.std.specs.Prelude.{Err}
use Rattle.sp_tree.specs.declared.fault.FaultKind.{FaultKind}
use Rattle.sp_tree.specs.declared.fault.Place.{Place}
use Rattle.sp_parse_trees.specs.Syntax.{no_inits, next_init}
use Rattle.sp_parse_trees.specs.View.{inits}
use Rattle.sp_parse_trees.specs.declared.tree.Init.{Init as CodeInit}
use Rattle.sp_base_checked.specs.Answers.{Checked, accepted, refused, and_then, AnswersIn}
use Rattle.sp_base_checked.specs.declared.error.CheckError.{CheckError}
use Rattle.sp_base_checked.specs.declared.error.CheckError.TheVariants.{Fault as Faulty, NoMemory}
use Rattle.sp_check_initialisers.specs.InitView.{init_of}

-- the first of what is left, and the end
pub first_init : (xs : List CodeInit) (i : ℕ) (x : CodeInit) → i < length xs → x ≡ get_or xs i x → inits (map init_of (drop i xs)) ≡ next_init (init_of x) (inits (map init_of (drop (suc i) xs)))
first_init [] i x h e = absurd (omega arith)
first_init (y ∷ ys) zero x h e = ap (λ z. next_init (init_of z) (inits (map init_of ys))) (sym e)
first_init (y ∷ ys) (suc i) x h e = first_init ys i x (omega arith) e

pub no_init_left : (xs : List CodeInit) (i : ℕ) → length xs ≤ i → inits (map init_of (drop i xs)) ≡ no_inits
no_init_left [] zero h = refl
no_init_left [] (suc i) h = refl
no_init_left (y ∷ ys) zero h = absurd (omega arith)
no_init_left (y ∷ ys) (suc i) h = no_init_left ys i (omega arith)

-- what is read goes on, and what is refused ends the list
pub taken_in : {A B : Type 0} (c : Checked A) (f : A → Checked B) (a : A) (whole : Checked B) → and_then c f ≡ whole → c ≡ accepted a → f a ≡ whole
taken_in c f a whole h e = sym (ap (λ d. and_then d f) e) ∙ h

pub ended_by : {A B : Type 0} (c : Checked A) (f : A → Checked B) (whole : Checked B) → and_then c f ≡ whole → (k : FaultKind) (p : Place) → c ≡ refused k p → whole ≡ refused k p
ended_by c f whole h k p e = sym h ∙ ap (λ d. and_then d f) e

pub list_failed : {A C R Q E : Type 0} (seen : A → R) (part : C → Q) (whole : Checked (R × E)) (c : Checked (Q × E)) (env after : E) (err : CheckError) → ((k : FaultKind) (p : Place) → c ≡ refused k p → whole ≡ refused k p) → AnswersIn part c env (Err err) → AnswersIn seen whole after (Err err)
list_failed seen part whole c env after (Faulty f) g h = g f.kind f.place h
list_failed seen part whole c env after NoMemory g h = h
