-- Parameters one after another.
use Rattle.std.proofs.Common.{◌≡◌, ℕ, zero, suc, ◌<◌, ◌≤◌, Bool, List, [], ◌∷◌, length, map, drop, get_or, refl, ap, sym, ◌∙◌, arith}
use Rattle.std.specs.Prelude.{Err, false, not, ◌≢◌}
use Rattle.sp_tree.specs.declared.fault.FaultKind.{FaultKind}
use Rattle.sp_tree.specs.declared.fault.Place.{Place}
use Rattle.sp_parse_trees.specs.Syntax.{no_params, next_param}
use Rattle.sp_parse_trees.specs.View.{param_of, params}
use Rattle.sp_parse_trees.specs.declared.tree.Param.{Param as CodeParam}
use Rattle.sp_types.specs.Types.{CType, untold, listed}
use Rattle.sp_types.specs.View.{types}
use Rattle.sp_base_checked.specs.Answers.{Checked, accepted, refused, and_then, AnswersIn}
use Rattle.sp_base_checked.specs.declared.error.CheckError.{CheckError}
use Rattle.sp_base_checked.specs.declared.error.CheckError.TheVariants.{Fault as Faulty, NoMemory}
use Rattle.sp_expr_check.specs.Parameters.{is_alone, told_types}

-- a list of the code has one parameter, or another number of them
pub one_alone : (xs : List CodeParam) (dots : Bool) → length xs ≡ 1 → is_alone (params (map param_of xs)) dots ≡ not dots
one_alone [] dots h = absurd (omega arith)
one_alone (x ∷ []) dots h = refl
one_alone (x ∷ y ∷ ys) dots h = absurd (omega arith)

pub more_together : (xs : List CodeParam) (dots : Bool) → length xs ≢ 1 → is_alone (params (map param_of xs)) dots ≡ false
more_together [] dots h = refl
more_together (x ∷ []) dots h = absurd (h refl)
more_together (x ∷ y ∷ ys) dots h = refl

pub none_told : (xs : List CodeParam) (ts : List CType) → length xs ≡ 0 → told_types (params (map param_of xs)) ts ≡ untold
none_told [] ts h = refl
none_told (x ∷ xs) ts h = absurd (omega arith)

pub some_told : (xs : List CodeParam) (ts : List CType) → length xs ≢ 0 → told_types (params (map param_of xs)) ts ≡ listed (types ts)
some_told [] ts h = absurd (h refl)
some_told (x ∷ xs) ts h = refl

pub ruleset lists = (one_alone, more_together, none_told, some_told)

-- the first of what is left, and the end
pub first_param : (xs : List CodeParam) (i : ℕ) (x : CodeParam) → i < length xs → x ≡ get_or xs i x → params (map param_of (drop i xs)) ≡ next_param (param_of x) (params (map param_of (drop (suc i) xs)))
first_param [] i x h e = absurd (omega arith)
first_param (y ∷ ys) zero x h e = ap (λ z. next_param (param_of z) (params (map param_of ys))) (sym e)
first_param (y ∷ ys) (suc i) x h e = first_param ys i x (omega arith) e

pub no_param_left : (xs : List CodeParam) (i : ℕ) → length xs ≤ i → params (map param_of (drop i xs)) ≡ no_params
no_param_left [] zero h = refl
no_param_left [] (suc i) h = refl
no_param_left (y ∷ ys) zero h = absurd (omega arith)
no_param_left (y ∷ ys) (suc i) h = no_param_left ys i (omega arith)

-- what is read goes on, and what is refused ends the list
pub taken_in : {A B : Type 0} (c : Checked A) (f : A → Checked B) (a : A) (whole : Checked B) → and_then c f ≡ whole → c ≡ accepted a → f a ≡ whole
taken_in c f a whole h e = sym (ap (λ d. and_then d f) e) ∙ h

pub ended_by : {A B : Type 0} (c : Checked A) (f : A → Checked B) (whole : Checked B) → and_then c f ≡ whole → (k : FaultKind) (p : Place) → c ≡ refused k p → whole ≡ refused k p
ended_by c f whole h k p e = sym h ∙ ap (λ d. and_then d f) e

pub list_failed : {A C R Q E : Type 0} (seen : A → R) (part : C → Q) (whole : Checked (R × E)) (c : Checked (Q × E)) (env after : E) (err : CheckError) → ((k : FaultKind) (p : Place) → c ≡ refused k p → whole ≡ refused k p) → AnswersIn part c env (Err err) → AnswersIn seen whole after (Err err)
list_failed seen part whole c env after (Faulty f) g h = g f.kind f.place h
list_failed seen part whole c env after NoMemory g h = h
