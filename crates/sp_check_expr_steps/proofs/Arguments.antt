-- Arguments one after another.
use Rattle.std.proofs.Common.{◌≡◌, ℕ, zero, suc, List, [], ◌∷◌, ◌++◌, length, map, drop, refl, ap, sym, ◌∙◌, get_or}
use Rattle.sp_types.specs.Types.{CTypes, no_types, next_type}
use Rattle.sp_types.specs.Typed.{Typed, TypedList, no_typed, next_typed}
use Rattle.sp_types.specs.TypedView.{typed_list}
use Rattle.std.specs.Prelude.{Err}
use Rattle.sp_tree.specs.declared.fault.FaultKind.{FaultKind}
use Rattle.sp_tree.specs.declared.fault.Place.{Place}
use Rattle.sp_base_checked.specs.declared.error.CheckError.{CheckError}
use Rattle.sp_base_checked.specs.declared.error.CheckError.TheVariants.{Fault as Faulty, NoMemory}
use Rattle.sp_base_checked.specs.Answers.{Checked, accepted, refused, and_then, AnswersIn}
use Rattle.sp_check_env.specs.Env.{Env}
use Rattle.sp_check_binary_rules.specs.Rules.{behind, behind_by}
use Rattle.sp_check_expr_steps.specs.Expressions.{arguments_checked, one_checked}
use Rattle.sp_parse_trees.specs.Syntax.{Expression, Expressions, no_expressions, next_expression}
use Rattle.sp_parse_trees.specs.View.{tree_of, expressions}
use Rattle.sp_parse_trees.specs.declared.tree.Expr.{Expr}
use Rattle.std.proofs.Common.{◌<◌, ◌≤◌, arith, subst}
use Rattle.sp_check_expr_steps.specs.Resuming.{onto, resumed}

pub behind_next : (n : ℕ) (ts : CTypes) → behind (behind_by n ts) ≡ behind_by (suc n) ts
behind_next zero no_types = refl
behind_next zero (next_type t ts) = refl
behind_next (suc n) no_types = refl
behind_next (suc n) (next_type t ts) = behind_next n ts

onto_next : (ds : List Typed) (d : Typed) (es : TypedList) → onto ds (next_typed d es) ≡ onto (ds ++ d ∷ []) es
onto_next [] d es = refl
onto_next (e ∷ ds) d es = ap (next_typed e) (onto_next ds d es)

pub onto-all : (ds : List Typed) → onto ds no_typed ≡ typed_list ds
onto-all [] = refl
onto-all (d ∷ ds) = ap (next_typed d) (onto-all ds)

-- an argument that is typed goes to those before
pub one_more : (ds : List Typed) (a : Typed) (c : Checked (TypedList × Env)) → resumed ds (and_then c (λ y. accepted (next_typed a y.0, y.1))) ≡ resumed (ds ++ a ∷ []) c
one_more ds a (accepted y) = ap (λ es. accepted (es, y.1)) (onto_next ds a y.0)
one_more ds a (refused k p) = refl

pub done : (whole : Checked (TypedList × Env)) (names : List (List ℕ)) (env : Env) (ts : CTypes) (ds : List Typed) (rest : Expressions) → rest ≡ no_expressions → resumed ds (arguments_checked names env ts rest) ≡ whole → whole ≡ accepted (typed_list ds, env)
done whole names env ts ds rest e h =
    sym (subst (λ (r : Expressions). resumed ds (arguments_checked names env ts r) ≡ whole) e h) ∙ ap (λ es. accepted (es, env)) (onto-all ds)

pub step : (whole : Checked (TypedList × Env)) (names : List (List ℕ)) (env after : Env) (n : ℕ) (ts : CTypes) (ds : List Typed) (e : Expression) (rest : Expressions) (a : Typed) → one_checked names env ts n e ≡ accepted (a, after) → resumed ds (arguments_checked names env (behind_by n ts) (next_expression e rest)) ≡ whole → resumed (ds ++ a ∷ []) (arguments_checked names after (behind_by (suc n) ts) rest) ≡ whole
step whole names env after n ts ds e rest a g h =
    let h1 : resumed ds (and_then (one_checked names env ts n e) (λ a. and_then (arguments_checked names a.1 (behind (behind_by n ts)) rest) (λ y. accepted (next_typed a.0 y.0, y.1)))) ≡ whole = h in
    let h2 = rw g at h1 in
    rw (← behind_next n ts) (sym (one_more ds a (arguments_checked names after (behind (behind_by n ts)) rest)) ∙ h2)

pub front : (xs : List Expr) (i : ℕ) (x : Expr) → i < length xs → x ≡ get_or xs i x → expressions (map tree_of (drop i xs)) ≡ next_expression (tree_of x) (expressions (map tree_of (drop (suc i) xs)))
front [] i x h e = absurd (omega arith)
front (y ∷ ys) zero x h e = ap (λ z. next_expression (tree_of z) (expressions (map tree_of ys))) (sym e)
front (y ∷ ys) (suc i) x h e = front ys i x (omega arith) e

pub none_left : (xs : List Expr) (i : ℕ) → length xs ≤ i → expressions (map tree_of (drop i xs)) ≡ no_expressions
none_left [] zero h = refl
none_left [] (suc i) h = refl
none_left (y ∷ ys) zero h = absurd (omega arith)
none_left (y ∷ ys) (suc i) h = none_left ys i (omega arith)

whole_again : (c : Checked (TypedList × Env)) → resumed [] c ≡ c
whole_again (accepted y) = refl
whole_again (refused k p) = refl

pub begun : (names : List (List ℕ)) (env : Env) (ts : CTypes) (ds : List Typed) (es fs : Expressions) → ds ≡ [] → fs ≡ es → resumed ds (arguments_checked names env ts es) ≡ arguments_checked names env ts fs
begun names env ts ds es fs e f = ap (λ ds. resumed ds (arguments_checked names env ts es)) e ∙ whole_again (arguments_checked names env ts es) ∙ sym (ap (arguments_checked names env ts) f)

-- an argument that is refused ends the list
pub stopped : (whole : Checked (TypedList × Env)) (names : List (List ℕ)) (env : Env) (n : ℕ) (ts : CTypes) (ds : List Typed) (e : Expression) (rest : Expressions) (k : FaultKind) (p : Place) → resumed ds (arguments_checked names env (behind_by n ts) (next_expression e rest)) ≡ whole → one_checked names env ts n e ≡ refused k p → whole ≡ refused k p
stopped whole names env n ts ds e rest k p h g =
    let h1 : resumed ds (and_then (one_checked names env ts n e) (λ a. and_then (arguments_checked names a.1 (behind (behind_by n ts)) rest) (λ y. accepted (next_typed a.0 y.0, y.1)))) ≡ whole = h in
    sym (rw g at h1)

pub failed : {A C : Type 0} (seen : A → TypedList) (part : C → Typed) (whole : Checked (TypedList × Env)) (c : Checked (Typed × Env)) (env after : Env) (err : CheckError) → ((k : FaultKind) (p : Place) → c ≡ refused k p → whole ≡ refused k p) → AnswersIn part c env (Err err) → AnswersIn seen whole after (Err err)
failed seen part whole c env after (Faulty f) g h = g f.kind f.place h
failed seen part whole c env after NoMemory g h = h
