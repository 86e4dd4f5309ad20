-- The body of a function is typed where its objects are the function's own (C90 6.6.1, 6.7.1).
use Rattle.std.proofs.Common.{◌≡◌, ℕ, zero, suc, Bool, true, false, nat_eq, map, List, [], ◌∷◌, ◌++◌, Option, Some, None, if◌then◌else◌, refl, ap, sym, subst, ◌∙◌, true≢false, eqb-true}
use Rattle.std.specs.Prelude.{◌||◌}
use Rattle.std.specs.List.{list_any}
use Rattle.sp_tree.specs.declared.fault.Place.{Place}
use Rattle.sp_tree.specs.declared.fault.FaultKind.{FaultKind}
use Rattle.sp_parse_trees.specs.Syntax.{Statement, statement, StatementForm}
use Rattle.sp_parse_trees.specs.Syntax as syntax
use Rattle.sp_types.specs.Types.{CType}
use Rattle.sp_types.specs.Statements.{TypedStatement, typed_statement, TypedStatementForm, label, case_of, default_of, block, empty, single, if_else, switch_on, while_loop, do_loop, for_loop, goto_name, continue_loop, break_out, return_value, MaybeTypedStatement, no_statement, some_statement, TypedStatements, no_statements, next_statement}
use Rattle.sp_base_checked.specs.Answers.{Checked, accepted, refused, and_then}
use Rattle.sp_check_scopes.specs.Scopes.{is_file_scope}
use Rattle.sp_check_env.specs.Env.{Env}
use Rattle.sp_expr_check.specs.Specifiers.{stays}
use Rattle.sp_check_statement_rules.specs.Labels.{jumps_in, labelled, lost_jump, repeated_label}
use Rattle.sp_check_statement_rules.specs.Labels as places
use Rattle.sp_check_statement_rules.specs.Repeats.{is_among, lost, where_none}
use Rattle.sp_check_statement_rules.specs.Blocks.{locals_in}
use Rattle.sp_check_statement_rules.specs.Rules.{in_function}
use Rattle.sp_check_statements.specs.Statements.{body_form, labels_told, body_checked}
use Rattle.sp_check_typing.specs.Statements.{labels_in, form_labels, other_labels, all_labels, IsTypedStatement}
use Rattle.sp_check_formed_laws.proofs.Lists.{none_some, some_is}
use Rattle.sp_check_formed_laws.proofs.After.{Gives, gives, gives_none, gives_then, gives_more}
use Rattle.sp_check_written_laws.specs.Laws.{AreByteNames}
use Rattle.sp_check_expr_laws.proofs.Envs.{SeesAll, Reaches}
use Rattle.sp_check_expr_laws.proofs.Leaves.{IsType}
use Rattle.sp_check_written_laws.specs.Statements.{IsWrittenStatement, IsWrittenForm}
use Rattle.sp_check_unit_laws.proofs.Fits.{AreOwn, IsLabel, AreLabels, setting_of}
use Rattle.sp_check_unit_laws.proofs.Held.{IsHeld}
use Rattle.sp_check_unit_laws.proofs.Locals.{AreLocals, no_locals}
use Rattle.sp_check_unit_laws.proofs.Shows.{Shows}
use Rattle.sp_check_unit_laws.proofs.Declarations.{declarations_typed}
use Rattle.sp_check_unit_laws.proofs.Statements.{FitsForm, IsFormIn, DeclarationsAreTyped, form_typed, block_typed}

-- ---- labels with their places, and without

abbrev names_of : List (ℕ × Place) → List ℕ
names_of ls = map (λ l. l.0) ls

names_both : (a b : List (ℕ × Place)) → names_of (a ++ b) ≡ names_of a ++ names_of b
names_both [] b = refl
names_both (x ∷ a) b = ap (λ xs. x.0 ∷ xs) (names_both a b)

both_same : (a b : List (ℕ × Place)) (x y : List ℕ) → names_of a ≡ x → names_of b ≡ y
    → names_of (a ++ b) ≡ x ++ y
both_same a b x y h g = names_both a b ∙ ap (λ v. v ++ names_of b) h ∙ ap (λ v. x ++ v) g

mutual
  labels_same : (s : TypedStatement) → names_of (places.labels_in s) ≡ labels_in s
  labels_same (typed_statement f p e) = form_same p f

  form_same : (p : Place) (f : TypedStatementForm)
      → names_of (places.form_labels p f) ≡ form_labels f
  form_same p (label n s) = ap (λ xs. n ∷ xs) (labels_same s)
  form_same p (case_of z s) = labels_same s
  form_same p (default_of s) = labels_same s
  form_same p (block os ss) = all_same ss
  form_same p empty = refl
  form_same p (single e) = refl
  form_same p (if_else e s other) =
      both_same (places.labels_in s) (places.other_labels other) (labels_in s) (other_labels other)
      (labels_same s) (other_same other)
  form_same p (switch_on e s) = labels_same s
  form_same p (while_loop e s) = labels_same s
  form_same p (do_loop s e) = labels_same s
  form_same p (for_loop a b c s) = labels_same s
  form_same p (goto_name n) = refl
  form_same p continue_loop = refl
  form_same p break_out = refl
  form_same p (return_value e) = refl

  other_same : (o : MaybeTypedStatement) → names_of (places.other_labels o) ≡ other_labels o
  other_same no_statement = refl
  other_same (some_statement s) = labels_same s

  all_same : (ss : TypedStatements) → names_of (places.all_labels ss) ≡ all_labels ss
  all_same no_statements = refl
  all_same (next_statement s ss) =
      both_same (places.labels_in s) (places.all_labels ss) (labels_in s) (all_labels ss)
      (labels_same s) (all_same ss)

-- ---- each jump goes to a label

among_label : (labels : List ℕ) (n : ℕ) → list_any (nat_eq n) labels ≡ true → IsLabel labels n
among_label [] n h = absurd (true≢false (sym h))
among_label (l ∷ ls) n h = by (nat_eq n l) refl h (among_label ls n)
  where
    by : (b : Bool) → nat_eq n l ≡ b → (b || list_any (nat_eq n) ls) ≡ true
        → (list_any (nat_eq n) ls ≡ true → IsLabel ls n) → IsLabel (l ∷ ls) n
    by true e h rest = (0, ap (λ x. Some x) (sym (eqb-true n l e)))
    by false e h rest = let x = rest h in (suc x.0, x.1)

none_lost : (labels : List ℕ) (js : List (ℕ × Place)) → lost nat_eq labels js ≡ None
    → AreLabels labels js
none_lost labels [] h = λ i j at. absurd (none_some j at)
none_lost labels (k ∷ js) h = by (is_among nat_eq labels k.0) refl h (none_lost labels js)
  where
    by : (b : Bool) → is_among nat_eq labels k.0 ≡ b
        → (if b then lost nat_eq labels js else Some k.1) ≡ None
        → (lost nat_eq labels js ≡ None → AreLabels labels js) → AreLabels labels (k ∷ js)
    by true e h rest zero j at =
        subst (λ j. IsLabel labels j.0) (some_is k j at) (among_label labels k.0 e)
    by true e h rest (suc i) j at = rest h i j at
    by false e h rest i j at = absurd (none_some k.1 (sym h))

pub where_none_met : {A : Type 0} (P : A → Type 0) (o : Option Place) (k : FaultKind)
    (c : Checked A) → (o ≡ None → Gives P c) → Gives P (where_none o k c)
where_none_met P None k c h = h refl
where_none_met P (Some p) k c h = gives_none

jumps_there : (s : TypedStatement)
    → Gives (λ x. AreLabels (labels_in s) (jumps_in s)) (labelled s)
jumps_there s =
    where_none_met (λ x. AreLabels (labels_in s) (jumps_in s)) (repeated_label s) _ _ (λ once.
    where_none_met (λ x. AreLabels (labels_in s) (jumps_in s)) (lost_jump s) _ _ (λ found.
    gives {x = tt} (subst (λ ls. AreLabels ls (jumps_in s)) (labels_same s)
    (none_lost (names_of (places.labels_in s)) (jumps_in s) found))))

told_jumps : (s : TypedStatement)
    → Gives (λ x. (x ≡ s) × AreLabels (labels_in s) (jumps_in s)) (labels_told s)
told_jumps s = gives_then (jumps_there s) (λ u h. gives {x = s} (refl, h))

-- ---- bodies

-- what holds of a checked body, in the environment behind it
abbrev pub IsBody : (ℕ → Bool) → Env → CType → TypedStatement → Env → Type 0
IsBody own env t s later = Reaches own env later
    × IsTypedStatement (setting_of own (labels_in s) t later) None s
    × AreLocals (locals_in s) later

module _ (names : List (List ℕ)) (bytes : AreByteNames names) (own : ℕ → Bool)
    (partly : SeesAll own → ⊥) where
  declares : (labels : List ℕ) → DeclarationsAreTyped names bytes own labels
  declares labels env ds h w inner =
      declarations_typed names bytes own partly env [] ds h w inner (tt, no_locals env)

  body_form_shows : (labels : List ℕ) (env : Env) (t : CType) (p : Place) (f : StatementForm)
      → IsHeld own env → IsWrittenForm f → IsType t env → is_file_scope env.scopes ≡ false
      → Shows own env (FitsForm names bytes own labels p) (IsFormIn names bytes own labels t None)
      (body_form names env (in_function t) p f)
  body_form_shows labels env t p (syntax.block ds ss) h w r inner =
      block_typed names bytes own labels (declares labels) env (in_function t) p ds ss h w r
      inner
  body_form_shows labels env t p f h w r inner =
      form_typed names bytes own labels (declares labels) env (in_function t) p f h w r

  pub body_typed : (env : Env) (t : CType) (s : Statement) → IsHeld own env
      → IsWrittenStatement s → IsType t env → is_file_scope env.scopes ≡ false
      → Gives (λ x. AreOwn own (locals_in x.0) → IsBody own env t x.0 x.1)
      (body_checked names env t s)
  body_typed env t (statement f p e) h w r inner =
      gives_by (body_form names env (in_function t) p f) (λ labels.
      body_form_shows labels env t p f h w r inner)
    where
      gives_by : (c : Checked (TypedStatementForm × Env))
          → ((labels : List ℕ) → Shows own env (FitsForm names bytes own labels p)
          (IsFormIn names bytes own labels t None) c)
          → Gives (λ x. AreOwn own (locals_in x.0) → IsBody own env t x.0 x.1)
          (and_then c (λ x. stays x.1 (labels_told (typed_statement x.0 p e))))
      gives_by (accepted x) h =
          gives_more {Q = λ y. (y.0 ≡ typed_statement x.0 p e) × (y.1 ≡ x.1)
          × AreLabels (labels_in (typed_statement x.0 p e)) (jumps_in (typed_statement x.0 p e))}
          (λ y q l. by y q l) (told_in x)
        where
          told_in : (x : TypedStatementForm × Env)
              → Gives (λ y. (y.0 ≡ typed_statement x.0 p e) × (y.1 ≡ x.1)
              × AreLabels (labels_in (typed_statement x.0 p e))
              (jumps_in (typed_statement x.0 p e)))
              (stays x.1 (labels_told (typed_statement x.0 p e)))
          told_in x = gives_then (told_jumps (typed_statement x.0 p e))
              (λ s q. gives {x = (s, x.1)} (q.0, refl, q.1))

          by : (y : TypedStatement × Env)
              → (y.0 ≡ typed_statement x.0 p e) × (y.1 ≡ x.1)
              × AreLabels (labels_in (typed_statement x.0 p e)) (jumps_in (typed_statement x.0 p e))
              → AreOwn own (locals_in y.0) → IsBody own env t y.0 y.1
          by y q l =
              let s : TypedStatement = typed_statement x.0 p e in
              let a = (h (labels_in s)).at x refl
              (subst (λ z. AreOwn own (locals_in z)) q.0 l, q.2) in
              subst (λ z. IsBody own env t z y.1) (sym q.0)
              (subst (λ z. IsBody own env t s z) (sym q.1) (a.0, a.1.0, a.1.1))
      gives_by (refused k p) h = gives_none
