-- A statement that the checks accept is typed, where its blocks' declarations are (C90 6.6).
use Rattle.std.proofs.Common.{◌≡◌, ℕ, zero, suc, Bool, true, false, length, List, [], ◌∷◌, ◌++◌, Option, Some, is_some, refl, ap, sym, subst, ◌∙◌, true≢false}
use Rattle.std.specs.Prelude.{⊤}
use Rattle.sp_tree.specs.declared.fault.Place.{Place}
use Rattle.sp_parse_trees.specs.Syntax.{Expression, MaybeExpression, no_expression, some_expression, Statement, statement, StatementForm, no_statement, some_statement, Statements, no_statements, next_statement, Declarations}
use Rattle.sp_parse_trees.specs.Syntax as syntax
use Rattle.sp_parse_trees.specs.Places.{place_of}
use Rattle.sp_types.specs.declared.ctype.IntKind.{IntKind}
use Rattle.sp_types.specs.Types.{CType, void, integer, floating, pointer, array, structure, function}
use Rattle.sp_types.specs.Typed.{Typed, of}
use Rattle.sp_types.specs.Compatible.{convertible}
use Rattle.sp_types.specs.Statements.{TypedStatement, typed_statement, TypedStatementForm, TypedStatements}
use Rattle.sp_types.specs.Statements as tree
use Rattle.sp_types.specs.TypedView.{statement_list}
use Rattle.sp_types.specs.Arithmetic.{promoted_kind}
use Rattle.sp_check_operands.specs.Conversions.{is_scalar as is_scalar_type, converted, promoted, promoted_type}
use Rattle.sp_check_constants.specs.Constants.{constant_of}
use Rattle.sp_check_scopes.specs.Scopes.{is_file_scope}
use Rattle.sp_check_env.specs.Env.{Env, entered, left}
use Rattle.sp_check_statement_rules.specs.Labels.{jumps_in, form_jumps, all_jumps}
use Rattle.sp_check_statement_rules.specs.Cases.{distinct_cases}
use Rattle.sp_check_statement_rules.specs.Blocks.{locals_in, form_locals, all_locals}
use Rattle.sp_check_statement_rules.specs.Values.{as_kind}
use Rattle.sp_check_statement_rules.specs.Rules.{Around, integer_kind, in_loop, in_switch, condition, switch_value, switch_made, switch_around, case_value, returned}
use Rattle.sp_check_statements.specs.Parts.{condition_checked, switch_checked, maybe_checked, maybe_condition, maybe_returned, declarations_checked}
use Rattle.sp_check_statements.specs.Statements.{statement_checked, form_checked, one_statement, statements_checked, block_checked}
use Rattle.sp_ir.specs.Formed.{InKind, is_scalar}
use Rattle.sp_check_typing.specs.Sorts.{same_value, IsStored}
use Rattle.sp_check_typing.specs.Trees.{Scene, IsTyped}
use Rattle.sp_check_typing.specs.Statements.{IsCondition, IsMaybeTyped, IsMaybeCondition, IsReturned, AreDeclared, IsTypedStatement, IsTypedForm, AreTypedStatements}
use Rattle.sp_check_formed_laws.proofs.Lists.{some_is, Each, each_none, each_pushed, each_behind, none_some, pushed_before, pushed_last}
use Rattle.sp_check_formed_laws.proofs.After.{Gives, gives, gives_then, gives_met, gives_given, gives_more, anything}
use Rattle.sp_check_written_laws.specs.Written.{IsWritten, IsWrittenMaybe, AreWrittenDeclarations}
use Rattle.sp_check_written_laws.specs.Laws.{AreByteNames}
use Rattle.sp_check_expr_laws.specs.Sound.{scene_of}
use Rattle.sp_check_expr_laws.proofs.Operators.{IsGood}
use Rattle.sp_check_expr_laws.proofs.Grows.{typed_stays}
use Rattle.sp_check_expr_laws.proofs.Trees.{IsValued, IsOf, tree_converted}
use Rattle.sp_check_expr_laws.proofs.Envs.{IsFit, Reaches, reaches_nowhere, grows_of}
use Rattle.sp_check_expr_laws.proofs.After.{After, done, next, staying}
use Rattle.sp_check_expr_laws.proofs.Updates.{reaches_left}
use Rattle.sp_check_expr_laws.proofs.Leaves.{IsType, type_kept}
use Rattle.sp_check_expr_laws.proofs.Expressions.{checked_value}
use Rattle.sp_check_written_laws.specs.Statements.{IsWrittenStatement, IsWrittenForm, AreWrittenStatements}
use Rattle.sp_check_initialiser_laws.proofs.Values.{kept_type}
use Rattle.sp_check_unit_laws.proofs.Fits.{AreOwn, IsLabel, AreLabels, Fits, setting_of}
use Rattle.sp_check_unit_laws.proofs.Held.{IsHeld, held_on, held_entered}
use Rattle.sp_check_unit_laws.proofs.Parted.{each_left, each_right}
use Rattle.sp_check_unit_laws.proofs.Shows.{Shows, shown, hence, parted, behind, shows_taken, shows_staying, gives_staying}
use Rattle.sp_check_unit_laws.proofs.Values.{kind_held}
use Rattle.sp_check_unit_laws.proofs.Locals.{AreLocals, no_locals, locals_both, locals_moved}
use Rattle.sp_check_unit_laws.proofs.Going.{all_declared_stay, condition_stays, maybe_stays, maybe_condition_stays, statement_stays}

-- ---- sorts

scalar_same : (t : CType) → is_scalar_type t ≡ true → is_scalar t ≡ true
scalar_same (integer k) h = refl
scalar_same (pointer t) h = refl
scalar_same void h = absurd (true≢false (sym h))
scalar_same (floating k) h = absurd (true≢false (sym h))
scalar_same (array t n) h = absurd (true≢false (sym h))
scalar_same (structure k) h = absurd (true≢false (sym h))
scalar_same (function s) h = absurd (true≢false (sym h))

integer_of : (t : CType) → is_some (integer_kind t) ≡ true → (k : IntKind) × (t ≡ integer k)
integer_of (integer k) h = (k, refl)
integer_of void h = absurd (true≢false (sym h))
integer_of (floating k) h = absurd (true≢false (sym h))
integer_of (pointer t) h = absurd (true≢false (sym h))
integer_of (array t n) h = absurd (true≢false (sym h))
integer_of (structure k) h = absurd (true≢false (sym h))
integer_of (function s) h = absurd (true≢false (sym h))

-- ---- what a rule gives of a value

module _ (s : Scene) where
  condition_good : (at : Place) (e : Typed) → IsValued s e → Gives (IsCondition s) (condition at e)
  condition_good at e h =
      gives_met {b = is_scalar_type (of e)} _ _
      (λ b. gives {x = e} (h.tree.typed, scalar_same (of e) b))

  -- it has an integer type
  abbrev IsSwitched : Typed → Type 0
  IsSwitched e = IsTyped s e × ((k : IntKind) × (of e ≡ integer k))

  switch_good : (at : Place) (e : Typed) → IsValued s e → Gives IsSwitched (switch_value at e)
  switch_good at e h =
      gives_met {b = is_some (integer_kind (of e))} _ _
      (λ b. gives {x = promoted e} (by (integer_of (of e) b)))
    where
      by : (k : IntKind) × (of e ≡ integer k) → IsSwitched (promoted e)
      by x =
          let y : IsOf s (integer (promoted_kind x.0)) (converted (integer (promoted_kind x.0)) e) =
          tree_converted s (integer (promoted_kind x.0)) e h.tree tt tt
          (ap (λ t. convertible t (integer (promoted_kind x.0))) x.1) in
          subst (λ t. IsSwitched (converted t e)) (sym (ap promoted_type x.1))
          (y.tree.typed, (promoted_kind x.0, y.is))

  return_good : (labels : List ℕ) (a : Around) (at : Place) (e : Typed) → IsGood s.structs a.result
      → IsValued s e
      → Gives (λ x. IsReturned (record { scene = s; labels = labels; result = a.result }) (Some x))
      (returned a at e)
  return_good labels a at e r h =
      gives_met {b = convertible (of e) a.result} _ _ (λ fits.
      let y : IsOf s a.result (converted a.result e) =
      tree_converted s a.result e h.tree r.0 r.1 fits in
      let z : IsStored s.structs a.result × (same_value a.result a.result ≡ true) =
      kept_type s.structs (of e) a.result fits h.value.known in
      gives {x = converted a.result e}
      (y.tree.typed, z.0, ap (λ t. same_value t a.result) y.is ∙ z.1))

around_kind : (a : Around) (p : Place) → Gives (λ k. a.switch ≡ Some k) (switch_around a p)
around_kind a p = gives_given {o = a.switch} _ _ (λ k e. gives {x = k} e)

case_good : (k : IntKind) (at : Place) (e : Typed) → Gives (λ z. InKind k z) (case_value k at e)
case_good k at e =
    gives_given {o = constant_of e} _ _ (λ z f. gives {x = as_kind k z} (kind_held k z))

-- ---- statements

module _ (names : List (List ℕ)) (bytes : AreByteNames names) (own : ℕ → Bool)
    (labels : List ℕ) where
  abbrev pub FitsForm : Place → TypedStatementForm → Type 0
  FitsForm p f = AreOwn own (form_locals f) × AreLabels labels (form_jumps p f)

  abbrev Each_fits : List TypedStatement → Type 0
  Each_fits ss = Each (λ s. Fits own labels s) ss

  -- what the rules give, in the scene behind them
  abbrev IsStatementIn : CType → Option IntKind → TypedStatement → Env → Type 0
  IsStatementIn t k s env =
      IsTypedStatement (setting_of own labels t env) k s × AreLocals (locals_in s) env

  abbrev pub IsFormIn : CType → Option IntKind → TypedStatementForm → Env → Type 0
  IsFormIn t k f env =
      IsTypedForm (setting_of own labels t env) k f × AreLocals (form_locals f) env

  abbrev AreStatementsIn : CType → Option IntKind → List TypedStatement → Env → Type 0
  AreStatementsIn t k ss env = Each (λ s. IsStatementIn t k s env) ss

  abbrev IsConditionIn : Typed → Env → Type 0
  IsConditionIn e env = IsCondition (scene_of own env) e

  abbrev IsMaybeIn : Option Typed → Env → Type 0
  IsMaybeIn o env = IsMaybeTyped (scene_of own env) o

  abbrev IsMaybeConditionIn : Option Typed → Env → Type 0
  IsMaybeConditionIn o env = IsMaybeCondition (scene_of own env) o

  abbrev IsReturnedIn : CType → Option Typed → Env → Type 0
  IsReturnedIn t o env = IsReturned (setting_of own labels t env) o

  abbrev AreDeclaredIn : List ℕ → Env → Type 0
  AreDeclaredIn ns env = AreDeclared (scene_of own env) ns × AreLocals ns env

  abbrev pub DeclarationsAreTyped : Type 0
  DeclarationsAreTyped = (env : Env) (ds : Declarations) → IsHeld own env
      → AreWrittenDeclarations ds → is_file_scope env.scopes ≡ false
      → Shows own env (AreOwn own) AreDeclaredIn (declarations_checked names env [] ds)

  module _ {env later : Env} (h : IsFit own env) (g : Reaches own env later) where
    condition_on : (e : Typed) → IsConditionIn e env → IsConditionIn e later
    condition_on e c = condition_stays (scene_of own env) (scene_of own later) h.formed.table
        (grows_of own env later h g) g.moves.objects e c

    maybe_on : (o : Option Typed) → IsMaybeIn o env → IsMaybeIn o later
    maybe_on o c = maybe_stays (scene_of own env) (scene_of own later) h.formed.table
        (grows_of own env later h g) g.moves.objects o c

    maybe_condition_on : (o : Option Typed) → IsMaybeConditionIn o env → IsMaybeConditionIn o later
    maybe_condition_on o c = maybe_condition_stays (scene_of own env) (scene_of own later)
        h.formed.table (grows_of own env later h g) g.moves.objects o c

    statement_on : (t : CType) (k : Option IntKind) (s : TypedStatement) → IsStatementIn t k s env
        → IsStatementIn t k s later
    statement_on t k s c = (
      statement_stays (scene_of own env) (scene_of own later) h.formed.table
          (grows_of own env later h g) g.moves.objects labels t t (λ e h. h) k s c.0,
      locals_moved env later h.formed g.moves (locals_in s) c.1,
    )

    statements_on : (t : CType) (k : Option IntKind) (ss : List TypedStatement)
        → AreStatementsIn t k ss env → AreStatementsIn t k ss later
    statements_on t k ss c = λ i s at. statement_on t k s (c i s at)

    declared_on : (ns : List ℕ) → AreDeclaredIn ns env → AreDeclaredIn ns later
    declared_on ns c = (
      all_declared_stay (scene_of own env) (scene_of own later) h.formed.table
          (grows_of own env later h g) g.moves.objects ns c.0,
      locals_moved env later h.formed g.moves ns c.1,
    )

  -- ---- parts

  condition_typed : (env : Env) (e : Expression) → IsFit own env → IsWritten e
      → After own env IsConditionIn (condition_checked names env e)
  condition_typed env e h w =
      next (checked_value names bytes own env e h w)
      (λ x g q. staying g.fit (condition_good (scene_of own x.1) (place_of e) x.0 q))

  switch_typed : (env : Env) (e : Expression) → IsFit own env → IsWritten e
      → After own env (λ x later. IsSwitched (scene_of own later) x) (switch_checked names env e)
  switch_typed env e h w =
      next (checked_value names bytes own env e h w)
      (λ x g q. staying g.fit (switch_good (scene_of own x.1) (place_of e) x.0 q))

  maybe_typed : (env : Env) (e : MaybeExpression) → IsFit own env → IsWrittenMaybe e
      → After own env IsMaybeIn (maybe_checked names env e)
  maybe_typed env no_expression h w = done (reaches_nowhere own env h) tt
  maybe_typed env (some_expression e) h w =
      next (checked_value names bytes own env e h w)
      (λ x g q. done (reaches_nowhere own x.1 g.fit) q.tree.typed)

  maybe_condition_typed : (env : Env) (e : MaybeExpression) → IsFit own env → IsWrittenMaybe e
      → After own env IsMaybeConditionIn (maybe_condition names env e)
  maybe_condition_typed env no_expression h w = done (reaches_nowhere own env h) tt
  maybe_condition_typed env (some_expression e) h w =
      next (condition_typed env e h w) (λ x g q. done (reaches_nowhere own x.1 g.fit) q)

  maybe_returned_typed : (env : Env) (a : Around) (e : MaybeExpression) → IsFit own env
      → IsWrittenMaybe e → IsType a.result env
      → After own env (IsReturnedIn a.result) (maybe_returned names env a e)
  maybe_returned_typed env a no_expression h w r = done (reaches_nowhere own env h) tt
  maybe_returned_typed env a (some_expression e) h w r =
      next (next {P = λ x later. IsReturnedIn a.result (Some x) later}
      (checked_value names bytes own env e h w)
      (λ x g q. staying g.fit (return_good (scene_of own x.1) labels a (place_of e) x.0
      (type_kept g a.result r) q)))
      (λ x g q. done (reaches_nowhere own x.1 g.fit) q)

  -- ---- lists of statements

  all_own : (ss : List TypedStatement) → AreOwn own (all_locals (statement_list ss))
      → Each (λ s. AreOwn own (locals_in s)) ss
  all_own [] h k s e = absurd (none_some s e)
  all_own (s ∷ ss) h zero x e =
      subst (λ s. AreOwn own (locals_in s)) (some_is s x e)
      (each_left (λ n. own n ≡ true) (locals_in s) (all_locals (statement_list ss)) h)
  all_own (s ∷ ss) h (suc k) x e =
      all_own ss (each_right (λ n. own n ≡ true) (locals_in s) (all_locals (statement_list ss)) h)
      k x e

  all_there : (ss : List TypedStatement) → AreLabels labels (all_jumps (statement_list ss))
      → Each (λ s. AreLabels labels (jumps_in s)) ss
  all_there [] h k s e = absurd (none_some s e)
  all_there (s ∷ ss) h zero x e =
      subst (λ s. AreLabels labels (jumps_in s)) (some_is s x e)
      (each_left (λ j. IsLabel labels j.0) (jumps_in s) (all_jumps (statement_list ss)) h)
  all_there (s ∷ ss) h (suc k) x e =
      all_there ss (each_right (λ j. IsLabel labels j.0) (jumps_in s)
      (all_jumps (statement_list ss)) h) k x e

  all_typed : (t : CType) (k : Option IntKind) (env : Env) (ss : List TypedStatement)
      → AreStatementsIn t k ss env
      → AreTypedStatements (setting_of own labels t env) k (statement_list ss)
  all_typed t k env [] h = tt
  all_typed t k env (s ∷ ss) h =
      ((h 0 s refl).0, all_typed t k env ss (each_behind (λ s. IsStatementIn t k s env) s ss h))

  all_listed : (t : CType) (k : Option IntKind) (env : Env) (ss : List TypedStatement)
      → AreStatementsIn t k ss env → AreLocals (all_locals (statement_list ss)) env
  all_listed t k env [] h = no_locals env
  all_listed t k env (s ∷ ss) h =
      locals_both env (locals_in s) (all_locals (statement_list ss)) (h 0 s refl).1
      (all_listed t k env ss (each_behind (λ s. IsStatementIn t k s env) s ss h))

  -- what is checked first stays in front
  one_before : (env : Env) (a : Around) (before : List TypedStatement) (s : Statement)
      → Gives (λ y. Each_fits y.0 → Each_fits before) (one_statement names env a before s)
  one_before env a before (statement f p e) =
      gives_then {A = TypedStatementForm × Env} {Q = λ x. ⊤} anything (λ x t.
      gives {x = (before ++ typed_statement x.0 p e ∷ [], x.1)} (λ l k u at.
      l k u (pushed_before before (typed_statement x.0 p e) u k at)))

  more_before : (env : Env) (a : Around) (before : List TypedStatement) (ss : Statements)
      → Gives (λ y. Each_fits y.0 → Each_fits before) (statements_checked names env a before ss)
  more_before env a before no_statements = gives {x = (before, env)} (λ l. l)
  more_before env a before (next_statement s ss) =
      gives_then (one_before env a before s) (λ x b.
      gives_more (λ y c l. b (c l)) (more_before x.1 a x.0 ss))

  -- the statements of a block behind its declarations
  abbrev StatementsShow : Around → Statements → Env → Type 0
  StatementsShow a ss env = (x : List ℕ × Env) → Reaches own env x.1
      → Shows own x.1 Each_fits (AreStatementsIn a.result a.switch)
      (statements_checked names x.1 a [] ss)

  -- a switch and its statement
  switch_fits : (p : Place) (e : Typed) (s : TypedStatement)
      → Gives (λ f. FitsForm p f → Fits own labels s) (switch_made e s)
  switch_fits p e s =
      gives_then {Q = λ u. ⊤} {c = distinct_cases s} anything
      (λ u t. gives {x = tree.switch_on e s} (λ l. l))

  switch_form : (a : Around) (p : Place) (e : Typed) (s : TypedStatement) (env later : Env)
      → IsFit own env → Reaches own env later → IsSwitched (scene_of own env) e
      → IsStatementIn a.result (integer_kind (of e)) s later
      → Gives (λ f. FitsForm p f → IsFormIn a.result a.switch f later) (switch_made e s)
  switch_form a p e s env later h g q t =
      gives_then {Q = λ u. ⊤} {c = distinct_cases s} anything (λ u v.
      gives {x = tree.switch_on e s} (λ l. (
        (
          typed_stays (scene_of own env) (scene_of own later) (grows_of own env later h g) e q.0,
          (
            q.1.0,
            q.1.1,
            (subst (λ k. IsStatementIn a.result k s later) (ap integer_kind q.1.1) t).0,
          ),
        ),
        t.1,
      )))

  module _ (declares : DeclarationsAreTyped) where
    block_by : (env : Env) (a : Around) (p : Place) (ds : Declarations) (ss : Statements)
        → IsHeld own env → AreWrittenDeclarations ds → is_file_scope env.scopes ≡ false
        → StatementsShow a ss env
        → Shows own env (FitsForm p) (IsFormIn a.result a.switch)
        (block_checked names env a ds ss)
    block_by env a p ds ss h w inner rest =
        hence (declares env ds h w inner) (λ x.
        gives_then {A = List TypedStatement × Env} {Q = λ y. ⊤} anything (λ y t.
        gives {x = (tree.block x.0 (statement_list y.0), y.1)} (λ l.
        each_left (λ n. own n ≡ true) x.0 (all_locals (statement_list y.0)) l.0)))
        (λ x g q. hence (rest x g)
        (λ y. gives {x = (tree.block x.0 (statement_list y.0), y.1)} (λ l k s at. (
          all_own y.0
              (each_right (λ n. own n ≡ true) x.0 (all_locals (statement_list y.0)) l.0) k s at,
          all_there y.0 l.1 k s at,
        )))
        (λ y k t. shown (λ l. (
          reaches_nowhere own y.1 k.fit,
          let d : AreDeclaredIn x.0 y.1 = declared_on g.fit k x.0 q in (
            (d.0, all_typed a.result a.switch y.1 y.0 t),
            locals_both y.1 x.0 (all_locals (statement_list y.0)) d.1
                (all_listed a.result a.switch y.1 y.0 t),
          ),
        ))))

    mutual
      pub statement_typed : (env : Env) (a : Around) (s : Statement) → IsHeld own env
          → IsWrittenStatement s → IsType a.result env
          → Shows own env (Fits own labels) (IsStatementIn a.result a.switch)
          (statement_checked names env a s)
      statement_typed env a (statement f p e) h w r =
          hence (form_typed env a p f h w r)
          (λ x. gives {x = (typed_statement x.0 p e, x.1)} (λ l. l))
          (λ x g q. shown (λ l. (reaches_nowhere own x.1 g.fit, q)))

      pub form_typed : (env : Env) (a : Around) (p : Place) (f : StatementForm) → IsHeld own env
          → IsWrittenForm f → IsType a.result env
          → Shows own env (FitsForm p) (IsFormIn a.result a.switch) (form_checked names env a p f)
      form_typed env a p (syntax.label n s) h w r =
          hence (statement_typed env a s h w r)
          (λ x. gives {x = (tree.label n x.0, x.1)} (λ l. l))
          (λ x g q. shown (λ l. (reaches_nowhere own x.1 g.fit, q)))
      form_typed env a p (syntax.case_label e s) h w r =
          shows_taken (around_kind a p) (λ k is.
          behind (checked_value names bytes own env e h.fit w.0) (λ x g q.
          shows_taken (case_good k (place_of e) x.0) (λ z inside.
          hence (statement_typed x.1 a s (held_on h g) w.1 (type_kept g a.result r))
          (λ y. gives {x = (tree.case_of z y.0, y.1)} (λ l. l))
          (λ y l m. shown (λ u. (reaches_nowhere own y.1 l.fit, (((k, is, inside), m.0), m.1)))))))
      form_typed env a p (syntax.default_label s) h w r =
          shows_taken (around_kind a p) (λ k is.
          hence (statement_typed env a s h w r)
          (λ y. gives {x = (tree.default_of y.0, y.1)} (λ l. l))
          (λ y l m. shown (λ u. (reaches_nowhere own y.1 l.fit, (((k, is), m.0), m.1)))))
      form_typed env a p (syntax.block ds ss) h w r =
          parted (block_by (entered env) a p ds ss (held_entered own env h) w.0 refl
          (λ x g. statements_typed x.1 a [] ss (held_on (held_entered own env h) g) w.1
          (type_kept g a.result r)
          (each_none (λ s. IsStatementIn a.result a.switch s x.1))))
          (λ y. gives {x = (y.0, left y.1)} (λ l. l))
          (λ y g q. shown (λ l. (reaches_left own own env y.1 h.fit (λ all. all) g, q)))
      form_typed env a p syntax.empty h w r =
          shown (λ l. (reaches_nowhere own env h.fit, (tt, no_locals env)))
      form_typed env a p (syntax.of e) h w r =
          behind (checked_value names bytes own env e h.fit w)
          (λ x g q. shown (λ l. (reaches_nowhere own x.1 g.fit, (q.tree.typed, no_locals x.1))))
      form_typed env a p (syntax.if_else e s no_statement) h w r =
          behind (condition_typed env e h.fit w.0) (λ x g q.
          hence (statement_typed x.1 a s (held_on h g) w.1 (type_kept g a.result r))
          (λ y. gives {x = (tree.if_else x.0 y.0 tree.no_statement, y.1)} (λ l. (
            each_left (λ n. own n ≡ true) (locals_in y.0) [] l.0,
            each_left (λ j. IsLabel labels j.0) (jumps_in y.0) [] l.1,
          )))
          (λ y k t. shown (λ l. (
            reaches_nowhere own y.1 k.fit,
            (
              (condition_on g.fit k x.0 q, t.0, tt),
              locals_both y.1 (locals_in y.0) [] t.1 (no_locals y.1),
            ),
          ))))
      form_typed env a p (syntax.if_else e s (some_statement other)) h w r =
          behind (condition_typed env e h.fit w.0) (λ x g q.
          let to-x : IsType a.result x.1 = type_kept g a.result r in
          hence (statement_typed x.1 a s (held_on h g) w.1 to-x)
          (λ y. gives_then {A = TypedStatement × Env} {Q = λ z. ⊤} anything (λ z t.
          gives {x = (tree.if_else x.0 y.0 (tree.some_statement z.0), z.1)} (λ l. (
            each_left (λ n. own n ≡ true) (locals_in y.0) (locals_in z.0) l.0,
            each_left (λ j. IsLabel labels j.0) (jumps_in y.0) (jumps_in z.0) l.1,
          ))))
          (λ y k t. hence (statement_typed y.1 a other (held_on (held_on h g) k) w.2
          (type_kept k a.result to-x))
          (λ z. gives {x = (tree.if_else x.0 y.0 (tree.some_statement z.0), z.1)} (λ l. (
            each_right (λ n. own n ≡ true) (locals_in y.0) (locals_in z.0) l.0,
            each_right (λ j. IsLabel labels j.0) (jumps_in y.0) (jumps_in z.0) l.1,
          )))
          (λ z m u. shown (λ l. (
            reaches_nowhere own z.1 m.fit,
            let v : IsStatementIn a.result a.switch y.0 z.1 =
                statement_on k.fit m a.result a.switch y.0 t in (
                  (condition_on k.fit m x.0 (condition_on g.fit k x.0 q), v.0, u.0),
                  locals_both z.1 (locals_in y.0) (locals_in z.0) v.1 u.1,
                ),
          )))))
      form_typed env a p (syntax.switch_on e s) h w r =
          behind (switch_typed env e h.fit w.0) (λ x g q.
          hence (statement_typed x.1 (in_switch a (of x.0)) s (held_on h g) w.1
          (type_kept g a.result r))
          (λ y. gives_staying y.1 (switch_fits p x.0 y.0))
          (λ y k t. shows_staying k.fit (switch_form a p x.0 y.0 x.1 y.1 g.fit k q t)))
      form_typed env a p (syntax.while_loop e s) h w r =
          behind (condition_typed env e h.fit w.0) (λ x g q.
          hence (statement_typed x.1 (in_loop a) s (held_on h g) w.1 (type_kept g a.result r))
          (λ y. gives {x = (tree.while_loop x.0 y.0, y.1)} (λ l. l))
          (λ y k t. shown (λ l. (
            reaches_nowhere own y.1 k.fit,
            ((condition_on g.fit k x.0 q, t.0), t.1),
          ))))
      form_typed env a p (syntax.do_loop s e) h w r =
          hence (statement_typed env (in_loop a) s h w.0 r)
          (λ x. gives_then {A = Typed × Env} {Q = λ y. ⊤} anything (λ y t.
          gives {x = (tree.do_loop x.0 y.0, y.1)} (λ l. l)))
          (λ x g q. behind (condition_typed x.1 e g.fit w.1) (λ y k t.
          shown (λ l. (
            reaches_nowhere own y.1 k.fit,
            let v : IsStatementIn a.result a.switch x.0 y.1 =
                statement_on g.fit k a.result a.switch x.0 q in
                ((v.0, t), v.1),
          ))))
      form_typed env a p (syntax.for_loop b c d s) h w r =
          behind (maybe_typed env b h.fit w.0) (λ x g q.
          behind (maybe_condition_typed x.1 c g.fit w.1) (λ y k t.
          behind (maybe_typed y.1 d k.fit w.2) (λ z l u.
          let to-z : IsType a.result z.1 =
          type_kept l a.result (type_kept k a.result (type_kept g a.result r)) in
          hence (statement_typed z.1 (in_loop a) s (held_on (held_on (held_on h g) k) l) w.3 to-z)
          (λ v. gives {x = (tree.for_loop x.0 y.0 z.0 v.0, v.1)} (λ f. f))
          (λ v m i. shown (λ f. (
            reaches_nowhere own v.1 m.fit,
            (
              (
                maybe_on l.fit m x.0 (maybe_on k.fit l x.0 (maybe_on g.fit k x.0 q)),
                maybe_condition_on l.fit m y.0 (maybe_condition_on k.fit l y.0 t),
                maybe_on l.fit m z.0 u,
                i.0,
              ),
              i.1,
            ),
          ))))))
      form_typed env a p (syntax.goto_name n) h w r =
          shown (λ l. (reaches_nowhere own env h.fit, (l.1 0 (n, p) refl, no_locals env)))
      form_typed env a p syntax.continue_loop h w r =
          shows_staying h.fit
          (gives_met {b = a.loop} _ _ (λ e. gives {x = tree.continue_loop} (λ l. (tt, no_locals env))))
      form_typed env a p syntax.break_out h w r =
          shows_staying h.fit (gives_met _ _ (λ e. gives {x = tree.break_out} (λ l. (tt, no_locals env))))
      form_typed env a p (syntax.return_value e) h w r =
          behind (maybe_returned_typed env a e h.fit w r)
          (λ x g q. shown (λ l. (reaches_nowhere own x.1 g.fit, (q, no_locals x.1))))

      one_typed : (env : Env) (a : Around) (before : List TypedStatement) (s : Statement)
          → IsHeld own env → IsWrittenStatement s → IsType a.result env
          → AreStatementsIn a.result a.switch before env
          → Shows own env Each_fits (AreStatementsIn a.result a.switch)
          (one_statement names env a before s)
      one_typed env a before (statement f p e) h w r b =
          hence (form_typed env a p f h w r)
          (λ x. gives {x = (before ++ typed_statement x.0 p e ∷ [], x.1)} (λ l.
          l (length before) (typed_statement x.0 p e)
          (pushed_last before (typed_statement x.0 p e))))
          (λ x g q. shown (λ l. (
            reaches_nowhere own x.1 g.fit,
            each_pushed (λ s. IsStatementIn a.result a.switch s x.1) before
                (typed_statement x.0 p e) (statements_on h.fit g a.result a.switch before b) q,
          )))

      statements_typed : (env : Env) (a : Around) (before : List TypedStatement) (ss : Statements)
          → IsHeld own env → AreWrittenStatements ss → IsType a.result env
          → AreStatementsIn a.result a.switch before env
          → Shows own env Each_fits (AreStatementsIn a.result a.switch)
          (statements_checked names env a before ss)
      statements_typed env a before no_statements h w r b =
          shown (λ l. (reaches_nowhere own env h.fit, b))
      statements_typed env a before (next_statement s ss) h w r b =
          hence (one_typed env a before s h w.0 r b) (λ x. more_before x.1 a x.0 ss)
          (λ x g q. statements_typed x.1 a x.0 ss (held_on h g) w.1 (type_kept g a.result r) q)

    -- the outermost block of a function
    pub block_typed : (env : Env) (a : Around) (p : Place) (ds : Declarations) (ss : Statements)
        → IsHeld own env → AreWrittenDeclarations ds × AreWrittenStatements ss
        → IsType a.result env → is_file_scope env.scopes ≡ false
        → Shows own env (FitsForm p) (IsFormIn a.result a.switch) (block_checked names env a ds ss)
    block_typed env a p ds ss h w r inner =
        block_by env a p ds ss h w.0 inner
        (λ x g. statements_typed x.1 a [] ss (held_on h g) w.1 (type_kept g a.result r)
        (each_none (λ s. IsStatementIn a.result a.switch s x.1)))
