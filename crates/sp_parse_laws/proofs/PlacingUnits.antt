-- A unit whose places are those of its tokens is its bare unit with each place put back.
use Rattle.std.proofs.Common.{◌≡◌, ℕ, ◌-◌, List, [], ◌∷◌, length, refl, sym, ap, ap₂, ◌∙◌}
use Rattle.sp_tree.specs.declared.fault.Place.{Place}
use Rattle.sp_parse_trees.specs.Syntax.{Expression, MaybeExpression, Statement, statement, StatementForm, label, case_label, default_label, block, empty, of, if_else, switch_on, while_loop, do_loop, for_loop, goto_name, continue_loop, break_out, return_value, MaybeStatement, no_statement, some_statement, Statements, no_statements, next_statement, External, definition, external_declaration, semicolon}
use Rattle.sp_parse_trees.specs.Spelling.{tokens_of, maybe_tokens, specifiers_tokens, declarator_tokens, declarations_tokens, statement_tokens, statement_form_tokens, external_tokens}
use Rattle.sp_parse_trees.specs.Places.{behind, past, past_one, PlacedStatement, PlacedStatementForm, PlacedElse, PlacedStatements, PlacedExternal, PlacedUnit}
use Rattle.sp_parse_laws.specs.Bare.{bare, bare_maybe, bare_declarator}
use Rattle.sp_parse_laws.proofs.BareTrees.{ap₃, bare_tokens, bare_maybe_tokens, bare_specifiers_tokens, bare_declarator_tokens, bare_declarations_tokens}
use Rattle.sp_parse_laws.proofs.Placing.{put, put_maybe, put_specifiers, put_declarator, put_declaration, put_declarations, restored, restored_maybe, restored_specifiers, restored_declarator, restored_declaration, restored_declarations}
use Rattle.sp_parse_laws.specs.BareUnits.{bare_statement, bare_statement_form, bare_else, bare_statements, bare_external, bare_unit}
use Rattle.sp_parse_laws.proofs.BareUnits.{bare_statement_tokens, bare_form_tokens, bare_external_tokens}

-- behind an expression in parentheses at the third token
abbrev behind_head : Expression → (ℕ → Place) → ℕ → Place
behind_head e at = past_one (tokens_of e) (behind 2 at)

-- behind the first, the second and the third expression of a `for`
abbrev behind_one : MaybeExpression → (ℕ → Place) → ℕ → Place
behind_one a at = past_one (maybe_tokens [] a) at

abbrev mutual
  pub put_statement : (ℕ → Place) → Statement → Statement
  put_statement at (statement f p z) = statement (put_statement_form at f) (at 0) (at (length (statement_form_tokens f) - 1))

  pub put_statement_form : (ℕ → Place) → StatementForm → StatementForm
  put_statement_form at (label n s) = label n (put_statement (behind 2 at) s)
  put_statement_form at (case_label e s) = case_label (put (behind 1 at) e) (put_statement (past_one (tokens_of e) (behind 1 at)) s)
  put_statement_form at (default_label s) = default_label (put_statement (behind 2 at) s)
  put_statement_form at (block ds ss) = block (put_declarations (behind 1 at) ds) (put_statements (past (declarations_tokens ds) (behind 1 at)) ss)
  put_statement_form at empty = empty
  put_statement_form at (of e) = of (put at e)
  put_statement_form at (if_else e s other) = if_else (put (behind 2 at) e) (put_statement (behind_head e at) s) (put_else (past (statement_tokens s) (behind_head e at)) other)
  put_statement_form at (switch_on e s) = switch_on (put (behind 2 at) e) (put_statement (behind_head e at) s)
  put_statement_form at (while_loop e s) = while_loop (put (behind 2 at) e) (put_statement (behind_head e at) s)
  put_statement_form at (do_loop s e) = do_loop (put_statement (behind 1 at) s) (put (behind 2 (past (statement_tokens s) (behind 1 at))) e)
  put_statement_form at (for_loop a b c s) = for_loop (put_maybe (behind 2 at) a) (put_maybe (behind_one a (behind 2 at)) b) (put_maybe (behind_one b (behind_one a (behind 2 at))) c) (put_statement (behind_one c (behind_one b (behind_one a (behind 2 at)))) s)
  put_statement_form at (goto_name n) = goto_name n
  put_statement_form at continue_loop = continue_loop
  put_statement_form at break_out = break_out
  put_statement_form at (return_value e) = return_value (put_maybe (behind 1 at) e)

  pub put_else : (ℕ → Place) → MaybeStatement → MaybeStatement
  put_else at no_statement = no_statement
  put_else at (some_statement s) = some_statement (put_statement (behind 1 at) s)

  pub put_statements : (ℕ → Place) → Statements → Statements
  put_statements at no_statements = no_statements
  put_statements at (next_statement s ss) = next_statement (put_statement at s) (put_statements (past (statement_tokens s) at) ss)

abbrev pub put_external : (ℕ → Place) → External → External
put_external at (definition ss d s) = definition (put_specifiers at ss) (put_declarator (past (specifiers_tokens ss) at) d) (put_statement (past (declarator_tokens d) (past (specifiers_tokens ss) at)) s)
put_external at (external_declaration d) = external_declaration (put_declaration at d)
put_external at semicolon = semicolon

abbrev pub put_unit : (ℕ → Place) → List External → List External
put_unit at [] = []
put_unit at (e ∷ es) = put_external at e ∷ put_unit (past (external_tokens e) at) es

-- ---- put back into a bare tree they give the tree

-- the statement behind an expression in parentheses
in_head : (at : ℕ → Place) (e : Expression) (s : Statement) → put_statement (behind_head e at) (bare_statement s) ≡ s → put_statement (behind_head (bare e) at) (bare_statement s) ≡ s
in_head at e s same = ap (λ u. put_statement (past_one u (behind 2 at)) (bare_statement s)) (bare_tokens e) ∙ same

mutual
  restored_statement : (at : ℕ → Place) (x : Statement) → PlacedStatement at x → put_statement at (bare_statement x) ≡ x
  restored_statement at (statement f p z) h = ap₃ (λ u v w. statement u v w) (restored_statement_form at f h.2) (sym h.0) (ap (λ u. at (length u - 1)) (bare_form_tokens f) ∙ sym h.1)

  restored_statement_form : (at : ℕ → Place) (x : StatementForm) → PlacedStatementForm at x → put_statement_form at (bare_statement_form x) ≡ x
  restored_statement_form at (label n s) h = ap (λ u. label n u) (restored_statement (behind 2 at) s h)
  restored_statement_form at (case_label e s) h = ap₂ (λ u v. case_label u v) (restored (behind 1 at) e h.0) (ap (λ u. put_statement (past_one u (behind 1 at)) (bare_statement s)) (bare_tokens e) ∙ restored_statement (past_one (tokens_of e) (behind 1 at)) s h.1)
  restored_statement_form at (default_label s) h = ap (λ u. default_label u) (restored_statement (behind 2 at) s h)
  restored_statement_form at (block ds ss) h = ap₂ (λ u v. block u v) (restored_declarations (behind 1 at) ds h.0) (ap (λ u. put_statements (past u (behind 1 at)) (bare_statements ss)) (bare_declarations_tokens ds) ∙ restored_statements (past (declarations_tokens ds) (behind 1 at)) ss h.1)
  restored_statement_form at empty h = refl
  restored_statement_form at (of e) h = ap (λ u. of u) (restored at e h)
  restored_statement_form at (if_else e s other) h =
      ap₃ (λ u v w. if_else u v w) (restored (behind 2 at) e h.0) (in_head at e s (restored_statement (behind_head e at) s h.1))
      (ap₂ (λ u v. put_else (past u (past_one v (behind 2 at))) (bare_else other)) (bare_statement_tokens s) (bare_tokens e) ∙ restored_else (past (statement_tokens s) (behind_head e at)) other h.2)
  restored_statement_form at (switch_on e s) h = ap₂ (λ u v. switch_on u v) (restored (behind 2 at) e h.0) (in_head at e s (restored_statement (behind_head e at) s h.1))
  restored_statement_form at (while_loop e s) h = ap₂ (λ u v. while_loop u v) (restored (behind 2 at) e h.0) (in_head at e s (restored_statement (behind_head e at) s h.1))
  restored_statement_form at (do_loop s e) h = ap₂ (λ u v. do_loop u v) (restored_statement (behind 1 at) s h.0) (ap (λ u. put (behind 2 (past u (behind 1 at))) (bare e)) (bare_statement_tokens s) ∙ restored (behind 2 (past (statement_tokens s) (behind 1 at))) e h.1)
  restored_statement_form at (for_loop a b c s) h =
      let here = behind 2 at in
      ap₃ (λ u v w. for_loop u v w (put_statement (behind_one (bare_maybe c) (behind_one (bare_maybe b) (behind_one (bare_maybe a) here))) (bare_statement s)))
      (restored_maybe here a h.0)
      (ap (λ u. put_maybe (past_one u here) (bare_maybe b)) (bare_maybe_tokens [] a) ∙ restored_maybe (behind_one a here) b h.1)
      (ap₂ (λ u v. put_maybe (past_one u (past_one v here)) (bare_maybe c)) (bare_maybe_tokens [] b) (bare_maybe_tokens [] a) ∙ restored_maybe (behind_one b (behind_one a here)) c h.2)
      ∙ ap (λ u. for_loop a b c u)
      (ap₃ (λ u v w. put_statement (past_one u (past_one v (past_one w here))) (bare_statement s)) (bare_maybe_tokens [] c) (bare_maybe_tokens [] b) (bare_maybe_tokens [] a) ∙ restored_statement (behind_one c (behind_one b (behind_one a here))) s h.3)
  restored_statement_form at (goto_name n) h = refl
  restored_statement_form at continue_loop h = refl
  restored_statement_form at break_out h = refl
  restored_statement_form at (return_value e) h = ap (λ u. return_value u) (restored_maybe (behind 1 at) e h)

  restored_else : (at : ℕ → Place) (x : MaybeStatement) → PlacedElse at x → put_else at (bare_else x) ≡ x
  restored_else at no_statement h = refl
  restored_else at (some_statement s) h = ap (λ u. some_statement u) (restored_statement (behind 1 at) s h)

  restored_statements : (at : ℕ → Place) (x : Statements) → PlacedStatements at x → put_statements at (bare_statements x) ≡ x
  restored_statements at no_statements h = refl
  restored_statements at (next_statement s ss) h = ap₂ (λ u v. next_statement u v) (restored_statement at s h.0) (ap (λ u. put_statements (past u at) (bare_statements ss)) (bare_statement_tokens s) ∙ restored_statements (past (statement_tokens s) at) ss h.1)

restored_external : (at : ℕ → Place) (x : External) → PlacedExternal at x → put_external at (bare_external x) ≡ x
restored_external at (definition ss d s) h =
    ap₃ (λ u v w. definition u v w) (restored_specifiers at ss h.0)
    (ap (λ u. put_declarator (past u at) (bare_declarator d)) (bare_specifiers_tokens ss) ∙ restored_declarator (past (specifiers_tokens ss) at) d h.1)
    (ap₂ (λ u v. put_statement (past u (past v at)) (bare_statement s)) (bare_declarator_tokens d) (bare_specifiers_tokens ss) ∙ restored_statement (past (declarator_tokens d) (past (specifiers_tokens ss) at)) s h.2)
restored_external at (external_declaration d) h = ap (λ u. external_declaration u) (restored_declaration at d h)
restored_external at semicolon h = refl

pub restored_unit : (at : ℕ → Place) (x : List External) → PlacedUnit at x → put_unit at (bare_unit x) ≡ x
restored_unit at [] h = refl
restored_unit at (e ∷ es) h = ap₂ (λ u v. u ∷ v) (restored_external at e h.0) (ap (λ u. put_unit (past u at) (bare_unit es)) (bare_external_tokens e) ∙ restored_unit (past (external_tokens e) at) es h.1)
