-- Expressions, specifiers and declarators are read from their tokens, as parts of declarations and statements.
use Rattle.std.proofs.Common.{◌≡◌, ℕ, ◌+◌, ◌<◌, ◌≤◌, Bool, true, false, List, [], ◌∷◌, ◌++◌, Some, refl, sym, ap, ◌∙◌, arith, append_assoc}
use Rattle.std.specs.Prelude.{is_some}
use Rattle.sp_tree.specs.declared.token.Kind.TheVariants as kinds
use Rattle.sp_tree.specs.declared.token.Punct.TheVariants as puncts
use Rattle.sp_parse_trees.specs.Syntax as syntax
use Rattle.sp_parse_trees.specs.Syntax.{Expression, MaybeExpression, no_expression, some_expression, Specifiers, Declarator, declarator}
use Rattle.sp_parse_trees.specs.Spelling.{tokens_of, maybe_tokens, specifiers_tokens, declarator_tokens, params_tokens, dots_tokens}
use Rattle.sp_parse_trees.specs.Levels.{level, is_specifier_list, may_declare, declared_name, IsLevelled, IsLevelledMaybe, AreLevelledSpecifiers, IsLevelledDeclarator}
use Rattle.sp_parse_trees.specs.View as view
use Rattle.sp_parse_grammar.specs.CTokens as tokens
use Rattle.sp_parse_grammar.specs.CTokens.{Sort, Seen, view as viewed, is_mark, looseness, is_declaring, nothing_seen, add}
use Rattle.sp_parse_grammar.specs.CTable as grammar
use Rattle.sp_parse_grammar.specs.CTable.{Context, ItemAnswer, at, begins_expression, begins_items, begins_specifiers, IsBehindSpecifiers}
use Rattle.sp_parse_grammar.specs.Table.{ask}
use Rattle.sp_parse_grammar.proofs.Readings.{at_tokens, at_rest}
use Rattle.sp_parse_grammar.proofs.CChecked.{if_true}
use Rattle.sp_parse_tokens.specs.Sorts.{Terminal}
use Rattle.sp_parse_tokens.specs.Makers as make
use Rattle.sp_parse_tokens.specs.Depths.{Part}
use Rattle.sp_parse_laws.specs.Spelled.{kinds_at}
use Rattle.sp_parse_laws.specs.Bare.{bare, bare_maybe, bare_specifiers, bare_declarator}
use Rattle.sp_parse_laws.proofs.BareAnswers.{Bare, bare_of}
use Rattle.sp_parse_laws.proofs.Completing.{head, Reading}
use Rattle.sp_parse_laws.proofs.CompleteExpressions.{name_sort}
use Rattle.sp_parse_laws.proofs.CompleteParts.{Next}
use Rattle.sp_parse_laws.proofs.CompleteSpecifiers.{from_nothing}
use Rattle.sp_parse_laws.proofs.CompleteTrees.{complete, begins, specifiers_of, declarator_of, of_list}
use Rattle.sp_parse_laws.proofs.LevelledAnswers.{scope_of}
use Rattle.sp_parse_laws.proofs.Steps.{PlanRead, IsRead, next_kind, next_before, last_part, finished, from_first, none_read}

-- a reading up to a next token, as a step
stepped : (g : Context) (i : Part) (m : Bare i) (ws rest : List Terminal) (F : Sort → Type 0) (n : Next g F rest) → Reading g i m (ws ++ n.first ∷ n.rest) (n.first ∷ n.rest) → PlanRead {m = at g i} (ask (at g i)) (λ a. bare_of i a ≡ m) (ws ++ rest) rest
stepped g i m ws rest F n r = record { answer = r.answer; read = at_tokens (ap (λ v. ws ++ v) (sym n.whole)) (at_rest (sym n.whole) r.read); holds = r.alike }

-- ---- expressions

pub expression_read : (g : Context) (k : ℕ) (e : Expression) → k ≤ 13 → 13 ≤ k + level e → IsLevelled (scope_of g) e → IsRead g (grammar.level k) (λ s. k < looseness s) (tokens_of e) (λ o. bare o.tree ≡ bare e)
expression_read g k e small high h = record {
  read = λ ws rest is n.
      let r = (complete g e h).levels k small high ws n.first n.rest is n.holds in
      record { answer = r.answer; read = at_tokens (ap (λ v. ws ++ v) (sym n.whole)) (at_rest (sym n.whole) r.read); holds = r.alike };
}

pub expression_first : (g : Context) (e : Expression) → IsLevelled (scope_of g) e → (ws rest : List Terminal) → kinds_at ws ≡ tokens_of e → Next g (λ s. begins_expression s ≡ true) (ws ++ rest)
expression_first g e h ws rest is =
    let b = begins g e h ws is in
    record { first = b.first; rest = b.rest ++ rest; whole = ap (λ v. v ++ rest) b.whole; holds = b.begins }

-- one that may be missing
pub maybe_read : (g : Context) (v : MaybeExpression) → IsLevelledMaybe (scope_of g) 0 v → IsRead g grammar.optional_expression (λ s. (begins_expression s ≡ false) × (13 < looseness s)) (maybe_tokens [] v) (λ o. bare_maybe (view.maybe_expression o) ≡ bare_maybe v)
maybe_read g no_expression h = none_read g grammar.optional_expression (λ s. (begins_expression s ≡ false) × (13 < looseness s)) (λ o. bare_maybe (view.maybe_expression o) ≡ no_expression) refl (λ s f. f) refl
maybe_read g (some_expression e) h = record {
  read = λ ws rest is n.
      from_first (ws ++ rest) rest (expression_first g e h.1 ws rest is) (λ x s b. if_true (begins_expression s) _ _ b)
      (last_part ws rest rest (expression_read g 13 e (omega arith) (omega arith) h.1) is (record { first = n.first; rest = n.rest; whole = n.whole; holds = n.holds.1 })
      (λ o same. finished (Some o.tree) rest (ap (λ v. some_expression v) same)));
}

-- ---- specifiers

pub specifiers_read : (g : Context) (ss : Specifiers) → is_specifier_list ss ≡ true → may_declare (scope_of g) ss ≡ true → AreLevelledSpecifiers (scope_of g) ss → IsRead g (grammar.specifiers true nothing_seen grammar.no_specifiers) IsBehindSpecifiers (specifiers_tokens ss) (λ o. bare_specifiers (make.all_specifiers o.all) ≡ bare_specifiers ss)
specifiers_read g ss list declare each = record {
  read = λ ws rest is n.
      let here = from_nothing g true ss list (λ e. absurd cc) declare in
      stepped g (grammar.specifiers true nothing_seen grammar.no_specifiers) (bare_specifiers ss) ws rest IsBehindSpecifiers n ((specifiers_of g ss each 0 [] (of_list ss list)).read true nothing_seen 0 [] grammar.no_specifiers here ws n.first n.rest is n.holds);
}

pub specifiers_first : (g : Context) (ss : Specifiers) → is_specifier_list ss ≡ true → may_declare (scope_of g) ss ≡ true → AreLevelledSpecifiers (scope_of g) ss → (ws rest : List Terminal) → kinds_at ws ≡ specifiers_tokens ss → Next g (λ s. begins_specifiers true g.inside s ≡ true) (ws ++ rest)
specifiers_first g ss list declare each ws rest is =
    (specifiers_of g ss each 0 [] (of_list ss list)).begins true nothing_seen 0 [] (from_nothing g true ss list (λ e. absurd cc) declare) refl ws rest is

-- ---- declarators of a name

pub declarator_read : (g : Context) (d : Declarator) → is_some (declared_name d) ≡ true → IsLevelledDeclarator (scope_of g) d → IsRead g (grammar.declarator grammar.concrete) (λ s. is_declaring s ≡ false) (declarator_tokens d) (λ o. bare_declarator o.tree ≡ bare_declarator d)
declarator_read g d named h = record {
  read = λ ws rest is n. stepped g (grammar.declarator grammar.concrete) (bare_declarator d) ws rest (λ s. is_declaring s ≡ false) n ((declarator_of g d h).whole grammar.concrete named ws n.first n.rest is n.holds);
}

-- it begins with a name, a `*` or a `(`
pub declarator_first : (g : Context) (d : Declarator) → is_some (declared_name d) ≡ true → IsLevelledDeclarator (scope_of g) d → (ws rest : List Terminal) → kinds_at ws ≡ declarator_tokens d → Next g (λ s. begins_items s ≡ true) (ws ++ rest)
declarator_first g (declarator syntax.absent p) named h ws rest is = absurd cc
declarator_first g (declarator (syntax.declared n) p) named h ws rest is =
    let x = head ws (kinds.Name n) [] is in
    record { first = x.first; rest = x.rest ++ rest; whole = ap (λ v. v ++ rest) x.whole; holds = ap begins_items (name_sort g.types x.first n x.first_is h) }
declarator_first g (declarator (syntax.group d) p) named h ws rest is = next_kind g (λ s. begins_items s ≡ true) (kinds.Mark puncts.LeftParenthesis) _ ws rest refl is
declarator_first g (declarator (syntax.pointer ks d) p) named h ws rest is = next_kind g (λ s. begins_items s ≡ true) (kinds.Mark puncts.Star) _ ws rest refl is
declarator_first g (declarator (syntax.array d e) p) named h ws rest is =
    next_before g (λ s. begins_items s ≡ true) (declarator_tokens d) (kinds.Mark puncts.LeftBracket ∷ (maybe_tokens [] e ++ kinds.Mark puncts.RightBracket ∷ [])) ws rest (λ us more f. declarator_first g d named h.1 us more f) (is ∙ append_assoc (declarator_tokens d) (kinds.Mark puncts.LeftBracket ∷ maybe_tokens [] e) (kinds.Mark puncts.RightBracket ∷ []))
declarator_first g (declarator (syntax.function d ps dots) p) named h ws rest is =
    let same : ((declarator_tokens d ++ kinds.Mark puncts.LeftParenthesis ∷ params_tokens [] ps) ++ dots_tokens dots) ++ kinds.Mark puncts.RightParenthesis ∷ [] ≡ declarator_tokens d ++ kinds.Mark puncts.LeftParenthesis ∷ ((params_tokens [] ps ++ dots_tokens dots) ++ kinds.Mark puncts.RightParenthesis ∷ []) = simp append_assoc refl in
    next_before g (λ s. begins_items s ≡ true) (declarator_tokens d) _ ws rest (λ us more f. declarator_first g d named h.1 us more f) (is ∙ same)

-- ---- what a first token is not

pub items_stop_specifiers : (s : Sort) → begins_items s ≡ true → IsBehindSpecifiers s
items_stop_specifiers (tokens.name n) e = (refl, refl)
items_stop_specifiers (tokens.mark tokens.star) e = (refl, refl)
items_stop_specifiers (tokens.mark tokens.opening) e = (refl, refl)
items_stop_specifiers _ e = absurd cc

pub items_no_semicolon : (s : Sort) → begins_items s ≡ true → is_mark tokens.semicolon s ≡ false
items_no_semicolon (tokens.name n) e = refl
items_no_semicolon (tokens.mark tokens.star) e = refl
items_no_semicolon (tokens.mark tokens.opening) e = refl
items_no_semicolon _ e = absurd cc

pub specifiers_no_semicolon : (inside : Bool) (s : Sort) → begins_specifiers true inside s ≡ true → is_mark tokens.semicolon s ≡ false
specifiers_no_semicolon inside (tokens.mark tokens.semicolon) e = absurd cc
specifiers_no_semicolon inside _ e = refl

pub expression_no_brace : (s : Sort) → begins_expression s ≡ true → is_mark tokens.brace s ≡ false
expression_no_brace (tokens.mark tokens.brace) e = absurd cc
expression_no_brace _ e = refl
