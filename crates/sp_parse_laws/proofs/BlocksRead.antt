-- Lists of statements, blocks and so each levelled statement are read from their tokens.
use Rattle.std.proofs.Common.{◌≡◌, Bool, true, false, List, [], ◌∷◌, ◌++◌, refl, ap, ap₂, ◌∙◌, append_assoc}
use Rattle.std.specs.Prelude.{if◌then◌else◌, ◌||◌}
use Rattle.sp_tree.specs.declared.token.Keyword.TheVariants as words
use Rattle.sp_tree.specs.declared.token.Kind.TheVariants as kinds
use Rattle.sp_tree.specs.declared.token.Punct.TheVariants as puncts
use Rattle.sp_parse_trees.specs.Syntax as syntax
use Rattle.sp_parse_trees.specs.Syntax.{Declarations, Statement, statement, MaybeStatement, no_statement, some_statement, Statements, no_statements, next_statement}
use Rattle.sp_parse_trees.specs.Spelling.{tokens_of, declarations_tokens, statement_tokens, statements_tokens}
use Rattle.sp_parse_trees.specs.Levels.{IsLevelledStatement, IsLevelledElse, AreLevelledStatements, AreLevelledDeclarations}
use Rattle.sp_parse_grammar.specs.CTokens as tokens
use Rattle.sp_parse_grammar.specs.CTokens.{Sort, view as viewed, is_mark}
use Rattle.sp_parse_grammar.specs.CTable as grammar
use Rattle.sp_parse_grammar.specs.CTable.{Context, begins_expression, begins_other, begins_specifiers}
use Rattle.sp_parse_grammar.proofs.CChecked.{if_true}
use Rattle.sp_parse_tokens.specs.Makers as make
use Rattle.sp_parse_tokens.specs.Sorts.{Terminal}
use Rattle.sp_parse_tokens.specs.SyntaxTrees.{syntax_trees}
use Rattle.sp_parse_laws.specs.Spelled.{kinds_at}
use Rattle.sp_parse_laws.specs.Bare.{bare_declarations}
use Rattle.sp_parse_laws.proofs.CompleteParts.{Next}
use Rattle.sp_parse_laws.proofs.LevelledAnswers.{scope_of}
use Rattle.sp_parse_laws.specs.BareUnits.{bare_statement, bare_statements}
use Rattle.sp_parse_laws.proofs.Steps.{IsRead, next_kind, next_none, next_maps, next_before, part, last_part, mark, finish, finished, begun, from_first, none_read}
use Rattle.sp_parse_laws.proofs.PartsRead.{expression_first}
use Rattle.sp_parse_laws.proofs.DeclarationsRead.{declarations_read}
use Rattle.sp_parse_laws.proofs.StatementsRead.{unplaced, MayStand, StatementRead, ElseRead, label_read, case_read, default_read, empty_read, goto_read, continue_read, break_read, return_read, of_read, switch_read, while_read, do_read, for_read, no_else_read, else_read, if_read}

-- ---- the first token of a statement

abbrev pub begins_statement : Sort → Bool
begins_statement s = begins_expression s || begins_other s

or_first : (a b : Bool) → a ≡ true → a || b ≡ true
or_first true b e = refl
or_first false b e = absurd cc

pub statement_no_else : (s : Sort) → begins_statement s ≡ true → is_mark tokens.else_word s ≡ false
statement_no_else (tokens.mark tokens.else_word) e = absurd cc
statement_no_else _ e = refl

statement_no_specifier : (inside : Bool) (s : Sort) → begins_statement s ≡ true → begins_specifiers true inside s ≡ false
statement_no_specifier inside (tokens.named_type n) e = absurd cc
statement_no_specifier inside tokens.storage e = absurd cc
statement_no_specifier inside tokens.qualifier e = absurd cc
statement_no_specifier inside (tokens.basic w) e = absurd cc
statement_no_specifier inside (tokens.mark tokens.struct) e = absurd cc
statement_no_specifier inside (tokens.mark tokens.enum) e = absurd cc
statement_no_specifier inside (tokens.mark tokens.typedef) e = absurd cc
statement_no_specifier inside _ e = refl

abbrev Begins : Sort → Type 0
Begins s = begins_statement s ≡ true

pub statement_first : (g : Context) (t : Statement) → IsLevelledStatement (scope_of g) t → (ws rest : List Terminal) → kinds_at ws ≡ statement_tokens t → Next g (λ s. begins_statement s ≡ true) (ws ++ rest)
statement_first g (statement (syntax.label n t) p z) h ws rest e = next_kind g Begins (kinds.Name n) _ ws rest (ap (λ b. begins_statement (if b then tokens.named_type n else tokens.name n)) h.0) e
statement_first g (statement (syntax.case_label c t) p z) h ws rest e = next_kind g Begins (kinds.Word words.Case) _ ws rest refl e
statement_first g (statement (syntax.default_label t) p z) h ws rest e = next_kind g Begins (kinds.Word words.Default) _ ws rest refl e
statement_first g (statement (syntax.block ds ss) p z) h ws rest e = next_kind g Begins (kinds.Mark puncts.LeftBrace) _ ws rest refl e
statement_first g (statement syntax.empty p z) h ws rest e = next_kind g Begins (kinds.Mark puncts.Semicolon) _ ws rest refl e
statement_first g (statement (syntax.of c) p z) h ws rest e = next_before g Begins (tokens_of c) _ ws rest (λ us more f. next_maps g (λ s. begins_expression s ≡ true) Begins (us ++ more) (λ s b. or_first (begins_expression s) (begins_other s) b) (expression_first g c h us more f)) e
statement_first g (statement (syntax.if_else c t other) p z) h ws rest e = next_kind g Begins (kinds.Word words.If) _ ws rest refl e
statement_first g (statement (syntax.switch_on c t) p z) h ws rest e = next_kind g Begins (kinds.Word words.Switch) _ ws rest refl e
statement_first g (statement (syntax.while_loop c t) p z) h ws rest e = next_kind g Begins (kinds.Word words.While) _ ws rest refl e
statement_first g (statement (syntax.do_loop t c) p z) h ws rest e = next_kind g Begins (kinds.Word words.Do) _ ws rest refl e
statement_first g (statement (syntax.for_loop a b c t) p z) h ws rest e = next_kind g Begins (kinds.Word words.For) _ ws rest refl e
statement_first g (statement (syntax.goto_name n) p z) h ws rest e = next_kind g Begins (kinds.Word words.Goto) _ ws rest refl e
statement_first g (statement syntax.continue_loop p z) h ws rest e = next_kind g Begins (kinds.Word words.Continue) _ ws rest refl e
statement_first g (statement syntax.break_out p z) h ws rest e = next_kind g Begins (kinds.Word words.Break) _ ws rest refl e
statement_first g (statement (syntax.return_value v) p z) h ws rest e = next_kind g Begins (kinds.Word words.Return) _ ws rest refl e

-- ---- lists

-- the bare statements of a list, before others
abbrev pub before_statements : List Statement → Statements → Statements
before_statements [] m = m
before_statements (s ∷ ss) m = next_statement (bare_statement s) (before_statements ss m)

no_statement_behind : (ss : List Statement) → bare_statements (make.all_statements ss) ≡ before_statements ss no_statements
no_statement_behind [] = refl
no_statement_behind (s ∷ ss) = ap (λ v. next_statement (bare_statement s) v) (no_statement_behind ss)

statement_behind : (ss : List Statement) (s : Statement) (m : Statements) → before_statements (ss ++ s ∷ []) m ≡ before_statements ss (next_statement (bare_statement s) m)
statement_behind [] s m = refl
statement_behind (x ∷ ss) s m = ap (λ v. next_statement (bare_statement x) v) (statement_behind ss s m)

-- a list of statements ends
abbrev pub IsBehindStatements : Sort → Type 0
IsBehindStatements s = (begins_statement s ≡ false) × (is_mark tokens.else_word s ≡ false)

abbrev pub StatementsRead : Context → Statements → Type 0
StatementsRead g ms = (ss : List Statement) → IsRead g (grammar.statements ss) IsBehindStatements (statements_tokens ms) (λ o. bare_statements (make.all_statements o) ≡ before_statements ss (bare_statements ms))

-- what is behind a statement of a list
next_of_list : (g : Context) (ms : Statements) → AreLevelledStatements (scope_of g) ms → (t : Statement) (vs rest : List Terminal) → kinds_at vs ≡ statements_tokens ms → Next g IsBehindStatements rest → Next g (MayStand t) (vs ++ rest)
next_of_list g no_statements h t vs rest e n = next_none g (MayStand t) vs rest e (next_maps g IsBehindStatements (MayStand t) rest (λ s f b. absurd (let no = f.1 in cc)) n)
next_of_list g (next_statement m ms) h t vs rest e n =
    next_maps g Begins (MayStand t) (vs ++ rest) (λ s f b. absurd (let no = statement_no_else s f in cc))
    (next_before g Begins (statement_tokens m) (statements_tokens ms) vs rest (λ us more f. statement_first g m h.0 us more f) e)

one_more : (g : Context) (m : Statement) (ms : Statements) → IsLevelledStatement (scope_of g) m → AreLevelledStatements (scope_of g) ms → StatementRead g m → StatementsRead g ms → StatementsRead g (next_statement m ms)
one_more g m ms level levels inner more ss = record {
  read = λ ws rest e n.
      from_first (ws ++ rest) rest (next_before g Begins (statement_tokens m) (statements_tokens ms) ws rest (λ us others f. statement_first g m level us others f) e) (λ x s f. if_true (begins_expression s || begins_other s) _ _ f)
      (part (statement_tokens m) (statements_tokens ms) ws rest rest inner e (λ vs e1. next_of_list g ms levels m vs rest e1 n) (λ o vs same e1.
      last_part vs rest rest (more (ss ++ o ∷ [])) e1 n (λ p alike.
      finished p rest (alike ∙ statement_behind ss o (bare_statements ms) ∙ ap (λ v. before_statements ss (next_statement v (bare_statements ms))) same))));
}

no_more : (g : Context) → StatementsRead g no_statements
no_more g ss = none_read g (grammar.statements ss) IsBehindStatements (λ o. bare_statements (make.all_statements o) ≡ before_statements ss no_statements) refl (λ s f. f) (no_statement_behind ss)

-- ---- blocks

-- what is behind the declarations of a block
pub behind_declarations : (g : Context) (ms : Statements) → AreLevelledStatements (scope_of g) ms → (vs rest : List Terminal) → kinds_at vs ≡ statements_tokens ms ++ kinds.Mark puncts.RightBrace ∷ [] → Next g (λ s. begins_specifiers true g.inside s ≡ false) (vs ++ rest)
behind_declarations g no_statements h vs rest e = next_kind g (λ s. begins_specifiers true g.inside s ≡ false) (kinds.Mark puncts.RightBrace) [] vs rest refl e
behind_declarations g (next_statement m ms) h vs rest e =
    next_maps g Begins (λ s. begins_specifiers true g.inside s ≡ false) (vs ++ rest) (λ s f. statement_no_specifier g.inside s f)
    (next_before g Begins (statement_tokens m) _ vs rest (λ us more f. statement_first g m h.0 us more f) (e ∙ append_assoc (statement_tokens m) (statements_tokens ms) (kinds.Mark puncts.RightBrace ∷ [])))

block_read : (g : Context) (F : Sort → Type 0) (ds : Declarations) (ms : Statements) → AreLevelledDeclarations (scope_of g) ds → AreLevelledStatements (scope_of g) ms → StatementsRead g ms
    → IsRead g grammar.statement F (kinds.Mark puncts.LeftBrace ∷ ((declarations_tokens ds ++ statements_tokens ms) ++ kinds.Mark puncts.RightBrace ∷ [])) (λ o. bare_statement o ≡ unplaced (syntax.block (bare_declarations ds) (bare_statements ms)))
block_read g F ds ms level levels inner = record {
  read = λ ws rest e n.
      begun (kinds.Mark puncts.LeftBrace) _ (tokens.mark tokens.brace) ws rest rest e refl (λ x. refl) (λ x vs k e1.
      part (declarations_tokens ds) (statements_tokens ms ++ kinds.Mark puncts.RightBrace ∷ []) vs rest rest (declarations_read g ds level []) (e1 ∙ append_assoc (declarations_tokens ds) (statements_tokens ms) (kinds.Mark puncts.RightBrace ∷ [])) (λ us e2. behind_declarations g ms levels us rest e2) (λ es us first e2.
      part (statements_tokens ms) (kinds.Mark puncts.RightBrace ∷ []) us rest rest (inner []) e2 (λ ts e3. next_kind g IsBehindStatements (kinds.Mark puncts.RightBrace) [] ts rest (refl, refl) e3) (λ ss ts second e3.
      mark (kinds.Mark puncts.RightBrace) [] ts rest rest e3 refl (λ z us k1 e4. finish (syntax_trees.block x es ss z) us rest e4 (ap₂ (λ u v. unplaced (syntax.block u v)) first second)))));
}

-- ---- all statements

mutual
  pub statement_read : (g : Context) (t : Statement) → IsLevelledStatement (scope_of g) t → StatementRead g t
  statement_read g (statement (syntax.label n t) p z) h = label_read g n t h.0 (statement_read g t h.1)
  statement_read g (statement (syntax.case_label e t) p z) h = case_read g e t h.0 h.1 (statement_read g t h.2)
  statement_read g (statement (syntax.default_label t) p z) h = default_read g t (statement_read g t h)
  statement_read g (statement (syntax.block ds ss) p z) h = block_read g _ ds ss h.0 h.1 (statements_read g ss h.1)
  statement_read g (statement syntax.empty p z) h = empty_read g _
  statement_read g (statement (syntax.of e) p z) h = of_read g _ e h
  statement_read g (statement (syntax.if_else e t other) p z) h = if_read g e t other h.0 (statement_read g t h.1) h.2 (else_part_read g other h.3)
  statement_read g (statement (syntax.switch_on e t) p z) h = switch_read g e t h.0 (statement_read g t h.1)
  statement_read g (statement (syntax.while_loop e t) p z) h = while_read g e t h.0 (statement_read g t h.1)
  statement_read g (statement (syntax.do_loop t e) p z) h = do_read g _ t e h.1 (statement_read g t h.0)
  statement_read g (statement (syntax.for_loop a b c t) p z) h = for_read g a b c t h.0 h.1 h.2 (statement_read g t h.3)
  statement_read g (statement (syntax.goto_name n) p z) h = goto_read g _ n
  statement_read g (statement syntax.continue_loop p z) h = continue_read g _
  statement_read g (statement syntax.break_out p z) h = break_read g _
  statement_read g (statement (syntax.return_value v) p z) h = return_read g _ v h

  else_part_read : (g : Context) (other : MaybeStatement) → IsLevelledElse (scope_of g) other → ElseRead g other
  else_part_read g no_statement h = no_else_read g
  else_part_read g (some_statement t) h = else_read g t (statement_read g t h)

  pub statements_read : (g : Context) (ms : Statements) → AreLevelledStatements (scope_of g) ms → StatementsRead g ms
  statements_read g no_statements h = no_more g
  statements_read g (next_statement m ms) h = one_more g m ms h.0 h.1 (statement_read g m h.0) (statements_read g ms h.1)
