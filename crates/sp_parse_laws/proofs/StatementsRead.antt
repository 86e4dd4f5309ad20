-- Each form of statement is read from its tokens, given that its parts are (C90 6.6).
--
-- Before an `else` it is read only where it doesn't end open: else the `else` would be its own.
use Rattle.std.proofs.Common.{◌≡◌, ℕ, ◌<◌, ◌≤◌, Bool, true, false, List, [], ◌∷◌, ◌++◌, Some, refl, sym, ap, ap₂, ◌∙◌, arith, append_assoc}
use Rattle.std.specs.Prelude.{if◌then◌else◌, ◌==◌}
use Rattle.std.specs.List.{list_any}
use Rattle.sp_tree.specs.declared.token.Keyword.TheVariants as words
use Rattle.sp_tree.specs.declared.token.Kind.{Kind}
use Rattle.sp_tree.specs.declared.token.Kind.TheVariants as kinds
use Rattle.sp_tree.specs.declared.token.Punct.TheVariants as puncts
use Rattle.sp_parse_trees.specs.Syntax as syntax
use Rattle.sp_parse_trees.specs.Syntax.{Expression, MaybeExpression, Declarations, Statement, StatementForm, statement, MaybeStatement, no_statement, some_statement, Statements}
use Rattle.sp_parse_trees.specs.Spelling.{tokens_of, maybe_tokens, statement_tokens, else_tokens}
use Rattle.sp_parse_trees.specs.Levels.{level, ends_open, else_ends_open, has_else, IsLevelled, IsLevelledMaybe}
use Rattle.sp_parse_grammar.specs.CTokens as tokens
use Rattle.sp_parse_grammar.specs.CTokens.{Sort, view as viewed, is_mark, looseness}
use Rattle.sp_parse_grammar.specs.CTable as grammar
use Rattle.sp_parse_grammar.specs.CTable.{Context, Operand, begins_expression, begins_specifiers}
use Rattle.sp_parse_grammar.specs.Table.{read_done, read_take}
use Rattle.sp_parse_grammar.proofs.Readings.{join, at_tokens}
use Rattle.sp_parse_tokens.specs.Makers as make
use Rattle.sp_parse_tokens.specs.Sorts.{Terminal, nowhere, sort_of}
use Rattle.sp_parse_tokens.specs.SyntaxTrees.{syntax_trees}
use Rattle.sp_parse_laws.specs.Spelled.{kinds_at}
use Rattle.sp_parse_laws.specs.Bare.{bare, bare_maybe}
use Rattle.sp_parse_laws.proofs.BareTrees.{ap₃}
use Rattle.sp_parse_laws.proofs.Completing.{between, sort_at, mark_taken, Read, chosen}
use Rattle.sp_parse_laws.proofs.CompleteExpressions.{none_left}
use Rattle.sp_parse_laws.proofs.CompleteParts.{Next}
use Rattle.sp_parse_laws.proofs.CompleteTrees.{begins}
use Rattle.sp_parse_laws.proofs.LevelledAnswers.{scope_of}
use Rattle.sp_parse_laws.specs.BareUnits.{bare_statement, bare_else}
use Rattle.sp_parse_laws.proofs.Steps.{IsRead, next_kind, next_none, next_maps, part, last_part, token, mark, finish, finished, begun, none_read}
use Rattle.sp_parse_laws.proofs.PartsRead.{expression_read, maybe_read}
use Rattle.sp_parse_laws.proofs.NamesRead.{named_statement}

abbrev pub unplaced : StatementForm → Statement
unplaced f = statement f nowhere nowhere

-- before an `else` it doesn't end open
abbrev pub MayStand : Statement → Sort → Type 0
MayStand t s = is_mark tokens.else_word s ≡ true → ends_open t ≡ false

abbrev pub StatementRead : Context → Statement → Type 0
StatementRead g t = IsRead g grammar.statement (MayStand t) (statement_tokens t) (λ o. bare_statement o ≡ bare_statement t)

-- the same of the branches of an `if`
abbrev pub MayStandBehind : MaybeStatement → Sort → Type 0
MayStandBehind other s = is_mark tokens.else_word s ≡ true → else_ends_open other ≡ false

abbrev pub ElseRead : Context → MaybeStatement → Type 0
ElseRead g other = IsRead g grammar.else_part (MayStandBehind other) (else_tokens other) (λ o. bare_else (make.some_statement o) ≡ bare_else other)

no_else : (b : Bool) → (b ≡ true → true ≡ false) → b ≡ false
no_else true f = f refl
no_else false f = refl

-- no expression begins, and no operator goes on
abbrev MayEnd : Sort → Type 0
MayEnd s = (begins_expression s ≡ false) × (13 < looseness s)

-- what is behind each `;` of a `for`
abbrev behind_second : MaybeExpression → Statement → List Kind
behind_second c t = maybe_tokens [] c ++ kinds.Mark puncts.RightParenthesis ∷ statement_tokens t

abbrev behind_first : MaybeExpression → MaybeExpression → Statement → List Kind
behind_first b c t = maybe_tokens [] b ++ kinds.Mark puncts.Semicolon ∷ behind_second c t

module _ (g : Context) where
  -- an expression, before a mark behind which no operator goes on
  whole_expression : (e : Expression) → IsLevelled (scope_of g) e → IsRead g (grammar.level 13) (λ s. 13 < looseness s) (tokens_of e) (λ o. bare o.tree ≡ bare e)
  whole_expression e h = expression_read g 13 e (omega arith) (omega arith) h

  -- ---- labels

  pub label_read : (n : ℕ) (t : Statement) → list_any (λ m. m == n) g.types ≡ false → StatementRead g t → IsRead g grammar.statement (MayStand t) (kinds.Name n ∷ kinds.Mark puncts.Colon ∷ statement_tokens t) (λ o. bare_statement o ≡ unplaced (syntax.label n (bare_statement t)))
  label_read n t free inner = record {
    read = λ ws rest e next.
        begun (kinds.Name n) (kinds.Mark puncts.Colon ∷ statement_tokens t) (tokens.name n) ws rest rest e (ap (λ b. if b then tokens.named_type n else tokens.name n) free) (λ x. refl) (λ x vs k e1.
        last_part vs rest rest (behind x k) e1 next (λ o h. finished o rest h));
  }
    where
      behind : (x : Terminal) → x.what.kind ≡ kinds.Name n → IsRead g (grammar.behind_name x) (MayStand t) (kinds.Mark puncts.Colon ∷ statement_tokens t) (λ o. bare_statement o ≡ unplaced (syntax.label n (bare_statement t)))
      behind x k = record {
        read = λ ws rest e next.
            begun (kinds.Mark puncts.Colon) (statement_tokens t) (tokens.mark tokens.colon) ws rest rest e refl (λ y. refl) (λ y vs k1 e1.
            last_part vs rest rest inner e1 next (λ o same. finished (syntax_trees.label x o) rest (ap₂ (λ u v. unplaced (syntax.label (make.number_of u) v)) k same)));
      }

  pub case_read : (e : Expression) (t : Statement) → 2 ≤ level e → IsLevelled (scope_of g) e → StatementRead g t → IsRead g grammar.statement (MayStand t) (kinds.Word words.Case ∷ (tokens_of e ++ kinds.Mark puncts.Colon ∷ statement_tokens t)) (λ o. bare_statement o ≡ unplaced (syntax.case_label (bare e) (bare_statement t)))
  case_read e t high h inner = record {
    read = λ ws rest is next.
        begun (kinds.Word words.Case) (tokens_of e ++ kinds.Mark puncts.Colon ∷ statement_tokens t) (tokens.mark tokens.case) ws rest rest is refl (λ x. refl) (λ x vs k e1.
        part (tokens_of e) (kinds.Mark puncts.Colon ∷ statement_tokens t) vs rest rest (expression_read g 11 e (omega arith) (omega (arith, high)) h) e1 (λ us e2. next_kind g (λ s. 11 < looseness s) (kinds.Mark puncts.Colon) (statement_tokens t) us rest (omega arith) e2) (λ o us same e2.
        mark (kinds.Mark puncts.Colon) (statement_tokens t) us rest rest e2 refl (λ z ts k1 e3.
        last_part ts rest rest inner e3 next (λ b alike. finished (syntax_trees.case x o.tree b) rest (ap₂ (λ u v. unplaced (syntax.case_label u v)) same alike)))));
  }

  pub default_read : (t : Statement) → StatementRead g t → IsRead g grammar.statement (MayStand t) (kinds.Word words.Default ∷ kinds.Mark puncts.Colon ∷ statement_tokens t) (λ o. bare_statement o ≡ unplaced (syntax.default_label (bare_statement t)))
  default_read t inner = record {
    read = λ ws rest is next.
        begun (kinds.Word words.Default) (kinds.Mark puncts.Colon ∷ statement_tokens t) (tokens.mark tokens.default) ws rest rest is refl (λ x. refl) (λ x vs k e1.
        mark (kinds.Mark puncts.Colon) (statement_tokens t) vs rest rest e1 refl (λ z ts k1 e3.
        last_part ts rest rest inner e3 next (λ b alike. finished (syntax_trees.default x b) rest (ap (λ v. unplaced (syntax.default_label v)) alike))));
  }

  -- ---- short statements, which end with a token of their own

  pub empty_read : (F : Sort → Type 0) → IsRead g grammar.statement F (kinds.Mark puncts.Semicolon ∷ []) (λ o. bare_statement o ≡ unplaced syntax.empty)
  empty_read F = record {
    read = λ ws rest is next. begun (kinds.Mark puncts.Semicolon) [] (tokens.mark tokens.semicolon) ws rest rest is refl (λ x. refl) (λ x vs k e1. finish (syntax_trees.empty x) vs rest e1 refl);
  }

  pub goto_read : (F : Sort → Type 0) (n : ℕ) → IsRead g grammar.statement F (kinds.Word words.Goto ∷ kinds.Name n ∷ kinds.Mark puncts.Semicolon ∷ []) (λ o. bare_statement o ≡ unplaced (syntax.goto_name n))
  goto_read F n = record {
    read = λ ws rest is next.
        begun (kinds.Word words.Goto) (kinds.Name n ∷ kinds.Mark puncts.Semicolon ∷ []) (tokens.mark tokens.goto) ws rest rest is refl (λ x. refl) (λ x vs k e1.
        token (kinds.Name n) (kinds.Mark puncts.Semicolon ∷ []) vs rest rest e1 (λ y k1. ap tokens.is_name (sym y.right ∙ ap sort_of k1)) (λ y us k1 e2.
        mark (kinds.Mark puncts.Semicolon) [] us rest rest e2 refl (λ z ts k2 e3. finish (syntax_trees.goto x y z) ts rest e3 (ap (λ v. unplaced (syntax.goto_name (make.number_of v))) k1))));
  }

  pub continue_read : (F : Sort → Type 0) → IsRead g grammar.statement F (kinds.Word words.Continue ∷ kinds.Mark puncts.Semicolon ∷ []) (λ o. bare_statement o ≡ unplaced syntax.continue_loop)
  continue_read F = record {
    read = λ ws rest is next.
        begun (kinds.Word words.Continue) (kinds.Mark puncts.Semicolon ∷ []) (tokens.mark tokens.continue) ws rest rest is refl (λ x. refl) (λ x vs k e1.
        mark (kinds.Mark puncts.Semicolon) [] vs rest rest e1 refl (λ z ts k2 e3. finish (syntax_trees.jump x z) ts rest e3 (ap (λ v. bare_statement (unplaced (if make.is_break v then syntax.break_out else syntax.continue_loop))) k)));
  }

  pub break_read : (F : Sort → Type 0) → IsRead g grammar.statement F (kinds.Word words.Break ∷ kinds.Mark puncts.Semicolon ∷ []) (λ o. bare_statement o ≡ unplaced syntax.break_out)
  break_read F = record {
    read = λ ws rest is next.
        begun (kinds.Word words.Break) (kinds.Mark puncts.Semicolon ∷ []) (tokens.mark tokens.break) ws rest rest is refl (λ x. refl) (λ x vs k e1.
        mark (kinds.Mark puncts.Semicolon) [] vs rest rest e1 refl (λ z ts k2 e3. finish (syntax_trees.jump x z) ts rest e3 (ap (λ v. bare_statement (unplaced (if make.is_break v then syntax.break_out else syntax.continue_loop))) k)));
  }

  pub return_read : (F : Sort → Type 0) (v : MaybeExpression) → IsLevelledMaybe (scope_of g) 0 v → IsRead g grammar.statement F (kinds.Word words.Return ∷ (maybe_tokens [] v ++ kinds.Mark puncts.Semicolon ∷ [])) (λ o. bare_statement o ≡ unplaced (syntax.return_value (bare_maybe v)))
  return_read F v h = record {
    read = λ ws rest is next.
        begun (kinds.Word words.Return) (maybe_tokens [] v ++ kinds.Mark puncts.Semicolon ∷ []) (tokens.mark tokens.return) ws rest rest is refl (λ x. refl) (λ x vs k e1.
        part (maybe_tokens [] v) (kinds.Mark puncts.Semicolon ∷ []) vs rest rest (maybe_read g v h) e1 (λ us e2. next_kind g (λ s. (begins_expression s ≡ false) × (13 < looseness s)) (kinds.Mark puncts.Semicolon) [] us rest (refl, omega arith) e2) (λ o us same e2.
        mark (kinds.Mark puncts.Semicolon) [] us rest rest e2 refl (λ z ts k2 e3. finish (syntax_trees.return x o z) ts rest e3 (ap (λ u. unplaced (syntax.return_value u)) same))));
  }

  -- ---- an expression

  expression_statement : (x : Terminal) (s : Sort) (xs : List Terminal) (o : Operand syntax_trees) (z : Terminal) (zs : List Terminal) → viewed g.types x.sort ≡ s → begins_expression s ≡ true → z.what.kind ≡ kinds.Mark puncts.Semicolon → Read g (grammar.level 13) (x ∷ xs) o (z ∷ zs) → Read g grammar.statement (x ∷ xs) (syntax_trees.of o.tree z) zs
  expression_statement x (tokens.name n) xs o z zs v b k r = named_statement g x n xs o z zs v (mark_taken tokens.semicolon z (kinds.Mark puncts.Semicolon) k refl) (ap (is_mark tokens.colon) (sort_at g.types z (kinds.Mark puncts.Semicolon) k)) r
  expression_statement x tokens.constant xs o z zs v b k r = chosen g grammar.statement x tokens.constant _ xs zs _ v refl (join r (read_take (mark_taken tokens.semicolon z (kinds.Mark puncts.Semicolon) k refl) read_done))
  expression_statement x tokens.text xs o z zs v b k r = chosen g grammar.statement x tokens.text _ xs zs _ v refl (join r (read_take (mark_taken tokens.semicolon z (kinds.Mark puncts.Semicolon) k refl) read_done))
  expression_statement x (tokens.mark tokens.opening) xs o z zs v b k r = chosen g grammar.statement x (tokens.mark tokens.opening) _ xs zs _ v refl (join r (read_take (mark_taken tokens.semicolon z (kinds.Mark puncts.Semicolon) k refl) read_done))
  expression_statement x (tokens.mark tokens.step) xs o z zs v b k r = chosen g grammar.statement x (tokens.mark tokens.step) _ xs zs _ v refl (join r (read_take (mark_taken tokens.semicolon z (kinds.Mark puncts.Semicolon) k refl) read_done))
  expression_statement x (tokens.mark tokens.star) xs o z zs v b k r = chosen g grammar.statement x (tokens.mark tokens.star) _ xs zs _ v refl (join r (read_take (mark_taken tokens.semicolon z (kinds.Mark puncts.Semicolon) k refl) read_done))
  expression_statement x (tokens.mark tokens.ampersand) xs o z zs v b k r = chosen g grammar.statement x (tokens.mark tokens.ampersand) _ xs zs _ v refl (join r (read_take (mark_taken tokens.semicolon z (kinds.Mark puncts.Semicolon) k refl) read_done))
  expression_statement x (tokens.mark tokens.additive) xs o z zs v b k r = chosen g grammar.statement x (tokens.mark tokens.additive) _ xs zs _ v refl (join r (read_take (mark_taken tokens.semicolon z (kinds.Mark puncts.Semicolon) k refl) read_done))
  expression_statement x (tokens.mark tokens.tilde) xs o z zs v b k r = chosen g grammar.statement x (tokens.mark tokens.tilde) _ xs zs _ v refl (join r (read_take (mark_taken tokens.semicolon z (kinds.Mark puncts.Semicolon) k refl) read_done))
  expression_statement x (tokens.mark tokens.sizeof) xs o z zs v b k r = chosen g grammar.statement x (tokens.mark tokens.sizeof) _ xs zs _ v refl (join r (read_take (mark_taken tokens.semicolon z (kinds.Mark puncts.Semicolon) k refl) read_done))
  expression_statement x _ xs o z zs v b k r = absurd cc

  pub of_read : (F : Sort → Type 0) (e : Expression) → IsLevelled (scope_of g) e → IsRead g grammar.statement F (tokens_of e ++ kinds.Mark puncts.Semicolon ∷ []) (λ o. bare_statement o ≡ unplaced (syntax.of (bare e)))
  of_read F e h = record {
    read = λ ws rest is next.
        let c = between ws (tokens_of e) (kinds.Mark puncts.Semicolon) [] is in
        let r = (whole_expression e h).read c.left (c.mark ∷ rest) c.left_is (record { first = c.mark; rest = rest; whole = refl; holds = subst_loose c.mark c.mark_is }) in
        let b = begins g e h c.left c.left_is in
        let whole : ws ++ rest ≡ c.left ++ c.mark ∷ rest = ap (λ v. v ++ rest) c.whole ∙ append_assoc c.left (c.mark ∷ c.right) rest ∙ ap (λ v. c.left ++ c.mark ∷ (v ++ rest)) (none_left c.right c.right_is) in
        let first : c.left ++ c.mark ∷ rest ≡ b.first ∷ (b.rest ++ c.mark ∷ rest) = ap (λ v. v ++ c.mark ∷ rest) b.whole in
        record {
          answer = syntax_trees.of r.answer.tree c.mark;
          read = at_tokens (sym first ∙ sym whole) (expression_statement b.first (viewed g.types b.first.sort) (b.rest ++ c.mark ∷ rest) r.answer c.mark rest refl b.begins c.mark_is (at_tokens first r.read));
          holds = ap (λ v. unplaced (syntax.of v)) r.holds;
        };
  }
    where
      subst_loose : (z : Terminal) → z.what.kind ≡ kinds.Mark puncts.Semicolon → 13 < looseness (viewed g.types z.sort)
      subst_loose z k = let same = ap looseness (sort_at g.types z (kinds.Mark puncts.Semicolon) k) in omega (arith, same)

  -- ---- loops and choices

  pub switch_read : (e : Expression) (t : Statement) → IsLevelled (scope_of g) e → StatementRead g t → IsRead g grammar.statement (MayStand t) (kinds.Word words.Switch ∷ kinds.Mark puncts.LeftParenthesis ∷ (tokens_of e ++ kinds.Mark puncts.RightParenthesis ∷ statement_tokens t)) (λ o. bare_statement o ≡ unplaced (syntax.switch_on (bare e) (bare_statement t)))
  switch_read e t h inner = record {
    read = λ ws rest is next.
        begun (kinds.Word words.Switch) _ (tokens.mark tokens.switch) ws rest rest is refl (λ x. refl) (λ x vs k e1.
        mark (kinds.Mark puncts.LeftParenthesis) (tokens_of e ++ kinds.Mark puncts.RightParenthesis ∷ statement_tokens t) vs rest rest e1 refl (λ y us k1 e2.
        part (tokens_of e) (kinds.Mark puncts.RightParenthesis ∷ statement_tokens t) us rest rest (whole_expression e h) e2 (λ ts e3. next_kind g (λ s. 13 < looseness s) (kinds.Mark puncts.RightParenthesis) (statement_tokens t) ts rest (omega arith) e3) (λ o ts same e3.
        mark (kinds.Mark puncts.RightParenthesis) (statement_tokens t) ts rest rest e3 refl (λ z ps k2 e4.
        last_part ps rest rest inner e4 next (λ b alike. finished (syntax_trees.switch x o.tree b) rest (ap₂ (λ u v. unplaced (syntax.switch_on u v)) same alike))))));
  }

  pub while_read : (e : Expression) (t : Statement) → IsLevelled (scope_of g) e → StatementRead g t → IsRead g grammar.statement (MayStand t) (kinds.Word words.While ∷ kinds.Mark puncts.LeftParenthesis ∷ (tokens_of e ++ kinds.Mark puncts.RightParenthesis ∷ statement_tokens t)) (λ o. bare_statement o ≡ unplaced (syntax.while_loop (bare e) (bare_statement t)))
  while_read e t h inner = record {
    read = λ ws rest is next.
        begun (kinds.Word words.While) _ (tokens.mark tokens.while) ws rest rest is refl (λ x. refl) (λ x vs k e1.
        mark (kinds.Mark puncts.LeftParenthesis) (tokens_of e ++ kinds.Mark puncts.RightParenthesis ∷ statement_tokens t) vs rest rest e1 refl (λ y us k1 e2.
        part (tokens_of e) (kinds.Mark puncts.RightParenthesis ∷ statement_tokens t) us rest rest (whole_expression e h) e2 (λ ts e3. next_kind g (λ s. 13 < looseness s) (kinds.Mark puncts.RightParenthesis) (statement_tokens t) ts rest (omega arith) e3) (λ o ts same e3.
        mark (kinds.Mark puncts.RightParenthesis) (statement_tokens t) ts rest rest e3 refl (λ z ps k2 e4.
        last_part ps rest rest inner e4 next (λ b alike. finished (syntax_trees.while x o.tree b) rest (ap₂ (λ u v. unplaced (syntax.while_loop u v)) same alike))))));
  }

  pub do_read : (F : Sort → Type 0) (t : Statement) (e : Expression) → IsLevelled (scope_of g) e → StatementRead g t
      → IsRead g grammar.statement F (kinds.Word words.Do ∷ ((statement_tokens t ++ kinds.Word words.While ∷ kinds.Mark puncts.LeftParenthesis ∷ tokens_of e) ++ kinds.Mark puncts.RightParenthesis ∷ kinds.Mark puncts.Semicolon ∷ [])) (λ o. bare_statement o ≡ unplaced (syntax.do_loop (bare_statement t) (bare e)))
  do_read F t e h inner = record {
    read = λ ws rest is next.
        begun (kinds.Word words.Do) _ (tokens.mark tokens.do_word) ws rest rest is refl (λ x. refl) (λ x vs k e1.
        part (statement_tokens t) (kinds.Word words.While ∷ kinds.Mark puncts.LeftParenthesis ∷ (tokens_of e ++ kinds.Mark puncts.RightParenthesis ∷ kinds.Mark puncts.Semicolon ∷ [])) vs rest rest inner (e1 ∙ append_assoc (statement_tokens t) (kinds.Word words.While ∷ kinds.Mark puncts.LeftParenthesis ∷ tokens_of e) (kinds.Mark puncts.RightParenthesis ∷ kinds.Mark puncts.Semicolon ∷ [])) (λ us e2. next_kind g (MayStand t) (kinds.Word words.While) _ us rest (λ b. absurd cc) e2) (λ a us alike e2.
        mark (kinds.Word words.While) _ us rest rest e2 refl (λ y ts k1 e3.
        mark (kinds.Mark puncts.LeftParenthesis) (tokens_of e ++ kinds.Mark puncts.RightParenthesis ∷ kinds.Mark puncts.Semicolon ∷ []) ts rest rest e3 refl (λ w ps k2 e4.
        part (tokens_of e) (kinds.Mark puncts.RightParenthesis ∷ kinds.Mark puncts.Semicolon ∷ []) ps rest rest (whole_expression e h) e4 (λ qs e5. next_kind g (λ s. 13 < looseness s) (kinds.Mark puncts.RightParenthesis) (kinds.Mark puncts.Semicolon ∷ []) qs rest (omega arith) e5) (λ o qs same e5.
        mark (kinds.Mark puncts.RightParenthesis) (kinds.Mark puncts.Semicolon ∷ []) qs rest rest e5 refl (λ z rs k3 e6.
        mark (kinds.Mark puncts.Semicolon) [] rs rest rest e6 refl (λ u ns k4 e7. finish (syntax_trees.do_while x a o.tree u) ns rest e7 (ap₂ (λ u v. unplaced (syntax.do_loop u v)) alike same))))))));
  }

  pub for_read : (a b c : MaybeExpression) (t : Statement) → IsLevelledMaybe (scope_of g) 0 a → IsLevelledMaybe (scope_of g) 0 b → IsLevelledMaybe (scope_of g) 0 c → StatementRead g t
      → IsRead g grammar.statement (MayStand t) (kinds.Word words.For ∷ kinds.Mark puncts.LeftParenthesis ∷ (((maybe_tokens [] a ++ kinds.Mark puncts.Semicolon ∷ maybe_tokens [] b) ++ kinds.Mark puncts.Semicolon ∷ maybe_tokens [] c) ++ kinds.Mark puncts.RightParenthesis ∷ statement_tokens t)) (λ o. bare_statement o ≡ unplaced (syntax.for_loop (bare_maybe a) (bare_maybe b) (bare_maybe c) (bare_statement t)))
  for_read a b c t ha hb hc inner = record {
    read = λ ws rest is next.
        let order : ((maybe_tokens [] a ++ kinds.Mark puncts.Semicolon ∷ maybe_tokens [] b) ++ kinds.Mark puncts.Semicolon ∷ maybe_tokens [] c) ++ kinds.Mark puncts.RightParenthesis ∷ statement_tokens t ≡ maybe_tokens [] a ++ kinds.Mark puncts.Semicolon ∷ behind_first b c t = simp append_assoc refl in
        begun (kinds.Word words.For) _ (tokens.mark tokens.for) ws rest rest is refl (λ x. refl) (λ x vs k e1.
        mark (kinds.Mark puncts.LeftParenthesis) _ vs rest rest e1 refl (λ y us k1 e2.
        part (maybe_tokens [] a) (kinds.Mark puncts.Semicolon ∷ behind_first b c t) us rest rest (maybe_read g a ha) (e2 ∙ order) (λ ts e3. next_kind g MayEnd (kinds.Mark puncts.Semicolon) (behind_first b c t) ts rest (refl, omega arith) e3) (λ p ts same_a e3.
        mark (kinds.Mark puncts.Semicolon) (behind_first b c t) ts rest rest e3 refl (λ z ts k2 e4.
        part (maybe_tokens [] b) (kinds.Mark puncts.Semicolon ∷ behind_second c t) ts rest rest (maybe_read g b hb) e4 (λ ps e5. next_kind g MayEnd (kinds.Mark puncts.Semicolon) (behind_second c t) ps rest (refl, omega arith) e5) (λ q ps same_b e5.
        mark (kinds.Mark puncts.Semicolon) (behind_second c t) ps rest rest e5 refl (λ w qs k3 e6.
        part (maybe_tokens [] c) (kinds.Mark puncts.RightParenthesis ∷ statement_tokens t) qs rest rest (maybe_read g c hc) e6 (λ rs e7. next_kind g MayEnd (kinds.Mark puncts.RightParenthesis) (statement_tokens t) rs rest (refl, omega arith) e7) (λ r rs same_c e7.
        mark (kinds.Mark puncts.RightParenthesis) (statement_tokens t) rs rest rest e7 refl (λ v ns k4 e8.
        last_part ns rest rest inner e8 next (λ d alike.
        finished (syntax_trees.for x p q r d) rest (ap₃ (λ i j k. unplaced (syntax.for_loop i j k (bare_statement d))) same_a same_b same_c ∙ ap (λ l. unplaced (syntax.for_loop (bare_maybe a) (bare_maybe b) (bare_maybe c) l)) alike))))))))));
  }

  -- ---- `if`

  pub no_else_read : IsRead g grammar.else_part (MayStandBehind no_statement) [] (λ o. bare_else (make.some_statement o) ≡ no_statement)
  no_else_read = none_read g grammar.else_part (MayStandBehind no_statement) (λ o. bare_else (make.some_statement o) ≡ no_statement) refl (λ s f. no_else (is_mark tokens.else_word s) f) refl

  pub else_read : (t : Statement) → StatementRead g t → IsRead g grammar.else_part (MayStandBehind (some_statement t)) (kinds.Word words.Else ∷ statement_tokens t) (λ o. bare_else (make.some_statement o) ≡ some_statement (bare_statement t))
  else_read t inner = record {
    read = λ ws rest is next.
        begun (kinds.Word words.Else) (statement_tokens t) (tokens.mark tokens.else_word) ws rest rest is refl (λ x. refl) (λ x vs k e1.
        last_part vs rest rest inner e1 next (λ o alike. finished (Some o) rest (ap (λ v. some_statement v) alike)));
  }

  -- what is behind the first branch
  behind_branch : (t : Statement) (other : MaybeStatement) → (has_else other ≡ true → ends_open t ≡ false) → (vs rest : List Terminal) → kinds_at vs ≡ else_tokens other → Next g (MayStandBehind other) rest → Next g (MayStand t) (vs ++ rest)
  behind_branch t no_statement closed vs rest e next = next_none g (MayStand t) vs rest e (next_maps g (MayStandBehind no_statement) (MayStand t) rest (λ s f b. let taken = f b in absurd cc) next)
  behind_branch t (some_statement u) closed vs rest e next = next_kind g (MayStand t) (kinds.Word words.Else) (statement_tokens u) vs rest (λ b. closed refl) e

  pub if_read : (e : Expression) (t : Statement) (other : MaybeStatement) → IsLevelled (scope_of g) e → StatementRead g t → (has_else other ≡ true → ends_open t ≡ false) → ElseRead g other
      → IsRead g grammar.statement (MayStandBehind other) (kinds.Word words.If ∷ kinds.Mark puncts.LeftParenthesis ∷ ((tokens_of e ++ kinds.Mark puncts.RightParenthesis ∷ statement_tokens t) ++ else_tokens other)) (λ o. bare_statement o ≡ unplaced (syntax.if_else (bare e) (bare_statement t) (bare_else other)))
  if_read e t other h inner closed second = record {
    read = λ ws rest is next.
        begun (kinds.Word words.If) _ (tokens.mark tokens.if_word) ws rest rest is refl (λ x. refl) (λ x vs k e1.
        mark (kinds.Mark puncts.LeftParenthesis) _ vs rest rest e1 refl (λ y us k1 e2.
        part (tokens_of e) (kinds.Mark puncts.RightParenthesis ∷ (statement_tokens t ++ else_tokens other)) us rest rest (whole_expression e h) (e2 ∙ append_assoc (tokens_of e) (kinds.Mark puncts.RightParenthesis ∷ statement_tokens t) (else_tokens other)) (λ ts e3. next_kind g (λ s. 13 < looseness s) (kinds.Mark puncts.RightParenthesis) _ ts rest (omega arith) e3) (λ o ts same e3.
        mark (kinds.Mark puncts.RightParenthesis) (statement_tokens t ++ else_tokens other) ts rest rest e3 refl (λ z ps k2 e4.
        part (statement_tokens t) (else_tokens other) ps rest rest inner e4 (λ qs e5. behind_branch t other closed qs rest e5 next) (λ a qs first e5.
        last_part qs rest rest second e5 next (λ b alike. finished (syntax_trees.if_else x o.tree a b) rest (ap₃ (λ i j k. unplaced (syntax.if_else i j k)) same first alike)))))));
  }
