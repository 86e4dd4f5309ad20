-- The steps of the readers of conditions, of the expressions of a `for` and of the end of a `do`, over plain variables.
use Rattle.std.proofs.Common.{◌≡◌, ℕ, ◌+◌, true, false, List, ◌∷◌, length, Some, None, refl, sym, ap, ◌∙◌, arith}
use Rattle.std.specs.Prelude.{Option, if◌then◌else◌}
use Rattle.sp_tree.specs.declared.fault.Place.{Place}
use Rattle.sp_tree.specs.declared.token.Token.{Token}
use Rattle.sp_parse_trees.specs.Syntax.{Expression}
use Rattle.sp_parse_grammar.specs.CTokens as tokens
use Rattle.sp_parse_grammar.specs.CTokens.{view}
use Rattle.sp_parse_grammar.specs.CTable as grammar
use Rattle.sp_parse_grammar.specs.CTable.{Context, at, c_symbols, get, expect, close_by, if_missing, begins_expression}
use Rattle.sp_parse_grammar.specs.Table.{Plan, done}
use Rattle.sp_parse_tokens.specs.declared.scope.Scope.{Scope}
use Rattle.sp_parse_tokens.specs.declared.scope.AlsoAllowed.{AlsoAllowed}
use Rattle.sp_parse_tokens.specs.declared.scope.AlsoAllowed.TheVariants as also
use Rattle.sp_parse_tokens.specs.declared.part.ReadError.{ReadError}
use Rattle.sp_parse_tokens.specs.Sorts.{Terminal, terminal, sort_of}
use Rattle.sp_parse_tokens.specs.SyntaxTrees.{syntax_trees}
use Rattle.sp_parse_tokens.specs.Ended.{IsEnded}
use Rattle.sp_parse_tokens.specs.Expecting.{IsExpected, IsUnexpected}
use Rattle.sp_parse_tokens.specs.Makers.{first_place}
use Rattle.sp_parse_tokens.specs.Scopes.{there, allowed_seen}
use Rattle.sp_parse_expr_steps.specs.Reading.{IsRead, IsStop}
use Rattle.sp_parse_expr_steps.proofs.Steps.{got, finished}
use Rattle.sp_parse_expr_steps.proofs.Parts.{IsOn, on_mark, stop_mark, stop_part}
use Rattle.sp_parse_expr_steps.proofs.ExpressionSteps.{built, first_same}
use Rattle.sp_parse_expr_steps.proofs.Suffixes.{allowing}
use Rattle.sp_parse_statements.specs.Parts.{Rest, IsLeft, condition, IsCondition, IsConditionStop, clause, IsClause, IsClauseStop, do_end, IsDoEnd, IsDoEndStop}

abbrev Operand : Type 0
Operand = grammar.Operand syntax_trees

-- ---- a mark, and nothing else that matters

module _ (types : List ℕ) (scope : Scope) (m : tokens.Mark) (k : Terminal → Rest (there types scope)) (first text : List Token) where
  pub left_mark : (rest : List Token) → IsLeft (there types scope) (expect (there types scope) m k) first text → (e : IsExpected types m text rest) → IsLeft (there types scope) (k (terminal e.first)) first rest
  left_mark rest on e = on_mark types scope (there types scope) grammar.statement grammar.statement (λ a. a) m also.Nothing k (there types scope) first text rest on e

  pub left_stop : (d : ℕ) → IsLeft (there types scope) (expect (there types scope) m k) first text → IsEnded text → (s : ReadError) → IsUnexpected types scope m also.Nothing text s → IsStop (there types scope) grammar.statement d first s
  left_stop d on ended s u = stop_mark types scope (there types scope) grammar.statement grammar.statement (λ a. a) m also.Nothing k (there types scope) d first text on ended s u

-- the place of a mark is that of the first token
pub mark_place : (types : List ℕ) (m : tokens.Mark) (text rest : List Token) (p : Place) → p ≡ first_place text → (e : IsExpected types m text rest) → p ≡ e.first.place
mark_place types m text rest p at_first e = at_first ∙ ap (λ v. first_place v) e.whole

pub shorter : (types : List ℕ) (m : tokens.Mark) (text rest : List Token) → IsExpected types m text rest → length text ≡ 1 + length rest
shorter types m text rest e = let same : length text ≡ length (e.first ∷ rest) = ap length e.whole in omega (arith, same)

-- ---- conditions

abbrev inside_condition : (g : Context) (k : Expression → Rest g) → Rest g
inside_condition g k = get g (grammar.level 13) (λ o. expect g tokens.closing (λ w. k o.tree))

module _ (types : List ℕ) (scope : Scope) (d : ℕ) (text inner : List Token) (opens : IsExpected types tokens.opening text inner) where
  condition_opened : (k : Expression → Rest (there types scope)) (first : List Token) → IsLeft (there types scope) (condition (there types scope) k) first text → IsLeft (there types scope) (inside_condition (there types scope) k) first inner
  condition_opened k first on = left_mark types scope tokens.opening (λ z. inside_condition (there types scope) k) first text inner on opens

  pub condition_inner : (s : ReadError) → IsStop (there types scope) (grammar.level 13) d inner s → IsConditionStop (there types scope) d text s
  condition_inner s h k first on =
      let g = there types scope in
      stop_part g g g grammar.statement grammar.statement (grammar.level 13) (λ a. a) (λ o. expect g tokens.closing (λ w. k o.tree)) (1 + d) d first inner (condition_opened k first on) (omega arith) s h

  module _ (n : ℕ) (last_tokens : List Token) (o : Operand) (h : IsRead (there types scope) (grammar.level 13) d inner o n last_tokens) where
    condition_got : (k : Expression → Rest (there types scope)) (first : List Token) → IsLeft (there types scope) (condition (there types scope) k) first text → IsLeft (there types scope) (expect (there types scope) tokens.closing (λ w. k o.tree)) first last_tokens
    condition_got k first on = got (condition_opened k first on) h.reads

    pub condition_unclosed : (s : ReadError) → IsUnexpected types scope tokens.closing also.Nothing last_tokens s → IsConditionStop (there types scope) d text s
    condition_unclosed s u k first on = left_stop types scope tokens.closing (λ w. k o.tree) first last_tokens (1 + d) (condition_got k first on) h.ended s u

    pub condition_read : (rest : List Token) → IsExpected types tokens.closing last_tokens rest → IsCondition (there types scope) d text o.tree n rest
    condition_read rest closes = record {
      leads = λ k first on. left_mark types scope tokens.closing (λ w. k o.tree) first last_tokens rest (condition_got k first on) closes;
      deep = h.deep;
      shallow = h.shallow;
      ended = closes.ended;
      fewer = omega (arith, h.fewer, shorter types tokens.opening text inner opens, shorter types tokens.closing last_tokens rest closes);
    }

pub condition_unopened : (types : List ℕ) (scope : Scope) (d : ℕ) (text : List Token) → IsEnded text → (s : ReadError) → IsUnexpected types scope tokens.opening also.Nothing text s → IsConditionStop (there types scope) d text s
condition_unopened types scope d text ended s u k first on = left_stop types scope tokens.opening (λ z. inside_condition (there types scope) k) first text (1 + d) on ended s u

-- ---- an expression where one is given

abbrev pub optional_plan : (g : Context) → Plan (c_symbols syntax_trees) (at g grammar.optional_expression)
optional_plan g = get g (grammar.level 13) (λ o. done (Some o.tree))

module _ (g : Context) (text xs : List Token) (x : Token) (e : text ≡ x ∷ xs) where
  pub optional_none : (d : ℕ) → begins_expression (view g.types (sort_of x.kind)) ≡ false → IsEnded text → IsRead g grammar.optional_expression d text None 0 text
  optional_none d other ended =
      built g grammar.optional_expression d 0 text text None None
      (finished (first_same g grammar.optional_expression text xs x (view g.types (sort_of x.kind)) e refl (done None) (ap (λ b. if b then Some (optional_plan g) else Some (done None)) other)))
      refl refl (omega arith) ended (omega arith)

  pub optional_on : begins_expression (view g.types (sort_of x.kind)) ≡ true → IsOn g g grammar.optional_expression grammar.optional_expression (λ a. a) (optional_plan g) text text
  optional_on stands = first_same g grammar.optional_expression text xs x (view g.types (sort_of x.kind)) e refl (optional_plan g) (ap (λ b. if b then Some (optional_plan g) else Some (done None)) stands)

-- ---- an expression or none, and a mark

module _ (types : List ℕ) (scope : Scope) (m : tokens.Mark) (d : ℕ) (text : List Token) where
  pub clause_inner : (s : ReadError) → IsStop (there types scope) grammar.optional_expression d text s → IsClauseStop (there types scope) m d text s
  clause_inner s h k first on =
      let g = there types scope in
      stop_part g g g grammar.statement grammar.statement grammar.optional_expression (λ a. a) (λ a. close_by g (if_missing a) m (λ w. k a w)) (1 + d) d first text on (omega arith) s h

  module _ (n : ℕ) (last_tokens : List Token) (v : Option Expression) (h : IsRead (there types scope) grammar.optional_expression d text v n last_tokens) (p : AlsoAllowed) (also_allowed : allowed_seen p ≡ if_missing v) where
    clause_got : (k : Option Expression → Terminal → Rest (there types scope)) (first : List Token) → IsLeft (there types scope) (clause (there types scope) m k) first text → IsLeft (there types scope) (close_by (there types scope) (allowed_seen p) m (λ w. k v w)) first last_tokens
    clause_got k first on =
        allowing (there types scope) grammar.statement grammar.statement (λ a. a) m (λ w. k v w) first last_tokens (if_missing v) (allowed_seen p) (sym also_allowed) (got on h.reads)

    pub clause_unclosed : (s : ReadError) → IsUnexpected types scope m p last_tokens s → IsClauseStop (there types scope) m d text s
    clause_unclosed s u k first on = stop_mark types scope (there types scope) grammar.statement grammar.statement (λ a. a) m p (λ w. k v w) (there types scope) (1 + d) first last_tokens (clause_got k first on) h.ended s u

    pub clause_read : (rest : List Token) (place : Place) → place ≡ first_place last_tokens → IsExpected types m last_tokens rest → IsClause (there types scope) m d text v place n rest
    clause_read rest place at_first closes = record {
      mark = closes.first;
      place_of_mark = mark_place types m last_tokens rest place at_first closes;
      leads = λ k first on. on_mark types scope (there types scope) grammar.statement grammar.statement (λ a. a) m p (λ w. k v w) (there types scope) first last_tokens rest (clause_got k first on) closes;
      deep = h.deep;
      shallow = h.shallow;
      ended = closes.ended;
      fewer = omega (arith, h.fewer, shorter types m last_tokens rest closes);
    }

-- ---- behind the body of a `do`

abbrev closing_do : (g : Context) (k : Expression → Terminal → Rest g) → Expression → Rest g
closing_do g k e = expect g tokens.semicolon (λ u. k e u)

pub do_unopened : (types : List ℕ) (scope : Scope) (d : ℕ) (text : List Token) → IsEnded text → (s : ReadError) → IsUnexpected types scope tokens.while also.Nothing text s → IsDoEndStop (there types scope) d text s
do_unopened types scope d text ended s u k first on = left_stop types scope tokens.while (λ z. condition (there types scope) (closing_do (there types scope) k)) first text (1 + d) on ended s u

module _ (types : List ℕ) (scope : Scope) (d : ℕ) (text inner : List Token) (opens : IsExpected types tokens.while text inner) where
  do_opened : (k : Expression → Terminal → Rest (there types scope)) (first : List Token) → IsLeft (there types scope) (do_end (there types scope) k) first text → IsLeft (there types scope) (condition (there types scope) (closing_do (there types scope) k)) first inner
  do_opened k first on = left_mark types scope tokens.while (λ z. condition (there types scope) (closing_do (there types scope) k)) first text inner on opens

  pub do_inner : (s : ReadError) → IsConditionStop (there types scope) d inner s → IsDoEndStop (there types scope) d text s
  do_inner s h k first on = h (closing_do (there types scope) k) first (do_opened k first on)

  module _ (n : ℕ) (last_tokens : List Token) (e : Expression) (h : IsCondition (there types scope) d inner e n last_tokens) where
    do_got : (k : Expression → Terminal → Rest (there types scope)) (first : List Token) → IsLeft (there types scope) (do_end (there types scope) k) first text → IsLeft (there types scope) (closing_do (there types scope) k e) first last_tokens
    do_got k first on = h.leads (closing_do (there types scope) k) first (do_opened k first on)

    pub do_unclosed : (s : ReadError) → IsUnexpected types scope tokens.semicolon also.Nothing last_tokens s → IsDoEndStop (there types scope) d text s
    do_unclosed s u k first on = left_stop types scope tokens.semicolon (λ w. k e w) first last_tokens (1 + d) (do_got k first on) h.ended s u

    pub do_read : (rest : List Token) (place : Place) → place ≡ first_place last_tokens → IsExpected types tokens.semicolon last_tokens rest → IsDoEnd (there types scope) d text e place n rest
    do_read rest place at_first closes = record {
      mark = closes.first;
      place_of_mark = mark_place types tokens.semicolon last_tokens rest place at_first closes;
      leads = λ k first on. left_mark types scope tokens.semicolon (λ w. k e w) first last_tokens rest (do_got k first on) closes;
      deep = h.deep;
      shallow = h.shallow;
      ended = closes.ended;
      fewer = omega (arith, h.fewer, shorter types tokens.while text inner opens, shorter types tokens.semicolon last_tokens rest closes);
    }
