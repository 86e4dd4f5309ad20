-- Operators behind a left part, over plain variables.
use Rattle.std.proofs.Common.{◌≡◌, ℕ, ◌+◌, ◌-◌, ◌≤◌, ◌==◌, Bool, true, false, List, ◌∷◌, length, Some, refl, sym, ap, ◌∙◌, subst, arith}
use Rattle.std.specs.Prelude.{◌&&◌, max, if◌then◌else◌}
use Rattle.std.specs.List.{list_any}
use Rattle.std.proofs.lemmas.Bool.{eqb-true, eqb-false}
use Rattle.sp_tree.specs.declared.token.Keyword.{Keyword}
use Rattle.sp_tree.specs.declared.token.Keyword.TheVariants as words
use Rattle.sp_tree.specs.declared.token.Kind.{Kind}
use Rattle.sp_tree.specs.declared.token.Kind.TheVariants as kinds
use Rattle.sp_tree.specs.declared.token.Punct.{Punct}
use Rattle.sp_tree.specs.declared.token.Punct.TheVariants as puncts
use Rattle.sp_tree.specs.declared.token.Token.{Token}
use Rattle.sp_parse_trees.specs.Syntax.{Expression}
use Rattle.sp_parse_trees.specs.Depth.{depth as depth_of}
use Rattle.sp_parse_grammar.specs.CTokens as tokens
use Rattle.sp_parse_grammar.specs.CTokens.{Sort, view}
use Rattle.sp_parse_grammar.specs.CTable as grammar
use Rattle.sp_parse_grammar.specs.CTable.{Context, at, c_symbols, stands_behind, operator_plan, next, get, expect, operand}
use Rattle.sp_parse_grammar.specs.CTrees.{TokenOf}
use Rattle.sp_parse_grammar.specs.Table.{Plan, done, Opens, open_take}
use Rattle.sp_parse_grammar.specs.Depth.{Nests}
use Rattle.sp_parse_tokens.specs.Sorts.{c_tokens, terminal, sort_of, word_sort, punct_sort}
use Rattle.sp_parse_tokens.specs.SyntaxTrees.{syntax_trees, c_table}
use Rattle.sp_parse_tokens.specs.Depths.{c_depths, item_least}
use Rattle.sp_parse_tokens.specs.Ended.{IsEnded}
use Rattle.sp_parse_expr_steps.specs.Reading.{IsRead, IsStep, joined_tree}
use Rattle.sp_parse_expr_steps.proofs.Steps.{enter, took_token, finished, passed}
use Rattle.sp_parse_expr_steps.proofs.Parts.{IsOn, chosen}
use Rattle.sp_parse_expr_steps.proofs.ExpressionSteps.{built, operator_binary}

abbrev pub Operand : Type 0
Operand = grammar.Operand syntax_trees

opens : (g : Context) (k : ℕ) (l : Operand) (x : TokenOf syntax_trees) (s : Sort) → Opens c_table (at g (grammar.after k l)) (operator_plan g k l x s) x
opens g k l x (tokens.mark tokens.question) = open_take refl
opens g k l x (tokens.mark tokens.comma) = open_take refl
opens g k l x (tokens.mark tokens.equal) = open_take refl
opens g k l x tokens.assigning = open_take refl
opens g k l x _ = open_take refl

-- Of a left part with operators behind it, this is what was read.
module _ (g : Context) (k : ℕ) (first now : Operand) (text rest xs : List Token) (x : Token) (step : IsStep g (grammar.after k first) (grammar.after k now) (λ a. a) text rest) (e : rest ≡ x ∷ xs) where
  pub after_ends : (d n : ℕ) → stands_behind k now.unary (view g.types (sort_of x.kind)) ≡ false → n ≡ depth_of now.tree → n ≤ d → IsEnded rest → length rest ≤ length text → IsRead g (grammar.after k first) d text now n rest
  after_ends d n other deep shallow ended fewer =
      built g (grammar.after k first) d n text rest now now
      (finished (enter step (ap c_tokens e) (chosen g (grammar.after k now) x (view g.types (sort_of x.kind)) (Some (done now)) refl (ap (λ b. if b then Some (operator_plan g k now (terminal x) (view g.types (sort_of x.kind))) else Some (done now)) other))))
      refl deep shallow ended (omega (arith, fewer))

  pub after_deep : (d n : ℕ) → stands_behind k now.unary (view g.types (sort_of x.kind)) ≡ true → n ≡ depth_of now.tree → d ≤ n → Nests c_table c_depths (at g (grammar.after k first)) d (c_tokens text) (c_tokens rest)
  after_deep d n stands deep less =
      let is = view g.types (sort_of x.kind) in
      let least : item_least g (grammar.after k now) is ≡ 1 + depth_of now.tree = ap (λ b. if b then 1 + depth_of now.tree else depth_of now.tree) stands in
      passed step (ap c_tokens e) (chosen g (grammar.after k now) x is (Some (operator_plan g k now (terminal x) is)) refl (ap (λ b. if b then Some (operator_plan g k now (terminal x) is) else Some (done now)) stands)) (opens g k now (terminal x) is) (omega (arith, least, deep, less))

  -- the operator is taken
  pub after_on : (body : TokenOf syntax_trees → Plan (c_symbols syntax_trees) (at g (grammar.after k now))) → stands_behind k now.unary (view g.types (sort_of x.kind)) ≡ true → operator_plan g k now (terminal x) (view g.types (sort_of x.kind)) ≡ next body → IsOn g g (grammar.after k first) (grammar.after k now) (λ a. a) (body (terminal x)) text xs
  after_on body stands same =
      let is = view g.types (sort_of x.kind) in
      took_token (enter step (ap c_tokens e) (chosen g (grammar.after k now) x is (Some (next body)) refl (ap (λ b. if b then Some (operator_plan g k now (terminal x) is) else Some (done now)) stands ∙ ap (λ p. Some p) same))) (ap c_tokens e) refl

-- ---- which operators stand behind a left part of a level

module _ (types : List ℕ) (u : Bool) where
  comma_name : (n : ℕ) (b : Bool) → stands_behind 13 u (if b then tokens.named_type n else tokens.name n) ≡ true → ⊥
  comma_name n true e = cc
  comma_name n false e = cc

  comma_word : (k : Keyword) → stands_behind 13 u (view types (word_sort k)) ≡ true → ⊥
  comma_word words.Auto e = cc
  comma_word _ e = cc

  no_level : (v : Bool) → (v && false) ≡ true → ⊥
  no_level true e = cc
  no_level false e = cc

  comma_punct : (p : Punct) → stands_behind 13 u (view types (punct_sort p)) ≡ true → view types (punct_sort p) ≡ tokens.mark tokens.comma
  comma_punct puncts.Comma e = refl
  comma_punct puncts.Assign e = absurd (no_level u e)
  comma_punct puncts.StarAssign e = absurd (no_level u e)
  comma_punct puncts.SlashAssign e = absurd (no_level u e)
  comma_punct puncts.PercentAssign e = absurd (no_level u e)
  comma_punct puncts.PlusAssign e = absurd (no_level u e)
  comma_punct puncts.MinusAssign e = absurd (no_level u e)
  comma_punct puncts.ShiftLeftAssign e = absurd (no_level u e)
  comma_punct puncts.ShiftRightAssign e = absurd (no_level u e)
  comma_punct puncts.AmpersandAssign e = absurd (no_level u e)
  comma_punct puncts.CaretAssign e = absurd (no_level u e)
  comma_punct puncts.BarAssign e = absurd (no_level u e)
  comma_punct _ e = absurd cc

  pub comma_stands : (k : Kind) → stands_behind 13 u (view types (sort_of k)) ≡ true → view types (sort_of k) ≡ tokens.mark tokens.comma
  comma_stands (kinds.Name n) e = absurd (comma_name n (list_any (λ t. t == n) types) e)
  comma_stands (kinds.Word w) e = absurd (comma_word w e)
  comma_stands (kinds.Mark p) e = comma_punct p e
  comma_stands (kinds.Number n) e = absurd cc
  comma_stands (kinds.Char z) e = absurd cc
  comma_stands (kinds.Text n) e = absurd cc
  comma_stands kinds.End e = absurd cc

  question_name : (n : ℕ) (b : Bool) → stands_behind 11 u (if b then tokens.named_type n else tokens.name n) ≡ true → ⊥
  question_name n true e = cc
  question_name n false e = cc

  question_word : (k : Keyword) → stands_behind 11 u (view types (word_sort k)) ≡ true → ⊥
  question_word words.Auto e = cc
  question_word _ e = cc

  question_punct : (p : Punct) → stands_behind 11 u (view types (punct_sort p)) ≡ true → view types (punct_sort p) ≡ tokens.mark tokens.question
  question_punct puncts.Question e = refl
  question_punct puncts.Assign e = absurd (no_level u e)
  question_punct puncts.StarAssign e = absurd (no_level u e)
  question_punct puncts.SlashAssign e = absurd (no_level u e)
  question_punct puncts.PercentAssign e = absurd (no_level u e)
  question_punct puncts.PlusAssign e = absurd (no_level u e)
  question_punct puncts.MinusAssign e = absurd (no_level u e)
  question_punct puncts.ShiftLeftAssign e = absurd (no_level u e)
  question_punct puncts.ShiftRightAssign e = absurd (no_level u e)
  question_punct puncts.AmpersandAssign e = absurd (no_level u e)
  question_punct puncts.CaretAssign e = absurd (no_level u e)
  question_punct puncts.BarAssign e = absurd (no_level u e)
  question_punct _ e = absurd cc

  pub question_stands : (k : Kind) → stands_behind 11 u (view types (sort_of k)) ≡ true → view types (sort_of k) ≡ tokens.mark tokens.question
  question_stands (kinds.Name n) e = absurd (question_name n (list_any (λ t. t == n) types) e)
  question_stands (kinds.Word w) e = absurd (question_word w e)
  question_stands (kinds.Mark p) e = question_punct p e
  question_stands (kinds.Number n) e = absurd cc
  question_stands (kinds.Char z) e = absurd cc
  question_stands (kinds.Text n) e = absurd cc
  question_stands kinds.End e = absurd cc

abbrev pub comma_body : (g : Context) (l : Operand) (x : TokenOf syntax_trees) → TokenOf syntax_trees → Plan (c_symbols syntax_trees) (at g (grammar.after 13 l))
comma_body g l x y = get g (grammar.level 12) (λ r. get g (grammar.after 13 (operand (syntax_trees.sequence x l.tree r.tree) false)) (λ o. done o))

abbrev pub assign_body : (g : Context) (l : Operand) (x : TokenOf syntax_trees) → TokenOf syntax_trees → Plan (c_symbols syntax_trees) (at g (grammar.after 12 l))
assign_body g l x y = get g (grammar.level 12) (λ r. done (operand (syntax_trees.assign x l.tree r.tree) false))

abbrev pub choice_body : (g : Context) (l : Operand) (x : TokenOf syntax_trees) → TokenOf syntax_trees → Plan (c_symbols syntax_trees) (at g (grammar.after 11 l))
choice_body g l x y = get g (grammar.level 13) (λ a. expect g tokens.colon (λ z. get g (grammar.level 11) (λ b. done (operand (syntax_trees.choice x l.tree a.tree b.tree) false))))

module _ (g : Context) (l : Operand) (x : Token) where
  pub comma_plan : stands_behind 13 l.unary (view g.types (sort_of x.kind)) ≡ true → operator_plan g 13 l (terminal x) (view g.types (sort_of x.kind)) ≡ next (comma_body g l (terminal x))
  comma_plan e = ap (λ s. operator_plan g 13 l (terminal x) s) (comma_stands g.types l.unary x.kind e)

  pub choice_plan : stands_behind 11 l.unary (view g.types (sort_of x.kind)) ≡ true → operator_plan g 11 l (terminal x) (view g.types (sort_of x.kind)) ≡ next (choice_body g l (terminal x))
  choice_plan e = ap (λ s. operator_plan g 11 l (terminal x) s) (question_stands g.types l.unary x.kind e)

  assign_word : (k : Keyword) → stands_behind 12 l.unary (view g.types (word_sort k)) ≡ true → ⊥
  assign_word words.Auto e = cc
  assign_word _ e = cc

  assign_name : (n : ℕ) (b : Bool) → stands_behind 12 l.unary (if b then tokens.named_type n else tokens.name n) ≡ true → ⊥
  assign_name n true e = cc
  assign_name n false e = cc

  assign_punct : (p : Punct) → stands_behind 12 l.unary (view g.types (punct_sort p)) ≡ true → operator_plan g 12 l (terminal x) (view g.types (punct_sort p)) ≡ next (assign_body g l (terminal x))
  assign_punct puncts.Assign e = refl
  assign_punct puncts.StarAssign e = refl
  assign_punct puncts.SlashAssign e = refl
  assign_punct puncts.PercentAssign e = refl
  assign_punct puncts.PlusAssign e = refl
  assign_punct puncts.MinusAssign e = refl
  assign_punct puncts.ShiftLeftAssign e = refl
  assign_punct puncts.ShiftRightAssign e = refl
  assign_punct puncts.AmpersandAssign e = refl
  assign_punct puncts.CaretAssign e = refl
  assign_punct puncts.BarAssign e = refl
  assign_punct _ e = absurd cc

  assign_kind : (k : Kind) → stands_behind 12 l.unary (view g.types (sort_of k)) ≡ true → operator_plan g 12 l (terminal x) (view g.types (sort_of k)) ≡ next (assign_body g l (terminal x))
  assign_kind (kinds.Name n) e = absurd (assign_name n (list_any (λ t. t == n) g.types) e)
  assign_kind (kinds.Word w) e = absurd (assign_word w e)
  assign_kind (kinds.Mark p) e = assign_punct p e
  assign_kind (kinds.Number n) e = absurd cc
  assign_kind (kinds.Char z) e = absurd cc
  assign_kind (kinds.Text n) e = absurd cc
  assign_kind kinds.End e = absurd cc

  pub assign_plan : stands_behind 12 l.unary (view g.types (sort_of x.kind)) ≡ true → operator_plan g 12 l (terminal x) (view g.types (sort_of x.kind)) ≡ next (assign_body g l (terminal x))
  assign_plan e = assign_kind x.kind e

-- the operations of a level that go on with a left part
abbrev pub joined_body : (g : Context) (k : ℕ) (l : Operand) (x : TokenOf syntax_trees) → TokenOf syntax_trees → Plan (c_symbols syntax_trees) (at g (grammar.after k l))
joined_body g k l x y = get g (grammar.level (k - 1)) (λ r. get g (grammar.after k (operand (joined_tree k x l.tree r.tree) false)) (λ o. done o))

module _ (g : Context) (k : ℕ) (l : Operand) (x : Token) (low : 1 ≤ k) (high : k ≤ 13) (not_assigning : (k == 12) ≡ false) (not_choosing : (k == 11) ≡ false) (stands : stands_behind k l.unary (view g.types (sort_of x.kind)) ≡ true) where
  joined_at : (b : Bool) → (k == 13) ≡ b → operator_plan g k l (terminal x) (view g.types (sort_of x.kind)) ≡ next (joined_body g k l (terminal x))
  joined_at true e =
      let same : k ≡ 13 = eqb-true k 13 e in
      subst (λ j. stands_behind j l.unary (view g.types (sort_of x.kind)) ≡ true → operator_plan g j l (terminal x) (view g.types (sort_of x.kind)) ≡ next (joined_body g j l (terminal x))) (sym same) (λ s. comma_plan g l x s) stands
  joined_at false e =
      let a = eqb-false k 13 e in
      let b = eqb-false k 12 not_assigning in
      let d = eqb-false k 11 not_choosing in
      let less : k ≤ 10 = omega (arith, high, a, b, d) in
      operator_binary g k l x (view g.types (sort_of x.kind)) low less stands ∙ ap (λ b. next (λ y. get g (grammar.level (k - 1)) (λ r. get g (grammar.after k (operand (if b then syntax_trees.sequence (terminal x) l.tree r.tree else syntax_trees.binary (terminal x) l.tree r.tree) false)) (λ o. done o)))) (sym e)

  pub joined_plan : operator_plan g k l (terminal x) (view g.types (sort_of x.kind)) ≡ next (joined_body g k l (terminal x))
  joined_plan = joined_at (k == 13) refl

-- the operation is one deeper than the deeper of its parts
joined_depth_at : (b : Bool) (x : TokenOf syntax_trees) (l r : Expression) → depth_of (if b then syntax_trees.sequence x l r else syntax_trees.binary x l r) ≡ 1 + max (depth_of l) (depth_of r)
joined_depth_at true x l r = refl
joined_depth_at false x l r = refl

pub joined_depth : (k : ℕ) (x : TokenOf syntax_trees) (l r : Expression) → depth_of (joined_tree k x l r) ≡ 1 + max (depth_of l) (depth_of r)
joined_depth k x l r = joined_depth_at (k == 13) x l r

abbrev pub choice_done : (g : Context) (l : Operand) (x : TokenOf syntax_trees) (a b : Operand) → Plan (c_symbols syntax_trees) (at g (grammar.after 11 l))
choice_done g l x a b = done (operand (syntax_trees.choice x l.tree a.tree b.tree) false)

abbrev pub choice_colon : (g : Context) (l : Operand) (x : TokenOf syntax_trees) (a : Operand) → Plan (c_symbols syntax_trees) (at g (grammar.after 11 l))
choice_colon g l x a = expect g tokens.colon (λ z. get g (grammar.level 11) (choice_done g l x a))

-- what is made of two parts is one deeper than the deeper
pub binary_deep : (l r made tree : Expression) (m n k : ℕ) → m ≡ depth_of l → n ≡ depth_of r → k ≡ max m n → depth_of made ≡ 1 + max (depth_of l) (depth_of r) → tree ≡ made → 1 + k ≡ depth_of tree
binary_deep l r made tree m n k left right both deeper same = subst (λ v. 1 + k ≡ depth_of v) (sym same) (omega (arith, left, right, both, deeper))
