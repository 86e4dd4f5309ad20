-- What is said of the parts of statements that no ask of the grammar names.
--
-- A production of the grammar is a plan. Of such a part it is said what is left of every production that wants it: where the
-- part is read, what the production makes of it; where it isn't, the stop of the whole.
use Rattle.std.specs.Prelude.{◌≡◌, ℕ, ◌+◌, ◌≤◌, ◌<◌, max, List, [], length, Option, option_map}
use Rattle.sp_tree.specs.declared.fault.Place.{Place}
use Rattle.sp_tree.specs.declared.token.Token.{Token}
use Rattle.sp_parse_trees.specs.Syntax as syntax
use Rattle.sp_parse_trees.specs.Syntax.{Expression, Declaration, Statement, statement}
use Rattle.sp_parse_trees.specs.View.{tree_of, maybe_expression, declarations}
use Rattle.sp_parse_trees.specs.Depth.{depth as depth_of, maybe_depth, statement_depth}
use Rattle.sp_parse_grammar.specs.CTokens as tokens
use Rattle.sp_parse_grammar.specs.CTable as grammar
use Rattle.sp_parse_grammar.specs.CTable.{Context, Item, ItemAnswer, at, c_symbols, get, expect, close_by, if_missing}
use Rattle.sp_parse_grammar.specs.Table.{Plan, ask, Reads, Fails}
use Rattle.sp_parse_grammar.specs.Depth.{Nests}
use Rattle.sp_parse_tokens.specs.Sorts.{Terminal, terminal, c_tokens}
use Rattle.sp_parse_tokens.specs.SyntaxTrees.{syntax_trees, c_table}
use Rattle.sp_parse_tokens.specs.Depths.{c_depths, item_down}
use Rattle.sp_parse_tokens.specs.Faults.{Wanted}
use Rattle.sp_parse_tokens.specs.Makers.{end_of, first_place, all_statements}
use Rattle.sp_parse_tokens.specs.Ended.{IsEnded}
use Rattle.sp_parse_tokens.specs.declared.part.ReadError.{ReadError}
use Rattle.sp_parse_expr_steps.specs.Reading.{IsStop}
use Rattle.sp_parse_expr_steps.specs.States.{Inside}
use Rattle.sp_parse_statements.specs.declared.prefixes.Prefix.{Prefix}
use Rattle.sp_parse_statements.specs.declared.prefixes.Prefix.TheVariants.{Label, Case, Default, Switch, While, For}

-- the rest of a statement's production
abbrev pub Rest : Context → Type 0
Rest g = Plan (c_symbols syntax_trees) (at g grammar.statement)

-- Of a statement that begins with the first tokens this is left to be read at the last.
abbrev pub IsLeft : (g : Context) → Rest g → List Token → List Token → Type 0
IsLeft g p text rest = Inside c_table c_depths (at g grammar.statement) (at g grammar.statement) (λ a. a) p (c_tokens text) (c_tokens rest)

-- ---- `(`, an expression and `)`

abbrev pub condition : (g : Context) → (Expression → Rest g) → Rest g
condition g k = expect g tokens.opening (λ z. get g (grammar.level 13) (λ o. expect g tokens.closing (λ w. k o.tree)))

pub record IsCondition (g : Context) (depth : ℕ) (text : List Token) (e : Expression) (reached : ℕ) (rest : List Token) : Type 0 where
  pub leads : (k : Expression → Rest g) (first : List Token) → IsLeft g (condition g k) first text → IsLeft g (k e) first rest
  pub deep : reached ≡ depth_of e
  pub shallow : reached ≤ depth
  pub ended : IsEnded rest
  pub fewer : length rest < length text

abbrev pub IsConditionStop : Context → ℕ → List Token → ReadError → Type 0
IsConditionStop g depth text stop = (k : Expression → Rest g) (first : List Token) → IsLeft g (condition g k) first text → IsStop g grammar.statement (1 + depth) first stop

-- ---- an expression or none, and a mark behind it

abbrev pub clause : (g : Context) → tokens.Mark → (Option Expression → Terminal → Rest g) → Rest g
clause g m k = get g grammar.optional_expression (λ a. close_by g (if_missing a) m (λ w. k a w))

-- with the place of the mark
pub record IsClause (g : Context) (m : tokens.Mark) (depth : ℕ) (text : List Token) (v : Option Expression) (place : Place) (reached : ℕ) (rest : List Token) : Type 0 where
  pub mark : Token
  pub place_of_mark : place ≡ mark.place
  pub leads : (k : Option Expression → Terminal → Rest g) (first : List Token) → IsLeft g (clause g m k) first text → IsLeft g (k v (terminal mark)) first rest
  pub deep : reached ≡ maybe_depth (maybe_expression v)
  pub shallow : reached ≤ depth
  pub ended : IsEnded rest
  pub fewer : length rest < length text

abbrev pub IsClauseStop : Context → tokens.Mark → ℕ → List Token → ReadError → Type 0
IsClauseStop g m depth text stop = (k : Option Expression → Terminal → Rest g) (first : List Token) → IsLeft g (clause g m k) first text → IsStop g grammar.statement (1 + depth) first stop

-- ---- the three expressions of a `for`, or those of them that are given

abbrev pub three_clauses : (g : Context) → (Option Expression → Option Expression → Option Expression → Rest g) → Rest g
three_clauses g k = expect g tokens.opening (λ z. clause g tokens.semicolon (λ a w. clause g tokens.semicolon (λ b v. clause g tokens.closing (λ c u. k a b c))))

-- ---- behind the body of a `do`

abbrev pub do_end : (g : Context) → (Expression → Terminal → Rest g) → Rest g
do_end g k = expect g tokens.while (λ z. condition g (λ e. expect g tokens.semicolon (λ u. k e u)))

pub record IsDoEnd (g : Context) (depth : ℕ) (text : List Token) (e : Expression) (place : Place) (reached : ℕ) (rest : List Token) : Type 0 where
  pub mark : Token
  pub place_of_mark : place ≡ mark.place
  pub leads : (k : Expression → Terminal → Rest g) (first : List Token) → IsLeft g (do_end g k) first text → IsLeft g (k e (terminal mark)) first rest
  pub deep : reached ≡ depth_of e
  pub shallow : reached ≤ depth
  pub ended : IsEnded rest
  pub fewer : length rest < length text

abbrev pub IsDoEndStop : Context → ℕ → List Token → ReadError → Type 0
IsDoEndStop g depth text stop = (k : Expression → Terminal → Rest g) (first : List Token) → IsLeft g (do_end g k) first text → IsStop g grammar.statement (1 + depth) first stop

-- ---- what stands before a body

-- with this body, from this place on
abbrev pub prefixed : Prefix → Place → Statement → Statement
prefixed (Label n) p b = statement (syntax.label n b) p (end_of b)
prefixed (Case e) p b = statement (syntax.case_label (tree_of e) b) p (end_of b)
prefixed Default p b = statement (syntax.default_label b) p (end_of b)
prefixed (Switch e) p b = statement (syntax.switch_on (tree_of e) b) p (end_of b)
prefixed (While e) p b = statement (syntax.while_loop (tree_of e) b) p (end_of b)
prefixed (For f) p b = statement (syntax.for_loop (maybe_expression (option_map tree_of f.value.start)) (maybe_expression (option_map tree_of f.value.test)) (maybe_expression (option_map tree_of f.value.step)) b) p (end_of b)

-- A statement that begins with the first tokens has its body at the last, and this is made of that.
pub record HasBody (g : Context) (make : Statement → Statement) (text rest : List Token) : Type 0 where
  pub reads : (b : Statement) (ys : List Terminal) → Reads c_table (at g grammar.statement) (ask (at g grammar.statement)) (c_tokens rest) b ys → Reads c_table (at g grammar.statement) (ask (at g grammar.statement)) (c_tokens text) (make b) ys
  pub fails : (w : Wanted) (bad : List Terminal) → Fails c_table (at g grammar.statement) (ask (at g grammar.statement)) (c_tokens rest) w bad → Fails c_table (at g grammar.statement) (ask (at g grammar.statement)) (c_tokens text) w bad
  pub nests : (d e : ℕ) (bad : List Terminal) → d ≤ 1 + e → Nests c_table c_depths (at g grammar.statement) e (c_tokens rest) bad → Nests c_table c_depths (at g grammar.statement) d (c_tokens text) bad

pub record IsPrefix (g : Context) (depth : ℕ) (text : List Token) (p : Prefix) (reached : ℕ) (rest : List Token) : Type 0 where
  pub body : HasBody g (prefixed p (first_place text)) text rest
  pub deep : (b : Statement) → statement_depth (prefixed p (first_place text) b) ≡ 1 + max reached (statement_depth b)
  pub shallow : 1 + reached ≤ depth
  pub ended : IsEnded rest
  pub fewer : length rest < length text

-- ---- declarations, statements and `}`

-- in any production: of a statement, and of a function's definition
abbrev pub compound : {h : Context} {j : Item syntax_trees} (g : Context) → (List Declaration → List Statement → Terminal → Plan (c_symbols syntax_trees) (at h j)) → Plan (c_symbols syntax_trees) (at h j)
compound g k = get g (grammar.declarations []) (λ ds. get g (grammar.statements []) (λ ss. close_by g grammar.for_name tokens.unbrace (λ z. k ds ss z)))

pub record IsCompound (g : Context) (depth : ℕ) (start : Place) (text : List Token) (made : Statement) (reached : ℕ) (rest : List Token) : Type 0 where
  pub all : List Declaration
  pub statements : List Statement
  pub mark : Token
  pub makes : made ≡ statement (syntax.block (declarations all) (all_statements statements)) start mark.place
  pub leads : (f h : Context) (i j : Item syntax_trees) (m : ItemAnswer j → ItemAnswer i) (k : List Declaration → List Statement → Terminal → Plan (c_symbols syntax_trees) (at h j)) (first : List Token)
      → Inside c_table c_depths (at f i) (at h j) m (compound g k) (c_tokens first) (c_tokens text) → Inside c_table c_depths (at f i) (at h j) m (k all statements (terminal mark)) (c_tokens first) (c_tokens rest)
  pub deep : reached ≡ statement_depth made
  pub shallow : reached ≤ depth
  pub ended : IsEnded rest
  pub fewer : length rest < length text

abbrev pub IsCompoundStop : Context → ℕ → List Token → ReadError → Type 0
IsCompoundStop g depth text stop = (f h : Context) (i j : Item syntax_trees) (m : ItemAnswer j → ItemAnswer i) (k : List Declaration → List Statement → Terminal → Plan (c_symbols syntax_trees) (at h j)) (first : List Token)
    → Inside c_table c_depths (at f i) (at h j) m (compound g k) (c_tokens first) (c_tokens text) → item_down j (grammar.declarations []) ≡ 1 → item_down j (grammar.statements []) ≡ 1 → IsStop f i depth first stop
