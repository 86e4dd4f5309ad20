-- A part that takes a token at least.
use Rattle.std.specs.Prelude.{ℕ, ◌<◌, List, length, Result, MatchResult}
use Rattle.sp_tree.specs.declared.token.Token.{Token}
use Rattle.sp_parse_grammar.specs.CTable.{Context, Item, ItemAnswer}
use Rattle.sp_parse_tokens.specs.SyntaxTrees.{syntax_trees}
use Rattle.sp_parse_tokens.specs.declared.part.Part.{Part}
use Rattle.sp_parse_tokens.specs.declared.part.ReadError.{ReadError}
use Rattle.sp_parse_expr_steps.specs.Reading.{IsRead, IsStop}

-- The answer is read for the ask, of one token at least.
pub record IsTaken (g : Context) (i : Item syntax_trees) (depth : ℕ) (text : List Token) (a : ItemAnswer i) (reached : ℕ) (rest : List Token) : Type 0 where
  pub read : IsRead g i depth text a reached rest
  pub fewer : length rest < length text

-- The answer of a reader whose part takes a token at least.
abbrev pub Takes : {T : Type 0} (g : Context) (i : Item syntax_trees) (depth : ℕ)
    (text : List Token) (seen : T → ItemAnswer i) → Result (Part T) ReadError → Type 0
Takes g i depth text seen result = MatchResult result
    (λ part. IsTaken g i depth text (seen part.tree) part.depth part.rest.now)
    (IsStop g i depth text)
