-- What is said of a production between two of its readers.
use Rattle.std.specs.Prelude.{◌≡◌, ℕ, ◌+◌, ◌≤◌, List, length}
use Rattle.sp_tree.specs.declared.token.Token.{Token}
use Rattle.sp_parse_trees.specs.declared.tree.TypeName.{TypeName}
use Rattle.sp_parse_trees.specs.Syntax.{Expression}
use Rattle.sp_parse_trees.specs.Depth.{depth as depth_of}
use Rattle.sp_parse_trees.specs.View.{type_name_of}
use Rattle.sp_parse_grammar.specs.CTokens as tokens
use Rattle.sp_parse_grammar.specs.CTable as grammar
use Rattle.sp_parse_grammar.specs.CTable.{Context, at}
use Rattle.sp_parse_grammar.specs.Table.{ask, Reads}
use Rattle.sp_parse_tokens.specs.Sorts.{c_tokens, terminal}
use Rattle.sp_parse_tokens.specs.SyntaxTrees.{c_table, syntax_trees}
use Rattle.sp_parse_tokens.specs.Ended.{IsEnded}
use Rattle.sp_parse_tokens.specs.Expecting.{IsExpected}
use Rattle.sp_parse_tokens.specs.declared.scope.AlsoAllowed.{AlsoAllowed}
use Rattle.sp_parse_tokens.specs.declared.part.Operand.{Operand}
use Rattle.sp_parse_expr_steps.specs.Reading.{IsRead, IsTypeName, operand_seen}

-- Behind a `?` an expression and the `:` are read.
pub record IsBehindColon (g : Context) (depth : ℕ) (text : List Token) (o : Operand) (reached : ℕ) (rest : List Token) : Type 0 where
  pub mid : List Token
  pub read : IsRead g (grammar.level 13) depth text (operand_seen o) reached mid
  pub closes : IsExpected g.types tokens.colon mid rest
  pub ended : IsEnded rest
  pub fewer : 1 + length rest ≤ length text

-- Behind a `(` a type name and the `)` are read.
pub record IsTarget (g : Context) (depth : ℕ) (text : List Token) (name : TypeName) (reached : ℕ) (rest : List Token) : Type 0 where
  pub mid : List Token
  pub behind : AlsoAllowed
  pub read : IsTypeName g depth text (type_name_of name) behind reached mid
  pub closes : IsExpected g.types tokens.closing mid rest
  pub ended : IsEnded rest
  pub fewer : 1 + length rest ≤ length text

-- Behind a `(` an expression and the `)` are read, and make this group.
pub record IsGroup (g : Context) (opening : Token) (depth : ℕ) (text : List Token) (tree : Expression) (reached : ℕ) (rest : List Token) : Type 0 where
  pub inner : grammar.Operand syntax_trees
  pub mid : List Token
  pub one : Reads c_table (at g (grammar.level 13)) (ask (at g (grammar.level 13))) (c_tokens text) inner (c_tokens mid)
  pub closes : IsExpected g.types tokens.closing mid rest
  pub makes : tree ≡ syntax_trees.paren (terminal opening) inner.tree
  pub deep : reached ≡ depth_of tree
  pub shallow : reached ≤ depth
  pub ended : IsEnded rest
  pub fewer : 1 + length rest ≤ length text
