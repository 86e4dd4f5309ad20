-- What is said of the parts of units, for which the grammar asks outside of external declarations.
use Rattle.std.specs.Prelude.{◌≡◌, ℕ, ◌≤◌, List, [], ◌∷◌, ⊤}
use Rattle.sp_tree.specs.declared.token.Token.{Token}
use Rattle.sp_tree.specs.declared.token.Kind.TheVariants.{End}
use Rattle.sp_parse_trees.specs.Syntax.{External}
use Rattle.sp_parse_trees.specs.Depth.{unit_depth}
use Rattle.sp_parse_grammar.specs.CTable.{unit, whole}
use Rattle.sp_parse_grammar.specs.Table.{ask, Reads, Fails}
use Rattle.sp_parse_grammar.specs.Depth.{Nests}
use Rattle.sp_parse_tokens.specs.Sorts.{c_tokens}
use Rattle.sp_parse_tokens.specs.SyntaxTrees.{c_table}
use Rattle.sp_parse_tokens.specs.Depths.{c_depths}
use Rattle.sp_parse_tokens.specs.Faults.{Wanted}
use Rattle.sp_parse_tokens.specs.Ended.{IsEnded}
use Rattle.sp_parse_tokens.specs.declared.part.ReadError.{ReadError}
use Rattle.sp_parse_tokens.specs.declared.part.ReadError.TheVariants as stops
use Rattle.sp_parse_expr_steps.specs.Reading.{kind_at}

-- External declarations are read up to the end of the text.
pub record IsUnitRead (depth : ℕ) (text : List Token) (es : List External) (reached : ℕ) : Type 0 where
  pub last : Token
  pub end : last.kind ≡ End
  pub reads : Reads c_table (unit []) (ask (unit [])) (c_tokens text) es (c_tokens (last ∷ []))
  pub deep : reached ≡ unit_depth es
  pub shallow : reached ≤ depth

-- The failing token of the text with its end, or that at which the depth is passed.
abbrev pub IsUnitStop : ℕ → List Token → ReadError → Type 0
IsUnitStop depth text (stops.Fault kind rest) = (w : Wanted) × Fails c_table whole (ask whole) (c_tokens text) w (c_tokens rest.now) × (kind ≡ kind_at w rest.now) × IsEnded rest.now
IsUnitStop depth text (stops.TooDeep rest) = Nests c_table c_depths whole depth (c_tokens text) (c_tokens rest.now) × IsEnded rest.now
IsUnitStop depth text stops.NoMemory = ⊤
