-- What is read of statements and units spells its tokens, each place in it that of its token, and is levelled.
use Rattle.std.specs.Prelude.{ℕ, List, ◌++◌}
use Rattle.sp_parse_trees.specs.Spelling.{statement_tokens, external_tokens, unit_tokens}
use Rattle.sp_parse_trees.specs.Places.{PlacedStatement, PlacedExternal, PlacedUnit}
use Rattle.sp_parse_trees.specs.Levels.{IsLevelledStatement, AreLevelledExternals}
use Rattle.sp_parse_grammar.specs.Table.{ask, Reads}
use Rattle.sp_parse_grammar.specs.CTable as grammar
use Rattle.sp_parse_grammar.specs.CTable.{Context, Answer, at, unit}
use Rattle.sp_parse_tokens.specs.Sorts.{Terminal}
use Rattle.sp_parse_tokens.specs.SyntaxTrees.{syntax_trees, c_table}
use Rattle.sp_parse_laws.specs.Spelled.{Spelled, EachAnswer}

abbrev pub StatementsAreSpelled : Type 0
StatementsAreSpelled = EachAnswer grammar.statement (λ ws s. Spelled statement_tokens PlacedStatement ws s)

abbrev pub ExternalsAreSpelled : Type 0
ExternalsAreSpelled = EachAnswer grammar.external (λ ws e. Spelled external_tokens PlacedExternal ws e.tree)

-- whatever names are type names before the unit
abbrev pub UnitsAreSpelled : Type 0
UnitsAreSpelled = (types : List ℕ) (front rest : List Terminal) (es : Answer {t = syntax_trees} (unit types))
    → Reads c_table (unit types) (ask (unit types)) (front ++ rest) es rest → Spelled unit_tokens PlacedUnit front es

-- in any context, with each `else` at its nearest `if`
abbrev pub StatementsAreLevelled : Type 0
StatementsAreLevelled = (g : Context) (tokens rest : List Terminal) (s : Answer {t = syntax_trees} (at g grammar.statement))
    → Reads c_table (at g grammar.statement) (ask (at g grammar.statement)) tokens s rest → IsLevelledStatement (record { types = g.types; inside = g.inside }) s

-- where these names are type names before the unit
abbrev pub UnitsAreLevelled : Type 0
UnitsAreLevelled = (types : List ℕ) (tokens rest : List Terminal) (es : Answer {t = syntax_trees} (unit types))
    → Reads c_table (unit types) (ask (unit types)) tokens es rest → AreLevelledExternals types es
