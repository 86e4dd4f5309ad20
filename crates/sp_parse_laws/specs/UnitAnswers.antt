-- What a parser of units answers, said by levelled units alone (C90 6.7), and the laws on which it rests.
--
-- A text ends with `End`. The failing token of a text that is no unit may be that end, so units are spoken of with the end of their
-- text where a token is looked for, and without it where a unit was read.
use Rattle.std.specs.Prelude.{◌≡◌, ℕ, ◌≤◌, List, [], ◌∷◌, ◌++◌, length}
use Rattle.sp_tree.specs.declared.fault.FaultKind.{FaultKind}
use Rattle.sp_tree.specs.declared.token.Kind.{Kind}
use Rattle.sp_tree.specs.declared.token.Kind.TheVariants.{End}
use Rattle.sp_tree.specs.declared.token.Token.{Token}
use Rattle.sp_parse_trees.specs.Syntax.{External}
use Rattle.sp_parse_trees.specs.Spelling.{unit_tokens}
use Rattle.sp_parse_trees.specs.Places.{place_at, PlacedUnit, Spells, SpellsUnit}
use Rattle.sp_parse_trees.specs.Levels.{AreLevelledExternals, IsLevelledUnit}
use Rattle.sp_parse_trees.specs.Depth.{unit_depth}
use Rattle.sp_parse_grammar.specs.Table.{ask, Reads, Fails}
use Rattle.sp_parse_grammar.specs.Depth.{Nests}
use Rattle.sp_parse_grammar.specs.CTable.{unit, whole}
use Rattle.sp_parse_tokens.specs.Sorts.{c_tokens}
use Rattle.sp_parse_tokens.specs.SyntaxTrees.{c_table}
use Rattle.sp_parse_tokens.specs.Depths.{c_depths}
use Rattle.sp_parse_tokens.specs.Faults.{Wanted, fault_of}
use Rattle.sp_parse_laws.specs.Answers.{Language, IsFault, IsNested}

-- the kinds of a unit's tokens, with the end of its text
abbrev pub text_of : List External → List Kind
text_of es = unit_tokens es ++ End ∷ []

-- Units with the end of their text. No names are types before the first external declaration: the list is empty.
abbrev pub units : Language
units = record { Tree = List External; kinds = text_of; Levelled = λ types es. AreLevelledExternals types es; depth = unit_depth; Spelled = λ tokens es rest. Spells tokens (text_of es) rest × PlacedUnit (place_at tokens) es }

-- The unit is levelled, no deeper than allowed, and spells all of the tokens but the end of the text, which is the last; each place in
-- it is that of its token.
pub record IsUnit (depth : ℕ) (tokens : List Token) (es : List External) : Type 0 where
  pub last : Token
  pub end : last.kind ≡ End
  pub spells : SpellsUnit tokens es (last ∷ [])
  pub levelled : IsLevelledUnit es
  pub shallow : unit_depth es ≤ depth

-- Behind that many tokens stands the failing one: some unit's text goes on up to it, none with it, and none ends before it. Its fault is
-- that of what the grammar wanted there.
abbrev pub IsUnitFault : List Token → FaultKind → ℕ → Type 0
IsUnitFault tokens fault count = IsFault units whole [] tokens fault count

-- Behind that many tokens stands one up to which some unit's text goes on, itself included, and each that does is too deep.
abbrev pub IsUnitNested : ℕ → List Token → ℕ → Type 0
IsUnitNested depth tokens count = IsNested units [] depth tokens count

-- The grammar reads exactly the levelled units: what is read up to the end of the text is one, where the text with its end fails stands
-- the failing token, and where it nests the depth is passed.
pub record UnitsAreParsed : Type 0 where
  pub read : (depth : ℕ) (front : List Token) (last : Token) (es : List External) → last.kind ≡ End → Reads c_table (unit []) (ask (unit [])) (c_tokens (front ++ last ∷ [])) es (c_tokens (last ∷ [])) → unit_depth es ≤ depth
      → IsUnit depth (front ++ last ∷ []) es
  pub fault : (front : List Token) (bad : Token) (more : List Token) (want : Wanted) → Fails c_table whole (ask whole) (c_tokens (front ++ bad ∷ more)) want (c_tokens (bad ∷ more))
      → IsUnitFault (front ++ bad ∷ more) (fault_of want front bad) (length front)
  pub nested : (depth : ℕ) (front : List Token) (bad : Token) (more : List Token) → Nests c_table c_depths whole depth (c_tokens (front ++ bad ∷ more)) (c_tokens (bad ∷ more))
      → IsUnitNested depth (front ++ bad ∷ more) (length front)

-- The unit is the one answer to these tokens: no other unit is, whatever depth is allowed, and there is neither a fault nor a depth that
-- is passed. So a parser whose answers are these can answer that unit alone, or want of memory.
pub record IsOneUnit (depth : ℕ) (tokens : List Token) (es : List External) : Type 0 where
  pub is_unit : IsUnit depth tokens es
  pub no_other : (other : List External) (allowed : ℕ) → IsUnit allowed tokens other → other ≡ es
  pub no_fault : (fault : FaultKind) (count : ℕ) → ¬ IsUnitFault tokens fault count
  pub not_nested : (count : ℕ) → ¬ IsUnitNested depth tokens count

-- Each levelled unit is read again as itself.
pub record UnitsAreReadAgain : Type 0 where
  -- two of the same tokens, each place that of its token, are the same
  pub one_unit : (tokens rest : List Token) (a b : List External) → IsLevelledUnit a → IsLevelledUnit b → SpellsUnit tokens a rest → SpellsUnit tokens b rest → a ≡ b
  -- one of a depth that is allowed, spelled by all tokens but the end of the text, is the answer to them
  pub again : (depth : ℕ) (tokens : List Token) (last : Token) (es : List External) → IsLevelledUnit es → unit_depth es ≤ depth → last.kind ≡ End → SpellsUnit tokens es (last ∷ []) → IsOneUnit depth tokens es
