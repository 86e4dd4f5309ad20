-- What the parts of the code are as answers of the grammar.
use Rattle.std.specs.Prelude.{ℕ, Bool, List, [], ◌∷◌}
use Rattle.sp_tree.specs.declared.token.Token.{Token}
use Rattle.sp_parse_trees.specs.View.{external_of}
use Rattle.sp_parse_grammar.specs.CTokens as tokens
use Rattle.sp_parse_grammar.specs.CTokens.{Sort, view}
use Rattle.sp_parse_grammar.specs.CTable as grammar
use Rattle.sp_parse_tokens.specs.Sorts.{sort_of}
use Rattle.sp_parse_tokens.specs.Makers.{SpecifierAt}
use Rattle.sp_parse_tokens.specs.SyntaxTrees.{syntax_trees}
use Rattle.sp_decl_parser.specs.declared.externals.ExternalPart.{ExternalPart}

-- an external declaration, and the names that it makes type names
abbrev pub external_part : ExternalPart → grammar.Declares syntax_trees
external_part e = record { tree = external_of e.tree; types = e.types.items }

-- specifiers, and whether `typedef` is among them
abbrev pub specified : List SpecifierAt → Bool → grammar.Specified syntax_trees
specified all typedefs = record { all = all; typedefs = typedefs }

-- the sort of the first token
abbrev pub sort_of_first : List ℕ → List Token → Sort
sort_of_first types [] = tokens.mark tokens.end
sort_of_first types (x ∷ xs) = view types (sort_of x.kind)
