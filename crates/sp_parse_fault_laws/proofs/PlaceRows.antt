-- What the laws of parameters and of `typedef` say, tried on small texts.
use Rattle.std.proofs.Common.{ℕ, true, false, List, [], ◌∷◌, ◌++◌, refl}
use Rattle.sp_tree.specs.declared.token.Kind.{Kind}
use Rattle.sp_tree.specs.declared.token.Kind.TheVariants.{Name, Word, Mark, End}
use Rattle.sp_tree.specs.declared.token.Keyword.TheVariants.{Float, Int, Return, Sizeof, Struct, Typedef}
use Rattle.sp_tree.specs.declared.token.Punct.TheVariants.{Comma, LeftBrace, LeftParenthesis, RightParenthesis}
use Rattle.sp_tree.specs.declared.token.Token.{Token}
use Rattle.sp_parse_grammar.specs.CTokens as tokens
use Rattle.sp_parse_grammar.specs.CTokens.{nothing_seen}
use Rattle.sp_parse_grammar.specs.Table.{ask, wanted, asked}
use Rattle.sp_parse_grammar.specs.CTable as grammar
use Rattle.sp_parse_grammar.specs.CTable.{at, whole}
use Rattle.sp_parse_grammar.proofs.Running.{run, is_fault}
use Rattle.sp_parse_tokens.specs.Sorts.{c_tokens}
use Rattle.sp_parse_tokens.specs.SyntaxTrees.{c_table}
use Rattle.sp_parse_laws.specs.Answers.{kinds_of, expressions, expression_ask}
use Rattle.sp_parse_laws.specs.UnitAnswers.{units}
use Rattle.sp_parse_fault_laws.specs.Missing.{CouldBeWord}
use Rattle.sp_parse_fault_laws.specs.Functions.{EndsInBody}
use Rattle.sp_parse_fault_laws.proofs.ParametersTold.{parameters_told}
use Rattle.sp_parse_fault_laws.proofs.TypedefsTold.{typedefs_told}

-- the place of a column
abbrev token : Kind → ℕ → Token
token k c = record { kind = k; place = record { name = 0; line = 1; column = c } }

abbrev end : Token
end = token End 20

abbrev name_there : Token
name_there = token (Name 1) 12

-- int f(a has a parameter in its place
abbrev first_front : List Token
first_front = token (Word Int) 1 ∷ token (Name 0) 2 ∷ token (Mark LeftParenthesis) 3 ∷ []

row_1 : CouldBeWord Float units [] first_front
row_1 = ((parameters_told.in_units first_front name_there (end ∷ []) (wanted (grammar.only (grammar.outside []) grammar.for_parameter tokens.closing)) (is_fault (run c_table 200 (ask whole) (c_tokens (first_front ++ name_there ∷ end ∷ []))) (refl, refl))).0 refl).2

-- int f(int,a
abbrev next_front : List Token
next_front = first_front ++ token (Word Int) 4 ∷ token (Mark Comma) 5 ∷ []

row_2 : CouldBeWord Float units [] next_front
row_2 = ((parameters_told.in_units next_front name_there (end ∷ []) (asked (at (grammar.outside []) (grammar.specifiers true nothing_seen grammar.no_specifiers))) (is_fault (run c_table 200 (ask whole) (c_tokens (next_front ++ name_there ∷ end ∷ []))) (refl, refl))).0 refl).2

-- sizeof(int(a
abbrev size_front : List Token
size_front = token (Word Sizeof) 1 ∷ token (Mark LeftParenthesis) 2 ∷ token (Word Int) 3 ∷ token (Mark LeftParenthesis) 4 ∷ []

row_3 : CouldBeWord Float expressions [] size_front
row_3 = ((parameters_told.in_expressions [] size_front name_there (end ∷ []) (asked (at (grammar.outside []) (grammar.group grammar.abstract))) (is_fault (run c_table 200 (ask (expression_ask [])) (c_tokens (size_front ++ name_there ∷ end ∷ []))) (refl, refl))).0 refl).2

-- ---- the word `typedef`

abbrev word_there : Token
word_there = token (Word Typedef) 12

abbrev body : List Token
body = first_front ++ token (Mark RightParenthesis) 4 ∷ token (Mark LeftBrace) 5 ∷ []

abbrev in_body : grammar.Context
in_body = record { types = []; inside = true; members = false }

-- int f(){return typedef is in a function, though no storage class could be there
abbrev return_front : List Token
return_front = body ++ token (Word Return) 6 ∷ []

row_4 : EndsInBody [] (kinds_of return_front)
row_4 = (typedefs_told.in_units return_front word_there (end ∷ []) (wanted (grammar.only in_body grammar.for_name tokens.semicolon)) (is_fault (run c_table 200 (ask whole) (c_tokens (return_front ++ word_there ∷ end ∷ []))) (refl, refl)) refl).0 refl

-- struct s{typedef is in none
abbrev struct_front : List Token
struct_front = token (Word Struct) 1 ∷ token (Name 0) 2 ∷ token (Mark LeftBrace) 3 ∷ []

abbrev in_members : grammar.Context
in_members = record { types = []; inside = false; members = true }

row_5 : EndsInBody [] (kinds_of struct_front) → ⊥
row_5 ends = let note = (typedefs_told.in_units struct_front word_there (end ∷ []) (asked (at in_members (grammar.specifiers false nothing_seen grammar.no_specifiers))) (is_fault (run c_table 200 (ask whole) (c_tokens (struct_front ++ word_there ∷ end ∷ []))) (refl, refl)) refl).1 ends in absurd cc
