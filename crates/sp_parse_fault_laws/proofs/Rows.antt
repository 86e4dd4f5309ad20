-- What the law of type names says, tried on small texts.
use Rattle.std.proofs.Common.{ℕ, true, false, List, [], ◌∷◌, ◌++◌, refl}
use Rattle.sp_tree.specs.declared.token.Kind.{Kind}
use Rattle.sp_tree.specs.declared.token.Kind.TheVariants.{Name, Word, Mark, End}
use Rattle.sp_tree.specs.declared.token.Keyword.TheVariants.{For, Int, Typedef}
use Rattle.sp_tree.specs.declared.token.Punct.TheVariants.{Plus, Semicolon, LeftBrace, LeftParenthesis, RightParenthesis}
use Rattle.sp_tree.specs.declared.token.Token.{Token}
use Rattle.sp_parse_grammar.specs.CTokens as tokens
use Rattle.sp_parse_grammar.specs.Table.{ask, wanted, asked}
use Rattle.sp_parse_grammar.specs.CTable as grammar
use Rattle.sp_parse_grammar.specs.CTable.{at, whole}
use Rattle.sp_parse_grammar.proofs.Running.{run, is_fault}
use Rattle.sp_parse_tokens.specs.Sorts.{c_tokens}
use Rattle.sp_parse_tokens.specs.SyntaxTrees.{c_table}
use Rattle.sp_parse_laws.specs.Answers.{expressions, expression_ask}
use Rattle.sp_parse_laws.specs.UnitAnswers.{units}
use Rattle.sp_parse_fault_laws.specs.Told.{CouldBeName}
use Rattle.sp_parse_fault_laws.proofs.NamesTold.{names_told}

-- the place of a column
abbrev token : Kind → ℕ → Token
token k c = record { kind = k; place = record { name = 0; line = 1; column = c } }

abbrev end : Token
end = token End 20

-- the name of a type, and its text
abbrev type_there : Token
type_there = token (Name 0) 13

abbrev typed : List Token
typed = token (Word Typedef) 1 ∷ token (Word Int) 2 ∷ token (Name 0) 3 ∷ token (Mark Semicolon) 4 ∷ []

abbrev typed_context : grammar.Context
typed_context = record { types = 0 ∷ []; inside = false; members = false }

abbrev in_body : grammar.Context
in_body = record { types = 0 ∷ []; inside = true; members = false }

abbrev body : List Token
body = typed ++ token (Word Int) 5 ∷ token (Name 1) 6 ∷ token (Mark LeftParenthesis) 7 ∷ token (Mark RightParenthesis) 8 ∷ token (Mark LeftBrace) 9 ∷ []

-- typedef int T;int f(){for(;T has a name in its place
abbrev loop_front : List Token
loop_front = body ++ token (Word For) 10 ∷ token (Mark LeftParenthesis) 11 ∷ token (Mark Semicolon) 12 ∷ []

row_1 : CouldBeName units [] loop_front 7
row_1 = (names_told.in_units loop_front type_there (end ∷ []) (wanted (grammar.only in_body grammar.for_name tokens.semicolon)) (is_fault (run c_table 200 (ask whole) (c_tokens (loop_front ++ type_there ∷ end ∷ []))) (refl, refl)) refl 7 refl).0 refl

-- typedef int T;int a T has none
abbrev item_front : List Token
item_front = typed ++ token (Word Int) 5 ∷ token (Name 1) 6 ∷ []

row_2 : CouldBeName units [] item_front 7 → ⊥
row_2 could = let note = (names_told.in_units item_front type_there (end ∷ []) (wanted (grammar.only typed_context grammar.plainly tokens.semicolon)) (is_fault (run c_table 200 (ask whole) (c_tokens (item_front ++ type_there ∷ end ∷ []))) (refl, refl)) refl 7 refl).1 could in absurd cc

-- typedef int T;int f(){;T has one: a statement is wanted there
abbrev statement_front : List Token
statement_front = body ++ token (Mark Semicolon) 10 ∷ []

row_3 : CouldBeName units [] statement_front 7
row_3 = (names_told.in_units statement_front type_there (end ∷ []) (wanted (grammar.only in_body grammar.for_name tokens.unbrace)) (is_fault (run c_table 200 (ask whole) (c_tokens (statement_front ++ type_there ∷ end ∷ []))) (refl, refl)) refl 7 refl).0 refl

-- ---- an expression by itself

abbrev plus : Token
plus = token (Mark Plus) 2

abbrev sum_front : List Token
sum_front = token (Name 1) 1 ∷ plus ∷ []

-- a+T has a name in its place, a T has none
row_4 : CouldBeName expressions (0 ∷ []) sum_front 7
row_4 = (names_told.in_expressions (0 ∷ []) sum_front type_there (end ∷ []) (asked (at typed_context grammar.primary)) (is_fault (run c_table 200 (ask (expression_ask (0 ∷ []))) (c_tokens (sum_front ++ type_there ∷ end ∷ []))) (refl, refl)) refl 7 refl).0 refl

-- (a T
abbrev group_front : List Token
group_front = token (Mark LeftParenthesis) 1 ∷ token (Name 1) 2 ∷ []

row_5 : CouldBeName expressions (0 ∷ []) group_front 7 → ⊥
row_5 could = let note = (names_told.in_expressions (0 ∷ []) group_front type_there (end ∷ []) (wanted (grammar.only typed_context grammar.plainly tokens.closing)) (is_fault (run c_table 200 (ask (expression_ask (0 ∷ []))) (c_tokens (group_front ++ type_there ∷ end ∷ []))) (refl, refl)) refl 7 refl).1 could in absurd cc
