-- What the laws of units say, tried on small texts.
use Rattle.std.proofs.Common.{◌≡◌, ℕ, true, false, List, [], ◌∷◌, ◌++◌, refl, arith}
use Rattle.sp_tree.specs.declared.fault.FaultKind.TheVariants.{UnexpectedToken, ImplicitInt, TypedefAsOrdinaryName}
use Rattle.sp_tree.specs.declared.fault.Place.{Place}
use Rattle.sp_tree.specs.declared.token.Kind.{Kind}
use Rattle.sp_tree.specs.declared.token.Kind.TheVariants.{Name, Word, Mark, End}
use Rattle.sp_tree.specs.declared.token.Keyword.TheVariants.{For, Int, Typedef}
use Rattle.sp_tree.specs.declared.token.Punct.TheVariants.{Semicolon, Star, LeftBrace, RightBrace, LeftParenthesis, RightParenthesis}
use Rattle.sp_tree.specs.declared.token.Token.{Token}
use Rattle.sp_parse_trees.specs.Syntax as syntax
use Rattle.sp_parse_trees.specs.Syntax.{Expression, expression, name, Specifiers, no_specifiers, next_specifier, storage, basic, named, Declarator, declarator, declared, function, no_params, init_declarator, no_init, no_items, next_item, declaration, no_declarations, Statement, statement, block, empty, if_else, no_statement, some_statement, no_statements, next_statement, External, definition, external_declaration}
use Rattle.sp_parse_trees.specs.Spelling.{unit_tokens}
use Rattle.sp_parse_trees.specs.Levels.{IsLevelledUnit}
use Rattle.sp_parse_grammar.specs.CTokens as tokens
use Rattle.sp_parse_grammar.specs.Table.{done, ask, wanted, open_take}
use Rattle.sp_parse_grammar.specs.Depth.{nests, deep_here, deep_inside, deep_behind}
use Rattle.sp_parse_grammar.specs.CTable as grammar
use Rattle.sp_parse_grammar.specs.CTable.{whole}
use Rattle.sp_parse_grammar.proofs.Running.{run, is_read, is_fault}
use Rattle.sp_parse_tokens.specs.Sorts.{c_tokens}
use Rattle.sp_parse_tokens.specs.SyntaxTrees.{syntax_trees, c_table}
use Rattle.sp_parse_laws.proofs.Lifts.{fault_tree, nested_tree}
use Rattle.sp_parse_laws.specs.UnitAnswers.{units, IsOneUnit, IsUnitFault, IsUnitNested}
use Rattle.sp_parse_laws.proofs.WholeUnits.{unit_reader}
use Rattle.sp_parse_laws.proofs.UnitsAgain.{units_again}

-- the place of a column
abbrev spot : ℕ → Place
spot n = record { name = 0; line = 1; column = n }

abbrev token : Kind → ℕ → Token
token k c = record { kind = k; place = spot c }

-- ---- units

-- the text without tokens is the empty unit
row_1 : IsOneUnit 0 (token End 1 ∷ []) []
row_1 = units_again.again 0 (token End 1 ∷ []) (token End 1) [] tt (omega arith) refl (record { front = []; whole = refl; kinds_of = refl }, tt)

-- typedef int T;T x;
abbrev a_typedef : External
a_typedef = external_declaration (declaration (next_specifier (storage Typedef) (next_specifier (basic Int) no_specifiers)) (next_item (init_declarator (declarator (declared 0) (spot 3)) no_init) no_items) (spot 1))

abbrev of_type : External
of_type = external_declaration (declaration (next_specifier (named 0) no_specifiers) (next_item (init_declarator (declarator (declared 1) (spot 6)) no_init) no_items) (spot 5))

abbrev typed_front : List Token
typed_front = token (Word Typedef) 1 ∷ token (Word Int) 2 ∷ token (Name 0) 3 ∷ token (Mark Semicolon) 4 ∷ token (Name 0) 5 ∷ token (Name 1) 6 ∷ token (Mark Semicolon) 7 ∷ []

row_2 : IsOneUnit 1 (typed_front ++ token End 8 ∷ []) (a_typedef ∷ of_type ∷ [])
row_2 = units_again.again 1 (typed_front ++ token End 8 ∷ []) (token End 8) (a_typedef ∷ of_type ∷ []) ((refl, refl, (refl, (tt, tt)), ((refl, refl, tt), tt)), ((refl, refl, (refl, tt), ((refl, refl, tt), tt)), tt)) (omega arith) refl
    (record { front = typed_front; whole = refl; kinds_of = refl }, ((refl, (tt, (tt, tt)), (((refl, tt), tt), tt)), ((refl, (tt, tt), (((refl, tt), tt), tt)), tt)))

-- the second declaration alone is no unit: its first name is no type's
row_3 : IsLevelledUnit (of_type ∷ []) → ⊥
row_3 h = let none = h.0.2.0 in absurd cc

-- ---- the nearest `if`

abbrev plain_name : ℕ → Expression
plain_name n = expression (name n) (spot 0) (spot 0)

abbrev placed_nowhere : syntax.StatementForm → Statement
placed_nowhere f = statement f (spot 0) (spot 0)

-- a function of this body
abbrev of_body : Statement → External
of_body s = definition (next_specifier (basic Int) no_specifiers) (declarator (function (declarator (declared 0) (spot 0)) no_params false) (spot 0)) (placed_nowhere (block no_declarations (next_statement s no_statements)))

-- int f(){if(a)if(b);else;} with the `else` at the inner `if`, and at the outer one
abbrev at_inner : Statement
at_inner = placed_nowhere (if_else (plain_name 1) (placed_nowhere (if_else (plain_name 2) (placed_nowhere empty) (some_statement (placed_nowhere empty)))) no_statement)

abbrev at_outer : Statement
at_outer = placed_nowhere (if_else (plain_name 1) (placed_nowhere (if_else (plain_name 2) (placed_nowhere empty) no_statement)) (some_statement (placed_nowhere empty)))

row_4 : unit_tokens (of_body at_inner ∷ []) ≡ unit_tokens (of_body at_outer ∷ [])
row_4 = refl

row_5 : IsLevelledUnit (of_body at_inner ∷ [])
row_5 = ((refl, (tt, tt), refl, (refl, refl, (λ e. absurd cc), tt), refl, refl, (tt, ((refl, (refl, tt, (λ e. refl), tt), (λ e. absurd cc), tt), tt))), tt)

row_6 : IsLevelledUnit (of_body at_outer ∷ []) → ⊥
row_6 h = let closed = h.0.6.1.0.2 refl in absurd cc

-- ---- failing tokens

-- int a, which fails at its end
row_7 : IsUnitFault (token (Word Int) 1 ∷ token (Name 0) 2 ∷ token End 3 ∷ []) UnexpectedToken 2
row_7 = fault_tree units [] whole unit_reader (token (Word Int) 1 ∷ token (Name 0) 2 ∷ []) (token End 3) [] (wanted (grammar.only (grammar.outside []) grammar.plainly tokens.semicolon))
    (is_fault (run c_table 60 (ask whole) (c_tokens (token (Word Int) 1 ∷ token (Name 0) 2 ∷ token End 3 ∷ []))) (refl, refl))

-- int a;}
row_8 : IsUnitFault (token (Word Int) 1 ∷ token (Name 0) 2 ∷ token (Mark Semicolon) 3 ∷ token (Mark RightBrace) 4 ∷ token End 5 ∷ []) UnexpectedToken 3
row_8 = fault_tree units [] whole unit_reader (token (Word Int) 1 ∷ token (Name 0) 2 ∷ token (Mark Semicolon) 3 ∷ []) (token (Mark RightBrace) 4) (token End 5 ∷ []) (wanted (grammar.only (grammar.outside []) grammar.for_external tokens.end))
    (is_fault (run c_table 60 (ask whole) (c_tokens (token (Word Int) 1 ∷ token (Name 0) 2 ∷ token (Mark Semicolon) 3 ∷ token (Mark RightBrace) 4 ∷ token End 5 ∷ []))) (refl, refl))

-- f(){}, where `int` is left out
row_9 : IsUnitFault (token (Name 0) 1 ∷ token (Mark LeftParenthesis) 2 ∷ token (Mark RightParenthesis) 3 ∷ token (Mark LeftBrace) 4 ∷ token (Mark RightBrace) 5 ∷ token End 6 ∷ []) ImplicitInt 0
row_9 = fault_tree units [] whole unit_reader [] (token (Name 0) 1) (token (Mark LeftParenthesis) 2 ∷ token (Mark RightParenthesis) 3 ∷ token (Mark LeftBrace) 4 ∷ token (Mark RightBrace) 5 ∷ token End 6 ∷ []) (wanted (grammar.only (grammar.outside []) grammar.for_external tokens.end))
    (is_fault (run c_table 60 (ask whole) (c_tokens (token (Name 0) 1 ∷ token (Mark LeftParenthesis) 2 ∷ token (Mark RightParenthesis) 3 ∷ token (Mark LeftBrace) 4 ∷ token (Mark RightBrace) 5 ∷ token End 6 ∷ []))) (refl, refl))

-- typedef int T;int f(){for(;T
abbrev loop_front : List Token
loop_front = token (Word Typedef) 1 ∷ token (Word Int) 2 ∷ token (Name 0) 3 ∷ token (Mark Semicolon) 4 ∷ token (Word Int) 5 ∷ token (Name 1) 6 ∷ token (Mark LeftParenthesis) 7 ∷ token (Mark RightParenthesis) 8 ∷ token (Mark LeftBrace) 9 ∷ token (Word For) 10 ∷ token (Mark LeftParenthesis) 11 ∷ token (Mark Semicolon) 12 ∷ []

abbrev in_loop : grammar.Context
in_loop = record { types = 0 ∷ []; inside = true; members = false }

row_10 : IsUnitFault (loop_front ++ token (Name 0) 13 ∷ token End 14 ∷ []) TypedefAsOrdinaryName 12
row_10 = fault_tree units [] whole unit_reader loop_front (token (Name 0) 13) (token End 14 ∷ []) (wanted (grammar.only in_loop grammar.for_name tokens.semicolon))
    (is_fault (run c_table 200 (ask whole) (c_tokens (loop_front ++ token (Name 0) 13 ∷ token End 14 ∷ []))) (refl, refl))

-- ---- the depth

-- what is seen with `int`, and the list of it
abbrev int_seen : tokens.Seen
int_seen = record { stored = false; signed = false; length = tokens.plain_length; base = tokens.int_base }

abbrev one_int : grammar.Specified syntax_trees
one_int = record { all = record { tree = basic Int; place = spot 1 } ∷ []; typedefs = false }

-- int*p; is two deep, which shows at its `*`
abbrev pointer_rest : List Token
pointer_rest = token (Name 0) 3 ∷ token (Mark Semicolon) 4 ∷ token End 5 ∷ []

row_11 : IsUnitNested 1 (token (Word Int) 1 ∷ token (Mark Star) 2 ∷ pointer_rest) 1
row_11 =
    let tokens = c_tokens (token (Word Int) 1 ∷ token (Mark Star) 2 ∷ pointer_rest) in
    let first = is_read (run c_table 20 (grammar.next (λ y. grammar.get (grammar.outside []) (grammar.specifiers true int_seen one_int) (λ o. done o))) tokens) refl in
    nested_tree units [] whole unit_reader 1 (token (Word Int) 1 ∷ []) (token (Mark Star) 2) pointer_rest
    (nests refl (deep_inside {e = 1} refl (omega arith) (deep_inside {e = 1} refl (omega arith) (deep_behind refl first.1 (deep_inside {e = 1} refl (omega arith) (deep_inside {e = 1} refl (omega arith) (deep_here refl (open_take refl) (omega arith))))))))
