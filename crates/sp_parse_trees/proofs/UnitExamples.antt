-- The definitions on statements and units, each token of which stands one column behind the last.
use Rattle.std.specs.Prelude.{◌≡◌, refl, ℕ, ◌+◌, List, true, false, [], ◌∷◌, Some}
use Rattle.std.proofs.Common.{arith}
use Rattle.sp_tree.specs.declared.fault.Place.{Place}
use Rattle.sp_tree.specs.declared.token.Kind.TheVariants.{Name, Word, Number, Mark}
use Rattle.sp_tree.specs.declared.token.Keyword.TheVariants.{Do, Else, Enum, For, If, Int, Struct, Typedef, While}
use Rattle.sp_tree.specs.declared.token.Punct.TheVariants.{LeftParenthesis, RightParenthesis, LeftBrace, RightBrace, Semicolon, Comma, Ellipsis, Assign}
use Rattle.sp_tree.specs.declared.token.Kind.{Kind}
use Rattle.sp_parse_trees.specs.Syntax.{Expression, expression, name, number, no_expression, some_expression, for_loop, do_loop, Init, one, list, no_inits, next_init, some_init, Declaration, struct_specifier, struct_spec, some_members, enum_specifier, enum_spec, some_constants, no_enumerators, next_enumerator, next_declaration}
use Rattle.sp_parse_trees.specs.Syntax.{Statement, statement, empty, if_else, block, no_statement, some_statement, no_statements, External, definition, external_declaration}
use Rattle.sp_parse_trees.specs.Syntax.{basic, storage, named, no_specifiers, next_specifier, declarator, absent, declared, function, param, no_params, next_param, declaration, no_declarations, no_items, next_item, init_declarator, no_init}
use Rattle.sp_parse_trees.specs.Spelling.{statement_tokens, unit_tokens}
use Rattle.sp_parse_trees.specs.Depth.{statement_depth, unit_depth}
use Rattle.sp_parse_trees.specs.Places.{PlacedStatement, PlacedUnit}
use Rattle.sp_parse_trees.specs.Levels.{IsLevelledStatement, IsLevelledUnit, within}

abbrev at : ℕ → Place
at i = record { name = 0; line = 1; column = i + 1 }

abbrev leaf : ℕ → ℕ → Expression
leaf n i = expression (name n) (at i) (at i)

abbrev nothing_at : ℕ → Statement
nothing_at i = statement empty (at i) (at i)

-- if(a)if(b);else; has its else at the inner if
abbrev nearest : Statement
nearest = statement (if_else (leaf 0 2) (statement (if_else (leaf 1 6) (nothing_at 8) (some_statement (nothing_at 10))) (at 4) (at 10)) no_statement) (at 0) (at 10)

nearest-tokens : statement_tokens nearest ≡ Word If ∷ Mark LeftParenthesis ∷ Name 0 ∷ Mark RightParenthesis ∷ Word If ∷ Mark LeftParenthesis ∷ Name 1 ∷ Mark RightParenthesis ∷ Mark Semicolon ∷ Word Else ∷ Mark Semicolon ∷ []
nearest-tokens = refl

nearest-depth : statement_depth nearest ≡ 3
nearest-depth = refl

nearest-placed : PlacedStatement at nearest
nearest-placed = search

nearest-levelled : IsLevelledStatement (within []) nearest
nearest-levelled = (refl, (refl, tt, (λ h. refl), tt), (λ h. absurd cc), tt)

-- the same tokens with the else at the outer if
abbrev dangling : Statement
dangling = statement (if_else (leaf 0 2) (statement (if_else (leaf 1 6) (nothing_at 8) no_statement) (at 4) (at 8)) (some_statement (nothing_at 10))) (at 0) (at 10)

dangling-tokens : statement_tokens dangling ≡ statement_tokens nearest
dangling-tokens = refl

dangling-not : IsLevelledStatement (within []) dangling → ⊥
dangling-not h = let clash : true ≡ false = h.2 refl in absurd cc

-- typedef int T; T x;
abbrev typed : List External
typed = external_declaration (declaration (next_specifier (storage Typedef) (next_specifier (basic Int) no_specifiers)) (next_item (init_declarator (declarator (declared 9) (at 2)) no_init) no_items) (at 0)) ∷ external_declaration (declaration (next_specifier (named 9) no_specifiers) (next_item (init_declarator (declarator (declared 1) (at 5)) no_init) no_items) (at 4)) ∷ []

typed-tokens : unit_tokens typed ≡ Word Typedef ∷ Word Int ∷ Name 9 ∷ Mark Semicolon ∷ Name 9 ∷ Name 1 ∷ Mark Semicolon ∷ []
typed-tokens = refl

typed-depth : unit_depth typed ≡ 1
typed-depth = refl

typed-placed : PlacedUnit at typed
typed-placed = search

typed-levelled : IsLevelledUnit typed
typed-levelled = ((refl, refl, (refl, (tt, tt)), ((refl, refl, tt), tt)), ((refl, refl, (refl, tt), ((refl, refl, tt), tt)), tt))

-- int f(int,...){} is no definition
abbrev dotted : List External
dotted = definition (next_specifier (basic Int) no_specifiers) (declarator (function (declarator (declared 5) (at 1)) (next_param (param (next_specifier (basic Int) no_specifiers) (declarator absent (at 4))) no_params) true) (at 1)) (statement (block no_declarations no_statements) (at 7) (at 8)) ∷ []

dotted-tokens : unit_tokens dotted ≡ Word Int ∷ Name 5 ∷ Mark LeftParenthesis ∷ Word Int ∷ Mark Comma ∷ Mark Ellipsis ∷ Mark RightParenthesis ∷ Mark LeftBrace ∷ Mark RightBrace ∷ []
dotted-tokens = refl

dotted-placed : PlacedUnit at dotted
dotted-placed = search

dotted-not : IsLevelledUnit dotted → ⊥
dotted-not h = let clash : true ≡ false = h.0.4 in absurd cc

-- struct s{int a;}x={1,{2},};
abbrev one_at : ℕ → ℕ → Init
one_at v i = one (expression (number (record { value = v; decimal = true; unsigned = false; long = false })) (at i) (at i))

abbrev member : Declaration
member = declaration (next_specifier (basic Int) no_specifiers) (next_item (init_declarator (declarator (declared 1) (at 4)) no_init) no_items) (at 3)

abbrev structure : List External
structure = external_declaration (declaration (next_specifier (struct_specifier (struct_spec false (Some 0) (some_members (next_declaration member no_declarations)) (at 0))) no_specifiers)
    (next_item (init_declarator (declarator (declared 2) (at 7)) (some_init (list (next_init (one_at 1 10) (next_init (list (next_init (one_at 2 13) no_inits) false) no_inits)) true))) no_items) (at 0)) ∷ []

abbrev decimal : ℕ → Kind
decimal v = Number (record { value = v; decimal = true; unsigned = false; long = false })

structure-tokens : unit_tokens structure ≡ Word Struct ∷ Name 0 ∷ Mark LeftBrace ∷ Word Int ∷ Name 1 ∷ Mark Semicolon ∷ Mark RightBrace ∷ Name 2 ∷ Mark Assign ∷ Mark LeftBrace ∷ decimal 1 ∷ Mark Comma ∷ Mark LeftBrace ∷ decimal 2 ∷ Mark RightBrace ∷ Mark Comma ∷ Mark RightBrace ∷ Mark Semicolon ∷ []
structure-tokens = refl

-- the list, the list in it, the initialiser 2 and its expression
structure-depth : unit_depth structure ≡ 4
structure-depth = refl

structure-placed : PlacedUnit at structure
structure-placed = search

structure-levelled : IsLevelledUnit structure
structure-levelled = ((refl, refl, ((refl, (refl, ((refl, refl, (tt, tt), refl, ((refl, refl), tt)), tt))), tt), ((refl, refl, (refl, ((omega arith, tt), ((refl, ((omega arith, tt), tt)), tt)))), tt)), tt)

-- enum e{A,B=2};
abbrev enumeration : List External
enumeration = external_declaration (declaration (next_specifier (enum_specifier (enum_spec (Some 0) (some_constants (next_enumerator 1 (at 3) no_expression (next_enumerator 2 (at 5) (some_expression (expression (number (record { value = 2; decimal = true; unsigned = false; long = false })) (at 7) (at 7))) no_enumerators))) (at 0))) no_specifiers) no_items (at 0)) ∷ []

enumeration-tokens : unit_tokens enumeration ≡ Word Enum ∷ Name 0 ∷ Mark LeftBrace ∷ Name 1 ∷ Mark Comma ∷ Name 2 ∷ Mark Assign ∷ decimal 2 ∷ Mark RightBrace ∷ Mark Semicolon ∷ []
enumeration-tokens = refl

-- the value alone counts
enumeration-depth : unit_depth enumeration ≡ 1
enumeration-depth = refl

enumeration-placed : PlacedUnit at enumeration
enumeration-placed = search

enumeration-levelled : IsLevelledUnit enumeration
enumeration-levelled = ((refl, refl, ((refl, (refl, (refl, tt, (refl, (omega arith, tt), tt)))), tt), tt), tt)

-- for(;a;)do;while(b);
abbrev loops : Statement
loops = statement (for_loop no_expression (some_expression (leaf 0 3)) no_expression (statement (do_loop (nothing_at 7) (leaf 1 10)) (at 6) (at 12))) (at 0) (at 12)

loops-tokens : statement_tokens loops ≡ Word For ∷ Mark LeftParenthesis ∷ Mark Semicolon ∷ Name 0 ∷ Mark Semicolon ∷ Mark RightParenthesis ∷ Word Do ∷ Mark Semicolon ∷ Word While ∷ Mark LeftParenthesis ∷ Name 1 ∷ Mark RightParenthesis ∷ Mark Semicolon ∷ []
loops-tokens = refl

loops-depth : statement_depth loops ≡ 3
loops-depth = refl

loops-placed : PlacedStatement at loops
loops-placed = search

loops-levelled : IsLevelledStatement (within []) loops
loops-levelled = (tt, (omega arith, refl), tt, (tt, refl))
