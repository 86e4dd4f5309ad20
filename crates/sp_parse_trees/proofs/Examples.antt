-- The definitions on small texts, each token of which stands one column behind the last.
use Rattle.std.specs.Prelude.{◌≡◌, refl, ℕ, ◌+◌, true, false, [], ◌∷◌}
use Rattle.std.proofs.Common.{arith}
use Rattle.sp_tree.specs.declared.fault.Place.{Place}
use Rattle.sp_tree.specs.declared.token.Number.{Number as Integer}
use Rattle.sp_tree.specs.declared.token.Kind.TheVariants.{Name, Word, Number, Text, Mark}
use Rattle.sp_tree.specs.declared.token.Keyword.TheVariants.{Char, Const, Int, Sizeof}
use Rattle.sp_tree.specs.declared.token.Punct.TheVariants.{LeftBracket, RightBracket, LeftParenthesis, RightParenthesis, Dot, Arrow, Star, Increment, Minus, Question, Colon, Semicolon, Assign, Comma}
use Rattle.sp_parse_trees.specs.Syntax.{Expression, expression, name, number, text, index, call, member, arrow, after, unary, sizeof_type, cast, binary, choice, assign, no_expressions, next_expression}
use Rattle.sp_parse_trees.specs.Syntax.{qualifier, basic, named, no_specifiers, next_specifier, declarator, absent, declared, group, pointer, function, param, no_params, next_param, type_name, Declaration, declaration, no_items, next_item, init_declarator, no_init}
use Rattle.sp_parse_trees.specs.Spelling.{tokens_of, declaration_tokens}
use Rattle.sp_parse_trees.specs.Depth.{depth, declaration_depth}
use Rattle.sp_parse_trees.specs.Places.{Placed, PlacedDeclaration}
use Rattle.sp_parse_trees.specs.Levels.{IsLevelled, IsLevelledDeclaration, outside}

-- the place of the i-th token
abbrev at : ℕ → Place
at i = record { name = 0; line = 1; column = i + 1 }

-- a name that stands as the i-th token
abbrev leaf : ℕ → ℕ → Expression
leaf n i = expression (name n) (at i) (at i)

-- an int in decimal
abbrev constant : ℕ → Integer
constant n = record { value = n; decimal = true; unsigned = false; long = false }

-- a-b-c is (a-b)-c
abbrev difference : Expression
difference = expression (binary Minus (expression (binary Minus (expression (name 0) (at 0) (at 0)) (expression (name 1) (at 2) (at 2))) (at 0) (at 1)) (expression (name 2) (at 4) (at 4))) (at 0) (at 3)

difference-tokens : tokens_of difference ≡ Name 0 ∷ Mark Minus ∷ Name 1 ∷ Mark Minus ∷ Name 2 ∷ []
difference-tokens = refl

difference-depth : depth difference ≡ 3
difference-depth = refl

difference-placed : Placed at difference
difference-placed = search

difference-levelled : IsLevelled (outside []) difference
difference-levelled = (omega arith, omega arith, omega arith, (omega arith, omega arith, omega arith, search, search), search)

-- a-(b-c) without its parentheses isn't levelled
abbrev grouped_right : Expression
grouped_right = expression (binary Minus (expression (name 0) (at 0) (at 0)) (expression (binary Minus (expression (name 1) (at 2) (at 2)) (expression (name 2) (at 4) (at 4))) (at 2) (at 3))) (at 0) (at 1)

grouped_right-not : IsLevelled (outside []) grouped_right → ⊥
grouped_right-not h = omega (arith, h.2)

-- a=b=c is a=(b=c)
abbrev assignments : Expression
assignments = expression (assign Assign (leaf 0 0) (expression (assign Assign (leaf 1 2) (leaf 2 4)) (at 2) (at 3))) (at 0) (at 1)

assignments-tokens : tokens_of assignments ≡ Name 0 ∷ Mark Assign ∷ Name 1 ∷ Mark Assign ∷ Name 2 ∷ []
assignments-tokens = refl

assignments-depth : depth assignments ≡ 3
assignments-depth = refl

assignments-placed : Placed at assignments
assignments-placed = search

assignments-levelled : IsLevelled (outside []) assignments
assignments-levelled = (refl, omega arith, omega arith, refl, (refl, omega arith, omega arith, refl, refl))

-- a?b:c?d:e is a?b:(c?d:e)
abbrev choices : Expression
choices = expression (choice (leaf 0 0) (leaf 1 2) (expression (choice (leaf 2 4) (leaf 3 6) (leaf 4 8)) (at 4) (at 5))) (at 0) (at 1)

choices-tokens : tokens_of choices ≡ Name 0 ∷ Mark Question ∷ Name 1 ∷ Mark Colon ∷ Name 2 ∷ Mark Question ∷ Name 3 ∷ Mark Colon ∷ Name 4 ∷ []
choices-tokens = refl

choices-depth : depth choices ≡ 3
choices-depth = refl

choices-placed : Placed at choices
choices-placed = search

choices-levelled : IsLevelled (outside []) choices
choices-levelled = (omega arith, omega arith, refl, refl, (omega arith, omega arith, refl, refl, refl))

-- (T)x, where T is the name 9 and a type
abbrev converted : Expression
converted = expression (cast (type_name (next_specifier (named 9) no_specifiers) (declarator absent (at 2))) (leaf 0 3)) (at 0) (at 0)

converted-tokens : tokens_of converted ≡ Mark LeftParenthesis ∷ Name 9 ∷ Mark RightParenthesis ∷ Name 0 ∷ []
converted-tokens = refl

converted-depth : depth converted ≡ 2
converted-depth = refl

converted-placed : Placed at converted
converted-placed = search

converted-levelled : IsLevelled (outside (9 ∷ [])) converted
converted-levelled = ((refl, refl, (refl, tt), refl, tt), omega arith, refl)

-- sizeof(T)*x is a product
abbrev scaled : Expression
scaled = expression (binary Star (expression (sizeof_type (type_name (next_specifier (named 9) no_specifiers) (declarator absent (at 3)))) (at 0) (at 0)) (leaf 0 5)) (at 0) (at 4)

scaled-tokens : tokens_of scaled ≡ Word Sizeof ∷ Mark LeftParenthesis ∷ Name 9 ∷ Mark RightParenthesis ∷ Mark Star ∷ Name 0 ∷ []
scaled-tokens = refl

scaled-depth : depth scaled ≡ 3
scaled-depth = refl

scaled-placed : Placed at scaled
scaled-placed = search

scaled-levelled : IsLevelled (outside (9 ∷ [])) scaled
scaled-levelled = (omega arith, omega arith, omega arith, (refl, refl, (refl, tt), refl, tt), refl)

-- -x++ is -(x++)
abbrev negated : Expression
negated = expression (unary Minus (expression (after Increment (leaf 0 1)) (at 1) (at 2))) (at 0) (at 0)

negated-tokens : tokens_of negated ≡ Mark Minus ∷ Name 0 ∷ Mark Increment ∷ []
negated-tokens = refl

negated-depth : depth negated ≡ 3
negated-depth = refl

negated-placed : Placed at negated
negated-placed = search

negated-levelled : IsLevelled (outside []) negated
negated-levelled = (refl, omega arith, (refl, omega arith, refl))

-- a[i].m->n(1,2)
abbrev postfixes : Expression
postfixes = expression (call (expression (arrow (expression (member (expression (index (leaf 0 0) (leaf 1 2)) (at 0) (at 1)) 2) (at 0) (at 4)) 3) (at 0) (at 6)) (next_expression (expression (number (constant 1)) (at 9) (at 9)) (next_expression (expression (number (constant 2)) (at 11) (at 11)) no_expressions))) (at 0) (at 8)

postfixes-tokens : tokens_of postfixes ≡ Name 0 ∷ Mark LeftBracket ∷ Name 1 ∷ Mark RightBracket ∷ Mark Dot ∷ Name 2 ∷ Mark Arrow ∷ Name 3 ∷ Mark LeftParenthesis ∷ Number (constant 1) ∷ Mark Comma ∷ Number (constant 2) ∷ Mark RightParenthesis ∷ []
postfixes-tokens = refl

postfixes-depth : depth postfixes ≡ 5
postfixes-depth = refl

postfixes-placed : Placed at postfixes
postfixes-placed = search

postfixes-levelled : IsLevelled (outside []) postfixes
postfixes-levelled = (omega arith, (omega arith, (omega arith, (omega arith, refl, refl))), (omega arith, tt, (omega arith, tt, tt)))

-- "x" "y"
abbrev joined : Expression
joined = expression (text (0 ∷ 1 ∷ [])) (at 0) (at 0)

joined-tokens : tokens_of joined ≡ Text 0 ∷ Text 1 ∷ []
joined-tokens = refl

joined-depth : depth joined ≡ 1
joined-depth = refl

joined-placed : Placed at joined
joined-placed = search

joined-levelled : IsLevelled (outside []) joined
joined-levelled = tt

-- int *(*f)(int, char); is a pointer to a function, which answers a pointer
abbrev function_pointer : Declaration
function_pointer = declaration (next_specifier (basic Int) no_specifiers) (next_item (init_declarator (declarator (pointer [] (declarator (function (declarator (group (declarator (pointer [] (declarator (declared 5) (at 4))) (at 3))) (at 2)) (next_param (param (next_specifier (basic Int) no_specifiers) (declarator absent (at 8))) (next_param (param (next_specifier (basic Char) no_specifiers) (declarator absent (at 10))) no_params)) false) (at 2))) (at 1)) no_init) no_items) (at 0)

function_pointer-tokens : declaration_tokens function_pointer ≡ Word Int ∷ Mark Star ∷ Mark LeftParenthesis ∷ Mark Star ∷ Name 5 ∷ Mark RightParenthesis ∷ Mark LeftParenthesis ∷ Word Int ∷ Mark Comma ∷ Word Char ∷ Mark RightParenthesis ∷ Mark Semicolon ∷ []
function_pointer-tokens = refl

function_pointer-depth : declaration_depth function_pointer ≡ 5
function_pointer-depth = refl

function_pointer-placed : PlacedDeclaration at function_pointer
function_pointer-placed = search

function_pointer-levelled : IsLevelledDeclaration (outside []) function_pointer
function_pointer-levelled = (refl, refl, (tt, tt), ((refl, (refl, (refl, (refl, (refl, refl)), (λ h. refl), ((refl, refl, (tt, tt), tt), ((refl, refl, (tt, tt), tt), tt)))), tt), tt))

-- const int *const p;
abbrev constant_pointer : Declaration
constant_pointer = declaration (next_specifier (qualifier Const) (next_specifier (basic Int) no_specifiers)) (next_item (init_declarator (declarator (pointer (Const ∷ []) (declarator (declared 5) (at 4))) (at 2)) no_init) no_items) (at 0)

constant_pointer-tokens : declaration_tokens constant_pointer ≡ Word Const ∷ Word Int ∷ Mark Star ∷ Word Const ∷ Name 5 ∷ Mark Semicolon ∷ []
constant_pointer-tokens = refl

constant_pointer-depth : declaration_depth constant_pointer ≡ 2
constant_pointer-depth = refl

constant_pointer-placed : PlacedDeclaration at constant_pointer
constant_pointer-placed = search

constant_pointer-levelled : IsLevelledDeclaration (outside []) constant_pointer
constant_pointer-levelled = (refl, refl, (refl, (tt, tt)), ((refl, (refl, refl), tt), tt))

-- int T; isn't a declaration where T is the name of a type: both would be types of one list
abbrev two_types : Declaration
two_types = declaration (next_specifier (basic Int) (next_specifier (named 9) no_specifiers)) no_items (at 0)

two_types-not : IsLevelledDeclaration (outside (9 ∷ [])) two_types → ⊥
two_types-not h = let clash : false ≡ true = h.0 in absurd cc
