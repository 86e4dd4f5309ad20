-- What the laws of reading again say, tried on small trees.
use Rattle.std.proofs.Common.{◌≡◌, ℕ, inl, inr, true, false, None, is_some, List, [], ◌∷◌, ◌++◌, refl, ap, arith}
use Rattle.sp_tree.specs.declared.fault.Place.{Place}
use Rattle.sp_tree.specs.declared.token.Kind.{Kind}
use Rattle.sp_tree.specs.declared.token.Kind.TheVariants.{Name, Word, Mark, End}
use Rattle.sp_tree.specs.declared.token.Keyword.TheVariants.{Int, Struct}
use Rattle.sp_tree.specs.declared.token.Punct.TheVariants.{Minus, Star, Semicolon, LeftBrace, RightBrace, LeftParenthesis, RightParenthesis}
use Rattle.sp_tree.specs.declared.token.Token.{Token}
use Rattle.sp_parse_trees.specs.Syntax.{Expression, expression, name, binary, Specifiers, no_specifiers, next_specifier, basic, struct_specifier, struct_spec, some_members, Declarator, declarator, absent, declared, pointer, function, param, no_params, next_param, TypeName, type_name, init_declarator, no_init, no_items, next_item, declaration, no_declarations, next_declaration}
use Rattle.sp_parse_trees.specs.Spelling.{tokens_of}
use Rattle.sp_parse_trees.specs.Levels.{outside, IsLevelled, is_specifier_list, AreLevelledSpecifiers, IsLevelledTypeName, declared_name, IsLevelledDeclarator}
use Rattle.sp_parse_trees.specs.Places.{SpellsExpression, SpellsTypeName, SpellsSpecifiers, SpellsDeclarator}
use Rattle.sp_parse_laws.specs.Bare.{bare}
use Rattle.sp_parse_laws.specs.Answers.{expressions, type_names, specifier_lists, declarators, expression_ask, type_name_ask, specifiers_ask, declarator_ask}
use Rattle.sp_parse_laws.specs.ReadAgain.{IsOneAnswer, ExpressionsAreReadAgain, TypeNamesAreReadAgain, SpecifiersAreReadAgain, DeclaratorsAreReadAgain}
use Rattle.sp_parse_laws.proofs.ReadAgain.{read_again}
use Rattle.sp_parse_laws.proofs.Calls.{expression_reader, type_name_reader, specifiers_reader, declarator_reader}

-- the place of a column
abbrev spot : ℕ → Place
spot n = record { name = 0; line = 1; column = n }

abbrev named : ℕ → ℕ → Expression
named n c = expression (name n) (spot c) (spot c)

-- a difference whose left part begins at a column, with its `-` at another
abbrev minus : Expression → Expression → ℕ → ℕ → Expression
minus l r c m = expression (binary Minus l r) (spot c) (spot m)

-- a-b, its tokens at columns 1 to 3, and the end behind them
abbrev difference : Expression
difference = minus (named 0 1) (named 1 3) 1 2

abbrev token : Kind → ℕ → Token
token k c = record { kind = k; place = spot c }

abbrev difference_text : List Token
difference_text = token (Name 0) 1 ∷ token (Mark Minus) 2 ∷ token (Name 1) 3 ∷ token End 4 ∷ []

difference_levelled : IsLevelled (outside []) difference
difference_levelled = (omega arith, omega arith, omega arith, refl, refl)

difference_spelled : SpellsExpression difference_text difference (token End 4 ∷ [])
difference_spelled = (record { front = token (Name 0) 1 ∷ token (Mark Minus) 2 ∷ token (Name 1) 3 ∷ []; whole = refl; kinds_of = refl }, (refl, (refl, (refl, refl), (refl, refl))))

laws : ExpressionsAreReadAgain []
laws = read_again expressions [] (expression_ask []) (expression_reader [])

-- it is the one answer to its text, where a depth of 2 is allowed
row_1 : IsOneAnswer expressions (expression_ask []) [] 2 difference_text difference
row_1 = laws.again 2 difference_text difference (token End 4) [] difference_levelled (omega arith) difference_spelled (laws.ended difference difference_levelled)

-- the same expression elsewhere has the same bare tree
row_2 : bare difference ≡ bare (minus (named 0 5) (named 1 7) 5 6)
row_2 = refl

-- the name at its left end
abbrev left_name : Expression → ℕ
left_name (expression (binary op (expression (name n) p m) r) q k) = n
left_name _ = 9

-- another expression has another
row_3 : bare difference ≡ bare (minus (named 1 1) (named 0 3) 1 2) → ⊥
row_3 e = let apart : 0 ≡ 1 = ap left_name e in absurd (omega (arith, apart))

-- a-b-c grouped to the left and to the right: the same tokens and two bare trees, so the second is not levelled
abbrev to_left : Expression
to_left = minus difference (named 2 5) 1 4

abbrev to_right : Expression
to_right = minus (named 0 1) (minus (named 1 3) (named 2 5) 3 4) 1 2

row_4 : tokens_of to_left ≡ tokens_of to_right
row_4 = refl

row_5 : bare to_left ≡ bare to_right → ⊥
row_5 e = let apart : 9 ≡ 0 = ap left_name e in absurd (omega (arith, apart))

row_6 : IsLevelled (outside []) to_right → ⊥
row_6 h = row_5 (laws.one_shape to_left to_right (omega arith, omega arith, omega arith, difference_levelled, refl) h row_4)

-- ---- the other kinds, with an absent declarator at the place behind it

abbrev int_list : Specifiers
int_list = next_specifier (basic Int) no_specifiers

abbrev absent_at : ℕ → Declarator
absent_at c = declarator absent (spot c)

-- int* and the end behind it, which is the place of its absent declarator
abbrev pointer_name : TypeName
pointer_name = type_name int_list (declarator (pointer [] (absent_at 3)) (spot 2))

abbrev pointer_text : List Token
pointer_text = token (Word Int) 1 ∷ token (Mark Star) 2 ∷ token End 3 ∷ []

pointer_levelled : IsLevelledTypeName (outside []) pointer_name
pointer_levelled = (refl, refl, (tt, tt), refl, (refl, tt))

pointer_spelled : SpellsTypeName pointer_text pointer_name (token End 3 ∷ [])
pointer_spelled = (record { front = token (Word Int) 1 ∷ token (Mark Star) 2 ∷ []; whole = refl; kinds_of = refl }, ((tt, tt), (refl, (refl, tt))))

type_name_laws : TypeNamesAreReadAgain []
type_name_laws = read_again type_names [] (type_name_ask []) (type_name_reader [])

row_7 : IsOneAnswer type_names (type_name_ask []) [] 2 pointer_text pointer_name
row_7 = type_name_laws.again 2 pointer_text pointer_name (token End 3) [] pointer_levelled (omega arith) pointer_spelled (type_name_laws.ended pointer_name pointer_levelled)

-- no specifiers before the end
specifier_laws : SpecifiersAreReadAgain []
specifier_laws = read_again specifier_lists [] (specifiers_ask []) (specifiers_reader [])

row_8 : IsOneAnswer specifier_lists (specifiers_ask []) [] 0 (token End 1 ∷ []) no_specifiers
row_8 = specifier_laws.again 0 (token End 1 ∷ []) no_specifiers (token End 1) [] (inl refl) (omega arith) (record { front = []; whole = refl; kinds_of = refl }, tt) (specifier_laws.ended no_specifiers (inl refl))

-- struct{int a;}
abbrev structure : Specifiers
structure = next_specifier (struct_specifier (struct_spec false None (some_members (next_declaration (declaration int_list (next_item (init_declarator (declarator (declared 0) (spot 4)) no_init) no_items) (spot 3)) no_declarations)) (spot 1))) no_specifiers

abbrev structure_front : List Token
structure_front = token (Word Struct) 1 ∷ token (Mark LeftBrace) 2 ∷ token (Word Int) 3 ∷ token (Name 0) 4 ∷ token (Mark Semicolon) 5 ∷ token (Mark RightBrace) 6 ∷ []

structure_levelled : (is_specifier_list structure ≡ true) × AreLevelledSpecifiers (outside []) structure
structure_levelled = (refl, ((refl, (refl, ((refl, refl, (tt, tt), refl, ((refl, refl), tt)), tt))), tt))

structure_spelled : SpellsSpecifiers (structure_front ++ token End 7 ∷ []) structure (token End 7 ∷ [])
structure_spelled = (record { front = structure_front; whole = refl; kinds_of = refl }, ((refl, ((refl, (tt, tt), (((refl, tt), tt), tt)), tt)), tt))

row_9 : IsOneAnswer specifier_lists (specifiers_ask []) [] 2 (structure_front ++ token End 7 ∷ []) structure
row_9 = specifier_laws.again 2 (structure_front ++ token End 7 ∷ []) structure (token End 7) [] (inr structure_levelled) (omega arith) structure_spelled (specifier_laws.ended structure (inr structure_levelled))

-- f(int), the absent declarator of its parameter at the `)`
abbrev of_int : Declarator
of_int = declarator (function (declarator (declared 0) (spot 1)) (next_param (param int_list (absent_at 4)) no_params) false) (spot 1)

abbrev of_int_front : List Token
of_int_front = token (Name 0) 1 ∷ token (Mark LeftParenthesis) 2 ∷ token (Word Int) 3 ∷ token (Mark RightParenthesis) 4 ∷ []

of_int_levelled : (is_some (declared_name of_int) ≡ true) × IsLevelledDeclarator (outside []) of_int
of_int_levelled = (refl, (refl, refl, (λ e. refl), ((refl, refl, (tt, tt), tt), tt)))

of_int_spelled : SpellsDeclarator (of_int_front ++ token End 5 ∷ []) of_int (token End 5 ∷ [])
of_int_spelled = (record { front = of_int_front; whole = refl; kinds_of = refl }, (refl, ((refl, tt), (((tt, tt), (refl, tt)), tt))))

declarator_laws : DeclaratorsAreReadAgain []
declarator_laws = read_again declarators [] (declarator_ask []) (declarator_reader [])

row_10 : IsOneAnswer declarators (declarator_ask []) [] 2 (of_int_front ++ token End 5 ∷ []) of_int
row_10 = declarator_laws.again 2 (of_int_front ++ token End 5 ∷ []) of_int (token End 5) [] of_int_levelled (omega arith) of_int_spelled (declarator_laws.ended of_int of_int_levelled)
