-- Levelled trees: each operand has a level that the grammar allows in its place, each list of specifiers is one type, names stand as
-- names of types exactly where they are declared so, and each `else` is at its nearest `if` (C90 6.3 to 6.7).
--
-- The levels: 0 comma, 1 assignment, 2 choice, 3 to 12 the operators between two operands, 13 cast, 14 unary, 15 postfix, 16 primary.
use Rattle.std.specs.Prelude.{◌≡◌, ℕ, ◌+◌, ◌≤◌, ◌==◌, Bool, true, false, ◌&&◌, ◌||◌, List, [], ◌∷◌, ◌++◌, Option, Some, None, if◌then◌else◌, is_some, is_none}
use Rattle.std.specs.List.{list_any, list_all}
use Rattle.sp_tree.specs.declared.token.Keyword.{Keyword}
use Rattle.sp_parse_trees.specs.Words.{binary_level, is_step, is_unary, is_assignment, is_storage, is_typedef, is_qualifier, is_one_type}
use Rattle.sp_parse_trees.specs.Syntax.{Expression, expression, ExpressionForm, name, number, character, text, paren, index, call, member, arrow, after, unary, sizeof_expr, sizeof_type, cast, binary, choice, assign, comma, Expressions, no_expressions, next_expression, MaybeExpression, no_expression, some_expression}
use Rattle.sp_parse_trees.specs.Syntax.{Specifier, storage, qualifier, basic, named, struct_specifier, enum_specifier, Specifiers, no_specifiers, next_specifier, StructSpec, struct_spec, Members, no_members, some_members, EnumSpec, enum_spec, Constants, no_constants, some_constants, Enumerators, no_enumerators, next_enumerator}
use Rattle.sp_parse_trees.specs.Syntax.{Declarator, declarator, DeclaratorForm, absent, declared, group, pointer, array, function, Param, param, Params, no_params, next_param, TypeName, type_name}
use Rattle.sp_parse_trees.specs.Syntax.{Init, one, list, Inits, no_inits, next_init, MaybeInit, no_init, some_init, InitDeclarator, init_declarator, InitDeclarators, no_items, next_item, Declaration, declaration, Declarations, no_declarations, next_declaration}
use Rattle.sp_parse_trees.specs.Syntax.{Statement, statement, StatementForm, label, case_label, default_label, block, empty, of, if_else, switch_on, while_loop, do_loop, for_loop, goto_name, continue_loop, break_out, return_value, MaybeStatement, no_statement, some_statement, Statements, no_statements, next_statement, External, definition, external_declaration, semicolon}

-- ---- levels

abbrev pub form_level : ExpressionForm → ℕ
form_level (name n) = 16
form_level (number n) = 16
form_level (character z) = 16
form_level (text ns) = 16
form_level (paren e) = 16
form_level (index e i) = 15
form_level (call e es) = 15
form_level (member e n) = 15
form_level (arrow e n) = 15
form_level (after op e) = 15
form_level (unary op e) = 14
form_level (sizeof_expr e) = 14
form_level (sizeof_type t) = 14
form_level (cast t e) = 13
form_level (binary op l r) = binary_level op
form_level (choice c l r) = 2
form_level (assign op l r) = 1
form_level (comma l r) = 0

abbrev pub level : Expression → ℕ
level (expression f p m) = form_level f

-- ---- lists of specifiers

-- the storage classes, the words of types, and how many whole specifiers of a type there are
abbrev pub storages : Specifiers → List Keyword
storages no_specifiers = []
storages (next_specifier (storage k) ss) = k ∷ storages ss
storages (next_specifier _ ss) = storages ss

abbrev pub basics : Specifiers → List Keyword
basics no_specifiers = []
basics (next_specifier (basic k) ss) = k ∷ basics ss
basics (next_specifier _ ss) = basics ss

abbrev pub whole : Specifier → ℕ
whole (storage k) = 0
whole (qualifier k) = 0
whole (basic k) = 0
whole _ = 1

abbrev pub wholes : Specifiers → ℕ
wholes no_specifiers = 0
wholes (next_specifier s ss) = whole s + wholes ss

-- at most one storage class, and exactly one type
abbrev pub most_one : List Keyword → Bool
most_one [] = true
most_one (k ∷ []) = true
most_one _ = false

abbrev pub is_specifier_list : Specifiers → Bool
is_specifier_list ss = most_one (storages ss) && is_one_type (wholes ss) (basics ss)

-- `typedef` is among them
abbrev pub declares_types : Specifiers → Bool
declares_types ss = list_any is_typedef (storages ss)

-- ---- declarators

-- the name that is declared
abbrev mutual
  pub declared_name : Declarator → Option ℕ
  declared_name (declarator f p) = form_name f

  pub form_name : DeclaratorForm → Option ℕ
  form_name absent = None
  form_name (declared n) = Some n
  form_name (group d) = declared_name d
  form_name (pointer qs d) = declared_name d
  form_name (array d e) = declared_name d
  form_name (function d ps dots) = declared_name d

abbrev pub is_absent : Declarator → Bool
is_absent (declarator absent p) = true
is_absent _ = false

-- a length or a list of parameters may stand behind it
abbrev pub is_direct : Declarator → Bool
is_direct (declarator (pointer qs d) p) = false
is_direct _ = true

-- it is a name, in parentheses or not
abbrev mutual
  pub is_plain : Declarator → Bool
  is_plain (declarator f p) = is_plain_form f

  pub is_plain_form : DeclaratorForm → Bool
  is_plain_form (declared n) = true
  is_plain_form (group d) = is_plain d
  is_plain_form _ = false

-- what is declared is a function whose own list of parameters has `...`
abbrev mutual
  pub is_variadic : Declarator → Bool
  is_variadic (declarator f p) = is_variadic_form f

  pub is_variadic_form : DeclaratorForm → Bool
  is_variadic_form absent = false
  is_variadic_form (declared n) = false
  is_variadic_form (group d) = is_variadic d
  is_variadic_form (pointer qs d) = is_variadic d
  is_variadic_form (array d e) = is_variadic d
  is_variadic_form (function d ps dots) = if is_plain d then dots else is_variadic d

-- ---- lists that may not be empty

abbrev pub has_params : Params → Bool
has_params no_params = false
has_params _ = true

abbrev pub has_inits : Inits → Bool
has_inits no_inits = false
has_inits _ = true

abbrev pub has_items : InitDeclarators → Bool
has_items no_items = false
has_items _ = true

abbrev pub has_declarations : Declarations → Bool
has_declarations no_declarations = false
has_declarations _ = true

abbrev pub has_enumerators : Enumerators → Bool
has_enumerators no_enumerators = false
has_enumerators _ = true

abbrev pub has_members : Members → Bool
has_members no_members = false
has_members _ = true

abbrev pub has_constants : Constants → Bool
has_constants no_constants = false
has_constants _ = true

-- ---- levelled trees

-- what holds where a tree stands: the names of types, and whether it is inside a function
pub record Scope : Type 0 where
  pub types : List ℕ
  pub inside : Bool

abbrev pub names_type : Scope → ℕ → Bool
names_type s n = list_any (λ t. t == n) s.types

-- `typedef` isn't inside a function
abbrev pub may_declare : Scope → Specifiers → Bool
may_declare s ss = if s.inside then list_all (λ k. if is_typedef k then false else true) (storages ss) else true

abbrev mutual
  pub IsLevelled : Scope → Expression → Type 0
  IsLevelled s (expression f p m) = IsLevelledForm s f

  pub IsLevelledForm : Scope → ExpressionForm → Type 0
  IsLevelledForm s (name n) = names_type s n ≡ false
  IsLevelledForm s (number n) = Unit {0}
  IsLevelledForm s (character z) = Unit {0}
  IsLevelledForm s (text []) = ⊥
  IsLevelledForm s (text (n ∷ ns)) = Unit {0}
  IsLevelledForm s (paren e) = IsLevelled s e
  IsLevelledForm s (index e i) = (15 ≤ level e) × IsLevelled s e × IsLevelled s i
  IsLevelledForm s (call e es) = (15 ≤ level e) × IsLevelled s e × AreLevelled s es
  IsLevelledForm s (member e n) = (15 ≤ level e) × IsLevelled s e
  IsLevelledForm s (arrow e n) = (15 ≤ level e) × IsLevelled s e
  IsLevelledForm s (after op e) = (is_step op ≡ true) × (15 ≤ level e) × IsLevelled s e
  IsLevelledForm s (unary op e) = (is_step op || is_unary op ≡ true) × ((if is_step op then 14 else 13) ≤ level e) × IsLevelled s e
  IsLevelledForm s (sizeof_expr e) = (14 ≤ level e) × IsLevelled s e
  IsLevelledForm s (sizeof_type t) = IsLevelledTypeName s t
  IsLevelledForm s (cast t e) = IsLevelledTypeName s t × (13 ≤ level e) × IsLevelled s e
  IsLevelledForm s (binary op l r) = (3 ≤ binary_level op) × (binary_level op ≤ level l) × (binary_level op + 1 ≤ level r) × IsLevelled s l × IsLevelled s r
  IsLevelledForm s (choice c l r) = (3 ≤ level c) × (2 ≤ level r) × IsLevelled s c × IsLevelled s l × IsLevelled s r
  IsLevelledForm s (assign op l r) = (is_assignment op ≡ true) × (14 ≤ level l) × (1 ≤ level r) × IsLevelled s l × IsLevelled s r
  IsLevelledForm s (comma l r) = (1 ≤ level r) × IsLevelled s l × IsLevelled s r

  -- the arguments of a call
  pub AreLevelled : Scope → Expressions → Type 0
  AreLevelled s no_expressions = Unit {0}
  AreLevelled s (next_expression e es) = (1 ≤ level e) × IsLevelled s e × AreLevelled s es

  -- an expression of this level or a tighter one, where there is one
  pub IsLevelledMaybe : Scope → ℕ → MaybeExpression → Type 0
  IsLevelledMaybe s least no_expression = Unit {0}
  IsLevelledMaybe s least (some_expression e) = (least ≤ level e) × IsLevelled s e

  pub IsLevelledSpecifier : Scope → Specifier → Type 0
  IsLevelledSpecifier s (storage k) = is_storage k ≡ true
  IsLevelledSpecifier s (qualifier k) = is_qualifier k ≡ true
  IsLevelledSpecifier s (basic k) = Unit {0}
  IsLevelledSpecifier s (named n) = names_type s n ≡ true
  IsLevelledSpecifier s (struct_specifier t) = IsLevelledStruct s t
  IsLevelledSpecifier s (enum_specifier e) = IsLevelledEnum s e

  pub AreLevelledSpecifiers : Scope → Specifiers → Type 0
  AreLevelledSpecifiers s no_specifiers = Unit {0}
  AreLevelledSpecifiers s (next_specifier x xs) = IsLevelledSpecifier s x × AreLevelledSpecifiers s xs

  pub IsLevelledStruct : Scope → StructSpec → Type 0
  IsLevelledStruct s (struct_spec union tag ms p) = (is_some tag || has_members ms ≡ true) × AreLevelledMembers s ms

  pub AreLevelledMembers : Scope → Members → Type 0
  AreLevelledMembers s no_members = Unit {0}
  AreLevelledMembers s (some_members ds) = (has_declarations ds ≡ true) × DeclareMembers s ds

  -- declarations of members: without storage classes and initialisers, and each of one name at least
  pub DeclareMembers : Scope → Declarations → Type 0
  DeclareMembers s no_declarations = Unit {0}
  DeclareMembers s (next_declaration d ds) = DeclaresMember s d × DeclareMembers s ds

  pub DeclaresMember : Scope → Declaration → Type 0
  DeclaresMember s (declaration ss is p) = (storages ss ≡ []) × (is_specifier_list ss ≡ true) × AreLevelledSpecifiers s ss × (has_items is ≡ true) × NameMembers s is

  pub NameMembers : Scope → InitDeclarators → Type 0
  NameMembers s no_items = Unit {0}
  NameMembers s (next_item i is) = NamesMember s i × NameMembers s is

  pub NamesMember : Scope → InitDeclarator → Type 0
  NamesMember s (init_declarator d no_init) = (is_some (declared_name d) ≡ true) × IsLevelledDeclarator s d
  NamesMember s (init_declarator d (some_init i)) = ⊥

  pub IsLevelledEnum : Scope → EnumSpec → Type 0
  IsLevelledEnum s (enum_spec tag cs p) = (is_some tag || has_constants cs ≡ true) × AreLevelledConstants s cs

  pub AreLevelledConstants : Scope → Constants → Type 0
  AreLevelledConstants s no_constants = Unit {0}
  AreLevelledConstants s (some_constants es) = (has_enumerators es ≡ true) × AreLevelledEnumerators s es

  pub AreLevelledEnumerators : Scope → Enumerators → Type 0
  AreLevelledEnumerators s no_enumerators = Unit {0}
  AreLevelledEnumerators s (next_enumerator n p value es) = (names_type s n ≡ false) × IsLevelledMaybe s 2 value × AreLevelledEnumerators s es

  pub IsLevelledDeclarator : Scope → Declarator → Type 0
  IsLevelledDeclarator s (declarator f p) = IsLevelledDeclaratorForm s f

  pub IsLevelledDeclaratorForm : Scope → DeclaratorForm → Type 0
  IsLevelledDeclaratorForm s absent = Unit {0}
  IsLevelledDeclaratorForm s (declared n) = names_type s n ≡ false
  IsLevelledDeclaratorForm s (group d) = (is_absent d ≡ false) × IsLevelledDeclarator s d
  IsLevelledDeclaratorForm s (pointer qs d) = (list_all is_qualifier qs ≡ true) × IsLevelledDeclarator s d
  IsLevelledDeclaratorForm s (array d e) = (is_direct d ≡ true) × IsLevelledDeclarator s d × IsLevelledMaybe s 2 e
  IsLevelledDeclaratorForm s (function d ps dots) = (is_direct d ≡ true) × IsLevelledDeclarator s d × (dots ≡ true → has_params ps ≡ true) × AreLevelledParams s ps

  -- parameters, with a name or without one
  pub IsLevelledParam : Scope → Param → Type 0
  IsLevelledParam s (param ss d) = (is_specifier_list ss ≡ true) × (may_declare s ss ≡ true) × AreLevelledSpecifiers s ss × IsLevelledDeclarator s d

  pub AreLevelledParams : Scope → Params → Type 0
  AreLevelledParams s no_params = Unit {0}
  AreLevelledParams s (next_param p ps) = IsLevelledParam s p × AreLevelledParams s ps

  pub IsLevelledTypeName : Scope → TypeName → Type 0
  IsLevelledTypeName s (type_name ss d) = (storages ss ≡ []) × (is_specifier_list ss ≡ true) × AreLevelledSpecifiers s ss × (is_none (declared_name d) ≡ true) × IsLevelledDeclarator s d

  pub IsLevelledInit : Scope → Init → Type 0
  IsLevelledInit s (one e) = (1 ≤ level e) × IsLevelled s e
  IsLevelledInit s (list is trailing) = (has_inits is ≡ true) × AreLevelledInits s is

  pub AreLevelledInits : Scope → Inits → Type 0
  AreLevelledInits s no_inits = Unit {0}
  AreLevelledInits s (next_init i is) = IsLevelledInit s i × AreLevelledInits s is

  pub IsLevelledStart : Scope → MaybeInit → Type 0
  IsLevelledStart s no_init = Unit {0}
  IsLevelledStart s (some_init i) = IsLevelledInit s i

  pub IsLevelledItem : Scope → InitDeclarator → Type 0
  IsLevelledItem s (init_declarator d start) = (is_some (declared_name d) ≡ true) × IsLevelledDeclarator s d × IsLevelledStart s start

  pub AreLevelledItems : Scope → InitDeclarators → Type 0
  AreLevelledItems s no_items = Unit {0}
  AreLevelledItems s (next_item i is) = IsLevelledItem s i × AreLevelledItems s is

  pub IsLevelledDeclaration : Scope → Declaration → Type 0
  IsLevelledDeclaration s (declaration ss is p) = (is_specifier_list ss ≡ true) × (may_declare s ss ≡ true) × AreLevelledSpecifiers s ss × AreLevelledItems s is

  pub AreLevelledDeclarations : Scope → Declarations → Type 0
  AreLevelledDeclarations s no_declarations = Unit {0}
  AreLevelledDeclarations s (next_declaration d ds) = IsLevelledDeclaration s d × AreLevelledDeclarations s ds

-- ---- statements

-- a following `else` would belong to an `if` in which it ends
abbrev mutual
  pub ends_open : Statement → Bool
  ends_open (statement f p end) = form_ends_open f

  pub form_ends_open : StatementForm → Bool
  form_ends_open (label n s) = ends_open s
  form_ends_open (case_label e s) = ends_open s
  form_ends_open (default_label s) = ends_open s
  form_ends_open (if_else e s other) = else_ends_open other
  form_ends_open (switch_on e s) = ends_open s
  form_ends_open (while_loop e s) = ends_open s
  form_ends_open (for_loop a b c s) = ends_open s
  form_ends_open _ = false

  pub else_ends_open : MaybeStatement → Bool
  else_ends_open no_statement = true
  else_ends_open (some_statement s) = ends_open s

abbrev pub has_else : MaybeStatement → Bool
has_else no_statement = false
has_else _ = true

abbrev mutual
  pub IsLevelledStatement : Scope → Statement → Type 0
  IsLevelledStatement s (statement f p end) = IsLevelledStatementForm s f

  pub IsLevelledStatementForm : Scope → StatementForm → Type 0
  IsLevelledStatementForm s (label n t) = (names_type s n ≡ false) × IsLevelledStatement s t
  IsLevelledStatementForm s (case_label e t) = (2 ≤ level e) × IsLevelled s e × IsLevelledStatement s t
  IsLevelledStatementForm s (default_label t) = IsLevelledStatement s t
  IsLevelledStatementForm s (block ds ss) = AreLevelledDeclarations s ds × AreLevelledStatements s ss
  IsLevelledStatementForm s empty = Unit {0}
  IsLevelledStatementForm s (of e) = IsLevelled s e
  IsLevelledStatementForm s (if_else e t other) = IsLevelled s e × IsLevelledStatement s t × (has_else other ≡ true → ends_open t ≡ false) × IsLevelledElse s other
  IsLevelledStatementForm s (switch_on e t) = IsLevelled s e × IsLevelledStatement s t
  IsLevelledStatementForm s (while_loop e t) = IsLevelled s e × IsLevelledStatement s t
  IsLevelledStatementForm s (do_loop t e) = IsLevelledStatement s t × IsLevelled s e
  IsLevelledStatementForm s (for_loop a b c t) = IsLevelledMaybe s 0 a × IsLevelledMaybe s 0 b × IsLevelledMaybe s 0 c × IsLevelledStatement s t
  IsLevelledStatementForm s (goto_name n) = Unit {0}
  IsLevelledStatementForm s continue_loop = Unit {0}
  IsLevelledStatementForm s break_out = Unit {0}
  IsLevelledStatementForm s (return_value e) = IsLevelledMaybe s 0 e

  pub IsLevelledElse : Scope → MaybeStatement → Type 0
  IsLevelledElse s no_statement = Unit {0}
  IsLevelledElse s (some_statement t) = IsLevelledStatement s t

  pub AreLevelledStatements : Scope → Statements → Type 0
  AreLevelledStatements s no_statements = Unit {0}
  AreLevelledStatements s (next_statement t ts) = IsLevelledStatement s t × AreLevelledStatements s ts

-- ---- units

abbrev pub is_block : Statement → Bool
is_block (statement (block ds ss) p end) = true
is_block _ = false

-- where these are the names of types: outside each function, and inside one
abbrev pub outside : List ℕ → Scope
outside types = record { types = types; inside = false }

abbrev pub within : List ℕ → Scope
within types = record { types = types; inside = true }

abbrev pub IsLevelledExternal : List ℕ → External → Type 0
IsLevelledExternal types (definition ss d b) = (is_specifier_list ss ≡ true) × AreLevelledSpecifiers (outside types) ss × (is_some (declared_name d) ≡ true) × IsLevelledDeclarator (outside types) d × (is_variadic d ≡ false) × (is_block b ≡ true) × IsLevelledStatement (within types) b
IsLevelledExternal types (external_declaration d) = IsLevelledDeclaration (outside types) d
IsLevelledExternal types semicolon = Unit {0}

abbrev pub named_by : Option ℕ → List ℕ
named_by None = []
named_by (Some n) = n ∷ []

abbrev pub names_of_items : InitDeclarators → List ℕ
names_of_items no_items = []
names_of_items (next_item (init_declarator d start) is) = named_by (declared_name d) ++ names_of_items is

-- the names that an external declaration makes names of types for those behind it
abbrev pub new_types : External → List ℕ
new_types (definition ss d b) = if declares_types ss then named_by (declared_name d) else []
new_types (external_declaration (declaration ss is p)) = if declares_types ss then names_of_items is else []
new_types semicolon = []

-- these external declarations stand behind those that made these names types
abbrev pub AreLevelledExternals : List ℕ → List External → Type 0
AreLevelledExternals types [] = Unit {0}
AreLevelledExternals types (e ∷ es) = IsLevelledExternal types e × AreLevelledExternals (types ++ new_types e) es

abbrev pub IsLevelledUnit : List External → Type 0
IsLevelledUnit es = AreLevelledExternals [] es
