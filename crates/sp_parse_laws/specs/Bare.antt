-- Trees without their places: each place in them is no place of a text. Two trees whose bare trees are equal are the same but for
-- their places.
use Rattle.sp_parse_tokens.specs.Sorts.{nowhere}
use Rattle.sp_parse_trees.specs.Syntax.{Expression, expression, ExpressionForm, name, number, character, text, paren, index, call, member, arrow, after, unary, sizeof_expr, sizeof_type, cast, binary, choice, assign, comma, Expressions, no_expressions, next_expression, MaybeExpression, no_expression, some_expression}
use Rattle.sp_parse_trees.specs.Syntax.{Specifier, storage, qualifier, basic, named, struct_specifier, enum_specifier, Specifiers, no_specifiers, next_specifier, StructSpec, struct_spec, Members, no_members, some_members, EnumSpec, enum_spec, Constants, no_constants, some_constants, Enumerators, no_enumerators, next_enumerator}
use Rattle.sp_parse_trees.specs.Syntax.{Declarator, declarator, DeclaratorForm, absent, declared, group, pointer, array, function, Param, param, Params, no_params, next_param, TypeName, type_name}
use Rattle.sp_parse_trees.specs.Syntax.{Init, one, list, Inits, no_inits, next_init, MaybeInit, no_init, some_init, InitDeclarator, init_declarator, InitDeclarators, no_items, next_item, Declaration, declaration, Declarations, no_declarations, next_declaration}

abbrev mutual
  pub bare : Expression → Expression
  bare (expression f p m) = expression (bare_form f) nowhere nowhere

  pub bare_form : ExpressionForm → ExpressionForm
  bare_form (name n) = name n
  bare_form (number n) = number n
  bare_form (character z) = character z
  bare_form (text ns) = text ns
  bare_form (paren e) = paren (bare e)
  bare_form (index e i) = index (bare e) (bare i)
  bare_form (call e es) = call (bare e) (bare_expressions es)
  bare_form (member e n) = member (bare e) n
  bare_form (arrow e n) = arrow (bare e) n
  bare_form (after op e) = after op (bare e)
  bare_form (unary op e) = unary op (bare e)
  bare_form (sizeof_expr e) = sizeof_expr (bare e)
  bare_form (sizeof_type t) = sizeof_type (bare_type_name t)
  bare_form (cast t e) = cast (bare_type_name t) (bare e)
  bare_form (binary op l r) = binary op (bare l) (bare r)
  bare_form (choice c l r) = choice (bare c) (bare l) (bare r)
  bare_form (assign op l r) = assign op (bare l) (bare r)
  bare_form (comma l r) = comma (bare l) (bare r)

  pub bare_expressions : Expressions → Expressions
  bare_expressions no_expressions = no_expressions
  bare_expressions (next_expression e es) = next_expression (bare e) (bare_expressions es)

  pub bare_maybe : MaybeExpression → MaybeExpression
  bare_maybe no_expression = no_expression
  bare_maybe (some_expression e) = some_expression (bare e)

  pub bare_specifier : Specifier → Specifier
  bare_specifier (storage k) = storage k
  bare_specifier (qualifier k) = qualifier k
  bare_specifier (basic k) = basic k
  bare_specifier (named n) = named n
  bare_specifier (struct_specifier s) = struct_specifier (bare_struct s)
  bare_specifier (enum_specifier e) = enum_specifier (bare_enum e)

  pub bare_specifiers : Specifiers → Specifiers
  bare_specifiers no_specifiers = no_specifiers
  bare_specifiers (next_specifier s ss) = next_specifier (bare_specifier s) (bare_specifiers ss)

  pub bare_struct : StructSpec → StructSpec
  bare_struct (struct_spec union tag ms p) = struct_spec union tag (bare_members ms) nowhere

  pub bare_members : Members → Members
  bare_members no_members = no_members
  bare_members (some_members ds) = some_members (bare_declarations ds)

  pub bare_enum : EnumSpec → EnumSpec
  bare_enum (enum_spec tag cs p) = enum_spec tag (bare_constants cs) nowhere

  pub bare_constants : Constants → Constants
  bare_constants no_constants = no_constants
  bare_constants (some_constants es) = some_constants (bare_enumerators es)

  pub bare_enumerators : Enumerators → Enumerators
  bare_enumerators no_enumerators = no_enumerators
  bare_enumerators (next_enumerator n p value es) = next_enumerator n nowhere (bare_maybe value) (bare_enumerators es)

  pub bare_declarator : Declarator → Declarator
  bare_declarator (declarator f p) = declarator (bare_declarator_form f) nowhere

  pub bare_declarator_form : DeclaratorForm → DeclaratorForm
  bare_declarator_form absent = absent
  bare_declarator_form (declared n) = declared n
  bare_declarator_form (group d) = group (bare_declarator d)
  bare_declarator_form (pointer qs d) = pointer qs (bare_declarator d)
  bare_declarator_form (array d e) = array (bare_declarator d) (bare_maybe e)
  bare_declarator_form (function d ps dots) = function (bare_declarator d) (bare_params ps) dots

  pub bare_param : Param → Param
  bare_param (param ss d) = param (bare_specifiers ss) (bare_declarator d)

  pub bare_params : Params → Params
  bare_params no_params = no_params
  bare_params (next_param p ps) = next_param (bare_param p) (bare_params ps)

  pub bare_type_name : TypeName → TypeName
  bare_type_name (type_name ss d) = type_name (bare_specifiers ss) (bare_declarator d)

  pub bare_init : Init → Init
  bare_init (one e) = one (bare e)
  bare_init (list is trailing) = list (bare_inits is) trailing

  pub bare_inits : Inits → Inits
  bare_inits no_inits = no_inits
  bare_inits (next_init i is) = next_init (bare_init i) (bare_inits is)

  pub bare_start : MaybeInit → MaybeInit
  bare_start no_init = no_init
  bare_start (some_init i) = some_init (bare_init i)

  pub bare_item : InitDeclarator → InitDeclarator
  bare_item (init_declarator d start) = init_declarator (bare_declarator d) (bare_start start)

  pub bare_items : InitDeclarators → InitDeclarators
  bare_items no_items = no_items
  bare_items (next_item i is) = next_item (bare_item i) (bare_items is)

  pub bare_declaration : Declaration → Declaration
  bare_declaration (declaration ss is p) = declaration (bare_specifiers ss) (bare_items is) nowhere

  pub bare_declarations : Declarations → Declarations
  bare_declarations no_declarations = no_declarations
  bare_declarations (next_declaration d ds) = next_declaration (bare_declaration d) (bare_declarations ds)
