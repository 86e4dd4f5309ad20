-- How deep a tree is: how many expressions, declarators, initialisers, statements and specifiers of structs lie inside one another,
-- the outermost included. An absent declarator counts as one.
use Rattle.std.specs.Prelude.{ℕ, ◌+◌, max, List, [], ◌∷◌}
use Rattle.sp_parse_trees.specs.Syntax.{Expression, expression, ExpressionForm, name, number, character, text, paren, index, call, member, arrow, after, unary, sizeof_expr, sizeof_type, cast, binary, choice, assign, comma, Expressions, no_expressions, next_expression, MaybeExpression, no_expression, some_expression}
use Rattle.sp_parse_trees.specs.Syntax.{Specifier, storage, qualifier, basic, named, struct_specifier, enum_specifier, Specifiers, no_specifiers, next_specifier, StructSpec, struct_spec, Members, no_members, some_members, EnumSpec, enum_spec, Constants, no_constants, some_constants, Enumerators, no_enumerators, next_enumerator}
use Rattle.sp_parse_trees.specs.Syntax.{Declarator, declarator, DeclaratorForm, absent, declared, group, pointer, array, function, Param, param, Params, no_params, next_param, TypeName, type_name}
use Rattle.sp_parse_trees.specs.Syntax.{Init, one, list, Inits, no_inits, next_init, MaybeInit, no_init, some_init, InitDeclarator, init_declarator, InitDeclarators, no_items, next_item, Declaration, declaration, Declarations, no_declarations, next_declaration}
use Rattle.sp_parse_trees.specs.Syntax.{Statement, statement, StatementForm, label, case_label, default_label, block, empty, of, if_else, switch_on, while_loop, do_loop, for_loop, goto_name, continue_loop, break_out, return_value, MaybeStatement, no_statement, some_statement, Statements, no_statements, next_statement, External, definition, external_declaration, semicolon}

abbrev mutual
  pub depth : Expression → ℕ
  depth (expression f p m) = 1 + form_depth f

  pub form_depth : ExpressionForm → ℕ
  form_depth (name n) = 0
  form_depth (number n) = 0
  form_depth (character z) = 0
  form_depth (text ns) = 0
  form_depth (paren e) = depth e
  form_depth (index e i) = max (depth e) (depth i)
  form_depth (call e es) = max (depth e) (expressions_depth es)
  form_depth (member e n) = depth e
  form_depth (arrow e n) = depth e
  form_depth (after op e) = depth e
  form_depth (unary op e) = depth e
  form_depth (sizeof_expr e) = depth e
  form_depth (sizeof_type t) = type_name_depth t
  form_depth (cast t e) = max (type_name_depth t) (depth e)
  form_depth (binary op l r) = max (depth l) (depth r)
  form_depth (choice c l r) = max (depth c) (max (depth l) (depth r))
  form_depth (assign op l r) = max (depth l) (depth r)
  form_depth (comma l r) = max (depth l) (depth r)

  pub expressions_depth : Expressions → ℕ
  expressions_depth no_expressions = 0
  expressions_depth (next_expression e es) = max (depth e) (expressions_depth es)

  pub maybe_depth : MaybeExpression → ℕ
  maybe_depth no_expression = 0
  maybe_depth (some_expression e) = depth e

  pub specifier_depth : Specifier → ℕ
  specifier_depth (storage k) = 0
  specifier_depth (qualifier k) = 0
  specifier_depth (basic k) = 0
  specifier_depth (named n) = 0
  specifier_depth (struct_specifier s) = struct_depth s
  specifier_depth (enum_specifier e) = enum_depth e

  pub specifiers_depth : Specifiers → ℕ
  specifiers_depth no_specifiers = 0
  specifiers_depth (next_specifier s ss) = max (specifier_depth s) (specifiers_depth ss)

  pub struct_depth : StructSpec → ℕ
  struct_depth (struct_spec union tag ms p) = 1 + members_depth ms

  pub members_depth : Members → ℕ
  members_depth no_members = 0
  members_depth (some_members ds) = declarations_depth ds

  pub enum_depth : EnumSpec → ℕ
  enum_depth (enum_spec tag cs p) = constants_depth cs

  pub constants_depth : Constants → ℕ
  constants_depth no_constants = 0
  constants_depth (some_constants es) = enumerators_depth es

  pub enumerators_depth : Enumerators → ℕ
  enumerators_depth no_enumerators = 0
  enumerators_depth (next_enumerator n p value es) = max (maybe_depth value) (enumerators_depth es)

  pub declarator_depth : Declarator → ℕ
  declarator_depth (declarator f p) = 1 + declarator_form_depth f

  pub declarator_form_depth : DeclaratorForm → ℕ
  declarator_form_depth absent = 0
  declarator_form_depth (declared n) = 0
  declarator_form_depth (group d) = declarator_depth d
  declarator_form_depth (pointer qs d) = declarator_depth d
  declarator_form_depth (array d e) = max (declarator_depth d) (maybe_depth e)
  declarator_form_depth (function d ps dots) = max (declarator_depth d) (params_depth ps)

  pub param_depth : Param → ℕ
  param_depth (param ss d) = max (specifiers_depth ss) (declarator_depth d)

  pub params_depth : Params → ℕ
  params_depth no_params = 0
  params_depth (next_param p ps) = max (param_depth p) (params_depth ps)

  pub type_name_depth : TypeName → ℕ
  type_name_depth (type_name ss d) = max (specifiers_depth ss) (declarator_depth d)

  pub init_depth : Init → ℕ
  init_depth (one e) = 1 + depth e
  init_depth (list is trailing) = 1 + inits_depth is

  pub inits_depth : Inits → ℕ
  inits_depth no_inits = 0
  inits_depth (next_init i is) = max (init_depth i) (inits_depth is)

  pub maybe_init_depth : MaybeInit → ℕ
  maybe_init_depth no_init = 0
  maybe_init_depth (some_init i) = init_depth i

  pub item_depth : InitDeclarator → ℕ
  item_depth (init_declarator d start) = max (declarator_depth d) (maybe_init_depth start)

  pub items_depth : InitDeclarators → ℕ
  items_depth no_items = 0
  items_depth (next_item i is) = max (item_depth i) (items_depth is)

  pub declaration_depth : Declaration → ℕ
  declaration_depth (declaration ss is p) = max (specifiers_depth ss) (items_depth is)

  pub declarations_depth : Declarations → ℕ
  declarations_depth no_declarations = 0
  declarations_depth (next_declaration d ds) = max (declaration_depth d) (declarations_depth ds)

abbrev mutual
  pub statement_depth : Statement → ℕ
  statement_depth (statement f p end) = 1 + statement_form_depth f

  pub statement_form_depth : StatementForm → ℕ
  statement_form_depth (label n s) = statement_depth s
  statement_form_depth (case_label e s) = max (depth e) (statement_depth s)
  statement_form_depth (default_label s) = statement_depth s
  statement_form_depth (block ds ss) = max (declarations_depth ds) (statements_depth ss)
  statement_form_depth empty = 0
  statement_form_depth (of e) = depth e
  statement_form_depth (if_else e s other) = max (depth e) (max (statement_depth s) (else_depth other))
  statement_form_depth (switch_on e s) = max (depth e) (statement_depth s)
  statement_form_depth (while_loop e s) = max (depth e) (statement_depth s)
  statement_form_depth (do_loop s e) = max (statement_depth s) (depth e)
  statement_form_depth (for_loop a b c s) = max (max (maybe_depth a) (maybe_depth b)) (max (maybe_depth c) (statement_depth s))
  statement_form_depth (goto_name n) = 0
  statement_form_depth continue_loop = 0
  statement_form_depth break_out = 0
  statement_form_depth (return_value e) = maybe_depth e

  pub else_depth : MaybeStatement → ℕ
  else_depth no_statement = 0
  else_depth (some_statement s) = statement_depth s

  pub statements_depth : Statements → ℕ
  statements_depth no_statements = 0
  statements_depth (next_statement s ss) = max (statement_depth s) (statements_depth ss)

abbrev pub external_depth : External → ℕ
external_depth (definition ss d s) = max (specifiers_depth ss) (max (declarator_depth d) (statement_depth s))
external_depth (external_declaration d) = declaration_depth d
external_depth semicolon = 0

-- the depth of a unit: 0 where it is empty or has semicolons alone
abbrev pub unit_depth : List External → ℕ
unit_depth [] = 0
unit_depth (e ∷ es) = max (external_depth e) (unit_depth es)
