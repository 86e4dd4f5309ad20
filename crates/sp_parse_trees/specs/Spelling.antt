-- What a tree spells: the kinds of its tokens, in order (C90 6.3 to 6.7).
use Rattle.std.specs.Prelude.{Bool, List, [], ◌∷◌, ◌++◌, map, Option, Some, None, if◌then◌else◌, ℕ}
use Rattle.sp_tree.specs.declared.token.Kind.{Kind}
use Rattle.sp_tree.specs.declared.token.Kind.TheVariants.{Name, Word, Number, Char, Text, Mark}
use Rattle.sp_tree.specs.declared.token.Keyword.TheVariants.{Break, Case, Continue, Default, Do, Else, Enum, For, Goto, If, Return, Sizeof, Struct, Switch, Union, While}
use Rattle.sp_tree.specs.declared.token.Punct.TheVariants.{LeftBracket, RightBracket, LeftParenthesis, RightParenthesis, LeftBrace, RightBrace, Dot, Arrow, Star, Question, Colon, Semicolon, Ellipsis, Assign, Comma}
use Rattle.sp_parse_trees.specs.Syntax.{Expression, expression, ExpressionForm, name, number, character, text, paren, index, call, member, arrow, after, unary, sizeof_expr, sizeof_type, cast, binary, choice, assign, comma, Expressions, no_expressions, next_expression, MaybeExpression, no_expression, some_expression}
use Rattle.sp_parse_trees.specs.Syntax.{Specifier, storage, qualifier, basic, named, struct_specifier, enum_specifier, Specifiers, no_specifiers, next_specifier, StructSpec, struct_spec, Members, no_members, some_members, EnumSpec, enum_spec, Constants, no_constants, some_constants, Enumerators, no_enumerators, next_enumerator}
use Rattle.sp_parse_trees.specs.Syntax.{Declarator, declarator, DeclaratorForm, absent, declared, group, pointer, array, function, Param, param, Params, no_params, next_param, TypeName, type_name}
use Rattle.sp_parse_trees.specs.Syntax.{Init, one, list, Inits, no_inits, next_init, MaybeInit, no_init, some_init, InitDeclarator, init_declarator, InitDeclarators, no_items, next_item, Declaration, declaration, Declarations, no_declarations, next_declaration}
use Rattle.sp_parse_trees.specs.Syntax.{Statement, statement, StatementForm, label, case_label, default_label, block, empty, of, if_else, switch_on, while_loop, do_loop, for_loop, goto_name, continue_loop, break_out, return_value, MaybeStatement, no_statement, some_statement, Statements, no_statements, next_statement, External, definition, external_declaration, semicolon}

-- the tag of a struct, a union or an enum
abbrev pub tag_tokens : Option ℕ → List Kind
tag_tokens None = []
tag_tokens (Some n) = Name n ∷ []

-- `, ...` at the end of a list of parameters
abbrev pub dots_tokens : Bool → List Kind
dots_tokens dots = if dots then Mark Comma ∷ Mark Ellipsis ∷ [] else []

-- Each list takes the tokens that stand before its next part: none before the first, and a comma before each other one. A part that
-- may be missing takes those that stand before it where it is there.
abbrev mutual
  pub tokens_of : Expression → List Kind
  tokens_of (expression f p m) = form_tokens f

  pub form_tokens : ExpressionForm → List Kind
  form_tokens (name n) = Name n ∷ []
  form_tokens (number n) = Number n ∷ []
  form_tokens (character z) = Char z ∷ []
  form_tokens (text ns) = map (λ n. Text n) ns
  form_tokens (paren e) = Mark LeftParenthesis ∷ tokens_of e ++ Mark RightParenthesis ∷ []
  form_tokens (index e i) = tokens_of e ++ Mark LeftBracket ∷ tokens_of i ++ Mark RightBracket ∷ []
  form_tokens (call e es) = tokens_of e ++ Mark LeftParenthesis ∷ expressions_tokens [] es ++ Mark RightParenthesis ∷ []
  form_tokens (member e n) = tokens_of e ++ Mark Dot ∷ Name n ∷ []
  form_tokens (arrow e n) = tokens_of e ++ Mark Arrow ∷ Name n ∷ []
  form_tokens (after op e) = tokens_of e ++ Mark op ∷ []
  form_tokens (unary op e) = Mark op ∷ tokens_of e
  form_tokens (sizeof_expr e) = Word Sizeof ∷ tokens_of e
  form_tokens (sizeof_type t) = Word Sizeof ∷ Mark LeftParenthesis ∷ type_name_tokens t ++ Mark RightParenthesis ∷ []
  form_tokens (cast t e) = Mark LeftParenthesis ∷ type_name_tokens t ++ Mark RightParenthesis ∷ tokens_of e
  form_tokens (binary op l r) = tokens_of l ++ Mark op ∷ tokens_of r
  form_tokens (choice c l r) = tokens_of c ++ Mark Question ∷ tokens_of l ++ Mark Colon ∷ tokens_of r
  form_tokens (assign op l r) = tokens_of l ++ Mark op ∷ tokens_of r
  form_tokens (comma l r) = tokens_of l ++ Mark Comma ∷ tokens_of r

  pub expressions_tokens : List Kind → Expressions → List Kind
  expressions_tokens before no_expressions = []
  expressions_tokens before (next_expression e es) = before ++ tokens_of e ++ expressions_tokens (Mark Comma ∷ []) es

  pub maybe_tokens : List Kind → MaybeExpression → List Kind
  maybe_tokens before no_expression = []
  maybe_tokens before (some_expression e) = before ++ tokens_of e

  pub specifier_tokens : Specifier → List Kind
  specifier_tokens (storage k) = Word k ∷ []
  specifier_tokens (qualifier k) = Word k ∷ []
  specifier_tokens (basic k) = Word k ∷ []
  specifier_tokens (named n) = Name n ∷ []
  specifier_tokens (struct_specifier s) = struct_tokens s
  specifier_tokens (enum_specifier e) = enum_tokens e

  pub specifiers_tokens : Specifiers → List Kind
  specifiers_tokens no_specifiers = []
  specifiers_tokens (next_specifier s ss) = specifier_tokens s ++ specifiers_tokens ss

  pub struct_tokens : StructSpec → List Kind
  struct_tokens (struct_spec union tag ms p) = Word (if union then Union else Struct) ∷ tag_tokens tag ++ members_tokens ms

  pub members_tokens : Members → List Kind
  members_tokens no_members = []
  members_tokens (some_members ds) = Mark LeftBrace ∷ declarations_tokens ds ++ Mark RightBrace ∷ []

  pub enum_tokens : EnumSpec → List Kind
  enum_tokens (enum_spec tag cs p) = Word Enum ∷ tag_tokens tag ++ constants_tokens cs

  pub constants_tokens : Constants → List Kind
  constants_tokens no_constants = []
  constants_tokens (some_constants es) = Mark LeftBrace ∷ enumerators_tokens [] es ++ Mark RightBrace ∷ []

  pub enumerators_tokens : List Kind → Enumerators → List Kind
  enumerators_tokens before no_enumerators = []
  enumerators_tokens before (next_enumerator n p value es) = before ++ Name n ∷ maybe_tokens (Mark Assign ∷ []) value ++ enumerators_tokens (Mark Comma ∷ []) es

  pub declarator_tokens : Declarator → List Kind
  declarator_tokens (declarator f p) = declarator_form_tokens f

  pub declarator_form_tokens : DeclaratorForm → List Kind
  declarator_form_tokens absent = []
  declarator_form_tokens (declared n) = Name n ∷ []
  declarator_form_tokens (group d) = Mark LeftParenthesis ∷ declarator_tokens d ++ Mark RightParenthesis ∷ []
  declarator_form_tokens (pointer qs d) = Mark Star ∷ map (λ k. Word k) qs ++ declarator_tokens d
  declarator_form_tokens (array d e) = declarator_tokens d ++ Mark LeftBracket ∷ maybe_tokens [] e ++ Mark RightBracket ∷ []
  declarator_form_tokens (function d ps dots) = declarator_tokens d ++ Mark LeftParenthesis ∷ params_tokens [] ps ++ dots_tokens dots ++ Mark RightParenthesis ∷ []

  pub param_tokens : Param → List Kind
  param_tokens (param ss d) = specifiers_tokens ss ++ declarator_tokens d

  pub params_tokens : List Kind → Params → List Kind
  params_tokens before no_params = []
  params_tokens before (next_param p ps) = before ++ param_tokens p ++ params_tokens (Mark Comma ∷ []) ps

  pub type_name_tokens : TypeName → List Kind
  type_name_tokens (type_name ss d) = specifiers_tokens ss ++ declarator_tokens d

  pub init_tokens : Init → List Kind
  init_tokens (one e) = tokens_of e
  init_tokens (list is trailing) = Mark LeftBrace ∷ inits_tokens [] is ++ (if trailing then Mark Comma ∷ [] else []) ++ Mark RightBrace ∷ []

  pub inits_tokens : List Kind → Inits → List Kind
  inits_tokens before no_inits = []
  inits_tokens before (next_init i is) = before ++ init_tokens i ++ inits_tokens (Mark Comma ∷ []) is

  pub maybe_init_tokens : MaybeInit → List Kind
  maybe_init_tokens no_init = []
  maybe_init_tokens (some_init i) = Mark Assign ∷ init_tokens i

  pub item_tokens : InitDeclarator → List Kind
  item_tokens (init_declarator d start) = declarator_tokens d ++ maybe_init_tokens start

  pub items_tokens : List Kind → InitDeclarators → List Kind
  items_tokens before no_items = []
  items_tokens before (next_item i is) = before ++ item_tokens i ++ items_tokens (Mark Comma ∷ []) is

  pub declaration_tokens : Declaration → List Kind
  declaration_tokens (declaration ss is p) = specifiers_tokens ss ++ items_tokens [] is ++ Mark Semicolon ∷ []

  pub declarations_tokens : Declarations → List Kind
  declarations_tokens no_declarations = []
  declarations_tokens (next_declaration d ds) = declaration_tokens d ++ declarations_tokens ds

abbrev mutual
  pub statement_tokens : Statement → List Kind
  statement_tokens (statement f p end) = statement_form_tokens f

  pub statement_form_tokens : StatementForm → List Kind
  statement_form_tokens (label n s) = Name n ∷ Mark Colon ∷ statement_tokens s
  statement_form_tokens (case_label e s) = Word Case ∷ tokens_of e ++ Mark Colon ∷ statement_tokens s
  statement_form_tokens (default_label s) = Word Default ∷ Mark Colon ∷ statement_tokens s
  statement_form_tokens (block ds ss) = Mark LeftBrace ∷ declarations_tokens ds ++ statements_tokens ss ++ Mark RightBrace ∷ []
  statement_form_tokens empty = Mark Semicolon ∷ []
  statement_form_tokens (of e) = tokens_of e ++ Mark Semicolon ∷ []
  statement_form_tokens (if_else e s other) = Word If ∷ Mark LeftParenthesis ∷ tokens_of e ++ Mark RightParenthesis ∷ statement_tokens s ++ else_tokens other
  statement_form_tokens (switch_on e s) = Word Switch ∷ Mark LeftParenthesis ∷ tokens_of e ++ Mark RightParenthesis ∷ statement_tokens s
  statement_form_tokens (while_loop e s) = Word While ∷ Mark LeftParenthesis ∷ tokens_of e ++ Mark RightParenthesis ∷ statement_tokens s
  statement_form_tokens (do_loop s e) = Word Do ∷ statement_tokens s ++ Word While ∷ Mark LeftParenthesis ∷ tokens_of e ++ Mark RightParenthesis ∷ Mark Semicolon ∷ []
  statement_form_tokens (for_loop a b c s) = Word For ∷ Mark LeftParenthesis ∷ maybe_tokens [] a ++ Mark Semicolon ∷ maybe_tokens [] b ++ Mark Semicolon ∷ maybe_tokens [] c ++ Mark RightParenthesis ∷ statement_tokens s
  statement_form_tokens (goto_name n) = Word Goto ∷ Name n ∷ Mark Semicolon ∷ []
  statement_form_tokens continue_loop = Word Continue ∷ Mark Semicolon ∷ []
  statement_form_tokens break_out = Word Break ∷ Mark Semicolon ∷ []
  statement_form_tokens (return_value e) = Word Return ∷ maybe_tokens [] e ++ Mark Semicolon ∷ []

  pub else_tokens : MaybeStatement → List Kind
  else_tokens no_statement = []
  else_tokens (some_statement s) = Word Else ∷ statement_tokens s

  pub statements_tokens : Statements → List Kind
  statements_tokens no_statements = []
  statements_tokens (next_statement s ss) = statement_tokens s ++ statements_tokens ss

abbrev pub external_tokens : External → List Kind
external_tokens (definition ss d s) = specifiers_tokens ss ++ declarator_tokens d ++ statement_tokens s
external_tokens (external_declaration d) = declaration_tokens d
external_tokens semicolon = Mark Semicolon ∷ []

-- the kinds of a unit's tokens
abbrev pub unit_tokens : List External → List Kind
unit_tokens [] = []
unit_tokens (e ∷ es) = external_tokens e ++ unit_tokens es
