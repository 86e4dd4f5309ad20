-- Trees as a text can have them (C90 6.1.3, 6.3, 6.5.2.1): a number is one of 64 bits, a character
-- is an int, unary and binary operators and storage classes stand where the grammar has them, and
-- the braces of a struct hold a member.
use Rattle.std.specs.Prelude.{◌≡◌, ◌^◌, ◌<◌, ◌==◌, ◌||◌, Bool, true, false, ⊤}
use Rattle.sp_types.specs.declared.ctype.IntKind.TheVariants.{Int}
use Rattle.sp_parse_trees.specs.Words.{is_storage, binary_level, is_step, is_unary}
use Rattle.sp_parse_trees.specs.Syntax.{Expression, expression, ExpressionForm, name, number, character, text, paren, index, call, member, arrow, after, unary, sizeof_expr, sizeof_type, cast, binary, choice, assign, comma, Expressions, no_expressions, next_expression, MaybeExpression, no_expression, some_expression}
use Rattle.sp_parse_trees.specs.Syntax.{Specifier, storage, qualifier, basic, named, struct_specifier, enum_specifier, Specifiers, no_specifiers, next_specifier, StructSpec, struct_spec, Members, no_members, some_members, EnumSpec, enum_spec, Constants, no_constants, some_constants, Enumerators, no_enumerators, next_enumerator}
use Rattle.sp_parse_trees.specs.Syntax.{Declarator, declarator, DeclaratorForm, absent, declared, group, pointer, array, function, Param, param, Params, no_params, next_param, TypeName, type_name}
use Rattle.sp_parse_trees.specs.Syntax.{Init, one, list, Inits, no_inits, next_init, MaybeInit, no_init, some_init, InitDeclarator, init_declarator, InitDeclarators, no_items, next_item, Declaration, declaration, Declarations, no_declarations, next_declaration}
use Rattle.sp_ir.specs.Formed.{InKind}

-- ---- members

abbrev pub has_item : InitDeclarators → Bool
has_item no_items = false
has_item (next_item i is) = true

abbrev pub declares : Declaration → Bool
declares (declaration ss is p) = has_item is

-- one of the declarations declares a member
abbrev pub holds_member : Declarations → Bool
holds_member no_declarations = false
holds_member (next_declaration d ds) = declares d || holds_member ds

-- ---- trees

abbrev mutual
  pub IsWritten : Expression → Type 0
  IsWritten (expression f p m) = IsWrittenForm f

  pub IsWrittenForm : ExpressionForm → Type 0
  IsWrittenForm (name n) = ⊤
  IsWrittenForm (number n) = n.value < 2 ^ 64
  IsWrittenForm (character z) = InKind Int z
  IsWrittenForm (text ns) = ⊤
  IsWrittenForm (paren e) = IsWritten e
  IsWrittenForm (index a b) = IsWritten a × IsWritten b
  IsWrittenForm (call f es) = IsWritten f × AreWritten es
  IsWrittenForm (member e n) = IsWritten e
  IsWrittenForm (arrow e n) = IsWritten e
  IsWrittenForm (after op e) = IsWritten e
  IsWrittenForm (unary op e) = ((is_step op || is_unary op) ≡ true) × IsWritten e
  IsWrittenForm (sizeof_expr e) = IsWritten e
  IsWrittenForm (sizeof_type t) = IsWrittenName t
  IsWrittenForm (cast t e) = IsWrittenName t × IsWritten e
  IsWrittenForm (binary op a b) = ((binary_level op == 0) ≡ false) × IsWritten a × IsWritten b
  IsWrittenForm (choice c a b) = IsWritten c × IsWritten a × IsWritten b
  IsWrittenForm (assign op a b) = IsWritten a × IsWritten b
  IsWrittenForm (comma a b) = IsWritten a × IsWritten b

  pub AreWritten : Expressions → Type 0
  AreWritten no_expressions = ⊤
  AreWritten (next_expression e es) = IsWritten e × AreWritten es

  pub IsWrittenMaybe : MaybeExpression → Type 0
  IsWrittenMaybe no_expression = ⊤
  IsWrittenMaybe (some_expression e) = IsWritten e

  pub IsWrittenName : TypeName → Type 0
  IsWrittenName (type_name ss d) = AreWrittenSpecifiers ss × IsWrittenDeclarator d

  pub IsWrittenSpecifier : Specifier → Type 0
  IsWrittenSpecifier (storage k) = is_storage k ≡ true
  IsWrittenSpecifier (qualifier k) = ⊤
  IsWrittenSpecifier (basic k) = ⊤
  IsWrittenSpecifier (named n) = ⊤
  IsWrittenSpecifier (struct_specifier s) = IsWrittenStruct s
  IsWrittenSpecifier (enum_specifier s) = IsWrittenEnum s

  pub AreWrittenSpecifiers : Specifiers → Type 0
  AreWrittenSpecifiers no_specifiers = ⊤
  AreWrittenSpecifiers (next_specifier s ss) = IsWrittenSpecifier s × AreWrittenSpecifiers ss

  pub IsWrittenStruct : StructSpec → Type 0
  IsWrittenStruct (struct_spec union tag ms p) = AreWrittenMembers ms

  pub AreWrittenMembers : Members → Type 0
  AreWrittenMembers no_members = ⊤
  AreWrittenMembers (some_members ds) = (holds_member ds ≡ true) × AreWrittenDeclarations ds

  pub IsWrittenEnum : EnumSpec → Type 0
  IsWrittenEnum (enum_spec tag cs p) = AreWrittenConstants cs

  pub AreWrittenConstants : Constants → Type 0
  AreWrittenConstants no_constants = ⊤
  AreWrittenConstants (some_constants cs) = AreWrittenEnumerators cs

  pub AreWrittenEnumerators : Enumerators → Type 0
  AreWrittenEnumerators no_enumerators = ⊤
  AreWrittenEnumerators (next_enumerator n p e cs) = IsWrittenMaybe e × AreWrittenEnumerators cs

  pub IsWrittenDeclarator : Declarator → Type 0
  IsWrittenDeclarator (declarator f p) = IsWrittenDeclaratorForm f

  pub IsWrittenDeclaratorForm : DeclaratorForm → Type 0
  IsWrittenDeclaratorForm absent = ⊤
  IsWrittenDeclaratorForm (declared n) = ⊤
  IsWrittenDeclaratorForm (group d) = IsWrittenDeclarator d
  IsWrittenDeclaratorForm (pointer qs d) = IsWrittenDeclarator d
  IsWrittenDeclaratorForm (array d e) = IsWrittenDeclarator d × IsWrittenMaybe e
  IsWrittenDeclaratorForm (function d ps dots) = IsWrittenDeclarator d × AreWrittenParams ps

  pub IsWrittenParam : Param → Type 0
  IsWrittenParam (param ss d) = AreWrittenSpecifiers ss × IsWrittenDeclarator d

  pub AreWrittenParams : Params → Type 0
  AreWrittenParams no_params = ⊤
  AreWrittenParams (next_param q qs) = IsWrittenParam q × AreWrittenParams qs

  pub IsWrittenInit : Init → Type 0
  IsWrittenInit (one e) = IsWritten e
  IsWrittenInit (list is ends) = AreWrittenInits is

  pub AreWrittenInits : Inits → Type 0
  AreWrittenInits no_inits = ⊤
  AreWrittenInits (next_init i is) = IsWrittenInit i × AreWrittenInits is

  pub IsWrittenStart : MaybeInit → Type 0
  IsWrittenStart no_init = ⊤
  IsWrittenStart (some_init i) = IsWrittenInit i

  pub IsWrittenItem : InitDeclarator → Type 0
  IsWrittenItem (init_declarator d start) = IsWrittenDeclarator d × IsWrittenStart start

  pub AreWrittenItems : InitDeclarators → Type 0
  AreWrittenItems no_items = ⊤
  AreWrittenItems (next_item i is) = IsWrittenItem i × AreWrittenItems is

  pub IsWrittenDeclaration : Declaration → Type 0
  IsWrittenDeclaration (declaration ss is p) = AreWrittenSpecifiers ss × AreWrittenItems is

  pub AreWrittenDeclarations : Declarations → Type 0
  AreWrittenDeclarations no_declarations = ⊤
  AreWrittenDeclarations (next_declaration d ds) =
      IsWrittenDeclaration d × AreWrittenDeclarations ds
