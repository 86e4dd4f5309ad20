-- The plain tree that a value of the code stands for.
use Rattle.std.specs.Prelude.{ℕ, List, [], ◌∷◌, map, Option, Some, None, Vec}
use Rattle.std.specs.declared.alloc.Global.{Global}
use Rattle.std.specs.declared.boxed.Box.{Box}
use Rattle.sp_tree.specs.declared.fault.Place.{Place}
use Rattle.sp_parse_trees.specs.Syntax.{Expression, expression, ExpressionForm, name, number, character, text, paren, index, call, member, arrow, after, unary, sizeof_expr, sizeof_type, cast, binary, choice, assign, comma, Expressions, no_expressions, next_expression, MaybeExpression, no_expression, some_expression}
use Rattle.sp_parse_trees.specs.Syntax.{Specifier, storage, qualifier, basic, named, struct_specifier, enum_specifier, Specifiers, no_specifiers, next_specifier, StructSpec, struct_spec, Members, no_members, some_members, EnumSpec, enum_spec, Constants, no_constants, some_constants, Enumerators, no_enumerators, next_enumerator}
use Rattle.sp_parse_trees.specs.Syntax.{Declarator, declarator, DeclaratorForm, absent, declared, group, pointer, array, function, Param, param, Params, no_params, next_param, TypeName, type_name}
use Rattle.sp_parse_trees.specs.Syntax.{Init, one, list, Inits, no_inits, next_init, MaybeInit, no_init, some_init, InitDeclarator, init_declarator, InitDeclarators, no_items, next_item, Declaration, declaration, Declarations, no_declarations, next_declaration}
use Rattle.sp_parse_trees.specs.Syntax.{Statement, statement, StatementForm, label, case_label, default_label, block, empty, of, if_else, switch_on, while_loop, do_loop, for_loop, goto_name, continue_loop, break_out, return_value, MaybeStatement, no_statement, some_statement, Statements, no_statements, next_statement, External, definition, external_declaration, semicolon}
use Rattle.sp_parse_trees.specs.declared.tree.Expr.{Expr, fold-Expr}
use Rattle.sp_parse_trees.specs.declared.tree.Specifier.{Specifier as CodeSpecifier, fold-Specifier}
use Rattle.sp_parse_trees.specs.declared.tree.Declarator.{Declarator as CodeDeclarator, fold-Declarator}
use Rattle.sp_parse_trees.specs.declared.tree.Param.{Param as CodeParam, fold-Param}
use Rattle.sp_parse_trees.specs.declared.tree.TypeName.{TypeName as CodeTypeName, fold-TypeName}
use Rattle.sp_parse_trees.specs.declared.tree.Declaration.{Declaration as CodeDeclaration, fold-Declaration}
use Rattle.sp_parse_trees.specs.declared.tree.DeclaratorForm.TheOpen.{DeclaratorForm-F, ExprForm-F, Init-F, Specifier-F, Declaration-F, Declarator-F, EnumSpec-F, Expr-F, InitDeclarator-F, Param-F, StructSpec-F, TypeName-F}
use Rattle.sp_parse_trees.specs.declared.tree.DeclaratorForm.TheOpen.{Absent, DeclaratorForm::Name, DeclaratorForm::Paren, Pointer, Array, Function, ExprForm::Name, Number, Char, Text, ExprForm::Paren, Index, Call, Member, Arrow, After, Unary, SizeofExpr, SizeofType, Cast, Binary, Choice, Assign, Comma, One, List as Braced, Storage, Qualifier, Basic, Named, Struct, Enum}
use Rattle.sp_parse_trees.specs.declared.statement.Statement.{Statement as CodeStatement, fold-Statement}
use Rattle.sp_parse_trees.specs.declared.statement.StatementForm.TheOpen.{StatementForm-F, Statement-F, Label, Case, Default, Block, Empty, Of, If, Switch, While, Do, For, Goto, Continue, Break, Return}
use Rattle.sp_parse_trees.specs.declared.statement.External.{External as CodeExternal}
use Rattle.sp_parse_trees.specs.declared.statement.External.TheVariants.{Function as Defined, Declaration as Declares, Empty as Alone}

-- ---- lists of parts

abbrev pub expressions : List Expression → Expressions
expressions [] = no_expressions
expressions (e ∷ es) = next_expression e (expressions es)

abbrev pub maybe_expression : Option Expression → MaybeExpression
maybe_expression None = no_expression
maybe_expression (Some e) = some_expression e

abbrev pub specifiers : List Specifier → Specifiers
specifiers [] = no_specifiers
specifiers (s ∷ ss) = next_specifier s (specifiers ss)

abbrev pub declarations : List Declaration → Declarations
declarations [] = no_declarations
declarations (d ∷ ds) = next_declaration d (declarations ds)

abbrev pub members_of : Option (Vec Declaration Global) → Members
members_of None = no_members
members_of (Some ds) = some_members (declarations ds.items)

abbrev pub enumerators : List (ℕ × Place × Option Expression) → Enumerators
enumerators [] = no_enumerators
enumerators (c ∷ cs) = next_enumerator c.0 c.1 (maybe_expression c.2) (enumerators cs)

abbrev pub constants_of : Option (Vec (ℕ × Place × Option Expression) Global) → Constants
constants_of None = no_constants
constants_of (Some cs) = some_constants (enumerators cs.items)

abbrev pub params : List Param → Params
params [] = no_params
params (p ∷ ps) = next_param p (params ps)

abbrev pub inits : List Init → Inits
inits [] = no_inits
inits (i ∷ is) = next_init i (inits is)

abbrev pub maybe_init : Option Init → MaybeInit
maybe_init None = no_init
maybe_init (Some i) = some_init i

abbrev pub init_declarators : List InitDeclarator → InitDeclarators
init_declarators [] = no_items
init_declarators (i ∷ is) = next_item i (init_declarators is)

abbrev pub statements : List Statement → Statements
statements [] = no_statements
statements (s ∷ ss) = next_statement s (statements ss)

-- ---- one level of each type, with the parts inside already seen as plain trees

abbrev pub declarator_form_step : DeclaratorForm-F DeclaratorForm ExpressionForm Init Specifier Declaration Declarator EnumSpec Expression InitDeclarator Param StructSpec TypeName → DeclaratorForm
declarator_form_step Absent = absent
declarator_form_step (DeclaratorForm::Name n) = declared n
declarator_form_step (DeclaratorForm::Paren d) = group d.value
declarator_form_step (Pointer qs d) = pointer qs.items d.value
declarator_form_step (Array d None) = array d.value no_expression
declarator_form_step (Array d (Some e)) = array d.value (some_expression e.value)
declarator_form_step (Function d ps dots) = function d.value (params ps.items) dots

abbrev pub expression_form_step : ExprForm-F DeclaratorForm ExpressionForm Init Specifier Declaration Declarator EnumSpec Expression InitDeclarator Param StructSpec TypeName → ExpressionForm
expression_form_step (ExprForm::Name n) = name n
expression_form_step (Number n) = number n
expression_form_step (Char z) = character z
expression_form_step (Text ns) = text ns.items
expression_form_step (ExprForm::Paren e) = paren e.value
expression_form_step (Index e i) = index e.value i.value
expression_form_step (Call e es) = call e.value (expressions es.items)
expression_form_step (Member e n) = member e.value n
expression_form_step (Arrow e n) = arrow e.value n
expression_form_step (After p e) = after p e.value
expression_form_step (Unary p e) = unary p e.value
expression_form_step (SizeofExpr e) = sizeof_expr e.value
expression_form_step (SizeofType t) = sizeof_type t.value
expression_form_step (Cast t e) = cast t.value e.value
expression_form_step (Binary p l r) = binary p l.value r.value
expression_form_step (Choice c l r) = choice c.value l.value r.value
expression_form_step (Assign p l r) = assign p l.value r.value
expression_form_step (Comma l r) = comma l.value r.value

abbrev pub init_step : Init-F DeclaratorForm ExpressionForm Init Specifier Declaration Declarator EnumSpec Expression InitDeclarator Param StructSpec TypeName → Init
init_step (One e) = one e
init_step (Braced is trailing) = list (inits is.items) trailing

abbrev pub specifier_step : Specifier-F DeclaratorForm ExpressionForm Init Specifier Declaration Declarator EnumSpec Expression InitDeclarator Param StructSpec TypeName → Specifier
specifier_step (Storage k) = storage k
specifier_step (Qualifier k) = qualifier k
specifier_step (Basic k) = basic k
specifier_step (Named n) = named n
specifier_step (Struct s) = struct_specifier s.value
specifier_step (Enum e) = enum_specifier e.value

abbrev pub declaration_step : Declaration-F DeclaratorForm ExpressionForm Init Specifier Declaration Declarator EnumSpec Expression InitDeclarator Param StructSpec TypeName → Declaration
declaration_step d = declaration (specifiers d.specifiers.items) (init_declarators d.items.items) d.place

abbrev pub declarator_step : Declarator-F DeclaratorForm ExpressionForm Init Specifier Declaration Declarator EnumSpec Expression InitDeclarator Param StructSpec TypeName → Declarator
declarator_step d = declarator d.form d.place

abbrev pub enum_spec_step : EnumSpec-F DeclaratorForm ExpressionForm Init Specifier Declaration Declarator EnumSpec Expression InitDeclarator Param StructSpec TypeName → EnumSpec
enum_spec_step e = enum_spec e.tag (constants_of e.constants) e.place

abbrev pub expression_step : Expr-F DeclaratorForm ExpressionForm Init Specifier Declaration Declarator EnumSpec Expression InitDeclarator Param StructSpec TypeName → Expression
expression_step e = expression e.form e.place e.mark

abbrev pub init_declarator_step : InitDeclarator-F DeclaratorForm ExpressionForm Init Specifier Declaration Declarator EnumSpec Expression InitDeclarator Param StructSpec TypeName → InitDeclarator
init_declarator_step i = init_declarator i.declarator (maybe_init i.start)

abbrev pub param_step : Param-F DeclaratorForm ExpressionForm Init Specifier Declaration Declarator EnumSpec Expression InitDeclarator Param StructSpec TypeName → Param
param_step p = param (specifiers p.specifiers.items) p.declarator

abbrev pub struct_spec_step : StructSpec-F DeclaratorForm ExpressionForm Init Specifier Declaration Declarator EnumSpec Expression InitDeclarator Param StructSpec TypeName → StructSpec
struct_spec_step s = struct_spec s.union s.tag (members_of s.members) s.place

abbrev pub type_name_step : TypeName-F DeclaratorForm ExpressionForm Init Specifier Declaration Declarator EnumSpec Expression InitDeclarator Param StructSpec TypeName → TypeName
type_name_step t = type_name (specifiers t.specifiers.items) t.declarator

-- ---- whole trees

abbrev pub tree_of : Expr → Expression
tree_of = fold-Expr DeclaratorForm ExpressionForm Init Specifier Declaration Declarator EnumSpec Expression InitDeclarator Param StructSpec TypeName declarator_form_step expression_form_step init_step specifier_step declaration_step declarator_step enum_spec_step expression_step init_declarator_step param_step struct_spec_step type_name_step

abbrev pub specifier_of : CodeSpecifier → Specifier
specifier_of = fold-Specifier DeclaratorForm ExpressionForm Init Specifier Declaration Declarator EnumSpec Expression InitDeclarator Param StructSpec TypeName declarator_form_step expression_form_step init_step specifier_step declaration_step declarator_step enum_spec_step expression_step init_declarator_step param_step struct_spec_step type_name_step

abbrev pub declarator_of : CodeDeclarator → Declarator
declarator_of = fold-Declarator DeclaratorForm ExpressionForm Init Specifier Declaration Declarator EnumSpec Expression InitDeclarator Param StructSpec TypeName declarator_form_step expression_form_step init_step specifier_step declaration_step declarator_step enum_spec_step expression_step init_declarator_step param_step struct_spec_step type_name_step

abbrev pub param_of : CodeParam → Param
param_of = fold-Param DeclaratorForm ExpressionForm Init Specifier Declaration Declarator EnumSpec Expression InitDeclarator Param StructSpec TypeName declarator_form_step expression_form_step init_step specifier_step declaration_step declarator_step enum_spec_step expression_step init_declarator_step param_step struct_spec_step type_name_step

abbrev pub type_name_of : CodeTypeName → TypeName
type_name_of = fold-TypeName DeclaratorForm ExpressionForm Init Specifier Declaration Declarator EnumSpec Expression InitDeclarator Param StructSpec TypeName declarator_form_step expression_form_step init_step specifier_step declaration_step declarator_step enum_spec_step expression_step init_declarator_step param_step struct_spec_step type_name_step

abbrev pub declaration_of : CodeDeclaration → Declaration
declaration_of = fold-Declaration DeclaratorForm ExpressionForm Init Specifier Declaration Declarator EnumSpec Expression InitDeclarator Param StructSpec TypeName declarator_form_step expression_form_step init_step specifier_step declaration_step declarator_step enum_spec_step expression_step init_declarator_step param_step struct_spec_step type_name_step

abbrev pub specifiers_of : List CodeSpecifier → Specifiers
specifiers_of ss = specifiers (map specifier_of ss)

-- ---- statements

abbrev pub optional : Option Expr → MaybeExpression
optional None = no_expression
optional (Some e) = some_expression (tree_of e)

abbrev pub maybe_statement : Option (Box Statement Global) → MaybeStatement
maybe_statement None = no_statement
maybe_statement (Some s) = some_statement s.value

abbrev pub statement_form_step : StatementForm-F StatementForm Statement → StatementForm
statement_form_step (Label n s) = label n s.value
statement_form_step (Case e s) = case_label (tree_of e) s.value
statement_form_step (Default s) = default_label s.value
statement_form_step (Block ds ss) = block (declarations (map declaration_of ds.items)) (statements ss.items)
statement_form_step Empty = empty
statement_form_step (Of e) = of (tree_of e)
statement_form_step (If e s other) = if_else (tree_of e) s.value (maybe_statement other)
statement_form_step (Switch e s) = switch_on (tree_of e) s.value
statement_form_step (While e s) = while_loop (tree_of e) s.value
statement_form_step (Do s e) = do_loop s.value (tree_of e)
statement_form_step (For f s) = for_loop (optional f.value.start) (optional f.value.test) (optional f.value.step) s.value
statement_form_step (Goto n) = goto_name n
statement_form_step Continue = continue_loop
statement_form_step Break = break_out
statement_form_step (Return e) = return_value (optional e)

abbrev pub statement_step : Statement-F StatementForm Statement → Statement
statement_step s = statement s.form s.place s.end

abbrev pub statement_of : CodeStatement → Statement
statement_of = fold-Statement StatementForm Statement statement_form_step statement_step

-- ---- units

abbrev pub external_of : CodeExternal → External
external_of (Defined ss d s) = definition (specifiers_of ss.items) (declarator_of d) (statement_of s)
external_of (Declares d) = external_declaration (declaration_of d)
external_of Alone = semicolon

abbrev pub externals_of : List CodeExternal → List External
externals_of es = map external_of es
