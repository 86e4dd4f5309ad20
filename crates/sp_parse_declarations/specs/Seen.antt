-- What the parts of the code are as answers of the grammar.
use Rattle.std.specs.Prelude.{[], ◌∷◌, map}
use Rattle.sp_parse_trees.specs.declared.tree.Init.{Init as CodeInit, fold-Init}
use Rattle.sp_parse_trees.specs.Syntax.{Declarator, DeclaratorForm, Param, TypeName, Expression, ExpressionForm, Declaration, InitDeclarator, Init, Specifier, StructSpec, EnumSpec}
use Rattle.sp_parse_trees.specs.View.{declarator_form_step, expression_form_step, init_step, specifier_step, declaration_step, declarator_step, enum_spec_step, expression_step, init_declarator_step, param_step, struct_spec_step, type_name_step}
use Rattle.sp_parse_grammar.specs.CTable as grammar
use Rattle.sp_parse_tokens.specs.SyntaxTrees.{syntax_trees}
use Rattle.sp_parse_tokens.specs.Scopes.{allowed_seen}
use Rattle.sp_parse_expr_steps.specs.Declaring.{item_seen}
use Rattle.sp_parse_declarations.specs.declared.initialisers.Inits.{Inits}
use Rattle.sp_parse_declarations.specs.declared.declarations.Item.{Item}
use Rattle.sp_parse_declarations.specs.declared.declarations.ItemList.{ItemList}

-- an initialiser
abbrev pub init_seen : CodeInit → Init
init_seen = fold-Init DeclaratorForm ExpressionForm Init Specifier Declaration Declarator EnumSpec Expression InitDeclarator Param StructSpec TypeName declarator_form_step expression_form_step init_step specifier_step declaration_step declarator_step enum_spec_step expression_step init_declarator_step param_step struct_spec_step type_name_step

abbrev pub inits_seen : Inits → grammar.Inits syntax_trees
inits_seen is = record { all = map init_seen is.all.items; comma = is.comma }

-- a declarator with its initialiser, and a list of them
abbrev pub item_part : Item → grammar.Items syntax_trees
item_part i = record { all = item_seen i.tree ∷ []; names = grammar.with_name i.declares []; behind = allowed_seen i.behind }

abbrev pub items_part : ItemList → grammar.Items syntax_trees
items_part is = record { all = map item_seen is.all.items; names = is.names.items; behind = allowed_seen is.behind }
