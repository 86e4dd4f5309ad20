-- What the form of a declarator of the code stands for.
use Rattle.sp_parse_trees.specs.Syntax.{Expression, ExpressionForm, Init, Specifier, Declaration, Declarator, DeclaratorForm, EnumSpec, InitDeclarator, Param, StructSpec, TypeName}
use Rattle.sp_parse_trees.specs.View.{declarator_form_step, expression_form_step, init_step, specifier_step, declaration_step, declarator_step, enum_spec_step, expression_step, init_declarator_step, param_step, struct_spec_step, type_name_step}
use Rattle.sp_parse_trees.specs.declared.tree.DeclaratorForm.{DeclaratorForm as CodeForm, fold-DeclaratorForm}

abbrev pub declarator_form_of : CodeForm → DeclaratorForm
declarator_form_of = fold-DeclaratorForm DeclaratorForm ExpressionForm Init Specifier Declaration Declarator EnumSpec Expression InitDeclarator Param StructSpec TypeName declarator_form_step expression_form_step init_step specifier_step declaration_step declarator_step enum_spec_step expression_step init_declarator_step param_step struct_spec_step type_name_step
