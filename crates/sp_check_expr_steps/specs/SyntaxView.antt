-- The views of the trees that stand inside others.
use Rattle.sp_parse_trees.specs.Syntax.{Expression, ExpressionForm, Init, Specifier, Declaration, Declarator, DeclaratorForm, EnumSpec, InitDeclarator, Param, StructSpec, TypeName}
use Rattle.sp_parse_trees.specs.View.{declarator_form_step, expression_form_step, init_step, specifier_step, declaration_step, declarator_step, enum_spec_step, expression_step, init_declarator_step, param_step, struct_spec_step, type_name_step}
use Rattle.sp_parse_trees.specs.declared.tree.ExprForm.{ExprForm, fold-ExprForm}
use Rattle.sp_parse_trees.specs.declared.tree.StructSpec.{StructSpec as CodeStruct, fold-StructSpec}
use Rattle.sp_parse_trees.specs.declared.tree.InitDeclarator.{InitDeclarator as CodeItem, fold-InitDeclarator}
use Rattle.sp_parse_trees.specs.declared.tree.EnumSpec.{EnumSpec as CodeEnum, fold-EnumSpec}
use Rattle.sp_parse_trees.specs.declared.tree.DeclaratorForm.{DeclaratorForm as CodeForm, fold-DeclaratorForm}

abbrev pub form_of : ExprForm → ExpressionForm
form_of = fold-ExprForm DeclaratorForm ExpressionForm Init Specifier Declaration Declarator EnumSpec Expression InitDeclarator Param StructSpec TypeName declarator_form_step expression_form_step init_step specifier_step declaration_step declarator_step enum_spec_step expression_step init_declarator_step param_step struct_spec_step type_name_step

abbrev pub declarator_form_of : CodeForm → DeclaratorForm
declarator_form_of = fold-DeclaratorForm DeclaratorForm ExpressionForm Init Specifier Declaration Declarator EnumSpec Expression InitDeclarator Param StructSpec TypeName declarator_form_step expression_form_step init_step specifier_step declaration_step declarator_step enum_spec_step expression_step init_declarator_step param_step struct_spec_step type_name_step

abbrev pub struct_spec_of : CodeStruct → StructSpec
struct_spec_of = fold-StructSpec DeclaratorForm ExpressionForm Init Specifier Declaration Declarator EnumSpec Expression InitDeclarator Param StructSpec TypeName declarator_form_step expression_form_step init_step specifier_step declaration_step declarator_step enum_spec_step expression_step init_declarator_step param_step struct_spec_step type_name_step

abbrev pub enum_spec_of : CodeEnum → EnumSpec
enum_spec_of = fold-EnumSpec DeclaratorForm ExpressionForm Init Specifier Declaration Declarator EnumSpec Expression InitDeclarator Param StructSpec TypeName declarator_form_step expression_form_step init_step specifier_step declaration_step declarator_step enum_spec_step expression_step init_declarator_step param_step struct_spec_step type_name_step

abbrev pub init_declarator_of : CodeItem → InitDeclarator
init_declarator_of = fold-InitDeclarator DeclaratorForm ExpressionForm Init Specifier Declaration Declarator EnumSpec Expression InitDeclarator Param StructSpec TypeName declarator_form_step expression_form_step init_step specifier_step declaration_step declarator_step enum_spec_step expression_step init_declarator_step param_step struct_spec_step type_name_step
