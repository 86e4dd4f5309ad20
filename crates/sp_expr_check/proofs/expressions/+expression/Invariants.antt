use Rattle.std.proofs.Common.{◌≡◌, [], map, drop}
use Rattle.std.specs.Prelude.{pos, unwrap_or}
use Rattle.sp_parse_trees.specs.View.{tree_of, expressions, param_of, params, specifiers_of, declaration_of, declarations, init_declarators, enumerators}
use Rattle.sp_check_operands.specs.Balances.{members_seen}
use Rattle.sp_check_expr_steps.specs.Parameters.{params_of}
use Rattle.sp_check_expr_steps.proofs.Braces.{constant_seen}
use Rattle.sp_types.specs.Types.{parameters_of}
use Rattle.sp_types.specs.View.{type_of, signature_of}
use Rattle.sp_types.specs.TypedView.{typed_of}
use Rattle.sp_check_env.specs.Views.{env_of}
use Rattle.sp_check_expr_steps.specs.SyntaxView.{form_of, declarator_form_of, struct_spec_of, enum_spec_of, init_declarator_of}
use Rattle.sp_check_binary_rules.specs.Rules.{told, behind_by}
use Rattle.sp_check_expr_steps.specs.Expressions.{arguments_checked, arguments_of, params_checked, specifiers_checked, members_checked, items_checked, constants_checked, declarations_in, constants_in, items_in}
use Rattle.sp_check_expr_steps.specs.Resuming.{resumed}
use Rattle.sp_expr_check.proofs.expressions.+expression.Given as goal

abbrev pub invariant-arguments_checked-arguments : goal.invariant-arguments_checked-arguments
invariant-arguments_checked-arguments l =
    resumed (map typed_of l.all.items) (arguments_checked l.names (env_of l.env) (behind_by l.i (told (parameters_of (signature_of l.signature)))) (expressions (map tree_of (drop l.i l.e-items))))
    ≡ arguments_checked l.names (env_of l.initial.env) (told (parameters_of (signature_of l.signature))) (arguments_of (form_of l.form))

abbrev pub invariant-params_checked-params : goal.invariant-params_checked-params
invariant-params_checked-params l =
    params_checked l.names (env_of l.env) l.alone (map type_of l.all.items) (params (map param_of (drop l.i l.param-items)))
    ≡ params_checked l.names (env_of l.initial.env) l.alone [] (params_of (declarator_form_of l.form))

abbrev pub invariant-specifiers_checked-specifiers : goal.invariant-specifiers_checked-specifiers
invariant-specifiers_checked-specifiers l =
    specifiers_checked l.names (env_of l.env) l.alone l.at (specifiers_of (drop l.i l.specifiers))
    ≡ specifiers_checked l.names (env_of l.initial.env) l.alone l.at (specifiers_of l.specifiers)

abbrev pub invariant-members_checked-members : goal.invariant-members_checked-members
invariant-members_checked-members l =
    members_checked l.names (env_of l.env) (members_seen l.all) (declarations (map declaration_of (drop l.i l.declaration-items)))
    ≡ members_checked l.names (env_of l.initial.env) [] (declarations_in (struct_spec_of l.spec))

abbrev pub invariant-items_checked-items : goal.invariant-items_checked-items
invariant-items_checked-items l =
    items_checked l.names (env_of l.env) (type_of l.base) (members_seen l.all) (init_declarators (map init_declarator_of (drop l.i l.item-items)))
    ≡ items_checked l.names (env_of l.initial.env) (type_of l.base) (members_seen l.initial.all) (items_in (declaration_of l.declaration))

abbrev pub invariant-constants_checked-constants : goal.invariant-constants_checked-constants
invariant-constants_checked-constants l =
    constants_checked l.names (env_of l.env) (unwrap_or l.next (pos 0)) (enumerators (map constant_seen (drop l.i l.constant-items)))
    ≡ constants_checked l.names (env_of l.initial.env) (pos 0) (constants_in (enum_spec_of l.spec))
