use Rattle.std.proofs.Common.{◌≡◌, ◌∷◌, [], ◌++◌, map, drop, suc, refl, sym, ap, ◌∙◌, add-one, subst}
use Rattle.std.proofs.lemmas.List.{map-append}
use Rattle.std.specs.Prelude.{Err, Result, Vec}
use Rattle.std.specs.declared.alloc.Global.{Global}
use Rattle.std.proofs.lemmas.Result.{err_from_is_err_and}
use Rattle.sp_types.specs.Typed.{TypedList}
use Rattle.sp_types.specs.declared.typed.TypedExpr.{TypedExpr}
use Rattle.sp_parse_trees.specs.declared.tree.DeclaratorForm.TheFolds.{fold-roll-ExprForm}
use Rattle.sp_parse_trees.specs.declared.tree.ExprForm.TheVariants.{rolls-Call}
use Rattle.sp_types.specs.TypedView.{typed_list}
use Rattle.sp_base_checked.specs.Answers.{AnswersIn}
use Rattle.sp_base_checked.specs.declared.error.CheckError.{CheckError}
use Rattle.sp_check_env.specs.Declaring.{LeadsTo}
use Rattle.sp_parse_trees.specs.View.{tree_of, expressions}
use Rattle.sp_types.specs.Types.{parameters_of}
use Rattle.sp_types.specs.View.{signature_of}
use Rattle.sp_types.specs.TypedView.{boxed_of, typed_of}
use Rattle.std.specs.declared.boxed.Box.{Box}
use Rattle.sp_base_checked.specs.Answers.{accepted}
use Rattle.sp_check_env.specs.Views.{env_of}
use Rattle.sp_check_expr_steps.specs.SyntaxView.{form_of}
use Rattle.sp_check_binary_rules.specs.Rules.{told, behind_by}
use Rattle.sp_check_expr_steps.specs.Expressions.{arguments_checked, arguments_of, one_checked}
use Rattle.sp_check_expr_steps.specs.Parameters.{params_of, is_alone_in}
use Rattle.std.specs.Prelude.{ℤ, pos, Option, unwrap_or}
use Rattle.sp_base_checked.specs.Answers.{and_then}
use Rattle.sp_check_operands.specs.Balances.{members_seen}
use Rattle.sp_check_expr_steps.specs.SyntaxView.{struct_spec_of, enum_spec_of, init_declarator_of}
use Rattle.sp_parse_trees.specs.View.{declaration_of, declarations, init_declarators, enumerators, optional}
use Rattle.sp_check_expr_steps.proofs.Braces.{constant_seen, declarations_in-view, constants_in-view, items_in-view, first_declaration, no_declaration_left, first_item, no_item_left, first_constant, no_constant_left}
use Rattle.sp_check_expr_steps.specs.Expressions.{params_checked, param_checked, members_checked, declaration_members, items_checked, item_checked, constants_checked, constant_checked, declarations_in, constants_in, items_in}
use Rattle.sp_check_expr_steps.specs.SyntaxView.{declarator_form_of}
use Rattle.sp_expr_check.proofs.Lists.{part_failed, part_stopped}
use Rattle.sp_expr_check.proofs.Following.{followed}
use Rattle.sp_parse_trees.specs.Places.{place_of}
use Rattle.sp_parse_trees.proofs.TreeViews.{place_of-view}
use Rattle.sp_check_expr_steps.specs.Expressions.{value_checked, length_told}
use Rattle.sp_check_expr_steps.proofs.Lists.{first_param, no_param_left, param_read, param_refused, params_read, list_failed, taken, ended}
use Rattle.sp_parse_trees.specs.View.{param_of, params}
use Rattle.sp_parse_trees.specs.declared.tree.DeclaratorForm.TheFolds.{fold-roll-DeclaratorForm}
use Rattle.sp_parse_trees.specs.declared.tree.DeclaratorForm.TheVariants.{rolls-Function}
use Rattle.sp_types.specs.Types.{CType}
use Rattle.sp_types.specs.View.{type_of}
use Rattle.sp_types.specs.declared.ctype.CType.{CType as CodeType}
use Rattle.std.proofs.Common.{List}
use Rattle.sp_check_expr_steps.proofs.Arguments.{done, step, front, none_left, begun, stopped, failed}
use Rattle.sp_expr_check.proofs.expressions.+expression.Goals as goal

pub arguments_checked-arguments-init : goal.arguments_checked-arguments-init
arguments_checked-arguments-init t c =
    let same : arguments_of (form_of c.args.form.now) ≡ expressions (map tree_of c.deref-e-items.result.now) = rw c.in-Call.is (rw (sym (rolls-Call c.in-Call.field-0 c.in-Call.arguments)) (rw fold-roll-ExprForm (rw c.deref-e-items.ensures.value refl))) in
    begun c.args.names.now (env_of c.args.env.now) (told (parameters_of (signature_of c.args.signature.now))) (map typed_of c.in_ok-all.all.items) (expressions (map tree_of c.deref-e-items.result.now)) (arguments_of (form_of c.args.form.now)) (ap (map typed_of) c.in_ok-all.ensures.items) same

pub arguments_checked-returns : goal.arguments_checked-returns
arguments_checked-returns t c =
    done (arguments_checked c.args.names.now (env_of c.args.env.now) (told (parameters_of (signature_of c.args.signature.now))) (arguments_of (form_of c.args.form.now)))
    c.args.names.now (env_of c.arguments.env) (behind_by c.arguments.i (told (parameters_of (signature_of c.args.signature.now)))) (map typed_of c.arguments.all.items)
    (expressions (map tree_of (drop c.arguments.i c.deref-e-items.result.now)))
    (none_left c.deref-e-items.result.now c.arguments.i c.arguments-test.false)
    c.arguments.invariant

pub arguments_checked-arguments-preserved : goal.arguments_checked-arguments-preserved
arguments_checked-arguments-preserved t c =
    let ts = told (parameters_of (signature_of c.args.signature.now)) in
    let e = tree_of c.e-item.result in
    let rest = expressions (map tree_of (drop (suc c.arguments.i) c.deref-e-items.result.now)) in
    let whole = arguments_checked c.args.names.now (env_of c.args.env.now) ts (arguments_of (form_of c.args.form.now)) in
    let one = one_checked c.args.names.now (env_of c.arguments.env) ts c.arguments.i e in
    let after = env_of c.argument_checked-next.new.env in
    let g : one ≡ accepted (boxed_of c.in_ok-next.next, after) = subst (λ (r : Result (Box TypedExpr Global) CheckError). AnswersIn boxed_of one after r) c.in_ok-next.ensures.0 c.argument_checked-next.ensures in
    let h = rw (front c.deref-e-items.result.now c.arguments.i c.e-item.result c.arguments-test.true c.e-item.is) at c.arguments.invariant in
    let items : c.in_ok-all-2.all.items ≡ c.arguments.all.items ++ c.in_ok-next.next.value ∷ [] = rw (sym c.into_inner-value.ensures) (c.in_ok-all-2.ensures ∙ ap (λ (v : Vec TypedExpr Global). v.items ++ c.into_inner-value.result ∷ []) c.in_ok-next.ensures.1) in
    rw (items, map-append, add-one) (step whole c.args.names.now (env_of c.arguments.env) after c.arguments.i ts (map typed_of c.arguments.all.items) e rest (boxed_of c.in_ok-next.next) g h)

pub arguments_checked-returns-in_err-next : goal.arguments_checked-returns-in_err-next
arguments_checked-returns-in_err-next t c =
    let ts = told (parameters_of (signature_of c.args.signature.now)) in
    let e = tree_of c.e-item.result in
    let rest = expressions (map tree_of (drop (suc c.arguments.i) c.deref-e-items.result.now)) in
    let whole = arguments_checked c.args.names.now (env_of c.args.env.now) ts (arguments_of (form_of c.args.form.now)) in
    let one = one_checked c.args.names.now (env_of c.arguments.env) ts c.arguments.i e in
    let after = env_of c.argument_checked-next.new.env in
    let h = rw (front c.deref-e-items.result.now c.arguments.i c.e-item.result c.arguments-test.true c.e-item.is) at c.arguments.invariant in
    let seen : Vec TypedExpr Global → TypedList = λ es. typed_list (map typed_of es.items) in
    let g : AnswersIn boxed_of one after (Err c.in_err-next.field-0.0) = subst (λ (r : Result (Box TypedExpr Global) CheckError). AnswersIn boxed_of one after r) c.in_err-next.ensures c.argument_checked-next.ensures in
    let made : AnswersIn seen whole after (Err c.in_err-next.field-0.0) = failed seen boxed_of whole one after after c.in_err-next.field-0.0 (λ k p g. stopped whole c.args.names.now (env_of c.arguments.env) c.arguments.i ts (map typed_of c.arguments.all.items) e rest k p h g) g in
    let p = err_from_is_err_and c.from_residual-in_err-next.result c.from_residual-in_err-next.ensures.1 in
    rw (p.1, p.2) made

pub params_checked-params-init : goal.params_checked-params-init
params_checked-params-init t c =
    let same : params_of (declarator_form_of c.args.form.now) ≡ params (map param_of c.deref-param-items.result.now) = rw c.in-Function.is (rw (sym (rolls-Function c.in-Function.field-0 c.in-Function.params c.in-Function.field-2)) (rw fold-roll-DeclaratorForm (rw c.deref-param-items.ensures.value refl))) in
    ap (λ ts. params_checked c.args.names.now (env_of c.args.env.now) c.is_alone_in-alone.result (map type_of ts) (params (map param_of c.deref-param-items.result.now))) c.new-all.ensures.items
    ∙ sym (ap (params_checked c.args.names.now (env_of c.args.env.now) c.is_alone_in-alone.result []) same)

pub params_checked-params-preserved : goal.params_checked-params-preserved
params_checked-params-preserved t c =
    let items = c.deref-param-items.result.now in
    rw add-one (param_read (params_checked c.args.names.now (env_of c.args.env.now) c.is_alone_in-alone.result [] (params_of (declarator_form_of c.args.form.now)))
    c.args.names.now (env_of c.params.env) (env_of c.param_checked.new.env) c.is_alone_in-alone.result (map type_of c.params.all.items) (map type_of c.param_checked.new.all.items)
    (param_of c.param-item.result) (params (map param_of (drop (suc c.params.i) items))) (params (map param_of (drop c.params.i items)))
    (first_param items c.params.i c.param-item.result c.params-test.true c.param-item.is)
    c.in_ok-param_checked.ensures c.params.invariant)

pub params_checked-returns : goal.params_checked-returns
params_checked-returns t c =
    ap (λ b. params_checked c.args.names.now (env_of c.args.env.now) b [] (params_of (declarator_form_of c.args.form.now))) (sym c.is_alone_in-alone.ensures)
    ∙ params_read (params_checked c.args.names.now (env_of c.args.env.now) c.is_alone_in-alone.result [] (params_of (declarator_form_of c.args.form.now)))
    c.args.names.now (env_of c.params.env) c.is_alone_in-alone.result (map type_of c.params.all.items) (params (map param_of (drop c.params.i c.deref-param-items.result.now)))
    (no_param_left c.deref-param-items.result.now c.params.i c.params-test.false) c.params.invariant

pub params_checked-returns-in_err-param_checked : goal.params_checked-returns-in_err-param_checked
params_checked-returns-in_err-param_checked t c =
    let items = c.deref-param-items.result.now in
    let whole = params_checked c.args.names.now (env_of c.args.env.now) c.is_alone_in-alone.result [] (params_of (declarator_form_of c.args.form.now)) in
    let told = params_checked c.args.names.now (env_of c.args.env.now) (is_alone_in (declarator_form_of c.args.form.now)) [] (params_of (declarator_form_of c.args.form.now)) in
    let same : told ≡ whole = ap (λ b. params_checked c.args.names.now (env_of c.args.env.now) b [] (params_of (declarator_form_of c.args.form.now))) (sym c.is_alone_in-alone.ensures) in
    let seen : Vec CodeType Global → List CType = λ ts. map type_of ts.items in
    let made : AnswersIn seen told (env_of c.param_checked.new.env) (Err c.in_err-param_checked.field-0.0) =
    part_failed seen told (param_checked c.args.names.now (env_of c.params.env) c.is_alone_in-alone.result (map type_of c.params.all.items) (param_of c.param-item.result)) (map type_of c.param_checked.new.all.items, env_of c.param_checked.new.env) (env_of c.param_checked.new.env) c.in_err-param_checked.field-0.0
    (λ k q g. same ∙ param_refused whole c.args.names.now (env_of c.params.env) c.is_alone_in-alone.result (map type_of c.params.all.items) (param_of c.param-item.result) (params (map param_of (drop (suc c.params.i) items))) (params (map param_of (drop c.params.i items))) (first_param items c.params.i c.param-item.result c.params-test.true c.param-item.is) c.params.invariant k q g)
    c.in_err-param_checked.ensures in
    let p = err_from_is_err_and c.from_residual.result c.from_residual.ensures.1 in
    rw (p.1, p.2) made

-- ---- members

pub members_checked-members-init : goal.members_checked-members-init
members_checked-members-init t c =
    let items = c.deref-declaration-items.result.now in
    let same : declarations_in (struct_spec_of c.args.spec.now) ≡ declarations (map declaration_of items) = declarations_in-view c.args.spec.now c.in-Some.members c.in-Some.is ∙ ap (λ xs. declarations (map declaration_of xs)) (sym c.deref-declaration-items.ensures.value) in
    ap (λ ms. members_checked c.args.names.now (env_of c.args.env.now) (members_seen ms) (declarations (map declaration_of items))) c.new-all.ensures
    ∙ sym (ap (members_checked c.args.names.now (env_of c.args.env.now) []) same)

pub members_checked-members-preserved : goal.members_checked-members-preserved
members_checked-members-preserved t c =
    let items = c.deref-declaration-items.result.now in
    let names = c.args.names.now in
    let whole = members_checked names (env_of c.args.env.now) [] (declarations_in (struct_spec_of c.args.spec.now)) in
    let rest = declarations (map declaration_of (drop (suc c.members.i) items)) in
    let part = declaration_members names (env_of c.members.env) (members_seen c.members.all) (declaration_of c.declaration-item.result) in
    let first = first_declaration items c.members.i c.declaration-item.result c.members-test.true c.declaration-item.is in
    let h : and_then part (λ x. members_checked names x.1 x.0 rest) ≡ whole = sym (ap (members_checked names (env_of c.members.env) (members_seen c.members.all)) first) ∙ c.members.invariant in
    rw add-one (taken part (λ x. members_checked names x.1 x.0 rest) (members_seen c.declaration_members.new.all, env_of c.declaration_members.new.env) whole h c.in_ok-declaration_members.ensures)

pub members_checked-returns : goal.members_checked-returns
members_checked-returns t c =
    let items = c.deref-declaration-items.result.now in
    sym c.members.invariant ∙ ap (members_checked c.args.names.now (env_of c.members.env) (members_seen c.members.all)) (no_declaration_left items c.members.i c.members-test.false)

pub members_checked-returns-in_err-declaration_members : goal.members_checked-returns-in_err-declaration_members
members_checked-returns-in_err-declaration_members t c =
    let items = c.deref-declaration-items.result.now in
    let names = c.args.names.now in
    let whole = members_checked names (env_of c.args.env.now) [] (declarations_in (struct_spec_of c.args.spec.now)) in
    let rest = declarations (map declaration_of (drop (suc c.members.i) items)) in
    let part = declaration_members names (env_of c.members.env) (members_seen c.members.all) (declaration_of c.declaration-item.result) in
    let first = first_declaration items c.members.i c.declaration-item.result c.members-test.true c.declaration-item.is in
    let h : and_then part (λ x. members_checked names x.1 x.0 rest) ≡ whole = sym (ap (members_checked names (env_of c.members.env) (members_seen c.members.all)) first) ∙ c.members.invariant in
    let made : AnswersIn members_seen whole (env_of c.declaration_members.new.env) (Err c.in_err-declaration_members.field-0.0) =
    part_failed members_seen whole part (members_seen c.declaration_members.new.all, env_of c.declaration_members.new.env) (env_of c.declaration_members.new.env) c.in_err-declaration_members.field-0.0 (ended part (λ x. members_checked names x.1 x.0 rest) whole h) c.in_err-declaration_members.ensures in
    let p = err_from_is_err_and c.from_residual.result c.from_residual.ensures.1 in
    rw (p.1, p.2) made

pub items_checked-items-init : goal.items_checked-items-init
items_checked-items-init t c =
    let items = c.deref-item-items.result.now in
    let same : items_in (declaration_of c.args.declaration.now) ≡ init_declarators (map init_declarator_of items) = items_in-view c.args.declaration.now ∙ ap (λ xs. init_declarators (map init_declarator_of xs)) (sym c.deref-item-items.ensures.value) in
    sym (ap (items_checked c.args.names.now (env_of c.args.env.now) (type_of c.args.base.now) (members_seen c.args.all.now)) same)

pub items_checked-items-preserved : goal.items_checked-items-preserved
items_checked-items-preserved t c =
    let items = c.deref-item-items.result.now in
    let names = c.args.names.now in
    let base = type_of c.args.base.now in
    let whole = items_checked names (env_of c.args.env.now) base (members_seen c.args.all.now) (items_in (declaration_of c.args.declaration.now)) in
    let rest = init_declarators (map init_declarator_of (drop (suc c.items.i) items)) in
    let part = item_checked names (env_of c.items.env) base (members_seen c.items.all) (init_declarator_of c.item-item.result) in
    let first = first_item items c.items.i c.item-item.result c.items-test.true c.item-item.is in
    let h : and_then part (λ x. items_checked names x.1 base x.0 rest) ≡ whole = sym (ap (items_checked names (env_of c.items.env) base (members_seen c.items.all)) first) ∙ c.items.invariant in
    rw add-one (taken part (λ x. items_checked names x.1 base x.0 rest) (members_seen c.item_checked.new.all, env_of c.item_checked.new.env) whole h c.in_ok-item_checked.ensures)

pub items_checked-returns : goal.items_checked-returns
items_checked-returns t c =
    let items = c.deref-item-items.result.now in
    sym c.items.invariant ∙ ap (items_checked c.args.names.now (env_of c.items.env) (type_of c.args.base.now) (members_seen c.items.all)) (no_item_left items c.items.i c.items-test.false)

pub items_checked-returns-in_err-item_checked : goal.items_checked-returns-in_err-item_checked
items_checked-returns-in_err-item_checked t c =
    let items = c.deref-item-items.result.now in
    let names = c.args.names.now in
    let base = type_of c.args.base.now in
    let whole = items_checked names (env_of c.args.env.now) base (members_seen c.args.all.now) (items_in (declaration_of c.args.declaration.now)) in
    let rest = init_declarators (map init_declarator_of (drop (suc c.items.i) items)) in
    let part = item_checked names (env_of c.items.env) base (members_seen c.items.all) (init_declarator_of c.item-item.result) in
    let first = first_item items c.items.i c.item-item.result c.items-test.true c.item-item.is in
    let h : and_then part (λ x. items_checked names x.1 base x.0 rest) ≡ whole = sym (ap (items_checked names (env_of c.items.env) base (members_seen c.items.all)) first) ∙ c.items.invariant in
    let made : LeadsTo whole (members_seen c.item_checked.new.all, env_of c.item_checked.new.env) (Err c.in_err-item_checked.field-0.0) =
    part_stopped whole part (members_seen c.item_checked.new.all, env_of c.item_checked.new.env) (members_seen c.item_checked.new.all, env_of c.item_checked.new.env) c.in_err-item_checked.field-0.0 (ended part (λ x. items_checked names x.1 base x.0 rest) whole h) c.in_err-item_checked.ensures in
    let p = err_from_is_err_and c.from_residual.result c.from_residual.ensures.1 in
    rw (p.1, p.2) made

-- ---- constants of enumerations

pub constants_checked-constants-init : goal.constants_checked-constants-init
constants_checked-constants-init t c =
    let items = c.deref-constant-items.result.now in
    let same : constants_in (enum_spec_of c.args.spec.now) ≡ enumerators (map constant_seen items) = constants_in-view c.args.spec.now c.in-Some.constants c.in-Some.is ∙ ap (λ xs. enumerators (map constant_seen xs)) (sym c.deref-constant-items.ensures.value) in
    sym (ap (constants_checked c.args.names.now (env_of c.args.env.now) (pos 0)) same)

pub constants_checked-constants-preserved : goal.constants_checked-constants-preserved
constants_checked-constants-preserved t c =
    let items = c.deref-constant-items.result.now in
    let names = c.args.names.now in
    let constant = c.constant-item.result in
    let whole = constants_checked names (env_of c.args.env.now) (pos 0) (constants_in (enum_spec_of c.args.spec.now)) in
    let rest = enumerators (map constant_seen (drop (suc c.constants.i) items)) in
    let part = constant_checked names (env_of c.constants.env) (unwrap_or c.constants.next (pos 0)) constant.0 constant.1 (optional constant.2) in
    let first = first_constant items c.constants.i constant c.constants-test.true c.constant-item.is in
    let h : and_then part (λ x. constants_checked names x.1 x.0 rest) ≡ whole = sym (ap (constants_checked names (env_of c.constants.env) (unwrap_or c.constants.next (pos 0))) first) ∙ c.constants.invariant in
    rw add-one (taken part (λ x. constants_checked names x.1 x.0 rest) (unwrap_or c.in_ok-next.next (pos 0), env_of c.constant_checked.new.env) whole h c.in_ok-next.ensures)

pub constants_checked-returns : goal.constants_checked-returns
constants_checked-returns t c =
    let items = c.deref-constant-items.result.now in
    sym c.constants.invariant ∙ ap (constants_checked c.args.names.now (env_of c.constants.env) (unwrap_or c.constants.next (pos 0))) (no_constant_left items c.constants.i c.constants-test.false)

pub constants_checked-returns-in_err-next : goal.constants_checked-returns-in_err-next
constants_checked-returns-in_err-next t c =
    let items = c.deref-constant-items.result.now in
    let names = c.args.names.now in
    let constant = c.constant-item.result in
    let whole = constants_checked names (env_of c.args.env.now) (pos 0) (constants_in (enum_spec_of c.args.spec.now)) in
    let rest = enumerators (map constant_seen (drop (suc c.constants.i) items)) in
    let part = constant_checked names (env_of c.constants.env) (unwrap_or c.constants.next (pos 0)) constant.0 constant.1 (optional constant.2) in
    let first = first_constant items c.constants.i constant c.constants-test.true c.constant-item.is in
    let h : and_then part (λ x. constants_checked names x.1 x.0 rest) ≡ whole = sym (ap (constants_checked names (env_of c.constants.env) (unwrap_or c.constants.next (pos 0))) first) ∙ c.constants.invariant in
    let seen : Option ℤ → ℤ = λ z. unwrap_or z (pos 0) in
    let made : AnswersIn seen whole (env_of c.constant_checked.new.env) (Err c.in_err-next.field-0.0) =
    list_failed seen seen whole part (env_of c.constant_checked.new.env) (env_of c.constant_checked.new.env) c.in_err-next.field-0.0 (ended part (λ x. constants_checked names x.1 x.0 rest) whole h) c.in_err-next.ensures in
    let p = err_from_is_err_and c.from_residual.result c.from_residual.ensures.1 in
    rw (p.1, p.2) made

-- ---- what follows the last part

pub length_checked-returns : goal.length_checked-returns
length_checked-returns t c =
    let h = rw (sym (place_of-view c.args.length.now)) at c.length_told.ensures in
    followed boxed_of (λ n. n) (value_checked c.args.names.now (env_of c.args.env.now) (tree_of c.args.length.now)) (λ y. length_told (place_of (tree_of c.args.length.now)) y.0 y.1) (env_of c.value_checked-value.new.env) (env_of c.length_told.new.env) c.value_checked-value.result c.length_told.result c.value_checked-value.ensures h
