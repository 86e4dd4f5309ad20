-- The environment behind expressions, type names, specifiers and declarators is formed, and so are
-- the types that they give (C90 6.3, 6.5.2, 6.5.4, 6.5.5).
use Rattle.std.proofs.Common.{◌≡◌, ℕ, ◌≤◌, ℤ, pos, Bool, false, ◌&&◌, List, [], ◌∷◌, ◌++◌, Some, None, refl, sym, ◌∙◌}
use Rattle.sp_tree.specs.declared.fault.Place.{Place}
use Rattle.sp_parse_trees.specs.Syntax.{Expression, expression, ExpressionForm, Expressions, no_expressions, next_expression, MaybeExpression, no_expression, some_expression, Specifier, storage, qualifier, basic, named, struct_specifier, enum_specifier, Specifiers, no_specifiers, next_specifier, StructSpec, struct_spec, no_members, some_members, Members, EnumSpec, enum_spec, Constants, no_constants, some_constants, Enumerators, no_enumerators, next_enumerator, Declaration, declaration, Declarations, no_declarations, next_declaration, InitDeclarator, init_declarator, InitDeclarators, no_items, next_item, Declarator, declarator, DeclaratorForm, absent, declared, group, Param, param, Params, no_params, next_param, TypeName, type_name}
use Rattle.sp_parse_trees.specs.Syntax as syntax
use Rattle.sp_parse_trees.specs.Places.{place_of, declarator_place}
use Rattle.sp_types.specs.Types.{CType, CTypes, parameters_of}
use Rattle.sp_types.specs.Structs.{IsFormed}
use Rattle.sp_types.specs.Typed.{of}
use Rattle.sp_check_binary_rules.specs.Rules.{behind, takes_object, not_floating, called_signature, told}
use Rattle.sp_check_operands.specs.Conversions.{is_function}
use Rattle.sp_check_env.specs.Env.{Env, list_entered}
use Rattle.sp_check_declarations.specs.Words.{names_function, form_names_function}
use Rattle.sp_check_type_names.specs.Derivations.{Derivation, to_pointer, to_array, to_function}
use Rattle.sp_check_members.specs.Parameters.{declared_name, is_lone_void, reserved, reserved_number}
use Rattle.sp_expr_check.specs.Parameters.{is_alone}
use Rattle.sp_expr_check.specs.Expressions.{checked, value_checked, form_checked, arguments_checked, type_name_checked, specifiers_checked, specifier_checked, struct_checked, members_checked, declaration_members, items_checked, item_checked, enum_checked, constants_checked, constant_checked, declared_type, steps_checked, derivations_checked, params_checked, param_checked, list_checked, length_checked}
use Rattle.sp_expr_check.specs.Specifiers.{names_type}
use Rattle.sp_check_formed_laws.proofs.Lists.{Each, each_none, each_pushed}
use Rattle.sp_check_formed_laws.proofs.Derived.{IsFormedStep, step_longer, ends_in_function, ends_behind, is_to_function, type_made}
use Rattle.sp_check_formed_laws.proofs.Envs.{IsFormedEnv, Goes, goes_nowhere, goes_on}
use Rattle.sp_check_formed_laws.proofs.After.{Any, gives_more, anything, After, done, carried, onto, next, lead, taken, met, either, staying, after_more}
use Rattle.sp_check_formed_laws.proofs.Updates.{goes_constant, goes_list_entered}
use Rattle.sp_check_formed_laws.proofs.Braces.{IsType, struct_named, enum_named, struct_begun, struct_done}
use Rattle.sp_check_formed_laws.proofs.Leaves.{AreMembers, AreTypes, type_kept, members_kept, types_kept, AreParameters, size_formed, text_formed, call_formed, words_formed, named_formed, member_formed, tag_formed, enumerator_formed, told_formed, length_formed, list_formed, reserved_formed, parameter_formed}

-- the type of a declarator's name is formed, and is a function where the declarator says so
abbrev pub IsDeclared : CType → Declarator → CType → Env → Type 0
IsDeclared base d t env = IsType t env × (is_function t ≡ names_function (is_function base) d)

abbrev pub AreSteps : DeclaratorForm → List Derivation → Env → Type 0
AreSteps f ds env = Each (IsFormedStep env.tables.structs) ds × ((whole : Bool) → ends_in_function ds whole ≡ form_names_function whole f)

abbrev pub AreStepsOf : Declarator → List Derivation → Env → Type 0
AreStepsOf (declarator f p) ds env = AreSteps f ds env

pub steps_kept : (env later : Env) → Goes env later → (ds : List Derivation) → Each (IsFormedStep env.tables.structs) ds → Each (IsFormedStep later.tables.structs) ds
steps_kept env later g ds h = λ k d at. step_longer env.tables.structs later.tables.structs g.keeps.longer d (h k d at)

names_of : (d : Declarator) (ds : List Derivation) (env : Env) → AreStepsOf d ds env → Each (IsFormedStep env.tables.structs) ds × ((whole : Bool) → ends_in_function ds whole ≡ names_function whole d)
names_of (declarator f p) ds env h = h

-- a further derivation
more_steps : (env later : Env) → Goes env later → (e : Declarator) (f : DeclaratorForm) (ds : List Derivation) (d : Derivation) → AreStepsOf e ds env → IsFormedStep later.tables.structs d
    → ((whole : Bool) → form_names_function whole f ≡ names_function (is_to_function d) e) → AreSteps f (ds ++ d ∷ []) later
more_steps env later g e f ds d h s same =
    let n : Each (IsFormedStep env.tables.structs) ds × ((whole : Bool) → ends_in_function ds whole ≡ names_function whole e) = names_of e ds env h in
    (each_pushed (IsFormedStep later.tables.structs) ds d (steps_kept env later g ds n.0) s, λ whole. ends_behind ds d whole ∙ n.1 (is_to_function d) ∙ sym (same whole))

module _ (names : List (List ℕ)) where
  mutual
    pub checked_formed : (env : Env) (e : Expression) → IsFormedEnv env → After env Any (checked names env e)
    checked_formed env (expression f p m) h = next (form_formed env p m f h) (λ x g q. staying g.formed anything)

    pub value_formed : (env : Env) (e : Expression) → IsFormedEnv env → After env Any (value_checked names env e)
    value_formed env (expression f p m) h = next (form_formed env p m f h) (λ x g q. taken {c = not_floating p x.0} anything (λ e r. staying g.formed anything))

    form_formed : (env : Env) (p m : Place) (f : ExpressionForm) → IsFormedEnv env → After env Any (form_checked names env p m f)
    form_formed env p m (syntax.name n) h = staying h anything
    form_formed env p m (syntax.number n) h = done (goes_constant env h (pos n.value)) tt
    form_formed env p m (syntax.character z) h = done (goes_constant env h z) tt
    form_formed env p m (syntax.text ns) h = text_formed names env ns p m h
    form_formed env p m (syntax.paren e) h = checked_formed env e h
    form_formed env p m (syntax.index a b) h = next (value_formed env a h) (λ x g q. next (value_formed x.1 b g.formed) (λ y k r. staying k.formed anything))
    form_formed env p m (syntax.call f es) h =
        lead (call_formed names env f h) (λ e g. next (value_formed e f g.formed) (λ x k q. taken {c = called_signature (place_of f) (of x.0)} anything (λ s t.
        next (arguments_formed x.1 (told (parameters_of s)) es k.formed) (λ y l r. staying l.formed anything))))
    form_formed env p m (syntax.member e n) h = next (checked_formed env e h) (λ x g q. staying g.formed anything)
    form_formed env p m (syntax.arrow e n) h = next (value_formed env e h) (λ x g q. staying g.formed anything)
    form_formed env p m (syntax.after op e) h = next (checked_formed env e h) (λ x g q. staying g.formed anything)
    form_formed env p m (syntax.unary op e) h =
        either {b = takes_object op} (λ takes. next (checked_formed env e h) (λ x g q. staying g.formed anything))
        (λ takes. next (value_formed env e h) (λ x g q. staying g.formed anything))
    form_formed env p m (syntax.sizeof_expr e) h = next (checked_formed env e h) (λ x g q. size_formed x.1 p m (of x.0) g.formed)
    form_formed env p m (syntax.sizeof_type t) h = next (type_name_formed env t h) (λ x g q. size_formed x.1 p m x.0 g.formed)
    form_formed env p m (syntax.cast t e) h = next (type_name_formed env t h) (λ x g q. next (value_formed x.1 e g.formed) (λ y k r. staying k.formed anything))
    form_formed env p m (syntax.binary op a b) h = next (value_formed env a h) (λ x g q. next (value_formed x.1 b g.formed) (λ y k r. staying k.formed anything))
    form_formed env p m (syntax.choice c a b) h =
        next (value_formed env c h) (λ x g q. next (value_formed x.1 a g.formed) (λ y k r. next (value_formed y.1 b k.formed) (λ z l s. staying l.formed anything)))
    form_formed env p m (syntax.assign op a b) h = next (checked_formed env a h) (λ x g q. next (value_formed x.1 b g.formed) (λ y k r. staying k.formed anything))
    form_formed env p m (syntax.comma a b) h = next (value_formed env a h) (λ x g q. next (value_formed x.1 b g.formed) (λ y k r. done (goes_nowhere y.1 k.formed) tt))

    arguments_formed : (env : Env) (ts : CTypes) (es : Expressions) → IsFormedEnv env → After env Any (arguments_checked names env ts es)
    arguments_formed env ts no_expressions h = done (goes_nowhere env h) tt
    arguments_formed env ts (next_expression e es) h =
        next (next {P = Any} (value_formed env e h) (λ x g q. staying g.formed anything)) (λ a g q.
        next (arguments_formed a.1 (behind ts) es g.formed) (λ y k r. done (goes_nowhere y.1 k.formed) tt))

    pub type_name_formed : (env : Env) (t : TypeName) → IsFormedEnv env → After env Any (type_name_checked names env t)
    type_name_formed env (type_name ss d) h =
        next (specifiers_formed env false (declarator_place d) ss h) (λ x g t. after_more (λ u e q. tt) (declared_formed x.1 x.0 d g.formed t))

    pub specifiers_formed : (env : Env) (alone : Bool) (at : Place) (ss : Specifiers) → IsFormedEnv env → After env IsType (specifiers_checked names env alone at ss)
    specifiers_formed env alone at no_specifiers h = done (goes_nowhere env h) tt
    specifiers_formed env alone at (next_specifier s ss) h =
        either {b = names_type s} (λ told. specifier_formed env alone at (next_specifier s ss) s h) (λ told. specifiers_formed env alone at ss h)

    specifier_formed : (env : Env) (alone : Bool) (at : Place) (ws : Specifiers) (s : Specifier) → IsFormedEnv env → After env IsType (specifier_checked names env alone at ws s)
    specifier_formed env alone at ws (storage k) h = done (goes_nowhere env h) (words_formed env.tables.structs ws)
    specifier_formed env alone at ws (qualifier k) h = done (goes_nowhere env h) (words_formed env.tables.structs ws)
    specifier_formed env alone at ws (basic k) h = done (goes_nowhere env h) (words_formed env.tables.structs ws)
    specifier_formed env alone at ws (named n) h = staying h (named_formed env n at h)
    specifier_formed env alone at ws (struct_specifier s) h = struct_formed env alone s h
    specifier_formed env alone at ws (enum_specifier s) h = enum_formed env s h

    struct_formed : (env : Env) (alone : Bool) (s : StructSpec) → IsFormedEnv env → After env IsType (struct_checked names env alone s)
    struct_formed env alone (struct_spec union tag no_members p) h = struct_named env alone union tag p h
    struct_formed env alone (struct_spec union tag (some_members ds) p) h =
        onto (struct_begun env union tag p h) (λ x g b.
        onto (members_formed x.1 [] ds g.formed (each_none (λ m. IsFormed x.1.tables.structs m.1))) (λ y k ms.
        struct_done env x.1 y.1 x.0 tag union b g k p y.0 ms))

    members_formed : (env : Env) (ms : List (ℕ × CType)) (ds : Declarations) → IsFormedEnv env → AreMembers ms env → After env AreMembers (members_checked names env ms ds)
    members_formed env ms no_declarations h f = done (goes_nowhere env h) f
    members_formed env ms (next_declaration d ds) h f = next (declaration_formed env ms d h f) (λ x g q. members_formed x.1 x.0 ds g.formed q)

    declaration_formed : (env : Env) (ms : List (ℕ × CType)) (d : Declaration) → IsFormedEnv env → AreMembers ms env → After env AreMembers (declaration_members names env ms d)
    declaration_formed env ms (declaration ss is p) h f =
        next (specifiers_formed env false p ss h) (λ x g t. items_formed x.1 x.0 ms is g.formed t (members_kept env x.1 g ms f))

    items_formed : (env : Env) (base : CType) (ms : List (ℕ × CType)) (is : InitDeclarators) → IsFormedEnv env → IsType base env → AreMembers ms env → After env AreMembers (items_checked names env base ms is)
    items_formed env base ms no_items h t f = done (goes_nowhere env h) f
    items_formed env base ms (next_item i is) h t f =
        next (item_formed env base ms i h t f) (λ x g q. items_formed x.1 base x.0 is g.formed (type_kept env x.1 g base t) q)

    item_formed : (env : Env) (base : CType) (ms : List (ℕ × CType)) (i : InitDeclarator) → IsFormedEnv env → IsType base env → AreMembers ms env → After env AreMembers (item_checked names env base ms i)
    item_formed env base ms (init_declarator d start) h t f =
        next (declared_formed env base d h t) (λ x g u. staying g.formed (member_formed x.1 ms x.0 d (members_kept env x.1 g ms f) u.0))

    enum_formed : (env : Env) (s : EnumSpec) → IsFormedEnv env → After env IsType (enum_checked names env s)
    enum_formed env (enum_spec tag no_constants p) h = staying h (enum_named env tag p)
    enum_formed env (enum_spec tag (some_constants cs) p) h =
        lead (tag_formed env tag p h) (λ e g. next (constants_formed e (pos 0) cs g.formed) (λ x k q. done (goes_nowhere x.1 k.formed) tt))

    constants_formed : (env : Env) (z : ℤ) (cs : Enumerators) → IsFormedEnv env → After env Any (constants_checked names env z cs)
    constants_formed env z no_enumerators h = done (goes_nowhere env h) tt
    constants_formed env z (next_enumerator n p e cs) h = next (constant_formed env z n p e h) (λ x g q. constants_formed x.1 x.0 cs g.formed)

    constant_formed : (env : Env) (z : ℤ) (n : ℕ) (p : Place) (e : MaybeExpression) → IsFormedEnv env → After env Any (constant_checked names env z n p e)
    constant_formed env z n p no_expression h = enumerator_formed env n p z h
    constant_formed env z n p (some_expression e) h = next (value_formed env e h) (λ x g q. told_formed x.1 x.0 (place_of e) n p g.formed)

    pub declared_formed : (env : Env) (base : CType) (d : Declarator) → IsFormedEnv env → IsType base env → After env (IsDeclared base d) (declared_type names env base d)
    declared_formed env base (declarator f p) h t =
        next (derivations_formed env p f h) (λ x g q. staying g.formed
        (gives_more (λ u r. (r.0, r.1 ∙ q.1 (is_function base))) (type_made x.1.tables.structs p x.0 base q.0 (type_kept env x.1 g base t))))

    steps_formed : (env : Env) (d : Declarator) → IsFormedEnv env → After env (AreStepsOf d) (steps_checked names env d)
    steps_formed env (declarator f p) h = derivations_formed env p f h

    derivations_formed : (env : Env) (p : Place) (f : DeclaratorForm) → IsFormedEnv env → After env (AreSteps f) (derivations_checked names env p f)
    derivations_formed env p absent h = done (goes_nowhere env h) (each_none (IsFormedStep env.tables.structs), λ whole. refl)
    derivations_formed env p (declared n) h = done (goes_nowhere env h) (each_none (IsFormedStep env.tables.structs), λ whole. refl)
    derivations_formed env p (group d) h = after_more (λ ds e q. names_of d ds e q) (steps_formed env d h)
    derivations_formed env p (syntax.pointer qs d) h =
        next (steps_formed env d h) (λ x g q. done (goes_nowhere x.1 g.formed) (more_steps x.1 x.1 (goes_nowhere x.1 g.formed) d (syntax.pointer qs d) x.0 to_pointer q tt (λ whole. refl)))
    derivations_formed env p (syntax.array d no_expression) h =
        next (steps_formed env d h) (λ x g q. done (goes_nowhere x.1 g.formed) (more_steps x.1 x.1 (goes_nowhere x.1 g.formed) d (syntax.array d no_expression) x.0 (to_array None p) q tt (λ whole. refl)))
    derivations_formed env p (syntax.array d (some_expression e)) h =
        next (steps_formed env d h) (λ x g q.
        next (next (value_formed x.1 e g.formed) (λ y k r. length_formed (place_of e) y.0 y.1 k.formed)) (λ n k l.
        done (goes_nowhere n.1 k.formed) (more_steps x.1 n.1 k d (syntax.array d (some_expression e)) x.0 (to_array (Some n.0) p) q l (λ whole. refl))))
    derivations_formed env p (syntax.function d ps dots) h =
        next (steps_formed env d h) (λ x g q.
        next (carried (goes_list_entered x.1 g.formed) (next (params_formed (list_entered x.1) (is_alone ps dots) [] ps (goes_list_entered x.1 g.formed).formed (each_none (λ t. IsFormed x.1.tables.structs t))) (λ y k ts.
        list_formed ps y.0 y.1 k.formed ts))) (λ l k r.
        done (goes_nowhere l.1 k.formed) (more_steps x.1 l.1 k d (syntax.function d ps dots) x.0 (to_function l.0 dots p) q r (λ whole. refl))))

    pub params_formed : (env : Env) (alone : Bool) (ts : List CType) (ps : Params) → IsFormedEnv env → AreTypes ts env → After env AreTypes (params_checked names env alone ts ps)
    params_formed env alone ts no_params h f = done (goes_nowhere env h) f
    params_formed env alone ts (next_param q qs) h f = next (param_formed env alone ts q h f) (λ x g r. params_formed x.1 alone x.0 qs g.formed r)

    param_formed : (env : Env) (alone : Bool) (ts : List CType) (q : Param) → IsFormedEnv env → AreTypes ts env → After env AreTypes (param_checked names env alone ts q)
    param_formed env alone ts (param ss d) h f =
        met _ _ (λ class. carried (reserved_formed env (declared_name d) h)
        (next (specifiers_formed (reserved env (declared_name d)) false (declarator_place d) ss (reserved_formed env (declared_name d) h).formed) (λ x g t.
        either {b = alone && is_lone_void x.0 d}
        (λ lone. done (goes_nowhere x.1 g.formed) (types_kept env x.1 (goes_on env (reserved env (declared_name d)) x.1 (reserved_formed env (declared_name d) h) g) ts f))
        (λ more. next (declared_formed x.1 x.0 d g.formed t) (λ y k u.
        parameter_formed y.1 (reserved_number env (declared_name d)) ts y.0 d k.formed
        (types_kept env y.1 (goes_on env (reserved env (declared_name d)) y.1 (reserved_formed env (declared_name d) h) (goes_on (reserved env (declared_name d)) x.1 y.1 g k)) ts f) u.0)))))

  -- ---- the parts of a declarator's derivations

  pub list_checked_formed : (env : Env) (f : DeclaratorForm) → IsFormedEnv env → After env AreParameters (list_checked names env f)
  list_checked_formed env (syntax.function d ps dots) h =
      let g : Goes env (list_entered env) = goes_list_entered env h in
      carried g (next (params_formed (list_entered env) (is_alone ps dots) [] ps g.formed (each_none (λ t. IsFormed env.tables.structs t))) (λ y k ts.
      list_formed ps y.0 y.1 k.formed ts))
  list_checked_formed env absent h = done (goes_nowhere env h) tt
  list_checked_formed env (declared n) h = done (goes_nowhere env h) tt
  list_checked_formed env (group d) h = done (goes_nowhere env h) tt
  list_checked_formed env (syntax.pointer qs d) h = done (goes_nowhere env h) tt
  list_checked_formed env (syntax.array d e) h = done (goes_nowhere env h) tt

  pub length_checked_formed : (env : Env) (e : Expression) → IsFormedEnv env → After env (λ n later. 1 ≤ n) (length_checked names env e)
  length_checked_formed env e h = next (value_formed env e h) (λ y k r. length_formed (place_of e) y.0 y.1 k.formed)
