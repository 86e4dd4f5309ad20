-- Expressions that the checks accept are typed; types that type names, specifiers and declarators
-- give are formed and sound, and the environment behind each is sound (C90 6.3, 6.5.2, 6.5.4,
-- 6.5.5).
use Rattle.std.proofs.Common.{◌≡◌, ℕ, ◌≤◌, ℤ, pos, Bool, true, false, ◌&&◌, ◌||◌, length, List, [], Option, Some, None, refl, ap, ◌∙◌, arith}
use Rattle.sp_tree.specs.declared.fault.Place.{Place}
use Rattle.sp_parse_trees.specs.Syntax.{Expression, expression, ExpressionForm, Expressions, no_expressions, next_expression, MaybeExpression, no_expression, some_expression, Specifier, storage, qualifier, basic, named, struct_specifier, enum_specifier, Specifiers, no_specifiers, next_specifier, StructSpec, struct_spec, no_members, some_members, Members, EnumSpec, enum_spec, Constants, no_constants, some_constants, Enumerators, no_enumerators, next_enumerator, Declaration, declaration, Declarations, no_declarations, next_declaration, InitDeclarator, init_declarator, InitDeclarators, no_items, next_item, Declarator, declarator, DeclaratorForm, absent, declared, group, Param, param, Params, no_params, next_param, TypeName, type_name}
use Rattle.sp_parse_trees.specs.Syntax as syntax
use Rattle.sp_parse_trees.specs.Places.{place_of, declarator_place}
use Rattle.sp_types.specs.Types.{CType, void, CTypes, listed, parameters_of}
use Rattle.sp_types.specs.Programs.{Object}
use Rattle.sp_types.specs.Structs.{AreFormed}
use Rattle.sp_types.specs.Typed.{Typed, TypedList, of}
use Rattle.sp_base_checked.specs.Answers.{Checked, and_then}
use Rattle.sp_check_binary_rules.specs.Rules.{behind, wanted, takes_object, not_floating, called_signature, told}
use Rattle.sp_check_env.specs.Env.{Env, list_entered}
use Rattle.sp_check_type_names.specs.Derivations.{to_pointer, to_array, to_function}
use Rattle.sp_check_members.specs.Parameters.{declared_name, has_parameter_storage, is_lone_void, formal, reserved, reserved_number}
use Rattle.sp_expr_check.specs.Parameters.{is_alone, list_told}
use Rattle.sp_expr_check.specs.Expressions.{checked, value_checked, form_checked, arguments_checked, type_name_checked, specifiers_checked, specifier_checked, struct_checked, members_checked, declaration_members, items_checked, item_checked, enum_checked, constants_checked, constant_checked, declared_type, steps_checked, derivations_checked, params_checked, param_checked, list_checked, length_checked}
use Rattle.sp_expr_check.specs.Specifiers.{names_type}
use Rattle.sp_check_typing.specs.Sorts.{IsStored}
use Rattle.sp_check_typing.specs.Trees.{IsTyped, AreArguments}
use Rattle.sp_check_typing.specs.Statements.{is_lasting}
use Rattle.sp_check_typing.specs.Programs.{lasts}
use Rattle.sp_check_formed_laws.proofs.Lists.{each_none, each_pushed, pushed_last}
use Rattle.sp_check_formed_laws.proofs.Longer.{parameters_longer}
use Rattle.sp_check_written_laws.specs.Written.{IsWritten, IsWrittenForm, AreWritten, IsWrittenMaybe, IsWrittenName, IsWrittenSpecifier, AreWrittenSpecifiers, IsWrittenStruct, IsWrittenEnum, AreWrittenEnumerators, IsWrittenDeclarator, IsWrittenDeclaratorForm, IsWrittenParam, AreWrittenParams, IsWrittenItem, AreWrittenItems, IsWrittenDeclaration, AreWrittenDeclarations, has_item, declares, holds_member}
use Rattle.sp_check_written_laws.specs.Laws.{AreByteNames}
use Rattle.sp_check_expr_laws.specs.Sound.{AreSound, scene_of}
use Rattle.sp_check_expr_laws.proofs.Types.{or_left}
use Rattle.sp_check_expr_laws.proofs.Trees.{IsTree, IsValued, tree_formed, solid_made, tree_made, tree_valued}
use Rattle.sp_check_expr_laws.proofs.Rules.{index_typed, member_typed, arrow_typed, after_typed, object_typed, value_typed, cast_typed, tree_good, binary_typed, choice_typed, assign_typed, comma_made, signature_found, call_typed, argument_typed, wanted_good, behind_good, callee_good}
use Rattle.sp_check_expr_laws.proofs.Grows.{tree_stays, value_stays, argument_stays}
use Rattle.sp_check_expr_laws.proofs.Envs.{IsFit, fit_table, IsKeptObject, Reaches, reaches_nowhere, reaches_on, grows_of}
use Rattle.sp_check_expr_laws.proofs.After.{Any, After, done, onto, beside, next, lead, taken, met, either, staying, after_more}
use Rattle.sp_check_expr_laws.proofs.Updates.{fit_wider, more_seen, more_wider, more_from, fit_entered}
use Rattle.sp_check_expr_laws.proofs.Functions.{call_leads}
use Rattle.sp_check_expr_laws.proofs.Literals.{IsMadeIn, number_made, character_made, size_made, text_made, name_made}
use Rattle.sp_check_expr_laws.proofs.Members.{is_filled, fills_on, or_false}
use Rattle.sp_check_expr_laws.proofs.Derived.{IsGoodStep, made_good}
use Rattle.sp_check_expr_laws.proofs.Leaves.{IsType, AreMembers, AreTypes, AreSteps, AreParameters, AreMore, IsNew, type_kept, members_kept, types_kept, steps_kept, words_good, named_good, member_good, tag_leads, enumerator_sound, told_sound_enumerator, length_sound, reaches_reserved, list_sound, parameter_sound}
use Rattle.sp_check_expr_laws.proofs.Braces.{struct_named, enum_named, struct_begun, struct_done}

-- what a rule gives, in the scene behind it
abbrev pub IsTreeIn : (ℕ → Bool) → Typed → Env → Type 0
IsTreeIn own e env = IsTree (scene_of own env) e

abbrev pub IsValueIn : (ℕ → Bool) → Typed → Env → Type 0
IsValueIn own e env = IsValued (scene_of own env) e

abbrev AreArgumentsIn : (ℕ → Bool) → TypedList → Env → Type 0
AreArgumentsIn own es env = AreArguments (scene_of own env) es

abbrev IsArgumentIn : (ℕ → Bool) → Typed → Env → Type 0
IsArgumentIn own e env = IsTyped (scene_of own env) e × IsStored env.tables.structs (of e)

abbrev AreGoodIn : CTypes → Env → Type 0
AreGoodIn ts env = AreFormed env.tables.structs ts × AreSound ts

good_kept : {own : ℕ → Bool} {env later : Env} → Reaches own env later → (ts : CTypes)
    → AreGoodIn ts env → AreGoodIn ts later
good_kept {own = own} {env = env} {later = later} g ts h = (
  parameters_longer env.tables.structs later.tables.structs g.moves.keeps.longer (listed ts) h.0,
  h.1,
)

-- members, behind these and, where there are some, as many more
abbrev pub AreFilled : Bool → List (ℕ × CType) → List (ℕ × CType) → Env → Type 0
AreFilled more ms out env =
    AreMembers out env × ((is_filled ms || more) ≡ true → is_filled out ≡ true)

-- objects from here on are seen
abbrev pub Covers : (ℕ → Bool) → Env → Type 0
Covers own env = (k : ℕ) → length env.tables.objects ≤ k → own k ≡ true

covers_on : (own : ℕ → Bool) (env later : Env) → Reaches own env later → Covers own env
    → Covers own later
covers_on own env later g c =
    λ k l. let more : length env.tables.objects ≤ length later.tables.objects =
    g.moves.keeps.objects in c k (omega (arith, more, l))

-- in a list of parameters the objects of its own are seen
abbrev seen_in_list : (ℕ → Bool) → Env → ℕ → Bool
seen_in_list own env = more_seen own (length env.tables.objects)

list_fit : (own : ℕ → Bool) (env : Env) → IsFit own env
    → IsFit (seen_in_list own env) (list_entered env)
list_fit own env h =
    fit_entered (seen_in_list own env) env
    (fit_wider own (seen_in_list own env) env (more_wider own (length env.tables.objects)) h)

list_covers : (own : ℕ → Bool) (env : Env) → Covers (seen_in_list own env) (list_entered env)
list_covers own env k l = more_from own (length env.tables.objects) k l

list_ends : (own : ℕ → Bool) (env : Env) (ps : Params) {c : Checked (List CType × Env)}
    → IsFit own env → After (seen_in_list own env) (list_entered env) AreTypes c
    → After own env AreParameters (and_then c (λ y. list_told ps y.0 y.1))
list_ends own env ps h a =
    beside a (λ y k ts. list_sound own (seen_in_list own env) env y.1 ps y.0 h
    (more_wider own (length env.tables.objects)) k ts)

-- the entry that a parameter has passes until its type is read
new_reserved : (own : ℕ → Bool) (env later : Env) (o : Option (ℕ × Place)) → Covers own env
    → Reaches own (reserved env o) later → IsNew own env later (reserved_number env o) o
new_reserved own env later None c g = tt
new_reserved own env later (Some x) c g =
    let o : Object = formal x.0 void x.1 in
    let y : IsKeptObject later.tables.objects (length env.tables.objects) o =
    g.moves.objects (length env.tables.objects) o (pushed_last env.tables.objects o) in (
      omega arith,
      c (length env.tables.objects) (omega arith),
      ap lasts y.there ∙ ap (λ z. is_lasting z.storage) (y.whole refl),
    )

module _ (names : List (List ℕ)) (low : AreByteNames names) where
  mutual
    pub checked_typed : (own : ℕ → Bool) (env : Env) (e : Expression) → IsFit own env → IsWritten e
        → After own env (IsTreeIn own) (checked names env e)
    checked_typed own env (expression f p m) h w =
        next (form_made own env p m f h w)
        (λ x g q. staying g.fit (solid_made (scene_of own x.1) p x.0 q))

    pub checked_value : (own : ℕ → Bool) (env : Env) (e : Expression) → IsFit own env → IsWritten e
        → After own env (IsValueIn own) (value_checked names env e)
    checked_value own env (expression f p m) h w =
        next (form_made own env p m f h w)
        (λ x g q. taken {c = not_floating p x.0} (solid_made (scene_of own x.1) p x.0 q) (λ e r.
        staying g.fit (tree_valued (scene_of own x.1) p e (fit_table own x.1 g.fit) r)))

    form_made : (own : ℕ → Bool) (env : Env) (p m : Place) (f : ExpressionForm) → IsFit own env
        → IsWrittenForm f → After own env (IsMadeIn own) (form_checked names env p m f)
    form_made own env p m (syntax.name n) h w = staying h (name_made own env h names n p)
    form_made own env p m (syntax.number n) h w = number_made own env h n p m w
    form_made own env p m (syntax.character z) h w = character_made own env h z p m w
    form_made own env p m (syntax.text ns) h w = text_made own env h names low ns p m
    form_made own env p m (syntax.paren e) h w =
        after_more (λ t later k. tree_made (scene_of own later) t k) (checked_typed own env e h w)
    form_made own env p m (syntax.index a b) h w =
        next (checked_value own env a h w.0)
        (λ x g q. next (checked_value own x.1 b g.fit w.1) (λ y k r.
        staying k.fit (index_typed (scene_of own y.1) (fit_table own y.1 k.fit) p m x.0 y.0
        (value_stays (scene_of own x.1) (scene_of own y.1) (grows_of own x.1 y.1 g.fit k) x.0 q)
        r)))
    form_made own env p m (syntax.call f es) h w =
        lead (call_leads own names env f h)
        (λ e g. next (checked_value own e f g.fit w.0)
        (λ x k q. taken {c = called_signature (place_of f) (of x.0)}
        (signature_found (scene_of own x.1) (fit_table own x.1 k.fit) (place_of f) (of x.0))
        (λ s is.
        next (arguments_typed own x.1 (told (parameters_of s)) es k.fit w.1
        (callee_good (scene_of own x.1) (fit_table own x.1 k.fit) x.0 s q.tree is)) (λ y l r.
        staying l.fit (call_typed (scene_of own y.1) (fit_table own y.1 l.fit) p m s x.0 y.0
        (tree_stays (scene_of own x.1) (scene_of own y.1)
        (grows_of own x.1 y.1 k.fit l) x.0 q.tree) is r)))))
    form_made own env p m (syntax.member e n) h w =
        next (checked_typed own env e h w)
        (λ x g q. staying g.fit
        (member_typed (scene_of own x.1) (fit_table own x.1 g.fit) n p m x.0 q))
    form_made own env p m (syntax.arrow e n) h w =
        next (checked_value own env e h w)
        (λ x g q. staying g.fit
        (arrow_typed (scene_of own x.1) (fit_table own x.1 g.fit) n p m x.0 q.tree))
    form_made own env p m (syntax.after op e) h w =
        next (checked_typed own env e h w)
        (λ x g q. staying g.fit
        (after_typed (scene_of own x.1) (fit_table own x.1 g.fit) op p m (place_of e) x.0 q))
    form_made own env p m (syntax.unary op e) h w =
        either {b = takes_object op}
        (λ takes. next (checked_typed own env e h w.1)
        (λ x g q. staying g.fit
        (object_typed (scene_of own x.1) (fit_table own x.1 g.fit) op p m
        (place_of e) x.0 takes q)))
        (λ takes. next (checked_value own env e h w.1)
        (λ x g q. staying g.fit
        (value_typed (scene_of own x.1) (fit_table own x.1 g.fit) op p m x.0 takes w.0 q.tree)))
    form_made own env p m (syntax.sizeof_expr e) h w =
        next (checked_typed own env e h w)
        (λ x g q. size_made own x.1 g.fit p m (of x.0) (tree_formed (scene_of own x.1) x.0 q))
    form_made own env p m (syntax.sizeof_type t) h w =
        next (type_name_good own env t h w) (λ x g q. size_made own x.1 g.fit p m x.0 q.0)
    form_made own env p m (syntax.cast t e) h w =
        next (type_name_good own env t h w.0)
        (λ x g q. next (checked_value own x.1 e g.fit w.1) (λ y k r.
        staying k.fit (cast_typed (scene_of own y.1) (fit_table own y.1 k.fit) x.0 p m
        (place_of e) y.0 (type_kept k x.0 q) r.tree r.value.known)))
    form_made own env p m (syntax.binary op a b) h w =
        next (checked_value own env a h w.1)
        (λ x g q. next (checked_value own x.1 b g.fit w.2) (λ y k r.
        staying k.fit (binary_typed (scene_of own y.1) (fit_table own y.1 k.fit) op p m x.0 y.0 w.0
        (tree_stays (scene_of own x.1) (scene_of own y.1)
        (grows_of own x.1 y.1 g.fit k) x.0 q.tree) r.tree)))
    form_made own env p m (syntax.choice c a b) h w =
        next (checked_value own env c h w.0)
        (λ x g q. next (checked_value own x.1 a g.fit w.1)
        (λ y k r. next (checked_value own y.1 b k.fit w.2) (λ z l s.
        staying l.fit (choice_typed (scene_of own z.1) (fit_table own z.1 l.fit) p m x.0 y.0 z.0
        (tree_stays (scene_of own x.1) (scene_of own z.1)
        (grows_of own x.1 z.1 g.fit (reaches_on own x.1 y.1 z.1 k l)) x.0 q.tree)
        (value_stays (scene_of own y.1) (scene_of own z.1) (grows_of own y.1 z.1 k.fit l) y.0 r)
        s))))
    form_made own env p m (syntax.assign op a b) h w =
        next (checked_typed own env a h w.0)
        (λ x g q. next (checked_value own x.1 b g.fit w.1) (λ y k r.
        staying k.fit (assign_typed (scene_of own y.1) (fit_table own y.1 k.fit) op p m (place_of a)
        (place_of b) x.0 y.0
        (tree_stays (scene_of own x.1) (scene_of own y.1) (grows_of own x.1 y.1 g.fit k) x.0 q)
        r.tree)))
    form_made own env p m (syntax.comma a b) h w =
        next (checked_value own env a h w.0)
        (λ x g q. next (checked_value own x.1 b g.fit w.1) (λ y k r.
        done (reaches_nowhere own y.1 k.fit)
        (comma_made (scene_of own y.1) (fit_table own y.1 k.fit) p m x.0 y.0
        (tree_stays (scene_of own x.1) (scene_of own y.1)
        (grows_of own x.1 y.1 g.fit k) x.0 q.tree) r.tree r.value.known)))

    arguments_typed : (own : ℕ → Bool) (env : Env) (ts : CTypes) (es : Expressions) → IsFit own env
        → AreWritten es → AreGoodIn ts env
        → After own env (AreArgumentsIn own) (arguments_checked names env ts es)
    arguments_typed own env ts no_expressions h w f = done (reaches_nowhere own env h) tt
    arguments_typed own env ts (next_expression e es) h w f =
        next (next {P = IsArgumentIn own} (checked_value own env e h w.0) (λ x g q.
        staying g.fit (argument_typed (scene_of own x.1) (fit_table own x.1 g.fit)
        (wanted ts (of x.0)) (place_of e) x.0
        (wanted_good (scene_of own x.1) (fit_table own x.1 g.fit) ts (of x.0) (good_kept g ts f)
        (tree_good (scene_of own x.1) (fit_table own x.1 g.fit) x.0 q.tree)) q))) (λ a g q.
        next (arguments_typed own a.1 (behind ts) es g.fit w.1
        (behind_good (scene_of own a.1) (fit_table own a.1 g.fit) ts (good_kept g ts f)))
        (λ y k r.
        done (reaches_nowhere own y.1 k.fit) (
          (argument_stays (scene_of own a.1) (scene_of own y.1)
              (grows_of own a.1 y.1 g.fit k) a.0 q).0,
          (argument_stays (scene_of own a.1) (scene_of own y.1)
              (grows_of own a.1 y.1 g.fit k) a.0 q).1,
          r,
        )))

    pub type_name_good : (own : ℕ → Bool) (env : Env) (t : TypeName) → IsFit own env
        → IsWrittenName t → After own env IsType (type_name_checked names env t)
    type_name_good own env (type_name ss d) h w =
        next (specifiers_good own env false (declarator_place d) ss h w.0)
        (λ x g t. declared_good own x.1 x.0 d g.fit w.1 t)

    pub specifiers_good : (own : ℕ → Bool) (env : Env) (alone : Bool) (at : Place) (ss : Specifiers)
        → IsFit own env → AreWrittenSpecifiers ss
        → After own env IsType (specifiers_checked names env alone at ss)
    specifiers_good own env alone at no_specifiers h w = done (reaches_nowhere own env h) (tt, tt)
    specifiers_good own env alone at (next_specifier s ss) h w =
        either {b = names_type s}
        (λ told. specifier_good own env alone at (next_specifier s ss) s h w.0)
        (λ told. specifiers_good own env alone at ss h w.1)

    specifier_good : (own : ℕ → Bool) (env : Env) (alone : Bool) (at : Place) (ws : Specifiers)
        (s : Specifier) → IsFit own env → IsWrittenSpecifier s
        → After own env IsType (specifier_checked names env alone at ws s)
    specifier_good own env alone at ws (storage k) h w =
        done (reaches_nowhere own env h) (words_good env.tables.structs ws)
    specifier_good own env alone at ws (qualifier k) h w =
        done (reaches_nowhere own env h) (words_good env.tables.structs ws)
    specifier_good own env alone at ws (basic k) h w =
        done (reaches_nowhere own env h) (words_good env.tables.structs ws)
    specifier_good own env alone at ws (named n) h w = staying h (named_good own env n at h)
    specifier_good own env alone at ws (struct_specifier s) h w = struct_good own env alone s h w
    specifier_good own env alone at ws (enum_specifier s) h w = enum_good own env s h w

    struct_good : (own : ℕ → Bool) (env : Env) (alone : Bool) (s : StructSpec) → IsFit own env
        → IsWrittenStruct s → After own env IsType (struct_checked names env alone s)
    struct_good own env alone (struct_spec union tag no_members p) h w =
        struct_named own env alone union tag p h
    struct_good own env alone (struct_spec union tag (some_members ds) p) h w =
        onto (struct_begun own env union tag p h) (λ x g b.
        onto (members_good own x.1 [] ds g.fit w.1 (each_none (λ m. IsType m.1 x.1))) (λ y k ms.
        struct_done own env x.1 y.1 x.0 tag union b g k p y.0 ms.0 (ms.1 w.0)))

    members_good : (own : ℕ → Bool) (env : Env) (ms : List (ℕ × CType)) (ds : Declarations)
        → IsFit own env → AreWrittenDeclarations ds → AreMembers ms env
        → After own env (AreFilled (holds_member ds) ms) (members_checked names env ms ds)
    members_good own env ms no_declarations h w f =
        done (reaches_nowhere own env h) (f, λ e. or_false (is_filled ms) e)
    members_good own env ms (next_declaration d ds) h w f =
        next (declaration_good own env ms d h w.0 f) (λ x g q.
        after_more (λ out later r. (
          r.0,
          fills_on (is_filled ms) (declares d) (holds_member ds) (is_filled x.0)
              (is_filled out) q.1 r.1,
        )) (members_good own x.1 x.0 ds g.fit w.1 q.0))

    declaration_good : (own : ℕ → Bool) (env : Env) (ms : List (ℕ × CType)) (d : Declaration)
        → IsFit own env → IsWrittenDeclaration d → AreMembers ms env
        → After own env (AreFilled (declares d) ms) (declaration_members names env ms d)
    declaration_good own env ms (declaration ss is p) h w f =
        next (specifiers_good own env false p ss h w.0)
        (λ x g t. items_good own x.1 x.0 ms is g.fit w.1 t (members_kept g ms f))

    items_good : (own : ℕ → Bool) (env : Env) (base : CType) (ms : List (ℕ × CType))
        (is : InitDeclarators) → IsFit own env → AreWrittenItems is → IsType base env
        → AreMembers ms env
        → After own env (AreFilled (has_item is) ms) (items_checked names env base ms is)
    items_good own env base ms no_items h w t f =
        done (reaches_nowhere own env h) (f, λ e. or_false (is_filled ms) e)
    items_good own env base ms (next_item i is) h w t f =
        next (item_good own env base ms i h w.0 t f) (λ x g q.
        after_more (λ out later r. (r.0, λ e. r.1 (or_left (is_filled x.0) (has_item is) q.1)))
        (items_good own x.1 base x.0 is g.fit w.1 (type_kept g base t) q.0))

    item_good : (own : ℕ → Bool) (env : Env) (base : CType) (ms : List (ℕ × CType))
        (i : InitDeclarator) → IsFit own env → IsWrittenItem i → IsType base env → AreMembers ms env
        → After own env AreMore (item_checked names env base ms i)
    item_good own env base ms (init_declarator d start) h w t f =
        next (declared_good own env base d h w.0 t)
        (λ x g u. staying g.fit (member_good x.1 ms x.0 d (members_kept g ms f) u))

    enum_good : (own : ℕ → Bool) (env : Env) (s : EnumSpec) → IsFit own env → IsWrittenEnum s
        → After own env IsType (enum_checked names env s)
    enum_good own env (enum_spec tag no_constants p) h w = staying h (enum_named env tag p)
    enum_good own env (enum_spec tag (some_constants cs) p) h w =
        lead (tag_leads own env h tag p)
        (λ e g. next (constants_sound own e (pos 0) cs g.fit w)
        (λ x k q. done (reaches_nowhere own x.1 k.fit) (tt, tt)))

    constants_sound : (own : ℕ → Bool) (env : Env) (z : ℤ) (cs : Enumerators) → IsFit own env
        → AreWrittenEnumerators cs → After own env Any (constants_checked names env z cs)
    constants_sound own env z no_enumerators h w = done (reaches_nowhere own env h) tt
    constants_sound own env z (next_enumerator n p e cs) h w =
        next (constant_sound own env z n p e h w.0)
        (λ x g q. constants_sound own x.1 x.0 cs g.fit w.1)

    constant_sound : (own : ℕ → Bool) (env : Env) (z : ℤ) (n : ℕ) (p : Place) (e : MaybeExpression)
        → IsFit own env → IsWrittenMaybe e → After own env Any (constant_checked names env z n p e)
    constant_sound own env z n p no_expression h w = enumerator_sound own env h n p z
    constant_sound own env z n p (some_expression e) h w =
        next (checked_value own env e h w)
        (λ x g q. told_sound_enumerator own x.1 g.fit x.0 (place_of e) n p)

    pub declared_good : (own : ℕ → Bool) (env : Env) (base : CType) (d : Declarator) → IsFit own env
        → IsWrittenDeclarator d → IsType base env
        → After own env IsType (declared_type names env base d)
    declared_good own env base (declarator f p) h w t =
        next (derivations_good own env p f h w)
        (λ x g q. staying g.fit
        (made_good x.1.tables.structs p x.0 base q (type_kept g base t)))

    pub steps_good : (own : ℕ → Bool) (env : Env) (d : Declarator) → IsFit own env
        → IsWrittenDeclarator d → After own env AreSteps (steps_checked names env d)
    steps_good own env (declarator f p) h w = derivations_good own env p f h w

    derivations_good : (own : ℕ → Bool) (env : Env) (p : Place) (f : DeclaratorForm) → IsFit own env
        → IsWrittenDeclaratorForm f → After own env AreSteps (derivations_checked names env p f)
    derivations_good own env p absent h w =
        done (reaches_nowhere own env h) (each_none (IsGoodStep env.tables.structs))
    derivations_good own env p (declared n) h w =
        done (reaches_nowhere own env h) (each_none (IsGoodStep env.tables.structs))
    derivations_good own env p (group d) h w = steps_good own env d h w
    derivations_good own env p (syntax.pointer qs d) h w =
        next (steps_good own env d h w)
        (λ x g q. done (reaches_nowhere own x.1 g.fit)
        (each_pushed (IsGoodStep x.1.tables.structs) x.0 to_pointer q (tt, tt)))
    derivations_good own env p (syntax.array d no_expression) h w =
        next (steps_good own env d h w.0)
        (λ x g q. done (reaches_nowhere own x.1 g.fit)
        (each_pushed (IsGoodStep x.1.tables.structs) x.0 (to_array None p) q (tt, tt)))
    derivations_good own env p (syntax.array d (some_expression e)) h w =
        next (steps_good own env d h w.0) (λ x g q.
        next (next (checked_value own x.1 e g.fit w.1)
        (λ y k r. length_sound own y.1 k.fit (place_of e) y.0)) (λ n k l.
        done (reaches_nowhere own n.1 k.fit)
        (each_pushed (IsGoodStep n.1.tables.structs) x.0 (to_array (Some n.0) p)
        (steps_kept k x.0 q) (l, tt))))
    derivations_good own env p (syntax.function d ps dots) h w =
        next (steps_good own env d h w.0) (λ x g q.
        next (list_ends own x.1 ps g.fit
        (params_good (seen_in_list own x.1) (list_entered x.1) (is_alone ps dots) [] ps
        (list_fit own x.1 g.fit) w.1 (list_covers own x.1) (each_none (λ t. IsType t x.1))))
        (λ l k r.
        done (reaches_nowhere own l.1 k.fit)
        (each_pushed (IsGoodStep l.1.tables.structs) x.0 (to_function l.0 dots p)
        (steps_kept k x.0 q) r)))

    params_good : (own : ℕ → Bool) (env : Env) (alone : Bool) (ts : List CType) (ps : Params)
        → IsFit own env → AreWrittenParams ps → Covers own env → AreTypes ts env
        → After own env AreTypes (params_checked names env alone ts ps)
    params_good own env alone ts no_params h w c f = done (reaches_nowhere own env h) f
    params_good own env alone ts (next_param q qs) h w c f =
        next (param_good own env alone ts q h w.0 c f)
        (λ x g r. params_good own x.1 alone x.0 qs g.fit w.1 (covers_on own env x.1 g c) r)

    param_good : (own : ℕ → Bool) (env : Env) (alone : Bool) (ts : List CType) (q : Param)
        → IsFit own env → IsWrittenParam q → Covers own env → AreTypes ts env
        → After own env AreTypes (param_checked names env alone ts q)
    param_good own env alone ts (param ss d) h w c f =
        met {b = has_parameter_storage ss} _ _ (λ class.
        onto (specifiers_good own (reserved env (declared_name d)) false (declarator_place d) ss
        (reaches_reserved own env h (declared_name d)).fit w.0) (λ x g t.
        either {b = alone && is_lone_void x.0 d}
        (λ lone. done (reaches_on own env (reserved env (declared_name d)) x.1
        (reaches_reserved own env h (declared_name d)) g)
        (types_kept (reaches_on own env (reserved env (declared_name d)) x.1
        (reaches_reserved own env h (declared_name d)) g) ts f))
        (λ more. onto (declared_good own x.1 x.0 d g.fit w.1 t) (λ y k u.
        parameter_sound own env y.1 (reserved_number env (declared_name d))
        (reaches_on own env (reserved env (declared_name d)) y.1
        (reaches_reserved own env h (declared_name d))
        (reaches_on own (reserved env (declared_name d)) x.1 y.1 g k))
        ts y.0 d (new_reserved own env y.1 (declared_name d) c
        (reaches_on own (reserved env (declared_name d)) x.1 y.1 g k))
        (types_kept (reaches_on own env (reserved env (declared_name d)) y.1
        (reaches_reserved own env h (declared_name d))
        (reaches_on own (reserved env (declared_name d)) x.1 y.1 g k)) ts f) u))))

  -- ---- the parts of a declarator

  pub length_good : (own : ℕ → Bool) (env : Env) (e : Expression) → IsFit own env → IsWritten e
      → After own env (λ n later. 1 ≤ n) (length_checked names env e)
  length_good own env e h w =
      next (checked_value own env e h w)
      (λ y k r. length_sound own y.1 k.fit (place_of e) y.0)

  -- the list of a declarator of a function, in a scope of its own; another form has none
  pub list_good : (own : ℕ → Bool) (env : Env) (f : DeclaratorForm) → IsFit own env
      → IsWrittenDeclaratorForm f → After own env AreParameters (list_checked names env f)
  list_good own env (syntax.function d ps dots) h w =
      list_ends own env ps h
      (params_good (seen_in_list own env) (list_entered env) (is_alone ps dots) [] ps
      (list_fit own env h) w.1 (list_covers own env) (each_none (λ t. IsType t env)))
  list_good own env absent h w = done (reaches_nowhere own env h) (tt, tt)
  list_good own env (declared n) h w = done (reaches_nowhere own env h) (tt, tt)
  list_good own env (group d) h w = done (reaches_nowhere own env h) (tt, tt)
  list_good own env (syntax.pointer qs d) h w = done (reaches_nowhere own env h) (tt, tt)
  list_good own env (syntax.array d n) h w = done (reaches_nowhere own env h) (tt, tt)
