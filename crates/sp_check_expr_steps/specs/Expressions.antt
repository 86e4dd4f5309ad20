-- The typing of expressions, type names, specifiers and declarators (C90 6.3, 6.5.2, 6.5.4, 6.5.5): what the rules give of a tree in an environment, or
-- the fault that stands, and the environment behind it.
--
-- Parts go from left to right: a string, a constant or a function declared by its call is there for the parts behind it. An operand
-- of `sizeof` and `&`, of a step, and the left side of `.` and of an assignment is taken as it stands; every other as a value.
use Rattle.std.specs.Prelude.{ℕ, ℤ, pos, Bool, true, false, ◌&&◌, List, [], ◌∷◌, ◌++◌, Some, None, if◌then◌else◌}
use Rattle.sp_tree.specs.declared.fault.FaultKind.TheVariants.{BadOperand}
use Rattle.sp_tree.specs.declared.fault.Place.{Place}
use Rattle.sp_parse_trees.specs.Syntax.{Expression, expression, ExpressionForm, Expressions, no_expressions, next_expression, MaybeExpression, no_expression, some_expression, Specifier, storage, qualifier, basic, named, struct_specifier, enum_specifier, Specifiers, no_specifiers, next_specifier, StructSpec, struct_spec, no_members, some_members, Members, EnumSpec, enum_spec, Constants, no_constants, some_constants, Enumerators, no_enumerators, next_enumerator, Declaration, declaration, Declarations, no_declarations, next_declaration, InitDeclarator, init_declarator, InitDeclarators, no_items, next_item, Declarator, declarator, DeclaratorForm, absent, declared, group, Param, param, Params, no_params, next_param, TypeName, type_name}
use Rattle.sp_parse_trees.specs.Syntax as syntax
use Rattle.sp_parse_trees.specs.Places.{place_of, declarator_place}
use Rattle.sp_types.specs.Types.{CType, structure, CTypes, Parameters, untold, parameters_of}
use Rattle.sp_types.specs.Typed.{Typed, typed, TypedList, no_typed, next_typed, of}
use Rattle.sp_types.specs.Typed as tree
use Rattle.sp_base_checked.specs.Answers.{Checked, accepted, and_then, where_met}
use Rattle.sp_check_operands.specs.Conversions.{value}
use Rattle.sp_check_operands.specs.Operands.{int}
use Rattle.sp_check_constants.specs.Constants.{constant_of}
use Rattle.sp_check_binary_rules.specs.Lengths.{length_given}
use Rattle.sp_check_binary_rules.specs.Rules.{indexed, member_taken, arrow_taken, cast_to, binary, choice, assign, called_signature, told, wanted, behind, argument, called, not_floating, stepped_after, takes_object, argument_at, unary_object, unary_value}
use Rattle.sp_check_env.specs.Env.{Env, with_constant, list_entered}
use Rattle.sp_check_members.specs.Enumerators.{with_enum_tag, enumerator}
use Rattle.sp_check_members.specs.Members.{completed}
use Rattle.sp_check_members.specs.Parameters.{declared_name, has_parameter_storage, is_lone_void, reserved, reserved_number}
use Rattle.sp_check_primaries.specs.Literals.{number_checked, character_checked, text_checked, size_checked}
use Rattle.sp_check_primaries.specs.Names.{name_checked, implicit_name}
use Rattle.sp_check_type_names.specs.Tags.{named_checked, struct_referred, enum_referred}
use Rattle.sp_check_type_names.specs.Words.{words_type}
use Rattle.sp_check_type_names.specs.Derivations.{Derivation, to_pointer, to_array, to_function, made}
use Rattle.sp_check_expr_steps.specs.Parameters.{params_of, is_alone, is_alone_in, list_told, param_told}
use Rattle.sp_check_expr_steps.specs.Specifiers.{stays, names_type, struct_opened, member_added, enumerator_told}

-- 6.3.2.2: a name that is called and not declared is declared by the call
abbrev pub with_implicit : List (List ℕ) → Env → Expression → Checked Env
with_implicit names env (expression (syntax.name n) p m) = implicit_name names env n p
with_implicit names env e = accepted env

-- the arguments of a call
abbrev pub arguments_of : ExpressionForm → Expressions
arguments_of (syntax.call f es) = es
arguments_of f = no_expressions

-- an index or a call, the forms of one operand, and those of several
abbrev pub is_indexed_or_called : ExpressionForm → Bool
is_indexed_or_called (syntax.index a b) = true
is_indexed_or_called (syntax.call f es) = true
is_indexed_or_called f = false

abbrev pub is_operation : ExpressionForm → Bool
is_operation (syntax.member e n) = true
is_operation (syntax.arrow e n) = true
is_operation (syntax.after op e) = true
is_operation (syntax.unary op e) = true
is_operation (syntax.sizeof_expr e) = true
is_operation (syntax.sizeof_type t) = true
is_operation (syntax.cast t e) = true
is_operation f = false

abbrev pub joins_operands : ExpressionForm → Bool
joins_operands (syntax.binary op a b) = true
joins_operands (syntax.choice c a b) = true
joins_operands (syntax.assign op a b) = true
joins_operands (syntax.comma a b) = true
joins_operands f = false

-- 6.5.4.2: the length that an expression gives; it is a constant of the ladder
abbrev pub length_told : Place → Typed → Env → Checked (ℕ × Env)
length_told at e env = and_then (length_given (constant_of e) at) (λ n. accepted (n, with_constant env (pos n)))

abbrev mutual
  -- the expression as it stands
  pub checked : List (List ℕ) → Env → Expression → Checked (Typed × Env)
  checked names env (expression f p m) = and_then (form_checked names env p m f) (λ x. stays x.1 (not_floating p x.0))

  -- the expression as a value (6.2.2.1)
  pub value_checked : List (List ℕ) → Env → Expression → Checked (Typed × Env)
  value_checked names env (expression f p m) =
      and_then (form_checked names env p m f) (λ x.
      and_then (not_floating p x.0) (λ e. stays x.1 (value x.1.tables.structs p e)))

  pub form_checked : List (List ℕ) → Env → Place → Place → ExpressionForm → Checked (Typed × Env)
  form_checked names env p m (syntax.name n) = stays env (name_checked names env n p)
  form_checked names env p m (syntax.number n) = number_checked env n p m
  form_checked names env p m (syntax.character z) = character_checked env z p m
  form_checked names env p m (syntax.text ns) = text_checked names env ns p m
  form_checked names env p m (syntax.paren e) = checked names env e
  form_checked names env p m (syntax.index a b) =
      and_then (value_checked names env a) (λ x.
      and_then (value_checked names x.1 b) (λ y.
      stays y.1 (indexed y.1.tables.structs p m x.0 y.0)))
  form_checked names env p m (syntax.call f es) =
      and_then (with_implicit names env f) (λ env'.
      and_then (value_checked names env' f) (λ x.
      and_then (called_signature (place_of f) (of x.0)) (λ s.
      and_then (arguments_checked names x.1 (told (parameters_of s)) es) (λ y.
      stays y.1 (called y.1.tables.structs p m s x.0 y.0)))))
  form_checked names env p m (syntax.member e n) =
      and_then (checked names env e) (λ x. stays x.1 (member_taken x.1.tables.structs n p m x.0))
  form_checked names env p m (syntax.arrow e n) =
      and_then (value_checked names env e) (λ x. stays x.1 (arrow_taken x.1.tables.structs n p m x.0))
  form_checked names env p m (syntax.after op e) =
      and_then (checked names env e) (λ x. stays x.1 (stepped_after x.1.tables.structs op p m (place_of e) x.0))
  form_checked names env p m (syntax.unary op e) =
      if takes_object op then and_then (checked names env e) (λ x. stays x.1 (unary_object x.1.tables.structs op p m (place_of e) x.0))
      else and_then (value_checked names env e) (λ x. stays x.1 (unary_value op p m x.0))
  form_checked names env p m (syntax.sizeof_expr e) = and_then (checked names env e) (λ x. size_checked x.1 p m (of x.0))
  form_checked names env p m (syntax.sizeof_type t) = and_then (type_name_checked names env t) (λ x. size_checked x.1 p m x.0)
  form_checked names env p m (syntax.cast t e) =
      and_then (type_name_checked names env t) (λ x.
      and_then (value_checked names x.1 e) (λ y.
      stays y.1 (cast_to x.0 p m (place_of e) y.0)))
  form_checked names env p m (syntax.binary op a b) =
      and_then (value_checked names env a) (λ x.
      and_then (value_checked names x.1 b) (λ y.
      stays y.1 (binary y.1.tables.structs op p m x.0 y.0)))
  form_checked names env p m (syntax.choice c a b) =
      and_then (value_checked names env c) (λ x.
      and_then (value_checked names x.1 a) (λ y.
      and_then (value_checked names y.1 b) (λ z.
      stays z.1 (choice p m x.0 y.0 z.0))))
  form_checked names env p m (syntax.assign op a b) =
      and_then (checked names env a) (λ x.
      and_then (value_checked names x.1 b) (λ y.
      stays y.1 (assign y.1.tables.structs op p m (place_of a) (place_of b) x.0 y.0)))
  form_checked names env p m (syntax.comma a b) =
      and_then (value_checked names env a) (λ x.
      and_then (value_checked names x.1 b) (λ y.
      accepted (typed (tree.comma x.0 y.0) (of y.0) p m, y.1)))

  -- the arguments, each converted to its parameter's type or promoted
  pub arguments_checked : List (List ℕ) → Env → CTypes → Expressions → Checked (TypedList × Env)
  arguments_checked names env ts no_expressions = accepted (no_typed, env)
  arguments_checked names env ts (next_expression e es) =
      and_then (and_then (value_checked names env e) (λ x. stays x.1 (argument (wanted ts (of x.0)) (place_of e) x.0))) (λ a.
      and_then (arguments_checked names a.1 (behind ts) es) (λ y.
      accepted (next_typed a.0 y.0, y.1)))

  -- 6.5.5
  pub type_name_checked : List (List ℕ) → Env → TypeName → Checked (CType × Env)
  type_name_checked names env (type_name ss d) =
      and_then (specifiers_checked names env false (declarator_place d) ss) (λ x. declared_type names x.1 x.0 d)

  -- 6.5.2: the grammar lets one specifier of a struct or an enumeration stand alone, or one name of a type, or words: so the first
  -- that is no storage class and no qualifier tells the type. `alone` says that no declarator follows, `at` is the place of what
  -- the specifiers stand in
  pub specifiers_checked : List (List ℕ) → Env → Bool → Place → Specifiers → Checked (CType × Env)
  specifiers_checked names env alone at no_specifiers = accepted (int, env)
  specifiers_checked names env alone at (next_specifier s ss) =
      if names_type s then specifier_checked names env alone at (next_specifier s ss) s else specifiers_checked names env alone at ss

  -- the type that a specifier names, with the words from it on
  pub specifier_checked : List (List ℕ) → Env → Bool → Place → Specifiers → Specifier → Checked (CType × Env)
  specifier_checked names env alone at ws (storage k) = accepted (words_type ws, env)
  specifier_checked names env alone at ws (qualifier k) = accepted (words_type ws, env)
  specifier_checked names env alone at ws (basic k) = accepted (words_type ws, env)
  specifier_checked names env alone at ws (named n) = stays env (named_checked env n at)
  specifier_checked names env alone at ws (struct_specifier s) = struct_checked names env alone s
  specifier_checked names env alone at ws (enum_specifier s) = enum_checked names env s

  pub struct_checked : List (List ℕ) → Env → Bool → StructSpec → Checked (CType × Env)
  struct_checked names env alone (struct_spec union tag no_members p) = struct_referred env alone union tag p
  struct_checked names env alone (struct_spec union tag (some_members ds) p) =
      and_then (struct_opened env union tag p) (λ x.
      and_then (members_checked names x.1 [] ds) (λ y.
      and_then (completed y.1 x.0 union p y.0) (λ env'.
      accepted (structure x.0, env'))))

  -- the members behind those that are read
  pub members_checked : List (List ℕ) → Env → List (ℕ × CType) → Declarations → Checked (List (ℕ × CType) × Env)
  members_checked names env ms no_declarations = accepted (ms, env)
  members_checked names env ms (next_declaration d ds) =
      and_then (declaration_members names env ms d) (λ x. members_checked names x.1 x.0 ds)

  pub declaration_members : List (List ℕ) → Env → List (ℕ × CType) → Declaration → Checked (List (ℕ × CType) × Env)
  declaration_members names env ms (declaration ss is p) =
      and_then (specifiers_checked names env false p ss) (λ x. items_checked names x.1 x.0 ms is)

  pub items_checked : List (List ℕ) → Env → CType → List (ℕ × CType) → InitDeclarators → Checked (List (ℕ × CType) × Env)
  items_checked names env base ms no_items = accepted (ms, env)
  items_checked names env base ms (next_item i is) =
      and_then (item_checked names env base ms i) (λ x. items_checked names x.1 base x.0 is)

  pub item_checked : List (List ℕ) → Env → CType → List (ℕ × CType) → InitDeclarator → Checked (List (ℕ × CType) × Env)
  item_checked names env base ms (init_declarator d start) =
      and_then (declared_type names env base d) (λ x. stays x.1 (member_added x.1.tables.structs ms x.0 d))

  pub enum_checked : List (List ℕ) → Env → EnumSpec → Checked (CType × Env)
  enum_checked names env (enum_spec tag no_constants p) = stays env (enum_referred env tag p)
  enum_checked names env (enum_spec tag (some_constants cs) p) =
      and_then (with_enum_tag env tag p) (λ env'.
      and_then (constants_checked names env' (pos 0) cs) (λ x.
      accepted (int, x.1)))

  -- the constants from this value on, where none is given
  pub constants_checked : List (List ℕ) → Env → ℤ → Enumerators → Checked (ℤ × Env)
  constants_checked names env z no_enumerators = accepted (z, env)
  constants_checked names env z (next_enumerator n p e cs) =
      and_then (constant_checked names env z n p e) (λ x. constants_checked names x.1 x.0 cs)

  pub constant_checked : List (List ℕ) → Env → ℤ → ℕ → Place → MaybeExpression → Checked (ℤ × Env)
  constant_checked names env z n p no_expression = enumerator env n p z
  constant_checked names env z n p (some_expression e) =
      and_then (value_checked names env e) (λ x. enumerator_told x.1 x.0 (place_of e) n p)

  -- 6.5.4: the type of a declarator's name; the base is what its specifiers name
  pub declared_type : List (List ℕ) → Env → CType → Declarator → Checked (CType × Env)
  declared_type names env base (declarator f p) =
      and_then (derivations_checked names env p f) (λ x. stays x.1 (made x.1.tables.structs p x.0 base))

  -- what a declarator derives, from the name outwards, so in the order of its lengths
  pub steps_checked : List (List ℕ) → Env → Declarator → Checked (List Derivation × Env)
  steps_checked names env (declarator f p) = derivations_checked names env p f

  pub derivations_checked : List (List ℕ) → Env → Place → DeclaratorForm → Checked (List Derivation × Env)
  derivations_checked names env p absent = accepted ([], env)
  derivations_checked names env p (declared n) = accepted ([], env)
  derivations_checked names env p (group d) = steps_checked names env d
  derivations_checked names env p (syntax.pointer qs d) =
      and_then (steps_checked names env d) (λ x. accepted (x.0 ++ to_pointer ∷ [], x.1))
  derivations_checked names env p (syntax.array d no_expression) =
      and_then (steps_checked names env d) (λ x. accepted (x.0 ++ to_array None p ∷ [], x.1))
  derivations_checked names env p (syntax.array d (some_expression e)) =
      and_then (steps_checked names env d) (λ x.
      and_then (and_then (value_checked names x.1 e) (λ y. length_told (place_of e) y.0 y.1)) (λ n.
      accepted (x.0 ++ to_array (Some n.0) p ∷ [], n.1)))
  derivations_checked names env p (syntax.function d ps dots) =
      and_then (steps_checked names env d) (λ x.
      and_then (and_then (params_checked names (list_entered x.1) (is_alone ps dots) [] ps) (λ y. list_told ps y.0 y.1)) (λ l.
      accepted (x.0 ++ to_function l.0 dots p ∷ [], l.1)))

  -- the types of parameters, behind those that are read; `alone` says that there is but one, and no `...`
  pub params_checked : List (List ℕ) → Env → Bool → List CType → Params → Checked (List CType × Env)
  params_checked names env alone ts no_params = accepted (ts, env)
  params_checked names env alone ts (next_param q qs) =
      and_then (param_checked names env alone ts q) (λ x. params_checked names x.1 alone x.0 qs)

  pub param_checked : List (List ℕ) → Env → Bool → List CType → Param → Checked (List CType × Env)
  param_checked names env alone ts (param ss d) =
      where_met (has_parameter_storage ss) BadOperand (declarator_place d)
      (and_then (specifiers_checked names (reserved env (declared_name d)) false (declarator_place d) ss) (λ x.
      if alone && is_lone_void x.0 d then accepted (ts, x.1)
      else and_then (declared_type names x.1 x.0 d) (λ y. param_told y.1 (reserved_number env (declared_name d)) ts y.0 d)))

-- the declarations between the braces of a struct, and the constants between those of an enumeration
abbrev pub declarations_in : StructSpec → Declarations
declarations_in (struct_spec union tag no_members p) = no_declarations
declarations_in (struct_spec union tag (some_members ds) p) = ds

abbrev pub constants_in : EnumSpec → Enumerators
constants_in (enum_spec tag no_constants p) = no_enumerators
constants_in (enum_spec tag (some_constants cs) p) = cs

abbrev pub items_in : Declaration → InitDeclarators
items_in (declaration ss is p) = is

-- the parameters of a declarator of a function, in a scope of their own; another form has none
abbrev pub list_checked : List (List ℕ) → Env → DeclaratorForm → Checked (Parameters × Env)
list_checked names env (syntax.function d ps dots) = and_then (params_checked names (list_entered env) (is_alone ps dots) [] ps) (λ y. list_told ps y.0 y.1)
list_checked names env f = accepted (untold, env)

-- the same of every form at once
abbrev pub list_read : List (List ℕ) → Env → DeclaratorForm → Checked (Parameters × Env)
list_read names env f = and_then (params_checked names (list_entered env) (is_alone_in f) [] (params_of f)) (λ y. list_told (params_of f) y.0 y.1)

-- the argument of this number
abbrev pub one_checked : List (List ℕ) → Env → CTypes → ℕ → Expression → Checked (Typed × Env)
one_checked names env ts n e = and_then (value_checked names env e) (λ x. stays x.1 (argument_at ts n (place_of e) x.0))

-- a length
abbrev pub length_checked : List (List ℕ) → Env → Expression → Checked (ℕ × Env)
length_checked names env e = and_then (value_checked names env e) (λ y. length_told (place_of e) y.0 y.1)
