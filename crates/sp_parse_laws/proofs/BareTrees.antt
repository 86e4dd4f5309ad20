-- A bare tree spells the same tokens as the tree, and is as deep.
use Rattle.std.proofs.Common.{◌≡◌, ◌+◌, List, [], ◌∷◌, ◌++◌, map, refl, ap, ap₂, ◌∙◌}
use Rattle.std.specs.Prelude.{max, if◌then◌else◌}
use Rattle.sp_tree.specs.declared.token.Kind.{Kind}
use Rattle.sp_tree.specs.declared.token.Kind.TheVariants.{Name, Word, Mark}
use Rattle.sp_tree.specs.declared.token.Keyword.TheVariants.{Enum, Sizeof, Struct, Union}
use Rattle.sp_tree.specs.declared.token.Punct.TheVariants.{LeftBracket, RightBracket, LeftParenthesis, RightParenthesis, LeftBrace, RightBrace, Dot, Arrow, Star, Question, Colon, Semicolon, Assign, Comma}
use Rattle.sp_parse_trees.specs.Spelling.{tag_tokens, dots_tokens, tokens_of, form_tokens, expressions_tokens, maybe_tokens, specifier_tokens, specifiers_tokens, struct_tokens, members_tokens, enum_tokens, constants_tokens, enumerators_tokens, declarator_tokens, declarator_form_tokens, param_tokens, params_tokens, type_name_tokens, init_tokens, inits_tokens, maybe_init_tokens, item_tokens, items_tokens, declaration_tokens, declarations_tokens}
use Rattle.sp_parse_trees.specs.Depth.{depth, form_depth, expressions_depth, maybe_depth, specifier_depth, specifiers_depth, struct_depth, members_depth, enum_depth, constants_depth, enumerators_depth, declarator_depth, declarator_form_depth, param_depth, params_depth, type_name_depth, init_depth, inits_depth, maybe_init_depth, item_depth, items_depth, declaration_depth, declarations_depth}
use Rattle.sp_parse_trees.specs.Syntax.{Expression, expression, ExpressionForm, name, number, character, text, paren, index, call, member, arrow, after, unary, sizeof_expr, sizeof_type, cast, binary, choice, assign, comma, Expressions, no_expressions, next_expression, MaybeExpression, no_expression, some_expression}
use Rattle.sp_parse_trees.specs.Syntax.{Specifier, storage, qualifier, basic, named, struct_specifier, enum_specifier, Specifiers, no_specifiers, next_specifier, StructSpec, struct_spec, Members, no_members, some_members, EnumSpec, enum_spec, Constants, no_constants, some_constants, Enumerators, no_enumerators, next_enumerator}
use Rattle.sp_parse_trees.specs.Syntax.{Declarator, declarator, DeclaratorForm, absent, declared, group, pointer, array, function, Param, param, Params, no_params, next_param, TypeName, type_name}
use Rattle.sp_parse_trees.specs.Syntax.{Init, one, list, Inits, no_inits, next_init, MaybeInit, no_init, some_init, InitDeclarator, init_declarator, InitDeclarators, no_items, next_item, Declaration, declaration, Declarations, no_declarations, next_declaration}
use Rattle.sp_parse_laws.specs.Bare.{bare, bare_form, bare_expressions, bare_maybe, bare_specifier, bare_specifiers, bare_struct, bare_members, bare_enum, bare_constants, bare_enumerators, bare_declarator, bare_declarator_form, bare_param, bare_params, bare_type_name, bare_init, bare_inits, bare_start, bare_item, bare_items, bare_declaration, bare_declarations}

pub ap₃ : {A B C D : Type 0} (f : A → B → C → D) {a b : A} {c d : B} {x y : C} → a ≡ b → c ≡ d → x ≡ y → f a c x ≡ f b d y
ap₃ f {b = b} {d = d} {x = x} p q r = ap₂ (λ u v. f u v x) p q ∙ ap (f b d) r

-- ---- what it spells

mutual
  pub bare_tokens : (x : Expression) → tokens_of (bare x) ≡ tokens_of x
  bare_tokens (expression f p m) = bare_form_tokens f

  pub bare_form_tokens : (x : ExpressionForm) → form_tokens (bare_form x) ≡ form_tokens x
  bare_form_tokens (name n) = refl
  bare_form_tokens (number n) = refl
  bare_form_tokens (character z) = refl
  bare_form_tokens (text ns) = refl
  bare_form_tokens (paren e) = ap (λ u. Mark LeftParenthesis ∷ u ++ Mark RightParenthesis ∷ []) (bare_tokens e)
  bare_form_tokens (index e i) = ap₂ (λ u v. u ++ Mark LeftBracket ∷ v ++ Mark RightBracket ∷ []) (bare_tokens e) (bare_tokens i)
  bare_form_tokens (call e es) = ap₂ (λ u v. u ++ Mark LeftParenthesis ∷ v ++ Mark RightParenthesis ∷ []) (bare_tokens e) (bare_expressions_tokens [] es)
  bare_form_tokens (member e n) = ap (λ u. u ++ Mark Dot ∷ Name n ∷ []) (bare_tokens e)
  bare_form_tokens (arrow e n) = ap (λ u. u ++ Mark Arrow ∷ Name n ∷ []) (bare_tokens e)
  bare_form_tokens (after op e) = ap (λ u. u ++ Mark op ∷ []) (bare_tokens e)
  bare_form_tokens (unary op e) = ap (λ u. Mark op ∷ u) (bare_tokens e)
  bare_form_tokens (sizeof_expr e) = ap (λ u. Word Sizeof ∷ u) (bare_tokens e)
  bare_form_tokens (sizeof_type t) = ap (λ u. Word Sizeof ∷ Mark LeftParenthesis ∷ u ++ Mark RightParenthesis ∷ []) (bare_type_name_tokens t)
  bare_form_tokens (cast t e) = ap₂ (λ u v. Mark LeftParenthesis ∷ u ++ Mark RightParenthesis ∷ v) (bare_type_name_tokens t) (bare_tokens e)
  bare_form_tokens (binary op l r) = ap₂ (λ u v. u ++ Mark op ∷ v) (bare_tokens l) (bare_tokens r)
  bare_form_tokens (choice c l r) = ap₃ (λ u v w. u ++ Mark Question ∷ v ++ Mark Colon ∷ w) (bare_tokens c) (bare_tokens l) (bare_tokens r)
  bare_form_tokens (assign op l r) = ap₂ (λ u v. u ++ Mark op ∷ v) (bare_tokens l) (bare_tokens r)
  bare_form_tokens (comma l r) = ap₂ (λ u v. u ++ Mark Comma ∷ v) (bare_tokens l) (bare_tokens r)

  pub bare_expressions_tokens : (before : List Kind) (x : Expressions) → expressions_tokens before (bare_expressions x) ≡ expressions_tokens before x
  bare_expressions_tokens before no_expressions = refl
  bare_expressions_tokens before (next_expression e es) = ap₂ (λ u v. before ++ u ++ v) (bare_tokens e) (bare_expressions_tokens (Mark Comma ∷ []) es)

  pub bare_maybe_tokens : (before : List Kind) (x : MaybeExpression) → maybe_tokens before (bare_maybe x) ≡ maybe_tokens before x
  bare_maybe_tokens before no_expression = refl
  bare_maybe_tokens before (some_expression e) = ap (λ u. before ++ u) (bare_tokens e)

  pub bare_specifier_tokens : (x : Specifier) → specifier_tokens (bare_specifier x) ≡ specifier_tokens x
  bare_specifier_tokens (storage k) = refl
  bare_specifier_tokens (qualifier k) = refl
  bare_specifier_tokens (basic k) = refl
  bare_specifier_tokens (named n) = refl
  bare_specifier_tokens (struct_specifier s) = bare_struct_tokens s
  bare_specifier_tokens (enum_specifier e) = bare_enum_tokens e

  pub bare_specifiers_tokens : (x : Specifiers) → specifiers_tokens (bare_specifiers x) ≡ specifiers_tokens x
  bare_specifiers_tokens no_specifiers = refl
  bare_specifiers_tokens (next_specifier s ss) = ap₂ (λ u v. u ++ v) (bare_specifier_tokens s) (bare_specifiers_tokens ss)

  pub bare_struct_tokens : (x : StructSpec) → struct_tokens (bare_struct x) ≡ struct_tokens x
  bare_struct_tokens (struct_spec union tag ms p) = ap (λ u. Word (if union then Union else Struct) ∷ tag_tokens tag ++ u) (bare_members_tokens ms)

  pub bare_members_tokens : (x : Members) → members_tokens (bare_members x) ≡ members_tokens x
  bare_members_tokens no_members = refl
  bare_members_tokens (some_members ds) = ap (λ u. Mark LeftBrace ∷ u ++ Mark RightBrace ∷ []) (bare_declarations_tokens ds)

  pub bare_enum_tokens : (x : EnumSpec) → enum_tokens (bare_enum x) ≡ enum_tokens x
  bare_enum_tokens (enum_spec tag cs p) = ap (λ u. Word Enum ∷ tag_tokens tag ++ u) (bare_constants_tokens cs)

  pub bare_constants_tokens : (x : Constants) → constants_tokens (bare_constants x) ≡ constants_tokens x
  bare_constants_tokens no_constants = refl
  bare_constants_tokens (some_constants es) = ap (λ u. Mark LeftBrace ∷ u ++ Mark RightBrace ∷ []) (bare_enumerators_tokens [] es)

  pub bare_enumerators_tokens : (before : List Kind) (x : Enumerators) → enumerators_tokens before (bare_enumerators x) ≡ enumerators_tokens before x
  bare_enumerators_tokens before no_enumerators = refl
  bare_enumerators_tokens before (next_enumerator n p value es) = ap₂ (λ u v. before ++ Name n ∷ u ++ v) (bare_maybe_tokens (Mark Assign ∷ []) value) (bare_enumerators_tokens (Mark Comma ∷ []) es)

  pub bare_declarator_tokens : (x : Declarator) → declarator_tokens (bare_declarator x) ≡ declarator_tokens x
  bare_declarator_tokens (declarator f p) = bare_declarator_form_tokens f

  pub bare_declarator_form_tokens : (x : DeclaratorForm) → declarator_form_tokens (bare_declarator_form x) ≡ declarator_form_tokens x
  bare_declarator_form_tokens absent = refl
  bare_declarator_form_tokens (declared n) = refl
  bare_declarator_form_tokens (group d) = ap (λ u. Mark LeftParenthesis ∷ u ++ Mark RightParenthesis ∷ []) (bare_declarator_tokens d)
  bare_declarator_form_tokens (pointer qs d) = ap (λ u. Mark Star ∷ map (λ k. Word k) qs ++ u) (bare_declarator_tokens d)
  bare_declarator_form_tokens (array d e) = ap₂ (λ u v. u ++ Mark LeftBracket ∷ v ++ Mark RightBracket ∷ []) (bare_declarator_tokens d) (bare_maybe_tokens [] e)
  bare_declarator_form_tokens (function d ps dots) = ap₂ (λ u v. u ++ Mark LeftParenthesis ∷ v ++ dots_tokens dots ++ Mark RightParenthesis ∷ []) (bare_declarator_tokens d) (bare_params_tokens [] ps)

  pub bare_param_tokens : (x : Param) → param_tokens (bare_param x) ≡ param_tokens x
  bare_param_tokens (param ss d) = ap₂ (λ u v. u ++ v) (bare_specifiers_tokens ss) (bare_declarator_tokens d)

  pub bare_params_tokens : (before : List Kind) (x : Params) → params_tokens before (bare_params x) ≡ params_tokens before x
  bare_params_tokens before no_params = refl
  bare_params_tokens before (next_param p ps) = ap₂ (λ u v. before ++ u ++ v) (bare_param_tokens p) (bare_params_tokens (Mark Comma ∷ []) ps)

  pub bare_type_name_tokens : (x : TypeName) → type_name_tokens (bare_type_name x) ≡ type_name_tokens x
  bare_type_name_tokens (type_name ss d) = ap₂ (λ u v. u ++ v) (bare_specifiers_tokens ss) (bare_declarator_tokens d)

  pub bare_init_tokens : (x : Init) → init_tokens (bare_init x) ≡ init_tokens x
  bare_init_tokens (one e) = bare_tokens e
  bare_init_tokens (list is trailing) = ap (λ u. Mark LeftBrace ∷ u ++ (if trailing then Mark Comma ∷ [] else []) ++ Mark RightBrace ∷ []) (bare_inits_tokens [] is)

  pub bare_inits_tokens : (before : List Kind) (x : Inits) → inits_tokens before (bare_inits x) ≡ inits_tokens before x
  bare_inits_tokens before no_inits = refl
  bare_inits_tokens before (next_init i is) = ap₂ (λ u v. before ++ u ++ v) (bare_init_tokens i) (bare_inits_tokens (Mark Comma ∷ []) is)

  pub bare_start_tokens : (x : MaybeInit) → maybe_init_tokens (bare_start x) ≡ maybe_init_tokens x
  bare_start_tokens no_init = refl
  bare_start_tokens (some_init i) = ap (λ u. Mark Assign ∷ u) (bare_init_tokens i)

  pub bare_item_tokens : (x : InitDeclarator) → item_tokens (bare_item x) ≡ item_tokens x
  bare_item_tokens (init_declarator d start) = ap₂ (λ u v. u ++ v) (bare_declarator_tokens d) (bare_start_tokens start)

  pub bare_items_tokens : (before : List Kind) (x : InitDeclarators) → items_tokens before (bare_items x) ≡ items_tokens before x
  bare_items_tokens before no_items = refl
  bare_items_tokens before (next_item i is) = ap₂ (λ u v. before ++ u ++ v) (bare_item_tokens i) (bare_items_tokens (Mark Comma ∷ []) is)

  pub bare_declaration_tokens : (x : Declaration) → declaration_tokens (bare_declaration x) ≡ declaration_tokens x
  bare_declaration_tokens (declaration ss is p) = ap₂ (λ u v. u ++ v ++ Mark Semicolon ∷ []) (bare_specifiers_tokens ss) (bare_items_tokens [] is)

  pub bare_declarations_tokens : (x : Declarations) → declarations_tokens (bare_declarations x) ≡ declarations_tokens x
  bare_declarations_tokens no_declarations = refl
  bare_declarations_tokens (next_declaration d ds) = ap₂ (λ u v. u ++ v) (bare_declaration_tokens d) (bare_declarations_tokens ds)

-- ---- how deep it is

mutual
  pub bare_depth : (x : Expression) → depth (bare x) ≡ depth x
  bare_depth (expression f p m) = ap (λ u. 1 + u) (bare_form_depth f)

  pub bare_form_depth : (x : ExpressionForm) → form_depth (bare_form x) ≡ form_depth x
  bare_form_depth (name n) = refl
  bare_form_depth (number n) = refl
  bare_form_depth (character z) = refl
  bare_form_depth (text ns) = refl
  bare_form_depth (paren e) = bare_depth e
  bare_form_depth (index e i) = ap₂ (λ u v. max u v) (bare_depth e) (bare_depth i)
  bare_form_depth (call e es) = ap₂ (λ u v. max u v) (bare_depth e) (bare_expressions_depth es)
  bare_form_depth (member e n) = bare_depth e
  bare_form_depth (arrow e n) = bare_depth e
  bare_form_depth (after op e) = bare_depth e
  bare_form_depth (unary op e) = bare_depth e
  bare_form_depth (sizeof_expr e) = bare_depth e
  bare_form_depth (sizeof_type t) = bare_type_name_depth t
  bare_form_depth (cast t e) = ap₂ (λ u v. max u v) (bare_type_name_depth t) (bare_depth e)
  bare_form_depth (binary op l r) = ap₂ (λ u v. max u v) (bare_depth l) (bare_depth r)
  bare_form_depth (choice c l r) = ap₃ (λ u v w. max u (max v w)) (bare_depth c) (bare_depth l) (bare_depth r)
  bare_form_depth (assign op l r) = ap₂ (λ u v. max u v) (bare_depth l) (bare_depth r)
  bare_form_depth (comma l r) = ap₂ (λ u v. max u v) (bare_depth l) (bare_depth r)

  pub bare_expressions_depth : (x : Expressions) → expressions_depth (bare_expressions x) ≡ expressions_depth x
  bare_expressions_depth no_expressions = refl
  bare_expressions_depth (next_expression e es) = ap₂ (λ u v. max u v) (bare_depth e) (bare_expressions_depth es)

  pub bare_maybe_depth : (x : MaybeExpression) → maybe_depth (bare_maybe x) ≡ maybe_depth x
  bare_maybe_depth no_expression = refl
  bare_maybe_depth (some_expression e) = bare_depth e

  pub bare_specifier_depth : (x : Specifier) → specifier_depth (bare_specifier x) ≡ specifier_depth x
  bare_specifier_depth (storage k) = refl
  bare_specifier_depth (qualifier k) = refl
  bare_specifier_depth (basic k) = refl
  bare_specifier_depth (named n) = refl
  bare_specifier_depth (struct_specifier s) = bare_struct_depth s
  bare_specifier_depth (enum_specifier e) = bare_enum_depth e

  pub bare_specifiers_depth : (x : Specifiers) → specifiers_depth (bare_specifiers x) ≡ specifiers_depth x
  bare_specifiers_depth no_specifiers = refl
  bare_specifiers_depth (next_specifier s ss) = ap₂ (λ u v. max u v) (bare_specifier_depth s) (bare_specifiers_depth ss)

  pub bare_struct_depth : (x : StructSpec) → struct_depth (bare_struct x) ≡ struct_depth x
  bare_struct_depth (struct_spec union tag ms p) = ap (λ u. 1 + u) (bare_members_depth ms)

  pub bare_members_depth : (x : Members) → members_depth (bare_members x) ≡ members_depth x
  bare_members_depth no_members = refl
  bare_members_depth (some_members ds) = bare_declarations_depth ds

  pub bare_enum_depth : (x : EnumSpec) → enum_depth (bare_enum x) ≡ enum_depth x
  bare_enum_depth (enum_spec tag cs p) = bare_constants_depth cs

  pub bare_constants_depth : (x : Constants) → constants_depth (bare_constants x) ≡ constants_depth x
  bare_constants_depth no_constants = refl
  bare_constants_depth (some_constants es) = bare_enumerators_depth es

  pub bare_enumerators_depth : (x : Enumerators) → enumerators_depth (bare_enumerators x) ≡ enumerators_depth x
  bare_enumerators_depth no_enumerators = refl
  bare_enumerators_depth (next_enumerator n p value es) = ap₂ (λ u v. max u v) (bare_maybe_depth value) (bare_enumerators_depth es)

  pub bare_declarator_depth : (x : Declarator) → declarator_depth (bare_declarator x) ≡ declarator_depth x
  bare_declarator_depth (declarator f p) = ap (λ u. 1 + u) (bare_declarator_form_depth f)

  pub bare_declarator_form_depth : (x : DeclaratorForm) → declarator_form_depth (bare_declarator_form x) ≡ declarator_form_depth x
  bare_declarator_form_depth absent = refl
  bare_declarator_form_depth (declared n) = refl
  bare_declarator_form_depth (group d) = bare_declarator_depth d
  bare_declarator_form_depth (pointer qs d) = bare_declarator_depth d
  bare_declarator_form_depth (array d e) = ap₂ (λ u v. max u v) (bare_declarator_depth d) (bare_maybe_depth e)
  bare_declarator_form_depth (function d ps dots) = ap₂ (λ u v. max u v) (bare_declarator_depth d) (bare_params_depth ps)

  pub bare_param_depth : (x : Param) → param_depth (bare_param x) ≡ param_depth x
  bare_param_depth (param ss d) = ap₂ (λ u v. max u v) (bare_specifiers_depth ss) (bare_declarator_depth d)

  pub bare_params_depth : (x : Params) → params_depth (bare_params x) ≡ params_depth x
  bare_params_depth no_params = refl
  bare_params_depth (next_param p ps) = ap₂ (λ u v. max u v) (bare_param_depth p) (bare_params_depth ps)

  pub bare_type_name_depth : (x : TypeName) → type_name_depth (bare_type_name x) ≡ type_name_depth x
  bare_type_name_depth (type_name ss d) = ap₂ (λ u v. max u v) (bare_specifiers_depth ss) (bare_declarator_depth d)

  pub bare_init_depth : (x : Init) → init_depth (bare_init x) ≡ init_depth x
  bare_init_depth (one e) = ap (λ u. 1 + u) (bare_depth e)
  bare_init_depth (list is trailing) = ap (λ u. 1 + u) (bare_inits_depth is)

  pub bare_inits_depth : (x : Inits) → inits_depth (bare_inits x) ≡ inits_depth x
  bare_inits_depth no_inits = refl
  bare_inits_depth (next_init i is) = ap₂ (λ u v. max u v) (bare_init_depth i) (bare_inits_depth is)

  pub bare_start_depth : (x : MaybeInit) → maybe_init_depth (bare_start x) ≡ maybe_init_depth x
  bare_start_depth no_init = refl
  bare_start_depth (some_init i) = bare_init_depth i

  pub bare_item_depth : (x : InitDeclarator) → item_depth (bare_item x) ≡ item_depth x
  bare_item_depth (init_declarator d start) = ap₂ (λ u v. max u v) (bare_declarator_depth d) (bare_start_depth start)

  pub bare_items_depth : (x : InitDeclarators) → items_depth (bare_items x) ≡ items_depth x
  bare_items_depth no_items = refl
  bare_items_depth (next_item i is) = ap₂ (λ u v. max u v) (bare_item_depth i) (bare_items_depth is)

  pub bare_declaration_depth : (x : Declaration) → declaration_depth (bare_declaration x) ≡ declaration_depth x
  bare_declaration_depth (declaration ss is p) = ap₂ (λ u v. max u v) (bare_specifiers_depth ss) (bare_items_depth is)

  pub bare_declarations_depth : (x : Declarations) → declarations_depth (bare_declarations x) ≡ declarations_depth x
  bare_declarations_depth no_declarations = refl
  bare_declarations_depth (next_declaration d ds) = ap₂ (λ u v. max u v) (bare_declaration_depth d) (bare_declarations_depth ds)
