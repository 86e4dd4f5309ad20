-- A tree whose places are those of its tokens is its bare tree with each place put back.
use Rattle.std.proofs.Common.{◌≡◌, ℕ, ◌+◌, [], ◌∷◌, length, refl, sym, ap, ap₂, ◌∙◌}
use Rattle.sp_tree.specs.declared.fault.Place.{Place}
use Rattle.sp_tree.specs.declared.token.Kind.TheVariants.{Mark}
use Rattle.sp_tree.specs.declared.token.Punct.TheVariants.{Assign}
use Rattle.sp_parse_trees.specs.Spelling.{tokens_of, maybe_tokens, specifier_tokens, specifiers_tokens, tag_tokens, declarator_tokens, param_tokens, type_name_tokens, init_tokens, item_tokens, declaration_tokens}
use Rattle.sp_parse_trees.specs.Places.{behind, past, past_one, Placed, PlacedForm, PlacedAll, PlacedMaybe, PlacedSpecifier, PlacedSpecifiers, PlacedStruct, PlacedMembers, PlacedEnum, PlacedConstants, PlacedEnumerators, PlacedDeclarator, PlacedDeclaratorForm, PlacedParam, PlacedParams, PlacedTypeName, PlacedInit, PlacedInits, PlacedStart, PlacedItem, PlacedItems, PlacedDeclaration, PlacedDeclarations}
use Rattle.sp_parse_trees.specs.Syntax.{Expression, expression, ExpressionForm, name, number, character, text, paren, index, call, member, arrow, after, unary, sizeof_expr, sizeof_type, cast, binary, choice, assign, comma, Expressions, no_expressions, next_expression, MaybeExpression, no_expression, some_expression}
use Rattle.sp_parse_trees.specs.Syntax.{Specifier, storage, qualifier, basic, named, struct_specifier, enum_specifier, Specifiers, no_specifiers, next_specifier, StructSpec, struct_spec, Members, no_members, some_members, EnumSpec, enum_spec, Constants, no_constants, some_constants, Enumerators, no_enumerators, next_enumerator}
use Rattle.sp_parse_trees.specs.Syntax.{Declarator, declarator, DeclaratorForm, absent, declared, group, pointer, array, function, Param, param, Params, no_params, next_param, TypeName, type_name}
use Rattle.sp_parse_trees.specs.Syntax.{Init, one, list, Inits, no_inits, next_init, MaybeInit, no_init, some_init, InitDeclarator, init_declarator, InitDeclarators, no_items, next_item, Declaration, declaration, Declarations, no_declarations, next_declaration}
use Rattle.sp_parse_laws.specs.Bare.{bare, bare_form, bare_expressions, bare_maybe, bare_specifier, bare_specifiers, bare_struct, bare_members, bare_enum, bare_constants, bare_enumerators, bare_declarator, bare_declarator_form, bare_param, bare_params, bare_type_name, bare_init, bare_inits, bare_start, bare_item, bare_items, bare_declaration, bare_declarations}
use Rattle.sp_parse_laws.proofs.BareTrees.{ap₃, bare_tokens, bare_maybe_tokens, bare_specifier_tokens, bare_specifiers_tokens, bare_declarator_tokens, bare_param_tokens, bare_type_name_tokens, bare_init_tokens, bare_item_tokens, bare_declaration_tokens}

-- the mark of an expression of this form
abbrev pub mark_at : (ℕ → Place) → ExpressionForm → Place
mark_at at (name n) = at 0
mark_at at (number n) = at 0
mark_at at (character z) = at 0
mark_at at (text ns) = at 0
mark_at at (paren e) = at 0
mark_at at (index e i) = at (length (tokens_of e))
mark_at at (call e es) = at (length (tokens_of e))
mark_at at (member e n) = at (length (tokens_of e))
mark_at at (arrow e n) = at (length (tokens_of e))
mark_at at (after op e) = at (length (tokens_of e))
mark_at at (unary op e) = at 0
mark_at at (sizeof_expr e) = at 0
mark_at at (sizeof_type t) = at 0
mark_at at (cast t e) = at 0
mark_at at (binary op l r) = at (length (tokens_of l))
mark_at at (choice c l r) = at (length (tokens_of c))
mark_at at (assign op l r) = at (length (tokens_of l))
mark_at at (comma l r) = at (length (tokens_of l))

-- the places put back
abbrev mutual
  pub put : (ℕ → Place) → Expression → Expression
  put at (expression f p m) = expression (put_form at f) (at 0) (mark_at at f)

  pub put_form : (ℕ → Place) → ExpressionForm → ExpressionForm
  put_form at (name n) = name n
  put_form at (number n) = number n
  put_form at (character z) = character z
  put_form at (text ns) = text ns
  put_form at (paren e) = paren (put (behind 1 at) e)
  put_form at (index e i) = index (put at e) (put (past_one (tokens_of e) at) i)
  put_form at (call e es) = call (put at e) (put_expressions (past_one (tokens_of e) at) es)
  put_form at (member e n) = member (put at e) n
  put_form at (arrow e n) = arrow (put at e) n
  put_form at (after op e) = after op (put at e)
  put_form at (unary op e) = unary op (put (behind 1 at) e)
  put_form at (sizeof_expr e) = sizeof_expr (put (behind 1 at) e)
  put_form at (sizeof_type t) = sizeof_type (put_type_name (behind 2 at) t)
  put_form at (cast t e) = cast (put_type_name (behind 1 at) t) (put (past_one (type_name_tokens t) (behind 1 at)) e)
  put_form at (binary op l r) = binary op (put at l) (put (past_one (tokens_of l) at) r)
  put_form at (choice c l r) = choice (put at c) (put (past_one (tokens_of c) at) l) (put (past_one (tokens_of l) (past_one (tokens_of c) at)) r)
  put_form at (assign op l r) = assign op (put at l) (put (past_one (tokens_of l) at) r)
  put_form at (comma l r) = comma (put at l) (put (past_one (tokens_of l) at) r)

  pub put_expressions : (ℕ → Place) → Expressions → Expressions
  put_expressions at no_expressions = no_expressions
  put_expressions at (next_expression e es) = next_expression (put at e) (put_expressions (past_one (tokens_of e) at) es)

  pub put_maybe : (ℕ → Place) → MaybeExpression → MaybeExpression
  put_maybe at no_expression = no_expression
  put_maybe at (some_expression e) = some_expression (put at e)

  pub put_specifier : (ℕ → Place) → Specifier → Specifier
  put_specifier at (storage k) = storage k
  put_specifier at (qualifier k) = qualifier k
  put_specifier at (basic k) = basic k
  put_specifier at (named n) = named n
  put_specifier at (struct_specifier s) = struct_specifier (put_struct at s)
  put_specifier at (enum_specifier e) = enum_specifier (put_enum at e)

  pub put_specifiers : (ℕ → Place) → Specifiers → Specifiers
  put_specifiers at no_specifiers = no_specifiers
  put_specifiers at (next_specifier s ss) = next_specifier (put_specifier at s) (put_specifiers (past (specifier_tokens s) at) ss)

  pub put_struct : (ℕ → Place) → StructSpec → StructSpec
  put_struct at (struct_spec union tag ms p) = struct_spec union tag (put_members (past (tag_tokens tag) (behind 1 at)) ms) (at 0)

  pub put_members : (ℕ → Place) → Members → Members
  put_members at no_members = no_members
  put_members at (some_members ds) = some_members (put_declarations (behind 1 at) ds)

  pub put_enum : (ℕ → Place) → EnumSpec → EnumSpec
  put_enum at (enum_spec tag cs p) = enum_spec tag (put_constants (past (tag_tokens tag) (behind 1 at)) cs) (at 0)

  pub put_constants : (ℕ → Place) → Constants → Constants
  put_constants at no_constants = no_constants
  put_constants at (some_constants es) = some_constants (put_enumerators (behind 1 at) es)

  pub put_enumerators : (ℕ → Place) → Enumerators → Enumerators
  put_enumerators at no_enumerators = no_enumerators
  put_enumerators at (next_enumerator n p value es) = next_enumerator n (at 0) (put_maybe (behind 2 at) value) (put_enumerators (past_one (maybe_tokens (Mark Assign ∷ []) value) (behind 1 at)) es)

  pub put_declarator : (ℕ → Place) → Declarator → Declarator
  put_declarator at (declarator f p) = declarator (put_declarator_form at f) (at 0)

  pub put_declarator_form : (ℕ → Place) → DeclaratorForm → DeclaratorForm
  put_declarator_form at absent = absent
  put_declarator_form at (declared n) = declared n
  put_declarator_form at (group d) = group (put_declarator (behind 1 at) d)
  put_declarator_form at (pointer qs d) = pointer qs (put_declarator (behind (1 + length qs) at) d)
  put_declarator_form at (array d e) = array (put_declarator at d) (put_maybe (past_one (declarator_tokens d) at) e)
  put_declarator_form at (function d ps dots) = function (put_declarator at d) (put_params (past_one (declarator_tokens d) at) ps) dots

  pub put_param : (ℕ → Place) → Param → Param
  put_param at (param ss d) = param (put_specifiers at ss) (put_declarator (past (specifiers_tokens ss) at) d)

  pub put_params : (ℕ → Place) → Params → Params
  put_params at no_params = no_params
  put_params at (next_param p ps) = next_param (put_param at p) (put_params (past_one (param_tokens p) at) ps)

  pub put_type_name : (ℕ → Place) → TypeName → TypeName
  put_type_name at (type_name ss d) = type_name (put_specifiers at ss) (put_declarator (past (specifiers_tokens ss) at) d)

  pub put_init : (ℕ → Place) → Init → Init
  put_init at (one e) = one (put at e)
  put_init at (list is trailing) = list (put_inits (behind 1 at) is) trailing

  pub put_inits : (ℕ → Place) → Inits → Inits
  put_inits at no_inits = no_inits
  put_inits at (next_init i is) = next_init (put_init at i) (put_inits (past_one (init_tokens i) at) is)

  pub put_start : (ℕ → Place) → MaybeInit → MaybeInit
  put_start at no_init = no_init
  put_start at (some_init i) = some_init (put_init (behind 1 at) i)

  pub put_item : (ℕ → Place) → InitDeclarator → InitDeclarator
  put_item at (init_declarator d start) = init_declarator (put_declarator at d) (put_start (past (declarator_tokens d) at) start)

  pub put_items : (ℕ → Place) → InitDeclarators → InitDeclarators
  put_items at no_items = no_items
  put_items at (next_item i is) = next_item (put_item at i) (put_items (past_one (item_tokens i) at) is)

  pub put_declaration : (ℕ → Place) → Declaration → Declaration
  put_declaration at (declaration ss is p) = declaration (put_specifiers at ss) (put_items (past (specifiers_tokens ss) at) is) (at 0)

  pub put_declarations : (ℕ → Place) → Declarations → Declarations
  put_declarations at no_declarations = no_declarations
  put_declarations at (next_declaration d ds) = next_declaration (put_declaration at d) (put_declarations (past (declaration_tokens d) at) ds)

mutual
  pub restored : (at : ℕ → Place) (x : Expression) → Placed at x → put at (bare x) ≡ x
  restored at (expression f p m) h = let r = restored_form at m f h.1 in ap₃ (λ u v w. expression u v w) r.0 (sym h.0) r.1

  pub restored_form : (at : ℕ → Place) (m : Place) (x : ExpressionForm) → PlacedForm at m x → (put_form at (bare_form x) ≡ x) × (mark_at at (bare_form x) ≡ m)
  restored_form at m (name n) h = (refl, sym h)
  restored_form at m (number n) h = (refl, sym h)
  restored_form at m (character z) h = (refl, sym h)
  restored_form at m (text ns) h = (refl, sym h)
  restored_form at m (paren e) h = (ap (λ u. paren u) (restored (behind 1 at) e h.1), sym h.0)
  restored_form at m (index e i) h = (ap₂ (λ u v. index u v) (restored at e h.1) (ap (λ u. put (past_one u at) (bare i)) (bare_tokens e) ∙ restored (past_one (tokens_of e) at) i h.2), ap (λ u. at (length u)) (bare_tokens e) ∙ sym h.0)
  restored_form at m (call e es) h = (ap₂ (λ u v. call u v) (restored at e h.1) (ap (λ u. put_expressions (past_one u at) (bare_expressions es)) (bare_tokens e) ∙ restored_expressions (past_one (tokens_of e) at) es h.2), ap (λ u. at (length u)) (bare_tokens e) ∙ sym h.0)
  restored_form at m (member e n) h = (ap (λ u. member u n) (restored at e h.1), ap (λ u. at (length u)) (bare_tokens e) ∙ sym h.0)
  restored_form at m (arrow e n) h = (ap (λ u. arrow u n) (restored at e h.1), ap (λ u. at (length u)) (bare_tokens e) ∙ sym h.0)
  restored_form at m (after op e) h = (ap (λ u. after op u) (restored at e h.1), ap (λ u. at (length u)) (bare_tokens e) ∙ sym h.0)
  restored_form at m (unary op e) h = (ap (λ u. unary op u) (restored (behind 1 at) e h.1), sym h.0)
  restored_form at m (sizeof_expr e) h = (ap (λ u. sizeof_expr u) (restored (behind 1 at) e h.1), sym h.0)
  restored_form at m (sizeof_type t) h = (ap (λ u. sizeof_type u) (restored_type_name (behind 2 at) t h.1), sym h.0)
  restored_form at m (cast t e) h = (ap₂ (λ u v. cast u v) (restored_type_name (behind 1 at) t h.1) (ap (λ u. put (past_one u (behind 1 at)) (bare e)) (bare_type_name_tokens t) ∙ restored (past_one (type_name_tokens t) (behind 1 at)) e h.2), sym h.0)
  restored_form at m (binary op l r) h = (ap₂ (λ u v. binary op u v) (restored at l h.1) (ap (λ u. put (past_one u at) (bare r)) (bare_tokens l) ∙ restored (past_one (tokens_of l) at) r h.2), ap (λ u. at (length u)) (bare_tokens l) ∙ sym h.0)
  restored_form at m (choice c l r) h = (ap₃ (λ u v w. choice u v w) (restored at c h.1) (ap (λ u. put (past_one u at) (bare l)) (bare_tokens c) ∙ restored (past_one (tokens_of c) at) l h.2) (ap₂ (λ u v. put (past_one u (past_one v at)) (bare r)) (bare_tokens l) (bare_tokens c) ∙ restored (past_one (tokens_of l) (past_one (tokens_of c) at)) r h.3), ap (λ u. at (length u)) (bare_tokens c) ∙ sym h.0)
  restored_form at m (assign op l r) h = (ap₂ (λ u v. assign op u v) (restored at l h.1) (ap (λ u. put (past_one u at) (bare r)) (bare_tokens l) ∙ restored (past_one (tokens_of l) at) r h.2), ap (λ u. at (length u)) (bare_tokens l) ∙ sym h.0)
  restored_form at m (comma l r) h = (ap₂ (λ u v. comma u v) (restored at l h.1) (ap (λ u. put (past_one u at) (bare r)) (bare_tokens l) ∙ restored (past_one (tokens_of l) at) r h.2), ap (λ u. at (length u)) (bare_tokens l) ∙ sym h.0)

  pub restored_expressions : (at : ℕ → Place) (x : Expressions) → PlacedAll at x → put_expressions at (bare_expressions x) ≡ x
  restored_expressions at no_expressions h = refl
  restored_expressions at (next_expression e es) h = ap₂ (λ u v. next_expression u v) (restored at e h.0) (ap (λ u. put_expressions (past_one u at) (bare_expressions es)) (bare_tokens e) ∙ restored_expressions (past_one (tokens_of e) at) es h.1)

  pub restored_maybe : (at : ℕ → Place) (x : MaybeExpression) → PlacedMaybe at x → put_maybe at (bare_maybe x) ≡ x
  restored_maybe at no_expression h = refl
  restored_maybe at (some_expression e) h = ap (λ u. some_expression u) (restored at e h)

  pub restored_specifier : (at : ℕ → Place) (x : Specifier) → PlacedSpecifier at x → put_specifier at (bare_specifier x) ≡ x
  restored_specifier at (storage k) h = refl
  restored_specifier at (qualifier k) h = refl
  restored_specifier at (basic k) h = refl
  restored_specifier at (named n) h = refl
  restored_specifier at (struct_specifier s) h = ap (λ u. struct_specifier u) (restored_struct at s h)
  restored_specifier at (enum_specifier e) h = ap (λ u. enum_specifier u) (restored_enum at e h)

  pub restored_specifiers : (at : ℕ → Place) (x : Specifiers) → PlacedSpecifiers at x → put_specifiers at (bare_specifiers x) ≡ x
  restored_specifiers at no_specifiers h = refl
  restored_specifiers at (next_specifier s ss) h = ap₂ (λ u v. next_specifier u v) (restored_specifier at s h.0) (ap (λ u. put_specifiers (past u at) (bare_specifiers ss)) (bare_specifier_tokens s) ∙ restored_specifiers (past (specifier_tokens s) at) ss h.1)

  pub restored_struct : (at : ℕ → Place) (x : StructSpec) → PlacedStruct at x → put_struct at (bare_struct x) ≡ x
  restored_struct at (struct_spec union tag ms p) h = ap₂ (λ u v. struct_spec union tag u v) (restored_members (past (tag_tokens tag) (behind 1 at)) ms h.1) (sym h.0)

  pub restored_members : (at : ℕ → Place) (x : Members) → PlacedMembers at x → put_members at (bare_members x) ≡ x
  restored_members at no_members h = refl
  restored_members at (some_members ds) h = ap (λ u. some_members u) (restored_declarations (behind 1 at) ds h)

  pub restored_enum : (at : ℕ → Place) (x : EnumSpec) → PlacedEnum at x → put_enum at (bare_enum x) ≡ x
  restored_enum at (enum_spec tag cs p) h = ap₂ (λ u v. enum_spec tag u v) (restored_constants (past (tag_tokens tag) (behind 1 at)) cs h.1) (sym h.0)

  pub restored_constants : (at : ℕ → Place) (x : Constants) → PlacedConstants at x → put_constants at (bare_constants x) ≡ x
  restored_constants at no_constants h = refl
  restored_constants at (some_constants es) h = ap (λ u. some_constants u) (restored_enumerators (behind 1 at) es h)

  pub restored_enumerators : (at : ℕ → Place) (x : Enumerators) → PlacedEnumerators at x → put_enumerators at (bare_enumerators x) ≡ x
  restored_enumerators at no_enumerators h = refl
  restored_enumerators at (next_enumerator n p value es) h = ap₃ (λ u v w. next_enumerator n u v w) (sym h.0) (restored_maybe (behind 2 at) value h.1) (ap (λ u. put_enumerators (past_one u (behind 1 at)) (bare_enumerators es)) (bare_maybe_tokens (Mark Assign ∷ []) value) ∙ restored_enumerators (past_one (maybe_tokens (Mark Assign ∷ []) value) (behind 1 at)) es h.2)

  pub restored_declarator : (at : ℕ → Place) (x : Declarator) → PlacedDeclarator at x → put_declarator at (bare_declarator x) ≡ x
  restored_declarator at (declarator f p) h = ap₂ (λ u v. declarator u v) (restored_declarator_form at f h.1) (sym h.0)

  pub restored_declarator_form : (at : ℕ → Place) (x : DeclaratorForm) → PlacedDeclaratorForm at x → put_declarator_form at (bare_declarator_form x) ≡ x
  restored_declarator_form at absent h = refl
  restored_declarator_form at (declared n) h = refl
  restored_declarator_form at (group d) h = ap (λ u. group u) (restored_declarator (behind 1 at) d h)
  restored_declarator_form at (pointer qs d) h = ap (λ u. pointer qs u) (restored_declarator (behind (1 + length qs) at) d h)
  restored_declarator_form at (array d e) h = ap₂ (λ u v. array u v) (restored_declarator at d h.0) (ap (λ u. put_maybe (past_one u at) (bare_maybe e)) (bare_declarator_tokens d) ∙ restored_maybe (past_one (declarator_tokens d) at) e h.1)
  restored_declarator_form at (function d ps dots) h = ap₂ (λ u v. function u v dots) (restored_declarator at d h.0) (ap (λ u. put_params (past_one u at) (bare_params ps)) (bare_declarator_tokens d) ∙ restored_params (past_one (declarator_tokens d) at) ps h.1)

  pub restored_param : (at : ℕ → Place) (x : Param) → PlacedParam at x → put_param at (bare_param x) ≡ x
  restored_param at (param ss d) h = ap₂ (λ u v. param u v) (restored_specifiers at ss h.0) (ap (λ u. put_declarator (past u at) (bare_declarator d)) (bare_specifiers_tokens ss) ∙ restored_declarator (past (specifiers_tokens ss) at) d h.1)

  pub restored_params : (at : ℕ → Place) (x : Params) → PlacedParams at x → put_params at (bare_params x) ≡ x
  restored_params at no_params h = refl
  restored_params at (next_param p ps) h = ap₂ (λ u v. next_param u v) (restored_param at p h.0) (ap (λ u. put_params (past_one u at) (bare_params ps)) (bare_param_tokens p) ∙ restored_params (past_one (param_tokens p) at) ps h.1)

  pub restored_type_name : (at : ℕ → Place) (x : TypeName) → PlacedTypeName at x → put_type_name at (bare_type_name x) ≡ x
  restored_type_name at (type_name ss d) h = ap₂ (λ u v. type_name u v) (restored_specifiers at ss h.0) (ap (λ u. put_declarator (past u at) (bare_declarator d)) (bare_specifiers_tokens ss) ∙ restored_declarator (past (specifiers_tokens ss) at) d h.1)

  pub restored_init : (at : ℕ → Place) (x : Init) → PlacedInit at x → put_init at (bare_init x) ≡ x
  restored_init at (one e) h = ap (λ u. one u) (restored at e h)
  restored_init at (list is trailing) h = ap (λ u. list u trailing) (restored_inits (behind 1 at) is h)

  pub restored_inits : (at : ℕ → Place) (x : Inits) → PlacedInits at x → put_inits at (bare_inits x) ≡ x
  restored_inits at no_inits h = refl
  restored_inits at (next_init i is) h = ap₂ (λ u v. next_init u v) (restored_init at i h.0) (ap (λ u. put_inits (past_one u at) (bare_inits is)) (bare_init_tokens i) ∙ restored_inits (past_one (init_tokens i) at) is h.1)

  pub restored_start : (at : ℕ → Place) (x : MaybeInit) → PlacedStart at x → put_start at (bare_start x) ≡ x
  restored_start at no_init h = refl
  restored_start at (some_init i) h = ap (λ u. some_init u) (restored_init (behind 1 at) i h)

  pub restored_item : (at : ℕ → Place) (x : InitDeclarator) → PlacedItem at x → put_item at (bare_item x) ≡ x
  restored_item at (init_declarator d start) h = ap₂ (λ u v. init_declarator u v) (restored_declarator at d h.0) (ap (λ u. put_start (past u at) (bare_start start)) (bare_declarator_tokens d) ∙ restored_start (past (declarator_tokens d) at) start h.1)

  pub restored_items : (at : ℕ → Place) (x : InitDeclarators) → PlacedItems at x → put_items at (bare_items x) ≡ x
  restored_items at no_items h = refl
  restored_items at (next_item i is) h = ap₂ (λ u v. next_item u v) (restored_item at i h.0) (ap (λ u. put_items (past_one u at) (bare_items is)) (bare_item_tokens i) ∙ restored_items (past_one (item_tokens i) at) is h.1)

  pub restored_declaration : (at : ℕ → Place) (x : Declaration) → PlacedDeclaration at x → put_declaration at (bare_declaration x) ≡ x
  restored_declaration at (declaration ss is p) h = ap₃ (λ u v w. declaration u v w) (restored_specifiers at ss h.1) (ap (λ u. put_items (past u at) (bare_items is)) (bare_specifiers_tokens ss) ∙ restored_items (past (specifiers_tokens ss) at) is h.2) (sym h.0)

  pub restored_declarations : (at : ℕ → Place) (x : Declarations) → PlacedDeclarations at x → put_declarations at (bare_declarations x) ≡ x
  restored_declarations at no_declarations h = refl
  restored_declarations at (next_declaration d ds) h = ap₂ (λ u v. next_declaration u v) (restored_declaration at d h.0) (ap (λ u. put_declarations (past u at) (bare_declarations ds)) (bare_declaration_tokens d) ∙ restored_declarations (past (declaration_tokens d) at) ds h.1)
