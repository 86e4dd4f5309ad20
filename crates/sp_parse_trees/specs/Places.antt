-- The places in a tree: each place, mark and end is the place of its token.
--
-- `at i` is the place of the i-th token, counted from the first token of the part that is spoken of; the token behind the part is
-- counted too, since an absent declarator at its end has the place of that one.
use Rattle.std.specs.Prelude.{◌≡◌, ℕ, ◌+◌, ◌-◌, suc, zero, List, [], ◌∷◌, ◌++◌, length, map}
use Rattle.sp_tree.specs.declared.fault.Place.{Place}
use Rattle.sp_tree.specs.declared.token.Kind.{Kind}
use Rattle.sp_tree.specs.declared.token.Kind.TheVariants.{Mark}
use Rattle.sp_tree.specs.declared.token.Punct.TheVariants.{Assign}
use Rattle.sp_tree.specs.declared.token.Token.{Token}
use Rattle.sp_parse_trees.specs.Spelling.{tokens_of, maybe_tokens, specifier_tokens, specifiers_tokens, tag_tokens, declarator_tokens, param_tokens, type_name_tokens, init_tokens, item_tokens, declaration_tokens, declarations_tokens, statement_tokens, external_tokens, unit_tokens}
use Rattle.sp_parse_trees.specs.Syntax.{Expression, expression, ExpressionForm, name, number, character, text, paren, index, call, member, arrow, after, unary, sizeof_expr, sizeof_type, cast, binary, choice, assign, comma, Expressions, no_expressions, next_expression, MaybeExpression, no_expression, some_expression}
use Rattle.sp_parse_trees.specs.Syntax.{Specifier, storage, qualifier, basic, named, struct_specifier, enum_specifier, Specifiers, no_specifiers, next_specifier, StructSpec, struct_spec, Members, no_members, some_members, EnumSpec, enum_spec, Constants, no_constants, some_constants, Enumerators, no_enumerators, next_enumerator}
use Rattle.sp_parse_trees.specs.Syntax.{Declarator, declarator, DeclaratorForm, absent, declared, group, pointer, array, function, Param, param, Params, no_params, next_param, TypeName, type_name}
use Rattle.sp_parse_trees.specs.Syntax.{Init, one, list, Inits, no_inits, next_init, MaybeInit, no_init, some_init, InitDeclarator, init_declarator, InitDeclarators, no_items, next_item, Declaration, declaration, Declarations, no_declarations, next_declaration}
use Rattle.sp_parse_trees.specs.Syntax.{Statement, statement, StatementForm, label, case_label, default_label, block, empty, of, if_else, switch_on, while_loop, do_loop, for_loop, goto_name, continue_loop, break_out, return_value, MaybeStatement, no_statement, some_statement, Statements, no_statements, next_statement, External, definition, external_declaration, semicolon}

-- the places behind so many tokens
abbrev pub behind : ℕ → (ℕ → Place) → ℕ → Place
behind n at = λ i. at (n + i)

-- the places behind these tokens, and behind these and one more
abbrev pub past : List Kind → (ℕ → Place) → ℕ → Place
past ks at = behind (length ks) at

abbrev pub past_one : List Kind → (ℕ → Place) → ℕ → Place
past_one ks at = behind (length ks + 1) at

abbrev pub place_of : Expression → Place
place_of (expression f p m) = p

abbrev pub declarator_place : Declarator → Place
declarator_place (declarator f p) = p

abbrev mutual
  pub Placed : (ℕ → Place) → Expression → Type 0
  Placed at (expression f p m) = (p ≡ at 0) × PlacedForm at m f

  -- with its mark: the place of the operator, or that of the first token
  pub PlacedForm : (ℕ → Place) → Place → ExpressionForm → Type 0
  PlacedForm at m (name n) = m ≡ at 0
  PlacedForm at m (number n) = m ≡ at 0
  PlacedForm at m (character z) = m ≡ at 0
  PlacedForm at m (text ns) = m ≡ at 0
  PlacedForm at m (paren e) = (m ≡ at 0) × Placed (behind 1 at) e
  PlacedForm at m (index e i) = (m ≡ at (length (tokens_of e))) × Placed at e × Placed (past_one (tokens_of e) at) i
  PlacedForm at m (call e es) = (m ≡ at (length (tokens_of e))) × Placed at e × PlacedAll (past_one (tokens_of e) at) es
  PlacedForm at m (member e n) = (m ≡ at (length (tokens_of e))) × Placed at e
  PlacedForm at m (arrow e n) = (m ≡ at (length (tokens_of e))) × Placed at e
  PlacedForm at m (after op e) = (m ≡ at (length (tokens_of e))) × Placed at e
  PlacedForm at m (unary op e) = (m ≡ at 0) × Placed (behind 1 at) e
  PlacedForm at m (sizeof_expr e) = (m ≡ at 0) × Placed (behind 1 at) e
  PlacedForm at m (sizeof_type t) = (m ≡ at 0) × PlacedTypeName (behind 2 at) t
  PlacedForm at m (cast t e) = (m ≡ at 0) × PlacedTypeName (behind 1 at) t × Placed (past_one (type_name_tokens t) (behind 1 at)) e
  PlacedForm at m (binary op l r) = (m ≡ at (length (tokens_of l))) × Placed at l × Placed (past_one (tokens_of l) at) r
  PlacedForm at m (choice c l r) = (m ≡ at (length (tokens_of c))) × Placed at c × Placed (past_one (tokens_of c) at) l × Placed (past_one (tokens_of l) (past_one (tokens_of c) at)) r
  PlacedForm at m (assign op l r) = (m ≡ at (length (tokens_of l))) × Placed at l × Placed (past_one (tokens_of l) at) r
  PlacedForm at m (comma l r) = (m ≡ at (length (tokens_of l))) × Placed at l × Placed (past_one (tokens_of l) at) r

  pub PlacedAll : (ℕ → Place) → Expressions → Type 0
  PlacedAll at no_expressions = Unit {0}
  PlacedAll at (next_expression e es) = Placed at e × PlacedAll (past_one (tokens_of e) at) es

  pub PlacedMaybe : (ℕ → Place) → MaybeExpression → Type 0
  PlacedMaybe at no_expression = Unit {0}
  PlacedMaybe at (some_expression e) = Placed at e

  pub PlacedSpecifier : (ℕ → Place) → Specifier → Type 0
  PlacedSpecifier at (storage k) = Unit {0}
  PlacedSpecifier at (qualifier k) = Unit {0}
  PlacedSpecifier at (basic k) = Unit {0}
  PlacedSpecifier at (named n) = Unit {0}
  PlacedSpecifier at (struct_specifier s) = PlacedStruct at s
  PlacedSpecifier at (enum_specifier e) = PlacedEnum at e

  pub PlacedSpecifiers : (ℕ → Place) → Specifiers → Type 0
  PlacedSpecifiers at no_specifiers = Unit {0}
  PlacedSpecifiers at (next_specifier s ss) = PlacedSpecifier at s × PlacedSpecifiers (past (specifier_tokens s) at) ss

  pub PlacedStruct : (ℕ → Place) → StructSpec → Type 0
  PlacedStruct at (struct_spec union tag ms p) = (p ≡ at 0) × PlacedMembers (past (tag_tokens tag) (behind 1 at)) ms

  pub PlacedMembers : (ℕ → Place) → Members → Type 0
  PlacedMembers at no_members = Unit {0}
  PlacedMembers at (some_members ds) = PlacedDeclarations (behind 1 at) ds

  pub PlacedEnum : (ℕ → Place) → EnumSpec → Type 0
  PlacedEnum at (enum_spec tag cs p) = (p ≡ at 0) × PlacedConstants (past (tag_tokens tag) (behind 1 at)) cs

  pub PlacedConstants : (ℕ → Place) → Constants → Type 0
  PlacedConstants at no_constants = Unit {0}
  PlacedConstants at (some_constants es) = PlacedEnumerators (behind 1 at) es

  pub PlacedEnumerators : (ℕ → Place) → Enumerators → Type 0
  PlacedEnumerators at no_enumerators = Unit {0}
  PlacedEnumerators at (next_enumerator n p value es) = (p ≡ at 0) × PlacedMaybe (behind 2 at) value × PlacedEnumerators (past_one (maybe_tokens (Mark Assign ∷ []) value) (behind 1 at)) es

  pub PlacedDeclarator : (ℕ → Place) → Declarator → Type 0
  PlacedDeclarator at (declarator f p) = (p ≡ at 0) × PlacedDeclaratorForm at f

  pub PlacedDeclaratorForm : (ℕ → Place) → DeclaratorForm → Type 0
  PlacedDeclaratorForm at absent = Unit {0}
  PlacedDeclaratorForm at (declared n) = Unit {0}
  PlacedDeclaratorForm at (group d) = PlacedDeclarator (behind 1 at) d
  PlacedDeclaratorForm at (pointer qs d) = PlacedDeclarator (behind (1 + length qs) at) d
  PlacedDeclaratorForm at (array d e) = PlacedDeclarator at d × PlacedMaybe (past_one (declarator_tokens d) at) e
  PlacedDeclaratorForm at (function d ps dots) = PlacedDeclarator at d × PlacedParams (past_one (declarator_tokens d) at) ps

  pub PlacedParam : (ℕ → Place) → Param → Type 0
  PlacedParam at (param ss d) = PlacedSpecifiers at ss × PlacedDeclarator (past (specifiers_tokens ss) at) d

  pub PlacedParams : (ℕ → Place) → Params → Type 0
  PlacedParams at no_params = Unit {0}
  PlacedParams at (next_param p ps) = PlacedParam at p × PlacedParams (past_one (param_tokens p) at) ps

  pub PlacedTypeName : (ℕ → Place) → TypeName → Type 0
  PlacedTypeName at (type_name ss d) = PlacedSpecifiers at ss × PlacedDeclarator (past (specifiers_tokens ss) at) d

  pub PlacedInit : (ℕ → Place) → Init → Type 0
  PlacedInit at (one e) = Placed at e
  PlacedInit at (list is trailing) = PlacedInits (behind 1 at) is

  pub PlacedInits : (ℕ → Place) → Inits → Type 0
  PlacedInits at no_inits = Unit {0}
  PlacedInits at (next_init i is) = PlacedInit at i × PlacedInits (past_one (init_tokens i) at) is

  -- what begins behind the `=`
  pub PlacedStart : (ℕ → Place) → MaybeInit → Type 0
  PlacedStart at no_init = Unit {0}
  PlacedStart at (some_init i) = PlacedInit (behind 1 at) i

  pub PlacedItem : (ℕ → Place) → InitDeclarator → Type 0
  PlacedItem at (init_declarator d start) = PlacedDeclarator at d × PlacedStart (past (declarator_tokens d) at) start

  pub PlacedItems : (ℕ → Place) → InitDeclarators → Type 0
  PlacedItems at no_items = Unit {0}
  PlacedItems at (next_item i is) = PlacedItem at i × PlacedItems (past_one (item_tokens i) at) is

  pub PlacedDeclaration : (ℕ → Place) → Declaration → Type 0
  PlacedDeclaration at (declaration ss is p) = (p ≡ at 0) × PlacedSpecifiers at ss × PlacedItems (past (specifiers_tokens ss) at) is

  pub PlacedDeclarations : (ℕ → Place) → Declarations → Type 0
  PlacedDeclarations at no_declarations = Unit {0}
  PlacedDeclarations at (next_declaration d ds) = PlacedDeclaration at d × PlacedDeclarations (past (declaration_tokens d) at) ds

abbrev mutual
  -- the end is the place of the last token
  pub PlacedStatement : (ℕ → Place) → Statement → Type 0
  PlacedStatement at (statement f p end) = (p ≡ at 0) × (end ≡ at (length (statement_tokens (statement f p end)) - 1)) × PlacedStatementForm at f

  pub PlacedStatementForm : (ℕ → Place) → StatementForm → Type 0
  PlacedStatementForm at (label n s) = PlacedStatement (behind 2 at) s
  PlacedStatementForm at (case_label e s) = Placed (behind 1 at) e × PlacedStatement (past_one (tokens_of e) (behind 1 at)) s
  PlacedStatementForm at (default_label s) = PlacedStatement (behind 2 at) s
  PlacedStatementForm at (block ds ss) = PlacedDeclarations (behind 1 at) ds × PlacedStatements (past (declarations_tokens ds) (behind 1 at)) ss
  PlacedStatementForm at empty = Unit {0}
  PlacedStatementForm at (of e) = Placed at e
  PlacedStatementForm at (if_else e s other) = Placed (behind 2 at) e × PlacedStatement (past_one (tokens_of e) (behind 2 at)) s × PlacedElse (past (statement_tokens s) (past_one (tokens_of e) (behind 2 at))) other
  PlacedStatementForm at (switch_on e s) = Placed (behind 2 at) e × PlacedStatement (past_one (tokens_of e) (behind 2 at)) s
  PlacedStatementForm at (while_loop e s) = Placed (behind 2 at) e × PlacedStatement (past_one (tokens_of e) (behind 2 at)) s
  PlacedStatementForm at (do_loop s e) = PlacedStatement (behind 1 at) s × Placed (behind 2 (past (statement_tokens s) (behind 1 at))) e
  PlacedStatementForm at (for_loop a b c s) = PlacedMaybe (behind 2 at) a × PlacedMaybe (past_one (maybe_tokens [] a) (behind 2 at)) b × PlacedMaybe (past_one (maybe_tokens [] b) (past_one (maybe_tokens [] a) (behind 2 at))) c × PlacedStatement (past_one (maybe_tokens [] c) (past_one (maybe_tokens [] b) (past_one (maybe_tokens [] a) (behind 2 at)))) s
  PlacedStatementForm at (goto_name n) = Unit {0}
  PlacedStatementForm at continue_loop = Unit {0}
  PlacedStatementForm at break_out = Unit {0}
  PlacedStatementForm at (return_value e) = PlacedMaybe (behind 1 at) e

  pub PlacedElse : (ℕ → Place) → MaybeStatement → Type 0
  PlacedElse at no_statement = Unit {0}
  PlacedElse at (some_statement s) = PlacedStatement (behind 1 at) s

  pub PlacedStatements : (ℕ → Place) → Statements → Type 0
  PlacedStatements at no_statements = Unit {0}
  PlacedStatements at (next_statement s ss) = PlacedStatement at s × PlacedStatements (past (statement_tokens s) at) ss

abbrev pub PlacedExternal : (ℕ → Place) → External → Type 0
PlacedExternal at (definition ss d s) = PlacedSpecifiers at ss × PlacedDeclarator (past (specifiers_tokens ss) at) d × PlacedStatement (past (declarator_tokens d) (past (specifiers_tokens ss) at)) s
PlacedExternal at (external_declaration d) = PlacedDeclaration at d
PlacedExternal at semicolon = Unit {0}

abbrev pub PlacedUnit : (ℕ → Place) → List External → Type 0
PlacedUnit at [] = Unit {0}
PlacedUnit at (e ∷ es) = PlacedExternal at e × PlacedUnit (past (external_tokens e) at) es

-- ---- a tree and a list of tokens

-- the place of a token of a list; no place of a text where the list has none
abbrev pub place_at : List Token → ℕ → Place
place_at [] i = record { name = 0; line = 0; column = 0 }
place_at (t ∷ ts) zero = t.place
place_at (t ∷ ts) (suc i) = place_at ts i

-- These kinds are those of the tokens at the front of the list, and the rest is left.
pub record Spells (tokens : List Token) (kinds : List Kind) (rest : List Token) : Type 0 where
  pub front : List Token
  pub whole : tokens ≡ front ++ rest
  pub kinds_of : map (λ t. t.kind) front ≡ kinds

-- The tokens begin with those of the expression, each place in it is that of its token, and these tokens are left.
abbrev pub SpellsExpression : List Token → Expression → List Token → Type 0
SpellsExpression tokens e rest = Spells tokens (tokens_of e) rest × Placed (place_at tokens) e

abbrev pub SpellsTypeName : List Token → TypeName → List Token → Type 0
SpellsTypeName tokens t rest = Spells tokens (type_name_tokens t) rest × PlacedTypeName (place_at tokens) t

abbrev pub SpellsSpecifiers : List Token → Specifiers → List Token → Type 0
SpellsSpecifiers tokens ss rest = Spells tokens (specifiers_tokens ss) rest × PlacedSpecifiers (place_at tokens) ss

abbrev pub SpellsDeclarator : List Token → Declarator → List Token → Type 0
SpellsDeclarator tokens d rest = Spells tokens (declarator_tokens d) rest × PlacedDeclarator (place_at tokens) d

abbrev pub SpellsStatement : List Token → Statement → List Token → Type 0
SpellsStatement tokens s rest = Spells tokens (statement_tokens s) rest × PlacedStatement (place_at tokens) s

abbrev pub SpellsUnit : List Token → List External → List Token → Type 0
SpellsUnit tokens es rest = Spells tokens (unit_tokens es) rest × PlacedUnit (place_at tokens) es
