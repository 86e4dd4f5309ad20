-- A levelled tree whose tokens are in range is written as a text can have it.
use Rattle.std.proofs.Common.{eqb-true, ◌≡◌, ℕ, ◌<◌, ◌≤◌, true, List, [], ◌∷◌, ◌++◌, map, refl, arith, Bool, false, ◌||◌, ◌==◌}
use Rattle.std.specs.Prelude.{if◌then◌else◌}
use Rattle.sp_tree.specs.declared.token.Kind.{Kind}
use Rattle.sp_tree.specs.declared.token.Kind.TheVariants.{Name, Word, Mark}
use Rattle.sp_tree.specs.declared.token.Punct.TheVariants.{LeftBracket, RightBracket, LeftParenthesis, RightParenthesis, RightBrace, Dot, Arrow, Question, Colon, Semicolon, Assign, Comma}
use Rattle.sp_parse_trees.specs.Words.{binary_level}
use Rattle.sp_parse_trees.specs.Spelling.{tag_tokens, dots_tokens, tokens_of, form_tokens, expressions_tokens, maybe_tokens, specifier_tokens, specifiers_tokens, struct_tokens, members_tokens, enum_tokens, constants_tokens, enumerators_tokens, declarator_tokens, declarator_form_tokens, param_tokens, params_tokens, type_name_tokens, init_tokens, inits_tokens, maybe_init_tokens, item_tokens, items_tokens, declaration_tokens, declarations_tokens}
use Rattle.sp_parse_trees.specs.Levels.{Scope, has_items, has_declarations, IsLevelled, IsLevelledForm, AreLevelled, IsLevelledMaybe, IsLevelledSpecifier, AreLevelledSpecifiers, IsLevelledStruct, AreLevelledMembers, DeclareMembers, DeclaresMember, NameMembers, NamesMember, IsLevelledEnum, AreLevelledConstants, AreLevelledEnumerators, IsLevelledDeclarator, IsLevelledDeclaratorForm, IsLevelledParam, AreLevelledParams, IsLevelledTypeName, IsLevelledInit, AreLevelledInits, IsLevelledStart, IsLevelledItem, AreLevelledItems, IsLevelledDeclaration, AreLevelledDeclarations}
use Rattle.sp_parse_trees.specs.Syntax.{Expression, expression, ExpressionForm, Expressions, no_expressions, next_expression, MaybeExpression, no_expression, some_expression, Specifier, storage, qualifier, basic, named, struct_specifier, enum_specifier, Specifiers, no_specifiers, next_specifier, StructSpec, struct_spec, no_members, some_members, Members, EnumSpec, enum_spec, Constants, no_constants, some_constants, Enumerators, no_enumerators, next_enumerator, Init, one, list, Inits, no_inits, next_init, MaybeInit, no_init, some_init, Declaration, declaration, Declarations, no_declarations, next_declaration, InitDeclarator, init_declarator, InitDeclarators, no_items, next_item, Declarator, declarator, DeclaratorForm, absent, declared, group, Param, param, Params, no_params, next_param, TypeName, type_name}
use Rattle.sp_parse_trees.specs.Syntax as syntax
use Rattle.sp_check_written_laws.specs.Written.{IsWritten, IsWrittenForm, AreWritten, IsWrittenMaybe, IsWrittenName, IsWrittenSpecifier, AreWrittenSpecifiers, IsWrittenStruct, AreWrittenMembers, IsWrittenEnum, AreWrittenConstants, AreWrittenEnumerators, IsWrittenDeclarator, IsWrittenDeclaratorForm, IsWrittenParam, AreWrittenParams, IsWrittenInit, AreWrittenInits, IsWrittenStart, IsWrittenItem, AreWrittenItems, IsWrittenDeclaration, AreWrittenDeclarations, has_item, holds_member}
use Rattle.sp_check_written_laws.proofs.Ranges.{AreInRange, parts, three_parts}

or_left : (a b : Bool) → a ≡ true → (a || b) ≡ true
or_left true b h = refl
or_left false b h = cc

not_zero : (n : ℕ) → 0 < n → (n == 0) ≡ false
not_zero n h = by (n == 0) refl
  where
    by : (b : Bool) → (n == 0) ≡ b → b ≡ false
    by true e = absurd (let z : n ≡ 0 = eqb-true n 0 e in omega (arith, z, h))
    by false e = refl

-- ---- members

item_there : (is : InitDeclarators) → has_items is ≡ true → has_item is ≡ true
item_there no_items h = h
item_there (next_item i is) h = refl

module _ (s : Scope) where
  member_held : (ds : Declarations) → has_declarations ds ≡ true → DeclareMembers s ds
      → holds_member ds ≡ true
  member_held no_declarations h l = h
  member_held (next_declaration (declaration ss is p) ds) h l =
      or_left (has_item is) (holds_member ds) (item_there is l.0.3)

  mutual
    pub written : (e : Expression) → IsLevelled s e → AreInRange (tokens_of e) → IsWritten e
    written (expression f p m) l h = written_form f l h

    written_form : (f : ExpressionForm) → IsLevelledForm s f → AreInRange (form_tokens f)
        → IsWrittenForm f
    written_form (syntax.name n) l h = tt
    written_form (syntax.number n) l h = h.0
    written_form (syntax.character z) l h = h.0
    written_form (syntax.text ns) l h = tt
    written_form (syntax.paren e) l h =
        written e l (parts (tokens_of e) (Mark RightParenthesis ∷ []) h.1).0
    written_form (syntax.index a b) l h =
        let x = three_parts (tokens_of a) (Mark LeftBracket ∷ tokens_of b)
        (Mark RightBracket ∷ []) h in
        (written a l.1 x.0, written b l.2 x.1.1)
    written_form (syntax.call f es) l h =
        let x = three_parts (tokens_of f) (Mark LeftParenthesis ∷ expressions_tokens [] es)
        (Mark RightParenthesis ∷ []) h in
        (written f l.1 x.0, written_list [] es l.2 x.1.1)
    written_form (syntax.member e n) l h =
        written e l.1 (parts (tokens_of e) (Mark Dot ∷ Name n ∷ []) h).0
    written_form (syntax.arrow e n) l h =
        written e l.1 (parts (tokens_of e) (Mark Arrow ∷ Name n ∷ []) h).0
    written_form (syntax.after op e) l h = written e l.2 (parts (tokens_of e) (Mark op ∷ []) h).0
    written_form (syntax.unary op e) l h = (l.0, written e l.2 h.1)
    written_form (syntax.sizeof_expr e) l h = written e l.1 h.1
    written_form (syntax.sizeof_type t) l h =
        written_name t l (parts (type_name_tokens t) (Mark RightParenthesis ∷ []) h.1.1).0
    written_form (syntax.cast t e) l h =
        let x = parts (type_name_tokens t) (Mark RightParenthesis ∷ tokens_of e) h.1 in
        (written_name t l.0 x.0, written e l.2 x.1.1)
    written_form (syntax.binary op a b) l h =
        let x = parts (tokens_of a) (Mark op ∷ tokens_of b) h in
        let up : 3 ≤ binary_level op = l.0 in
        (not_zero (binary_level op) (omega (arith, up)), written a l.3 x.0, written b l.4 x.1.1)
    written_form (syntax.choice c a b) l h =
        let x = three_parts (tokens_of c) (Mark Question ∷ tokens_of a)
        (Mark Colon ∷ tokens_of b) h in
        (written c l.2 x.0, written a l.3 x.1.1, written b l.4 x.2.1)
    written_form (syntax.assign op a b) l h =
        let x = parts (tokens_of a) (Mark op ∷ tokens_of b) h in
        (written a l.3 x.0, written b l.4 x.1.1)
    written_form (syntax.comma a b) l h =
        let x = parts (tokens_of a) (Mark Comma ∷ tokens_of b) h in
        (written a l.1 x.0, written b l.2 x.1.1)

    written_list : (before : List Kind) (es : Expressions) → AreLevelled s es
        → AreInRange (expressions_tokens before es) → AreWritten es
    written_list before no_expressions l h = tt
    written_list before (next_expression e es) l h =
        let x = three_parts before (tokens_of e) (expressions_tokens (Mark Comma ∷ []) es) h in
        (written e l.1 x.1, written_list (Mark Comma ∷ []) es l.2 x.2)

    pub written_maybe : (before : List Kind) (least : ℕ) (e : MaybeExpression)
        → IsLevelledMaybe s least e → AreInRange (maybe_tokens before e) → IsWrittenMaybe e
    written_maybe before least no_expression l h = tt
    written_maybe before least (some_expression e) l h =
        written e l.1 (parts before (tokens_of e) h).1

    pub written_name : (t : TypeName) → IsLevelledTypeName s t → AreInRange (type_name_tokens t)
        → IsWrittenName t
    written_name (type_name ss d) l h =
        let x = parts (specifiers_tokens ss) (declarator_tokens d) h in
        (written_specifiers ss l.2 x.0, written_declarator d l.4 x.1)

    written_specifier : (x : Specifier) → IsLevelledSpecifier s x → AreInRange (specifier_tokens x)
        → IsWrittenSpecifier x
    written_specifier (storage k) l h = l
    written_specifier (qualifier k) l h = tt
    written_specifier (basic k) l h = tt
    written_specifier (named n) l h = tt
    written_specifier (struct_specifier x) l h = written_struct x l h
    written_specifier (enum_specifier x) l h = written_enum x l h

    pub written_specifiers : (ss : Specifiers) → AreLevelledSpecifiers s ss
        → AreInRange (specifiers_tokens ss) → AreWrittenSpecifiers ss
    written_specifiers no_specifiers l h = tt
    written_specifiers (next_specifier x ss) l h =
        let y = parts (specifier_tokens x) (specifiers_tokens ss) h in
        (written_specifier x l.0 y.0, written_specifiers ss l.1 y.1)

    written_struct : (x : StructSpec) → IsLevelledStruct s x → AreInRange (struct_tokens x)
        → IsWrittenStruct x
    written_struct (struct_spec union tag ms p) l h =
        written_members ms l.1 (parts (tag_tokens tag) (members_tokens ms) h.1).1

    written_members : (ms : Members) → AreLevelledMembers s ms → AreInRange (members_tokens ms)
        → AreWrittenMembers ms
    written_members no_members l h = tt
    written_members (some_members ds) l h = (
      member_held ds l.0 l.1,
      written_member_list ds l.1
          (parts (declarations_tokens ds) (Mark RightBrace ∷ []) h.1).0,
    )

    written_member_list : (ds : Declarations) → DeclareMembers s ds
        → AreInRange (declarations_tokens ds) → AreWrittenDeclarations ds
    written_member_list no_declarations l h = tt
    written_member_list (next_declaration d ds) l h =
        let x = parts (declaration_tokens d) (declarations_tokens ds) h in
        (written_member d l.0 x.0, written_member_list ds l.1 x.1)

    written_member : (d : Declaration) → DeclaresMember s d → AreInRange (declaration_tokens d)
        → IsWrittenDeclaration d
    written_member (declaration ss is p) l h =
        let x = three_parts (specifiers_tokens ss) (items_tokens [] is) (Mark Semicolon ∷ []) h in
        (written_specifiers ss l.2 x.0, written_named [] is l.4 x.1)

    written_named : (before : List Kind) (is : InitDeclarators) → NameMembers s is
        → AreInRange (items_tokens before is) → AreWrittenItems is
    written_named before no_items l h = tt
    written_named before (next_item i is) l h =
        let x = three_parts before (item_tokens i) (items_tokens (Mark Comma ∷ []) is) h in
        (written_named_item i l.0 x.1, written_named (Mark Comma ∷ []) is l.1 x.2)

    written_named_item : (i : InitDeclarator) → NamesMember s i → AreInRange (item_tokens i)
        → IsWrittenItem i
    written_named_item (init_declarator d no_init) l h =
        (written_declarator d l.1 (parts (declarator_tokens d) [] h).0, tt)
    written_named_item (init_declarator d (some_init i)) l h = absurd l

    written_enum : (x : EnumSpec) → IsLevelledEnum s x → AreInRange (enum_tokens x)
        → IsWrittenEnum x
    written_enum (enum_spec tag cs p) l h =
        written_constants cs l.1 (parts (tag_tokens tag) (constants_tokens cs) h.1).1

    written_constants : (cs : Constants) → AreLevelledConstants s cs
        → AreInRange (constants_tokens cs) → AreWrittenConstants cs
    written_constants no_constants l h = tt
    written_constants (some_constants es) l h =
        written_enumerators [] es l.1
        (parts (enumerators_tokens [] es) (Mark RightBrace ∷ []) h.1).0

    written_enumerators : (before : List Kind) (es : Enumerators) → AreLevelledEnumerators s es
        → AreInRange (enumerators_tokens before es) → AreWrittenEnumerators es
    written_enumerators before no_enumerators l h = tt
    written_enumerators before (next_enumerator n p value es) l h =
        let x = three_parts before (Name n ∷ maybe_tokens (Mark Assign ∷ []) value)
        (enumerators_tokens (Mark Comma ∷ []) es) h in (
          written_maybe (Mark Assign ∷ []) 2 value l.1 x.1.1,
          written_enumerators
              (Mark Comma ∷ []) es l.2 x.2,
        )

    pub written_declarator : (d : Declarator) → IsLevelledDeclarator s d
        → AreInRange (declarator_tokens d) → IsWrittenDeclarator d
    written_declarator (declarator f p) l h = written_declarator_form f l h

    written_declarator_form : (f : DeclaratorForm) → IsLevelledDeclaratorForm s f
        → AreInRange (declarator_form_tokens f) → IsWrittenDeclaratorForm f
    written_declarator_form absent l h = tt
    written_declarator_form (declared n) l h = tt
    written_declarator_form (group d) l h =
        written_declarator d l.1 (parts (declarator_tokens d) (Mark RightParenthesis ∷ []) h.1).0
    written_declarator_form (syntax.pointer qs d) l h =
        written_declarator d l.1 (parts (map (λ k. Word k) qs) (declarator_tokens d) h.1).1
    written_declarator_form (syntax.array d e) l h =
        let x = three_parts (declarator_tokens d) (Mark LeftBracket ∷ maybe_tokens [] e)
        (Mark RightBracket ∷ []) h in
        (written_declarator d l.1 x.0, written_maybe [] 2 e l.2 x.1.1)
    written_declarator_form (syntax.function d ps dots) l h =
        let x = three_parts (declarator_tokens d) (Mark LeftParenthesis ∷ params_tokens [] ps)
        (dots_tokens dots) (parts
        ((declarator_tokens d ++ Mark LeftParenthesis ∷ params_tokens [] ps) ++ dots_tokens
        dots) (Mark RightParenthesis ∷ []) h).0 in
        (written_declarator d l.1 x.0, written_params [] ps l.3 x.1.1)

    written_param : (q : Param) → IsLevelledParam s q → AreInRange (param_tokens q)
        → IsWrittenParam q
    written_param (param ss d) l h =
        let x = parts (specifiers_tokens ss) (declarator_tokens d) h in
        (written_specifiers ss l.2 x.0, written_declarator d l.3 x.1)

    written_params : (before : List Kind) (ps : Params) → AreLevelledParams s ps
        → AreInRange (params_tokens before ps) → AreWrittenParams ps
    written_params before no_params l h = tt
    written_params before (next_param q qs) l h =
        let x = three_parts before (param_tokens q) (params_tokens (Mark Comma ∷ []) qs) h in
        (written_param q l.0 x.1, written_params (Mark Comma ∷ []) qs l.1 x.2)

  -- ---- start values and declarations

  mutual
    pub written_init : (i : Init) → IsLevelledInit s i → AreInRange (init_tokens i)
        → IsWrittenInit i
    written_init (one e) l h = written e l.1 h
    written_init (list is trailing) l h =
        written_inits [] is l.1
        (three_parts (inits_tokens [] is) (if trailing then Mark Comma ∷ [] else [])
        (Mark RightBrace ∷ []) h.1).0

    written_inits : (before : List Kind) (is : Inits) → AreLevelledInits s is
        → AreInRange (inits_tokens before is) → AreWrittenInits is
    written_inits before no_inits l h = tt
    written_inits before (next_init i is) l h =
        let x = three_parts before (init_tokens i) (inits_tokens (Mark Comma ∷ []) is) h in
        (written_init i l.0 x.1, written_inits (Mark Comma ∷ []) is l.1 x.2)

  written_start : (i : MaybeInit) → IsLevelledStart s i → AreInRange (maybe_init_tokens i)
      → IsWrittenStart i
  written_start no_init l h = tt
  written_start (some_init i) l h = written_init i l h.1

  written_item : (i : InitDeclarator) → IsLevelledItem s i → AreInRange (item_tokens i)
      → IsWrittenItem i
  written_item (init_declarator d start) l h =
      let x = parts (declarator_tokens d) (maybe_init_tokens start) h in
      (written_declarator d l.1 x.0, written_start start l.2 x.1)

  written_items : (before : List Kind) (is : InitDeclarators) → AreLevelledItems s is
      → AreInRange (items_tokens before is) → AreWrittenItems is
  written_items before no_items l h = tt
  written_items before (next_item i is) l h =
      let x = three_parts before (item_tokens i) (items_tokens (Mark Comma ∷ []) is) h in
      (written_item i l.0 x.1, written_items (Mark Comma ∷ []) is l.1 x.2)

  pub written_declaration : (d : Declaration) → IsLevelledDeclaration s d
      → AreInRange (declaration_tokens d) → IsWrittenDeclaration d
  written_declaration (declaration ss is p) l h =
      let x = three_parts (specifiers_tokens ss) (items_tokens [] is) (Mark Semicolon ∷ []) h in
      (written_specifiers ss l.2 x.0, written_items [] is l.3 x.1)

  pub written_declarations : (ds : Declarations) → AreLevelledDeclarations s ds
      → AreInRange (declarations_tokens ds) → AreWrittenDeclarations ds
  written_declarations no_declarations l h = tt
  written_declarations (next_declaration d ds) l h =
      let x = parts (declaration_tokens d) (declarations_tokens ds) h in
      (written_declaration d l.0 x.0, written_declarations ds l.1 x.1)
