-- What is said of specifiers, declarators and their lists.
use Rattle.std.specs.Prelude.{◌≡◌, ℕ, ◌+◌, ◌-◌, ◌≤◌, ◌⊎◌, max, Bool, true, false, List, [], ◌∷◌, map, length, is_some, Option, None, Some, option_map, if◌then◌else◌, ⊤}
use Rattle.sp_tree.specs.declared.token.Kind.{Kind}
use Rattle.sp_tree.specs.declared.token.Kind.TheVariants as kinds
use Rattle.sp_tree.specs.declared.token.Keyword.{Keyword}
use Rattle.sp_tree.specs.declared.token.Keyword.TheVariants.{Const, Volatile}
use Rattle.sp_tree.specs.declared.token.Token.{Token}
use Rattle.sp_parse_trees.specs.declared.tree.InitDeclarator.{InitDeclarator as CodeItem, fold-InitDeclarator}
use Rattle.sp_parse_trees.specs.declared.tree.Specifier.{Specifier as CodeSpecifier}
use Rattle.sp_parse_trees.specs.declared.tree.Param.{Param as CodeParam}
use Rattle.sp_parse_trees.specs.declared.tree.Expr.{Expr as CodeExpr}
use Rattle.sp_tree.specs.declared.fault.Place.{Place}
use Rattle.sp_parse_trees.specs.Syntax.{Declarator, DeclaratorForm, Param, TypeName, Expression, ExpressionForm, Declaration, InitDeclarator, Init, Specifier, StructSpec, EnumSpec, declarator, array, function, struct_specifier, struct_spec, enum_specifier, enum_spec}
use Rattle.sp_parse_trees.specs.View.{declarator_form_step, expression_form_step, init_step, specifier_step, declaration_step, declarator_step, enum_spec_step, expression_step, init_declarator_step, param_step, struct_spec_step, type_name_step, declarator_of, param_of, specifiers_of, specifier_of, tree_of, params, declarations, maybe_expression}
use Rattle.sp_parse_trees.specs.Depth.{declarator_depth}
use Rattle.sp_parse_trees.specs.Depth as deep
use Rattle.sp_parse_trees.specs.Places.{declarator_place}
use Rattle.sp_parse_tokens.specs.declared.part.Declared.{Declared}
use Rattle.sp_parse_tokens.specs.declared.part.Parameters.{Parameters}
use Rattle.sp_parse_tokens.specs.declared.part.MemberDeclarators.{MemberDeclarators}
use Rattle.sp_parse_tokens.specs.declared.part.SpecifierList.{SpecifierList}
use Rattle.sp_parse_tokens.specs.declared.part.DeclaredShape.{DeclaredShape}
use Rattle.sp_parse_tokens.specs.declared.part.DeclaredShape.TheVariants as shapes
use Rattle.sp_parse_tokens.specs.declared.part.DeclaratorKind.{DeclaratorKind}
use Rattle.sp_parse_tokens.specs.declared.part.DeclaratorKind.TheVariants as forms
use Rattle.sp_parse_tokens.specs.declared.part.ReadError.{ReadError}
use Rattle.sp_parse_tokens.specs.declared.part.ReadError.TheVariants as stops
use Rattle.sp_parse_tokens.specs.declared.scope.Scope.{Scope}
use Rattle.sp_parse_tokens.specs.declared.scope.AlsoAllowed.TheVariants as also
use Rattle.sp_parse_tokens.specs.declared.scope.AlsoAllowed.{AlsoAllowed}
use Rattle.sp_parse_grammar.specs.CTokens as tokens
use Rattle.sp_parse_grammar.specs.CTokens.{Sort}
use Rattle.sp_parse_grammar.specs.CTable as grammar
use Rattle.sp_parse_grammar.specs.CTable.{Context, Item, ItemAnswer, at}
use Rattle.sp_parse_grammar.specs.Table.{ask, asked, Reads}
use Rattle.sp_parse_tokens.specs.Sorts.{Terminal, terminal, c_tokens}
use Rattle.sp_parse_tokens.specs.Makers.{SpecifierAt, Enumerator, settle, settle_param, settle_last, first_place, all_specifiers, place_of_first, make_word, keyword_of, is_union, some_members, some_constants, all_enumerators}
use Rattle.sp_parse_tokens.specs.SyntaxTrees.{syntax_trees, c_table}
use Rattle.sp_parse_tokens.specs.Ended.{IsEnded}
use Rattle.sp_parse_tokens.specs.Scopes.{there, allowed_seen}
use Rattle.sp_parse_expr_steps.specs.Reading.{kind_at, IsRead, IsStop, IsStep}
use Rattle.sp_parse_tokens.specs.Expecting.{IsExpected, IsUnexpected}

abbrev pub shape_seen : DeclaredShape → grammar.Shape
shape_seen shapes.Bare = grammar.bare
shape_seen shapes.Variadic = grammar.variadic
shape_seen shapes.Other = grammar.other

abbrev pub form_seen : DeclaratorKind → grammar.Form
form_seen forms.Concrete = grammar.concrete
form_seen forms.Abstract = grammar.abstract
form_seen forms.Either = grammar.either

-- ---- declarators

-- with this tree
abbrev pub declared_seen : Declared → Declarator → grammar.Declared syntax_trees
declared_seen d tree = record { tree = tree; declares = d.declares; shape = shape_seen d.shape; behind = allowed_seen d.behind }

-- A declarator is read for the ask. Where no name is declared, its tree has the place of the token behind it only now.
pub record IsDeclared (g : Context) (i : Item syntax_trees) (make : grammar.Declared syntax_trees → ItemAnswer i) (depth : ℕ) (text : List Token) (d : Declared) (reached : ℕ) (rest : List Token) : Type 0 where
  pub pending : Declarator
  pub settled : declarator_of d.tree ≡ settle (first_place rest) pending
  pub named : is_some d.declares ≡ true → pending ≡ declarator_of d.tree
  pub read : IsRead g i depth text (make (declared_seen d pending)) reached rest

-- The declarator stands before the token at this place.
pub record IsPending (d : Declared) (p : Place) : Type 0 where
  pub pending : Declarator
  pub settled : declarator_of d.tree ≡ settle p pending
  pub named : is_some d.declares ≡ true → pending ≡ declarator_of d.tree

-- One suffix was read behind a declarator, and makes this one of it.
pub record IsLengthened (g : Context) (head : grammar.Declared syntax_trees) (depth : ℕ) (text : List Token) (d : Declared) (reached : ℕ) (rest : List Token) : Type 0 where
  pub step : IsStep g (grammar.declarator_suffixes head) (grammar.declarator_suffixes (declared_seen d (declarator_of d.tree))) (λ a. a) text rest
  pub settled : (p : Place) → settle p (declarator_of d.tree) ≡ declarator_of d.tree
  pub deep : reached ≡ declarator_depth (declarator_of d.tree)
  pub shallow : reached ≤ depth
  pub ended : IsEnded rest
  pub fewer : 1 + length rest ≤ length text

-- A parameter is read; it stands before these tokens.
pub record IsGiven (g : Context) (depth : ℕ) (text : List Token) (p : CodeParam) (behind : AlsoAllowed) (reached : ℕ) (rest : List Token) : Type 0 where
  pub pending : Param
  pub settled : param_of p ≡ settle_param (first_place rest) pending
  pub read : IsRead g grammar.parameter depth text (record { tree = pending; behind = allowed_seen behind }) reached rest

-- Parameters are read; they stand before these tokens.
pub record AreGiven (g : Context) (depth : ℕ) (text : List Token) (ps : Parameters) (reached : ℕ) (rest : List Token) : Type 0 where
  pub pending : List Param
  pub settled : map param_of ps.all.items ≡ (if ps.dots then pending else settle_last (first_place rest) pending)
  pub read : IsRead g grammar.parameters depth text (record { all = pending; dots = ps.dots; behind = allowed_seen ps.behind }) reached rest

-- These parameters were read; the last stands before these tokens.
pub record ParametersSoFar (g : Context) (text : List Token) (items : List CodeParam) (behind : AlsoAllowed) (rest : List Token) : Type 0 where
  pub pending : List Param
  pub settled : map param_of items ≡ settle_last (first_place rest) pending
  pub step : IsStep g grammar.parameters (grammar.more_parameters (record { all = pending; dots = false; behind = allowed_seen behind })) (λ a. a) text rest

-- ---- specifiers

-- A list of specifiers is read. Each has its place in the grammar; in the tree the list has none.
pub record AreSpecified (g : Context) (stores : Bool) (depth : ℕ) (text : List Token) (s : SpecifierList) (reached : ℕ) (rest : List Token) : Type 0 where
  pub all : List SpecifierAt
  pub same : specifiers_of s.all.items ≡ all_specifiers all
  pub place : place_of_first all ≡ first_place text
  pub read : IsRead g (grammar.specifiers stores tokens.nothing_seen grammar.no_specifiers) depth text (record { all = all; typedefs = s.typedefs }) reached rest
  pub fewer : 1 + length rest ≤ length text

-- a specifier with the place of its first token
abbrev pub placed : CodeSpecifier → Token → SpecifierAt
placed s x = record { tree = specifier_of s; place = x.place }

-- Behind this first token the rest of one specifier is read: of a structure, of an enumeration, or nothing.
abbrev pub IsSpecifier : Context → ℕ → Sort → Token → List Token → CodeSpecifier → ℕ → List Token → Type 0
IsSpecifier g depth (tokens.mark tokens.struct) x text s reached rest = IsRead g (grammar.behind_struct (terminal x)) depth text (placed s x) reached rest
IsSpecifier g depth (tokens.mark tokens.enum) x text s reached rest = IsRead g (grammar.behind_enum (terminal x)) depth text (placed s x) reached rest
IsSpecifier g depth _ x text s reached rest = (placed s x ≡ make_word x) × (reached ≡ 0) × (rest ≡ text)

abbrev pub IsSpecifierStop : Context → ℕ → Sort → Token → List Token → ReadError → Type 0
IsSpecifierStop g depth (tokens.mark tokens.struct) x text stop = IsStop g (grammar.behind_struct (terminal x)) depth text stop
IsSpecifierStop g depth (tokens.mark tokens.enum) x text stop = IsStop g (grammar.behind_enum (terminal x)) depth text stop
IsSpecifierStop g depth _ x text stop = ⊥

-- ---- members and constants

-- a declarator with its initialiser
abbrev pub item_seen : CodeItem → InitDeclarator
item_seen = fold-InitDeclarator DeclaratorForm ExpressionForm Init Specifier Declaration Declarator EnumSpec Expression InitDeclarator Param StructSpec TypeName declarator_form_step expression_form_step init_step specifier_step declaration_step declarator_step enum_spec_step expression_step init_declarator_step param_step struct_spec_step type_name_step

-- Members' declarators are read behind the first.
pub record AreItems (g : Context) (first : Declared) (depth : ℕ) (text : List Token) (is : MemberDeclarators) (reached : ℕ) (rest : List Token) : Type 0 where
  pub names : List ℕ
  pub read : IsRead g (grammar.member_items (grammar.one_item (declared_seen first (declarator_of first.tree)) None)) depth text (record { all = map item_seen is.all.items; names = names; behind = allowed_seen is.behind }) reached rest

-- These declarators of members were read.
pub record ItemsSoFar (g : Context) (first : Declared) (text : List Token) (items : List CodeItem) (behind : AlsoAllowed) (rest : List Token) : Type 0 where
  pub names : List ℕ
  pub step : IsStep g (grammar.member_items (grammar.one_item (declared_seen first (declarator_of first.tree)) None)) (grammar.member_items (record { all = map item_seen items; names = names; behind = allowed_seen behind })) (λ a. a) text rest

-- a constant of an enumeration
abbrev pub maybe_tree : Option CodeExpr → Option Expression
maybe_tree v = option_map tree_of v

abbrev pub constant_seen : ℕ × Place × Option CodeExpr → Enumerator
constant_seen e = record { name = e.0; place = e.1; value = maybe_tree e.2 }

-- ---- parts that no ask names, since several productions hold them

abbrev pub qualifier_of : Kind → Option Keyword
qualifier_of (kinds.Word Const) = Some Const
qualifier_of (kinds.Word Volatile) = Some Volatile
qualifier_of _ = None

-- Qualifiers are read.
pub record AreQualifiers (g : Context) (text : List Token) (words : List Keyword) (rest : List Token) : Type 0 where
  pub all : List Terminal
  pub reads : Reads c_table (at g (grammar.qualifiers [])) (ask (at g (grammar.qualifiers []))) (c_tokens text) all (c_tokens rest)
  pub same : map (λ q. keyword_of q.kind) (map (λ q. q.what) all) ≡ words
  pub ended : IsEnded rest
  pub fewer : length rest ≤ length text

-- Behind a `*` qualifiers and a declarator are read, and this is the pointer's.
pub record IsPointed (g : Context) (star : Token) (f : grammar.Form) (depth : ℕ) (text : List Token) (d : Declared) (reached : ℕ) (rest : List Token) : Type 0 where
  pub all : List Terminal
  pub mid : List Token
  pub qualifiers : Reads c_table (at g (grammar.qualifiers [])) (ask (at g (grammar.qualifiers []))) (c_tokens text) all (c_tokens mid)
  pub inner : grammar.Declared syntax_trees
  pub inner_depth : ℕ
  pub read : IsRead g (grammar.declarator f) (depth - 1) mid inner inner_depth rest
  pub seen : declared_seen d (grammar.pointed (terminal star) all inner).tree ≡ grammar.pointed (terminal star) all inner
  pub settled : declarator_of d.tree ≡ settle (first_place rest) (grammar.pointed (terminal star) all inner).tree
  pub named : is_some d.declares ≡ true → (grammar.pointed (terminal star) all inner).tree ≡ declarator_of d.tree
  pub deeper : reached ≡ 1 + inner_depth
  pub fewer : length mid ≤ length text

pub record StopsBehindQualifiers (g : Context) (f : grammar.Form) (depth : ℕ) (text : List Token) (stop : ReadError) : Type 0 where
  pub all : List Terminal
  pub mid : List Token
  pub qualifiers : Reads c_table (at g (grammar.qualifiers [])) (ask (at g (grammar.qualifiers []))) (c_tokens text) all (c_tokens mid)
  pub why : IsStop g (grammar.declarator f) (depth - 1) mid stop

abbrev pub IsPointedStop : Context → grammar.Form → ℕ → List Token → ReadError → Type 0
IsPointedStop g f depth text stops.NoMemory = ⊤
IsPointedStop g f depth text stop = StopsBehindQualifiers g f depth text stop

-- Behind a `[` a length or none and the `]` are read, and this is the array of the head.
pub record IsArrayed (g : Context) (head : Declared) (depth : ℕ) (text : List Token) (d : Declared) (reached : ℕ) (rest : List Token) : Type 0 where
  pub size : Option Expression
  pub size_depth : ℕ
  pub mid : List Token
  pub read : IsRead g grammar.array_length (depth - 1) text size size_depth mid
  pub closes : IsExpected g.types tokens.unbracket mid rest
  pub makes : declarator_of d.tree ≡ declarator (array (declarator_of head.tree) (maybe_expression size)) (declarator_place (declarator_of head.tree))
  pub declares : d.declares ≡ head.declares
  pub shape : shape_seen d.shape ≡ grammar.shaped (shape_seen head.shape) grammar.other
  pub behind : allowed_seen d.behind ≡ grammar.closed (allowed_seen head.behind)
  pub deeper : reached ≡ 1 + max (declarator_depth (declarator_of head.tree)) size_depth
  pub shallow : reached ≤ depth

pub record StopsAtUnbracket (g : Context) (scope : Scope) (depth : ℕ) (text : List Token) (stop : ReadError) : Type 0 where
  pub size : Option Expression
  pub size_depth : ℕ
  pub mid : List Token
  pub read : IsRead g grammar.array_length depth text size size_depth mid
  pub also_allowed : AlsoAllowed
  pub wanted : allowed_seen also_allowed ≡ grammar.if_missing size
  pub why : IsUnexpected g.types scope tokens.unbracket also_allowed mid stop

abbrev pub IsArrayStop : Context → Scope → ℕ → List Token → ReadError → Type 0
IsArrayStop g scope depth text stops.NoMemory = ⊤
IsArrayStop g scope depth text stop = IsStop g grammar.array_length (depth - 1) text stop ⊎ StopsAtUnbracket g scope (depth - 1) text stop

-- the name that the token is, where a declarator of the form may begin with one
abbrev pub head_name : grammar.Form → Sort → Option ℕ
head_name grammar.concrete (tokens.name n) = Some n
head_name grammar.either (tokens.name n) = Some n
head_name _ _ = None

-- The fault at the first token, where no declarator begins that isn't absent.
abbrev pub IsGroupFault : List ℕ → Scope → grammar.Form → List Token → ReadError → Type 0
IsGroupFault types scope f text (stops.Fault kind rest) = (rest.now ≡ text) × (kind ≡ kind_at (asked (at (there types scope) (grammar.group f))) text)
IsGroupFault types scope f text _ = ⊥

-- the token begins a declarator in parentheses that holds another
abbrev pub begins_deeper : grammar.Form → Sort → Bool
begins_deeper f (tokens.mark tokens.star) = true
begins_deeper f (tokens.mark tokens.opening) = true
begins_deeper grammar.abstract (tokens.mark tokens.bracket) = true
begins_deeper grammar.either (tokens.mark tokens.bracket) = true
begins_deeper _ _ = false

-- the token begins an array of an absent declarator
abbrev pub begins_array : grammar.Form → Sort → Bool
begins_array grammar.abstract (tokens.mark tokens.bracket) = true
begins_array grammar.either (tokens.mark tokens.bracket) = true
begins_array _ _ = false

-- what might stand where a specifier of a type is wanted: whether storage classes may, and whether no specifier was read
abbrev pub typeless : Bool → Bool → AlsoAllowed
typeless true true = also.Parameter
typeless _ _ = also.TypeSpecifier

-- the token goes on with a declarator
abbrev pub begins_part : Sort → Bool
begins_part (tokens.mark tokens.bracket) = true
begins_part (tokens.mark tokens.opening) = true
begins_part _ = false

-- The declarator of a function with these parameters.
pub record IsFunction (head : Declared) (ps : Parameters) (d : Declared) : Type 0 where
  pub tree : declarator_of d.tree ≡ declarator (function (declarator_of head.tree) (params (map param_of ps.all.items)) ps.dots) (declarator_place (declarator_of head.tree))
  pub declares : d.declares ≡ head.declares
  pub shape : shape_seen d.shape ≡ grammar.shaped (shape_seen head.shape) (grammar.of_parameters ps.dots)
  pub behind : allowed_seen d.behind ≡ grammar.behind_parameters (allowed_seen head.behind) ps.dots

-- The array of a declarator, with this length or none.
pub record IsArray (head : Declared) (length : Option Expression) (d : Declared) : Type 0 where
  pub tree : declarator_of d.tree ≡ declarator (array (declarator_of head.tree) (maybe_expression length)) (declarator_place (declarator_of head.tree))
  pub declares : d.declares ≡ head.declares
  pub shape : shape_seen d.shape ≡ grammar.shaped (shape_seen head.shape) grammar.other
  pub behind : allowed_seen d.behind ≡ grammar.closed (allowed_seen head.behind)

-- Behind the `{` of a structure its members and the `}` are read, and this is the structure. The
-- context is that around the structure; its `in_structure` is that of the members.
pub record IsBody (g : Context) (word : Token) (tag : Option ℕ) (depth : ℕ) (text : List Token) (s : CodeSpecifier) (reached : ℕ) (rest : List Token) : Type 0 where
  pub first : Declaration
  pub mid : List Token
  pub one : Reads c_table (at (grammar.in_structure g) grammar.member) (ask (at (grammar.in_structure g) grammar.member)) (c_tokens text) first (c_tokens mid)
  pub all : List Declaration
  pub last : List Token
  pub more : Reads c_table (at (grammar.in_structure g) (grammar.members (first ∷ []))) (ask (at (grammar.in_structure g) (grammar.members (first ∷ [])))) (c_tokens mid) all (c_tokens last)
  pub closes : IsExpected g.types tokens.unbrace last rest
  pub makes : specifier_of s ≡ struct_specifier (struct_spec (is_union word.kind) tag (some_members (Some all)) word.place)
  pub deeper : reached ≡ 1 + deep.declarations_depth (declarations all)
  pub shallow : reached ≤ depth
  pub fewer : 1 + length rest ≤ length text

pub record StopsInBody (g : Context) (scope : Scope) (depth : ℕ) (text : List Token) (stop : ReadError) : Type 0 where
  pub first : Declaration
  pub mid : List Token
  pub one : Reads c_table (at (grammar.in_structure g) grammar.member) (ask (at (grammar.in_structure g) grammar.member)) (c_tokens text) first (c_tokens mid)
  pub why : IsStop (grammar.in_structure g) (grammar.members (first ∷ [])) depth mid stop

pub record StopsAtBrace (g : Context) (scope : Scope) (text : List Token) (stop : ReadError) : Type 0 where
  pub first : Declaration
  pub mid : List Token
  pub one : Reads c_table (at (grammar.in_structure g) grammar.member) (ask (at (grammar.in_structure g) grammar.member)) (c_tokens text) first (c_tokens mid)
  pub all : List Declaration
  pub last : List Token
  pub more : Reads c_table (at (grammar.in_structure g) (grammar.members (first ∷ []))) (ask (at (grammar.in_structure g) (grammar.members (first ∷ [])))) (c_tokens mid) all (c_tokens last)
  pub ended : IsEnded last
  pub why : IsUnexpected g.types scope tokens.unbrace also.TypeSpecifier last stop

abbrev pub IsBodyStop : Context → Scope → ℕ → List Token → ReadError → Type 0
IsBodyStop g scope depth text stops.NoMemory = ⊤
IsBodyStop g scope depth text stop = IsStop (grammar.in_structure g) grammar.member (depth - 1) text stop ⊎ (StopsInBody g scope (depth - 1) text stop ⊎ StopsAtBrace g scope text stop)

-- Behind the `{` of an enumeration its constants and the `}` are read, and this is the enumeration.
pub record AreConstants (g : Context) (word : Token) (tag : Option ℕ) (depth : ℕ) (text : List Token) (s : CodeSpecifier) (reached : ℕ) (rest : List Token) : Type 0 where
  pub first : Enumerator
  pub mid : List Token
  pub one : Reads c_table (at g grammar.enumerator) (ask (at g grammar.enumerator)) (c_tokens text) first (c_tokens mid)
  pub all : List Enumerator
  pub last : List Token
  pub more : Reads c_table (at g (grammar.enumerators (first ∷ []))) (ask (at g (grammar.enumerators (first ∷ [])))) (c_tokens mid) all (c_tokens last)
  pub closes : IsExpected g.types tokens.unbrace last rest
  pub makes : specifier_of s ≡ enum_specifier (enum_spec tag (some_constants (Some all)) word.place)
  pub deeper : reached ≡ deep.enumerators_depth (all_enumerators all)
  pub shallow : reached ≤ depth
  pub fewer : 1 + length rest ≤ length text

pub record StopsInConstants (g : Context) (scope : Scope) (depth : ℕ) (text : List Token) (stop : ReadError) : Type 0 where
  pub first : Enumerator
  pub mid : List Token
  pub one : Reads c_table (at g grammar.enumerator) (ask (at g grammar.enumerator)) (c_tokens text) first (c_tokens mid)
  pub why : IsStop g (grammar.enumerators (first ∷ [])) depth mid stop

pub record StopsAtEnd (g : Context) (scope : Scope) (text : List Token) (stop : ReadError) : Type 0 where
  pub first : Enumerator
  pub mid : List Token
  pub one : Reads c_table (at g grammar.enumerator) (ask (at g grammar.enumerator)) (c_tokens text) first (c_tokens mid)
  pub all : List Enumerator
  pub last : List Token
  pub more : Reads c_table (at g (grammar.enumerators (first ∷ []))) (ask (at g (grammar.enumerators (first ∷ [])))) (c_tokens mid) all (c_tokens last)
  pub ended : IsEnded last
  pub why : IsUnexpected g.types scope tokens.unbrace also.Nothing last stop

abbrev pub IsConstantsStop : Context → Scope → ℕ → List Token → ReadError → Type 0
IsConstantsStop g scope depth text stops.NoMemory = ⊤
IsConstantsStop g scope depth text stop = IsStop g grammar.enumerator depth text stop ⊎ (StopsInConstants g scope depth text stop ⊎ StopsAtEnd g scope text stop)
