-- What is made of the tokens and the parts of each production: trees with their places.
--
-- An absent declarator has the place of the token behind it, which isn't known yet where it is read. So one that ends a
-- declarator, a parameter or a type name is *pending*: it stands at no place of a text until `settle` gives it the place of the
-- token that comes next. What is made of a declarator and tokens behind it settles it.
use Rattle.std.specs.Prelude.{ℕ, Bool, true, false, List, [], ◌∷◌, map, Option, Some, None, if◌then◌else◌}
use Rattle.sp_tree.specs.declared.fault.Place.{Place}
use Rattle.sp_tree.specs.declared.token.Keyword.{Keyword}
use Rattle.sp_tree.specs.declared.token.Keyword.TheVariants.{Auto, Break, Union}
use Rattle.sp_tree.specs.declared.token.Kind.{Kind}
use Rattle.sp_tree.specs.declared.token.Kind.TheVariants as kinds
use Rattle.sp_tree.specs.declared.token.Punct.{Punct}
use Rattle.sp_tree.specs.declared.token.Punct.TheVariants.{Arrow, Comma}
use Rattle.sp_tree.specs.declared.token.Token.{Token}
use Rattle.sp_parse_trees.specs.Words.{is_storage, is_qualifier}
use Rattle.sp_parse_trees.specs.Syntax as syntax
use Rattle.sp_parse_trees.specs.Syntax.{Expression, ExpressionForm, expression, Specifier, Enumerators, Declarator, DeclaratorForm, declarator, Param, param, Params, TypeName, type_name, Init, MaybeInit, InitDeclarator, InitDeclarators, Declaration, Declarations, Statement, StatementForm, statement, MaybeStatement, External, Members, Constants, MaybeExpression}
use Rattle.sp_parse_trees.specs.Places.{place_of, declarator_place}
use Rattle.sp_parse_trees.specs.View as view
use Rattle.sp_parse_tokens.specs.Sorts.{nowhere, spare_number}

-- ---- what a token is

abbrev pub number_of : Kind → ℕ
number_of (kinds.Name n) = n
number_of (kinds.Text n) = n
number_of _ = 0

abbrev pub keyword_of : Kind → Keyword
keyword_of (kinds.Word k) = k
keyword_of _ = Auto

abbrev pub punct_of : Kind → Punct
punct_of (kinds.Mark p) = p
punct_of _ = Comma

abbrev pub is_arrow : Kind → Bool
is_arrow (kinds.Mark Arrow) = true
is_arrow _ = false

abbrev pub is_union : Kind → Bool
is_union (kinds.Word Union) = true
is_union _ = false

-- ---- expressions

abbrev pub leaf : ExpressionForm → Token → Expression
leaf f x = expression f x.place x.place

-- with an operator behind its first part
abbrev pub behind : ExpressionForm → Expression → Token → Expression
behind f e x = expression f (place_of e) x.place

abbrev pub constant_form : Kind → ExpressionForm
constant_form (kinds.Number n) = syntax.number n
constant_form (kinds.Char z) = syntax.character z
constant_form _ = syntax.number spare_number

abbrev pub first_place : List Token → Place
first_place [] = nowhere
first_place (x ∷ xs) = x.place

abbrev pub make_name : Token → Expression
make_name x = leaf (syntax.name (number_of x.kind)) x

abbrev pub make_constant : Token → Expression
make_constant x = leaf (constant_form x.kind) x

abbrev pub make_texts : List Token → Expression
make_texts xs = expression (syntax.text (map (λ x. number_of x.kind) xs)) (first_place xs) (first_place xs)

abbrev pub make_member : Expression → Token → Token → Expression
make_member e x n = behind (if is_arrow x.kind then syntax.arrow e (number_of n.kind) else syntax.member e (number_of n.kind)) e x

-- ---- specifiers

-- a specifier with the place of its first token
pub record SpecifierAt : Type 0 where
  pub tree : Specifier
  pub place : Place

abbrev pub word_of : Keyword → Specifier
word_of k = if is_storage k then syntax.storage k else if is_qualifier k then syntax.qualifier k else syntax.basic k

abbrev pub specifier_of : Kind → Specifier
specifier_of (kinds.Word k) = word_of k
specifier_of k = syntax.named (number_of k)

abbrev pub make_word : Token → SpecifierAt
make_word x = record { tree = specifier_of x.kind; place = x.place }

abbrev pub all_specifiers : List SpecifierAt → syntax.Specifiers
all_specifiers [] = syntax.no_specifiers
all_specifiers (s ∷ ss) = syntax.next_specifier s.tree (all_specifiers ss)

abbrev pub place_of_first : List SpecifierAt → Place
place_of_first [] = nowhere
place_of_first (s ∷ ss) = s.place

abbrev pub tag_of : Option Token → Option ℕ
tag_of None = None
tag_of (Some x) = Some (number_of x.kind)

abbrev pub some_members : Option (List Declaration) → Members
some_members None = syntax.no_members
some_members (Some ds) = syntax.some_members (view.declarations ds)

abbrev pub make_structure : Token → Option Token → Option (List Declaration) → SpecifierAt
make_structure x tag ds = record { tree = syntax.struct_specifier (syntax.struct_spec (is_union x.kind) (tag_of tag) (some_members ds) x.place); place = x.place }

-- an enumeration constant
pub record Enumerator : Type 0 where
  pub name : ℕ
  pub place : Place
  pub value : Option Expression

abbrev pub make_enumerator : Token → Option Expression → Enumerator
make_enumerator x v = record { name = number_of x.kind; place = x.place; value = v }

abbrev pub all_enumerators : List Enumerator → Enumerators
all_enumerators [] = syntax.no_enumerators
all_enumerators (e ∷ es) = syntax.next_enumerator e.name e.place (view.maybe_expression e.value) (all_enumerators es)

abbrev pub some_constants : Option (List Enumerator) → Constants
some_constants None = syntax.no_constants
some_constants (Some es) = syntax.some_constants (all_enumerators es)

abbrev pub make_enumeration : Token → Option Token → Option (List Enumerator) → SpecifierAt
make_enumeration x tag es = record { tree = syntax.enum_specifier (syntax.enum_spec (tag_of tag) (some_constants es) x.place); place = x.place }

-- ---- declarators

-- the declarator before the token at this place
abbrev mutual
  pub settle : Place → Declarator → Declarator
  settle p (declarator f q) = settle_form p q f

  pub settle_form : Place → Place → DeclaratorForm → Declarator
  settle_form p q syntax.absent = declarator syntax.absent p
  settle_form p q (syntax.declared n) = declarator (syntax.declared n) q
  settle_form p q (syntax.group d) = declarator (syntax.group d) q
  settle_form p q (syntax.pointer ks d) = declarator (syntax.pointer ks (settle p d)) q
  settle_form p q (syntax.array d e) = declarator (syntax.array d e) q
  settle_form p q (syntax.function d ps dots) = declarator (syntax.function d ps dots) q

abbrev pub settle_type : Place → TypeName → TypeName
settle_type p (type_name ss d) = type_name ss (settle p d)

abbrev pub settle_param : Place → Param → Param
settle_param p (param ss d) = param ss (settle p d)

-- the parameters before the token at this place: the last is settled
abbrev pub settle_last : Place → List Param → List Param
settle_last p [] = []
settle_last p (x ∷ []) = settle_param p x ∷ []
settle_last p (x ∷ y ∷ ys) = x ∷ settle_last p (y ∷ ys)

abbrev pub make_absent : Declarator
make_absent = declarator syntax.absent nowhere

abbrev pub make_named : Token → Declarator
make_named x = declarator (syntax.declared (number_of x.kind)) x.place

abbrev pub make_group : Token → Declarator → Token → Declarator
make_group x d z = declarator (syntax.group (settle z.place d)) x.place

abbrev pub make_pointer : Token → List Token → Declarator → Declarator
make_pointer x qs d = declarator (syntax.pointer (map (λ q. keyword_of q.kind) qs) d) x.place

-- with a suffix that begins with this token
abbrev pub with_suffix : Token → Declarator → (Declarator → DeclaratorForm) → Declarator
with_suffix x d f = declarator (f (settle x.place d)) (declarator_place (settle x.place d))

abbrev pub make_array : Declarator → Token → Option Expression → Declarator
make_array d x n = with_suffix x d (λ e. syntax.array e (view.maybe_expression n))

-- the parameters before `)`; before `, ...` they were settled
abbrev pub closed_params : List Param → Bool → Token → Params
closed_params ps dots z = view.params (if dots then ps else settle_last z.place ps)

abbrev pub make_function : Declarator → Token → List Param → Bool → Token → Declarator
make_function d x ps dots z = with_suffix x d (λ e. syntax.function e (closed_params ps dots z) dots)

-- ---- initialisers, declarations, statements

abbrev pub all_items : List InitDeclarator → InitDeclarators
all_items [] = syntax.no_items
all_items (i ∷ is) = syntax.next_item i (all_items is)

abbrev pub some_init : Option Init → MaybeInit
some_init None = syntax.no_init
some_init (Some i) = syntax.some_init i

abbrev pub make_item : Declarator → Option Init → InitDeclarator
make_item d v = syntax.init_declarator d (some_init v)

abbrev pub make_declaration : List SpecifierAt → List InitDeclarator → Declaration
make_declaration ss is = syntax.declaration (all_specifiers ss) (all_items is) (place_of_first ss)

abbrev pub end_of : Statement → Place
end_of (statement f p z) = z

abbrev pub all_statements : List Statement → syntax.Statements
all_statements [] = syntax.no_statements
all_statements (s ∷ ss) = syntax.next_statement s (all_statements ss)

abbrev pub some_statement : Option Statement → MaybeStatement
some_statement None = syntax.no_statement
some_statement (Some s) = syntax.some_statement s

abbrev pub end_of_branches : Statement → Option Statement → Place
end_of_branches a None = end_of a
end_of_branches a (Some b) = end_of b

abbrev pub is_break : Kind → Bool
is_break (kinds.Word Break) = true
is_break _ = false
