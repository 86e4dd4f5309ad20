-- The bare tree of each answer: what it is made of but for the places, and that settling changes places alone.
use Rattle.std.proofs.Common.{◌≡◌, ℕ, Bool, true, false, List, [], ◌∷◌, ◌++◌, map, refl, sym, ap, ◌∙◌}
use Rattle.std.specs.Prelude.{if◌then◌else◌}
use Rattle.sp_tree.specs.declared.fault.Place.{Place}
use Rattle.sp_tree.specs.declared.token.Keyword.{Keyword}
use Rattle.sp_tree.specs.declared.token.Token.{Token}
use Rattle.sp_parse_trees.specs.Syntax as syntax
use Rattle.sp_parse_trees.specs.Syntax.{Expression, ExpressionForm, expression, Expressions, no_expressions, next_expression, MaybeExpression, Specifier, Specifiers, no_specifiers, next_specifier, Enumerators, no_enumerators, next_enumerator, Declarator, DeclaratorForm, declarator, Param, param, Params, no_params, next_param, TypeName, type_name, InitDeclarator, InitDeclarators, no_items, next_item, Declaration, Declarations, no_declarations, next_declaration}
use Rattle.sp_parse_trees.specs.View as view
use Rattle.sp_parse_grammar.specs.CTable as grammar
use Rattle.sp_parse_grammar.specs.CTable.{ItemAnswer}
use Rattle.sp_parse_tokens.specs.Sorts.{nowhere}
use Rattle.sp_parse_laws.specs.Bare.{bare, bare_expressions, bare_maybe, bare_specifier, bare_specifiers, bare_enumerators, bare_declarator, bare_param, bare_params, bare_type_name, bare_item, bare_items, bare_declaration, bare_declarations}
use Rattle.sp_parse_tokens.specs.Makers as make
use Rattle.sp_parse_tokens.specs.Depths.{Part}

-- ---- each answer

abbrev pub Bare : Part → Type 0
Bare (grammar.level k) = Expression
Bare (grammar.after k l) = Expression
Bare (grammar.tail k l) = Expression
Bare (grammar.behind_open x) = Expression
Bare grammar.unary = Expression
Bare grammar.primary = Expression
Bare grammar.arguments = Expressions
Bare (grammar.behind_sizeof x) = Expression
Bare (grammar.inside_sizeof x y) = Expression
Bare (grammar.texts xs) = List ℕ
Bare (grammar.suffixes f) = Expression
Bare (grammar.more_arguments es) = Expressions
Bare grammar.type_name = TypeName
Bare grammar.optional_specifiers = Specifiers
Bare (grammar.specifiers stores seen s) = Specifiers
Bare (grammar.behind_struct x) = Specifier
Bare (grammar.behind_enum x) = Specifier
Bare (grammar.struct_body x y) = Specifier
Bare (grammar.enum_body x y) = Specifier
Bare grammar.member = Declaration
Bare grammar.enumerator = Enumerators
Bare grammar.value_of = MaybeExpression
Bare (grammar.members ds) = Declarations
Bare (grammar.member_items is) = InitDeclarators
Bare (grammar.enumerators es) = Enumerators
Bare (grammar.qualifiers xs) = List Keyword
Bare (grammar.declarator f) = Declarator
Bare (grammar.direct f) = Declarator
Bare (grammar.group f) = Declarator
Bare (grammar.behind_group f x) = Declarator
Bare (grammar.declarator_suffixes d) = Declarator
Bare grammar.array_length = MaybeExpression
Bare grammar.parameters = Params × Bool
Bare grammar.parameter = Param
Bare (grammar.more_parameters ps) = Params × Bool
Bare (grammar.behind_comma x ps) = Params × Bool
Bare _ = Unit {0}

abbrev pub bare_of : (i : Part) → ItemAnswer i → Bare i
bare_of (grammar.level k) o = bare o.tree
bare_of (grammar.after k l) o = bare o.tree
bare_of (grammar.tail k l) o = bare o.tree
bare_of (grammar.behind_open x) o = bare o.tree
bare_of grammar.unary e = bare e
bare_of grammar.primary e = bare e
bare_of grammar.arguments es = bare_expressions (view.expressions es)
bare_of (grammar.behind_sizeof x) e = bare e
bare_of (grammar.inside_sizeof x y) e = bare e
bare_of (grammar.texts xs) ys = map (λ y. make.number_of y.what.kind) ys
bare_of (grammar.suffixes f) e = bare e
bare_of (grammar.more_arguments fs) es = bare_expressions (view.expressions es)
bare_of grammar.type_name n = bare_type_name n.tree
bare_of grammar.optional_specifiers sp = bare_specifiers (make.all_specifiers sp.all)
bare_of (grammar.specifiers stores seen s) sp = bare_specifiers (make.all_specifiers sp.all)
bare_of (grammar.behind_struct x) s = bare_specifier s.tree
bare_of (grammar.behind_enum x) s = bare_specifier s.tree
bare_of (grammar.struct_body x y) s = bare_specifier s.tree
bare_of (grammar.enum_body x y) s = bare_specifier s.tree
bare_of grammar.member d = bare_declaration d
bare_of grammar.enumerator e = bare_enumerators (make.all_enumerators (e ∷ []))
bare_of grammar.value_of v = bare_maybe (view.maybe_expression v)
bare_of (grammar.members es) ds = bare_declarations (view.declarations ds)
bare_of (grammar.member_items js) is = bare_items (make.all_items is.all)
bare_of (grammar.enumerators fs) es = bare_enumerators (make.all_enumerators es)
bare_of (grammar.qualifiers xs) ys = map (λ y. make.keyword_of y.what.kind) ys
bare_of (grammar.declarator f) d = bare_declarator d.tree
bare_of (grammar.direct f) d = bare_declarator d.tree
bare_of (grammar.group f) d = bare_declarator d.tree
bare_of (grammar.behind_group f x) d = bare_declarator d.tree
bare_of (grammar.declarator_suffixes e) d = bare_declarator d.tree
bare_of grammar.array_length v = bare_maybe (view.maybe_expression v)
bare_of grammar.parameters ps = (bare_params (view.params ps.all), ps.dots)
bare_of grammar.parameter p = bare_param p.tree
bare_of (grammar.more_parameters qs) ps = (bare_params (view.params ps.all), ps.dots)
bare_of (grammar.behind_comma c qs) ps = (bare_params (view.params ps.all), ps.dots)
bare_of _ o = tt

-- an expression and a declarator of this form at no place of a text
abbrev pub unplaced : ExpressionForm → Expression
unplaced f = expression f nowhere nowhere

abbrev pub unplaced_declarator : DeclaratorForm → Declarator
unplaced_declarator f = declarator f nowhere

pub member_bare : (e : Expression) (x n : Token) → bare (make.make_member e x n) ≡ unplaced (if make.is_arrow x.kind then syntax.arrow (bare e) (make.number_of n.kind) else syntax.member (bare e) (make.number_of n.kind))
member_bare e x n = by_mark (make.is_arrow x.kind)
  where
    by_mark : (b : Bool) → bare (make.behind (if b then syntax.arrow e (make.number_of n.kind) else syntax.member e (make.number_of n.kind)) e x) ≡ unplaced (if b then syntax.arrow (bare e) (make.number_of n.kind) else syntax.member (bare e) (make.number_of n.kind))
    by_mark true = refl
    by_mark false = refl

-- the parts of equal pairs
pub first_same : {A B : Type 0} {p q : A × B} → p ≡ q → p.0 ≡ q.0
first_same {A} {B} e = let part : A × B → A = λ v. v.0 in ap part e

pub second_same : {A B : Type 0} {p q : A × B} → p ≡ q → p.1 ≡ q.1
second_same {A} {B} e = let part : A × B → B = λ v. v.1 in ap part e

-- ---- settling changes places alone

mutual
  pub settle_bare : (p : Place) (d : Declarator) → bare_declarator (make.settle p d) ≡ bare_declarator d
  settle_bare p (declarator f q) = settle_form_bare p q f

  settle_form_bare : (p q : Place) (f : DeclaratorForm) → bare_declarator (make.settle_form p q f) ≡ bare_declarator (declarator f q)
  settle_form_bare p q syntax.absent = refl
  settle_form_bare p q (syntax.declared n) = refl
  settle_form_bare p q (syntax.group d) = refl
  settle_form_bare p q (syntax.pointer ks d) = ap (λ v. unplaced_declarator (syntax.pointer ks v)) (settle_bare p d)
  settle_form_bare p q (syntax.array d e) = refl
  settle_form_bare p q (syntax.function d ps dots) = refl

pub settle_type_bare : (p : Place) (n : TypeName) → bare_type_name (make.settle_type p n) ≡ bare_type_name n
settle_type_bare p (type_name ss d) = ap (λ v. type_name (bare_specifiers ss) v) (settle_bare p d)

settle_param_bare : (p : Place) (n : Param) → bare_param (make.settle_param p n) ≡ bare_param n
settle_param_bare p (param ss d) = ap (λ v. param (bare_specifiers ss) v) (settle_bare p d)

-- ---- the bare parts of a list, before other parts

abbrev pub before_arguments : List Expression → Expressions → Expressions
before_arguments [] m = m
before_arguments (e ∷ es) m = next_expression (bare e) (before_arguments es m)

pub no_argument_behind : (es : List Expression) → bare_expressions (view.expressions es) ≡ before_arguments es no_expressions
no_argument_behind [] = refl
no_argument_behind (e ∷ es) = ap (λ v. next_expression (bare e) v) (no_argument_behind es)

pub argument_behind : (es : List Expression) (e : Expression) (m : Expressions) → before_arguments (es ++ e ∷ []) m ≡ before_arguments es (next_expression (bare e) m)
argument_behind [] e m = refl
argument_behind (x ∷ es) e m = ap (λ v. next_expression (bare x) v) (argument_behind es e m)

abbrev pub before_specifiers : List make.SpecifierAt → Specifiers → Specifiers
before_specifiers [] m = m
before_specifiers (s ∷ ss) m = next_specifier (bare_specifier s.tree) (before_specifiers ss m)

pub no_specifier_behind : (ss : List make.SpecifierAt) → bare_specifiers (make.all_specifiers ss) ≡ before_specifiers ss no_specifiers
no_specifier_behind [] = refl
no_specifier_behind (s ∷ ss) = ap (λ v. next_specifier (bare_specifier s.tree) v) (no_specifier_behind ss)

pub specifier_behind : (ss : List make.SpecifierAt) (s : make.SpecifierAt) (m : Specifiers) → before_specifiers (ss ++ s ∷ []) m ≡ before_specifiers ss (next_specifier (bare_specifier s.tree) m)
specifier_behind [] s m = refl
specifier_behind (x ∷ ss) s m = ap (λ v. next_specifier (bare_specifier x.tree) v) (specifier_behind ss s m)

abbrev pub before_declarations : List Declaration → Declarations → Declarations
before_declarations [] m = m
before_declarations (d ∷ ds) m = next_declaration (bare_declaration d) (before_declarations ds m)

pub no_declaration_behind : (ds : List Declaration) → bare_declarations (view.declarations ds) ≡ before_declarations ds no_declarations
no_declaration_behind [] = refl
no_declaration_behind (d ∷ ds) = ap (λ v. next_declaration (bare_declaration d) v) (no_declaration_behind ds)

pub declaration_behind : (ds : List Declaration) (d : Declaration) (m : Declarations) → before_declarations (ds ++ d ∷ []) m ≡ before_declarations ds (next_declaration (bare_declaration d) m)
declaration_behind [] d m = refl
declaration_behind (x ∷ ds) d m = ap (λ v. next_declaration (bare_declaration x) v) (declaration_behind ds d m)

abbrev pub before_items : List InitDeclarator → InitDeclarators → InitDeclarators
before_items [] m = m
before_items (i ∷ is) m = next_item (bare_item i) (before_items is m)

pub no_item_behind : (is : List InitDeclarator) → bare_items (make.all_items is) ≡ before_items is no_items
no_item_behind [] = refl
no_item_behind (i ∷ is) = ap (λ v. next_item (bare_item i) v) (no_item_behind is)

pub item_behind : (is : List InitDeclarator) (i : InitDeclarator) (m : InitDeclarators) → before_items (is ++ i ∷ []) m ≡ before_items is (next_item (bare_item i) m)
item_behind [] i m = refl
item_behind (x ∷ is) i m = ap (λ v. next_item (bare_item x) v) (item_behind is i m)

abbrev pub before_enumerators : List make.Enumerator → Enumerators → Enumerators
before_enumerators [] m = m
before_enumerators (e ∷ es) m = next_enumerator e.name nowhere (bare_maybe (view.maybe_expression e.value)) (before_enumerators es m)

pub no_enumerator_behind : (es : List make.Enumerator) → bare_enumerators (make.all_enumerators es) ≡ before_enumerators es no_enumerators
no_enumerator_behind [] = refl
no_enumerator_behind (e ∷ es) = ap (λ v. next_enumerator e.name nowhere (bare_maybe (view.maybe_expression e.value)) v) (no_enumerator_behind es)

pub enumerator_behind : (es : List make.Enumerator) (e : make.Enumerator) (m : Enumerators) → before_enumerators (es ++ e ∷ []) m ≡ before_enumerators es (before_enumerators (e ∷ []) m)
enumerator_behind [] e m = refl
enumerator_behind (x ∷ es) e m = ap (λ v. next_enumerator x.name nowhere (bare_maybe (view.maybe_expression x.value)) v) (enumerator_behind es e m)

-- enumerators before others
abbrev pub joined : Enumerators → Enumerators → Enumerators
joined no_enumerators m = m
joined (next_enumerator n p v es) m = next_enumerator n p v (joined es m)

abbrev pub before_params : List Param → Params → Params
before_params [] m = m
before_params (p ∷ ps) m = next_param (bare_param p) (before_params ps m)

pub no_param_behind : (ps : List Param) → bare_params (view.params ps) ≡ before_params ps no_params
no_param_behind [] = refl
no_param_behind (p ∷ ps) = ap (λ v. next_param (bare_param p) v) (no_param_behind ps)

pub param_behind : (ps : List Param) (p : Param) (m : Params) → before_params (ps ++ p ∷ []) m ≡ before_params ps (next_param (bare_param p) m)
param_behind [] p m = refl
param_behind (x ∷ ps) p m = ap (λ v. next_param (bare_param x) v) (param_behind ps p m)

pub settle_last_bare : (p : Place) (ps : List Param) (m : Params) → before_params (make.settle_last p ps) m ≡ before_params ps m
settle_last_bare p [] m = refl
settle_last_bare p (x ∷ []) m = ap (λ v. next_param v m) (settle_param_bare p x)
settle_last_bare p (x ∷ y ∷ ys) m = ap (λ v. next_param (bare_param x) v) (settle_last_bare p (y ∷ ys) m)

pub closed_bare : (ps : List Param) (dots : Bool) (z : Token) → bare_params (make.closed_params ps dots z) ≡ bare_params (view.params ps)
closed_bare ps true z = refl
closed_bare ps false z = no_param_behind (make.settle_last z.place ps) ∙ settle_last_bare z.place ps no_params ∙ sym (no_param_behind ps)
