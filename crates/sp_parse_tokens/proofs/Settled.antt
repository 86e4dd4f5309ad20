-- The depth of what is made: settling changes places alone, and a list of parts is as deep as its deepest.
use Rattle.std.proofs.Common.{◌≡◌, ◌+◌, Bool, true, false, List, [], ◌∷◌, ◌++◌, refl, ap, arith}
use Rattle.std.specs.Prelude.{max, if◌then◌else◌}
use Rattle.sp_tree.specs.declared.fault.Place.{Place}
use Rattle.sp_tree.specs.declared.token.Keyword.{Keyword}
use Rattle.sp_tree.specs.declared.token.Kind.{Kind}
use Rattle.sp_tree.specs.declared.token.Kind.TheVariants as kinds
use Rattle.sp_tree.specs.declared.token.Token.{Token}
use Rattle.sp_parse_trees.specs.Words.{is_storage, is_qualifier}
use Rattle.sp_parse_trees.specs.Syntax as syntax
use Rattle.sp_parse_trees.specs.Syntax.{Expression, Declarator, DeclaratorForm, declarator, Param, param, TypeName, type_name, Init, InitDeclarator, Declaration, Statement}
use Rattle.sp_parse_trees.specs.Depth as deep
use Rattle.sp_parse_trees.specs.View as view
use Rattle.sp_parse_tokens.specs.Makers as make

mutual
  pub settle_depth : (p : Place) (d : Declarator) → deep.declarator_depth (make.settle p d) ≡ deep.declarator_depth d
  settle_depth p (declarator f q) = settle_form_depth p q f

  settle_form_depth : (p q : Place) (f : DeclaratorForm) → deep.declarator_depth (make.settle_form p q f) ≡ 1 + deep.declarator_form_depth f
  settle_form_depth p q syntax.absent = refl
  settle_form_depth p q (syntax.declared n) = refl
  settle_form_depth p q (syntax.group d) = refl
  settle_form_depth p q (syntax.pointer ks d) = ap (λ n. 1 + n) (ap (λ n. n) (settle_depth p d))
  settle_form_depth p q (syntax.array d e) = refl
  settle_form_depth p q (syntax.function d ps dots) = refl

pub settle_type_depth : (p : Place) (n : TypeName) → deep.type_name_depth (make.settle_type p n) ≡ deep.type_name_depth n
settle_type_depth p (type_name ss d) = ap (λ k. max (deep.specifiers_depth ss) k) (settle_depth p d)

pub settle_param_depth : (p : Place) (n : Param) → deep.param_depth (make.settle_param p n) ≡ deep.param_depth n
settle_param_depth p (param ss d) = ap (λ k. max (deep.specifiers_depth ss) k) (settle_depth p d)

pub settle_last_depth : (p : Place) (ps : List Param) → deep.params_depth (view.params (make.settle_last p ps)) ≡ deep.params_depth (view.params ps)
settle_last_depth p [] = refl
settle_last_depth p (x ∷ []) = ap (λ k. max k 0) (settle_param_depth p x)
settle_last_depth p (x ∷ y ∷ ys) = ap (λ k. max (deep.param_depth x) k) (settle_last_depth p (y ∷ ys))

pub closed_depth : (ps : List Param) (dots : Bool) (z : Token) → deep.params_depth (make.closed_params ps dots z) ≡ deep.params_depth (view.params ps)
closed_depth ps true z = refl
closed_depth ps false z = settle_last_depth z.place ps

pub member_depth : (e : Expression) (x n : Token) → deep.depth (make.make_member e x n) ≡ 1 + deep.depth e
member_depth e x n = by_mark (make.is_arrow x.kind)
  where
    by_mark : (b : Bool) → deep.depth (make.behind (if b then syntax.arrow e (make.number_of n.kind) else syntax.member e (make.number_of n.kind)) e x) ≡ 1 + deep.depth e
    by_mark true = refl
    by_mark false = refl

word_of_depth : (k : Keyword) (a b : Bool) → deep.specifier_depth (if a then syntax.storage k else if b then syntax.qualifier k else syntax.basic k) ≡ 0
word_of_depth k true b = refl
word_of_depth k false true = refl
word_of_depth k false false = refl

pub word_depth : (k : Kind) → deep.specifier_depth (make.specifier_of k) ≡ 0
word_depth (kinds.Word k) = word_of_depth k (is_storage k) (is_qualifier k)
word_depth _ = refl

-- ---- lists with one part more

pub args_snoc : (es : List Expression) (e : Expression) → deep.expressions_depth (view.expressions (es ++ e ∷ [])) ≡ max (deep.expressions_depth (view.expressions es)) (deep.depth e)
args_snoc [] e = omega arith
args_snoc (x ∷ es) e = omega (arith, args_snoc es e)

pub specifiers_snoc : (ss : List make.SpecifierAt) (s : make.SpecifierAt) → deep.specifiers_depth (make.all_specifiers (ss ++ s ∷ [])) ≡ max (deep.specifiers_depth (make.all_specifiers ss)) (deep.specifier_depth s.tree)
specifiers_snoc [] s = omega arith
specifiers_snoc (x ∷ ss) s = omega (arith, specifiers_snoc ss s)

pub declarations_snoc : (ds : List Declaration) (d : Declaration) → deep.declarations_depth (view.declarations (ds ++ d ∷ [])) ≡ max (deep.declarations_depth (view.declarations ds)) (deep.declaration_depth d)
declarations_snoc [] d = omega arith
declarations_snoc (x ∷ ds) d = omega (arith, declarations_snoc ds d)

pub enumerators_snoc : (es : List make.Enumerator) (e : make.Enumerator) → deep.enumerators_depth (make.all_enumerators (es ++ e ∷ [])) ≡ max (deep.enumerators_depth (make.all_enumerators es)) (deep.maybe_depth (view.maybe_expression e.value))
enumerators_snoc [] e = omega arith
enumerators_snoc (x ∷ es) e = omega (arith, enumerators_snoc es e)

pub params_snoc : (ps : List Param) (p : Param) → deep.params_depth (view.params (ps ++ p ∷ [])) ≡ max (deep.params_depth (view.params ps)) (deep.param_depth p)
params_snoc [] p = omega arith
params_snoc (x ∷ ps) p = omega (arith, params_snoc ps p)

pub inits_snoc : (is : List Init) (i : Init) → deep.inits_depth (view.inits (is ++ i ∷ [])) ≡ max (deep.inits_depth (view.inits is)) (deep.init_depth i)
inits_snoc [] i = omega arith
inits_snoc (x ∷ is) i = omega (arith, inits_snoc is i)

pub statements_snoc : (ss : List Statement) (s : Statement) → deep.statements_depth (make.all_statements (ss ++ s ∷ [])) ≡ max (deep.statements_depth (make.all_statements ss)) (deep.statement_depth s)
statements_snoc [] s = omega arith
statements_snoc (x ∷ ss) s = omega (arith, statements_snoc ss s)

pub items_both : (is js : List InitDeclarator) → deep.items_depth (make.all_items (is ++ js)) ≡ max (deep.items_depth (make.all_items is)) (deep.items_depth (make.all_items js))
items_both [] js = omega arith
items_both (x ∷ is) js = omega (arith, items_both is js)
