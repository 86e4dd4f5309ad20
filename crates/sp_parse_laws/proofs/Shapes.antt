-- What a declarator makes of its name, and the names that a list declares, are as the grammar's answers tell.
use Rattle.std.proofs.Common.{◌≡◌, ℕ, Bool, true, false, List, [], ◌∷◌, ◌++◌, Option, Some, None, refl, sym, ap, ap₂, ◌∙◌}
use Rattle.std.specs.Prelude.{if◌then◌else◌, is_some}
use Rattle.std.proofs.lemmas.List.{append_assoc}
use Rattle.sp_tree.specs.declared.fault.Place.{Place}
use Rattle.sp_parse_trees.specs.Syntax as syntax
use Rattle.sp_parse_trees.specs.Syntax.{Expression, Declarator, declarator, InitDeclarator, init_declarator}
use Rattle.sp_parse_trees.specs.Levels.{declared_name, is_plain, is_variadic, named_by, names_of_items}
use Rattle.sp_parse_grammar.specs.CTable as grammar
use Rattle.sp_parse_grammar.specs.CTable.{Declared, Parameters, Items, Shape}
use Rattle.sp_parse_tokens.specs.Makers as make
use Rattle.sp_parse_tokens.specs.Sorts.{Terminal}
use Rattle.sp_parse_tokens.specs.SyntaxTrees.{syntax_trees}
use Rattle.sp_parse_laws.proofs.SpellingDeclarators.{settle_name}

abbrev pub is_bare : Shape → Bool
is_bare grammar.bare = true
is_bare _ = false

-- The declarator of a name makes of it what its shape says: nothing yet, or a function with `...`, or neither.
abbrev pub Shaped : Declared syntax_trees → Type 0
Shaped d = is_some (declared_name d.tree) ≡ true → (is_variadic d.tree ≡ grammar.is_variadic d.shape) × (is_plain d.tree ≡ is_bare d.shape)

settle_variadic : (p : Place) (d : Declarator) → is_variadic (make.settle p d) ≡ is_variadic d
settle_variadic p (declarator syntax.absent q) = refl
settle_variadic p (declarator (syntax.declared n) q) = refl
settle_variadic p (declarator (syntax.group d) q) = refl
settle_variadic p (declarator (syntax.pointer ks d) q) = settle_variadic p d
settle_variadic p (declarator (syntax.array d e) q) = refl
settle_variadic p (declarator (syntax.function d ps dots) q) = refl

settle_plain : (p : Place) (d : Declarator) → is_plain (make.settle p d) ≡ is_plain d
settle_plain p (declarator syntax.absent q) = refl
settle_plain p (declarator (syntax.declared n) q) = refl
settle_plain p (declarator (syntax.group d) q) = refl
settle_plain p (declarator (syntax.pointer ks d) q) = refl
settle_plain p (declarator (syntax.array d e) q) = refl
settle_plain p (declarator (syntax.function d ps dots) q) = refl

-- a suffix that is no list of parameters, or a `*`
other_shape : (s : Shape) (v : Bool) → v ≡ grammar.is_variadic s → (v ≡ grammar.is_variadic (grammar.shaped s grammar.other)) × (false ≡ is_bare (grammar.shaped s grammar.other))
other_shape grammar.bare v e = (e, refl)
other_shape grammar.variadic v e = (e, refl)
other_shape grammar.other v e = (e, refl)

-- a list of parameters
function_shape : (s : Shape) (plain v dots : Bool) → plain ≡ is_bare s → v ≡ grammar.is_variadic s
    → ((if plain then dots else v) ≡ grammar.is_variadic (grammar.shaped s (grammar.of_parameters dots))) × (false ≡ is_bare (grammar.shaped s (grammar.of_parameters dots)))
function_shape grammar.bare true v true p e = (refl, refl)
function_shape grammar.bare true v false p e = (refl, refl)
function_shape grammar.bare false v dots p e = absurd cc
function_shape grammar.variadic true v dots p e = absurd cc
function_shape grammar.variadic false v dots p e = (e, refl)
function_shape grammar.other true v dots p e = absurd cc
function_shape grammar.other false v dots p e = (e, refl)

pub named_shaped : (x : Terminal) (n : ℕ) → Shaped (grammar.named_declarator x n)
named_shaped x n named = (refl, refl)

pub absent_shaped : (f : grammar.Form) → Shaped (grammar.absent_declarator f)
absent_shaped f named = absurd cc

pub pointed_shaped : (x : Terminal) (qs : List Terminal) (d : Declared syntax_trees) → Shaped d → Shaped (grammar.pointed x qs d)
pointed_shaped x qs d h named = other_shape d.shape (is_variadic d.tree) (h named).0

settled_named : (p : Place) (d : Declarator) → is_some (declared_name (make.settle p d)) ≡ true → is_some (declared_name d) ≡ true
settled_named p d named = sym (ap is_some (settle_name p d)) ∙ named

pub array_shaped : (d : Declared syntax_trees) (x : Terminal) (n : Option Expression) → Shaped d → Shaped (grammar.array_of d x n)
array_shaped d x n h named = other_shape d.shape _ (settle_variadic x.what.place d.tree ∙ (h (settled_named x.what.place d.tree named)).0)

pub function_shaped : (d : Declared syntax_trees) (x : Terminal) (ps : Parameters syntax_trees) (z : Terminal) → Shaped d → Shaped (grammar.function_of d x ps z)
function_shaped d x ps z h named =
    let before = h (settled_named x.what.place d.tree named) in
    function_shape d.shape _ _ ps.dots (settle_plain x.what.place d.tree ∙ before.1) (settle_variadic x.what.place d.tree ∙ before.0)

pub group_shaped : (x : Terminal) (d : Declared syntax_trees) (z : Terminal) → Shaped d → Shaped (grammar.group_of x d z)
group_shaped x d z h named =
    let before = h (settled_named z.what.place d.tree named) in
    (settle_variadic z.what.place d.tree ∙ before.0, settle_plain z.what.place d.tree ∙ before.1)

-- ---- names that a list declares

-- The names that the declarators of a list declare, in their order.
abbrev pub NamesAgree : Items syntax_trees → Type 0
NamesAgree is = names_of_items (make.all_items is.all) ≡ is.names

one_name : (o : Option ℕ) → named_by o ++ [] ≡ grammar.with_name o []
one_name None = refl
one_name (Some n) = refl

pub one_agrees : (d : Declared syntax_trees) (v : Option syntax_trees.Init) → declared_name d.tree ≡ d.declares → NamesAgree (grammar.one_item d v)
one_agrees d v e = ap (λ o. named_by o ++ []) e ∙ one_name d.declares

names_both : (is js : List InitDeclarator) → names_of_items (make.all_items (is ++ js)) ≡ names_of_items (make.all_items is) ++ names_of_items (make.all_items js)
names_both [] js = refl
names_both (init_declarator d v ∷ is) js = ap (λ ns. named_by (declared_name d) ++ ns) (names_both is js) ∙ sym (append_assoc (named_by (declared_name d)) (names_of_items (make.all_items is)) (names_of_items (make.all_items js)))

pub both_agree : (is js : Items syntax_trees) → NamesAgree is → NamesAgree js → NamesAgree (grammar.both_items is js)
both_agree is js left right = names_both is.all js.all ∙ ap₂ (λ a b. a ++ b) left right
