-- What is levelled in each answer of C90's grammar, given that the part that its ask carries is.
use Rattle.std.proofs.Common.{◌≡◌, ◌≤◌, ℕ, ◌+◌, Bool, true, false, ◌⊎◌, List, [], ◌∷◌}
use Rattle.std.specs.Prelude.{⊤, is_some, is_none}
use Rattle.sp_parse_trees.specs.Words.{is_qualifier}
use Rattle.sp_parse_trees.specs.Syntax.{Specifier, next_specifier, no_specifiers, Declarator}
use Rattle.sp_parse_trees.specs.Levels.{Scope, level, storages, basics, whole as counts_whole, wholes, most_one, is_specifier_list, declares_types, declared_name, is_absent, is_direct, has_params, may_declare, names_type, IsLevelled, AreLevelled, IsLevelledMaybe, IsLevelledSpecifier, AreLevelledSpecifiers, DeclareMembers, DeclaresMember, NameMembers, AreLevelledEnumerators, IsLevelledDeclarator, IsLevelledParam, AreLevelledParams, IsLevelledTypeName, IsLevelledInit, AreLevelledInits, IsLevelledStart, AreLevelledItems, IsLevelledDeclaration, AreLevelledDeclarations}
use Rattle.sp_parse_trees.specs.View as view
use Rattle.sp_parse_grammar.specs.CTokens.{Seen}
use Rattle.sp_parse_grammar.specs.CTable as grammar
use Rattle.sp_parse_grammar.specs.CTable.{Context, Operand, Specified, Declared, Parameters, Form, Ask, Answer, ItemAnswer, at, unit, whole}
use Rattle.sp_parse_tokens.specs.Sorts.{Terminal}
use Rattle.sp_parse_tokens.specs.SyntaxTrees.{syntax_trees}
use Rattle.sp_parse_tokens.specs.Makers as make
use Rattle.sp_parse_tokens.specs.Depths.{Part}
use Rattle.sp_parse_laws.proofs.Spelling.{HasSome}
use Rattle.sp_parse_laws.proofs.SpecifierWords.{SeenWords}

abbrev pub scope_of : Context → Scope
scope_of g = record { types = g.types; inside = g.inside }

-- an expression of the table's level k, which is 13 - k of the trees'
pub record Fits (g : Context) (k : ℕ) (o : Operand syntax_trees) : Type 0 where
  pub within : 13 ≤ k + level o.tree
  pub unary : o.unary ≡ true → 14 ≤ level o.tree
  pub levelled : IsLevelled (scope_of g) o.tree

-- the specifiers so far, with what was seen of them
pub record SpecifiersSoFar (g : Context) (stores : Bool) (seen : Seen) (sp : Specified syntax_trees) : Type 0 where
  pub stored : seen.stored ≡ false → storages (make.all_specifiers sp.all) ≡ []
  pub most : most_one (storages (make.all_specifiers sp.all)) ≡ true
  pub unstored : stores ≡ false → storages (make.all_specifiers sp.all) ≡ []
  pub declare : may_declare (scope_of g) (make.all_specifiers sp.all) ≡ true
  pub each : AreLevelledSpecifiers (scope_of g) (make.all_specifiers sp.all)
  pub words : SeenWords seen (wholes (make.all_specifiers sp.all)) (basics (make.all_specifiers sp.all))
  pub typedefs : declares_types (make.all_specifiers sp.all) ≡ sp.typedefs

-- a whole list of specifiers
pub record LevelledSpecifiers (g : Context) (stores : Bool) (sp : Specified syntax_trees) : Type 0 where
  pub list : is_specifier_list (make.all_specifiers sp.all) ≡ true
  pub unstored : stores ≡ false → storages (make.all_specifiers sp.all) ≡ []
  pub declare : may_declare (scope_of g) (make.all_specifiers sp.all) ≡ true
  pub each : AreLevelledSpecifiers (scope_of g) (make.all_specifiers sp.all)
  pub typedefs : declares_types (make.all_specifiers sp.all) ≡ sp.typedefs

-- a specifier of a whole type
pub record IsWholeType (g : Context) (r : Specifier) : Type 0 where
  pub storage : storages (next_specifier r no_specifiers) ≡ []
  pub words : basics (next_specifier r no_specifiers) ≡ []
  pub count : counts_whole r ≡ 1
  pub levelled : IsLevelledSpecifier (scope_of g) r

abbrev pub NamesForm : Form → Declarator → Type 0
NamesForm grammar.concrete d = is_some (declared_name d) ≡ true
NamesForm grammar.abstract d = is_none (declared_name d) ≡ true
NamesForm grammar.either d = ⊤

pub record LevelledDeclarator (g : Context) (f : Form) (d : Declared syntax_trees) : Type 0 where
  pub levelled : IsLevelledDeclarator (scope_of g) d.tree
  pub names : NamesForm f d.tree
  pub declares : declared_name d.tree ≡ d.declares

pub record LevelledParameters (g : Context) (ps : Parameters syntax_trees) : Type 0 where
  pub all : AreLevelledParams (scope_of g) (view.params ps.all)
  pub dots : ps.dots ≡ true → has_params (view.params ps.all) ≡ true

abbrev pub AllQualify : List Terminal → Type 0
AllQualify [] = ⊤
AllQualify (x ∷ xs) = (is_qualifier (make.keyword_of x.what.kind) ≡ true) × AllQualify xs

abbrev pub LevelledItem : (g : Context) (i : Part) → ItemAnswer i → Type 0
LevelledItem g (grammar.level k) o = k ≤ 13 → Fits g k o
LevelledItem g (grammar.after k l) o = 1 ≤ k → k ≤ 13 → Fits g k l → (k ≡ 11 → 3 ≤ level l.tree) → Fits g k o
LevelledItem g (grammar.tail k l) o = (j : ℕ) → j + k ≡ 13 → Fits g j l → Fits g 13 o
LevelledItem g (grammar.behind_open y) o = Fits g 0 o
LevelledItem g grammar.unary e = (14 ≤ level e) × IsLevelled (scope_of g) e
LevelledItem g grammar.primary e = (15 ≤ level e) × IsLevelled (scope_of g) e
LevelledItem g grammar.arguments es = AreLevelled (scope_of g) (view.expressions es)
LevelledItem g (grammar.behind_sizeof y) e = (14 ≤ level e) × IsLevelled (scope_of g) e
LevelledItem g (grammar.inside_sizeof y z) e = (14 ≤ level e) × IsLevelled (scope_of g) e
LevelledItem g (grammar.texts xs) ys = HasSome xs → HasSome ys
LevelledItem g (grammar.suffixes f) e = 15 ≤ level f → IsLevelled (scope_of g) f → (15 ≤ level e) × IsLevelled (scope_of g) e
LevelledItem g (grammar.more_arguments es) fs = AreLevelled (scope_of g) (view.expressions es) → AreLevelled (scope_of g) (view.expressions fs)
LevelledItem g grammar.type_name n = IsLevelledTypeName (scope_of g) n.tree
LevelledItem g grammar.optional_specifiers sp = (sp.all ≡ []) ⊎ LevelledSpecifiers g true sp
LevelledItem g (grammar.specifiers stores seen sp) o = SpecifiersSoFar g stores seen sp → LevelledSpecifiers g stores o
LevelledItem g (grammar.behind_struct y) s = IsWholeType g s.tree
LevelledItem g (grammar.behind_enum y) s = IsWholeType g s.tree
LevelledItem g (grammar.struct_body y z) s = IsWholeType g s.tree
LevelledItem g (grammar.enum_body y z) s = IsWholeType g s.tree
LevelledItem g grammar.member d = DeclaresMember (scope_of g) d
LevelledItem g grammar.enumerator e = (names_type (scope_of g) e.name ≡ false) × IsLevelledMaybe (scope_of g) 2 (view.maybe_expression e.value)
LevelledItem g grammar.value_of v = IsLevelledMaybe (scope_of g) 2 (view.maybe_expression v)
LevelledItem g (grammar.members ds) es = DeclareMembers (scope_of g) (view.declarations ds) → HasSome ds → DeclareMembers (scope_of g) (view.declarations es) × HasSome es
LevelledItem g (grammar.member_items is) js = NameMembers (scope_of g) (make.all_items is.all) → HasSome is.all → NameMembers (scope_of g) (make.all_items js.all) × HasSome js.all
LevelledItem g (grammar.enumerators es) fs = AreLevelledEnumerators (scope_of g) (make.all_enumerators es) → HasSome es → AreLevelledEnumerators (scope_of g) (make.all_enumerators fs) × HasSome fs
LevelledItem g (grammar.qualifiers xs) ys = AllQualify xs → AllQualify ys
LevelledItem g (grammar.declarator f) d = LevelledDeclarator g f d
LevelledItem g (grammar.direct f) d = LevelledDeclarator g f d × (is_direct d.tree ≡ true)
LevelledItem g (grammar.group f) d = LevelledDeclarator g f d × (is_absent d.tree ≡ false)
LevelledItem g (grammar.behind_group f y) d = LevelledDeclarator g f d × (is_direct d.tree ≡ true) × (is_absent d.tree ≡ false)
LevelledItem g (grammar.declarator_suffixes d) e = (f : Form) → LevelledDeclarator g f d → is_direct d.tree ≡ true → LevelledDeclarator g f e × (is_absent d.tree ≡ false → is_absent e.tree ≡ false)
LevelledItem g grammar.array_length v = IsLevelledMaybe (scope_of g) 2 (view.maybe_expression v)
LevelledItem g grammar.parameters ps = LevelledParameters g ps
LevelledItem g grammar.parameter p = IsLevelledParam (scope_of g) p.tree
LevelledItem g (grammar.more_parameters ps) qs = LevelledParameters g ps → HasSome ps.all → LevelledParameters g qs
LevelledItem g (grammar.behind_comma c ps) qs = LevelledParameters g ps → HasSome ps.all → LevelledParameters g qs
LevelledItem g grammar.init i = IsLevelledInit (scope_of g) i
LevelledItem g (grammar.inits is) js = AreLevelledInits (scope_of g) (view.inits is) → HasSome is → AreLevelledInits (scope_of g) (view.inits js.all) × HasSome js.all
LevelledItem g (grammar.behind_init_comma is) js = AreLevelledInits (scope_of g) (view.inits is) → HasSome is → AreLevelledInits (scope_of g) (view.inits js.all) × HasSome js.all
LevelledItem g grammar.declaration d = IsLevelledDeclaration (scope_of g) d
LevelledItem g grammar.items is = AreLevelledItems (scope_of g) (make.all_items is.all)
LevelledItem g grammar.item is = AreLevelledItems (scope_of g) (make.all_items is.all)
LevelledItem g grammar.initial v = IsLevelledStart (scope_of g) (make.some_init v)
LevelledItem g (grammar.declarations ds) es = AreLevelledDeclarations (scope_of g) (view.declarations ds) → AreLevelledDeclarations (scope_of g) (view.declarations es)
LevelledItem g (grammar.more_items is) js = AreLevelledItems (scope_of g) (make.all_items is.all) → AreLevelledItems (scope_of g) (make.all_items js.all)
LevelledItem g grammar.optional_expression v = IsLevelledMaybe (scope_of g) 0 (view.maybe_expression v)
LevelledItem g _ o = ⊤

abbrev pub LevelledAnswer : (n : Ask syntax_trees) → List Terminal → Answer n → Type 0
LevelledAnswer (at g i) ws o = LevelledItem g i o
LevelledAnswer _ ws o = ⊤
