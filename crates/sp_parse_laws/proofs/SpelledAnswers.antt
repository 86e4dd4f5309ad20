-- What each answer of C90's grammar spells: the tokens read for it, behind those of the part that its ask carries.
use Rattle.std.proofs.Common.{◌≡◌, ◌≤◌, ℕ, true, false, List, [], ◌∷◌, ◌++◌}
use Rattle.std.specs.Prelude.{⊤, is_some}
use Rattle.sp_tree.specs.declared.fault.Place.{Place}
use Rattle.sp_tree.specs.declared.token.Keyword.TheVariants as words
use Rattle.sp_tree.specs.declared.token.Kind.TheVariants as kinds
use Rattle.sp_tree.specs.declared.token.Punct.TheVariants as puncts
use Rattle.sp_parse_trees.specs.Syntax.{Declarator, InitDeclarator}
use Rattle.sp_parse_trees.specs.Levels.{declared_name}
use Rattle.sp_parse_grammar.specs.CTokens as tokens
use Rattle.sp_parse_grammar.specs.CTokens.{Seen, is_typed}
use Rattle.sp_parse_grammar.specs.CTable as grammar
use Rattle.sp_parse_grammar.specs.CTable.{Ask, Answer, ItemAnswer, at, unit, whole}
use Rattle.sp_parse_tokens.specs.Sorts.{Terminal}
use Rattle.sp_parse_tokens.specs.SyntaxTrees.{syntax_trees}
use Rattle.sp_parse_tokens.specs.Makers as make
use Rattle.sp_parse_tokens.specs.Depths.{Part}
use Rattle.sp_parse_laws.proofs.TokenKinds.{Of}
use Rattle.sp_parse_laws.specs.Spelled.{Agrees}
use Rattle.sp_parse_laws.proofs.Spelling.{SE, SArgs, HasSome, AllTexts}
use Rattle.sp_parse_laws.proofs.SpellingLists.{SSpecs, SInits, SItems, SDeclarations}
use Rattle.sp_parse_laws.proofs.SpellingParts.{SSpec, SMaybe, SEnumerator, SEnumerators}
use Rattle.sp_parse_laws.proofs.SpellingDeclarators.{SD, SParam, SParameters, STypeName, SInit, SList, SStart, SItem, SDeclaration, FirstAt, AllQualifiers}

-- what the declarator of a form declares
abbrev pub Names : grammar.Form → Declarator → Type 0
Names grammar.concrete d = is_some (declared_name d) ≡ true
Names _ d = ⊤

-- specifiers, the first at the place of its token
pub record SSpecifiers (ws : List Terminal) (ss : List make.SpecifierAt) : Type 0 where
  pub all : SSpecs ws ss
  pub some : HasSome ss
  pub first : (at : ℕ → Place) → Agrees at ws → FirstAt at ss

-- those read so far: none, or some
pub data SoFar : List Terminal → List make.SpecifierAt → Type 0 where
  none_yet : SoFar [] []
  some_yet : {ws : List Terminal} {ss : List make.SpecifierAt} → SSpecifiers ws ss → SoFar ws ss

abbrev pub IsOpening : Terminal → Type 0
IsOpening x = x.what.kind ≡ kinds.Mark puncts.LeftParenthesis

abbrev pub IsComma : Terminal → Type 0
IsComma x = x.what.kind ≡ kinds.Mark puncts.Comma

abbrev pub IsSizeof : Terminal → Type 0
IsSizeof x = x.what.kind ≡ kinds.Word words.Sizeof

abbrev pub IsStruct : Terminal → Type 0
IsStruct x = Of (tokens.mark tokens.struct) x.what.kind

abbrev pub IsEnum : Terminal → Type 0
IsEnum x = x.what.kind ≡ kinds.Word words.Enum

abbrev pub IsName : Terminal → Type 0
IsName x = (n : ℕ) × (x.what.kind ≡ kinds.Name n)

abbrev pub SpelledItem : (i : Part) → List Terminal → ItemAnswer i → Type 0
SpelledItem (grammar.level k) ws o = k ≤ 13 → SE ws o.tree
SpelledItem (grammar.after k l) ws o = 1 ≤ k → k ≤ 13 → (us : List Terminal) → SE us l.tree → SE (us ++ ws) o.tree
SpelledItem (grammar.tail k l) ws o = k ≤ 13 → (us : List Terminal) → SE us l.tree → SE (us ++ ws) o.tree
SpelledItem (grammar.behind_open y) ws o = IsOpening y → SE (y ∷ ws) o.tree
SpelledItem grammar.unary ws e = SE ws e
SpelledItem grammar.primary ws e = SE ws e
SpelledItem grammar.arguments ws es = SArgs ws es
SpelledItem (grammar.behind_sizeof y) ws e = IsSizeof y → SE (y ∷ ws) e
SpelledItem (grammar.inside_sizeof y z) ws e = IsSizeof y → IsOpening z → SE (y ∷ z ∷ ws) e
SpelledItem (grammar.texts xs) ws ys = (ys ≡ xs ++ ws) × AllTexts ws
SpelledItem (grammar.suffixes f) ws e = (us : List Terminal) → SE us f → SE (us ++ ws) e
SpelledItem (grammar.more_arguments es) ws fs = (us : List Terminal) → HasSome es → SArgs us es → SArgs (us ++ ws) fs
SpelledItem grammar.type_name ws n = STypeName ws n.tree
SpelledItem grammar.optional_specifiers ws sp = SoFar ws sp.all
SpelledItem (grammar.specifiers stores seen sp) ws o = (us : List Terminal) → SoFar us sp.all → (is_typed seen ≡ true → HasSome sp.all) → SSpecifiers (us ++ ws) o.all
SpelledItem (grammar.behind_struct y) ws s = IsStruct y → SSpec (y ∷ ws) s × (s.place ≡ y.what.place)
SpelledItem (grammar.behind_enum y) ws s = IsEnum y → SSpec (y ∷ ws) s × (s.place ≡ y.what.place)
SpelledItem (grammar.struct_body y z) ws s = IsStruct y → IsName z → SSpec (y ∷ z ∷ ws) s × (s.place ≡ y.what.place)
SpelledItem (grammar.enum_body y z) ws s = IsEnum y → IsName z → SSpec (y ∷ z ∷ ws) s × (s.place ≡ y.what.place)
SpelledItem grammar.member ws d = SDeclaration ws d
SpelledItem grammar.enumerator ws e = SEnumerator ws e
SpelledItem grammar.value_of ws v = SMaybe (kinds.Mark puncts.Assign ∷ []) 1 ws v
SpelledItem (grammar.members ds) ws es = (us : List Terminal) → SDeclarations us ds → SDeclarations (us ++ ws) es
SpelledItem (grammar.member_items is) ws js = (us : List Terminal) → HasSome is.all → SItems us is.all → SItems (us ++ ws) js.all
SpelledItem (grammar.enumerators es) ws fs = (us : List Terminal) → HasSome es → SEnumerators us es → SEnumerators (us ++ ws) fs
SpelledItem (grammar.qualifiers xs) ws ys = (ys ≡ xs ++ ws) × AllQualifiers ws
SpelledItem (grammar.declarator f) ws d = SD ws d.tree × Names f d.tree
SpelledItem (grammar.direct f) ws d = SD ws d.tree × Names f d.tree
SpelledItem (grammar.group f) ws d = SD ws d.tree × Names f d.tree
SpelledItem (grammar.behind_group f y) ws d = IsOpening y → SD (y ∷ ws) d.tree × Names f d.tree
SpelledItem (grammar.declarator_suffixes d) ws e = (us : List Terminal) → SD us d.tree → SD (us ++ ws) e.tree × (is_some (declared_name e.tree) ≡ is_some (declared_name d.tree))
SpelledItem grammar.array_length ws v = SMaybe [] 0 ws v
SpelledItem grammar.parameters ws ps = SParameters ws ps
SpelledItem grammar.parameter ws p = SParam ws p.tree
SpelledItem (grammar.more_parameters ps) ws qs = (us : List Terminal) → HasSome ps.all → ps.dots ≡ false → SParameters us ps → SParameters (us ++ ws) qs
SpelledItem (grammar.behind_comma c ps) ws qs = (us : List Terminal) → HasSome ps.all → ps.dots ≡ false → SParameters us ps → IsComma c → SParameters (us ++ c ∷ ws) qs
SpelledItem grammar.init ws i = SInit ws i
SpelledItem (grammar.inits is) ws js = (us : List Terminal) → HasSome is → SInits us is → SList (us ++ ws) js.all js.comma
SpelledItem (grammar.behind_init_comma is) ws js = (us : List Terminal) (c : Terminal) → HasSome is → SInits us is → IsComma c → SList (us ++ c ∷ ws) js.all js.comma
SpelledItem grammar.declaration ws d = SDeclaration ws d
SpelledItem grammar.items ws is = SItems ws is.all
SpelledItem grammar.item ws is = (i : InitDeclarator) × (is.all ≡ i ∷ []) × SItem ws i
SpelledItem grammar.initial ws v = SStart ws v
SpelledItem (grammar.declarations ds) ws es = (us : List Terminal) → SDeclarations us ds → SDeclarations (us ++ ws) es
SpelledItem (grammar.more_items is) ws js = (us : List Terminal) → HasSome is.all → SItems us is.all → SItems (us ++ ws) js.all
SpelledItem grammar.optional_expression ws v = SMaybe [] 0 ws v
SpelledItem _ ws o = ⊤

abbrev pub SpelledAnswer : (n : Ask syntax_trees) → List Terminal → Answer n → Type 0
SpelledAnswer (at g i) ws o = SpelledItem i ws o
SpelledAnswer _ ws o = ⊤
