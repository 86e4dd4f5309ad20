-- Declarations with their initialisers are read from their tokens.
use Rattle.std.proofs.Common.{◌≡◌, ◌<◌, true, false, List, [], ◌∷◌, ◌++◌, Some, refl, ap, ap₂, ◌∙◌, arith, append_assoc}
use Rattle.std.specs.Prelude.{⊤}
use Rattle.sp_tree.specs.declared.token.Kind.TheVariants as kinds
use Rattle.sp_tree.specs.declared.token.Punct.TheVariants as puncts
use Rattle.sp_parse_trees.specs.Syntax.{Specifiers, MaybeInit, no_init, some_init, InitDeclarator, init_declarator, InitDeclarators, no_items, next_item, Declaration, declaration, Declarations, no_declarations, next_declaration}
use Rattle.sp_parse_trees.specs.Spelling.{specifiers_tokens, declarator_tokens, init_tokens, maybe_init_tokens, item_tokens, items_tokens, declaration_tokens, declarations_tokens}
use Rattle.sp_parse_trees.specs.Levels.{IsLevelledStart, IsLevelledItem, AreLevelledItems, IsLevelledDeclaration, AreLevelledDeclarations}
use Rattle.sp_parse_trees.specs.View as view
use Rattle.sp_parse_grammar.specs.CTokens as tokens
use Rattle.sp_parse_grammar.specs.CTokens.{Sort, is_mark, looseness, is_declaring}
use Rattle.sp_parse_grammar.specs.CTable as grammar
use Rattle.sp_parse_grammar.specs.CTable.{Context, begins_items, begins_specifiers, IsBehindSpecifiers, IsBehindItem}
use Rattle.sp_parse_grammar.proofs.CChecked.{if_true}
use Rattle.sp_parse_tokens.specs.Makers as make
use Rattle.sp_parse_tokens.specs.Sorts.{Terminal, nowhere}
use Rattle.sp_parse_tokens.specs.SyntaxTrees.{syntax_trees}
use Rattle.sp_parse_laws.specs.Spelled.{kinds_at}
use Rattle.sp_parse_laws.specs.Bare.{bare_start, bare_item, bare_items, bare_declaration, bare_declarations}
use Rattle.sp_parse_laws.proofs.BareAnswers.{before_items, no_item_behind, item_behind, before_declarations, no_declaration_behind, declaration_behind}
use Rattle.sp_parse_laws.proofs.CompleteParts.{Next, Commas, no_comma, a_comma}
use Rattle.sp_parse_laws.proofs.LevelledAnswers.{scope_of}
use Rattle.sp_parse_laws.proofs.Steps.{IsRead, next_kind, next_none, next_comma, next_maps, next_before, part, last_part, mark, finish, finished, begun, from_first, none_read}
use Rattle.sp_parse_laws.proofs.PartsRead.{specifiers_read, specifiers_first, declarator_read, declarator_first, items_stop_specifiers}
use Rattle.sp_parse_laws.proofs.InitsRead.{init_read}

-- ---- a declarator with its initialiser

pub start_read : (g : Context) (v : MaybeInit) → IsLevelledStart (scope_of g) v → IsRead g grammar.initial (λ s. 12 < looseness s) (maybe_init_tokens v) (λ o. bare_start (make.some_init o) ≡ bare_start v)
start_read g no_init h = none_read g grammar.initial (λ s. 12 < looseness s) (λ o. bare_start (make.some_init o) ≡ no_init) refl (λ s f. f) refl
start_read g (some_init i) h = record {
  read = λ ws rest e n.
      begun (kinds.Mark puncts.Assign) (init_tokens i) (tokens.mark tokens.equal) ws rest rest e refl (λ x. refl) (λ x vs k e1.
      last_part vs rest rest (init_read g i h) e1 n (λ o same. finished (Some o) rest (ap (λ v. some_init v) same)));
}

-- what is behind the declarator
pub before_start : (g : Context) (v : MaybeInit) (vs rest : List Terminal) → kinds_at vs ≡ maybe_init_tokens v → Next g (λ s. is_declaring s ≡ false) rest → Next g (λ s. is_declaring s ≡ false) (vs ++ rest)
before_start g no_init vs rest e n = next_none g (λ s. is_declaring s ≡ false) vs rest e n
before_start g (some_init i) vs rest e n = next_kind g (λ s. is_declaring s ≡ false) (kinds.Mark puncts.Assign) (init_tokens i) vs rest refl e

-- a list of one declarator, which is this one but for its places
pub record IsOneItem (all : List InitDeclarator) (i : InitDeclarator) : Type 0 where
  pub item : InitDeclarator
  pub whole : all ≡ item ∷ []
  pub alike : bare_item item ≡ bare_item i

abbrev pub IsBehindOne : Sort → Type 0
IsBehindOne s = (12 < looseness s) × (is_declaring s ≡ false)

pub item_read : (g : Context) (i : InitDeclarator) → IsLevelledItem (scope_of g) i → IsRead g grammar.item IsBehindOne (item_tokens i) (λ o. IsOneItem o.all i)
item_read g (init_declarator d v) h = record {
  read = λ ws rest e n.
      let next = next_maps g IsBehindOne (λ s. is_declaring s ≡ false) rest (λ s f. f.1) n in
      from_first (ws ++ rest) rest (next_before g (λ s. begins_items s ≡ true) (declarator_tokens d) (maybe_init_tokens v) ws rest (λ us more f. declarator_first g d h.0 h.1 us more f) e) (λ x s f. refl)
      (part (declarator_tokens d) (maybe_init_tokens v) ws rest rest (declarator_read g d h.0 h.1) e (λ vs e1. before_start g v vs rest e1 next) (λ o vs same e1.
      last_part vs rest rest (start_read g v h.2) e1 (next_maps g IsBehindOne (λ s. 12 < looseness s) rest (λ s f. f.0) n) (λ p alike.
      finished (grammar.one_item o p) rest (record { item = make.make_item o.tree p; whole = refl; alike = ap₂ (λ u w. init_declarator u w) same alike }))));
}

pub item_first : (g : Context) (i : InitDeclarator) → IsLevelledItem (scope_of g) i → (ws rest : List Terminal) → kinds_at ws ≡ item_tokens i → Next g (λ s. begins_items s ≡ true) (ws ++ rest)
item_first g (init_declarator d v) h ws rest e = next_before g (λ s. begins_items s ≡ true) (declarator_tokens d) (maybe_init_tokens v) ws rest (λ us more f. declarator_first g d h.0 h.1 us more f) e

-- ---- lists of declarators

pub item_commas : (is : InitDeclarators) → Commas (items_tokens (kinds.Mark puncts.Comma ∷ []) is)
item_commas no_items = no_comma
item_commas (next_item i is) = a_comma _

loose : (s : Sort) → 13 < looseness s → 12 < looseness s
loose s h = omega (arith, h)

pub more_items_read : (g : Context) (ms : InitDeclarators) → AreLevelledItems (scope_of g) ms → (is : grammar.Items syntax_trees) → IsRead g (grammar.more_items is) IsBehindItem (items_tokens (kinds.Mark puncts.Comma ∷ []) ms) (λ o. bare_items (make.all_items o.all) ≡ before_items is.all (bare_items ms))
more_items_read g no_items h is = none_read g (grammar.more_items is) IsBehindItem (λ o. bare_items (make.all_items o.all) ≡ before_items is.all no_items) refl (λ s f. f) (no_item_behind is.all)
more_items_read g (next_item i ms) h is = record {
  read = λ ws rest e n.
      begun (kinds.Mark puncts.Comma) (item_tokens i ++ items_tokens (kinds.Mark puncts.Comma ∷ []) ms) (tokens.mark tokens.comma) ws rest rest e refl (λ x. refl) (λ x vs k e1.
      part (item_tokens i) (items_tokens (kinds.Mark puncts.Comma ∷ []) ms) vs rest rest (item_read g i h.0) e1 (λ us e2. next_comma g IsBehindOne _ us rest (item_commas ms) (omega arith, refl) e2 (next_maps g IsBehindItem IsBehindOne rest (λ s f. (loose s f.0, f.1)) n)) (λ o us one e2.
      last_part us rest rest (more_items_read g ms h.1 (grammar.both_items is o)) e2 n (λ p same.
      finished p rest (same ∙ ap (λ v. before_items (is.all ++ v) (bare_items ms)) one.whole ∙ item_behind is.all one.item (bare_items ms) ∙ ap (λ v. before_items is.all (next_item v (bare_items ms))) one.alike))));
}

abbrev pub IsBehindItems : Sort → Type 0
IsBehindItems s = (begins_items s ≡ false) × IsBehindItem s

pub items_read : (g : Context) (ms : InitDeclarators) → AreLevelledItems (scope_of g) ms → IsRead g grammar.items IsBehindItems (items_tokens [] ms) (λ o. bare_items (make.all_items o.all) ≡ bare_items ms)
items_read g no_items h = none_read g grammar.items IsBehindItems (λ o. bare_items (make.all_items o.all) ≡ no_items) refl (λ s f. f) refl
items_read g (next_item i ms) h = record {
  read = λ ws rest e n.
      from_first (ws ++ rest) rest (next_before g (λ s. begins_items s ≡ true) (item_tokens i) (items_tokens (kinds.Mark puncts.Comma ∷ []) ms) ws rest (λ us more f. item_first g i h.0 us more f) e) (λ x s f. if_true (begins_items s) _ _ f)
      (part (item_tokens i) (items_tokens (kinds.Mark puncts.Comma ∷ []) ms) ws rest rest (item_read g i h.0) e (λ us e2. next_comma g IsBehindOne _ us rest (item_commas ms) (omega arith, refl) e2 (next_maps g IsBehindItems IsBehindOne rest (λ s f. (loose s f.1.0, f.1.1)) n)) (λ o us one e2.
      last_part us rest rest (more_items_read g ms h.1 o) e2 (next_maps g IsBehindItems IsBehindItem rest (λ s f. f.1) n) (λ p same.
      finished p rest (same ∙ ap (λ v. before_items v (bare_items ms)) one.whole ∙ ap (λ v. next_item v (bare_items ms)) one.alike))));
}

-- a declarator, or what is behind the list
items_first : (g : Context) (ms : InitDeclarators) → AreLevelledItems (scope_of g) ms → (vs rest : List Terminal) → kinds_at vs ≡ items_tokens [] ms ++ kinds.Mark puncts.Semicolon ∷ [] → Next g IsBehindSpecifiers (vs ++ rest)
items_first g no_items h vs rest e = next_kind g IsBehindSpecifiers (kinds.Mark puncts.Semicolon) [] vs rest (refl, refl) e
items_first g (next_item i ms) h vs rest e =
    next_maps g (λ s. begins_items s ≡ true) IsBehindSpecifiers (vs ++ rest) (λ s f. items_stop_specifiers s f)
    (next_before g (λ s. begins_items s ≡ true) (item_tokens i) _ vs rest (λ us more f. item_first g i h.0 us more f) (e ∙ append_assoc (item_tokens i) (items_tokens (kinds.Mark puncts.Comma ∷ []) ms) (kinds.Mark puncts.Semicolon ∷ [])))

-- ---- declarations

by_specifiers : (ss : Specifiers) (is : InitDeclarators) → (specifiers_tokens ss ++ items_tokens [] is) ++ kinds.Mark puncts.Semicolon ∷ [] ≡ specifiers_tokens ss ++ (items_tokens [] is ++ kinds.Mark puncts.Semicolon ∷ [])
by_specifiers ss is = append_assoc (specifiers_tokens ss) (items_tokens [] is) (kinds.Mark puncts.Semicolon ∷ [])

pub declaration_first : (g : Context) (d : Declaration) → IsLevelledDeclaration (scope_of g) d → (ws rest : List Terminal) → kinds_at ws ≡ declaration_tokens d → Next g (λ s. begins_specifiers true g.inside s ≡ true) (ws ++ rest)
declaration_first g (declaration ss is p) h ws rest e =
    next_before g (λ s. begins_specifiers true g.inside s ≡ true) (specifiers_tokens ss) _ ws rest (λ us more f. specifiers_first g ss h.0 h.1 h.2 us more f) (e ∙ by_specifiers ss is)

pub declaration_read : (g : Context) (d : Declaration) → IsLevelledDeclaration (scope_of g) d → IsRead g grammar.declaration (λ s. ⊤) (declaration_tokens d) (λ o. bare_declaration o ≡ bare_declaration d)
declaration_read g (declaration ss is p) h = record {
  read = λ ws rest e n.
      from_first (ws ++ rest) rest (declaration_first g (declaration ss is p) h ws rest e) (λ x s f. refl)
      (part (specifiers_tokens ss) (items_tokens [] is ++ kinds.Mark puncts.Semicolon ∷ []) ws rest rest (specifiers_read g ss h.0 h.1 h.2) (e ∙ by_specifiers ss is) (λ vs e1. items_first g is h.3 vs rest e1) (λ sp vs first e1.
      part (items_tokens [] is) (kinds.Mark puncts.Semicolon ∷ []) vs rest rest (items_read g is h.3) e1 (λ us e2. next_kind g IsBehindItems (kinds.Mark puncts.Semicolon) [] us rest (refl, (omega arith, refl)) e2) (λ o us same e2.
      mark (kinds.Mark puncts.Semicolon) [] us rest rest e2 refl (λ y us k e3.
      finish (syntax_trees.declaration sp.all o.all) us rest e3 (ap₂ (λ u v. declaration u v nowhere) first same)))));
}

pub declarations_read : (g : Context) (ms : Declarations) → AreLevelledDeclarations (scope_of g) ms → (ds : List Declaration) → IsRead g (grammar.declarations ds) (λ s. begins_specifiers true g.inside s ≡ false) (declarations_tokens ms) (λ o. bare_declarations (view.declarations o) ≡ before_declarations ds (bare_declarations ms))
declarations_read g no_declarations h ds = none_read g (grammar.declarations ds) (λ s. begins_specifiers true g.inside s ≡ false) (λ o. bare_declarations (view.declarations o) ≡ before_declarations ds no_declarations) refl (λ s f. f) (no_declaration_behind ds)
declarations_read g (next_declaration d ms) h ds = record {
  read = λ ws rest e n.
      from_first (ws ++ rest) rest (next_before g (λ s. begins_specifiers true g.inside s ≡ true) (declaration_tokens d) (declarations_tokens ms) ws rest (λ us more f. declaration_first g d h.0 us more f) e) (λ x s f. if_true (begins_specifiers true g.inside s) _ _ f)
      (part (declaration_tokens d) (declarations_tokens ms) ws rest rest (declaration_read g d h.0) e (λ vs e1. some_next g vs rest n) (λ o vs same e1.
      last_part vs rest rest (declarations_read g ms h.1 (ds ++ o ∷ [])) e1 n (λ p alike.
      finished p rest (alike ∙ declaration_behind ds o (bare_declarations ms) ∙ ap (λ v. before_declarations ds (next_declaration v (bare_declarations ms))) same))));
}
  where
    some_next : (g : Context) (vs rest : List Terminal) → Next g (λ s. begins_specifiers true g.inside s ≡ false) rest → Next g (λ s. ⊤) (vs ++ rest)
    some_next g [] rest n = record { first = n.first; rest = n.rest; whole = n.whole; holds = tt }
    some_next g (x ∷ vs) rest n = record { first = x; rest = vs ++ rest; whole = refl; holds = tt }
