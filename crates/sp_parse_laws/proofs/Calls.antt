-- The four calls on expressions, type names, lists of specifiers and declarators: each ask reads exactly the levelled trees, so
-- what is read is the longest and at a fault stands the failing token (proofs/Lifts.antt).
use Rattle.std.proofs.Common.{◌≡◌, ℕ, suc, ◌+◌, true, false, ◌⊎◌, inl, inr, List, [], ◌∷◌, ◌++◌, length, refl, sym, ap, ◌∙◌, subst, arith}
use mathlib.Core.Path.{fun_ext}
use Rattle.sp_tree.specs.declared.fault.Place.{Place}
use Rattle.sp_tree.specs.declared.token.Kind.{Kind}
use Rattle.sp_tree.specs.declared.token.Token.{Token}
use Rattle.sp_parse_trees.specs.Syntax.{Specifiers, no_specifiers, TypeName, type_name}
use Rattle.sp_parse_trees.specs.Spelling.{tokens_of, type_name_tokens, specifiers_tokens, declarator_tokens}
use Rattle.sp_parse_trees.specs.Places.{place_at, behind, Spells, Placed, PlacedTypeName, PlacedSpecifiers, PlacedDeclarator}
use Rattle.sp_parse_trees.specs.Levels.{is_specifier_list, IsLevelledTypeName, AreLevelledSpecifiers}
use Rattle.sp_parse_trees.specs.Depth.{depth, specifiers_depth, type_name_depth, declarator_depth}
use Rattle.sp_parse_tokens.specs.Depths.{c_depths}
use Rattle.sp_parse_grammar.specs.CTokens.{nothing_seen}
use Rattle.sp_parse_grammar.specs.CTable as grammar
use Rattle.sp_parse_grammar.specs.CTable.{Ask, Answer, at}
use Rattle.sp_parse_grammar.specs.Table.{ask, Reads, read_done}
use Rattle.sp_parse_grammar.proofs.Readings.{join, at_tokens}
use Rattle.sp_parse_tokens.specs.Sorts.{Terminal, c_tokens}
use Rattle.sp_parse_tokens.specs.SyntaxTrees.{c_table}
use Rattle.sp_parse_laws.specs.Bare.{bare, bare_type_name, bare_specifiers, bare_declarator}
use Rattle.sp_parse_tokens.specs.Makers as make
use Rattle.sp_parse_laws.specs.Answers.{expressions, type_names, specifier_lists, declarators, expression_ask, type_name_ask, specifiers_ask, declarator_ask}
use Rattle.sp_parse_laws.proofs.BareTrees.{bare_tokens, bare_specifiers_tokens, bare_declarator_tokens, bare_type_name_tokens, bare_depth, bare_specifiers_depth, bare_declarator_depth, bare_type_name_depth}
use Rattle.sp_parse_laws.proofs.BareAnswers.{settle_type_bare}
use Rattle.sp_parse_laws.proofs.Placing.{put, put_specifiers, put_declarator, put_type_name, restored, restored_specifiers, restored_declarator, restored_type_name}
use Rattle.sp_parse_laws.specs.Spelled.{kinds_at, Agrees}
use Rattle.sp_parse_laws.proofs.SpellingDeclarators.{settle_type_tokens, settled}
use Rattle.sp_parse_laws.proofs.SpelledAnswers.{SoFar, none_yet, some_yet}
use Rattle.sp_parse_laws.proofs.SpelledTable.{is_spelled}
use Rattle.sp_parse_laws.proofs.LevelledLists.{settle_type_levelled}
use Rattle.sp_parse_laws.proofs.LevelledTable.{is_levelled}
use Rattle.sp_parse_laws.proofs.Lifts.{Reader, the_end, kinds_of_tokens}
use Rattle.sp_parse_laws.proofs.CompleteTrees.{complete, specifiers_of, declarator_of, of_list, none_declared}
use Rattle.sp_parse_grammar.specs.CTokens.{view}
use Rattle.sp_parse_grammar.proofs.CChecked.{if_true}
use Rattle.sp_parse_laws.proofs.Completing.{nothing, chosen}
use Rattle.sp_parse_laws.proofs.CompleteExpressions.{none_left}
use Rattle.sp_parse_laws.proofs.LevelledAnswers.{scope_of}
use Rattle.sp_parse_laws.proofs.CompleteSpecifiers.{from_nothing}
use Rattle.sp_parse_laws.proofs.CompleteLists.{type_read}

-- ---- the places of a list

pub place_next : (x : Token) (xs : List Token) → behind 1 (place_at (x ∷ xs)) ≡ place_at xs
place_next x xs = fun_ext (λ i. let size : 1 + i ≡ suc i = omega arith in ap (place_at (x ∷ xs)) size)

pub agreeing : (front rest : List Token) → Agrees (place_at (front ++ rest)) (c_tokens front)
agreeing [] rest = tt
agreeing (x ∷ front) rest = (refl, subst (λ f. Agrees f (c_tokens front)) (sym (place_next x (front ++ rest))) (agreeing front rest))

-- the token behind the front
pub place_behind : (front : List Token) (next : Token) (more : List Token) → place_at (front ++ next ∷ more) (length (c_tokens front)) ≡ next.place
place_behind [] next more = refl
place_behind (x ∷ front) next more = place_behind front next more

pub spelled_front : (tokens front : List Token) (next : Token) (more : List Token) (ks : List Kind) → tokens ≡ front ++ next ∷ more → ks ≡ kinds_at (c_tokens front) → Spells tokens ks (next ∷ more)
spelled_front tokens front next more ks whole same = record { front = front; whole = whole; kinds_of = sym (kinds_of_tokens front) ∙ sym same }

-- ---- expressions

abbrev pub expression_reader : (types : List ℕ) → Reader expressions types (expression_ask types)
expression_reader types = record {
  tree = λ a p. a.tree;
  spells = λ front ys a p r. (is_spelled (expression_ask types) front ys a r (omega arith)).spells;
  levelled = λ front ys a p r. (is_levelled (expression_ask types) front ys a r (omega arith)).levelled;
  placed = λ tokens front next more a whole r.
      let s = is_spelled (expression_ask types) (c_tokens front) (c_tokens (next ∷ more)) a r (omega arith) in
      (spelled_front tokens front next more (tokens_of a.tree) whole s.spells, subst (λ v. Placed (place_at v) a.tree) (sym whole) (s.places (place_at (front ++ next ∷ more)) (agreeing front (next ∷ more))));
  complete = λ t levelled ws zs same.
      let r = (complete (grammar.outside types) t levelled).levels 13 (omega arith) (omega arith) ws the_end zs same (omega arith) in
      (r.answer, r.read, sym (bare_depth r.answer.tree) ∙ ap depth r.alike ∙ bare_depth t, λ p. r.alike);
  bare = bare;
  kept = bare_tokens;
  spelled = λ tokens rest t h. h.0;
  one_placed = λ tokens rest more a b same h k. sym (restored (place_at tokens) a h.1) ∙ ap (put (place_at tokens)) same ∙ restored (place_at tokens) b k.1;
  stops = omega arith;
}

-- ---- type names

abbrev pub type_name_reader : (types : List ℕ) → Reader type_names types (type_name_ask types)
type_name_reader types = record {
  tree = λ a p. make.settle_type p a.tree;
  spells = λ front ys a p r. settle_type_tokens p a.tree ∙ (is_spelled (type_name_ask types) front ys a r).spells;
  levelled = λ front ys a p r. settle_type_levelled _ p a.tree (is_levelled (type_name_ask types) front ys a r);
  placed = λ tokens front next more a whole r.
      let s = is_spelled (type_name_ask types) (c_tokens front) (c_tokens (next ∷ more)) a r in
      (spelled_front tokens front next more (type_name_tokens (make.settle_type next.place a.tree)) whole (settle_type_tokens next.place a.tree ∙ s.spells), subst (λ v. PlacedTypeName (place_at v) (make.settle_type next.place a.tree)) (sym whole) (s.places (place_at (front ++ next ∷ more)) next.place (agreeing front (next ∷ more)) (place_behind front next more)));
  complete = λ t levelled ws zs same. type_complete t levelled ws zs same;
  bare = bare_type_name;
  kept = bare_type_name_tokens;
  spelled = λ tokens rest t h. h.0;
  one_placed = λ tokens rest more a b same h k. sym (restored_type_name (place_at tokens) a h.1) ∙ ap (put_type_name (place_at tokens)) same ∙ restored_type_name (place_at tokens) b k.1;
  stops = ((refl, refl), refl);
}
  where
    type_complete : (t : TypeName) → IsLevelledTypeName (scope_of (grammar.outside types)) t → (ws zs : List Terminal) → kinds_at ws ≡ type_name_tokens t → (a : Answer (type_name_ask types)) × Reads c_table (type_name_ask types) (ask (type_name_ask types)) (ws ++ the_end ∷ zs) a (the_end ∷ zs) × (c_depths.depth (type_name_ask types) a ≡ type_name_depth t) × ((p : Place) → bare_type_name (make.settle_type p a.tree) ≡ bare_type_name t)
    type_complete (type_name ss d) h ws zs same =
        let r = type_read (grammar.outside types) ss d (specifiers_of (grammar.outside types) ss h.2 0 [] (of_list ss h.1)) (from_nothing (grammar.outside types) false ss h.1 (λ e. h.0) (none_declared (grammar.outside types) ss h.0)) (declarator_of (grammar.outside types) d h.4) h.3 ws the_end zs same ((refl, refl), refl) in
        (r.answer, r.read, sym (bare_type_name_depth r.answer.tree) ∙ ap type_name_depth r.alike ∙ bare_type_name_depth (type_name ss d), λ p. settle_type_bare p r.answer.tree ∙ r.alike)

-- ---- declarators

abbrev pub declarator_reader : (types : List ℕ) → Reader declarators types (declarator_ask types)
declarator_reader types = record {
  tree = λ a p. a.tree;
  spells = λ front ys a p r. (is_spelled (declarator_ask types) front ys a r).0.spells;
  levelled = λ front ys a p r. let l = is_levelled (declarator_ask types) front ys a r in (l.names, l.levelled);
  placed = λ tokens front next more a whole r.
      let s = is_spelled (declarator_ask types) (c_tokens front) (c_tokens (next ∷ more)) a r in
      (spelled_front tokens front next more (declarator_tokens a.tree) whole s.0.spells, subst (λ v. PlacedDeclarator (place_at v) a.tree) (sym whole) (subst (λ d. PlacedDeclarator (place_at (front ++ next ∷ more)) d) (settled next.place a.tree s.1) (s.0.places (place_at (front ++ next ∷ more)) next.place (agreeing front (next ∷ more)) (place_behind front next more))));
  complete = λ t levelled ws zs same.
      let r = (declarator_of (grammar.outside types) t levelled.1).whole grammar.concrete levelled.0 ws the_end zs same refl in
      (r.answer, r.read, sym (bare_declarator_depth r.answer.tree) ∙ ap declarator_depth r.alike ∙ bare_declarator_depth t, λ p. r.alike);
  bare = bare_declarator;
  kept = bare_declarator_tokens;
  spelled = λ tokens rest t h. h.0;
  one_placed = λ tokens rest more a b same h k. sym (restored_declarator (place_at tokens) a h.1) ∙ ap (put_declarator (place_at tokens)) same ∙ restored_declarator (place_at tokens) b k.1;
  stops = refl;
}

-- ---- lists of specifiers

pub so_far : (ws : List Terminal) (ss : List make.SpecifierAt) → SoFar ws ss → specifiers_tokens (make.all_specifiers ss) ≡ kinds_at ws
so_far ws ss none_yet = refl
so_far ws ss (some_yet s) = s.all.spells

pub so_placed : (spots : ℕ → Place) (ws : List Terminal) (ss : List make.SpecifierAt) → SoFar ws ss → Agrees spots ws → PlacedSpecifiers spots (make.all_specifiers ss)
so_placed spots ws ss none_yet h = tt
so_placed spots ws ss (some_yet s) h = s.all.places spots h

pub list_complete : (types : List ℕ) (t : Specifiers) → (t ≡ no_specifiers) ⊎ ((is_specifier_list t ≡ true) × AreLevelledSpecifiers (scope_of (grammar.outside types)) t) → (ws zs : List Terminal) → kinds_at ws ≡ specifiers_tokens t → (a : Answer (specifiers_ask types)) × Reads c_table (specifiers_ask types) (ask (specifiers_ask types)) (ws ++ the_end ∷ zs) a (the_end ∷ zs) × (c_depths.depth (specifiers_ask types) a ≡ specifiers_depth t) × (bare_specifiers (make.all_specifiers a.all) ≡ bare_specifiers t)
list_complete types t (inl e) ws zs same =
    let empty : ws ≡ [] = none_left ws (same ∙ ap specifiers_tokens e) in
    (grammar.no_specifiers, at_tokens (ap (λ v. v ++ the_end ∷ zs) (sym empty)) (nothing (grammar.outside types) grammar.optional_specifiers the_end zs (refl, refl)), ap specifiers_depth (sym e), ap bare_specifiers (sym e))
list_complete types t (inr h) ws zs same =
    let g = grammar.outside types in
    let specs = specifiers_of g t h.1 0 [] (of_list t h.0) in
    let rest = from_nothing g true t h.0 (λ e. absurd cc) refl in
    let r = specs.read true nothing_seen 0 [] grammar.no_specifiers rest ws the_end zs same (refl, refl) in
    let f = specs.begins true nothing_seen 0 [] rest refl ws (the_end ∷ zs) same in
    (r.answer, at_tokens (sym f.whole) (chosen g grammar.optional_specifiers f.first (view types f.first.sort) _ f.rest (the_end ∷ zs) r.answer refl (if_true (grammar.begins_specifiers true false (view types f.first.sort)) _ _ f.holds) (join (at_tokens f.whole r.read) read_done)), sym (bare_specifiers_depth (make.all_specifiers r.answer.all)) ∙ ap specifiers_depth r.alike ∙ bare_specifiers_depth t, r.alike)

abbrev pub specifiers_reader : (types : List ℕ) → Reader specifier_lists types (specifiers_ask types)
specifiers_reader types = record {
  tree = λ a p. make.all_specifiers a.all;
  spells = λ front ys a p r. so_far front a.all (is_spelled (specifiers_ask types) front ys a r);
  levelled = λ front ys a p r. elim (is_levelled (specifiers_ask types) front ys a r) [
    | inl e ↦ inl (ap make.all_specifiers e)
    | inr l ↦ inr (l.list, l.each)
  ];
  placed = λ tokens front next more a whole r.
      let s = is_spelled (specifiers_ask types) (c_tokens front) (c_tokens (next ∷ more)) a r in
      (spelled_front tokens front next more (specifiers_tokens (make.all_specifiers a.all)) whole (so_far (c_tokens front) a.all s), subst (λ v. PlacedSpecifiers (place_at v) (make.all_specifiers a.all)) (sym whole) (so_placed (place_at (front ++ next ∷ more)) (c_tokens front) a.all s (agreeing front (next ∷ more))));
  complete = λ t levelled ws zs same. let c = list_complete types t levelled ws zs same in (c.0, c.1, c.2, λ p. c.3);
  bare = bare_specifiers;
  kept = bare_specifiers_tokens;
  spelled = λ tokens rest t h. h.0;
  one_placed = λ tokens rest more a b same h k. sym (restored_specifiers (place_at tokens) a h.1) ∙ ap (put_specifiers (place_at tokens)) same ∙ restored_specifiers (place_at tokens) b k.1;
  stops = (refl, refl);
}
