-- Each production of a list of specifiers keeps what is known of it.
use Rattle.std.proofs.Common.{◌≡◌, ℕ, ◌+◌, Bool, true, false, List, [], ◌∷◌, ◌++◌, Option, Some, None, refl, sym, ap, ap₂, ◌∙◌, subst, arith, append-nil}
use Rattle.std.specs.Prelude.{if◌then◌else◌, ◌||◌, ◌&&◌, not}
use Rattle.std.specs.List.{list_any, list_all}
use Rattle.sp_tree.specs.declared.token.Keyword.{Keyword}
use Rattle.sp_tree.specs.declared.token.Keyword.TheVariants as words
use Rattle.sp_tree.specs.declared.token.Kind.{Kind}
use Rattle.sp_tree.specs.declared.token.Kind.TheVariants as kinds
use Rattle.sp_parse_trees.specs.Words.{is_storage, is_typedef, is_qualifier}
use Rattle.sp_parse_trees.specs.Syntax as syntax
use Rattle.sp_parse_trees.specs.Syntax.{Specifier, next_specifier, no_specifiers}
use Rattle.sp_parse_trees.specs.Levels.{storages, basics, whole as counts_whole, wholes, most_one, IsLevelledSpecifier, AreLevelledSpecifiers}
use Rattle.sp_parse_grammar.specs.CTokens as tokens
use Rattle.sp_parse_grammar.specs.CTokens.{Sort, Seen, TypeWord, Length, Base, view as viewed, add, add_word, is_mark, is_typed, typed, whole_seen, nothing_seen}
use Rattle.sp_parse_grammar.specs.CTable as grammar
use Rattle.sp_parse_grammar.specs.CTable.{Context, Specified, specifiers_plan}
use Rattle.sp_parse_tokens.specs.Makers as make
use Rattle.sp_parse_tokens.specs.Sorts.{Terminal}
use Rattle.sp_parse_tokens.specs.SyntaxTrees.{syntax_trees}
use Rattle.sp_parse_laws.proofs.TokenKinds.{at_sort}
use Rattle.sp_parse_laws.proofs.SpecifierWords.{SeenWords, by_words, by_whole, is_one, word_more, whole_more, nothing_yet}
use Rattle.sp_parse_laws.proofs.LevelledAnswers.{scope_of, SpecifiersSoFar, LevelledSpecifiers, IsWholeType}
use Rattle.sp_parse_laws.proofs.LevelledLists as lists

-- ---- what is seen with one specifier more

stored_of : Option Seen → Bool → Bool
stored_of None b = b
stored_of (Some s) b = s.stored

word_keeps : (stored : Bool) (w : TypeWord) (signed : Bool) (length : Length) (base : Base) → stored_of (add_word stored w signed length base) stored ≡ stored
unfolding stored_of
word_keeps stored tokens.void true tokens.plain_length tokens.no_base = refl
word_keeps stored tokens.void true tokens.plain_length tokens.char_base = refl
word_keeps stored tokens.void true tokens.plain_length tokens.int_base = refl
word_keeps stored tokens.void true tokens.plain_length tokens.double_base = refl
word_keeps stored tokens.void true tokens.plain_length tokens.whole_base = refl
word_keeps stored tokens.void true tokens.short_length tokens.no_base = refl
word_keeps stored tokens.void true tokens.short_length tokens.char_base = refl
word_keeps stored tokens.void true tokens.short_length tokens.int_base = refl
word_keeps stored tokens.void true tokens.short_length tokens.double_base = refl
word_keeps stored tokens.void true tokens.short_length tokens.whole_base = refl
word_keeps stored tokens.void true tokens.long_length tokens.no_base = refl
word_keeps stored tokens.void true tokens.long_length tokens.char_base = refl
word_keeps stored tokens.void true tokens.long_length tokens.int_base = refl
word_keeps stored tokens.void true tokens.long_length tokens.double_base = refl
word_keeps stored tokens.void true tokens.long_length tokens.whole_base = refl
word_keeps stored tokens.void false tokens.plain_length tokens.no_base = refl
word_keeps stored tokens.void false tokens.plain_length tokens.char_base = refl
word_keeps stored tokens.void false tokens.plain_length tokens.int_base = refl
word_keeps stored tokens.void false tokens.plain_length tokens.double_base = refl
word_keeps stored tokens.void false tokens.plain_length tokens.whole_base = refl
word_keeps stored tokens.void false tokens.short_length tokens.no_base = refl
word_keeps stored tokens.void false tokens.short_length tokens.char_base = refl
word_keeps stored tokens.void false tokens.short_length tokens.int_base = refl
word_keeps stored tokens.void false tokens.short_length tokens.double_base = refl
word_keeps stored tokens.void false tokens.short_length tokens.whole_base = refl
word_keeps stored tokens.void false tokens.long_length tokens.no_base = refl
word_keeps stored tokens.void false tokens.long_length tokens.char_base = refl
word_keeps stored tokens.void false tokens.long_length tokens.int_base = refl
word_keeps stored tokens.void false tokens.long_length tokens.double_base = refl
word_keeps stored tokens.void false tokens.long_length tokens.whole_base = refl
word_keeps stored tokens.char true tokens.plain_length tokens.no_base = refl
word_keeps stored tokens.char true tokens.plain_length tokens.char_base = refl
word_keeps stored tokens.char true tokens.plain_length tokens.int_base = refl
word_keeps stored tokens.char true tokens.plain_length tokens.double_base = refl
word_keeps stored tokens.char true tokens.plain_length tokens.whole_base = refl
word_keeps stored tokens.char true tokens.short_length tokens.no_base = refl
word_keeps stored tokens.char true tokens.short_length tokens.char_base = refl
word_keeps stored tokens.char true tokens.short_length tokens.int_base = refl
word_keeps stored tokens.char true tokens.short_length tokens.double_base = refl
word_keeps stored tokens.char true tokens.short_length tokens.whole_base = refl
word_keeps stored tokens.char true tokens.long_length tokens.no_base = refl
word_keeps stored tokens.char true tokens.long_length tokens.char_base = refl
word_keeps stored tokens.char true tokens.long_length tokens.int_base = refl
word_keeps stored tokens.char true tokens.long_length tokens.double_base = refl
word_keeps stored tokens.char true tokens.long_length tokens.whole_base = refl
word_keeps stored tokens.char false tokens.plain_length tokens.no_base = refl
word_keeps stored tokens.char false tokens.plain_length tokens.char_base = refl
word_keeps stored tokens.char false tokens.plain_length tokens.int_base = refl
word_keeps stored tokens.char false tokens.plain_length tokens.double_base = refl
word_keeps stored tokens.char false tokens.plain_length tokens.whole_base = refl
word_keeps stored tokens.char false tokens.short_length tokens.no_base = refl
word_keeps stored tokens.char false tokens.short_length tokens.char_base = refl
word_keeps stored tokens.char false tokens.short_length tokens.int_base = refl
word_keeps stored tokens.char false tokens.short_length tokens.double_base = refl
word_keeps stored tokens.char false tokens.short_length tokens.whole_base = refl
word_keeps stored tokens.char false tokens.long_length tokens.no_base = refl
word_keeps stored tokens.char false tokens.long_length tokens.char_base = refl
word_keeps stored tokens.char false tokens.long_length tokens.int_base = refl
word_keeps stored tokens.char false tokens.long_length tokens.double_base = refl
word_keeps stored tokens.char false tokens.long_length tokens.whole_base = refl
word_keeps stored tokens.short true tokens.plain_length tokens.no_base = refl
word_keeps stored tokens.short true tokens.plain_length tokens.char_base = refl
word_keeps stored tokens.short true tokens.plain_length tokens.int_base = refl
word_keeps stored tokens.short true tokens.plain_length tokens.double_base = refl
word_keeps stored tokens.short true tokens.plain_length tokens.whole_base = refl
word_keeps stored tokens.short true tokens.short_length tokens.no_base = refl
word_keeps stored tokens.short true tokens.short_length tokens.char_base = refl
word_keeps stored tokens.short true tokens.short_length tokens.int_base = refl
word_keeps stored tokens.short true tokens.short_length tokens.double_base = refl
word_keeps stored tokens.short true tokens.short_length tokens.whole_base = refl
word_keeps stored tokens.short true tokens.long_length tokens.no_base = refl
word_keeps stored tokens.short true tokens.long_length tokens.char_base = refl
word_keeps stored tokens.short true tokens.long_length tokens.int_base = refl
word_keeps stored tokens.short true tokens.long_length tokens.double_base = refl
word_keeps stored tokens.short true tokens.long_length tokens.whole_base = refl
word_keeps stored tokens.short false tokens.plain_length tokens.no_base = refl
word_keeps stored tokens.short false tokens.plain_length tokens.char_base = refl
word_keeps stored tokens.short false tokens.plain_length tokens.int_base = refl
word_keeps stored tokens.short false tokens.plain_length tokens.double_base = refl
word_keeps stored tokens.short false tokens.plain_length tokens.whole_base = refl
word_keeps stored tokens.short false tokens.short_length tokens.no_base = refl
word_keeps stored tokens.short false tokens.short_length tokens.char_base = refl
word_keeps stored tokens.short false tokens.short_length tokens.int_base = refl
word_keeps stored tokens.short false tokens.short_length tokens.double_base = refl
word_keeps stored tokens.short false tokens.short_length tokens.whole_base = refl
word_keeps stored tokens.short false tokens.long_length tokens.no_base = refl
word_keeps stored tokens.short false tokens.long_length tokens.char_base = refl
word_keeps stored tokens.short false tokens.long_length tokens.int_base = refl
word_keeps stored tokens.short false tokens.long_length tokens.double_base = refl
word_keeps stored tokens.short false tokens.long_length tokens.whole_base = refl
word_keeps stored tokens.int true tokens.plain_length tokens.no_base = refl
word_keeps stored tokens.int true tokens.plain_length tokens.char_base = refl
word_keeps stored tokens.int true tokens.plain_length tokens.int_base = refl
word_keeps stored tokens.int true tokens.plain_length tokens.double_base = refl
word_keeps stored tokens.int true tokens.plain_length tokens.whole_base = refl
word_keeps stored tokens.int true tokens.short_length tokens.no_base = refl
word_keeps stored tokens.int true tokens.short_length tokens.char_base = refl
word_keeps stored tokens.int true tokens.short_length tokens.int_base = refl
word_keeps stored tokens.int true tokens.short_length tokens.double_base = refl
word_keeps stored tokens.int true tokens.short_length tokens.whole_base = refl
word_keeps stored tokens.int true tokens.long_length tokens.no_base = refl
word_keeps stored tokens.int true tokens.long_length tokens.char_base = refl
word_keeps stored tokens.int true tokens.long_length tokens.int_base = refl
word_keeps stored tokens.int true tokens.long_length tokens.double_base = refl
word_keeps stored tokens.int true tokens.long_length tokens.whole_base = refl
word_keeps stored tokens.int false tokens.plain_length tokens.no_base = refl
word_keeps stored tokens.int false tokens.plain_length tokens.char_base = refl
word_keeps stored tokens.int false tokens.plain_length tokens.int_base = refl
word_keeps stored tokens.int false tokens.plain_length tokens.double_base = refl
word_keeps stored tokens.int false tokens.plain_length tokens.whole_base = refl
word_keeps stored tokens.int false tokens.short_length tokens.no_base = refl
word_keeps stored tokens.int false tokens.short_length tokens.char_base = refl
word_keeps stored tokens.int false tokens.short_length tokens.int_base = refl
word_keeps stored tokens.int false tokens.short_length tokens.double_base = refl
word_keeps stored tokens.int false tokens.short_length tokens.whole_base = refl
word_keeps stored tokens.int false tokens.long_length tokens.no_base = refl
word_keeps stored tokens.int false tokens.long_length tokens.char_base = refl
word_keeps stored tokens.int false tokens.long_length tokens.int_base = refl
word_keeps stored tokens.int false tokens.long_length tokens.double_base = refl
word_keeps stored tokens.int false tokens.long_length tokens.whole_base = refl
word_keeps stored tokens.long true tokens.plain_length tokens.no_base = refl
word_keeps stored tokens.long true tokens.plain_length tokens.char_base = refl
word_keeps stored tokens.long true tokens.plain_length tokens.int_base = refl
word_keeps stored tokens.long true tokens.plain_length tokens.double_base = refl
word_keeps stored tokens.long true tokens.plain_length tokens.whole_base = refl
word_keeps stored tokens.long true tokens.short_length tokens.no_base = refl
word_keeps stored tokens.long true tokens.short_length tokens.char_base = refl
word_keeps stored tokens.long true tokens.short_length tokens.int_base = refl
word_keeps stored tokens.long true tokens.short_length tokens.double_base = refl
word_keeps stored tokens.long true tokens.short_length tokens.whole_base = refl
word_keeps stored tokens.long true tokens.long_length tokens.no_base = refl
word_keeps stored tokens.long true tokens.long_length tokens.char_base = refl
word_keeps stored tokens.long true tokens.long_length tokens.int_base = refl
word_keeps stored tokens.long true tokens.long_length tokens.double_base = refl
word_keeps stored tokens.long true tokens.long_length tokens.whole_base = refl
word_keeps stored tokens.long false tokens.plain_length tokens.no_base = refl
word_keeps stored tokens.long false tokens.plain_length tokens.char_base = refl
word_keeps stored tokens.long false tokens.plain_length tokens.int_base = refl
word_keeps stored tokens.long false tokens.plain_length tokens.double_base = refl
word_keeps stored tokens.long false tokens.plain_length tokens.whole_base = refl
word_keeps stored tokens.long false tokens.short_length tokens.no_base = refl
word_keeps stored tokens.long false tokens.short_length tokens.char_base = refl
word_keeps stored tokens.long false tokens.short_length tokens.int_base = refl
word_keeps stored tokens.long false tokens.short_length tokens.double_base = refl
word_keeps stored tokens.long false tokens.short_length tokens.whole_base = refl
word_keeps stored tokens.long false tokens.long_length tokens.no_base = refl
word_keeps stored tokens.long false tokens.long_length tokens.char_base = refl
word_keeps stored tokens.long false tokens.long_length tokens.int_base = refl
word_keeps stored tokens.long false tokens.long_length tokens.double_base = refl
word_keeps stored tokens.long false tokens.long_length tokens.whole_base = refl
word_keeps stored tokens.float true tokens.plain_length tokens.no_base = refl
word_keeps stored tokens.float true tokens.plain_length tokens.char_base = refl
word_keeps stored tokens.float true tokens.plain_length tokens.int_base = refl
word_keeps stored tokens.float true tokens.plain_length tokens.double_base = refl
word_keeps stored tokens.float true tokens.plain_length tokens.whole_base = refl
word_keeps stored tokens.float true tokens.short_length tokens.no_base = refl
word_keeps stored tokens.float true tokens.short_length tokens.char_base = refl
word_keeps stored tokens.float true tokens.short_length tokens.int_base = refl
word_keeps stored tokens.float true tokens.short_length tokens.double_base = refl
word_keeps stored tokens.float true tokens.short_length tokens.whole_base = refl
word_keeps stored tokens.float true tokens.long_length tokens.no_base = refl
word_keeps stored tokens.float true tokens.long_length tokens.char_base = refl
word_keeps stored tokens.float true tokens.long_length tokens.int_base = refl
word_keeps stored tokens.float true tokens.long_length tokens.double_base = refl
word_keeps stored tokens.float true tokens.long_length tokens.whole_base = refl
word_keeps stored tokens.float false tokens.plain_length tokens.no_base = refl
word_keeps stored tokens.float false tokens.plain_length tokens.char_base = refl
word_keeps stored tokens.float false tokens.plain_length tokens.int_base = refl
word_keeps stored tokens.float false tokens.plain_length tokens.double_base = refl
word_keeps stored tokens.float false tokens.plain_length tokens.whole_base = refl
word_keeps stored tokens.float false tokens.short_length tokens.no_base = refl
word_keeps stored tokens.float false tokens.short_length tokens.char_base = refl
word_keeps stored tokens.float false tokens.short_length tokens.int_base = refl
word_keeps stored tokens.float false tokens.short_length tokens.double_base = refl
word_keeps stored tokens.float false tokens.short_length tokens.whole_base = refl
word_keeps stored tokens.float false tokens.long_length tokens.no_base = refl
word_keeps stored tokens.float false tokens.long_length tokens.char_base = refl
word_keeps stored tokens.float false tokens.long_length tokens.int_base = refl
word_keeps stored tokens.float false tokens.long_length tokens.double_base = refl
word_keeps stored tokens.float false tokens.long_length tokens.whole_base = refl
word_keeps stored tokens.double true tokens.plain_length tokens.no_base = refl
word_keeps stored tokens.double true tokens.plain_length tokens.char_base = refl
word_keeps stored tokens.double true tokens.plain_length tokens.int_base = refl
word_keeps stored tokens.double true tokens.plain_length tokens.double_base = refl
word_keeps stored tokens.double true tokens.plain_length tokens.whole_base = refl
word_keeps stored tokens.double true tokens.short_length tokens.no_base = refl
word_keeps stored tokens.double true tokens.short_length tokens.char_base = refl
word_keeps stored tokens.double true tokens.short_length tokens.int_base = refl
word_keeps stored tokens.double true tokens.short_length tokens.double_base = refl
word_keeps stored tokens.double true tokens.short_length tokens.whole_base = refl
word_keeps stored tokens.double true tokens.long_length tokens.no_base = refl
word_keeps stored tokens.double true tokens.long_length tokens.char_base = refl
word_keeps stored tokens.double true tokens.long_length tokens.int_base = refl
word_keeps stored tokens.double true tokens.long_length tokens.double_base = refl
word_keeps stored tokens.double true tokens.long_length tokens.whole_base = refl
word_keeps stored tokens.double false tokens.plain_length tokens.no_base = refl
word_keeps stored tokens.double false tokens.plain_length tokens.char_base = refl
word_keeps stored tokens.double false tokens.plain_length tokens.int_base = refl
word_keeps stored tokens.double false tokens.plain_length tokens.double_base = refl
word_keeps stored tokens.double false tokens.plain_length tokens.whole_base = refl
word_keeps stored tokens.double false tokens.short_length tokens.no_base = refl
word_keeps stored tokens.double false tokens.short_length tokens.char_base = refl
word_keeps stored tokens.double false tokens.short_length tokens.int_base = refl
word_keeps stored tokens.double false tokens.short_length tokens.double_base = refl
word_keeps stored tokens.double false tokens.short_length tokens.whole_base = refl
word_keeps stored tokens.double false tokens.long_length tokens.no_base = refl
word_keeps stored tokens.double false tokens.long_length tokens.char_base = refl
word_keeps stored tokens.double false tokens.long_length tokens.int_base = refl
word_keeps stored tokens.double false tokens.long_length tokens.double_base = refl
word_keeps stored tokens.double false tokens.long_length tokens.whole_base = refl
word_keeps stored tokens.sign true tokens.plain_length tokens.no_base = refl
word_keeps stored tokens.sign true tokens.plain_length tokens.char_base = refl
word_keeps stored tokens.sign true tokens.plain_length tokens.int_base = refl
word_keeps stored tokens.sign true tokens.plain_length tokens.double_base = refl
word_keeps stored tokens.sign true tokens.plain_length tokens.whole_base = refl
word_keeps stored tokens.sign true tokens.short_length tokens.no_base = refl
word_keeps stored tokens.sign true tokens.short_length tokens.char_base = refl
word_keeps stored tokens.sign true tokens.short_length tokens.int_base = refl
word_keeps stored tokens.sign true tokens.short_length tokens.double_base = refl
word_keeps stored tokens.sign true tokens.short_length tokens.whole_base = refl
word_keeps stored tokens.sign true tokens.long_length tokens.no_base = refl
word_keeps stored tokens.sign true tokens.long_length tokens.char_base = refl
word_keeps stored tokens.sign true tokens.long_length tokens.int_base = refl
word_keeps stored tokens.sign true tokens.long_length tokens.double_base = refl
word_keeps stored tokens.sign true tokens.long_length tokens.whole_base = refl
word_keeps stored tokens.sign false tokens.plain_length tokens.no_base = refl
word_keeps stored tokens.sign false tokens.plain_length tokens.char_base = refl
word_keeps stored tokens.sign false tokens.plain_length tokens.int_base = refl
word_keeps stored tokens.sign false tokens.plain_length tokens.double_base = refl
word_keeps stored tokens.sign false tokens.plain_length tokens.whole_base = refl
word_keeps stored tokens.sign false tokens.short_length tokens.no_base = refl
word_keeps stored tokens.sign false tokens.short_length tokens.char_base = refl
word_keeps stored tokens.sign false tokens.short_length tokens.int_base = refl
word_keeps stored tokens.sign false tokens.short_length tokens.double_base = refl
word_keeps stored tokens.sign false tokens.short_length tokens.whole_base = refl
word_keeps stored tokens.sign false tokens.long_length tokens.no_base = refl
word_keeps stored tokens.sign false tokens.long_length tokens.char_base = refl
word_keeps stored tokens.sign false tokens.long_length tokens.int_base = refl
word_keeps stored tokens.sign false tokens.long_length tokens.double_base = refl
word_keeps stored tokens.sign false tokens.long_length tokens.whole_base = refl

pub kept_stored : (stored : Bool) (w : TypeWord) (signed : Bool) (length : Length) (base : Base) (new : Seen) → add_word stored w signed length base ≡ Some new → new.stored ≡ stored
unfolding stored_of
kept_stored stored w signed length base new e = sym (ap (λ o. stored_of o stored) e) ∙ word_keeps stored w signed length base

taken_if : (b : Bool) (made new : Seen) → (if b then Some made else None) ≡ Some new → (b ≡ true) × (made ≡ new)
taken_if true made new e = (refl, cc)
taken_if false made new e = absurd cc

refused_if : (b : Bool) (made new : Seen) → (if b then None else Some made) ≡ Some new → (b ≡ false) × (made ≡ new)
refused_if true made new e = absurd cc
refused_if false made new e = (refl, cc)

and_first : (a b : Bool) → a && b ≡ true → a ≡ true
and_first true b e = refl
and_first false b e = e

and_second : (a b : Bool) → a && b ≡ true → b ≡ true
and_second true b e = e
and_second false b e = absurd cc

not_true : (b : Bool) → not b ≡ true → b ≡ false
not_true true e = absurd cc
not_true false e = refl

restored : (seen : Seen) (b : Bool) (n : ℕ) (ks : List Keyword) → SeenWords seen n ks → SeenWords (record seen { stored = b }) n ks
restored seen b n ks (by_words u same some has none) = by_words u same some has none
restored seen b n ks (by_whole p q r) = by_whole p q r

-- ---- one specifier more

record More (g : Context) (stores : Bool) (new : Seen) (sp : Specified syntax_trees) (js ks : List Keyword) (m : ℕ) (b : Bool) : Type 0 where
  stored : new.stored ≡ false → storages (make.all_specifiers sp.all) ++ js ≡ []
  most : most_one (storages (make.all_specifiers sp.all) ++ js) ≡ true
  unstored : stores ≡ false → storages (make.all_specifiers sp.all) ++ js ≡ []
  declare : (if g.inside then list_all (λ k. if is_typedef k then false else true) (storages (make.all_specifiers sp.all) ++ js) else true) ≡ true
  seen : SeenWords new (wholes (make.all_specifiers sp.all) + m) (basics (make.all_specifiers sp.all) ++ ks)
  typedefs : list_any is_typedef (storages (make.all_specifiers sp.all) ++ js) ≡ b

more_of : (g : Context) (stores : Bool) (new : Seen) (sp : Specified syntax_trees) (r : make.SpecifierAt) (js ks : List Keyword) (m : ℕ) (b : Bool) → storages (next_specifier r.tree no_specifiers) ≡ js → basics (next_specifier r.tree no_specifiers) ≡ ks → counts_whole r.tree ≡ m → IsLevelledSpecifier (scope_of g) r.tree → AreLevelledSpecifiers (scope_of g) (make.all_specifiers sp.all) → More g stores new sp js ks m b
    → SpecifiersSoFar g stores new (record { all = sp.all ++ r ∷ []; typedefs = b })
more_of g stores new sp r js ks m b st bs wh lv each h =
    let there : storages (make.all_specifiers (sp.all ++ r ∷ [])) ≡ storages (make.all_specifiers sp.all) ++ js = lists.storages_more sp.all r ∙ ap (λ v. storages (make.all_specifiers sp.all) ++ v) st in
    record {
      stored = λ e. there ∙ h.stored e;
      most = ap most_one there ∙ h.most;
      unstored = λ e. there ∙ h.unstored e;
      declare = ap (λ v. if g.inside then list_all (λ k. if is_typedef k then false else true) v else true) there ∙ h.declare;
      each = lists.specifiers_more (scope_of g) sp.all r each lv;
      words = subst (λ v. SeenWords new v (basics (make.all_specifiers (sp.all ++ r ∷ [])))) (sym (lists.wholes_more sp.all r ∙ ap (λ v. wholes (make.all_specifiers sp.all) + v) wh))
          (subst (λ v. SeenWords new (wholes (make.all_specifiers sp.all) + m) v) (sym (lists.basics_more sp.all r ∙ ap (λ v. basics (make.all_specifiers sp.all) ++ v) bs)) h.seen);
      typedefs = ap (λ v. list_any is_typedef v) there ∙ h.typedefs;
    }

-- one that is no storage class
plain_more : (g : Context) (stores : Bool) (seen new : Seen) (sp : Specified syntax_trees) (ks : List Keyword) (m : ℕ) (b : Bool) → new.stored ≡ seen.stored → b ≡ sp.typedefs → SpecifiersSoFar g stores seen sp → SeenWords new (wholes (make.all_specifiers sp.all) + m) (basics (make.all_specifiers sp.all) ++ ks) → More g stores new sp [] ks m b
plain_more g stores seen new sp ks m b same flag left w =
    let none = append-nil (storages (make.all_specifiers sp.all)) in
    record {
      stored = λ e. none ∙ left.stored (sym same ∙ e);
      most = ap most_one none ∙ left.most;
      unstored = λ e. none ∙ left.unstored e;
      declare = ap (λ v. if g.inside then list_all (λ k. if is_typedef k then false else true) v else true) none ∙ left.declare;
      seen = w;
      typedefs = ap (λ v. list_any is_typedef v) none ∙ left.typedefs ∙ sym flag;
    }

-- a storage class
storage_more : (g : Context) (stores : Bool) (seen : Seen) (sp : Specified syntax_trees) (k : Keyword) (b : Bool) → stores ≡ true → seen.stored ≡ false → is_typedef k ≡ b → (b ≡ true → g.inside ≡ false) → SpecifiersSoFar g stores seen sp → More g stores (record seen { stored = true }) sp (k ∷ []) [] 0 (sp.typedefs || b)
storage_more g stores seen sp k b may none flag outside left =
    let empty = left.stored none in
    let one : storages (make.all_specifiers sp.all) ++ k ∷ [] ≡ k ∷ [] = ap (λ v. v ++ k ∷ []) empty in
    record {
      stored = λ e. absurd cc;
      most = ap most_one one;
      unstored = λ e. absurd cc;
      declare = ap (λ v. if g.inside then list_all (λ k. if is_typedef k then false else true) v else true) one ∙ may_stand g.inside (is_typedef k) (λ e. outside (sym flag ∙ e));
      seen = subst (λ v. SeenWords (record seen { stored = true }) v (basics (make.all_specifiers sp.all) ++ [])) (omega arith) (subst (λ v. SeenWords (record seen { stored = true }) (wholes (make.all_specifiers sp.all)) v) (sym (append-nil (basics (make.all_specifiers sp.all)))) (restored seen true (wholes (make.all_specifiers sp.all)) (basics (make.all_specifiers sp.all)) left.words));
      typedefs = ap (λ v. list_any is_typedef v) one ∙ ap (λ v. v || false) flag ∙ or_false b ∙ sym (ap (λ v. v || b) (sym left.typedefs ∙ ap (λ v. list_any is_typedef v) empty));
    }
  where
    may_stand : (inside t : Bool) → (t ≡ true → inside ≡ false) → (if inside then (if t then false else true) && true else true) ≡ true
    may_stand true true h = absurd (let e = h refl in cc)
    may_stand true false h = refl
    may_stand false t h = refl

    or_false : (b : Bool) → b || false ≡ b
    or_false true = refl
    or_false false = refl

-- ---- the words

tree_storage : (x : Kind) (k : Keyword) → x ≡ kinds.Word k → is_storage k ≡ true → make.specifier_of x ≡ syntax.storage k
tree_storage x k e s = ap make.specifier_of e ∙ ap (λ b. if b then syntax.storage k else if is_qualifier k then syntax.qualifier k else syntax.basic k) s

tree_qualifier : (x : Kind) (k : Keyword) → x ≡ kinds.Word k → is_storage k ≡ false → is_qualifier k ≡ true → make.specifier_of x ≡ syntax.qualifier k
tree_qualifier x k e s q = ap make.specifier_of e ∙ ap (λ b. if b then syntax.storage k else if is_qualifier k then syntax.qualifier k else syntax.basic k) s ∙ ap (λ b. if b then syntax.qualifier k else syntax.basic k) q

tree_basic : (x : Kind) (k : Keyword) → x ≡ kinds.Word k → is_storage k ≡ false → is_qualifier k ≡ false → make.specifier_of x ≡ syntax.basic k
tree_basic x k e s q = ap make.specifier_of e ∙ ap (λ b. if b then syntax.storage k else if is_qualifier k then syntax.qualifier k else syntax.basic k) s ∙ ap (λ b. if b then syntax.qualifier k else syntax.basic k) q

no_words : (new : Seen) (n : ℕ) (ks : List Keyword) → SeenWords new n ks → SeenWords new (n + 0) (ks ++ [])
no_words new n ks w = subst (λ v. SeenWords new v (ks ++ [])) (omega arith) (subst (λ v. SeenWords new n v) (sym (append-nil ks)) w)

flag_kept : (b : Bool) → b || false ≡ b
flag_kept true = refl
flag_kept false = refl

-- the specifiers with the word or the specifier that the token begins
pub step_word : (g : Context) (stores : Bool) (seen new : Seen) (sp : Specified syntax_trees) (x : Terminal) (t : Sort) → viewed g.types x.sort ≡ t → add stores g.inside seen t ≡ Some new → is_mark tokens.struct t ≡ false → is_mark tokens.enum t ≡ false → SpecifiersSoFar g stores seen sp
    → SpecifiersSoFar g stores new (record { all = sp.all ++ make.make_word x.what ∷ []; typedefs = sp.typedefs || is_mark tokens.typedef t })
step_word g stores seen new sp x tokens.qualifier v e unlike none left =
    let o = at_sort g.types x tokens.qualifier v in
    let tree = tree_qualifier x.what.kind o.0 o.1 o.2 o.3 in
    let same : seen ≡ new = cc in
    subst (λ n. SpecifiersSoFar g stores n (record { all = sp.all ++ make.make_word x.what ∷ []; typedefs = sp.typedefs || false })) same
    (more_of g stores seen sp (make.make_word x.what) [] [] 0 (sp.typedefs || false) (ap (λ r. storages (next_specifier r no_specifiers)) tree) (ap (λ r. basics (next_specifier r no_specifiers)) tree) (ap counts_whole tree) (subst (λ r. IsLevelledSpecifier (scope_of g) r) (sym tree) o.3) left.each
    (plain_more g stores seen seen sp [] 0 (sp.typedefs || false) refl (flag_kept sp.typedefs) left (no_words seen _ _ left.words)))
step_word g stores seen new sp x tokens.storage v e unlike none left =
    let o = at_sort g.types x tokens.storage v in
    let tree = tree_storage x.what.kind o.0 o.1 o.2 in
    let taken = taken_if (stores && not seen.stored) (record seen { stored = true }) new e in
    subst (λ n. SpecifiersSoFar g stores n (record { all = sp.all ++ make.make_word x.what ∷ []; typedefs = sp.typedefs || false })) taken.1
    (more_of g stores (record seen { stored = true }) sp (make.make_word x.what) (o.0 ∷ []) [] 0 (sp.typedefs || false) (ap (λ r. storages (next_specifier r no_specifiers)) tree) (ap (λ r. basics (next_specifier r no_specifiers)) tree) (ap counts_whole tree) (subst (λ r. IsLevelledSpecifier (scope_of g) r) (sym tree) o.2) left.each
    (storage_more g stores seen sp o.0 false (and_first stores (not seen.stored) taken.0) (not_true seen.stored (and_second stores (not seen.stored) taken.0)) o.3 (λ h. absurd cc) left))
step_word g stores seen new sp x (tokens.mark tokens.typedef) v e unlike none left =
    let k = at_sort g.types x (tokens.mark tokens.typedef) v in
    let tree = tree_storage x.what.kind words.Typedef k refl in
    let taken = taken_if (stores && not seen.stored && not g.inside) (record seen { stored = true }) new e in
    let both = and_first (stores && not seen.stored) (not g.inside) taken.0 in
    subst (λ n. SpecifiersSoFar g stores n (record { all = sp.all ++ make.make_word x.what ∷ []; typedefs = sp.typedefs || true })) taken.1
    (more_of g stores (record seen { stored = true }) sp (make.make_word x.what) (words.Typedef ∷ []) [] 0 (sp.typedefs || true) (ap (λ r. storages (next_specifier r no_specifiers)) tree) (ap (λ r. basics (next_specifier r no_specifiers)) tree) (ap counts_whole tree) (subst (λ r. IsLevelledSpecifier (scope_of g) r) (sym tree) refl) left.each
    (storage_more g stores seen sp words.Typedef true (and_first stores (not seen.stored) both) (not_true seen.stored (and_second stores (not seen.stored) both)) refl (λ h. not_true g.inside (and_second (stores && not seen.stored) (not g.inside) taken.0)) left))
step_word g stores seen new sp x (tokens.basic w) v e unlike none left =
    let o = at_sort g.types x (tokens.basic w) v in
    let tree = tree_basic x.what.kind o.0 o.1 o.2 o.3 in
    let there = word_more seen.stored seen new (wholes (make.all_specifiers sp.all)) (basics (make.all_specifiers sp.all)) o.0 w o.4 e left.words in
    more_of g stores new sp (make.make_word x.what) [] (o.0 ∷ []) 0 (sp.typedefs || false) (ap (λ r. storages (next_specifier r no_specifiers)) tree) (ap (λ r. basics (next_specifier r no_specifiers)) tree) (ap counts_whole tree) (subst (λ r. IsLevelledSpecifier (scope_of g) r) (sym tree) tt) left.each
    (plain_more g stores seen new sp (o.0 ∷ []) 0 (sp.typedefs || false) (kept_stored seen.stored w seen.signed seen.length seen.base new e) (flag_kept sp.typedefs) left (subst (λ n. SeenWords new n (basics (make.all_specifiers sp.all) ++ o.0 ∷ [])) (omega arith) there))
step_word g stores seen new sp x (tokens.named_type n) v e unlike none left =
    let o = at_sort g.types x (tokens.named_type n) v in
    let tree : make.specifier_of x.what.kind ≡ syntax.named n = ap make.specifier_of o.0 in
    let taken = refused_if (is_typed seen) (whole_seen seen) new e in
    subst (λ m. SpecifiersSoFar g stores m (record { all = sp.all ++ make.make_word x.what ∷ []; typedefs = sp.typedefs || false })) taken.1
    (more_of g stores (whole_seen seen) sp (make.make_word x.what) [] [] 1 (sp.typedefs || false) (ap (λ r. storages (next_specifier r no_specifiers)) tree) (ap (λ r. basics (next_specifier r no_specifiers)) tree) (ap counts_whole tree) (subst (λ r. IsLevelledSpecifier (scope_of g) r) (sym tree) o.1) left.each
    (plain_more g stores seen (whole_seen seen) sp [] 1 (sp.typedefs || false) refl (flag_kept sp.typedefs) left (subst (λ ks. SeenWords (whole_seen seen) (wholes (make.all_specifiers sp.all) + 1) ks) (sym (append-nil (basics (make.all_specifiers sp.all)))) (whole_more seen _ _ taken.0 left.words))))
step_word g stores seen new sp x (tokens.mark tokens.struct) v e unlike none left = absurd cc
step_word g stores seen new sp x (tokens.mark tokens.enum) v e unlike none left = absurd cc
step_word g stores seen new sp x _ v e unlike none left = absurd cc

-- with a structure or an enumeration
pub step_whole : (g : Context) (stores : Bool) (seen new : Seen) (sp : Specified syntax_trees) (r : make.SpecifierAt) → (if is_typed seen then None else Some (whole_seen seen)) ≡ Some new → IsWholeType g r.tree → SpecifiersSoFar g stores seen sp
    → SpecifiersSoFar g stores (whole_seen seen) (record { all = sp.all ++ r ∷ []; typedefs = sp.typedefs })
step_whole g stores seen new sp r e w left =
    let taken = refused_if (is_typed seen) (whole_seen seen) new e in
    more_of g stores (whole_seen seen) sp r [] [] 1 sp.typedefs w.storage w.words w.count w.levelled left.each
    (plain_more g stores seen (whole_seen seen) sp [] 1 sp.typedefs refl refl left (subst (λ ks. SeenWords (whole_seen seen) (wholes (make.all_specifiers sp.all) + 1) ks) (sym (append-nil (basics (make.all_specifiers sp.all)))) (whole_more seen _ _ taken.0 left.words)))

-- a whole list
pub list_ends : (g : Context) (stores : Bool) (seen : Seen) (sp : Specified syntax_trees) → is_typed seen ≡ true → SpecifiersSoFar g stores seen sp → LevelledSpecifiers g stores sp
list_ends g stores seen sp e left = record {
  list = ap₂ (λ a b. a && b) left.most (is_one seen _ _ left.words e);
  unstored = left.unstored;
  declare = left.declare;
  each = left.each;
  typedefs = left.typedefs;
}

-- from nothing
pub nothing_so_far : (g : Context) (stores : Bool) → SpecifiersSoFar g stores nothing_seen grammar.no_specifiers
nothing_so_far g stores = record {
  stored = λ e. refl;
  most = refl;
  unstored = λ e. refl;
  declare = outside_or_not g.inside;
  each = tt;
  words = nothing_yet false;
  typedefs = refl;
}
  where
    outside_or_not : (b : Bool) → (if b then true else true) ≡ true
    outside_or_not true = refl
    outside_or_not false = refl
