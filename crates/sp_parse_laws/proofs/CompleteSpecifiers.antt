-- Lists of specifiers are read from their tokens.
use Rattle.std.proofs.Common.{◌≡◌, ℕ, ◌+◌, Bool, true, false, ◌⊎◌, inl, inr, List, [], ◌∷◌, ◌++◌, Option, Some, None, refl, sym, ap, ap₂, ◌∙◌, subst, arith, append_assoc, append-nil}
use Rattle.std.specs.Prelude.{if◌then◌else◌, is_some, ◌||◌, ◌&&◌, not, ◌==◌}
use Rattle.std.specs.List.{list_any, list_all}
use Rattle.sp_tree.specs.declared.token.Keyword.{Keyword}
use Rattle.sp_tree.specs.declared.token.Keyword.TheVariants as words
use Rattle.sp_tree.specs.declared.token.Kind.{Kind}
use Rattle.sp_tree.specs.declared.token.Kind.TheVariants as kinds
use Rattle.sp_parse_trees.specs.Words.{is_storage, is_qualifier, is_typedef, is_one_type}
use Rattle.sp_parse_trees.specs.Syntax as syntax
use Rattle.sp_parse_trees.specs.Syntax.{Specifier, Specifiers, no_specifiers, next_specifier}
use Rattle.sp_parse_trees.specs.Spelling.{specifier_tokens, specifiers_tokens}
use Rattle.sp_parse_trees.specs.Levels.{storages, basics, wholes, most_one, is_specifier_list, may_declare, whole as counts_whole}
use Rattle.sp_parse_tokens.specs.Depths.{Part}
use Rattle.sp_parse_grammar.specs.CTokens as tokens
use Rattle.sp_parse_grammar.specs.CTokens.{Sort, Seen, TypeWord, view, is_mark, is_specifier, is_typed, typed, whole_seen, nothing_seen, add, add_word}
use Rattle.sp_parse_grammar.specs.CTable as grammar
use Rattle.sp_parse_grammar.specs.CTable.{Context, Specified, at, plan, specifiers_plan, IsBehindSpecifiers}
use Rattle.sp_parse_grammar.specs.Table.{done, read_done, read_take}
use Rattle.sp_parse_grammar.proofs.Readings.{join, at_tokens}
use Rattle.sp_parse_grammar.proofs.CChecked.{if_true}
use Rattle.sp_parse_tokens.specs.Makers as make
use Rattle.sp_parse_tokens.specs.Sorts.{Terminal, sort_of, word_sort, nowhere}
use Rattle.sp_parse_tokens.specs.SyntaxTrees.{syntax_trees}
use Rattle.sp_parse_laws.specs.Bare.{bare_specifier, bare_specifiers}
use Rattle.sp_parse_laws.proofs.BareAnswers.{Bare, before_specifiers, no_specifier_behind, specifier_behind}
use Rattle.sp_parse_laws.specs.Spelled.{kinds_at}
use Rattle.sp_parse_laws.proofs.SpecifierWords.{SeenWords, by_words, by_whole, nothing_yet, word_more, whole_more, word_read, whole_read}
use Rattle.sp_parse_laws.proofs.Completing.{cut, head, sort_at, Read, Reading, chosen, nothing, moved}
use Rattle.sp_parse_laws.proofs.CompleteExpressions.{none_left}
use Rattle.sp_parse_laws.proofs.CompleteParts.{Next}
use Rattle.sp_parse_laws.proofs.LevelledAnswers.{scope_of}

-- what the rest of a list must be behind what was seen
pub record Rest (g : Context) (stores : Bool) (seen : Seen) (n : ℕ) (ks : List Keyword) (ss : Specifiers) : Type 0 where
  pub words : SeenWords seen n ks
  pub one : is_one_type (n + wholes ss) (ks ++ basics ss) ≡ true
  pub stored : seen.stored ≡ true → storages ss ≡ []
  pub most : most_one (storages ss) ≡ true
  pub unstored : stores ≡ false → storages ss ≡ []
  pub declare : may_declare (scope_of g) ss ≡ true

-- the list is read from its tokens, behind what was seen
pub record Specifying (g : Context) (ss : Specifiers) : Type 0 where
  pub read : (stores : Bool) (seen : Seen) (n : ℕ) (ks : List Keyword) (sp : Specified syntax_trees) → Rest g stores seen n ks ss → (ws : List Terminal) (z : Terminal) (zs : List Terminal) → kinds_at ws ≡ specifiers_tokens ss → IsBehindSpecifiers (view g.types z.sort) → Reading g (grammar.specifiers stores seen sp) (before_specifiers sp.all (bare_specifiers ss)) (ws ++ z ∷ zs) (z ∷ zs)
  -- the token at the head of what is left may stand there
  pub begins : (stores : Bool) (seen : Seen) (n : ℕ) (ks : List Keyword) → Rest g stores seen n ks ss → is_typed seen ≡ false → (ws zs : List Terminal) → kinds_at ws ≡ specifiers_tokens ss → Next g (λ s. is_some (add stores g.inside seen s) ≡ true) (ws ++ zs)
  -- no brace is at its head
  pub no_brace : (ws : List Terminal) (z : Terminal) (zs : List Terminal) → kinds_at ws ≡ specifiers_tokens ss → IsBehindSpecifiers (view g.types z.sort) → Next g (λ s. is_mark tokens.brace s ≡ false) (ws ++ z ∷ zs)

bool_is : (b : Bool) → (b ≡ true) ⊎ (b ≡ false)
bool_is true = inl refl
bool_is false = inr refl

no_type_nil : (n : ℕ) (ks : List Keyword) → n ≡ 0 → ks ≡ [] → is_one_type n ks ≡ false
no_type_nil n ks e f = ap₂ (λ a b. is_one_type a b) e f

-- a whole list has some type
typed_end : (seen : Seen) (n : ℕ) (ks : List Keyword) → SeenWords seen n ks → is_one_type (n + 0) (ks ++ []) ≡ true → is_typed seen ≡ true
typed_end seen n ks (by_words u same some has none) one = elim (bool_is (is_typed seen)) [
  | inl e1 ↦ e1
  | inr e2 ↦ let empty = no_type_nil (0 + 0) (ks ++ []) refl (append-nil ks ∙ none e2) in absurd cc
]
typed_end seen n ks (by_whole a b c) one = ap₂ (λ s l. typed s l seen.base) a b ∙ ap (λ v. typed false tokens.plain_length v) c

pub none_specifying : (g : Context) → Specifying g no_specifiers
none_specifying g = record {
  read = λ stores seen n ks sp h ws z zs is stops.
      let t = typed_end seen n ks h.words h.one in
      let r = nothing g (grammar.specifiers stores seen sp) z zs stops in
      let nothing_there : (grammar.item_ending g (grammar.specifiers stores seen sp) ++ z ∷ zs) ≡ z ∷ zs = ap (λ v. v ++ z ∷ zs) (if_true (is_typed seen) [] (grammar.int_word syntax_trees ∷ []) t) in
      moved g (grammar.specifiers stores seen sp) (z ∷ zs) (ws ++ z ∷ zs) (z ∷ zs) (ap (λ w. w ++ z ∷ zs) (sym (none_left ws is))) (record { answer = _; read = at_tokens nothing_there r; alike = ap (λ v. bare_specifiers (make.all_specifiers v.all)) (if_true (is_typed seen) sp (grammar.with_int sp) t) ∙ no_specifier_behind sp.all });
  begins = λ stores seen n ks h untyped ws zs is. let t = typed_end seen n ks h.words h.one in absurd cc;
  no_brace = λ ws z zs is stops. record { first = z; rest = zs; whole = ap (λ w. w ++ z ∷ zs) (none_left ws is); holds = stops.1 };
}

-- one specifier, by the token that begins it and what is seen with it
pub record OneSpecifier (g : Context) (s : Specifier) : Type 0 where
  -- it is one word of this sort, or begins a structure or an enumeration
  pub kind : Kind
  pub more : List Kind
  pub tokens_are : specifier_tokens s ≡ kind ∷ more
  pub sort : Sort
  pub sort_is : (x : Terminal) → x.what.kind ≡ kind → view g.types x.sort ≡ sort
  pub plain : is_mark tokens.brace sort ≡ false
  -- where the rest may stand it may, and what is left behind it may
  pub seen_with : (stores : Bool) (seen : Seen) (n : ℕ) (ks : List Keyword) (ss : Specifiers) → Rest g stores seen n ks (next_specifier s ss) → (new : Seen) × (m : ℕ) × (js : List Keyword) × (add stores g.inside seen sort ≡ Some new) × Rest g stores new m js ss
  -- it is read, and then the list goes on
  pub read : (stores : Bool) (seen new : Seen) (sp : Specified syntax_trees) → add stores g.inside seen sort ≡ Some new → (m : Specifiers) (ws : List Terminal) (z : Terminal) (zs ys : List Terminal) → kinds_at ws ≡ kind ∷ more → is_mark tokens.brace (view g.types z.sort) ≡ false
      → ((sq : Specified syntax_trees) → ((ss : Specifiers) → before_specifiers sq.all ss ≡ before_specifiers sp.all (next_specifier (bare_specifier s) ss)) → Reading g (grammar.specifiers stores new sq) m (z ∷ zs) ys) → Reading g (grammar.specifiers stores seen sp) m (ws ++ z ∷ zs) ys

-- the same, with its bare tree written otherwise
again : {g : Context} {i : Part} {n m : Bare i} {xs ys : List Terminal} → Reading g i n xs ys → n ≡ m → Reading g i m xs ys
again r e = record { answer = r.answer; read = r.read; alike = r.alike ∙ e }

pub next_specifying : (g : Context) (s : Specifier) (ss : Specifiers) → OneSpecifier g s → Specifying g ss → Specifying g (next_specifier s ss)
next_specifying g s ss one rest = record {
  read = λ stores seen n ks sp h ws z zs is stops.
      let c = cut ws (specifier_tokens s) (specifiers_tokens ss) is in
      let w = one.seen_with stores seen n ks ss h in
      let b = rest.no_brace c.right z zs c.right_is stops in
      let whole : ws ++ z ∷ zs ≡ c.left ++ (c.right ++ z ∷ zs) = ap (λ v. v ++ z ∷ zs) c.whole ∙ append_assoc c.left c.right (z ∷ zs) in
      let there = one.read stores seen w.0 sp w.3 (before_specifiers sp.all (bare_specifiers (next_specifier s ss))) c.left b.first b.rest (z ∷ zs) (c.left_is ∙ one.tokens_are) b.holds (λ sq same. again (moved g (grammar.specifiers stores w.0 sq) (c.right ++ z ∷ zs) (b.first ∷ b.rest) (z ∷ zs) b.whole (rest.read stores w.0 w.1 w.2 sq w.4 c.right z zs c.right_is stops)) (same (bare_specifiers ss))) in
      moved g (grammar.specifiers stores seen sp) (c.left ++ b.first ∷ b.rest) (ws ++ z ∷ zs) (z ∷ zs) (ap (λ v. c.left ++ v) (sym b.whole) ∙ sym whole) there;
  begins = λ stores seen n ks h untyped ws zs is.
      let c = cut ws (specifier_tokens s) (specifiers_tokens ss) is in
      let f = head c.left one.kind one.more (c.left_is ∙ one.tokens_are) in
      let w = one.seen_with stores seen n ks ss h in
      record { first = f.first; rest = (f.rest ++ c.right) ++ zs; whole = ap (λ v. v ++ zs) (c.whole ∙ ap (λ v. v ++ c.right) f.whole); holds = ap (λ t. is_some (add stores g.inside seen t)) (one.sort_is f.first f.first_is) ∙ ap (λ o. is_some o) w.3 };
  no_brace = λ ws z zs is stops.
      let c = cut ws (specifier_tokens s) (specifiers_tokens ss) is in
      let f = head c.left one.kind one.more (c.left_is ∙ one.tokens_are) in
      record { first = f.first; rest = (f.rest ++ c.right) ++ z ∷ zs; whole = ap (λ v. v ++ z ∷ zs) (c.whole ∙ ap (λ v. v ++ c.right) f.whole); holds = ap (is_mark tokens.brace) (one.sort_is f.first f.first_is) ∙ one.plain };
}

-- ---- each specifier

-- one word, taken by this production
word_reads : (g : Context) (stores : Bool) (seen new : Seen) (sp : Specified syntax_trees) (sort : Sort) (made : Specified syntax_trees → Terminal → Specified syntax_trees)
    → ((x : Terminal) → specifiers_plan {t = syntax_trees} g stores seen sp x sort (Some new) ≡ Some (grammar.next (λ y. grammar.get g (grammar.specifiers stores new (made sp x)) (λ o. done o)))) → add stores g.inside seen sort ≡ Some new → (m : Specifiers) (kind : Kind) (word : Specifier) → ((x : Terminal) → x.what.kind ≡ kind → (ss : Specifiers) → before_specifiers (made sp x).all ss ≡ before_specifiers sp.all (next_specifier word ss)) → ((x : Terminal) → x.what.kind ≡ kind → view g.types x.sort ≡ sort) → (ws : List Terminal) (z : Terminal) (zs ys : List Terminal) → kinds_at ws ≡ kind ∷ [] → ((sq : Specified syntax_trees) → ((ss : Specifiers) → before_specifiers sq.all ss ≡ before_specifiers sp.all (next_specifier word ss)) → Reading g (grammar.specifiers stores new sq) m (z ∷ zs) ys) → Reading g (grammar.specifiers stores seen sp) m (ws ++ z ∷ zs) ys
word_reads g stores seen new sp sort made plans e m kind word behind sort_is ws z zs ys is rest =
    let f = head ws kind [] is in
    let r = rest (made sp f.first) (behind f.first f.first_is) in
    let whole : ws ++ z ∷ zs ≡ f.first ∷ (z ∷ zs) = ap (λ v. v ++ z ∷ zs) f.whole ∙ ap (λ v. f.first ∷ (v ++ z ∷ zs)) (none_left f.rest f.rest_is) in
    moved g (grammar.specifiers stores seen sp) (f.first ∷ (z ∷ zs)) (ws ++ z ∷ zs) ys (sym whole)
    (record { answer = r.answer; read = chosen g (grammar.specifiers stores seen sp) f.first sort _ (z ∷ zs) ys r.answer (sort_is f.first f.first_is) (ap (λ o. specifiers_plan g stores seen sp f.first sort o) e ∙ plans f.first) (read_take refl (join r.read read_done)); alike = r.alike })

-- the specifiers with the word
abbrev with_word : Bool → Specified syntax_trees → Terminal → Specified syntax_trees
with_word flag sp x = record { all = sp.all ++ syntax_trees.word x ∷ []; typedefs = sp.typedefs || flag }

-- which stands behind those before it
word_behind : (sp : Specified syntax_trees) (kind : Kind) (word : Specifier) → make.specifier_of kind ≡ word → (x : Terminal) → x.what.kind ≡ kind → (ss : Specifiers) → before_specifiers (sp.all ++ make.make_word x.what ∷ []) ss ≡ before_specifiers sp.all (next_specifier (bare_specifier word) ss)
word_behind sp kind word same x is ss = specifier_behind sp.all (make.make_word x.what) ss ∙ ap (λ v. before_specifiers sp.all (next_specifier (bare_specifier (make.specifier_of v)) ss)) is ∙ ap (λ v. before_specifiers sp.all (next_specifier (bare_specifier v) ss)) same

same_sum : (n m k : ℕ) (ks : List Keyword) → n ≡ m → is_one_type n ks ≡ true → is_one_type m ks ≡ true
same_sum n m k ks e h = subst (λ v. is_one_type v ks ≡ true) e h

restored : (seen : Seen) (b : Bool) (n : ℕ) (ks : List Keyword) → SeenWords seen n ks → SeenWords (record seen { stored = b }) n ks
restored seen b n ks (by_words u same some has none) = by_words u same some has none
restored seen b n ks (by_whole p q r) = by_whole p q r

alone : (k : Keyword) (ks : List Keyword) → most_one (k ∷ ks) ≡ true → ks ≡ []
alone k [] e = refl
alone k (j ∷ ks) e = absurd cc

not_false : (b : Bool) → (b ≡ false → ⊥) → b ≡ true
not_false true f = refl
not_false false f = absurd (f refl)

not_true : (b : Bool) → (b ≡ true → ⊥) → b ≡ false
not_true true f = absurd (f refl)
not_true false f = refl

no_cons : {A : Type 0} (x : A) (xs : List A) → x ∷ xs ≡ [] → ⊥
no_cons x xs e = cc

outside_true : (b : Bool) → (if b then true else true) ≡ true
outside_true true = refl
outside_true false = refl

-- behind a storage class
behind_storage : (g : Context) (stores : Bool) (seen : Seen) (n : ℕ) (ks : List Keyword) (k : Keyword) (ss : Specifiers) → Rest g stores seen n ks (next_specifier (syntax.storage k) ss) → Rest g stores (record seen { stored = true }) n ks ss
behind_storage g stores seen n ks k ss h =
    let none = alone k (storages ss) h.most in
    record {
      words = restored seen true n ks h.words;
      one = same_sum (n + (0 + wholes ss)) (n + wholes ss) 0 (ks ++ basics ss) (omega arith) h.one;
      stored = λ e. none;
      most = ap most_one none;
      unstored = λ e. none;
      declare = ap (λ v. if g.inside then list_all (λ k. if is_typedef k then false else true) v else true) none ∙ outside_true g.inside;
    }

storage_taken : (g : Context) (stores : Bool) (seen : Seen) (n : ℕ) (ks : List Keyword) (k : Keyword) (ss : Specifiers) → Rest g stores seen n ks (next_specifier (syntax.storage k) ss) → (stores ≡ true) × (seen.stored ≡ false)
storage_taken g stores seen n ks k ss h = (not_false stores (λ e. no_cons k (storages ss) (h.unstored e)), not_true seen.stored (λ e. no_cons k (storages ss) (h.stored e)))

storage_word : (k : Keyword) → is_storage k ≡ true → make.word_of k ≡ syntax.storage k
storage_word k e = ap (λ b. if b then syntax.storage k else if is_qualifier k then syntax.qualifier k else syntax.basic k) e

pub storage_one : (g : Context) (k : Keyword) → is_storage k ≡ true → word_sort k ≡ tokens.storage → OneSpecifier g (syntax.storage k)
storage_one g k e sort = record {
  kind = kinds.Word k;
  more = [];
  tokens_are = refl;
  sort = tokens.storage;
  sort_is = λ x is. sort_at g.types x (kinds.Word k) is ∙ ap (view g.types) sort;
  plain = refl;
  seen_with = λ stores seen n ks ss h.
      let t = storage_taken g stores seen n ks k ss h in
      (record seen { stored = true }, n, ks, ap₂ (λ a b. if a && not b then Some (record seen { stored = true }) else None) t.0 t.1, behind_storage g stores seen n ks k ss h);
  read = λ stores seen new sp f m ws z zs ys is stops rest. word_reads g stores seen new sp tokens.storage (with_word false) (λ x. refl) f m (kinds.Word k) (syntax.storage k) (word_behind sp (kinds.Word k) (syntax.storage k) (storage_word k e)) (λ x is. sort_at g.types x (kinds.Word k) is ∙ ap (view g.types) sort) ws z zs ys is rest;
}

typedef_outside : (inside : Bool) (ks : List Keyword) → (if inside then list_all (λ k. if is_typedef k then false else true) (words.Typedef ∷ ks) else true) ≡ true → inside ≡ false
typedef_outside true ks e = absurd cc
typedef_outside false ks e = refl

pub typedef_one : (g : Context) → OneSpecifier g (syntax.storage words.Typedef)
typedef_one g = record {
  kind = kinds.Word words.Typedef;
  more = [];
  tokens_are = refl;
  sort = tokens.mark tokens.typedef;
  sort_is = λ x is. sort_at g.types x (kinds.Word words.Typedef) is;
  plain = refl;
  seen_with = λ stores seen n ks ss h.
      let t = storage_taken g stores seen n ks words.Typedef ss h in
      let o = typedef_outside g.inside (storages ss) h.declare in
      (record seen { stored = true }, n, ks, ap₂ (λ a b. if a && not b && not g.inside then Some (record seen { stored = true }) else None) t.0 t.1 ∙ ap (λ c. if true && not false && not c then Some (record seen { stored = true }) else None) o, behind_storage g stores seen n ks words.Typedef ss h);
  read = λ stores seen new sp e m ws z zs ys is stops rest. word_reads g stores seen new sp (tokens.mark tokens.typedef) (with_word true) (λ x. refl) e m (kinds.Word words.Typedef) (syntax.storage words.Typedef) (word_behind sp (kinds.Word words.Typedef) (syntax.storage words.Typedef) refl) (λ x is. sort_at g.types x (kinds.Word words.Typedef) is) ws z zs ys is rest;
}

pub qualifier_one : (g : Context) (k : Keyword) → word_sort k ≡ tokens.qualifier → make.word_of k ≡ syntax.qualifier k → OneSpecifier g (syntax.qualifier k)
qualifier_one g k sort word_is = record {
  kind = kinds.Word k;
  more = [];
  tokens_are = refl;
  sort = tokens.qualifier;
  sort_is = λ x is. sort_at g.types x (kinds.Word k) is ∙ ap (view g.types) sort;
  plain = refl;
  seen_with = λ stores seen n ks ss h. (seen, n, ks, refl, record { words = h.words; one = same_sum (n + (0 + wholes ss)) (n + wholes ss) 0 (ks ++ basics ss) (omega arith) h.one; stored = h.stored; most = h.most; unstored = h.unstored; declare = h.declare });
  read = λ stores seen new sp e m ws z zs ys is stops rest. word_reads g stores seen new sp tokens.qualifier (with_word false) (λ x. refl) e m (kinds.Word k) (syntax.qualifier k) (word_behind sp (kinds.Word k) (syntax.qualifier k) word_is) (λ x is. sort_at g.types x (kinds.Word k) is ∙ ap (view g.types) sort) ws z zs ys is rest;
}

made_of : (o : Option Seen) → is_some o ≡ true → (new : Seen) × (o ≡ Some new)
made_of None e = absurd cc
made_of (Some new) e = (new, refl)

pub basic_one : (g : Context) (k : Keyword) (w : TypeWord) → word_sort k ≡ tokens.basic w → make.word_of k ≡ syntax.basic k → ((stored : Bool) (signed : Bool) (length : tokens.Length) (base : tokens.Base) (new : Seen) → add_word stored w signed length base ≡ Some new → new.stored ≡ stored) → OneSpecifier g (syntax.basic k)
basic_one g k w sort word_is keeps = record {
  kind = kinds.Word k;
  more = [];
  tokens_are = refl;
  sort = tokens.basic w;
  sort_is = λ x is. sort_at g.types x (kinds.Word k) is ∙ ap (view g.types) sort;
  plain = refl;
  seen_with = λ stores seen n ks ss h.
      let one = same_sum (n + (0 + wholes ss)) (n + wholes ss) 0 (ks ++ k ∷ basics ss) (omega arith) h.one in
      let m = made_of (add_word seen.stored w seen.signed seen.length seen.base) (word_read seen.stored seen n (wholes ss) ks (basics ss) k w sort h.words one) in
      let same = keeps seen.stored seen.signed seen.length seen.base m.0 m.1 in (
        m.0,
        n,
        ks ++ k ∷ [],
        m.1,
        record {
          words = word_more seen.stored seen m.0 n ks k w sort m.1 h.words;
          one = ap (λ v. is_one_type (n + wholes ss) v) (append_assoc ks (k ∷ []) (basics ss)) ∙ one;
          stored = λ e. h.stored (sym same ∙ e);
          most = h.most;
          unstored = h.unstored;
          declare = h.declare;
        },
      );
  read = λ stores seen new sp e m ws z zs ys is stops rest. word_reads g stores seen new sp (tokens.basic w) (with_word false) (λ x. refl) e m (kinds.Word k) (syntax.basic k) (word_behind sp (kinds.Word k) (syntax.basic k) word_is) (λ x is. sort_at g.types x (kinds.Word k) is ∙ ap (view g.types) sort) ws z zs ys is rest;
}

-- behind a specifier of a whole type
behind_whole : (g : Context) (stores : Bool) (seen : Seen) (n : ℕ) (ks : List Keyword) (s : Specifier) (ss : Specifiers) → counts_whole s ≡ 1 → storages (next_specifier s ss) ≡ storages ss → basics (next_specifier s ss) ≡ basics ss → Rest g stores seen n ks (next_specifier s ss)
    → (is_typed seen ≡ false) × Rest g stores (whole_seen seen) (n + 1) ks ss
behind_whole g stores seen n ks s ss count st bs h =
    let one : is_one_type (n + (1 + wholes ss)) (ks ++ basics ss) ≡ true = sym (ap₂ (λ a b. is_one_type (n + (a + wholes ss)) (ks ++ b)) count bs) ∙ h.one in
    let untyped = whole_read seen n (wholes ss) ks (basics ss) h.words one in (
      untyped,
      record {
        words = whole_more seen n ks untyped h.words;
        one = same_sum (n + (1 + wholes ss)) (n + 1 + wholes ss) 0 (ks ++ basics ss) (omega arith) one;
        stored = λ e. sym st ∙ h.stored e;
        most = ap most_one (sym st) ∙ h.most;
        unstored = λ e. sym st ∙ h.unstored e;
        declare = ap (λ v. if g.inside then list_all (λ k. if is_typedef k then false else true) v else true) (sym st) ∙ h.declare;
      },
    )

pub named_one : (g : Context) (n : ℕ) → list_any (λ t. t == n) g.types ≡ true → OneSpecifier g (syntax.named n)
named_one g n known = record {
  kind = kinds.Name n;
  more = [];
  tokens_are = refl;
  sort = tokens.named_type n;
  sort_is = λ x is. sort_at g.types x (kinds.Name n) is ∙ ap (λ b. if b then tokens.named_type n else tokens.name n) known;
  plain = refl;
  seen_with = λ stores seen m ks ss h. let b = behind_whole g stores seen m ks (syntax.named n) ss refl refl refl h in (whole_seen seen, m + 1, ks, ap (λ v. if v then None else Some (whole_seen seen)) b.0, b.1);
  read = λ stores seen new sp e m ws z zs ys is stops rest. word_reads g stores seen new sp (tokens.named_type n) (with_word false) (λ x. refl) e m (kinds.Name n) (syntax.named n) (word_behind sp (kinds.Name n) (syntax.named n) refl) (λ x is. sort_at g.types x (kinds.Name n) is ∙ ap (λ b. if b then tokens.named_type n else tokens.name n) known) ws z zs ys is rest;
}

refused_if : (b : Bool) (made new : Seen) → (if b then None else Some made) ≡ Some new → made ≡ new
refused_if true made new e = absurd cc
refused_if false made new e = cc

pub struct_one : (g : Context) (t : syntax.StructSpec) (kind : Kind) (more : List Kind) (tag : Option ℕ) (ms : syntax.Members) → specifier_tokens (syntax.struct_specifier t) ≡ kind ∷ more → sort_of kind ≡ tokens.mark tokens.struct → bare_specifier (syntax.struct_specifier t) ≡ syntax.struct_specifier (syntax.struct_spec (make.is_union kind) tag ms nowhere)
    → ((y : Terminal) (ws : List Terminal) (z : Terminal) (zs : List Terminal) → kinds_at ws ≡ more → is_mark tokens.brace (view g.types z.sort) ≡ false → Reading g (grammar.behind_struct y) (syntax.struct_specifier (syntax.struct_spec (make.is_union y.what.kind) tag ms nowhere)) (ws ++ z ∷ zs) (z ∷ zs)) → OneSpecifier g (syntax.struct_specifier t)
struct_one g t kind more tag ms tokens_are sort bare_is inner = record {
  kind = kind;
  more = more;
  tokens_are = tokens_are;
  sort = tokens.mark tokens.struct;
  sort_is = λ x is. sort_at g.types x kind is ∙ ap (view g.types) sort;
  plain = refl;
  seen_with = λ stores seen m ks ss h. let b = behind_whole g stores seen m ks (syntax.struct_specifier t) ss refl refl refl h in (whole_seen seen, m + 1, ks, ap (λ v. if v then None else Some (whole_seen seen)) b.0, b.1);
  read = λ stores seen new sp e m ws z zs ys is stops rest.
      let f = head ws kind more is in
      let r = inner f.first f.rest z zs f.rest_is stops in
      let same = refused_if (is_typed seen) (whole_seen seen) new e in
      let s = rest (record { all = sp.all ++ r.answer ∷ []; typedefs = sp.typedefs }) (λ ss. specifier_behind sp.all r.answer ss ∙ ap (λ v. before_specifiers sp.all (next_specifier v ss)) (r.alike ∙ ap (λ v. syntax.struct_specifier (syntax.struct_spec (make.is_union v) tag ms nowhere)) f.first_is ∙ sym bare_is)) in
      let there : Read g (grammar.specifiers stores (whole_seen seen) (record { all = sp.all ++ r.answer ∷ []; typedefs = sp.typedefs })) (z ∷ zs) s.answer ys = subst (λ v. Read g (grammar.specifiers stores v (record { all = sp.all ++ r.answer ∷ []; typedefs = sp.typedefs })) (z ∷ zs) s.answer ys) (sym same) s.read in
      moved g (grammar.specifiers stores seen sp) (f.first ∷ (f.rest ++ z ∷ zs)) (ws ++ z ∷ zs) ys (ap (λ v. v ++ z ∷ zs) (sym f.whole))
      (record { answer = s.answer; read = chosen g (grammar.specifiers stores seen sp) f.first (tokens.mark tokens.struct) _ (f.rest ++ z ∷ zs) ys s.answer (sort_at g.types f.first kind f.first_is ∙ ap (view g.types) sort) (ap (λ o. specifiers_plan g stores seen sp f.first (tokens.mark tokens.struct) o) e) (read_take refl (join r.read (join there read_done))); alike = s.alike });
}

pub enum_one : (g : Context) (t : syntax.EnumSpec) (more : List Kind) → specifier_tokens (syntax.enum_specifier t) ≡ kinds.Word words.Enum ∷ more
    → ((y : Terminal) (ws : List Terminal) (z : Terminal) (zs : List Terminal) → kinds_at ws ≡ more → is_mark tokens.brace (view g.types z.sort) ≡ false → Reading g (grammar.behind_enum y) (bare_specifier (syntax.enum_specifier t)) (ws ++ z ∷ zs) (z ∷ zs)) → OneSpecifier g (syntax.enum_specifier t)
enum_one g t more tokens_are inner = record {
  kind = kinds.Word words.Enum;
  more = more;
  tokens_are = tokens_are;
  sort = tokens.mark tokens.enum;
  sort_is = λ x is. sort_at g.types x (kinds.Word words.Enum) is;
  plain = refl;
  seen_with = λ stores seen m ks ss h. let b = behind_whole g stores seen m ks (syntax.enum_specifier t) ss refl refl refl h in (whole_seen seen, m + 1, ks, ap (λ v. if v then None else Some (whole_seen seen)) b.0, b.1);
  read = λ stores seen new sp e m ws z zs ys is stops rest.
      let f = head ws (kinds.Word words.Enum) more is in
      let r = inner f.first f.rest z zs f.rest_is stops in
      let same = refused_if (is_typed seen) (whole_seen seen) new e in
      let s = rest (record { all = sp.all ++ r.answer ∷ []; typedefs = sp.typedefs }) (λ ss. specifier_behind sp.all r.answer ss ∙ ap (λ v. before_specifiers sp.all (next_specifier v ss)) r.alike) in
      let there : Read g (grammar.specifiers stores (whole_seen seen) (record { all = sp.all ++ r.answer ∷ []; typedefs = sp.typedefs })) (z ∷ zs) s.answer ys = subst (λ v. Read g (grammar.specifiers stores v (record { all = sp.all ++ r.answer ∷ []; typedefs = sp.typedefs })) (z ∷ zs) s.answer ys) (sym same) s.read in
      moved g (grammar.specifiers stores seen sp) (f.first ∷ (f.rest ++ z ∷ zs)) (ws ++ z ∷ zs) ys (ap (λ v. v ++ z ∷ zs) (sym f.whole))
      (record { answer = s.answer; read = chosen g (grammar.specifiers stores seen sp) f.first (tokens.mark tokens.enum) _ (f.rest ++ z ∷ zs) ys s.answer (sort_at g.types f.first (kinds.Word words.Enum) f.first_is) (ap (λ o. specifiers_plan g stores seen sp f.first (tokens.mark tokens.enum) o) e) (read_take refl (join r.read (join there read_done))); alike = s.alike });
}

-- from nothing
pub from_nothing : (g : Context) (stores : Bool) (ss : Specifiers) → is_specifier_list ss ≡ true → (stores ≡ false → storages ss ≡ []) → may_declare (scope_of g) ss ≡ true → Rest g stores nothing_seen 0 [] ss
from_nothing g stores ss list unstored declare = record {
  words = nothing_yet false;
  one = same_sum (wholes ss) (0 + wholes ss) 0 (basics ss) (omega arith) (and_second (most_one (storages ss)) (is_one_type (wholes ss) (basics ss)) list);
  stored = λ e. absurd cc;
  most = and_first (most_one (storages ss)) (is_one_type (wholes ss) (basics ss)) list;
  unstored = unstored;
  declare = declare;
}
  where
    and_first : (a b : Bool) → a && b ≡ true → a ≡ true
    and_first true b e = refl
    and_first false b e = e

    and_second : (a b : Bool) → a && b ≡ true → b ≡ true
    and_second true b e = e
    and_second false b e = absurd cc
