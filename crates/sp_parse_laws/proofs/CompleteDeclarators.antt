-- Each form of declarator is read from its tokens, given that its parts are: alone, in a group, and before suffixes.
use Rattle.std.proofs.Common.{◌≡◌, ℕ, ◌<◌, ◌≤◌, Bool, true, false, List, [], ◌∷◌, ◌++◌, map, Some, None, refl, sym, ap, ap₂, ◌∙◌, subst, arith, append_assoc, append-nil}
use Rattle.std.proofs.lemmas.List.{map-append}
use Rattle.std.specs.Prelude.{is_some, is_none, ◌&&◌, not, ◌==◌}
use Rattle.std.specs.List.{list_any, list_all}
use Rattle.sp_tree.specs.declared.fault.Place.{Place}
use Rattle.sp_tree.specs.declared.token.Keyword.{Keyword}
use Rattle.sp_tree.specs.declared.token.Keyword.TheVariants as words
use Rattle.sp_tree.specs.declared.token.Kind.{Kind}
use Rattle.sp_tree.specs.declared.token.Kind.TheVariants as kinds
use Rattle.sp_tree.specs.declared.token.Punct.TheVariants as puncts
use Rattle.sp_parse_trees.specs.Words.{is_qualifier}
use Rattle.sp_parse_trees.specs.Syntax as syntax
use Rattle.sp_parse_trees.specs.Syntax.{Expression, MaybeExpression, Params, Declarator, DeclaratorForm, declarator}
use Rattle.sp_parse_trees.specs.Spelling.{tokens_of, declarator_tokens}
use Rattle.sp_parse_trees.specs.Levels.{level, declared_name, is_absent, is_direct}
use Rattle.sp_parse_grammar.specs.CTokens as tokens
use Rattle.sp_parse_grammar.specs.CTokens.{Sort, view, is_mark, looseness, is_specifier, is_declaring}
use Rattle.sp_parse_grammar.specs.CTable as grammar
use Rattle.sp_parse_grammar.specs.CTable.{Context, Declared, Parameters, Form, at, plan, begins_expression, IsBehindSpecifiers, is_parameters}
use Rattle.sp_parse_grammar.specs.Table.{done, read_done, read_take}
use Rattle.sp_parse_grammar.proofs.Readings.{join, at_tokens}
use Rattle.sp_parse_grammar.proofs.CChecked.{if_true, if_false, no_qualifier}
use Rattle.sp_parse_tokens.specs.Makers as make
use Rattle.sp_parse_tokens.specs.Sorts.{Terminal, sort_of, word_sort}
use Rattle.sp_parse_tokens.specs.SyntaxTrees.{syntax_trees}
use Rattle.sp_parse_laws.specs.Bare.{bare, bare_declarator}
use Rattle.sp_parse_laws.proofs.BareTrees.{ap₃}
use Rattle.sp_parse_laws.proofs.BareAnswers.{unplaced_declarator, settle_bare, closed_bare, first_same, second_same}
use Rattle.sp_parse_laws.specs.Spelled.{kinds_at}
use Rattle.sp_parse_laws.proofs.Completing.{Head, cut, head, between, sort_at, mark_taken, Read, Reading, chosen, nothing, moved}
use Rattle.sp_parse_laws.proofs.CompleteExpressions.{Complete, Begins, none_left, name_sort}
use Rattle.sp_parse_laws.proofs.CompleteParts.{Next, closing_sort}
use Rattle.sp_parse_laws.proofs.LevelledAnswers.{NamesForm}

-- the first token of a declarator begins no parameter, is no brace and no qualifier
pub record IsHead (s : Sort) : Type 0 where
  pub parameters : is_parameters s ≡ false
  pub specifier : is_specifier s ≡ false
  pub brace : is_mark tokens.brace s ≡ false
  pub qualifier : grammar.is_qualifier s ≡ false

pub record Declaring (g : Context) (d : Declarator) : Type 0 where
  pub whole : (f : Form) → NamesForm f d → (ws : List Terminal) (z : Terminal) (zs : List Terminal) → kinds_at ws ≡ declarator_tokens d → is_declaring (view g.types z.sort) ≡ false → Reading g (grammar.declarator f) (bare_declarator d) (ws ++ z ∷ zs) (z ∷ zs)
  pub group : (f : Form) → NamesForm f d → is_absent d ≡ false → (ws : List Terminal) (z : Terminal) (zs : List Terminal) → kinds_at ws ≡ declarator_tokens d → is_declaring (view g.types z.sort) ≡ false → Reading g (grammar.group f) (bare_declarator d) (ws ++ z ∷ zs) (z ∷ zs)
  pub post : (f : Form) → NamesForm f d → is_direct d ≡ true → (m : Declarator) (ws : List Terminal) (z : Terminal) (zs ys : List Terminal) → kinds_at ws ≡ declarator_tokens d → (is_absent d ≡ true → view g.types z.sort ≡ tokens.mark tokens.bracket) → ((e : Declared syntax_trees) → bare_declarator e.tree ≡ bare_declarator d → Reading g (grammar.declarator_suffixes e) m (z ∷ zs) ys) → Reading g (grammar.declarator f) m (ws ++ z ∷ zs) ys
  pub post_group : (f : Form) → NamesForm f d → is_direct d ≡ true → is_absent d ≡ false → (m : Declarator) (ws : List Terminal) (z : Terminal) (zs ys : List Terminal) → kinds_at ws ≡ declarator_tokens d → ((e : Declared syntax_trees) → bare_declarator e.tree ≡ bare_declarator d → Reading g (grammar.declarator_suffixes e) m (z ∷ zs) ys) → Reading g (grammar.group f) m (ws ++ z ∷ zs) ys
  pub heads : is_absent d ≡ false → (ws zs : List Terminal) → kinds_at ws ≡ declarator_tokens d → Next g IsHead (ws ++ zs)

-- no suffix, before a token that goes on with none
no_suffix : (g : Context) (n : Declarator) (z : Terminal) (zs : List Terminal) → is_declaring (view g.types z.sort) ≡ false → (e : Declared syntax_trees) → bare_declarator e.tree ≡ n → Reading g (grammar.declarator_suffixes e) n (z ∷ zs) (z ∷ zs)
no_suffix g n z zs stops e same = record { answer = e; read = nothing g (grammar.declarator_suffixes e) z zs stops; alike = same }

-- where suffixes may stand behind it, it is read alone and in a group
of_post : (g : Context) (d : Declarator) → is_direct d ≡ true → is_absent d ≡ false
    → ((f : Form) → NamesForm f d → (m : Declarator) (ws : List Terminal) (z : Terminal) (zs ys : List Terminal) → kinds_at ws ≡ declarator_tokens d → ((e : Declared syntax_trees) → bare_declarator e.tree ≡ bare_declarator d → Reading g (grammar.declarator_suffixes e) m (z ∷ zs) ys) → Reading g (grammar.declarator f) m (ws ++ z ∷ zs) ys)
    → ((f : Form) → NamesForm f d → (m : Declarator) (ws : List Terminal) (z : Terminal) (zs ys : List Terminal) → kinds_at ws ≡ declarator_tokens d → ((e : Declared syntax_trees) → bare_declarator e.tree ≡ bare_declarator d → Reading g (grammar.declarator_suffixes e) m (z ∷ zs) ys) → Reading g (grammar.group f) m (ws ++ z ∷ zs) ys)
    → ((ws zs : List Terminal) → kinds_at ws ≡ declarator_tokens d → Next g IsHead (ws ++ zs)) → Declaring g d
of_post g d direct some post post_group heads = record {
  whole = λ f n ws z zs is stops. post f n (bare_declarator d) ws z zs (z ∷ zs) is (no_suffix g (bare_declarator d) z zs stops);
  group = λ f n a ws z zs is stops. post_group f n (bare_declarator d) ws z zs (z ∷ zs) is (no_suffix g (bare_declarator d) z zs stops);
  post = λ f n h m ws z zs ys is a rest. post f n m ws z zs ys is rest;
  post_group = λ f n h a m ws z zs ys is rest. post_group f n m ws z zs ys is rest;
  heads = λ a ws zs is. heads ws zs is;
}

-- what is named is named through
named_as : (f : Form) (d e : Declarator) → declared_name d ≡ declared_name e → NamesForm f d → NamesForm f e
named_as grammar.concrete d e same h = ap is_some (sym same) ∙ h
named_as grammar.abstract d e same h = ap is_none (sym same) ∙ h
named_as grammar.either d e same h = tt

-- ---- no declarator

absent_post : {m : Declarator} (g : Context) (f : Form) (p : Place) → NamesForm f (declarator syntax.absent p) → (z : Terminal) (zs ys : List Terminal) → view g.types z.sort ≡ tokens.mark tokens.bracket → ((e : Declared syntax_trees) → bare_declarator e.tree ≡ make.make_absent → Reading g (grammar.declarator_suffixes e) m (z ∷ zs) ys) → Reading g (grammar.declarator f) m (z ∷ zs) ys
absent_post g grammar.concrete p n z zs ys v rest = absurd cc
absent_post g grammar.abstract p n z zs ys v rest =
    let r = rest (grammar.absent_declarator grammar.abstract) refl in
    record { answer = r.answer; read = chosen g (grammar.declarator grammar.abstract) z (tokens.mark tokens.bracket) _ zs ys r.answer v refl (join (chosen g (grammar.direct grammar.abstract) z (tokens.mark tokens.bracket) _ zs (z ∷ zs) (grammar.absent_declarator grammar.abstract) v refl read_done) (join r.read read_done)); alike = r.alike }
absent_post g grammar.either p n z zs ys v rest =
    let r = rest (grammar.absent_declarator grammar.either) refl in
    record { answer = r.answer; read = chosen g (grammar.declarator grammar.either) z (tokens.mark tokens.bracket) _ zs ys r.answer v refl (join (chosen g (grammar.direct grammar.either) z (tokens.mark tokens.bracket) _ zs (z ∷ zs) (grammar.absent_declarator grammar.either) v refl read_done) (join r.read read_done)); alike = r.alike }

absent_whole : (g : Context) (f : Form) (p : Place) → NamesForm f (declarator syntax.absent p) → (z : Terminal) (zs : List Terminal) → is_declaring (view g.types z.sort) ≡ false → Reading g (grammar.declarator f) make.make_absent (z ∷ zs) (z ∷ zs)
absent_whole g grammar.concrete p n z zs stops = absurd cc
absent_whole g grammar.abstract p n z zs stops = record { answer = _; read = nothing g (grammar.declarator grammar.abstract) z zs stops; alike = refl }
absent_whole g grammar.either p n z zs stops = record { answer = _; read = nothing g (grammar.declarator grammar.either) z zs stops; alike = refl }

pub absent_complete : (g : Context) (p : Place) → Declaring g (declarator syntax.absent p)
absent_complete g p = record {
  whole = λ f n ws z zs is stops. moved g (grammar.declarator f) (z ∷ zs) (ws ++ z ∷ zs) (z ∷ zs) (ap (λ w. w ++ z ∷ zs) (sym (none_left ws is))) (absent_whole g f p n z zs stops);
  group = λ f n a ws z zs is stops. absurd cc;
  post = λ f n h m ws z zs ys is a rest. moved g (grammar.declarator f) (z ∷ zs) (ws ++ z ∷ zs) ys (ap (λ w. w ++ z ∷ zs) (sym (none_left ws is))) (absent_post g f p n z zs ys (a refl) rest);
  post_group = λ f n h a m ws z zs ys is rest. absurd cc;
  heads = λ a ws zs is. absurd cc;
}

-- ---- names and groups

name_post : {m : Declarator} (g : Context) (f : Form) (n : ℕ) (q : Place) → NamesForm f (declarator (syntax.declared n) q) → (x : Terminal) (zs ys : List Terminal) → view g.types x.sort ≡ tokens.name n → x.what.kind ≡ kinds.Name n → ((e : Declared syntax_trees) → bare_declarator e.tree ≡ unplaced_declarator (syntax.declared n) → Reading g (grammar.declarator_suffixes e) m zs ys) → Reading g (grammar.declarator f) m (x ∷ zs) ys
name_post g grammar.concrete n q h x zs ys v k rest =
    let r = rest (grammar.named_declarator x n) (ap (λ v. unplaced_declarator (syntax.declared (make.number_of v))) k) in
    record { answer = r.answer; read = chosen g (grammar.declarator grammar.concrete) x (tokens.name n) _ zs ys r.answer v refl (join (chosen g (grammar.direct grammar.concrete) x (tokens.name n) _ zs zs (grammar.named_declarator x n) v refl (read_take refl read_done)) (join r.read read_done)); alike = r.alike }
name_post g grammar.abstract n q h x zs ys v k rest = absurd cc
name_post g grammar.either n q h x zs ys v k rest =
    let r = rest (grammar.named_declarator x n) (ap (λ v. unplaced_declarator (syntax.declared (make.number_of v))) k) in
    record { answer = r.answer; read = chosen g (grammar.declarator grammar.either) x (tokens.name n) _ zs ys r.answer v refl (join (chosen g (grammar.direct grammar.either) x (tokens.name n) _ zs zs (grammar.named_declarator x n) v refl (read_take refl read_done)) (join r.read read_done)); alike = r.alike }

name_post_group : {m : Declarator} (g : Context) (f : Form) (n : ℕ) (q : Place) → NamesForm f (declarator (syntax.declared n) q) → (x : Terminal) (zs ys : List Terminal) → view g.types x.sort ≡ tokens.name n → x.what.kind ≡ kinds.Name n → ((e : Declared syntax_trees) → bare_declarator e.tree ≡ unplaced_declarator (syntax.declared n) → Reading g (grammar.declarator_suffixes e) m zs ys) → Reading g (grammar.group f) m (x ∷ zs) ys
name_post_group g grammar.concrete n q h x zs ys v k rest =
    let r = rest (grammar.named_declarator x n) (ap (λ v. unplaced_declarator (syntax.declared (make.number_of v))) k) in
    record { answer = r.answer; read = chosen g (grammar.group grammar.concrete) x (tokens.name n) _ zs ys r.answer v refl (read_take refl (join r.read read_done)); alike = r.alike }
name_post_group g grammar.abstract n q h x zs ys v k rest = absurd cc
name_post_group g grammar.either n q h x zs ys v k rest =
    let r = rest (grammar.named_declarator x n) (ap (λ v. unplaced_declarator (syntax.declared (make.number_of v))) k) in
    record { answer = r.answer; read = chosen g (grammar.group grammar.either) x (tokens.name n) _ zs ys r.answer v refl (read_take refl (join r.read read_done)); alike = r.alike }

name_head : (g : Context) (x : Terminal) (n : ℕ) → view g.types x.sort ≡ tokens.name n → IsHead (view g.types x.sort)
name_head g x n v = subst IsHead (sym v) (record { parameters = refl; specifier = refl; brace = refl; qualifier = refl })

mark_head : (g : Context) (x : Terminal) (m : tokens.Mark) → view g.types x.sort ≡ tokens.mark m → IsHead (tokens.mark m) → IsHead (view g.types x.sort)
mark_head g x m v h = subst IsHead (sym v) h

pub named_complete : (g : Context) (n : ℕ) (q : Place) → list_any (λ t. t == n) g.types ≡ false → Declaring g (declarator (syntax.declared n) q)
named_complete g n q free = of_post g (declarator (syntax.declared n) q) refl refl
    (λ f h m ws z zs ys is rest.
    let x = head ws (kinds.Name n) [] is in
    moved g (grammar.declarator f) (x.first ∷ (z ∷ zs)) (ws ++ z ∷ zs) ys (sym (one_token ws z zs x)) (name_post g f n q h x.first (z ∷ zs) ys (name_sort g.types x.first n x.first_is free) x.first_is rest))
    (λ f h m ws z zs ys is rest.
    let x = head ws (kinds.Name n) [] is in
    moved g (grammar.group f) (x.first ∷ (z ∷ zs)) (ws ++ z ∷ zs) ys (sym (one_token ws z zs x)) (name_post_group g f n q h x.first (z ∷ zs) ys (name_sort g.types x.first n x.first_is free) x.first_is rest))
    (λ ws zs is.
    let x = head ws (kinds.Name n) [] is in
    record { first = x.first; rest = x.rest ++ zs; whole = ap (λ v. v ++ zs) x.whole; holds = name_head g x.first n (name_sort g.types x.first n x.first_is free) })
  where
    one_token : {k : Kind} (ws : List Terminal) (z : Terminal) (zs : List Terminal) (x : Head ws k []) → ws ++ z ∷ zs ≡ x.first ∷ (z ∷ zs)
    one_token ws z zs x = ap (λ v. v ++ z ∷ zs) x.whole ∙ ap (λ v. x.first ∷ (v ++ z ∷ zs)) (none_left x.rest x.rest_is)

-- `(`, read as a direct declarator or as a group
open_direct : (g : Context) (f : Form) (x : Terminal) (xs ys : List Terminal) (e : Declared syntax_trees) → view g.types x.sort ≡ tokens.mark tokens.opening → Read g (grammar.behind_group f x) xs e ys → Read g (grammar.direct f) (x ∷ xs) e ys
open_direct g grammar.concrete x xs ys e v r = chosen g (grammar.direct grammar.concrete) x (tokens.mark tokens.opening) _ xs ys e v refl (read_take refl (join r read_done))
open_direct g grammar.abstract x xs ys e v r = chosen g (grammar.direct grammar.abstract) x (tokens.mark tokens.opening) _ xs ys e v refl (read_take refl (join r read_done))
open_direct g grammar.either x xs ys e v r = chosen g (grammar.direct grammar.either) x (tokens.mark tokens.opening) _ xs ys e v refl (read_take refl (join r read_done))

open_group : {m : Declarator} (g : Context) (f : Form) (x : Terminal) (xs mid ys : List Terminal) (e : Declared syntax_trees) → view g.types x.sort ≡ tokens.mark tokens.opening → Read g (grammar.behind_group f x) xs e mid → Reading g (grammar.declarator_suffixes e) m mid ys → Reading g (grammar.group f) m (x ∷ xs) ys
open_group g grammar.concrete x xs mid ys e v r s = record { answer = s.answer; read = chosen g (grammar.group grammar.concrete) x (tokens.mark tokens.opening) _ xs ys s.answer v refl (read_take refl (join r (join s.read read_done))); alike = s.alike }
open_group g grammar.abstract x xs mid ys e v r s = record { answer = s.answer; read = chosen g (grammar.group grammar.abstract) x (tokens.mark tokens.opening) _ xs ys s.answer v refl (read_take refl (join r (join s.read read_done))); alike = s.alike }
open_group g grammar.either x xs mid ys e v r s = record { answer = s.answer; read = chosen g (grammar.group grammar.either) x (tokens.mark tokens.opening) _ xs ys s.answer v refl (read_take refl (join r (join s.read read_done))); alike = s.alike }

open_declarator : {m : Declarator} (g : Context) (f : Form) (x : Terminal) (xs mid ys : List Terminal) (e : Declared syntax_trees) → view g.types x.sort ≡ tokens.mark tokens.opening → Read g (grammar.behind_group f x) xs e mid → Reading g (grammar.declarator_suffixes e) m mid ys → Reading g (grammar.declarator f) m (x ∷ xs) ys
open_declarator g f x xs mid ys e v r s = record { answer = s.answer; read = chosen g (grammar.declarator f) x (tokens.mark tokens.opening) _ xs ys s.answer v refl (join (open_direct g f x xs mid e v r) (join s.read read_done)); alike = s.alike }

-- a group behind its `(`
grouped : (g : Context) (f : Form) (d : Declarator) (y : Terminal) → Declaring g d → NamesForm f d → is_absent d ≡ false → (ws : List Terminal) (c : Terminal) (zs : List Terminal) → kinds_at ws ≡ declarator_tokens d → c.what.kind ≡ kinds.Mark puncts.RightParenthesis → Reading g (grammar.behind_group f y) (unplaced_declarator (syntax.group (bare_declarator d))) (ws ++ c ∷ zs) zs
grouped g f d y inner n some ws c zs is k =
    let r = inner.group f n some ws c zs is (ap is_declaring (closing_sort g c k)) in
    let h = inner.heads some ws (c ∷ zs) is in
    let ends = mark_taken tokens.closing c (kinds.Mark puncts.RightParenthesis) k refl in
    moved g (grammar.behind_group f y) (h.first ∷ h.rest) (ws ++ c ∷ zs) zs (sym h.whole)
    (record { answer = grammar.group_of y r.answer c; read = chosen g (grammar.behind_group f y) h.first (view g.types h.first.sort) _ h.rest zs (grammar.group_of y r.answer c) refl (if_false (not (grammar.is_concrete f) && is_parameters (view g.types h.first.sort)) _ _ (no_both (not (grammar.is_concrete f)) (is_parameters (view g.types h.first.sort)) h.holds.parameters)) (join (at_tokens h.whole r.read) (read_take ends read_done)); alike = ap (λ v. unplaced_declarator (syntax.group v)) (settle_bare c.what.place r.answer.tree ∙ r.alike) })
  where
    no_both : (a b : Bool) → b ≡ false → a && b ≡ false
    no_both true b e = e
    no_both false b e = refl

-- tokens in parentheses, before a token
record Parenthesised (g : Context) (ks : List Kind) (ws : List Terminal) (z : Terminal) (zs : List Terminal) : Type 0 where
  begin : Terminal
  inside : List Terminal
  end : Terminal
  whole : ws ++ z ∷ zs ≡ begin ∷ (inside ++ end ∷ (z ∷ zs))
  sort : view g.types begin.sort ≡ tokens.mark tokens.opening
  inside_is : kinds_at inside ≡ ks
  end_is : end.what.kind ≡ kinds.Mark puncts.RightParenthesis

parenthesised : (g : Context) (ks : List Kind) (ws : List Terminal) (z : Terminal) (zs : List Terminal) → kinds_at ws ≡ kinds.Mark puncts.LeftParenthesis ∷ (ks ++ kinds.Mark puncts.RightParenthesis ∷ []) → Parenthesised g ks ws z zs
parenthesised g ks ws z zs is =
    let h = head ws (kinds.Mark puncts.LeftParenthesis) _ is in
    let b = between h.rest ks (kinds.Mark puncts.RightParenthesis) [] h.rest_is in
    record {
      begin = h.first;
      inside = b.left;
      end = b.mark;
      whole = ap (λ v. v ++ z ∷ zs) h.whole ∙ ap (λ v. h.first ∷ (v ++ z ∷ zs)) b.whole ∙ ap (λ v. h.first ∷ v) (append_assoc b.left (b.mark ∷ b.right) (z ∷ zs)) ∙ ap (λ v. h.first ∷ (b.left ++ b.mark ∷ (v ++ z ∷ zs))) (none_left b.right b.right_is);
      sort = sort_at g.types h.first (kinds.Mark puncts.LeftParenthesis) h.first_is;
      inside_is = b.left_is;
      end_is = b.mark_is;
    }

pub group_complete : (g : Context) (d : Declarator) (q : Place) → is_absent d ≡ false → Declaring g d → Declaring g (declarator (syntax.group d) q)
group_complete g d q some inner = of_post g (declarator (syntax.group d) q) refl refl
    (λ f n m ws z zs ys is rest.
    let p = parenthesised g (declarator_tokens d) ws z zs is in
    let b = grouped g f d p.begin inner (named_as f (declarator (syntax.group d) q) d refl n) some p.inside p.end (z ∷ zs) p.inside_is p.end_is in
    moved g (grammar.declarator f) (p.begin ∷ (p.inside ++ p.end ∷ (z ∷ zs))) (ws ++ z ∷ zs) ys (sym p.whole) (open_declarator g f p.begin (p.inside ++ p.end ∷ (z ∷ zs)) (z ∷ zs) ys b.answer p.sort b.read (rest b.answer b.alike)))
    (λ f n m ws z zs ys is rest.
    let p = parenthesised g (declarator_tokens d) ws z zs is in
    let b = grouped g f d p.begin inner (named_as f (declarator (syntax.group d) q) d refl n) some p.inside p.end (z ∷ zs) p.inside_is p.end_is in
    moved g (grammar.group f) (p.begin ∷ (p.inside ++ p.end ∷ (z ∷ zs))) (ws ++ z ∷ zs) ys (sym p.whole) (open_group g f p.begin (p.inside ++ p.end ∷ (z ∷ zs)) (z ∷ zs) ys b.answer p.sort b.read (rest b.answer b.alike)))
    (λ ws zs is.
    let h = head ws (kinds.Mark puncts.LeftParenthesis) _ is in
    record { first = h.first; rest = h.rest ++ zs; whole = ap (λ v. v ++ zs) h.whole; holds = mark_head g h.first tokens.opening (sort_at g.types h.first (kinds.Mark puncts.LeftParenthesis) h.first_is) (record { parameters = refl; specifier = refl; brace = refl; qualifier = refl }) })

-- ---- pointers

abbrev keywords : List Terminal → List Keyword
keywords xs = map (λ x. make.keyword_of x.what.kind) xs

keywords_in : (xs : List Terminal) → map (λ x. make.keyword_of x.kind) (map (λ x. x.what) xs) ≡ keywords xs
keywords_in [] = refl
keywords_in (x ∷ xs) = ap (λ v. make.keyword_of x.what.kind ∷ v) (keywords_in xs)

qualifiers_read : (g : Context) (ks : List Keyword) (ws xs : List Terminal) (z : Terminal) (zs : List Terminal) → kinds_at ws ≡ map (λ k. kinds.Word k) ks → list_all is_qualifier ks ≡ true → grammar.is_qualifier (view g.types z.sort) ≡ false → Reading g (grammar.qualifiers xs) (keywords xs ++ ks) (ws ++ z ∷ zs) (z ∷ zs)
qualifiers_read g [] [] xs z zs is all stops = record { answer = xs; read = nothing g (grammar.qualifiers xs) z zs stops; alike = sym (append-nil (keywords xs)) }
qualifiers_read g [] (x ∷ ws) xs z zs is all stops = absurd cc
qualifiers_read g (k ∷ ks) [] xs z zs is all stops = absurd cc
qualifiers_read g (k ∷ ks) (x ∷ ws) xs z zs is all stops =
    let first : x.what.kind ≡ kinds.Word k = cc in
    let rest : kinds_at ws ≡ map (λ j. kinds.Word j) ks = cc in
    let v = sort_at g.types x (kinds.Word k) first ∙ ap (view g.types) (qualifier_sort k (and_first (is_qualifier k) (list_all is_qualifier ks) all)) in
    let more : keywords (xs ++ x ∷ []) ++ ks ≡ keywords xs ++ k ∷ ks = ap (λ v. v ++ ks) (map-append (λ x. make.keyword_of x.what.kind) xs (x ∷ [])) ∙ append_assoc (keywords xs) (make.keyword_of x.what.kind ∷ []) ks ∙ ap (λ v. keywords xs ++ make.keyword_of v ∷ ks) first in
    let r = qualifiers_read g ks ws (xs ++ x ∷ []) z zs rest (and_second (is_qualifier k) (list_all is_qualifier ks) all) stops in
    record { answer = r.answer; read = chosen g (grammar.qualifiers xs) x tokens.qualifier _ (ws ++ z ∷ zs) (z ∷ zs) r.answer v refl (read_take refl (join r.read read_done)); alike = r.alike ∙ more }
  where
    and_first : (a b : Bool) → a && b ≡ true → a ≡ true
    and_first true b e = refl
    and_first false b e = e

    and_second : (a b : Bool) → a && b ≡ true → b ≡ true
    and_second true b e = e
    and_second false b e = absurd cc

    qualifier_sort : (k : Keyword) → is_qualifier k ≡ true → word_sort k ≡ tokens.qualifier
    qualifier_sort words.Const e = refl
    qualifier_sort words.Volatile e = refl
    qualifier_sort _ e = absurd cc

-- what stands behind the qualifiers is none
after_qualifiers : (g : Context) (d : Declarator) → Declaring g d → (ws : List Terminal) (z : Terminal) (zs : List Terminal) → kinds_at ws ≡ declarator_tokens d → is_declaring (view g.types z.sort) ≡ false → Next g (λ s. grammar.is_qualifier s ≡ false) (ws ++ z ∷ zs)
after_qualifiers g d inner ws z zs is stops = by_absent g d inner ws z zs is stops (is_absent d) refl
  where
    none_at : (d : Declarator) → is_absent d ≡ true → declarator_tokens d ≡ []
    none_at (declarator syntax.absent p) e = refl
    none_at (declarator (syntax.declared n) p) e = absurd cc
    none_at (declarator (syntax.group d) p) e = absurd cc
    none_at (declarator (syntax.pointer ks d) p) e = absurd cc
    none_at (declarator (syntax.array d n) p) e = absurd cc
    none_at (declarator (syntax.function d ps dots) p) e = absurd cc

    by_absent : (g : Context) (d : Declarator) → Declaring g d → (ws : List Terminal) (z : Terminal) (zs : List Terminal) → kinds_at ws ≡ declarator_tokens d → is_declaring (view g.types z.sort) ≡ false → (b : Bool) → is_absent d ≡ b → Next g (λ s. grammar.is_qualifier s ≡ false) (ws ++ z ∷ zs)
    by_absent g d inner ws z zs is stops true e = record { first = z; rest = zs; whole = ap (λ v. v ++ z ∷ zs) (none_left ws (is ∙ none_at d e)); holds = no_qualifier (view g.types z.sort) stops }
    by_absent g d inner ws z zs is stops false e = let h = inner.heads e ws (z ∷ zs) is in record { first = h.first; rest = h.rest; whole = h.whole; holds = h.holds.qualifier }

star_group : (g : Context) (f : Form) (x : Terminal) → grammar.group_plan {t = syntax_trees} g f x (tokens.mark tokens.star) ≡ Some (grammar.next (λ y. grammar.get g (grammar.qualifiers []) (λ qs. grammar.get g (grammar.declarator f) (λ d. done (grammar.pointed x qs d)))))
star_group g grammar.concrete x = refl
star_group g grammar.abstract x = refl
star_group g grammar.either x = refl

-- the star, and the readings of what stands behind it
record Starred (g : Context) (f : Form) (ks : List Keyword) (m : Declarator) (ws : List Terminal) (z : Terminal) (zs : List Terminal) : Type 0 where
  begin : Terminal
  rest : List Terminal
  mid : List Terminal
  whole : ws ++ z ∷ zs ≡ begin ∷ rest
  sort : view g.types begin.sort ≡ tokens.mark tokens.star
  qualifiers : Reading g (grammar.qualifiers []) ks rest mid
  declared : Reading g (grammar.declarator f) m mid (z ∷ zs)

starred : (g : Context) (ks : List Keyword) (d : Declarator) → list_all is_qualifier ks ≡ true → Declaring g d → (f : Form) → NamesForm f d → (ws : List Terminal) (z : Terminal) (zs : List Terminal) → kinds_at ws ≡ kinds.Mark puncts.Star ∷ (map (λ k. kinds.Word k) ks ++ declarator_tokens d) → is_declaring (view g.types z.sort) ≡ false → Starred g f ks (bare_declarator d) ws z zs
starred g ks d all inner f n ws z zs is stops =
    let h = head ws (kinds.Mark puncts.Star) _ is in
    let c = cut h.rest (map (λ k. kinds.Word k) ks) (declarator_tokens d) h.rest_is in
    let b = after_qualifiers g d inner c.right z zs c.right_is stops in
    let q = qualifiers_read g ks c.left [] b.first b.rest c.left_is all b.holds in
    let e = inner.whole f n c.right z zs c.right_is stops in
    record {
      begin = h.first;
      rest = c.left ++ b.first ∷ b.rest;
      mid = b.first ∷ b.rest;
      whole = ap (λ v. v ++ z ∷ zs) h.whole ∙ ap (λ v. h.first ∷ (v ++ z ∷ zs)) c.whole ∙ ap (λ v. h.first ∷ v) (append_assoc c.left c.right (z ∷ zs)) ∙ ap (λ v. h.first ∷ (c.left ++ v)) b.whole;
      sort = sort_at g.types h.first (kinds.Mark puncts.Star) h.first_is;
      qualifiers = q;
      declared = moved g (grammar.declarator f) (c.right ++ z ∷ zs) (b.first ∷ b.rest) (z ∷ zs) b.whole e;
    }

pub pointer_complete : (g : Context) (ks : List Keyword) (d : Declarator) (q : Place) → list_all is_qualifier ks ≡ true → Declaring g d → Declaring g (declarator (syntax.pointer ks d) q)
pointer_complete g ks d q all inner = record {
  whole = λ f n ws z zs is stops.
      let p = starred g ks d all inner f (named_as f (declarator (syntax.pointer ks d) q) d refl n) ws z zs is stops in
      moved g (grammar.declarator f) (p.begin ∷ p.rest) (ws ++ z ∷ zs) (z ∷ zs) (sym p.whole) (record { answer = grammar.pointed p.begin p.qualifiers.answer p.declared.answer; read = chosen g (grammar.declarator f) p.begin (tokens.mark tokens.star) _ p.rest (z ∷ zs) _ p.sort refl (read_take refl (join p.qualifiers.read (join p.declared.read read_done))); alike = ap₂ (λ u v. unplaced_declarator (syntax.pointer u v)) (keywords_in p.qualifiers.answer ∙ p.qualifiers.alike) p.declared.alike });
  group = λ f n a ws z zs is stops.
      let p = starred g ks d all inner f (named_as f (declarator (syntax.pointer ks d) q) d refl n) ws z zs is stops in
      moved g (grammar.group f) (p.begin ∷ p.rest) (ws ++ z ∷ zs) (z ∷ zs) (sym p.whole) (record { answer = grammar.pointed p.begin p.qualifiers.answer p.declared.answer; read = chosen g (grammar.group f) p.begin (tokens.mark tokens.star) _ p.rest (z ∷ zs) _ p.sort (star_group g f p.begin) (read_take refl (join p.qualifiers.read (join p.declared.read read_done))); alike = ap₂ (λ u v. unplaced_declarator (syntax.pointer u v)) (keywords_in p.qualifiers.answer ∙ p.qualifiers.alike) p.declared.alike });
  post = λ f n h m ws z zs ys is a rest. absurd cc;
  post_group = λ f n h a m ws z zs ys is rest. absurd cc;
  heads = λ a ws zs is.
      let h = head ws (kinds.Mark puncts.Star) _ is in
      record { first = h.first; rest = h.rest ++ zs; whole = ap (λ v. v ++ zs) h.whole; holds = mark_head g h.first tokens.star (sort_at g.types h.first (kinds.Mark puncts.Star) h.first_is) (record { parameters = refl; specifier = refl; brace = refl; qualifier = refl }) };
}

-- ---- arrays and functions

-- a suffix of these kinds, behind any declarator
pub record Suffix (g : Context) (k : Kind) (b : List Kind) (form : Declarator → DeclaratorForm) : Type 0 where
  pub mark : tokens.Mark
  pub sort : sort_of k ≡ tokens.mark mark
  pub step : (m : Declarator) (e : Declared syntax_trees) (x : Terminal) (vs : List Terminal) (z : Terminal) (zs ys : List Terminal) → x.what.kind ≡ k → kinds_at vs ≡ b → ((o : Declared syntax_trees) → bare_declarator o.tree ≡ unplaced_declarator (form (bare_declarator e.tree)) → Reading g (grammar.declarator_suffixes o) m (z ∷ zs) ys) → Reading g (grammar.declarator_suffixes e) m (x ∷ (vs ++ z ∷ zs)) ys

-- behind a declarator that is there
pub suffixed_complete : (g : Context) (o d : Declarator) (k : Kind) (b : List Kind) (form : Declarator → DeclaratorForm) → bare_declarator o ≡ unplaced_declarator (form (bare_declarator d)) → declarator_tokens o ≡ declarator_tokens d ++ k ∷ b → is_direct o ≡ true → is_absent o ≡ false → declared_name o ≡ declared_name d → is_direct d ≡ true → is_absent d ≡ false → Declaring g d → Suffix g k b form → Declaring g o
suffixed_complete g o d k b form bare_is tokens_are direct some same inner_direct inner_some inner suffix = of_post g o direct some
    (λ f n m ws z zs ys is rest.
    let c = between ws (declarator_tokens d) k b (is ∙ tokens_are) in
    moved g (grammar.declarator f) (c.left ++ c.mark ∷ (c.right ++ z ∷ zs)) (ws ++ z ∷ zs) ys (sym (ap (λ w. w ++ z ∷ zs) c.whole ∙ append_assoc c.left (c.mark ∷ c.right) (z ∷ zs)))
    (inner.post f (named_as f o d same n) inner_direct m c.left c.mark (c.right ++ z ∷ zs) ys c.left_is (λ a. absurd cc) (λ e alike. suffix.step m e c.mark c.right z zs ys c.mark_is c.right_is (λ q h. rest q (h ∙ ap (λ v. unplaced_declarator (form v)) alike ∙ sym bare_is)))))
    (λ f n m ws z zs ys is rest.
    let c = between ws (declarator_tokens d) k b (is ∙ tokens_are) in
    moved g (grammar.group f) (c.left ++ c.mark ∷ (c.right ++ z ∷ zs)) (ws ++ z ∷ zs) ys (sym (ap (λ w. w ++ z ∷ zs) c.whole ∙ append_assoc c.left (c.mark ∷ c.right) (z ∷ zs)))
    (inner.post_group f (named_as f o d same n) inner_direct inner_some m c.left c.mark (c.right ++ z ∷ zs) ys c.left_is (λ e alike. suffix.step m e c.mark c.right z zs ys c.mark_is c.right_is (λ q h. rest q (h ∙ ap (λ v. unplaced_declarator (form v)) alike ∙ sym bare_is)))))
    (λ ws zs is.
    let c = between ws (declarator_tokens d) k b (is ∙ tokens_are) in
    let h = inner.heads inner_some c.left (c.mark ∷ (c.right ++ zs)) c.left_is in
    record { first = h.first; rest = h.rest; whole = ap (λ w. w ++ zs) c.whole ∙ append_assoc c.left (c.mark ∷ c.right) zs ∙ h.whole; holds = h.holds })

-- the length of an array, up to its `]`
abbrev pub Length : (g : Context) → List Kind → MaybeExpression → Type 0
Length g ks n = (ws : List Terminal) (c : Terminal) (zs : List Terminal) → kinds_at ws ≡ ks → c.what.kind ≡ kinds.Mark puncts.RightBracket → Reading g grammar.array_length n (ws ++ c ∷ zs) (c ∷ zs)

pub no_length : (g : Context) → Length g [] syntax.no_expression
no_length g ws c zs is k = moved g grammar.array_length (c ∷ zs) (ws ++ c ∷ zs) (c ∷ zs) (ap (λ w. w ++ c ∷ zs) (sym (none_left ws is)))
    (record { answer = None; read = nothing g grammar.array_length c zs (subst (λ s. (begins_expression s ≡ false) × (11 < looseness s)) (sym (sort_at g.types c (kinds.Mark puncts.RightBracket) k)) (refl, omega arith)); alike = refl })

pub some_length : (g : Context) (e : Expression) → 2 ≤ level e → Complete g e → ((ws : List Terminal) → kinds_at ws ≡ tokens_of e → Begins g ws) → Length g (tokens_of e) (syntax.some_expression (bare e))
some_length g e high inner begins ws c zs is k =
    let f = begins ws is in
    let r = inner.levels 11 (omega arith) (omega (arith, high)) ws c zs is (subst (λ s. 11 < looseness s) (sym (sort_at g.types c (kinds.Mark puncts.RightBracket) k)) (omega arith)) in
    let whole : ws ++ c ∷ zs ≡ f.first ∷ (f.rest ++ c ∷ zs) = ap (λ w. w ++ c ∷ zs) f.whole in
    moved g grammar.array_length (f.first ∷ (f.rest ++ c ∷ zs)) (ws ++ c ∷ zs) (c ∷ zs) (sym whole)
    (record { answer = Some r.answer.tree; read = chosen g grammar.array_length f.first (view g.types f.first.sort) _ (f.rest ++ c ∷ zs) (c ∷ zs) _ refl (if_true (begins_expression (view g.types f.first.sort)) _ _ f.begins) (join (at_tokens whole r.read) read_done); alike = ap (λ v. syntax.some_expression v) r.alike })

-- tokens up to a mark that closes them, before a token
record Closing (g : Context) (ks : List Kind) (k : Kind) (vs : List Terminal) (z : Terminal) (zs : List Terminal) : Type 0 where
  inside : List Terminal
  end : Terminal
  whole : vs ++ z ∷ zs ≡ inside ++ end ∷ (z ∷ zs)
  inside_is : kinds_at inside ≡ ks
  end_is : end.what.kind ≡ k

closing : (g : Context) (ks : List Kind) (k : Kind) (vs : List Terminal) (z : Terminal) (zs : List Terminal) → kinds_at vs ≡ ks ++ k ∷ [] → Closing g ks k vs z zs
closing g ks k vs z zs is =
    let b = between vs ks k [] is in
    record {
      inside = b.left;
      end = b.mark;
      whole = ap (λ v. v ++ z ∷ zs) b.whole ∙ append_assoc b.left (b.mark ∷ b.right) (z ∷ zs) ∙ ap (λ v. b.left ++ b.mark ∷ (v ++ z ∷ zs)) (none_left b.right b.right_is);
      inside_is = b.left_is;
      end_is = b.mark_is;
    }

pub array_suffix : (g : Context) (ks : List Kind) (n : MaybeExpression) → Length g ks n → Suffix g (kinds.Mark puncts.LeftBracket) (ks ++ kinds.Mark puncts.RightBracket ∷ []) (λ d. syntax.array d n)
array_suffix g ks n inner = record {
  mark = tokens.bracket;
  sort = refl;
  step = λ m e x vs z zs ys k is rest.
      let b = closing g ks (kinds.Mark puncts.RightBracket) vs z zs is in
      let r = inner b.inside b.end (z ∷ zs) b.inside_is b.end_is in
      let s = rest (grammar.array_of e x r.answer) (ap₂ (λ u v. unplaced_declarator (syntax.array u v)) (settle_bare x.what.place e.tree) r.alike) in
      let ends = mark_taken tokens.unbracket b.end (kinds.Mark puncts.RightBracket) b.end_is refl in
      moved g (grammar.declarator_suffixes e) (x ∷ (b.inside ++ b.end ∷ (z ∷ zs))) (x ∷ (vs ++ z ∷ zs)) ys (ap (λ v. x ∷ v) (sym b.whole))
      (record { answer = s.answer; read = chosen g (grammar.declarator_suffixes e) x (tokens.mark tokens.bracket) _ (b.inside ++ b.end ∷ (z ∷ zs)) ys s.answer (sort_at g.types x (kinds.Mark puncts.LeftBracket) k) refl (read_take refl (join r.read (read_take ends (join s.read read_done)))); alike = s.alike });
}

bracket_group : (g : Context) (f : Form) (p : Place) → NamesForm f (declarator syntax.absent p) → (x : Terminal) → grammar.group_plan {t = syntax_trees} g f x (tokens.mark tokens.bracket) ≡ Some (grammar.next (λ y. grammar.get g grammar.array_length (λ n. grammar.close_by g (grammar.if_missing n) tokens.unbracket (λ z. grammar.get g (grammar.declarator_suffixes (grammar.array_of (grammar.absent_declarator f) x n)) (λ e. done e)))))
bracket_group g grammar.concrete p h x = absurd cc
bracket_group g grammar.abstract p h x = refl
bracket_group g grammar.either p h x = refl

-- an array of no declarator
pub array_absent_complete : (g : Context) (o : Declarator) (ks : List Kind) (w : MaybeExpression) → bare_declarator o ≡ unplaced_declarator (syntax.array make.make_absent w) → declarator_tokens o ≡ kinds.Mark puncts.LeftBracket ∷ (ks ++ kinds.Mark puncts.RightBracket ∷ []) → is_direct o ≡ true → is_absent o ≡ false → (p : Place) → declared_name o ≡ None → Length g ks w → Declaring g o
array_absent_complete g o ks w bare_is tokens_are direct some p same inner = of_post g o direct some
    (λ f n m ws z zs ys is rest.
    let h = head ws (kinds.Mark puncts.LeftBracket) _ (is ∙ tokens_are) in
    let v = sort_at g.types h.first (kinds.Mark puncts.LeftBracket) h.first_is in
    let s = array_suffix g ks w inner in
    moved g (grammar.declarator f) (h.first ∷ (h.rest ++ z ∷ zs)) (ws ++ z ∷ zs) ys (ap (λ w. w ++ z ∷ zs) (sym h.whole))
    (absent_post g f p (named_as f o (declarator syntax.absent p) same n) h.first (h.rest ++ z ∷ zs) ys v (λ e alike. s.step m e h.first h.rest z zs ys h.first_is h.rest_is (λ q j. rest q (j ∙ ap (λ v. unplaced_declarator (syntax.array v w)) alike ∙ sym bare_is)))))
    (λ f n m ws z zs ys is rest.
    let h = head ws (kinds.Mark puncts.LeftBracket) _ (is ∙ tokens_are) in
    let v = sort_at g.types h.first (kinds.Mark puncts.LeftBracket) h.first_is in
    let b = closing g ks (kinds.Mark puncts.RightBracket) h.rest z zs h.rest_is in
    let r = inner b.inside b.end (z ∷ zs) b.inside_is b.end_is in
    let s = rest (grammar.array_of (grammar.absent_declarator f) h.first r.answer) (ap₂ (λ u v. unplaced_declarator (syntax.array u v)) (settle_bare h.first.what.place make.make_absent) r.alike ∙ sym bare_is) in
    let ends = mark_taken tokens.unbracket b.end (kinds.Mark puncts.RightBracket) b.end_is refl in
    moved g (grammar.group f) (h.first ∷ (b.inside ++ b.end ∷ (z ∷ zs))) (ws ++ z ∷ zs) ys (ap (λ v. h.first ∷ v) (sym b.whole) ∙ ap (λ w. w ++ z ∷ zs) (sym h.whole))
    (record { answer = s.answer; read = chosen g (grammar.group f) h.first (tokens.mark tokens.bracket) _ (b.inside ++ b.end ∷ (z ∷ zs)) ys s.answer v (bracket_group g f p (named_as f o (declarator syntax.absent p) same n) h.first) (read_take refl (join r.read (read_take ends (join s.read read_done)))); alike = s.alike }))
    (λ ws zs is.
    let h = head ws (kinds.Mark puncts.LeftBracket) _ (is ∙ tokens_are) in
    record { first = h.first; rest = h.rest ++ zs; whole = ap (λ v. v ++ zs) h.whole; holds = mark_head g h.first tokens.bracket (sort_at g.types h.first (kinds.Mark puncts.LeftBracket) h.first_is) (record { parameters = refl; specifier = refl; brace = refl; qualifier = refl }) })

-- parameters, up to their `)`
pub record Parametrising (g : Context) (ks : List Kind) (n : Params × Bool) : Type 0 where
  pub read : (ws : List Terminal) (c : Terminal) (zs : List Terminal) → kinds_at ws ≡ ks → c.what.kind ≡ kinds.Mark puncts.RightParenthesis → Reading g grammar.parameters n (ws ++ c ∷ zs) (c ∷ zs)
  pub begins : (ws : List Terminal) (c : Terminal) (zs : List Terminal) → kinds_at ws ≡ ks → c.what.kind ≡ kinds.Mark puncts.RightParenthesis → Next g (λ s. is_parameters s ≡ true) (ws ++ c ∷ zs)

pub function_suffix : (g : Context) (ks : List Kind) (n : Params × Bool) → Parametrising g ks n → Suffix g (kinds.Mark puncts.LeftParenthesis) (ks ++ kinds.Mark puncts.RightParenthesis ∷ []) (λ d. syntax.function d n.0 n.1)
function_suffix g ks n inner = record {
  mark = tokens.opening;
  sort = refl;
  step = λ m e x vs z zs ys k is rest.
      let b = closing g ks (kinds.Mark puncts.RightParenthesis) vs z zs is in
      let r = inner.read b.inside b.end (z ∷ zs) b.inside_is b.end_is in
      let s = rest (grammar.function_of e x r.answer b.end) (ap₃ (λ u v w. unplaced_declarator (syntax.function u v w)) (settle_bare x.what.place e.tree) (closed_bare r.answer.all r.answer.dots b.end.what ∙ first_same r.alike) (second_same r.alike)) in
      let ends = mark_taken tokens.closing b.end (kinds.Mark puncts.RightParenthesis) b.end_is refl in
      moved g (grammar.declarator_suffixes e) (x ∷ (b.inside ++ b.end ∷ (z ∷ zs))) (x ∷ (vs ++ z ∷ zs)) ys (ap (λ v. x ∷ v) (sym b.whole))
      (record { answer = s.answer; read = chosen g (grammar.declarator_suffixes e) x (tokens.mark tokens.opening) _ (b.inside ++ b.end ∷ (z ∷ zs)) ys s.answer (sort_at g.types x (kinds.Mark puncts.LeftParenthesis) k) refl (read_take refl (join r.read (read_take ends (join s.read read_done)))); alike = s.alike });
}

no_concrete : (f : Form) (p : Place) → NamesForm f (declarator syntax.absent p) → (b : Bool) → b ≡ true → not (grammar.is_concrete f) && b ≡ true
no_concrete grammar.concrete p h b e = absurd cc
no_concrete grammar.abstract p h b e = e
no_concrete grammar.either p h b e = e

-- the parameters of no declarator, behind their `(`
parameters_alone : (g : Context) (f : Form) (p : Place) (ks : List Kind) (w : Params × Bool) (y : Terminal) → NamesForm f (declarator syntax.absent p) → Parametrising g ks w → (ws : List Terminal) (c : Terminal) (zs : List Terminal) → kinds_at ws ≡ ks → c.what.kind ≡ kinds.Mark puncts.RightParenthesis → Reading g (grammar.behind_group f y) (unplaced_declarator (syntax.function make.make_absent w.0 w.1)) (ws ++ c ∷ zs) zs
parameters_alone g f p ks w y n inner ws c zs is k =
    let r = inner.read ws c zs is k in
    let h = inner.begins ws c zs is k in
    let ends = mark_taken tokens.closing c (kinds.Mark puncts.RightParenthesis) k refl in
    moved g (grammar.behind_group f y) (h.first ∷ h.rest) (ws ++ c ∷ zs) zs (sym h.whole)
    (record { answer = grammar.function_of (grammar.absent_declarator f) y r.answer c; read = chosen g (grammar.behind_group f y) h.first (view g.types h.first.sort) _ h.rest zs _ refl (if_true (not (grammar.is_concrete f) && is_parameters (view g.types h.first.sort)) _ _ (no_concrete f p n (is_parameters (view g.types h.first.sort)) h.holds)) (join (at_tokens h.whole r.read) (read_take ends read_done)); alike = ap₃ (λ u v w. unplaced_declarator (syntax.function u v w)) (settle_bare y.what.place make.make_absent) (closed_bare r.answer.all r.answer.dots c.what ∙ first_same r.alike) (second_same r.alike) })

pub function_absent_complete : (g : Context) (o : Declarator) (ks : List Kind) (w : Params × Bool) → bare_declarator o ≡ unplaced_declarator (syntax.function make.make_absent w.0 w.1) → declarator_tokens o ≡ kinds.Mark puncts.LeftParenthesis ∷ (ks ++ kinds.Mark puncts.RightParenthesis ∷ []) → is_direct o ≡ true → is_absent o ≡ false → (p : Place) → declared_name o ≡ None → Parametrising g ks w → Declaring g o
function_absent_complete g o ks w bare_is tokens_are direct some p same inner = of_post g o direct some
    (λ f n m ws z zs ys is rest.
    let q = parenthesised g ks ws z zs (is ∙ tokens_are) in
    let b = parameters_alone g f p ks w q.begin (named_as f o (declarator syntax.absent p) same n) inner q.inside q.end (z ∷ zs) q.inside_is q.end_is in
    moved g (grammar.declarator f) (q.begin ∷ (q.inside ++ q.end ∷ (z ∷ zs))) (ws ++ z ∷ zs) ys (sym q.whole) (open_declarator g f q.begin (q.inside ++ q.end ∷ (z ∷ zs)) (z ∷ zs) ys b.answer q.sort b.read (rest b.answer (b.alike ∙ sym bare_is))))
    (λ f n m ws z zs ys is rest.
    let q = parenthesised g ks ws z zs (is ∙ tokens_are) in
    let b = parameters_alone g f p ks w q.begin (named_as f o (declarator syntax.absent p) same n) inner q.inside q.end (z ∷ zs) q.inside_is q.end_is in
    moved g (grammar.group f) (q.begin ∷ (q.inside ++ q.end ∷ (z ∷ zs))) (ws ++ z ∷ zs) ys (sym q.whole) (open_group g f q.begin (q.inside ++ q.end ∷ (z ∷ zs)) (z ∷ zs) ys b.answer q.sort b.read (rest b.answer (b.alike ∙ sym bare_is))))
    (λ ws zs is.
    let h = head ws (kinds.Mark puncts.LeftParenthesis) _ (is ∙ tokens_are) in
    record { first = h.first; rest = h.rest ++ zs; whole = ap (λ v. v ++ zs) h.whole; holds = mark_head g h.first tokens.opening (sort_at g.types h.first (kinds.Mark puncts.LeftParenthesis) h.first_is) (record { parameters = refl; specifier = refl; brace = refl; qualifier = refl }) })
