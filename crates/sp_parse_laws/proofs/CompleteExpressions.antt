-- Each form of expression is read from its tokens, given that its parts are.
use Rattle.std.proofs.Common.{◌≡◌, ℕ, zero, suc, ◌+◌, ◌<◌, ◌≤◌, Bool, true, false, List, [], ◌∷◌, ◌++◌, map, Some, refl, sym, ap, ap₂, ◌∙◌, subst, arith, append_assoc, append-nil}
use Rattle.std.proofs.lemmas.List.{map-append}
use Rattle.std.specs.Prelude.{if◌then◌else◌, ◌==◌}
use Rattle.std.specs.List.{list_any}
use Rattle.sp_tree.specs.declared.token.Kind.{Kind}
use Rattle.sp_tree.specs.declared.token.Kind.TheVariants as kinds
use Rattle.sp_tree.specs.declared.token.Punct.{Punct}
use Rattle.sp_tree.specs.declared.token.Punct.TheVariants as puncts
use Rattle.sp_parse_trees.specs.Syntax as syntax
use Rattle.sp_parse_trees.specs.Syntax.{Expression, ExpressionForm, Expressions}
use Rattle.sp_parse_trees.specs.Spelling.{tokens_of}
use Rattle.sp_parse_trees.specs.Levels.{level}
use Rattle.sp_parse_tokens.specs.Makers as make
use Rattle.sp_parse_grammar.specs.CTokens as tokens
use Rattle.sp_parse_grammar.specs.CTokens.{Sort, view, is_mark, looseness, is_specifier}
use Rattle.sp_parse_grammar.specs.CTable as grammar
use Rattle.sp_parse_grammar.specs.CTable.{Context, Operand, ItemAnswer, Ask, at, c_symbols, plan, stands_behind, operator_plan, begins_expression}
use Rattle.sp_parse_grammar.specs.Table.{done, read_done, read_take, read_call}
use Rattle.sp_parse_grammar.proofs.Readings.{join, at_tokens}
use Rattle.sp_parse_grammar.proofs.CChecked.{if_false}
use Rattle.sp_parse_tokens.specs.Sorts.{Terminal, sort_of, punct_sort}
use Rattle.sp_parse_tokens.specs.SyntaxTrees.{syntax_trees}
use Rattle.sp_parse_laws.specs.Bare.{bare, bare_form}
use Rattle.sp_parse_laws.proofs.BareTrees.{ap₃}
use Rattle.sp_parse_laws.proofs.BareAnswers.{unplaced, member_bare}
use Rattle.sp_parse_laws.specs.Spelled.{kinds_at}
use Rattle.sp_parse_laws.proofs.Completing.{head, between, sort_at, mark_taken, Read, Reading, chosen, nothing, moved, Leveled, raise}

-- an operand, in each of the places where it may stand: as a level, before operators, behind `sizeof`
pub record Triple (g : Context) (n : Expression) (xs ys : List Terminal) : Type 0 where
  pub operand : Operand syntax_trees
  pub zero_read : Read g (grammar.level zero) xs operand ys
  pub flag : operand.unary ≡ true
  pub alike : bare operand.tree ≡ n
  pub unary : Reading g grammar.unary n xs ys
  pub sized : (y : Terminal) → Reading g (grammar.behind_sizeof y) (unplaced (syntax.sizeof_expr n)) xs ys

pub moved_triple : {n : Expression} (g : Context) (xs zs ys : List Terminal) → xs ≡ zs → Triple g n xs ys → Triple g n zs ys
moved_triple g xs zs ys e t = record { operand = t.operand; zero_read = at_tokens e t.zero_read; flag = t.flag; alike = t.alike; unary = moved g grammar.unary xs zs ys e t.unary; sized = λ y. moved g (grammar.behind_sizeof y) xs zs ys e (t.sized y) }

abbrev pub is_text : Sort → Bool
is_text tokens.text = true
is_text _ = false

-- the expression is read from its tokens: as a level; on to what stands behind it on a level; and, where it is a postfix or a
-- unary expression, on to the suffixes behind it and as an operand
pub record Complete (g : Context) (e : Expression) : Type 0 where
  pub levels : (k : ℕ) → k ≤ 13 → 13 ≤ k + level e → (ws : List Terminal) (z : Terminal) (zs : List Terminal) → kinds_at ws ≡ tokens_of e → k < looseness (view g.types z.sort) → Leveled g k e (ws ++ z ∷ zs) (z ∷ zs)
  pub on : (k : ℕ) → k ≤ 12 → 13 ≤ suc k + level e → (suc k ≡ 11 → 3 ≤ level e) → (suc k ≡ 12 → 2 ≤ level e) → (n : Expression) (ws : List Terminal) (z : Terminal) (zs ys : List Terminal) → kinds_at ws ≡ tokens_of e → k < looseness (view g.types z.sort)
      → ((l : Operand syntax_trees) → (14 ≤ level e → l.unary ≡ true) → bare l.tree ≡ bare e → Reading g (grammar.after (suc k) l) n (z ∷ zs) ys) → Reading g (grammar.level (suc k)) n (ws ++ z ∷ zs) ys
  pub post : 15 ≤ level e → (n : Expression) (ws : List Terminal) (z : Terminal) (zs ys : List Terminal) → kinds_at ws ≡ tokens_of e → is_text (view g.types z.sort) ≡ false → ((f : Expression) → bare f ≡ bare e → Reading g (grammar.suffixes f) n (z ∷ zs) ys) → Triple g n (ws ++ z ∷ zs) ys
  pub operand : 14 ≤ level e → (ws : List Terminal) (z : Terminal) (zs : List Terminal) → kinds_at ws ≡ tokens_of e → 0 < looseness (view g.types z.sort) → Triple g (bare e) (ws ++ z ∷ zs) (z ∷ zs)

-- ---- built from less

-- on a looser level what stands behind it is read on
pub up_on : {n : Expression} (g : Context) (k : ℕ) (e : Expression) (xs : List Terminal) (z : Terminal) (zs ys : List Terminal) → Leveled g k e xs (z ∷ zs) → ((l : Operand syntax_trees) → (14 ≤ level e → l.unary ≡ true) → bare l.tree ≡ bare e → Reading g (grammar.after (suc k) l) n (z ∷ zs) ys) → Reading g (grammar.level (suc k)) n xs ys
up_on g k e [] z zs ys r on = absurd (none g k r.answer (z ∷ zs) r.read)
  where
    none : (g : Context) (k : ℕ) (o : Operand syntax_trees) (ys : List Terminal) → Read g (grammar.level k) [] o ys → ⊥
    none g k o ys r = elim r [ ]
up_on g k e (x ∷ xs) z zs ys r on =
    let rest = on r.answer r.unary r.alike in
    record { answer = rest.answer; read = read_call refl (join r.read (join rest.read read_done)) read_done; alike = rest.alike }

pub of_zero : (g : Context) (e : Expression) → 13 ≤ level e → ((ws : List Terminal) (z : Terminal) (zs : List Terminal) → kinds_at ws ≡ tokens_of e → 0 < looseness (view g.types z.sort) → Leveled g 0 e (ws ++ z ∷ zs) (z ∷ zs))
    → (15 ≤ level e → (n : Expression) (ws : List Terminal) (z : Terminal) (zs ys : List Terminal) → kinds_at ws ≡ tokens_of e → is_text (view g.types z.sort) ≡ false → ((f : Expression) → bare f ≡ bare e → Reading g (grammar.suffixes f) n (z ∷ zs) ys) → Triple g n (ws ++ z ∷ zs) ys)
    → (14 ≤ level e → (ws : List Terminal) (z : Terminal) (zs : List Terminal) → kinds_at ws ≡ tokens_of e → 0 < looseness (view g.types z.sort) → Triple g (bare e) (ws ++ z ∷ zs) (z ∷ zs)) → Complete g e
of_zero g e high zeroes post operand = record {
  levels = λ k small deep ws z zs is stops. let size : k + 0 ≡ k = omega arith in subst (λ v. Leveled g v e (ws ++ z ∷ zs) (z ∷ zs)) size (raise g 0 k e (ws ++ z ∷ zs) z zs (omega arith) (zeroes ws z zs is (omega arith)));
  on = λ k small deep three two n ws z zs ys is stops rest.
      let size : k + 0 ≡ k = omega arith in
      let here = subst (λ v. Leveled g v e (ws ++ z ∷ zs) (z ∷ zs)) size (raise g 0 k e (ws ++ z ∷ zs) z zs (omega arith) (zeroes ws z zs is (omega arith))) in
      up_on g k e (ws ++ z ∷ zs) z zs ys here rest;
  post = post;
  operand = operand;
}

as_zero : (g : Context) (e : Expression) (xs ys : List Terminal) → Triple g (bare e) xs ys → Leveled g 0 e xs ys
as_zero g e xs ys t = record { answer = t.operand; read = t.zero_read; unary = λ h. t.flag; alike = t.alike }

pub of_operand : (g : Context) (e : Expression) → 14 ≤ level e → (15 ≤ level e → (n : Expression) (ws : List Terminal) (z : Terminal) (zs ys : List Terminal) → kinds_at ws ≡ tokens_of e → is_text (view g.types z.sort) ≡ false → ((f : Expression) → bare f ≡ bare e → Reading g (grammar.suffixes f) n (z ∷ zs) ys) → Triple g n (ws ++ z ∷ zs) ys)
    → ((ws : List Terminal) (z : Terminal) (zs : List Terminal) → kinds_at ws ≡ tokens_of e → 0 < looseness (view g.types z.sort) → Triple g (bare e) (ws ++ z ∷ zs) (z ∷ zs)) → Complete g e
of_operand g e high post operand = of_zero g e (omega arith) (λ ws z zs is stops. as_zero g e (ws ++ z ∷ zs) (z ∷ zs) (operand ws z zs is stops)) post (λ h. operand)

loose_no_text : (s : Sort) → 0 < looseness s → is_text s ≡ false
loose_no_text tokens.text h = absurd (omega arith)
loose_no_text _ h = refl

pub of_post : (g : Context) (e : Expression) → 14 ≤ level e → ((n : Expression) (ws : List Terminal) (z : Terminal) (zs ys : List Terminal) → kinds_at ws ≡ tokens_of e → is_text (view g.types z.sort) ≡ false → ((f : Expression) → bare f ≡ bare e → Reading g (grammar.suffixes f) n (z ∷ zs) ys) → Triple g n (ws ++ z ∷ zs) ys) → Complete g e
of_post g e high post = of_operand g e high (λ h. post) (λ ws z zs is stops. post (bare e) ws z zs (z ∷ zs) is (loose_no_text (view g.types z.sort) stops) (λ f same. record { answer = f; read = nothing g (grammar.suffixes f) z zs stops; alike = same }))

-- one that begins with no `(`
pub from_unary : {n : Expression} (g : Context) (x : Terminal) (s : Sort) (xs ys : List Terminal) → view g.types x.sort ≡ s → is_mark tokens.opening s ≡ false → Reading g grammar.unary n (x ∷ xs) ys → Triple g n (x ∷ xs) ys
from_unary g x s xs ys v b r = record {
  operand = grammar.operand r.answer true;
  zero_read = chosen g (grammar.level zero) x s _ xs ys (grammar.operand r.answer true) v (if_false (is_mark tokens.opening s) _ _ b) (join r.read read_done);
  flag = refl;
  alike = r.alike;
  unary = r;
  sized = λ y. record { answer = syntax_trees.sizeof_expr y r.answer; read = chosen g (grammar.behind_sizeof y) x s _ xs ys _ v (if_false (is_mark tokens.opening s) _ _ b) (join r.read read_done); alike = ap (λ v. unplaced (syntax.sizeof_expr v)) r.alike };
}

primary_on : {n : Expression} (g : Context) (x : Terminal) (s : Sort) (xs rest ys : List Terminal) (f : Expression) → view g.types x.sort ≡ s → plan {t = syntax_trees} g grammar.unary x s ≡ Some (grammar.get g grammar.primary (λ e. grammar.get g (grammar.suffixes e) (λ f. done f))) → Read g grammar.primary (x ∷ xs) f rest → Reading g (grammar.suffixes f) n rest ys → Reading g grammar.unary n (x ∷ xs) ys
primary_on g x s xs rest ys f v e p r = record { answer = r.answer; read = chosen g grammar.unary x s _ xs ys r.answer v e (join p (join r.read read_done)); alike = r.alike }

pub name_sort : (types : List ℕ) (x : Terminal) (n : ℕ) → x.what.kind ≡ kinds.Name n → list_any (λ t. t == n) types ≡ false → view types x.sort ≡ tokens.name n
name_sort types x n e h = sort_at types x (kinds.Name n) e ∙ ap (λ b. if b then tokens.named_type n else tokens.name n) h

-- ---- primary expressions

pub none_left : (ws : List Terminal) → kinds_at ws ≡ [] → ws ≡ []
none_left [] e = refl
none_left (x ∷ xs) e = absurd cc

-- one token, which is read as a primary expression
pub leaf_complete : (g : Context) (e : Expression) (k : Kind) (form : ExpressionForm) → tokens_of e ≡ k ∷ [] → bare e ≡ unplaced form → 14 ≤ level e
    → ((x : Terminal) → x.what.kind ≡ k → (s : Sort) × (view g.types x.sort ≡ s) × (is_mark tokens.opening s ≡ false) × (plan {t = syntax_trees} g grammar.unary x s ≡ Some (grammar.get g grammar.primary (λ e. grammar.get g (grammar.suffixes e) (λ f. done f)))) × ((zs : List Terminal) → Reading g grammar.primary (unplaced form) (x ∷ zs) zs)) → Complete g e
leaf_complete g e k form tokens_are bare_is high way = of_post g e high (λ n ws z zs ys is text rest.
    let h = head ws k [] (is ∙ tokens_are) in
    let w = way h.first h.first_is in
    let more : h.rest ++ z ∷ zs ≡ z ∷ zs = ap (λ w. w ++ z ∷ zs) (none_left h.rest h.rest_is) in
    let p = w.4 (z ∷ zs) in
    moved_triple g (h.first ∷ (z ∷ zs)) (ws ++ z ∷ zs) ys (ap (λ w. h.first ∷ w) (sym more) ∙ ap (λ w. w ++ z ∷ zs) (sym h.whole))
    (from_unary g h.first w.0 (z ∷ zs) ys w.1 w.2 (primary_on g h.first w.0 (z ∷ zs) (z ∷ zs) ys p.answer w.1 w.3 p.read (rest p.answer (p.alike ∙ sym bare_is)))))

pub name_complete : (g : Context) (e : Expression) (n : ℕ) → tokens_of e ≡ kinds.Name n ∷ [] → bare e ≡ unplaced (syntax.name n) → 14 ≤ level e → list_any (λ t. t == n) g.types ≡ false → Complete g e
name_complete g e n tokens_are bare_is high free = leaf_complete g e (kinds.Name n) (syntax.name n) tokens_are bare_is high (λ x is.
    let v = name_sort g.types x n is free in
    (tokens.name n, v, refl, refl, (λ zs. record { answer = syntax_trees.name x; read = chosen g grammar.primary x (tokens.name n) _ zs zs _ v refl (read_take refl read_done); alike = ap (λ v. unplaced (syntax.name (make.number_of v))) is })))

pub constant_complete : (g : Context) (e : Expression) (k : Kind) → tokens_of e ≡ k ∷ [] → bare e ≡ unplaced (bare_form (make.constant_form k)) → 14 ≤ level e → sort_of k ≡ tokens.constant → Complete g e
constant_complete g e k tokens_are bare_is high sort = leaf_complete g e k (bare_form (make.constant_form k)) tokens_are bare_is high (λ x is.
    let v = sort_at g.types x k is ∙ ap (view g.types) sort in
    (tokens.constant, v, refl, refl, (λ zs. record { answer = syntax_trees.constant x; read = chosen g grammar.primary x tokens.constant _ zs zs _ v refl (read_take refl read_done); alike = ap (λ v. unplaced (bare_form (make.constant_form v))) is })))

no_text_plan : (g : Context) (xs : List Terminal) (z : Terminal) (s : Sort) → is_text s ≡ false → plan {t = syntax_trees} g (grammar.texts xs) z s ≡ Some (done xs)
no_text_plan g xs z tokens.text h = absurd cc
no_text_plan g xs z _ h = refl

abbrev text_numbers : List Terminal → List ℕ
text_numbers xs = map (λ x. make.number_of x.what.kind) xs

numbers_in : (xs : List Terminal) → map (λ x. make.number_of x.kind) (map (λ x. x.what) xs) ≡ text_numbers xs
numbers_in [] = refl
numbers_in (x ∷ xs) = ap (λ v. make.number_of x.what.kind ∷ v) (numbers_in xs)

-- string literals one behind the other
texts_read : (g : Context) (ns : List ℕ) (ws xs : List Terminal) (z : Terminal) (zs : List Terminal) → kinds_at ws ≡ map (λ n. kinds.Text n) ns → is_text (view g.types z.sort) ≡ false → Reading g (grammar.texts xs) (text_numbers xs ++ ns) (ws ++ z ∷ zs) (z ∷ zs)
texts_read g [] [] xs z zs is text = record { answer = xs; read = chosen g (grammar.texts xs) z (view g.types z.sort) _ zs (z ∷ zs) xs refl (no_text_plan g xs z (view g.types z.sort) text) read_done; alike = sym (append-nil (text_numbers xs)) }
texts_read g [] (x ∷ ws) xs z zs is text = absurd cc
texts_read g (n ∷ ns) [] xs z zs is text = absurd cc
texts_read g (n ∷ ns) (x ∷ ws) xs z zs is text =
    let first : x.what.kind ≡ kinds.Text n = cc in
    let rest : kinds_at ws ≡ map (λ m. kinds.Text m) ns = cc in
    let v = sort_at g.types x (kinds.Text n) first in
    let more : text_numbers (xs ++ x ∷ []) ++ ns ≡ text_numbers xs ++ n ∷ ns = ap (λ v. v ++ ns) (map-append (λ x. make.number_of x.what.kind) xs (x ∷ [])) ∙ append_assoc (text_numbers xs) (make.number_of x.what.kind ∷ []) ns ∙ ap (λ v. text_numbers xs ++ make.number_of v ∷ ns) first in
    let r = texts_read g ns ws (xs ++ x ∷ []) z zs rest text in
    record { answer = r.answer; read = chosen g (grammar.texts xs) x tokens.text _ (ws ++ z ∷ zs) (z ∷ zs) r.answer v refl (read_take refl (join r.read read_done)); alike = r.alike ∙ more }

pub texts_complete : (g : Context) (e : Expression) (n : ℕ) (ns : List ℕ) → tokens_of e ≡ map (λ m. kinds.Text m) (n ∷ ns) → bare e ≡ unplaced (syntax.text (n ∷ ns)) → 14 ≤ level e → Complete g e
texts_complete g e n ns tokens_are bare_is high = of_post g e high (λ d ws z zs ys is text rest.
    let h = head ws (kinds.Text n) (map (λ m. kinds.Text m) ns) (is ∙ tokens_are) in
    let v = sort_at g.types h.first (kinds.Text n) h.first_is in
    let r = texts_read g ns h.rest (h.first ∷ []) z zs h.rest_is text in
    moved_triple g (h.first ∷ (h.rest ++ z ∷ zs)) (ws ++ z ∷ zs) ys (ap (λ w. w ++ z ∷ zs) (sym h.whole))
    (from_unary g h.first tokens.text (h.rest ++ z ∷ zs) ys v refl (primary_on g h.first tokens.text (h.rest ++ z ∷ zs) (z ∷ zs) ys (syntax_trees.texts r.answer) v refl
    (chosen g grammar.primary h.first tokens.text _ (h.rest ++ z ∷ zs) (z ∷ zs) _ v refl (read_take refl (join r.read read_done))) (rest (syntax_trees.texts r.answer) (ap (λ v. unplaced (syntax.text v)) (numbers_in r.answer ∙ r.alike) ∙ ap (λ v. unplaced (syntax.text (make.number_of v ∷ ns))) h.first_is ∙ sym bare_is)))))

-- what begins an expression begins no type
pub begins_no_type : (s : Sort) → begins_expression s ≡ true → is_specifier s ≡ false
begins_no_type (tokens.name n) h = refl
begins_no_type tokens.constant h = refl
begins_no_type tokens.text h = refl
begins_no_type (tokens.mark tokens.opening) h = refl
begins_no_type (tokens.mark tokens.step) h = refl
begins_no_type (tokens.mark tokens.star) h = refl
begins_no_type (tokens.mark tokens.ampersand) h = refl
begins_no_type (tokens.mark tokens.additive) h = refl
begins_no_type (tokens.mark tokens.tilde) h = refl
begins_no_type (tokens.mark tokens.sizeof) h = refl
begins_no_type _ h = absurd cc

-- tokens that begin an expression
pub record Begins (g : Context) (ws : List Terminal) : Type 0 where
  pub first : Terminal
  pub rest : List Terminal
  pub whole : ws ≡ first ∷ rest
  pub begins : begins_expression (view g.types first.sort) ≡ true

-- an expression up to a mark that closes it
pub closed : (g : Context) (e : Expression) (ws : List Terminal) (c : Terminal) (zs : List Terminal) (p : Punct) (m : tokens.Mark) → Complete g e → kinds_at ws ≡ tokens_of e → c.what.kind ≡ kinds.Mark p → punct_sort p ≡ tokens.mark m → 13 < looseness (tokens.mark m) → Leveled g 13 e (ws ++ c ∷ zs) (c ∷ zs)
closed g e ws c zs p m complete is k sort loose = complete.levels 13 (omega arith) (omega arith) ws c zs is (subst (λ s. 13 < looseness s) (sym (sort_at g.types c (kinds.Mark p) k ∙ ap (view g.types) sort)) loose)

pub paren_complete : (g : Context) (o e : Expression) → tokens_of o ≡ kinds.Mark puncts.LeftParenthesis ∷ (tokens_of e ++ kinds.Mark puncts.RightParenthesis ∷ []) → bare o ≡ unplaced (syntax.paren (bare e)) → 14 ≤ level o → Complete g e → ((ws : List Terminal) → kinds_at ws ≡ tokens_of e → Begins g ws) → Complete g o
paren_complete g o e tokens_are bare_is high inner begins = of_post g o high (λ n ws z zs ys is text rest.
    let h = head ws (kinds.Mark puncts.LeftParenthesis) _ (is ∙ tokens_are) in
    let b = between h.rest (tokens_of e) (kinds.Mark puncts.RightParenthesis) [] h.rest_is in
    let v = sort_at g.types h.first (kinds.Mark puncts.LeftParenthesis) h.first_is in
    let first = begins b.left b.left_is in
    let r = closed g e b.left b.mark (z ∷ zs) puncts.RightParenthesis tokens.closing inner b.left_is b.mark_is refl (omega arith) in
    let ends = mark_taken tokens.closing b.mark (kinds.Mark puncts.RightParenthesis) b.mark_is refl in
    let tail : (b.left ++ b.mark ∷ b.right) ++ z ∷ zs ≡ b.left ++ b.mark ∷ (z ∷ zs) = append_assoc b.left (b.mark ∷ b.right) (z ∷ zs) ∙ ap (λ w. b.left ++ b.mark ∷ (w ++ z ∷ zs)) (none_left b.right b.right_is) in
    let inside : b.left ++ b.mark ∷ (z ∷ zs) ≡ first.first ∷ (first.rest ++ b.mark ∷ (z ∷ zs)) = ap (λ w. w ++ b.mark ∷ (z ∷ zs)) first.whole in
    let made = syntax_trees.paren h.first r.answer.tree in
    let s = rest made (ap (λ v. unplaced (syntax.paren v)) r.alike ∙ sym bare_is) in
    let no_type = begins_no_type (view g.types first.first.sort) first.begins in
    let text_is : ws ++ z ∷ zs ≡ h.first ∷ (b.left ++ b.mark ∷ (z ∷ zs)) = ap (λ w. w ++ z ∷ zs) h.whole ∙ ap (λ w. h.first ∷ (w ++ z ∷ zs)) b.whole ∙ ap (λ w. h.first ∷ w) tail in
    let behind_open : Read g (grammar.behind_open h.first) (b.left ++ b.mark ∷ (z ∷ zs)) (grammar.operand s.answer true) ys =
    at_tokens (sym inside) (chosen g (grammar.behind_open h.first) first.first (view g.types first.first.sort) _ (first.rest ++ b.mark ∷ (z ∷ zs)) ys _ refl (if_false (is_specifier (view g.types first.first.sort)) _ _ no_type)
    (join (at_tokens inside r.read) (read_take ends (join s.read read_done)))) in
    let as_primary : Read g grammar.primary (h.first ∷ (b.left ++ b.mark ∷ (z ∷ zs))) made (z ∷ zs) = chosen g grammar.primary h.first (tokens.mark tokens.opening) _ (b.left ++ b.mark ∷ (z ∷ zs)) (z ∷ zs) made v refl (read_take refl (join r.read (read_take ends read_done))) in
    moved_triple g (h.first ∷ (b.left ++ b.mark ∷ (z ∷ zs))) (ws ++ z ∷ zs) ys (sym text_is) (record {
      operand = grammar.operand s.answer true;
      zero_read = chosen g (grammar.level zero) h.first (tokens.mark tokens.opening) _ (b.left ++ b.mark ∷ (z ∷ zs)) ys _ v refl (read_take refl (join behind_open read_done));
      flag = refl;
      alike = s.alike;
      unary = primary_on g h.first (tokens.mark tokens.opening) (b.left ++ b.mark ∷ (z ∷ zs)) (z ∷ zs) ys made v refl as_primary s;
      sized = λ y. record {
        answer = syntax_trees.sizeof_expr y s.answer;
        read = chosen g (grammar.behind_sizeof y) h.first (tokens.mark tokens.opening) _ (b.left ++ b.mark ∷ (z ∷ zs)) ys _ v refl (read_take refl (join (at_tokens (sym inside)
            (chosen g (grammar.inside_sizeof y h.first) first.first (view g.types first.first.sort) _ (first.rest ++ b.mark ∷ (z ∷ zs)) ys _ refl (if_false (is_specifier (view g.types first.first.sort)) _ _ no_type)
            (join (at_tokens inside r.read) (read_take ends (join s.read read_done))))) read_done));
        alike = ap (λ v. unplaced (syntax.sizeof_expr v)) s.alike;
      };
    }))

-- ---- postfix expressions

-- with one suffix more, which begins with a token of this sort
pub suffix_complete : (g : Context) (o e : Expression) (k : Kind) (b : List Kind) (m : tokens.Mark) → tokens_of o ≡ tokens_of e ++ k ∷ b → 14 ≤ level o → 15 ≤ level e → Complete g e → sort_of k ≡ tokens.mark m → is_text (tokens.mark m) ≡ false
    → ((n : Expression) (f : Expression) (x : Terminal) (vs : List Terminal) (z : Terminal) (zs ys : List Terminal) → bare f ≡ bare e → x.what.kind ≡ k → kinds_at vs ≡ b → ((f : Expression) → bare f ≡ bare o → Reading g (grammar.suffixes f) n (z ∷ zs) ys) → Reading g (grammar.suffixes f) n (x ∷ (vs ++ z ∷ zs)) ys) → Complete g o
suffix_complete g o e k b m tokens_are high deep inner sort plain step = of_post g o high (λ n ws z zs ys is text rest.
    let c = between ws (tokens_of e) k b (is ∙ tokens_are) in
    let v = sort_at g.types c.mark k c.mark_is ∙ ap (view g.types) sort in
    let whole : ws ++ z ∷ zs ≡ c.left ++ c.mark ∷ (c.right ++ z ∷ zs) = ap (λ w. w ++ z ∷ zs) c.whole ∙ append_assoc c.left (c.mark ∷ c.right) (z ∷ zs) in
    moved_triple g (c.left ++ c.mark ∷ (c.right ++ z ∷ zs)) (ws ++ z ∷ zs) ys (sym whole)
    (inner.post deep n c.left c.mark (c.right ++ z ∷ zs) ys c.left_is (ap is_text v ∙ plain) (λ f same. step n f c.mark c.right z zs ys same c.mark_is c.right_is rest)))

pub index_step : (g : Context) (o e i : Expression) → bare o ≡ unplaced (syntax.index (bare e) (bare i)) → Complete g i → (n : Expression) (f : Expression) (x : Terminal) (vs : List Terminal) (z : Terminal) (zs ys : List Terminal) → bare f ≡ bare e → x.what.kind ≡ kinds.Mark puncts.LeftBracket → kinds_at vs ≡ tokens_of i ++ kinds.Mark puncts.RightBracket ∷ []
    → ((f : Expression) → bare f ≡ bare o → Reading g (grammar.suffixes f) n (z ∷ zs) ys) → Reading g (grammar.suffixes f) n (x ∷ (vs ++ z ∷ zs)) ys
index_step g o e i bare_is inner n f x vs z zs ys same k is rest =
    let b = between vs (tokens_of i) (kinds.Mark puncts.RightBracket) [] is in
    let r = closed g i b.left b.mark (z ∷ zs) puncts.RightBracket tokens.unbracket inner b.left_is b.mark_is refl (omega arith) in
    let ends = mark_taken tokens.unbracket b.mark (kinds.Mark puncts.RightBracket) b.mark_is refl in
    let tail : vs ++ z ∷ zs ≡ b.left ++ b.mark ∷ (z ∷ zs) = ap (λ w. w ++ z ∷ zs) b.whole ∙ append_assoc b.left (b.mark ∷ b.right) (z ∷ zs) ∙ ap (λ w. b.left ++ b.mark ∷ (w ++ z ∷ zs)) (none_left b.right b.right_is) in
    let s = rest (syntax_trees.index f x r.answer.tree) (ap₂ (λ u v. unplaced (syntax.index u v)) same r.alike ∙ sym bare_is) in
    record { answer = s.answer; read = at_tokens (ap (λ w. x ∷ w) (sym tail)) (chosen g (grammar.suffixes f) x (tokens.mark tokens.bracket) _ (b.left ++ b.mark ∷ (z ∷ zs)) ys s.answer (sort_at g.types x (kinds.Mark puncts.LeftBracket) k) refl (read_take refl (join r.read (read_take ends (join s.read read_done))))); alike = s.alike }

pub call_step : (g : Context) (o e : Expression) (args : List Kind) (m : Expressions) → bare o ≡ unplaced (syntax.call (bare e) m) → ((ws : List Terminal) (c : Terminal) (zs : List Terminal) → kinds_at ws ≡ args → c.what.kind ≡ kinds.Mark puncts.RightParenthesis → Reading g grammar.arguments m (ws ++ c ∷ zs) (c ∷ zs))
    → (n : Expression) (f : Expression) (x : Terminal) (vs : List Terminal) (z : Terminal) (zs ys : List Terminal) → bare f ≡ bare e → x.what.kind ≡ kinds.Mark puncts.LeftParenthesis → kinds_at vs ≡ args ++ kinds.Mark puncts.RightParenthesis ∷ [] → ((f : Expression) → bare f ≡ bare o → Reading g (grammar.suffixes f) n (z ∷ zs) ys) → Reading g (grammar.suffixes f) n (x ∷ (vs ++ z ∷ zs)) ys
call_step g o e args m bare_is inner n f x vs z zs ys same k is rest =
    let b = between vs args (kinds.Mark puncts.RightParenthesis) [] is in
    let r = inner b.left b.mark (z ∷ zs) b.left_is b.mark_is in
    let ends = mark_taken tokens.closing b.mark (kinds.Mark puncts.RightParenthesis) b.mark_is refl in
    let tail : vs ++ z ∷ zs ≡ b.left ++ b.mark ∷ (z ∷ zs) = ap (λ w. w ++ z ∷ zs) b.whole ∙ append_assoc b.left (b.mark ∷ b.right) (z ∷ zs) ∙ ap (λ w. b.left ++ b.mark ∷ (w ++ z ∷ zs)) (none_left b.right b.right_is) in
    let s = rest (syntax_trees.call f x r.answer) (ap₂ (λ u v. unplaced (syntax.call u v)) same r.alike ∙ sym bare_is) in
    record { answer = s.answer; read = at_tokens (ap (λ w. x ∷ w) (sym tail)) (chosen g (grammar.suffixes f) x (tokens.mark tokens.opening) _ (b.left ++ b.mark ∷ (z ∷ zs)) ys s.answer (sort_at g.types x (kinds.Mark puncts.LeftParenthesis) k) refl (read_take refl (join r.read (read_take ends (join s.read read_done))))); alike = s.alike }

name_taken : (x : Terminal) (n : ℕ) → x.what.kind ≡ kinds.Name n → tokens.is_name x.sort ≡ true
name_taken x n e = ap tokens.is_name (sym x.right ∙ ap sort_of e)

pub member_step : (g : Context) (o e : Expression) (k : Kind) (m : ℕ) → bare o ≡ unplaced (if make.is_arrow k then syntax.arrow (bare e) m else syntax.member (bare e) m) → sort_of k ≡ tokens.mark tokens.member → (n : Expression) (f : Expression) (x : Terminal) (vs : List Terminal) (z : Terminal) (zs ys : List Terminal) → bare f ≡ bare e → x.what.kind ≡ k → kinds_at vs ≡ kinds.Name m ∷ []
    → ((f : Expression) → bare f ≡ bare o → Reading g (grammar.suffixes f) n (z ∷ zs) ys) → Reading g (grammar.suffixes f) n (x ∷ (vs ++ z ∷ zs)) ys
member_step g o e k m bare_is sort n f x vs z zs ys same e1 is rest =
    let h = head vs (kinds.Name m) [] is in
    let tail : vs ++ z ∷ zs ≡ h.first ∷ (z ∷ zs) = ap (λ w. w ++ z ∷ zs) h.whole ∙ ap (λ w. h.first ∷ (w ++ z ∷ zs)) (none_left h.rest h.rest_is) in
    let s = rest (syntax_trees.member f x h.first) (member_bare f x.what h.first.what ∙ ap₃ (λ u v w. unplaced (if make.is_arrow u then syntax.arrow v (make.number_of w) else syntax.member v (make.number_of w))) e1 same h.first_is ∙ sym bare_is) in
    record { answer = s.answer; read = at_tokens (ap (λ w. x ∷ w) (sym tail)) (chosen g (grammar.suffixes f) x (tokens.mark tokens.member) _ (h.first ∷ (z ∷ zs)) ys s.answer (sort_at g.types x k e1 ∙ ap (view g.types) sort) refl (read_take refl (read_take (name_taken h.first m h.first_is) (join s.read read_done)))); alike = s.alike }

pub after_step : (g : Context) (o e : Expression) (k : Kind) → bare o ≡ unplaced (syntax.after (make.punct_of k) (bare e)) → sort_of k ≡ tokens.mark tokens.step → (n : Expression) (f : Expression) (x : Terminal) (vs : List Terminal) (z : Terminal) (zs ys : List Terminal) → bare f ≡ bare e → x.what.kind ≡ k → kinds_at vs ≡ []
    → ((f : Expression) → bare f ≡ bare o → Reading g (grammar.suffixes f) n (z ∷ zs) ys) → Reading g (grammar.suffixes f) n (x ∷ (vs ++ z ∷ zs)) ys
after_step g o e k bare_is sort n f x vs z zs ys same e1 is rest =
    let s = rest (syntax_trees.postfix f x) (ap₂ (λ u v. unplaced (syntax.after (make.punct_of u) v)) e1 same ∙ sym bare_is) in
    record { answer = s.answer; read = at_tokens (ap (λ w. x ∷ (w ++ z ∷ zs)) (sym (none_left vs is))) (chosen g (grammar.suffixes f) x (tokens.mark tokens.step) _ (z ∷ zs) ys s.answer (sort_at g.types x k e1 ∙ ap (view g.types) sort) refl (read_take refl (join s.read read_done))); alike = s.alike }
