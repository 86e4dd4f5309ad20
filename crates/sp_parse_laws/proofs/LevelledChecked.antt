-- Each production of C90's grammar makes levelled trees of levelled parts: expressions and specifiers.
use Rattle.std.proofs.Common.{◌≡◌, ℕ, ◌+◌, ◌-◌, ◌≤◌, Bool, true, false, inl, inr, List, [], ◌∷◌, ◌++◌, map, Option, refl, sym, ap, ap₂, ◌∙◌, subst, arith, eqb-true}
use Rattle.std.specs.Prelude.{if◌then◌else◌, ◌||◌, ◌&&◌, ◌==◌}
use Rattle.std.specs.List.{list_any}
use Rattle.sp_tree.specs.declared.token.Kind.{Kind}
use Rattle.sp_tree.specs.declared.token.Kind.TheVariants as kinds
use Rattle.sp_tree.specs.declared.token.Punct.{Punct}
use Rattle.sp_tree.specs.declared.token.Punct.TheVariants as puncts
use Rattle.sp_parse_trees.specs.Words.{binary_level, is_step, is_unary}
use Rattle.sp_parse_trees.specs.Syntax as syntax
use Rattle.sp_parse_trees.specs.Syntax.{Expression, Specifier, next_specifier, no_specifiers}
use Rattle.sp_parse_trees.specs.Levels.{Scope, level, names_type, IsLevelled, IsLevelledForm}
use Rattle.sp_parse_grammar.specs.CTokens as tokens
use Rattle.sp_parse_grammar.specs.CTokens.{Sort, Seen, TypeWord, view as viewed, add, add_word, is_mark, looseness, is_specifier, is_typed, typed, whole_seen, nothing_seen}
use Rattle.sp_parse_grammar.specs.CTable as grammar
use Rattle.sp_parse_grammar.specs.CTable.{Context, Operand, Specified, Declared, Ask, at, unit, whole, c_symbols, plan, operator_plan, stands_behind, specifiers_plan, begins_expression}
use Rattle.sp_parse_grammar.specs.Table.{Plan}
use Rattle.sp_parse_grammar.specs.Kept.{KeepsFrom, KeptAt}
use Rattle.sp_parse_tokens.specs.Makers as make
use Rattle.sp_parse_tokens.specs.Sorts.{Terminal, nowhere}
use Rattle.sp_parse_tokens.specs.SyntaxTrees.{syntax_trees}
use Rattle.sp_parse_tokens.specs.Depths.{Part}
use Rattle.sp_parse_laws.proofs.TokenKinds.{Of, at_sort}
use Rattle.sp_parse_laws.proofs.Spelling.{HasSome}
use Rattle.sp_parse_laws.proofs.LevelledAnswers.{scope_of, Fits, LevelledAnswer}

abbrev pub Kept : (g : Context) (i : Part) (x : Terminal) → Option (Plan (c_symbols syntax_trees) (at g i)) → Type 0
Kept g i x o = KeptAt LevelledAnswer (at g i) x o

abbrev pub Item : (g : Context) (i : Part) (x : Terminal) (t : Sort) → Type 0
Item g i x t = viewed g.types x.sort ≡ t → Kept g i x (plan g i x t)

pub kept_if : (g : Context) (i : Part) (x : Terminal) (b : Bool) (p q : Option (Plan (c_symbols syntax_trees) (at g i))) → (b ≡ true → Kept g i x p) → (b ≡ false → Kept g i x q) → Kept g i x (if b then p else q)
kept_if g i x true p q first second = first refl
kept_if g i x false p q first second = second refl

punct_is : (k : Kind) (p : Punct) → k ≡ kinds.Mark p → make.punct_of k ≡ p
punct_is k p e = ap make.punct_of e

number_is : (k : Kind) (n : ℕ) → k ≡ kinds.Name n → make.number_of k ≡ n
number_is k n e = ap make.number_of e

pub name_is : (g : Context) (x : Terminal) (n : ℕ) → viewed g.types x.sort ≡ tokens.name n → names_type (scope_of g) (make.number_of x.what.kind) ≡ false
name_is g x n v = let o = at_sort g.types x (tokens.name n) v in ap (λ m. list_any (λ t. t == m) g.types) (number_is x.what.kind n o.0) ∙ o.1

-- ---- expressions

and_first : (a b : Bool) → a && b ≡ true → a ≡ true
and_first true b e = refl
and_first false b e = e

and_second : (a b : Bool) → a && b ≡ true → b ≡ true
and_second true b e = e
and_second false b e = absurd cc

binary_fits : (g : Context) (k : ℕ) (l r : Operand syntax_trees) (x : Terminal) (p : Punct) → x.what.kind ≡ kinds.Mark p → binary_level p + k ≡ 13 → 1 ≤ k → k ≤ 10 → Fits g k l → Fits g (k - 1) r → Fits g k (grammar.operand (syntax_trees.binary x l.tree r.tree) false)
binary_fits g k l r x p e size low high left right = record {
  within = subst (λ q. 13 ≤ k + binary_level q) (sym (punct_is x.what.kind p e)) (omega (arith, size));
  unary = λ u. absurd cc;
  levelled = subst (λ q. IsLevelledForm (scope_of g) (syntax.binary q l.tree r.tree)) (sym (punct_is x.what.kind p e)) (omega (arith, size), omega (arith, size, left.within), omega (arith, size, right.within), left.levelled, right.levelled);
}

binary_kept : (g : Context) (k : ℕ) (l : Operand syntax_trees) (x : Terminal) (p : Punct) → x.what.kind ≡ kinds.Mark p → binary_level p + k ≡ 13 → k ≤ 10
    → KeepsFrom {S = c_symbols syntax_trees} LevelledAnswer x (operator_plan g k l x (tokens.binary 0))
binary_kept g k l x p e size small = λ taken vs r q ws o rest low high left three.
    rest low high (binary_fits g k l r x p e size low small left (q (omega arith))) (λ eleven. absurd (omega arith))

pub operator_kept : (g : Context) (k : ℕ) (l : Operand syntax_trees) (x : Terminal) (t : Sort) → viewed g.types x.sort ≡ t → stands_behind k l.unary t ≡ true → KeepsFrom {S = c_symbols syntax_trees} LevelledAnswer x (operator_plan g k l x t)
operator_kept g k l x (tokens.mark tokens.question) v b = λ taken vs a p z tz ws e q low high left three.
    let eleven : 11 ≡ k = eqb-true 11 k b in
    let middle = p (omega arith) in
    let last = q (omega arith) in
    record {
      within = omega arith;
      unary = λ u. absurd cc;
      levelled = (three (sym eleven), omega (arith, last.within), left.levelled, middle.levelled, last.levelled);
    }
operator_kept g k l x (tokens.mark tokens.comma) v b = λ taken vs r q ws o rest low high left three.
    let thirteen : 13 ≡ k = eqb-true 13 k b in
    let right = q (omega arith) in
    rest low high (record { within = omega arith; unary = λ u. absurd cc; levelled = (omega (arith, right.within), left.levelled, right.levelled) }) (λ eleven. absurd (omega arith))
operator_kept g k l x (tokens.mark tokens.equal) v b = λ taken vs r q low high left three.
    let right = q (omega arith) in
    let twelve : 12 ≡ k = eqb-true 12 k (and_second l.unary (12 == k) b) in
    record {
      within = omega arith;
      unary = λ u. absurd cc;
      levelled = subst (λ p. IsLevelledForm (scope_of g) (syntax.assign p l.tree r.tree)) (sym (punct_is x.what.kind puncts.Assign (at_sort g.types x (tokens.mark tokens.equal) v))) (refl, left.unary (and_first l.unary (12 == k) b), omega (arith, right.within), left.levelled, right.levelled);
    }
operator_kept g k l x tokens.assigning v b = λ taken vs r q low high left three.
    let right = q (omega arith) in
    let twelve : 12 ≡ k = eqb-true 12 k (and_second l.unary (12 == k) b) in
    let o = at_sort g.types x tokens.assigning v in
    record {
      within = omega arith;
      unary = λ u. absurd cc;
      levelled = subst (λ p. IsLevelledForm (scope_of g) (syntax.assign p l.tree r.tree)) (sym (punct_is x.what.kind o.0 o.1)) (o.2, left.unary (and_first l.unary (12 == k) b), omega (arith, right.within), left.levelled, right.levelled);
    }
operator_kept g k l x (tokens.mark tokens.star) v b = let e : 1 ≡ k = eqb-true 1 k b in binary_kept g k l x puncts.Star (at_sort g.types x (tokens.mark tokens.star) v) (omega arith) (omega arith)
operator_kept g k l x (tokens.mark tokens.ampersand) v b = let e : 6 ≡ k = eqb-true 6 k b in binary_kept g k l x puncts.Ampersand (at_sort g.types x (tokens.mark tokens.ampersand) v) (omega arith) (omega arith)
operator_kept g k l x (tokens.mark tokens.additive) v b = let o = at_sort g.types x (tokens.mark tokens.additive) v in let e : 2 ≡ k = eqb-true 2 k b in binary_kept g k l x o.0 o.1 (omega (arith, o.4)) (omega arith)
operator_kept g k l x (tokens.binary j) v b = λ taken vs r q ws o rest low high left three.
    let s = at_sort g.types x (tokens.binary j) v in
    let e : j ≡ k = eqb-true j k b in
    rest low high (binary_fits g k l r x s.0 s.1 (omega (arith, s.2)) low (omega (arith, s.3)) left (q (omega arith))) (λ eleven. absurd (omega (arith, s.3)))
operator_kept g k l x t v b = λ taken vs r q ws o rest low high left three. let e : looseness t ≡ k = eqb-true (looseness t) k b in absurd (omega arith)

-- ---- operands

step_unary : (g : Context) (x : Terminal) (p : Punct) (e : Expression) → x.what.kind ≡ kinds.Mark p → is_step p ≡ true → (14 ≤ level e) × IsLevelled (scope_of g) e → (14 ≤ level (syntax_trees.prefix x e)) × IsLevelled (scope_of g) (syntax_trees.prefix x e)
step_unary g x p e k s h = (omega arith, subst (λ q. IsLevelledForm (scope_of g) (syntax.unary q e)) (sym (punct_is x.what.kind p k)) (ap (λ b. b || is_unary p) s, subst (λ b. (if b then 14 else 13) ≤ level e) (sym s) h.0, h.1))

sign_unary : (g : Context) (x : Terminal) (p : Punct) (o : Operand syntax_trees) → x.what.kind ≡ kinds.Mark p → is_step p ≡ false → is_unary p ≡ true → Fits g 0 o → (14 ≤ level (syntax_trees.prefix x o.tree)) × IsLevelled (scope_of g) (syntax_trees.prefix x o.tree)
sign_unary g x p o k s u h =
    let deep : 13 ≤ level o.tree = omega (arith, h.within) in
    (omega arith, subst (λ q. IsLevelledForm (scope_of g) (syntax.unary q o.tree)) (sym (punct_is x.what.kind p k)) (ap₂ (λ a b. a || b) s u, subst (λ b. (if b then 14 else 13) ≤ level o.tree) (sym s) deep, h.levelled))

pub unary_kept : (g : Context) (x : Terminal) (t : Sort) → Item g grammar.unary x t
unary_kept g x (tokens.mark tokens.step) v = λ taken ws e p. let o = at_sort g.types x (tokens.mark tokens.step) v in step_unary g x o.0 e o.1 o.2 p
unary_kept g x (tokens.mark tokens.star) v = λ taken ws o p. sign_unary g x puncts.Star o (at_sort g.types x (tokens.mark tokens.star) v) refl refl (p (omega arith))
unary_kept g x (tokens.mark tokens.ampersand) v = λ taken ws o p. sign_unary g x puncts.Ampersand o (at_sort g.types x (tokens.mark tokens.ampersand) v) refl refl (p (omega arith))
unary_kept g x (tokens.mark tokens.additive) v = λ taken ws o p. let k = at_sort g.types x (tokens.mark tokens.additive) v in sign_unary g x k.0 o k.1 k.2 k.3 (p (omega arith))
unary_kept g x (tokens.mark tokens.tilde) v = λ taken ws o p. let k = at_sort g.types x (tokens.mark tokens.tilde) v in sign_unary g x k.0 o k.1 k.2 k.3 (p (omega arith))
unary_kept g x (tokens.mark tokens.sizeof) v = λ taken ws e p. p
unary_kept g x _ v = λ ws e p vs f q. let r = q p.0 p.1 in (omega (arith, r.0), r.1)

texts_levelled : (c : Scope) (ys : List Terminal) → HasSome ys → IsLevelledForm c (syntax.text (map (λ x. make.number_of x.kind) (map (λ y. y.what) ys)))
texts_levelled c [] h = elim h [ ]
texts_levelled c (y ∷ ys) h = tt

constant_levelled : (c : Scope) (k : Kind) → Of tokens.constant k → (15 ≤ level (syntax.expression (make.constant_form k) nowhere nowhere)) × IsLevelledForm c (make.constant_form k)
constant_levelled c k (inl (n, e)) = subst (λ v. (15 ≤ level (syntax.expression (make.constant_form v) nowhere nowhere)) × IsLevelledForm c (make.constant_form v)) (sym e) (omega arith, tt)
constant_levelled c k (inr (z, e)) = subst (λ v. (15 ≤ level (syntax.expression (make.constant_form v) nowhere nowhere)) × IsLevelledForm c (make.constant_form v)) (sym e) (omega arith, tt)

pub primary_kept : (g : Context) (x : Terminal) (t : Sort) → Item g grammar.primary x t
primary_kept g x (tokens.name n) v = λ taken. (omega arith, name_is g x n v)
primary_kept g x tokens.constant v = λ taken. constant_levelled (scope_of g) x.what.kind (at_sort g.types x tokens.constant v)
primary_kept g x tokens.text v = λ taken ws ys p. (omega arith, texts_levelled (scope_of g) ys (p tt))
primary_kept g x (tokens.mark tokens.opening) v = λ taken vs o p z tz. (omega arith, (p (omega arith)).levelled)
primary_kept g x _ v = tt

some_more : {A : Type 0} (xs : List A) (x : A) → HasSome (xs ++ x ∷ [])
some_more [] x = tt
some_more (y ∷ ys) x = tt

pub texts_kept : (g : Context) (xs : List Terminal) (x : Terminal) (t : Sort) → Item g (grammar.texts xs) x t
texts_kept g xs x tokens.text v = λ taken ws ys p h. p (some_more xs x)
texts_kept g xs x _ v = λ h. h

member_level : (c : Scope) (e : Expression) (x n : Terminal) (b : Bool) → 15 ≤ level e → IsLevelled c e → (15 ≤ level (make.behind (if b then syntax.arrow e (make.number_of n.what.kind) else syntax.member e (make.number_of n.what.kind)) e x.what)) × IsLevelled c (make.behind (if b then syntax.arrow e (make.number_of n.what.kind) else syntax.member e (make.number_of n.what.kind)) e x.what)
member_level c e x n true h k = (omega arith, (h, k))
member_level c e x n false h k = (omega arith, (h, k))

pub suffixes_kept : (g : Context) (f : Expression) (x : Terminal) (t : Sort) → Item g (grammar.suffixes f) x t
suffixes_kept g f x (tokens.mark tokens.bracket) v = λ taken vs o p z tz ws e q high l. q (omega arith) (high, l, (p (omega arith)).levelled)
suffixes_kept g f x (tokens.mark tokens.opening) v = λ taken vs es p z tz ws e q high l. q (omega arith) (high, l, p)
suffixes_kept g f x (tokens.mark tokens.member) v = λ taken z tz ws e q high l. let m = member_level (scope_of g) f x z (make.is_arrow x.what.kind) high l in q m.0 m.1
suffixes_kept g f x (tokens.mark tokens.step) v = λ taken ws e q high l.
    let k = at_sort g.types x (tokens.mark tokens.step) v in
    q (omega arith) (subst (λ b. IsLevelledForm (scope_of g) (syntax.after b f)) (sym (punct_is x.what.kind k.0 k.1)) (k.2, high, l))
suffixes_kept g f x _ v = λ high l. (high, l)
