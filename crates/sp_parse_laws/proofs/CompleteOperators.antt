-- Each operator is read from its tokens, given that its operands are: unary operators, sizes, casts, and operators on levels.
use Rattle.std.proofs.Common.{◌≡◌, ◌≢◌, ℕ, zero, suc, ◌+◌, ◌-◌, ◌<◌, ◌≤◌, Bool, true, false, ◌⊎◌, inl, inr, List, [], ◌∷◌, ◌++◌, Some, refl, sym, ap, ap₂, ◌∙◌, subst, arith, append_assoc, eq-eqb, eqb-true}
use Rattle.std.specs.Prelude.{◌&&◌, ◌==◌}
use Rattle.sp_tree.specs.declared.token.Kind.{Kind}
use Rattle.sp_tree.specs.declared.token.Kind.TheVariants as kinds
use Rattle.sp_tree.specs.declared.token.Keyword.TheVariants as words
use Rattle.sp_tree.specs.declared.token.Punct.{Punct}
use Rattle.sp_tree.specs.declared.token.Punct.TheVariants as puncts
use Rattle.sp_parse_trees.specs.Words.{binary_level, is_assignment}
use Rattle.sp_parse_trees.specs.Syntax as syntax
use Rattle.sp_parse_trees.specs.Syntax.{Expression, TypeName}
use Rattle.sp_parse_trees.specs.Spelling.{tokens_of}
use Rattle.sp_parse_trees.specs.Levels.{level}
use Rattle.sp_parse_grammar.specs.CTokens as tokens
use Rattle.sp_parse_grammar.specs.CTokens.{Sort, view, is_mark, looseness, is_specifier}
use Rattle.sp_parse_grammar.specs.CTable as grammar
use Rattle.sp_parse_grammar.specs.CTable.{Context, Operand, ItemAnswer, Ask, at, c_symbols, plan, stands_behind, operator_plan, begins_expression}
use Rattle.sp_parse_grammar.specs.Table.{done, read_done, read_take}
use Rattle.sp_parse_grammar.proofs.Readings.{join, at_tokens}
use Rattle.sp_parse_grammar.proofs.CChecked.{if_true, which}
use Rattle.sp_parse_tokens.specs.Sorts.{Terminal, sort_of, punct_sort}
use Rattle.sp_parse_laws.specs.Bare.{bare}
use Rattle.sp_parse_tokens.specs.Makers as make
use Rattle.sp_parse_tokens.specs.SyntaxTrees.{syntax_trees}
use Rattle.sp_parse_laws.proofs.BareTrees.{ap₃}
use Rattle.sp_parse_laws.proofs.BareAnswers.{unplaced, settle_type_bare}
use Rattle.sp_parse_laws.specs.Spelled.{kinds_at}
use Rattle.sp_parse_laws.proofs.Completing.{head, between, sort_at, mark_taken, Read, Reading, chosen, nothing, moved, Leveled, moved_level, raise}
use Rattle.sp_parse_laws.proofs.CompleteExpressions.{moved_triple, Complete, up_on, of_zero, of_operand, from_unary, closed, none_left}

-- ---- unary operators

unary_of : (g : Context) (o e : Expression) (k : Kind) (s : Sort) → tokens_of o ≡ k ∷ tokens_of e → level o ≡ 14 → ((x : Terminal) → x.what.kind ≡ k → view g.types x.sort ≡ s) → is_mark tokens.opening s ≡ false
    → ((x : Terminal) → x.what.kind ≡ k → (vs : List Terminal) (z : Terminal) (zs : List Terminal) → kinds_at vs ≡ tokens_of e → 0 < looseness (view g.types z.sort) → Reading g grammar.unary (bare o) (x ∷ (vs ++ z ∷ zs)) (z ∷ zs)) → Complete g o
unary_of g o e k s tokens_are high sort plain step = of_operand g o (omega (arith, high)) (λ h. absurd (omega (arith, high, h))) (λ ws z zs is stops.
    let h = head ws k (tokens_of e) (is ∙ tokens_are) in
    moved_triple g (h.first ∷ (h.rest ++ z ∷ zs)) (ws ++ z ∷ zs) (z ∷ zs) (ap (λ w. w ++ z ∷ zs) (sym h.whole))
    (from_unary g h.first s (h.rest ++ z ∷ zs) (z ∷ zs) (sort h.first h.first_is) plain (step h.first h.first_is h.rest z zs h.rest_is stops)))

pub step_complete : (g : Context) (o e : Expression) (k : Kind) → tokens_of o ≡ k ∷ tokens_of e → bare o ≡ unplaced (syntax.unary (make.punct_of k) (bare e)) → level o ≡ 14 → sort_of k ≡ tokens.mark tokens.step → 14 ≤ level e → Complete g e → Complete g o
step_complete g o e k tokens_are bare_is high sort deep inner = unary_of g o e k (tokens.mark tokens.step) tokens_are high (λ x is. sort_at g.types x k is ∙ ap (view g.types) sort) refl (λ x is vs z zs rest stops.
    let r = (inner.operand deep vs z zs rest stops).unary in
    record { answer = syntax_trees.prefix x r.answer; read = chosen g grammar.unary x (tokens.mark tokens.step) _ (vs ++ z ∷ zs) (z ∷ zs) _ (sort_at g.types x k is ∙ ap (view g.types) sort) refl (read_take refl (join r.read read_done)); alike = ap₂ (λ u v. unplaced (syntax.unary (make.punct_of u) v)) is r.alike ∙ sym bare_is })

pub sign_complete : (g : Context) (o e : Expression) (k : Kind) (m : tokens.Mark) → tokens_of o ≡ k ∷ tokens_of e → bare o ≡ unplaced (syntax.unary (make.punct_of k) (bare e)) → level o ≡ 14 → sort_of k ≡ tokens.mark m → is_mark tokens.opening (tokens.mark m) ≡ false
    → ((x : Terminal) → plan {t = syntax_trees} g grammar.unary x (tokens.mark m) ≡ Some (grammar.next (λ y. grammar.get g (grammar.level 0) (λ o. done (syntax_trees.prefix x o.tree))))) → 13 ≤ level e → Complete g e → Complete g o
sign_complete g o e k m tokens_are bare_is high sort plain plans deep inner = unary_of g o e k (tokens.mark m) tokens_are high (λ x is. sort_at g.types x k is ∙ ap (view g.types) sort) plain (λ x is vs z zs rest stops.
    let r = inner.levels 0 (omega arith) (omega (arith, deep)) vs z zs rest stops in
    record { answer = syntax_trees.prefix x r.answer.tree; read = chosen g grammar.unary x (tokens.mark m) _ (vs ++ z ∷ zs) (z ∷ zs) _ (sort_at g.types x k is ∙ ap (view g.types) sort) (plans x) (read_take refl (join r.read read_done)); alike = ap₂ (λ u v. unplaced (syntax.unary (make.punct_of u) v)) is r.alike ∙ sym bare_is })

pub sizeof_complete : (g : Context) (o e : Expression) → tokens_of o ≡ kinds.Word words.Sizeof ∷ tokens_of e → bare o ≡ unplaced (syntax.sizeof_expr (bare e)) → level o ≡ 14 → 14 ≤ level e → Complete g e → Complete g o
sizeof_complete g o e tokens_are bare_is high deep inner = unary_of g o e (kinds.Word words.Sizeof) (tokens.mark tokens.sizeof) tokens_are high (λ x is. sort_at g.types x (kinds.Word words.Sizeof) is) refl (λ x is vs z zs rest stops.
    let r = (inner.operand deep vs z zs rest stops).sized x in
    record { answer = r.answer; read = chosen g grammar.unary x (tokens.mark tokens.sizeof) _ (vs ++ z ∷ zs) (z ∷ zs) _ (sort_at g.types x (kinds.Word words.Sizeof) is) refl (read_take refl (join r.read read_done)); alike = r.alike ∙ sym bare_is })

-- ---- type names in parentheses

-- tokens that begin a type name
pub record BeginsType (g : Context) (ws : List Terminal) : Type 0 where
  pub first : Terminal
  pub rest : List Terminal
  pub whole : ws ≡ first ∷ rest
  pub begins : is_specifier (view g.types first.sort) ≡ true

-- a type name is read from these kinds up to the `)` behind it
pub record TypeComplete (g : Context) (ks : List Kind) (m : TypeName) : Type 0 where
  pub read : (ws : List Terminal) (c : Terminal) (zs : List Terminal) → kinds_at ws ≡ ks → c.what.kind ≡ kinds.Mark puncts.RightParenthesis → Reading g grammar.type_name m (ws ++ c ∷ zs) (c ∷ zs)
  pub begins : (ws : List Terminal) → kinds_at ws ≡ ks → BeginsType g ws

pub sizeof_type_complete : (g : Context) (o : Expression) (ks : List Kind) (m : TypeName) → tokens_of o ≡ kinds.Word words.Sizeof ∷ kinds.Mark puncts.LeftParenthesis ∷ (ks ++ kinds.Mark puncts.RightParenthesis ∷ []) → bare o ≡ unplaced (syntax.sizeof_type m) → level o ≡ 14 → TypeComplete g ks m → Complete g o
sizeof_type_complete g o ks m tokens_are bare_is high t = of_operand g o (omega (arith, high)) (λ h. absurd (omega (arith, high, h))) (λ ws z zs is stops.
    let h = head ws (kinds.Word words.Sizeof) _ (is ∙ tokens_are) in
    let i = head h.rest (kinds.Mark puncts.LeftParenthesis) _ h.rest_is in
    let b = between i.rest ks (kinds.Mark puncts.RightParenthesis) [] i.rest_is in
    let v = sort_at g.types h.first (kinds.Word words.Sizeof) h.first_is in
    let w = sort_at g.types i.first (kinds.Mark puncts.LeftParenthesis) i.first_is in
    let first = t.begins b.left b.left_is in
    let r = t.read b.left b.mark (z ∷ zs) b.left_is b.mark_is in
    let ends = mark_taken tokens.closing b.mark (kinds.Mark puncts.RightParenthesis) b.mark_is refl in
    let tail : i.rest ++ z ∷ zs ≡ b.left ++ b.mark ∷ (z ∷ zs) = ap (λ w. w ++ z ∷ zs) b.whole ∙ append_assoc b.left (b.mark ∷ b.right) (z ∷ zs) ∙ ap (λ w. b.left ++ b.mark ∷ (w ++ z ∷ zs)) (none_left b.right b.right_is) in
    let inside : b.left ++ b.mark ∷ (z ∷ zs) ≡ first.first ∷ (first.rest ++ b.mark ∷ (z ∷ zs)) = ap (λ w. w ++ b.mark ∷ (z ∷ zs)) first.whole in
    let whole : ws ++ z ∷ zs ≡ h.first ∷ i.first ∷ (b.left ++ b.mark ∷ (z ∷ zs)) = ap (λ w. w ++ z ∷ zs) h.whole ∙ ap (λ w. h.first ∷ (w ++ z ∷ zs)) i.whole ∙ ap (λ w. h.first ∷ i.first ∷ w) tail in
    let made = syntax_trees.sizeof_type h.first r.answer.tree b.mark in
    let inside_sizeof : Read g (grammar.inside_sizeof h.first i.first) (b.left ++ b.mark ∷ (z ∷ zs)) made (z ∷ zs) = at_tokens (sym inside) (chosen g (grammar.inside_sizeof h.first i.first) first.first (view g.types first.first.sort) _ (first.rest ++ b.mark ∷ (z ∷ zs)) (z ∷ zs) made refl (if_true (is_specifier (view g.types first.first.sort)) _ _ first.begins) (join (at_tokens inside r.read) (read_take ends read_done))) in
    let behind_sizeof : Read g (grammar.behind_sizeof h.first) (i.first ∷ (b.left ++ b.mark ∷ (z ∷ zs))) made (z ∷ zs) = chosen g (grammar.behind_sizeof h.first) i.first (tokens.mark tokens.opening) _ (b.left ++ b.mark ∷ (z ∷ zs)) (z ∷ zs) made w refl (read_take refl (join inside_sizeof read_done)) in
    moved_triple g (h.first ∷ i.first ∷ (b.left ++ b.mark ∷ (z ∷ zs))) (ws ++ z ∷ zs) (z ∷ zs) (sym whole)
    (from_unary g h.first (tokens.mark tokens.sizeof) (i.first ∷ (b.left ++ b.mark ∷ (z ∷ zs))) (z ∷ zs) v refl (record { answer = made; read = chosen g grammar.unary h.first (tokens.mark tokens.sizeof) _ (i.first ∷ (b.left ++ b.mark ∷ (z ∷ zs))) (z ∷ zs) made v refl (read_take refl (join behind_sizeof read_done)); alike = ap (λ v. unplaced (syntax.sizeof_type v)) (settle_type_bare b.mark.what.place r.answer.tree ∙ r.alike) ∙ sym bare_is })))

pub cast_complete : (g : Context) (o e : Expression) (ks : List Kind) (m : TypeName) → tokens_of o ≡ kinds.Mark puncts.LeftParenthesis ∷ (ks ++ kinds.Mark puncts.RightParenthesis ∷ tokens_of e) → bare o ≡ unplaced (syntax.cast m (bare e)) → level o ≡ 13 → TypeComplete g ks m → 13 ≤ level e → Complete g e → Complete g o
cast_complete g o e ks m tokens_are bare_is high t deep inner = of_zero g o (omega (arith, high)) (λ ws z zs is stops.
    let h = head ws (kinds.Mark puncts.LeftParenthesis) _ (is ∙ tokens_are) in
    let b = between h.rest ks (kinds.Mark puncts.RightParenthesis) (tokens_of e) h.rest_is in
    let v = sort_at g.types h.first (kinds.Mark puncts.LeftParenthesis) h.first_is in
    let first = t.begins b.left b.left_is in
    let r = t.read b.left b.mark (b.right ++ z ∷ zs) b.left_is b.mark_is in
    let ends = mark_taken tokens.closing b.mark (kinds.Mark puncts.RightParenthesis) b.mark_is refl in
    let s = inner.levels 0 (omega arith) (omega (arith, deep)) b.right z zs b.right_is stops in
    let tail : h.rest ++ z ∷ zs ≡ b.left ++ b.mark ∷ (b.right ++ z ∷ zs) = ap (λ w. w ++ z ∷ zs) b.whole ∙ append_assoc b.left (b.mark ∷ b.right) (z ∷ zs) in
    let inside : b.left ++ b.mark ∷ (b.right ++ z ∷ zs) ≡ first.first ∷ (first.rest ++ b.mark ∷ (b.right ++ z ∷ zs)) = ap (λ w. w ++ b.mark ∷ (b.right ++ z ∷ zs)) first.whole in
    let whole : ws ++ z ∷ zs ≡ h.first ∷ (b.left ++ b.mark ∷ (b.right ++ z ∷ zs)) = ap (λ w. w ++ z ∷ zs) h.whole ∙ ap (λ w. h.first ∷ w) tail in
    let made = grammar.operand (syntax_trees.cast h.first r.answer.tree b.mark s.answer.tree) false in
    let behind_open : Read g (grammar.behind_open h.first) (b.left ++ b.mark ∷ (b.right ++ z ∷ zs)) made (z ∷ zs) = at_tokens (sym inside) (chosen g (grammar.behind_open h.first) first.first (view g.types first.first.sort) _ (first.rest ++ b.mark ∷ (b.right ++ z ∷ zs)) (z ∷ zs) made refl (if_true (is_specifier (view g.types first.first.sort)) _ _ first.begins) (join (at_tokens inside r.read) (read_take ends (join s.read read_done)))) in
    moved_level g 0 o (h.first ∷ (b.left ++ b.mark ∷ (b.right ++ z ∷ zs))) (ws ++ z ∷ zs) (z ∷ zs) (sym whole) (record { answer = made; read = chosen g (grammar.level zero) h.first (tokens.mark tokens.opening) _ (b.left ++ b.mark ∷ (b.right ++ z ∷ zs)) (z ∷ zs) made v refl (read_take refl (join behind_open read_done)); unary = λ q. absurd (omega (arith, high, q)); alike = ap₂ (λ u v. unplaced (syntax.cast u v)) (settle_type_bare b.mark.what.place r.answer.tree ∙ r.alike) s.alike ∙ sym bare_is }))
    (λ q. absurd (omega (arith, high, q))) (λ q. absurd (omega (arith, high, q)))

-- ---- operators on levels

-- one that is loose, read as a whole on its level
loose_complete : (g : Context) (e : Expression) (j : ℕ) → suc j + level e ≡ 13 → level e ≤ 12
    → ((ws : List Terminal) (z : Terminal) (zs : List Terminal) → kinds_at ws ≡ tokens_of e → suc j < looseness (view g.types z.sort) → Reading g (grammar.level (suc j)) (bare e) (ws ++ z ∷ zs) (z ∷ zs))
    → ((three : suc j ≡ 11 → 3 ≤ level e) (two : suc j ≡ 12 → 2 ≤ level e) (n : Expression) (ws : List Terminal) (z : Terminal) (zs ys : List Terminal) → kinds_at ws ≡ tokens_of e → j < looseness (view g.types z.sort) → ((l : Operand syntax_trees) → (14 ≤ level e → l.unary ≡ true) → bare l.tree ≡ bare e → Reading g (grammar.after (suc j) l) n (z ∷ zs) ys) → Reading g (grammar.level (suc j)) n (ws ++ z ∷ zs) ys)
    → Complete g e
loose_complete g e j size loose whole own = record {
  levels = levels;
  on = λ k small deep three two n ws z zs ys is stops rest. at_level k small deep three two n ws z zs ys is stops rest (which (j == k));
  post = λ h. absurd (omega (arith, h));
  operand = λ h. absurd (omega (arith, h));
}
  where
    levels : (k : ℕ) → k ≤ 13 → 13 ≤ k + level e → (ws : List Terminal) (z : Terminal) (zs : List Terminal) → kinds_at ws ≡ tokens_of e → k < looseness (view g.types z.sort) → Leveled g k e (ws ++ z ∷ zs) (z ∷ zs)
    levels k small deep ws z zs is stops =
        let r = whole ws z zs is (omega (arith, size, deep)) in
        let here : Leveled g (suc j) e (ws ++ z ∷ zs) (z ∷ zs) = record { answer = r.answer; read = r.read; unary = λ h. absurd (omega (arith, h)); alike = r.alike } in
        let sum : (k - suc j) + suc j ≡ k = omega (arith, size, deep) in
        subst (λ v. Leveled g v e (ws ++ z ∷ zs) (z ∷ zs)) sum (raise g (suc j) (k - suc j) e (ws ++ z ∷ zs) z zs (omega (arith, size, deep)) here)

    at_level : (k : ℕ) → k ≤ 12 → 13 ≤ suc k + level e → (suc k ≡ 11 → 3 ≤ level e) → (suc k ≡ 12 → 2 ≤ level e) → (n : Expression) (ws : List Terminal) (z : Terminal) (zs ys : List Terminal) → kinds_at ws ≡ tokens_of e → k < looseness (view g.types z.sort)
        → ((l : Operand syntax_trees) → (14 ≤ level e → l.unary ≡ true) → bare l.tree ≡ bare e → Reading g (grammar.after (suc k) l) n (z ∷ zs) ys) → ((j == k) ≡ true) ⊎ ((j == k) ≡ false) → Reading g (grammar.level (suc k)) n (ws ++ z ∷ zs) ys
    at_level k small deep three two n ws z zs ys is stops rest (inl same) =
        let e1 : j ≡ k = eqb-true j k same in
        subst (λ v. Reading g (grammar.level (suc v)) n (ws ++ z ∷ zs) ys) e1 (own (λ h. three (omega (arith, e1, h))) (λ h. two (omega (arith, e1, h))) n ws z zs ys is (omega (arith, e1, stops)) (λ l f d. subst (λ v. Reading g (grammar.after (suc v) l) n (z ∷ zs) ys) (sym e1) (rest l f d)))
    at_level k small deep three two n ws z zs ys is stops rest (inr other) =
        let apart : j ≢ k = λ h. absurd (let t = eq-eqb j k h in cc) in
        up_on g k e (ws ++ z ∷ zs) z zs ys (levels k (omega arith) (omega (arith, size, deep, apart)) ws z zs is stops) rest

-- an operator between two operands, which groups to the left
chain_complete : (g : Context) (e : Expression) (j : ℕ) → suc j + level e ≡ 13 → level e ≤ 12
    → ((n : Expression) (ws : List Terminal) (z : Terminal) (zs ys : List Terminal) → kinds_at ws ≡ tokens_of e → j < looseness (view g.types z.sort) → ((l : Operand syntax_trees) → bare l.tree ≡ bare e → Reading g (grammar.after (suc j) l) n (z ∷ zs) ys) → Reading g (grammar.level (suc j)) n (ws ++ z ∷ zs) ys) → Complete g e
chain_complete g e j size loose own = loose_complete g e j size loose
    (λ ws z zs is stops. own (bare e) ws z zs (z ∷ zs) is (omega (arith, stops)) (λ l same. record { answer = l; read = nothing g (grammar.after (suc j) l) z zs stops; alike = same }))
    (λ three two n ws z zs ys is stops rest. own n ws z zs ys is stops (λ l same. rest l (λ h. absurd (omega (arith, h))) same))

-- what a binary operator's token chooses
record BinaryOperator (p : Punct) : Type 0 where
  loose : looseness (punct_sort p) + binary_level p ≡ 13
  viewed : (types : List ℕ) → view types (punct_sort p) ≡ punct_sort p
  stands : (k : ℕ) (u : Bool) → stands_behind k u (punct_sort p) ≡ (looseness (punct_sort p) == k)
  plans : (g : Context) (k : ℕ) (l : Operand syntax_trees) (x : Terminal) → operator_plan g k l x (punct_sort p) ≡ grammar.next (λ y. grammar.get g (grammar.level (k - 1)) (λ r. grammar.get g (grammar.after k (grammar.operand (syntax_trees.binary x l.tree r.tree) false)) (λ o. done o)))

binary_operator : (p : Punct) → 3 ≤ binary_level p → BinaryOperator p
binary_operator puncts.Slash h = record { loose = refl; viewed = λ types. refl; stands = λ k u. refl; plans = λ g k l x. refl }
binary_operator puncts.Percent h = record { loose = refl; viewed = λ types. refl; stands = λ k u. refl; plans = λ g k l x. refl }
binary_operator puncts.ShiftLeft h = record { loose = refl; viewed = λ types. refl; stands = λ k u. refl; plans = λ g k l x. refl }
binary_operator puncts.ShiftRight h = record { loose = refl; viewed = λ types. refl; stands = λ k u. refl; plans = λ g k l x. refl }
binary_operator puncts.Less h = record { loose = refl; viewed = λ types. refl; stands = λ k u. refl; plans = λ g k l x. refl }
binary_operator puncts.Greater h = record { loose = refl; viewed = λ types. refl; stands = λ k u. refl; plans = λ g k l x. refl }
binary_operator puncts.LessEqual h = record { loose = refl; viewed = λ types. refl; stands = λ k u. refl; plans = λ g k l x. refl }
binary_operator puncts.GreaterEqual h = record { loose = refl; viewed = λ types. refl; stands = λ k u. refl; plans = λ g k l x. refl }
binary_operator puncts.EqualEqual h = record { loose = refl; viewed = λ types. refl; stands = λ k u. refl; plans = λ g k l x. refl }
binary_operator puncts.NotEqual h = record { loose = refl; viewed = λ types. refl; stands = λ k u. refl; plans = λ g k l x. refl }
binary_operator puncts.Caret h = record { loose = refl; viewed = λ types. refl; stands = λ k u. refl; plans = λ g k l x. refl }
binary_operator puncts.Bar h = record { loose = refl; viewed = λ types. refl; stands = λ k u. refl; plans = λ g k l x. refl }
binary_operator puncts.AndAnd h = record { loose = refl; viewed = λ types. refl; stands = λ k u. refl; plans = λ g k l x. refl }
binary_operator puncts.OrOr h = record { loose = refl; viewed = λ types. refl; stands = λ k u. refl; plans = λ g k l x. refl }
binary_operator puncts.Ampersand h = record { loose = refl; viewed = λ types. refl; stands = λ k u. refl; plans = λ g k l x. refl }
binary_operator puncts.Star h = record { loose = refl; viewed = λ types. refl; stands = λ k u. refl; plans = λ g k l x. refl }
binary_operator puncts.Plus h = record { loose = refl; viewed = λ types. refl; stands = λ k u. refl; plans = λ g k l x. refl }
binary_operator puncts.Minus h = record { loose = refl; viewed = λ types. refl; stands = λ k u. refl; plans = λ g k l x. refl }
binary_operator _ h = absurd (omega arith)

pub binary_complete : (g : Context) (o l r : Expression) (p : Punct) (j : ℕ) → tokens_of o ≡ tokens_of l ++ kinds.Mark p ∷ tokens_of r → bare o ≡ unplaced (syntax.binary p (bare l) (bare r)) → level o ≡ binary_level p → suc j + binary_level p ≡ 13 → 3 ≤ binary_level p → binary_level p ≤ level l → binary_level p + 1 ≤ level r → Complete g l → Complete g r → Complete g o
binary_complete g o l r p j tokens_are bare_is same size high lefts rights left right = chain_complete g o j (omega (arith, same, size)) (omega (arith, same, size)) (λ n ws z zs ys is stops rest.
    let b = between ws (tokens_of l) (kinds.Mark p) (tokens_of r) (is ∙ tokens_are) in
    let operator = binary_operator p high in
    let v = sort_at g.types b.mark (kinds.Mark p) b.mark_is ∙ operator.viewed g.types in
    let own : looseness (punct_sort p) ≡ suc j = omega (arith, operator.loose, size) in
    let whole : ws ++ z ∷ zs ≡ b.left ++ b.mark ∷ (b.right ++ z ∷ zs) = ap (λ w. w ++ z ∷ zs) b.whole ∙ append_assoc b.left (b.mark ∷ b.right) (z ∷ zs) in
    let s = right.levels (suc j - 1) (omega (arith, size)) (omega (arith, size, rights)) b.right z zs b.right_is (omega (arith, stops)) in
    moved g (grammar.level (suc j)) (b.left ++ b.mark ∷ (b.right ++ z ∷ zs)) (ws ++ z ∷ zs) ys (sym whole)
    (left.on j (omega (arith, size)) (omega (arith, size, lefts)) (λ h. omega (arith, h, size, lefts)) (λ h. omega (arith, h, size, lefts)) n b.left b.mark (b.right ++ z ∷ zs) ys b.left_is (subst (λ t. j < looseness t) (sym v) (omega (arith, own))) (λ q f d. let t = rest (grammar.operand (syntax_trees.binary b.mark q.tree s.answer.tree) false) (ap₃ (λ u v w. unplaced (syntax.binary (make.punct_of u) v w)) b.mark_is d s.alike ∙ sym bare_is) in
    record {
      answer = t.answer;
      read = chosen g (grammar.after (suc j) q) b.mark (punct_sort p) _ (b.right ++ z ∷ zs) ys t.answer v
          (if_true (stands_behind (suc j) q.unary (punct_sort p)) _ _ (operator.stands (suc j) q.unary ∙ eq-eqb (looseness (punct_sort p)) (suc j) own) ∙ ap (λ w. Some w) (operator.plans g (suc j) q b.mark))
          (read_take refl (join s.read (join t.read read_done)));
      alike = t.alike;
    })))

pub comma_complete : (g : Context) (o l r : Expression) → tokens_of o ≡ tokens_of l ++ kinds.Mark puncts.Comma ∷ tokens_of r → bare o ≡ unplaced (syntax.comma (bare l) (bare r)) → level o ≡ 0 → 1 ≤ level r → Complete g l → Complete g r → Complete g o
comma_complete g o l r tokens_are bare_is same rights left right = chain_complete g o 12 (omega (arith, same)) (omega (arith, same)) (λ n ws z zs ys is stops rest.
    let b = between ws (tokens_of l) (kinds.Mark puncts.Comma) (tokens_of r) (is ∙ tokens_are) in
    let v = sort_at g.types b.mark (kinds.Mark puncts.Comma) b.mark_is in
    let whole : ws ++ z ∷ zs ≡ b.left ++ b.mark ∷ (b.right ++ z ∷ zs) = ap (λ w. w ++ z ∷ zs) b.whole ∙ append_assoc b.left (b.mark ∷ b.right) (z ∷ zs) in
    let s = right.levels 12 (omega arith) (omega (arith, rights)) b.right z zs b.right_is stops in
    moved g (grammar.level 13) (b.left ++ b.mark ∷ (b.right ++ z ∷ zs)) (ws ++ z ∷ zs) ys (sym whole)
    (left.on 12 (omega arith) (omega arith) (λ h. absurd cc) (λ h. absurd cc) n b.left b.mark (b.right ++ z ∷ zs) ys b.left_is (subst (λ t. 12 < looseness t) (sym v) (omega arith)) (λ q f d. let t = rest (grammar.operand (syntax_trees.sequence b.mark q.tree s.answer.tree) false) (ap₂ (λ u v. unplaced (syntax.comma u v)) d s.alike ∙ sym bare_is) in
    record { answer = t.answer; read = chosen g (grammar.after 13 q) b.mark (tokens.mark tokens.comma) _ (b.right ++ z ∷ zs) ys t.answer v refl (read_take refl (join s.read (join t.read read_done))); alike = t.alike })))

pub choice_complete : (g : Context) (o c l r : Expression) → tokens_of o ≡ tokens_of c ++ kinds.Mark puncts.Question ∷ (tokens_of l ++ kinds.Mark puncts.Colon ∷ tokens_of r) → bare o ≡ unplaced (syntax.choice (bare c) (bare l) (bare r)) → level o ≡ 2 → 3 ≤ level c → 2 ≤ level r → Complete g c → Complete g l → Complete g r → Complete g o
choice_complete g o c l r tokens_are bare_is same firsts rights first left right = loose_complete g o 10 (omega (arith, same)) (omega (arith, same))
    (λ ws z zs is stops.
    let b = between ws (tokens_of c) (kinds.Mark puncts.Question) _ (is ∙ tokens_are) in
    let d = between b.right (tokens_of l) (kinds.Mark puncts.Colon) (tokens_of r) b.right_is in
    let v = sort_at g.types b.mark (kinds.Mark puncts.Question) b.mark_is in
    let whole : ws ++ z ∷ zs ≡ b.left ++ b.mark ∷ (d.left ++ d.mark ∷ (d.right ++ z ∷ zs)) = ap (λ w. w ++ z ∷ zs) b.whole ∙ append_assoc b.left (b.mark ∷ b.right) (z ∷ zs) ∙ ap (λ w. b.left ++ b.mark ∷ (w ++ z ∷ zs)) d.whole ∙ ap (λ w. b.left ++ b.mark ∷ w) (append_assoc d.left (d.mark ∷ d.right) (z ∷ zs)) in
    let middle = closed g l d.left d.mark (d.right ++ z ∷ zs) puncts.Colon tokens.colon left d.left_is d.mark_is refl (omega arith) in
    let ends = mark_taken tokens.colon d.mark (kinds.Mark puncts.Colon) d.mark_is refl in
    let s = right.levels 11 (omega arith) (omega (arith, rights)) d.right z zs d.right_is stops in
    moved g (grammar.level 11) (b.left ++ b.mark ∷ (d.left ++ d.mark ∷ (d.right ++ z ∷ zs))) (ws ++ z ∷ zs) (z ∷ zs) (sym whole)
    (first.on 10 (omega arith) (omega (arith, firsts)) (λ h. firsts) (λ h. absurd cc) (bare o) b.left b.mark (d.left ++ d.mark ∷ (d.right ++ z ∷ zs)) (z ∷ zs) b.left_is (subst (λ t. 10 < looseness t) (sym v) (omega arith)) (λ q f deeply. record { answer = grammar.operand (syntax_trees.choice b.mark q.tree middle.answer.tree s.answer.tree) false; read = chosen g (grammar.after 11 q) b.mark (tokens.mark tokens.question) _ (d.left ++ d.mark ∷ (d.right ++ z ∷ zs)) (z ∷ zs) _ v refl (read_take refl (join middle.read (read_take ends (join s.read read_done)))); alike = ap₃ (λ u v w. unplaced (syntax.choice u v w)) deeply middle.alike s.alike ∙ sym bare_is })))
    (λ three two n. absurd (omega (arith, same, three refl)))

-- what an assignment's token chooses
record AssignOperator (p : Punct) : Type 0 where
  loose : looseness (punct_sort p) ≡ 12
  viewed : (types : List ℕ) → view types (punct_sort p) ≡ punct_sort p
  stands : (u : Bool) → stands_behind 12 u (punct_sort p) ≡ u && true
  plans : (g : Context) (l : Operand syntax_trees) (x : Terminal) → operator_plan g 12 l x (punct_sort p) ≡ grammar.next (λ y. grammar.get g (grammar.level 12) (λ r. done (grammar.operand (syntax_trees.assign x l.tree r.tree) false)))

assign_operator : (p : Punct) → is_assignment p ≡ true → AssignOperator p
assign_operator puncts.Assign h = record { loose = refl; viewed = λ types. refl; stands = λ u. refl; plans = λ g l x. refl }
assign_operator puncts.StarAssign h = record { loose = refl; viewed = λ types. refl; stands = λ u. refl; plans = λ g l x. refl }
assign_operator puncts.SlashAssign h = record { loose = refl; viewed = λ types. refl; stands = λ u. refl; plans = λ g l x. refl }
assign_operator puncts.PercentAssign h = record { loose = refl; viewed = λ types. refl; stands = λ u. refl; plans = λ g l x. refl }
assign_operator puncts.PlusAssign h = record { loose = refl; viewed = λ types. refl; stands = λ u. refl; plans = λ g l x. refl }
assign_operator puncts.MinusAssign h = record { loose = refl; viewed = λ types. refl; stands = λ u. refl; plans = λ g l x. refl }
assign_operator puncts.ShiftLeftAssign h = record { loose = refl; viewed = λ types. refl; stands = λ u. refl; plans = λ g l x. refl }
assign_operator puncts.ShiftRightAssign h = record { loose = refl; viewed = λ types. refl; stands = λ u. refl; plans = λ g l x. refl }
assign_operator puncts.AmpersandAssign h = record { loose = refl; viewed = λ types. refl; stands = λ u. refl; plans = λ g l x. refl }
assign_operator puncts.CaretAssign h = record { loose = refl; viewed = λ types. refl; stands = λ u. refl; plans = λ g l x. refl }
assign_operator puncts.BarAssign h = record { loose = refl; viewed = λ types. refl; stands = λ u. refl; plans = λ g l x. refl }
assign_operator _ h = absurd cc

pub assign_complete : (g : Context) (o l r : Expression) (p : Punct) → tokens_of o ≡ tokens_of l ++ kinds.Mark p ∷ tokens_of r → bare o ≡ unplaced (syntax.assign p (bare l) (bare r)) → level o ≡ 1 → is_assignment p ≡ true → 14 ≤ level l → 1 ≤ level r → Complete g l → Complete g r → Complete g o
assign_complete g o l r p tokens_are bare_is same assigns lefts rights left right = loose_complete g o 11 (omega (arith, same)) (omega (arith, same))
    (λ ws z zs is stops.
    let b = between ws (tokens_of l) (kinds.Mark p) (tokens_of r) (is ∙ tokens_are) in
    let operator = assign_operator p assigns in
    let v = sort_at g.types b.mark (kinds.Mark p) b.mark_is ∙ operator.viewed g.types in
    let whole : ws ++ z ∷ zs ≡ b.left ++ b.mark ∷ (b.right ++ z ∷ zs) = ap (λ w. w ++ z ∷ zs) b.whole ∙ append_assoc b.left (b.mark ∷ b.right) (z ∷ zs) in
    let s = right.levels 12 (omega arith) (omega (arith, rights)) b.right z zs b.right_is stops in
    moved g (grammar.level 12) (b.left ++ b.mark ∷ (b.right ++ z ∷ zs)) (ws ++ z ∷ zs) (z ∷ zs) (sym whole)
    (left.on 11 (omega arith) (omega (arith, lefts)) (λ h. absurd cc) (λ h. omega (arith, lefts)) (bare o) b.left b.mark (b.right ++ z ∷ zs) (z ∷ zs) b.left_is (subst (λ t. 11 < looseness t) (sym v) (omega (arith, operator.loose))) (λ q f d. record {
      answer = grammar.operand (syntax_trees.assign b.mark q.tree s.answer.tree) false;
      read = chosen g (grammar.after 12 q) b.mark (punct_sort p) _ (b.right ++ z ∷ zs) (z ∷ zs) _ v
          (if_true (stands_behind 12 q.unary (punct_sort p)) _ _ (operator.stands q.unary ∙ ap (λ u. u && true) (f lefts)) ∙ ap (λ w. Some w) (operator.plans g q b.mark)) (read_take refl (join s.read read_done));
      alike = ap₃ (λ u v w. unplaced (syntax.assign (make.punct_of u) v w)) b.mark_is d s.alike ∙ sym bare_is;
    })))
    (λ three two n. absurd (omega (arith, same, two refl)))
