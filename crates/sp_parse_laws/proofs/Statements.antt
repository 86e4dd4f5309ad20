-- What is made of statements spells the tokens of its parts, each place that of its token.
use Rattle.std.proofs.Common.{◌≡◌, ℕ, ◌+◌, ◌-◌, ◌≤◌, List, [], ◌∷◌, ◌++◌, length, Some, None, refl, sym, ap, ap₂, ◌∙◌, subst, arith, length-append}
use Rattle.std.specs.Prelude.{Option, if◌then◌else◌}
use Rattle.std.proofs.lemmas.List.{append_assoc, map-append}
use Rattle.sp_tree.specs.declared.fault.Place.{Place}
use Rattle.sp_tree.specs.declared.token.Kind.{Kind}
use Rattle.sp_tree.specs.declared.token.Kind.TheVariants as kinds
use Rattle.sp_tree.specs.declared.token.Keyword.TheVariants as words
use Rattle.sp_tree.specs.declared.token.Punct.TheVariants as puncts
use Rattle.sp_parse_trees.specs.Syntax as syntax
use Rattle.sp_parse_trees.specs.Syntax.{Expression, Declaration, Statement, statement}
use Rattle.sp_parse_trees.specs.Spelling.{tokens_of, maybe_tokens, declarations_tokens, statement_tokens, statements_tokens, else_tokens}
use Rattle.sp_parse_trees.specs.Places.{Placed, PlacedMaybe, PlacedStatement, PlacedElse, behind, past, past_one}
use Rattle.sp_parse_trees.specs.View as view
use Rattle.sp_parse_tokens.specs.Sorts.{Terminal}
use Rattle.sp_parse_tokens.specs.Makers as make
use Rattle.sp_parse_tokens.specs.SyntaxTrees.{syntax_trees}
use Rattle.sp_parse_laws.specs.Spelled.{kinds_at, Agrees, Spelled}
use Rattle.sp_parse_laws.proofs.Spelling.{SE, behind_behind, behind_zero, split, around, counted, placed_first, name_back}
use Rattle.sp_parse_laws.proofs.SpellingLists.{SDeclarations, SStatements}
use Rattle.sp_parse_laws.proofs.SpellingParts.{SMaybe}

abbrev pub SS : List Terminal → Statement → Type 0
SS ws s = Spelled statement_tokens PlacedStatement ws s

abbrev pub SElse : List Terminal → Option Statement → Type 0
SElse ws v = Spelled (λ o. else_tokens (make.some_statement o)) (λ at o. PlacedElse at (make.some_statement o)) ws v

-- ---- the end of a statement is its last token

some_tokens : (s : Statement) → 1 ≤ length (statement_tokens s)
some_tokens (statement (syntax.of e) p z) = let l = length-append (tokens_of e) (kinds.Mark puncts.Semicolon ∷ []) in omega (arith, l)
some_tokens (statement _ p z) = omega arith

ends : (at : ℕ → Place) (s : Statement) → PlacedStatement at s → make.end_of s ≡ at (length (statement_tokens s) - 1)
ends at (statement f p z) h = h.1

-- a statement that begins after m tokens ends those of both
ended_by : (at now : ℕ → Place) (s : Statement) (m n : ℕ) → PlacedStatement now s → ((i : ℕ) → now i ≡ at (m + i)) → n ≡ m + length (statement_tokens s) → make.end_of s ≡ at (n - 1)
ended_by at now s m n h shift e = let some = some_tokens s in ends now s h ∙ shift (length (statement_tokens s) - 1) ∙ ap at (omega (arith, e, some))

-- after two tokens
second : (at : ℕ → Place) (ws : List Terminal) → Agrees (behind 1 (behind 1 at)) ws → Agrees (behind 2 at) ws
second at ws h = subst (λ f. Agrees f ws) (behind_behind 1 1 2 at (omega arith)) h

-- lengths
after_one : (a : Kind) (bs : List Kind) → length (a ∷ bs) ≡ 1 + length bs
after_one a bs = omega arith

after_two : (a b : Kind) (bs : List Kind) → length (a ∷ b ∷ bs) ≡ 2 + length bs
after_two a b bs = omega arith

around_one : (xs ys : List Kind) (k : Kind) → length (xs ++ k ∷ ys) ≡ length xs + 1 + length ys
around_one xs ys k = let l = length-append xs (k ∷ ys) in omega (arith, l)

-- ---- labels

pub label_spelled : (y x : Terminal) (ws : List Terminal) (n : ℕ) (s : Statement) → y.what.kind ≡ kinds.Name n → x.what.kind ≡ kinds.Mark puncts.Colon → SS ws s → SS (y ∷ x ∷ ws) (syntax_trees.label y s)
label_spelled y x ws n s ky kx r = record {
  spells = ap₂ (λ a b. a ∷ b) (name_back y.what.kind n ky) (ap₂ (λ a b. a ∷ b) (sym kx) r.spells);
  places = λ at h.
      let p = r.places (behind 2 at) (second at ws h.1.1) in
      (h.0, ended_by at (behind 2 at) s 2 _ p (λ i. refl) (after_two (kinds.Name (make.number_of y.what.kind)) (kinds.Mark puncts.Colon) (statement_tokens s)), p);
}

pub default_spelled : (y x : Terminal) (ws : List Terminal) (s : Statement) → y.what.kind ≡ kinds.Word words.Default → x.what.kind ≡ kinds.Mark puncts.Colon → SS ws s → SS (y ∷ x ∷ ws) (syntax_trees.default y s)
default_spelled y x ws s ky kx r = record {
  spells = ap₂ (λ a b. a ∷ b) (sym ky) (ap₂ (λ a b. a ∷ b) (sym kx) r.spells);
  places = λ at h.
      let p = r.places (behind 2 at) (second at ws h.1.1) in
      (h.0, ended_by at (behind 2 at) s 2 _ p (λ i. refl) (after_two (kinds.Word words.Default) (kinds.Mark puncts.Colon) (statement_tokens s)), p);
}

pub case_spelled : (x : Terminal) (vs : List Terminal) (z : Terminal) (ws : List Terminal) (e : Expression) (s : Statement) → x.what.kind ≡ kinds.Word words.Case → SE vs e → z.what.kind ≡ kinds.Mark puncts.Colon → SS ws s → SS (x ∷ (vs ++ z ∷ ws)) (syntax_trees.case x e s)
case_spelled x vs z ws e s kx l kz r = record {
  spells = simp (map-append, l.spells, r.spells, kx, kz) refl;
  places = λ at h.
      let a = around (behind 1 at) vs z ws (length (tokens_of e)) (counted vs e l) h.1 in
      let p = r.places _ a.right in
      let m = length (tokens_of e) in
      (h.0, ended_by at (past_one (tokens_of e) (behind 1 at)) s (2 + m) _ p (λ i. ap at (omega arith)) (let o = around_one (tokens_of e) (statement_tokens s) (kinds.Mark puncts.Colon) in omega (arith, o)), (l.places _ a.left, p));
}

-- ---- statements with an expression in parentheses

-- what the head says of the places after it
record Headed (at : ℕ → Place) (vs ws : List Terminal) (e : Expression) : Type 0 where
  inner : Placed (behind 2 at) e
  rest : Agrees (past_one (tokens_of e) (behind 2 at)) ws

headed : (at : ℕ → Place) (vs : List Terminal) (z : Terminal) (ws : List Terminal) (e : Expression) → SE vs e → Agrees (behind 2 at) (vs ++ z ∷ ws) → Headed at vs ws e
headed at vs z ws e l h =
    let a = around (behind 2 at) vs z ws (length (tokens_of e)) (counted vs e l) h in
    record { inner = l.places _ a.left; rest = a.right }

pub switch_spelled : (x y : Terminal) (vs : List Terminal) (z : Terminal) (ws : List Terminal) (e : Expression) (s : Statement) → x.what.kind ≡ kinds.Word words.Switch → y.what.kind ≡ kinds.Mark puncts.LeftParenthesis → SE vs e → z.what.kind ≡ kinds.Mark puncts.RightParenthesis → SS ws s
    → SS (x ∷ y ∷ (vs ++ z ∷ ws)) (syntax_trees.switch x e s)
switch_spelled x y vs z ws e s kx ky l kz r = record {
  spells = simp (map-append, l.spells, r.spells, kx, ky, kz) refl;
  places = λ at h.
      let a = headed at vs z ws e l (second at (vs ++ z ∷ ws) h.1.1) in
      let p = r.places _ a.rest in
      (h.0, ended_by at (past_one (tokens_of e) (behind 2 at)) s (3 + length (tokens_of e)) _ p (λ i. ap at (omega arith)) (let o = around_one (tokens_of e) (statement_tokens s) (kinds.Mark puncts.RightParenthesis) in omega (arith, o)), (a.inner, p));
}

pub while_spelled : (x y : Terminal) (vs : List Terminal) (z : Terminal) (ws : List Terminal) (e : Expression) (s : Statement) → x.what.kind ≡ kinds.Word words.While → y.what.kind ≡ kinds.Mark puncts.LeftParenthesis → SE vs e → z.what.kind ≡ kinds.Mark puncts.RightParenthesis → SS ws s
    → SS (x ∷ y ∷ (vs ++ z ∷ ws)) (syntax_trees.while x e s)
while_spelled x y vs z ws e s kx ky l kz r = record {
  spells = simp (map-append, l.spells, r.spells, kx, ky, kz) refl;
  places = λ at h.
      let a = headed at vs z ws e l (second at (vs ++ z ∷ ws) h.1.1) in
      let p = r.places _ a.rest in
      (h.0, ended_by at (past_one (tokens_of e) (behind 2 at)) s (3 + length (tokens_of e)) _ p (λ i. ap at (omega arith)) (let o = around_one (tokens_of e) (statement_tokens s) (kinds.Mark puncts.RightParenthesis) in omega (arith, o)), (a.inner, p));
}

-- ---- short statements

pub empty_spelled : (x : Terminal) → x.what.kind ≡ kinds.Mark puncts.Semicolon → SS (x ∷ []) (syntax_trees.empty x)
empty_spelled x k = record { spells = ap (λ v. v ∷ []) (sym k); places = λ at h. (h.0, h.0, tt) }

pub goto_spelled : (x n z : Terminal) (m : ℕ) → x.what.kind ≡ kinds.Word words.Goto → n.what.kind ≡ kinds.Name m → z.what.kind ≡ kinds.Mark puncts.Semicolon → SS (x ∷ n ∷ z ∷ []) (syntax_trees.goto x n z)
goto_spelled x n z m kx kn kz = record {
  spells = ap₂ (λ a b. a ∷ b) (sym kx) (ap₂ (λ a b. a ∷ b) (name_back n.what.kind m kn) (ap (λ v. v ∷ []) (sym kz)));
  places = λ at h. (h.0, h.1.1.0, tt);
}

pub continue_spelled : (x z : Terminal) → x.what.kind ≡ kinds.Word words.Continue → z.what.kind ≡ kinds.Mark puncts.Semicolon → SS (x ∷ z ∷ []) (syntax_trees.jump x z)
continue_spelled x z kx kz = record {
  spells = subst (λ k. statement_tokens (statement (if make.is_break k then syntax.break_out else syntax.continue_loop) x.what.place z.what.place) ≡ k ∷ z.what.kind ∷ []) (sym kx) (ap (λ v. kinds.Word words.Continue ∷ v ∷ []) (sym kz));
  places = λ at h. subst (λ k. PlacedStatement at (statement (if make.is_break k then syntax.break_out else syntax.continue_loop) x.what.place z.what.place)) (sym kx) (h.0, h.1.0, tt);
}

pub break_spelled : (x z : Terminal) → x.what.kind ≡ kinds.Word words.Break → z.what.kind ≡ kinds.Mark puncts.Semicolon → SS (x ∷ z ∷ []) (syntax_trees.jump x z)
break_spelled x z kx kz = record {
  spells = subst (λ k. statement_tokens (statement (if make.is_break k then syntax.break_out else syntax.continue_loop) x.what.place z.what.place) ≡ k ∷ z.what.kind ∷ []) (sym kx) (ap (λ v. kinds.Word words.Break ∷ v ∷ []) (sym kz));
  places = λ at h. subst (λ k. PlacedStatement at (statement (if make.is_break k then syntax.break_out else syntax.continue_loop) x.what.place z.what.place)) (sym kx) (h.0, h.1.0, tt);
}

pub of_spelled : (vs : List Terminal) (z : Terminal) (e : Expression) → SE vs e → z.what.kind ≡ kinds.Mark puncts.Semicolon → SS (vs ++ z ∷ []) (syntax_trees.of e z)
of_spelled vs z e l kz = record {
  spells = simp (map-append, l.spells, kz) refl;
  places = λ at h.
      let a = around at vs z [] (length (tokens_of e)) (counted vs e l) h in
      let size = around_one (tokens_of e) [] (kinds.Mark puncts.Semicolon) in
      (placed_first at e (l.places at a.left), a.mark ∙ ap at (omega (arith, size)), l.places at a.left);
}

pub return_spelled : (x : Terminal) (vs : List Terminal) (z : Terminal) (v : Option Expression) → x.what.kind ≡ kinds.Word words.Return → SMaybe [] 0 vs v → z.what.kind ≡ kinds.Mark puncts.Semicolon → SS (x ∷ (vs ++ z ∷ [])) (syntax_trees.return x v z)
return_spelled x vs z v kx l kz = record {
  spells = simp (map-append, l.spells, kx, kz) refl;
  places = λ at h.
      let ks = maybe_tokens [] (view.maybe_expression v) in
      let a = around (behind 1 at) vs z [] (length ks) (counted vs v l) h.1 in
      let size = around_one ks [] (kinds.Mark puncts.Semicolon) in
      (h.0, a.mark ∙ ap at (omega (arith, size)), subst (λ f. PlacedMaybe f (view.maybe_expression v)) (behind_zero (behind 1 at)) (l.places (behind 1 at) a.left));
}

-- ---- the other statements

pub block_spelled : (x : Terminal) (us vs : List Terminal) (z : Terminal) (ds : List Declaration) (ss : List Statement) → x.what.kind ≡ kinds.Mark puncts.LeftBrace → SDeclarations us ds → SStatements vs ss → z.what.kind ≡ kinds.Mark puncts.RightBrace
    → SS (x ∷ (us ++ (vs ++ z ∷ []))) (syntax_trees.block x ds ss z)
block_spelled x us vs z ds ss kx l r kz = record {
  spells = simp (map-append, l.spells, r.spells, kx, kz) (ap (λ v. kinds.Mark puncts.LeftBrace ∷ v) (append_assoc (kinds_at us) (kinds_at vs) (kinds.Mark puncts.RightBrace ∷ [])));
  places = λ at h.
      let ks = declarations_tokens (view.declarations ds) in
      let js = statements_tokens (make.all_statements ss) in
      let a = split (behind 1 at) us (vs ++ z ∷ []) h.1 in
      let right = subst (λ n. Agrees (behind n (behind 1 at)) (vs ++ z ∷ [])) (sym (counted us ds l)) a.1 in
      let b = around (past ks (behind 1 at)) vs z [] (length js) (counted vs ss r) right in
      let size = around_one (ks ++ js) [] (kinds.Mark puncts.RightBrace) in
      let size2 = length-append ks js in
      (h.0, b.mark ∙ ap at (omega (arith, size, size2)), (l.places _ a.0, r.places _ b.left));
}

pub else_none : SElse [] None
else_none = record { spells = refl; places = λ at h. tt }

pub else_some : (x : Terminal) (ws : List Terminal) (s : Statement) → x.what.kind ≡ kinds.Word words.Else → SS ws s → SElse (x ∷ ws) (Some s)
else_some x ws s k r = record { spells = ap₂ (λ a b. a ∷ b) (sym k) r.spells; places = λ at h. r.places (behind 1 at) h.1 }

-- the end of the two branches
branches_end : (at now : ℕ → Place) (a : Statement) (b : Option Statement) (m n : ℕ) → PlacedStatement now a → PlacedElse (past (statement_tokens a) now) (make.some_statement b) → ((i : ℕ) → now i ≡ at (m + i)) → n ≡ m + length (statement_tokens a) + length (else_tokens (make.some_statement b)) → make.end_of_branches a b ≡ at (n - 1)
branches_end at now a None m n p q shift e = ended_by at now a m n p shift (omega (arith, e))
branches_end at now a (Some b) m n p q shift e =
    ended_by at (behind 1 (past (statement_tokens a) now)) b (m + length (statement_tokens a) + 1) n q (λ i. shift (length (statement_tokens a) + (1 + i)) ∙ ap at (omega arith)) (let o = after_one (kinds.Word words.Else) (statement_tokens b) in omega (arith, e, o))

pub if_spelled : (x y : Terminal) (vs : List Terminal) (z : Terminal) (us ws : List Terminal) (e : Expression) (a : Statement) (b : Option Statement) → x.what.kind ≡ kinds.Word words.If → y.what.kind ≡ kinds.Mark puncts.LeftParenthesis → SE vs e → z.what.kind ≡ kinds.Mark puncts.RightParenthesis → SS us a → SElse ws b
    → SS (x ∷ y ∷ (vs ++ z ∷ (us ++ ws))) (syntax_trees.if_else x e a b)
if_spelled x y vs z us ws e a b kx ky l kz r q = record {
  spells = simp (map-append, l.spells, r.spells, q.spells, kx, ky, kz) (ap (λ v. kinds.Word words.If ∷ kinds.Mark puncts.LeftParenthesis ∷ v) (append_assoc (kinds_at vs) (kinds.Mark puncts.RightParenthesis ∷ kinds_at us) (kinds_at ws)));
  places = λ at h.
      let head = headed at vs z (us ++ ws) e l (second at (vs ++ z ∷ (us ++ ws)) h.1.1) in
      let now = past_one (tokens_of e) (behind 2 at) in
      let parts = split now us ws head.rest in
      let p = r.places now parts.0 in
      let other = q.places (past (statement_tokens a) now) (subst (λ n. Agrees (behind n now) ws) (sym (counted us a r)) parts.1) in
      let size = around_one (tokens_of e) (statement_tokens a) (kinds.Mark puncts.RightParenthesis) in
      let size2 = length-append (tokens_of e ++ kinds.Mark puncts.RightParenthesis ∷ statement_tokens a) (else_tokens (make.some_statement b)) in
      (h.0, branches_end at now a b (3 + length (tokens_of e)) _ p other (λ i. ap at (omega arith)) (omega (arith, size, size2)), (head.inner, p, other));
}

pub do_spelled : (x : Terminal) (us : List Terminal) (w y : Terminal) (vs : List Terminal) (z u : Terminal) (s : Statement) (e : Expression) → x.what.kind ≡ kinds.Word words.Do → SS us s → w.what.kind ≡ kinds.Word words.While → y.what.kind ≡ kinds.Mark puncts.LeftParenthesis → SE vs e
    → z.what.kind ≡ kinds.Mark puncts.RightParenthesis → u.what.kind ≡ kinds.Mark puncts.Semicolon → SS (x ∷ (us ++ w ∷ y ∷ (vs ++ z ∷ u ∷ []))) (syntax_trees.do_while x s e u)
do_spelled x us w y vs z u s e kx r kw ky l kz ku = record {
  spells = simp (map-append, r.spells, l.spells, kx, kw, ky, kz, ku) (ap (λ v. kinds.Word words.Do ∷ v) (append_assoc (kinds_at us) (kinds.Word words.While ∷ kinds.Mark puncts.LeftParenthesis ∷ kinds_at vs) (kinds.Mark puncts.RightParenthesis ∷ kinds.Mark puncts.Semicolon ∷ [])));
  places = λ at h.
      let ks = statement_tokens s in
      let a = split (behind 1 at) us (w ∷ y ∷ (vs ++ z ∷ u ∷ [])) h.1 in
      let after = subst (λ n. Agrees (behind n (behind 1 at)) (w ∷ y ∷ (vs ++ z ∷ u ∷ []))) (sym (counted us s r)) a.1 in
      let b = around (behind 2 (past ks (behind 1 at))) vs z (u ∷ []) (length (tokens_of e)) (counted vs e l) (second (past ks (behind 1 at)) (vs ++ z ∷ u ∷ []) after.1.1) in
      let size = around_one (ks ++ kinds.Word words.While ∷ kinds.Mark puncts.LeftParenthesis ∷ tokens_of e) (kinds.Mark puncts.Semicolon ∷ []) (kinds.Mark puncts.RightParenthesis) in
      let size2 = length-append ks (kinds.Word words.While ∷ kinds.Mark puncts.LeftParenthesis ∷ tokens_of e) in
      (h.0, b.right.0 ∙ ap at (omega (arith, size, size2)), (r.places _ a.0, l.places _ b.left));
}

pub for_spelled : (x y : Terminal) (ps : List Terminal) (w : Terminal) (qs : List Terminal) (v : Terminal) (rs : List Terminal) (u : Terminal) (ws : List Terminal) (a b c : Option Expression) (s : Statement)
    → x.what.kind ≡ kinds.Word words.For → y.what.kind ≡ kinds.Mark puncts.LeftParenthesis → SMaybe [] 0 ps a → w.what.kind ≡ kinds.Mark puncts.Semicolon → SMaybe [] 0 qs b → v.what.kind ≡ kinds.Mark puncts.Semicolon → SMaybe [] 0 rs c → u.what.kind ≡ kinds.Mark puncts.RightParenthesis → SS ws s
    → SS (x ∷ y ∷ (ps ++ w ∷ (qs ++ v ∷ (rs ++ u ∷ ws)))) (syntax_trees.for x a b c s)
for_spelled x y ps w qs v rs u ws a b c s kx ky pa kw pb kv pc ku r = record {
  spells = simp (map-append, pa.spells, pb.spells, pc.spells, r.spells, kx, ky, kw, kv, ku)
      (ap (λ v. kinds.Word words.For ∷ kinds.Mark puncts.LeftParenthesis ∷ v) (append_assoc (kinds_at ps ++ kinds.Mark puncts.Semicolon ∷ kinds_at qs) (kinds.Mark puncts.Semicolon ∷ kinds_at rs) (kinds.Mark puncts.RightParenthesis ∷ kinds_at ws)
      ∙ append_assoc (kinds_at ps) (kinds.Mark puncts.Semicolon ∷ kinds_at qs) (kinds.Mark puncts.Semicolon ∷ (kinds_at rs ++ kinds.Mark puncts.RightParenthesis ∷ kinds_at ws))));
  places = λ at h.
      let ks = maybe_tokens [] (view.maybe_expression a) in
      let js = maybe_tokens [] (view.maybe_expression b) in
      let is = maybe_tokens [] (view.maybe_expression c) in
      let one = around (behind 2 at) ps w (qs ++ v ∷ (rs ++ u ∷ ws)) (length ks) (counted ps a pa) (second at (ps ++ w ∷ (qs ++ v ∷ (rs ++ u ∷ ws))) h.1.1) in
      let two = around (past_one ks (behind 2 at)) qs v (rs ++ u ∷ ws) (length js) (counted qs b pb) one.right in
      let three = around (past_one js (past_one ks (behind 2 at))) rs u ws (length is) (counted rs c pc) two.right in
      let p = r.places _ three.right in
      let size = around_one ks js (kinds.Mark puncts.Semicolon) in
      let size2 = around_one (ks ++ kinds.Mark puncts.Semicolon ∷ js) is (kinds.Mark puncts.Semicolon) in
      let size3 = around_one ((ks ++ kinds.Mark puncts.Semicolon ∷ js) ++ kinds.Mark puncts.Semicolon ∷ is) (statement_tokens s) (kinds.Mark puncts.RightParenthesis) in (
        h.0,
        ended_by at (past_one is (past_one js (past_one ks (behind 2 at)))) s (5 + length ks + length js + length is) _ p (λ i. ap at (omega arith)) (omega (arith, size, size2, size3)),
        (
          subst (λ f. PlacedMaybe f (view.maybe_expression a)) (behind_zero (behind 2 at)) (pa.places _ one.left),
          subst (λ f. PlacedMaybe f (view.maybe_expression b)) (behind_zero (past_one ks (behind 2 at))) (pb.places _ two.left),
          subst (λ f. PlacedMaybe f (view.maybe_expression c)) (behind_zero (past_one js (past_one ks (behind 2 at)))) (pc.places _ three.left),
          p,
        ),
      );
}
