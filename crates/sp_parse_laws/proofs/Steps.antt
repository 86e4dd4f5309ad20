-- A plan is read step by step from tokens of given kinds: a token, a part, nothing more.
use Rattle.std.proofs.Common.{◌≡◌, true, List, [], ◌∷◌, ◌++◌, Some, refl, sym, ap, ◌∙◌, subst, append_assoc}
use Rattle.sp_tree.specs.declared.token.Kind.{Kind}
use Rattle.sp_tree.specs.declared.token.Kind.TheVariants as kinds
use Rattle.sp_tree.specs.declared.token.Punct.TheVariants as puncts
use Rattle.sp_parse_grammar.specs.CTokens as tokens
use Rattle.sp_parse_grammar.specs.CTokens.{Sort, view, is_mark}
use Rattle.sp_parse_grammar.specs.CTable as grammar
use Rattle.sp_parse_grammar.specs.CTable.{Context, AlsoAllowed, Class, any, only, accepts, Ask, Answer, ItemAnswer, at, c_symbols, plan, ItemStops}
use Rattle.sp_parse_grammar.specs.Table.{Plan, done, take, call, ask, Reads, read_done, read_take}
use Rattle.sp_parse_grammar.proofs.Readings.{join, at_tokens, at_rest}
use Rattle.sp_parse_tokens.specs.Sorts.{Terminal, sort_of}
use Rattle.sp_parse_tokens.specs.SyntaxTrees.{syntax_trees, c_table}
use Rattle.sp_parse_tokens.specs.Depths.{Part}
use Rattle.sp_parse_laws.specs.Spelled.{kinds_at}
use Rattle.sp_parse_laws.proofs.Completing.{cut, head, sort_at, mark_taken, chosen, nothing}
use Rattle.sp_parse_laws.proofs.CompleteExpressions.{none_left}
use Rattle.sp_parse_laws.proofs.CompleteParts.{Next, Commas, no_comma, a_comma}

-- The plan is read from these tokens, with an answer of which this holds, and those are left.
pub record PlanRead {m : Ask syntax_trees} (p : Plan (c_symbols syntax_trees) m) (H : Answer m → Type 0) (xs ys : List Terminal) : Type 0 where
  pub answer : Answer m
  pub read : Reads c_table m p xs answer ys
  pub holds : H answer

-- The item is read from tokens of these kinds, before a next token of such a sort, with an answer of which this holds.
pub record IsRead (g : Context) (i : Part) (F : Sort → Type 0) (ks : List Kind) (H : ItemAnswer i → Type 0) : Type 0 where
  pub read : (ws rest : List Terminal) → kinds_at ws ≡ ks → Next g F rest → PlanRead {m = at g i} (ask (at g i)) H (ws ++ rest) rest

-- ---- the token behind a part

-- the next token is the first of some of these kinds
pub next_kind : (g : Context) (F : Sort → Type 0) (k : Kind) (b : List Kind) (vs rest : List Terminal) → F (view g.types (sort_of k)) → kinds_at vs ≡ k ∷ b → Next g F (vs ++ rest)
next_kind g F k b vs rest holds e =
    let h = head vs k b e in
    record { first = h.first; rest = h.rest ++ rest; whole = ap (λ v. v ++ rest) h.whole; holds = subst F (sym (sort_at g.types h.first k h.first_is)) holds }

-- behind no tokens it is that behind them
pub next_none : (g : Context) (F : Sort → Type 0) (vs rest : List Terminal) → kinds_at vs ≡ [] → Next g F rest → Next g F (vs ++ rest)
next_none g F vs rest e n = record { first = n.first; rest = n.rest; whole = ap (λ v. v ++ rest) (none_left vs e) ∙ n.whole; holds = n.holds }

-- a comma, or what is behind the list
pub next_comma : (g : Context) (F : Sort → Type 0) (ks : List Kind) (vs rest : List Terminal) → Commas ks → F (tokens.mark tokens.comma) → kinds_at vs ≡ ks → Next g F rest → Next g F (vs ++ rest)
next_comma g F ks vs rest no_comma comma e n = next_none g F vs rest e n
next_comma g F ks vs rest (a_comma b) comma e n = next_kind g F (kinds.Mark puncts.Comma) b vs rest comma e

-- a comma, or what is behind the list
pub next_comma_or : (g : Context) (F : Sort → Type 0) (ks b : List Kind) (vs rest : List Terminal) → Commas ks → F (tokens.mark tokens.comma) → ((us : List Terminal) → kinds_at us ≡ b → Next g F (us ++ rest)) → kinds_at vs ≡ ks ++ b → Next g F (vs ++ rest)
next_comma_or g F ks b vs rest no_comma comma behind e = behind vs e
next_comma_or g F ks b vs rest (a_comma c) comma behind e = next_kind g F (kinds.Mark puncts.Comma) (c ++ b) vs rest comma e

pub next_maps : (g : Context) (F G : Sort → Type 0) (xs : List Terminal) → ((s : Sort) → F s → G s) → Next g F xs → Next g G xs
next_maps g F G xs f n = record { first = n.first; rest = n.rest; whole = n.whole; holds = f (view g.types n.first.sort) n.holds }

-- tokens before others begin as they do
pub next_before : (g : Context) (F : Sort → Type 0) (a b : List Kind) (vs rest : List Terminal) → ((us more : List Terminal) → kinds_at us ≡ a → Next g F (us ++ more)) → kinds_at vs ≡ a ++ b → Next g F (vs ++ rest)
next_before g F a b vs rest first e =
    let c = cut vs a b e in
    let n = first c.left (c.right ++ rest) c.left_is in
    record { first = n.first; rest = n.rest; whole = ap (λ v. v ++ rest) c.whole ∙ append_assoc c.left c.right rest ∙ n.whole; holds = n.holds }

-- ---- the steps

pub finish : {m : Ask syntax_trees} {H : Answer m → Type 0} (o : Answer m) (ws rest : List Terminal) → kinds_at ws ≡ [] → H o → PlanRead (done o) H (ws ++ rest) rest
finish o ws rest e h = record { answer = o; read = at_tokens (ap (λ v. v ++ rest) (sym (none_left ws e))) read_done; holds = h }

pub token : {m : Ask syntax_trees} {H : Answer m → Type 0} {c : Class} {f : Terminal → Plan (c_symbols syntax_trees) m} (k : Kind) (b : List Kind) (ws rest ys : List Terminal) → kinds_at ws ≡ k ∷ b → ((x : Terminal) → x.what.kind ≡ k → accepts c x ≡ true)
    → ((x : Terminal) (vs : List Terminal) → x.what.kind ≡ k → kinds_at vs ≡ b → PlanRead (f x) H (vs ++ rest) ys) → PlanRead (take c f) H (ws ++ rest) ys
token k b ws rest ys e takes on =
    let h = head ws k b e in
    let r = on h.first h.rest h.first_is h.rest_is in
    record { answer = r.answer; read = at_tokens (ap (λ v. v ++ rest) (sym h.whole)) (read_take (takes h.first h.first_is) r.read); holds = r.holds }

pub mark : {m : Ask syntax_trees} {H : Answer m → Type 0} {g : Context} {p : AlsoAllowed} {t : tokens.Mark} {f : Terminal → Plan (c_symbols syntax_trees) m} (k : Kind) (b : List Kind) (ws rest ys : List Terminal) → kinds_at ws ≡ k ∷ b → sort_of k ≡ tokens.mark t
    → ((x : Terminal) (vs : List Terminal) → x.what.kind ≡ k → kinds_at vs ≡ b → PlanRead (f x) H (vs ++ rest) ys) → PlanRead (take (only g p t) f) H (ws ++ rest) ys
mark {t = t} k b ws rest ys e sort on = token k b ws rest ys e (λ x is. mark_taken t x k is sort) on

pub part : {m : Ask syntax_trees} {H : Answer m → Type 0} {g : Context} {i : Part} {k : ItemAnswer i → Plan (c_symbols syntax_trees) m} {F : Sort → Type 0} {Q : ItemAnswer i → Type 0} (a b : List Kind) (ws rest ys : List Terminal) → IsRead g i F a Q → kinds_at ws ≡ a ++ b
    → ((vs : List Terminal) → kinds_at vs ≡ b → Next g F (vs ++ rest)) → ((o : ItemAnswer i) (vs : List Terminal) → Q o → kinds_at vs ≡ b → PlanRead (k o) H (vs ++ rest) ys) → PlanRead (call (at g i) k) H (ws ++ rest) ys
part a b ws rest ys inner e next on =
    let c = cut ws a b e in
    let r = inner.read c.left (c.right ++ rest) c.left_is (next c.right c.right_is) in
    let s = on r.answer c.right r.holds c.right_is in
    record { answer = s.answer; read = at_tokens (sym (ap (λ v. v ++ rest) c.whole ∙ append_assoc c.left c.right rest)) (join r.read s.read); holds = s.holds }

-- the last part of a plan: nothing is behind it but what is behind the whole
pub last_part : {m : Ask syntax_trees} {H : Answer m → Type 0} {g : Context} {i : Part} {k : ItemAnswer i → Plan (c_symbols syntax_trees) m} {F : Sort → Type 0} {Q : ItemAnswer i → Type 0} {a : List Kind} (ws rest ys : List Terminal) → IsRead g i F a Q → kinds_at ws ≡ a → Next g F rest
    → ((o : ItemAnswer i) → Q o → PlanRead (k o) H rest ys) → PlanRead (call (at g i) k) H (ws ++ rest) ys
last_part ws rest ys inner e next on =
    let r = inner.read ws rest e next in
    let s = on r.answer r.holds in
    record { answer = s.answer; read = join r.read s.read; holds = s.holds }

pub finished : {m : Ask syntax_trees} {H : Answer m → Type 0} (o : Answer m) (rest : List Terminal) → H o → PlanRead (done o) H rest rest
finished o rest h = record { answer = o; read = read_done; holds = h }

-- ---- the production that the first token chooses

-- it takes that token
pub begun : {g : Context} {i : Part} {H : ItemAnswer i → Type 0} {f : Terminal → Terminal → Plan (c_symbols syntax_trees) (at g i)} (k : Kind) (b : List Kind) (s : Sort) (ws rest ys : List Terminal) → kinds_at ws ≡ k ∷ b → view g.types (sort_of k) ≡ s → ((x : Terminal) → plan g i x s ≡ Some (take any (f x)))
    → ((x : Terminal) (vs : List Terminal) → x.what.kind ≡ k → kinds_at vs ≡ b → PlanRead {m = at g i} (f x x) H (vs ++ rest) ys) → PlanRead {m = at g i} (ask (at g i)) H (ws ++ rest) ys
begun {g = g} {i = i} k b s ws rest ys e v q on =
    let h = head ws k b e in
    let r = on h.first h.rest h.first_is h.rest_is in
    record { answer = r.answer; read = at_tokens (ap (λ v. v ++ rest) (sym h.whole)) (chosen g i h.first s _ (h.rest ++ rest) ys r.answer (sort_at g.types h.first k h.first_is ∙ v) (q h.first) (read_take refl r.read)); holds = r.holds }

-- it is the same at each such token
pub from_first : {g : Context} {i : Part} {H : ItemAnswer i → Type 0} {q : Plan (c_symbols syntax_trees) (at g i)} {F : Sort → Type 0} (xs ys : List Terminal) → Next g F xs → ((x : Terminal) (s : Sort) → F s → plan g i x s ≡ Some q) → PlanRead {m = at g i} q H xs ys → PlanRead {m = at g i} (ask (at g i)) H xs ys
from_first {g = g} {i = i} {q = q} xs ys n choose r = record {
  answer = r.answer;
  read = at_tokens (sym n.whole) (chosen g i n.first (view g.types n.first.sort) q n.rest ys r.answer refl (choose n.first (view g.types n.first.sort) n.holds) (at_tokens n.whole r.read));
  holds = r.holds;
}

-- Nothing is read, before a token at which the item may end.
pub none_read : (g : Context) (i : Part) (F : Sort → Type 0) (H : ItemAnswer i → Type 0) → grammar.item_ending g i ≡ [] → ((s : Sort) → F s → ItemStops g i s) → H (grammar.item_value g i) → IsRead g i F [] H
none_read g i F H empty stops h = record {
  read = λ ws rest e n. record {
    answer = grammar.item_value g i;
    read = at_tokens (ap (λ v. v ++ n.first ∷ n.rest) empty ∙ sym n.whole ∙ ap (λ v. v ++ rest) (sym (none_left ws e))) (at_rest (sym n.whole) (nothing g i n.first n.rest (stops (view g.types n.first.sort) n.holds)));
    holds = h;
  };
}
