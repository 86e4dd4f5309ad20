-- What each levelled tree is read by: tokens cut as its kinds are, the productions that they choose, and an answer that is the tree
-- but for its places.
use Rattle.std.proofs.Common.{◌≡◌, ℕ, zero, suc, ◌+◌, ◌<◌, ◌≤◌, true, List, [], ◌∷◌, ◌++◌, Some, refl, sym, ap, ap₂, ◌∙◌, subst, arith, eq-eqb}
use Rattle.sp_tree.specs.declared.token.Kind.{Kind}
use Rattle.sp_parse_trees.specs.Syntax.{Expression}
use Rattle.sp_parse_trees.specs.Levels.{level}
use Rattle.sp_parse_grammar.specs.CTokens as tokens
use Rattle.sp_parse_grammar.specs.CTokens.{Sort, view, is_mark, looseness, is_specifier}
use Rattle.sp_parse_grammar.specs.CTable as grammar
use Rattle.sp_parse_grammar.specs.CTable.{Context, Operand, Item, ItemAnswer, Ask, at, c_symbols, plan, stands_behind, begins_expression, ItemStops}
use Rattle.sp_parse_grammar.specs.Table.{Plan, ask, Reads, read_done, read_call}
use Rattle.sp_parse_grammar.proofs.Readings.{join, at_tokens}
use Rattle.sp_parse_grammar.proofs.CEndings.{c90_checked}
use Rattle.sp_parse_tokens.specs.Sorts.{Terminal, sort_of}
use Rattle.sp_parse_tokens.specs.SyntaxTrees.{syntax_trees, c_table}
use Rattle.sp_parse_laws.specs.Bare.{bare}
use Rattle.sp_parse_tokens.specs.Depths.{Part}
use Rattle.sp_parse_laws.proofs.BareAnswers.{Bare, bare_of}
use Rattle.sp_parse_laws.specs.Spelled.{kinds_at}

-- ---- tokens cut as their kinds are

pub record Cut (ws : List Terminal) (a b : List Kind) : Type 0 where
  pub left : List Terminal
  pub right : List Terminal
  pub whole : ws ≡ left ++ right
  pub left_is : kinds_at left ≡ a
  pub right_is : kinds_at right ≡ b

pub record Head (ws : List Terminal) (k : Kind) (b : List Kind) : Type 0 where
  pub first : Terminal
  pub rest : List Terminal
  pub whole : ws ≡ first ∷ rest
  pub first_is : first.what.kind ≡ k
  pub rest_is : kinds_at rest ≡ b

pub cut : (ws : List Terminal) (a b : List Kind) → kinds_at ws ≡ a ++ b → Cut ws a b
cut ws [] b e = record { left = []; right = ws; whole = refl; left_is = refl; right_is = e }
cut [] (k ∷ a) b e = absurd cc
cut (x ∷ ws) (k ∷ a) b e =
    let same : kinds_at ws ≡ a ++ b = cc in
    let c = cut ws a b same in
    let first : x.what.kind ≡ k = cc in
    record { left = x ∷ c.left; right = c.right; whole = ap (λ v. x ∷ v) c.whole; left_is = ap₂ (λ v w. v ∷ w) first c.left_is; right_is = c.right_is }

pub head : (ws : List Terminal) (k : Kind) (b : List Kind) → kinds_at ws ≡ k ∷ b → Head ws k b
head [] k b e = absurd cc
head (x ∷ ws) k b e = record { first = x; rest = ws; whole = refl; first_is = cc; rest_is = cc }

-- around a token of this kind
pub record Between (ws : List Terminal) (a : List Kind) (k : Kind) (b : List Kind) : Type 0 where
  pub left : List Terminal
  pub mark : Terminal
  pub right : List Terminal
  pub whole : ws ≡ left ++ mark ∷ right
  pub left_is : kinds_at left ≡ a
  pub mark_is : mark.what.kind ≡ k
  pub right_is : kinds_at right ≡ b

pub between : (ws : List Terminal) (a : List Kind) (k : Kind) (b : List Kind) → kinds_at ws ≡ a ++ k ∷ b → Between ws a k b
between ws a k b e =
    let c = cut ws a (k ∷ b) e in
    let h = head c.right k b c.right_is in
    record { left = c.left; mark = h.first; right = h.rest; whole = c.whole ∙ ap (λ v. c.left ++ v) h.whole; left_is = c.left_is; mark_is = h.first_is; right_is = h.rest_is }

-- the sort of a token of this kind
pub sort_at : (types : List ℕ) (x : Terminal) (k : Kind) → x.what.kind ≡ k → view types x.sort ≡ view types (sort_of k)
sort_at types x k e = ap (view types) (sym x.right ∙ ap sort_of e)

pub mark_taken : (m : tokens.Mark) (x : Terminal) (k : Kind) → x.what.kind ≡ k → sort_of k ≡ tokens.mark m → is_mark m x.sort ≡ true
mark_taken m x k e s = ap (is_mark m) (sym x.right ∙ ap sort_of e ∙ s) ∙ eq-eqb (tokens.number_of m) (tokens.number_of m) refl

-- ---- readings

-- the item is read from these tokens, and those are left
abbrev pub Read : (g : Context) (i : Part) → List Terminal → ItemAnswer i → List Terminal → Type 0
Read g i xs o ys = Reads c_table (at g i) (ask (at g i)) xs o ys

-- with an answer of this bare tree
pub record Reading (g : Context) (i : Part) (n : Bare i) (xs ys : List Terminal) : Type 0 where
  pub answer : ItemAnswer i
  pub read : Read g i xs answer ys
  pub alike : bare_of i answer ≡ n

-- by the production that a token of this sort chooses
pub chosen : (g : Context) (i : Part) (x : Terminal) (s : Sort) (q : Plan (c_symbols syntax_trees) (at g i)) (xs ys : List Terminal) (o : ItemAnswer i) → view g.types x.sort ≡ s → plan g i x s ≡ Some q → Reads c_table (at g i) q (x ∷ xs) o ys → Read g i (x ∷ xs) o ys
chosen g i x s q xs ys o v e r = read_call (ap (plan g i x) v ∙ e) r read_done

-- nothing is read before a token at which the item may end
pub nothing : (g : Context) (i : Part) (z : Terminal) (zs : List Terminal) → ItemStops g i (view g.types z.sort) → Reads c_table (at g i) (ask (at g i)) (grammar.item_ending g i ++ z ∷ zs) (grammar.item_value g i) (z ∷ zs)
nothing g i z zs h = (c90_checked syntax_trees).ends (at g i) z zs h

pub moved : (g : Context) (i : Part) {n : Bare i} (xs zs ys : List Terminal) → xs ≡ zs → Reading g i n xs ys → Reading g i n zs ys
moved g i xs zs ys e r = record { answer = r.answer; read = at_tokens e r.read; alike = r.alike }

-- a level's reading, with whether it may stand left of an assignment
pub record Leveled (g : Context) (k : ℕ) (e : Expression) (xs ys : List Terminal) : Type 0 where
  pub answer : Operand syntax_trees
  pub read : Read g (grammar.level k) xs answer ys
  pub unary : 14 ≤ level e → answer.unary ≡ true
  pub alike : bare answer.tree ≡ bare e

pub moved_level : (g : Context) (k : ℕ) (e : Expression) (xs zs ys : List Terminal) → xs ≡ zs → Leveled g k e xs ys → Leveled g k e zs ys
moved_level g k e xs zs ys same r = record { answer = r.answer; read = at_tokens same r.read; unary = r.unary; alike = r.alike }

-- from no token nothing is read, since a production is chosen by one
no_reading : (g : Context) (i : Part) (o : ItemAnswer i) (ys : List Terminal) → Read g i [] o ys → ⊥
no_reading g i o ys r = elim r [ ]

-- the next looser level
pub level_up : (g : Context) (k : ℕ) (e : Expression) (xs : List Terminal) (z : Terminal) (zs : List Terminal) → suc k < looseness (view g.types z.sort) → Leveled g k e xs (z ∷ zs) → Leveled g (suc k) e xs (z ∷ zs)
level_up g k e [] z zs h r = absurd (no_reading g (grammar.level k) r.answer (z ∷ zs) r.read)
level_up g k e (x ∷ xs) z zs h r = record {
  answer = r.answer;
  read = read_call refl (join r.read (join (nothing g (grammar.after (suc k) r.answer) z zs h) read_done)) read_done;
  unary = r.unary;
  alike = r.alike;
}

-- what a looser level reads of it
pub raise : (g : Context) (j n : ℕ) (e : Expression) (xs : List Terminal) (z : Terminal) (zs : List Terminal) → n + j < looseness (view g.types z.sort) → Leveled g j e xs (z ∷ zs) → Leveled g (n + j) e xs (z ∷ zs)
raise g j zero e xs z zs h r = let size : j ≡ 0 + j = omega arith in subst (λ v. Leveled g v e xs (z ∷ zs)) size r
raise g j (suc n) e xs z zs h r =
    let size : suc (n + j) ≡ suc n + j = omega arith in
    subst (λ v. Leveled g v e xs (z ∷ zs)) size (level_up g (n + j) e xs z zs (omega arith) (raise g j n e xs z zs (omega arith) r))
