-- A statement that begins with a name takes it before the grammar looks whether it is a label: so an expression that begins with a
-- name is read behind that name, by its suffixes and then by the operators of each level.
use Rattle.std.proofs.Common.{◌≡◌, ℕ, zero, suc, ◌+◌, ◌-◌, ◌<◌, true, false, inl, inr, List, [], ◌∷◌, Some, refl, sym, ap, ◌∙◌, subst, arith}
use Rattle.sp_parse_trees.specs.Syntax.{Expression}
use Rattle.sp_parse_grammar.specs.CTokens as tokens
use Rattle.sp_parse_grammar.specs.CTokens.{Sort, view as viewed, is_mark, looseness}
use Rattle.sp_parse_grammar.specs.CTable as grammar
use Rattle.sp_parse_grammar.specs.CTable.{Context, Operand, ItemAnswer, at, c_symbols, plan}
use Rattle.sp_parse_grammar.specs.Table.{Symbols, Plan, done, take, call, Table, ask, Reads, read_done, read_take, read_call}
use Rattle.sp_parse_grammar.proofs.Readings.{join, at_plan, at_tokens, one_reading}
use Rattle.sp_parse_grammar.proofs.CChecked.{if_false, which}
use Rattle.sp_parse_tokens.specs.Sorts.{Terminal}
use Rattle.sp_parse_tokens.specs.SyntaxTrees.{syntax_trees, c_table}
use Rattle.sp_parse_tokens.specs.Depths.{Part}
use Rattle.sp_parse_laws.proofs.Completing.{Read, chosen, nothing}

-- ---- readings taken apart

record Parted {S : Symbols} (T : Table S) (m n : S.Ask) (k : S.Answer n → Plan S m) (xs zs : List S.Token) (o : S.Answer m) : Type 0 where
  answer : S.Answer n
  mid : List S.Token
  first : Reads T n (ask n) xs answer mid
  rest : Reads T m (k answer) mid o zs

parted : {S : Symbols} {T : Table S} {m n : S.Ask} {k : S.Answer n → Plan S m} {xs zs : List S.Token} {o : S.Answer m} → Reads T m (call n k) xs o zs → Parted T m n k xs zs o
parted (read_call {ys = mid} {a = a} e r s) = record { answer = a; mid = mid; first = read_call e r read_done; rest = s }

behind_taken : {S : Symbols} {T : Table S} {m : S.Ask} {c : S.Class} {k : S.Token → Plan S m} {x : S.Token} {xs zs : List S.Token} {o : S.Answer m} → Reads T m (take c k) (x ∷ xs) o zs → Reads T m (k x) xs o zs
behind_taken (read_take e r) = r

done_with : {S : Symbols} {T : Table S} {m : S.Ask} {a o : S.Answer m} {xs zs : List S.Token} → Reads T m (done a) xs o zs → (a ≡ o) × (xs ≡ zs)
done_with read_done = (refl, refl)

-- a part that is the whole
alone : {S : Symbols} {T : Table S} {m n : S.Ask} {xs zs : List S.Token} {o : S.Answer m} (f : S.Answer n → S.Answer m) → Reads T m (call n (λ a. done (f a))) xs o zs → (a : S.Answer n) × Reads T n (ask n) xs a zs × (f a ≡ o)
alone {T = T} {n = n} {xs = xs} f r =
    let p = parted r in
    let d = done_with p.rest in
    (p.answer, subst (λ v. Reads T n (ask n) xs p.answer v) d.1 p.first, d.0)

-- by the production that a token of this sort chooses
by_production : (g : Context) (i : Part) (x : Terminal) (xs ys : List Terminal) (a : ItemAnswer i) (s : Sort) (q : Plan (c_symbols syntax_trees) (at g i)) → viewed g.types x.sort ≡ s → plan g i x s ≡ Some q → Read g i (x ∷ xs) a ys → Reads c_table (at g i) q (x ∷ xs) a ys
by_production g i x xs ys a s q v e (read_call {q = p} f r read_done) =
    let there : plan g i x (viewed g.types x.sort) ≡ Some q = ap (plan g i x) v ∙ e in
    let same : p ≡ q = cc in
    at_plan same r

-- ---- the levels

module _ (g : Context) (x : Terminal) (n : ℕ) (v : viewed g.types x.sort ≡ tokens.name n) where
  named_primary : (xs ys : List Terminal) (e : Expression) → Read g grammar.primary (x ∷ xs) e ys → (syntax_trees.name x ≡ e) × (xs ≡ ys)
  named_primary xs ys e r = done_with (behind_taken (by_production g grammar.primary x xs ys e (tokens.name n) _ v refl r))

  named_unary : (xs ys : List Terminal) (e : Expression) → Read g grammar.unary (x ∷ xs) e ys → Read g (grammar.suffixes (syntax_trees.name x)) xs e ys
  named_unary xs ys e r =
      let p = parted (by_production g grammar.unary x xs ys e (tokens.name n) _ v refl r) in
      let s = alone (λ f. f) p.rest in
      let first = named_primary xs p.mid p.answer p.first in
      at_tokens (sym first.1) (subst (λ f. Read g (grammar.suffixes f) p.mid e ys) (sym first.0) (subst (λ f. Read g (grammar.suffixes p.answer) p.mid f ys) s.2 s.1))

  named_level : (xs ys : List Terminal) (o : Operand syntax_trees) → Read g (grammar.level zero) (x ∷ xs) o ys → (e : Expression) × Read g (grammar.suffixes (syntax_trees.name x)) xs e ys × (grammar.operand e true ≡ o)
  named_level xs ys o r =
      let s = alone (λ e. grammar.operand e true) (by_production g (grammar.level zero) x xs ys o (tokens.name n) _ v refl r) in
      (s.0, named_unary xs ys s.0 s.1, s.2)

  -- the operators of one level, and then those of the looser ones
  tail_step : (j k : ℕ) (l o p : Operand syntax_trees) (xs mid zs : List Terminal) → k ≡ 13 - j → Read g (grammar.after k l) xs o mid → Read g (grammar.tail j o) mid p zs → Read g (grammar.tail (suc j) l) xs p zs
  tail_step j k l o p xs mid zs e (read_call {x = y} {xs = ys} f q read_done) rest =
      let here : Read g (grammar.after (13 - j) l) (y ∷ ys) o mid = subst (λ i. Read g (grammar.after i l) (y ∷ ys) o mid) e (read_call f q read_done) in
      read_call refl (join here (join rest read_done)) read_done

  level_parts : (k : ℕ) (xs mid : List Terminal) (o : Operand syntax_trees) → Read g (grammar.level (suc k)) (x ∷ xs) o mid → (l : Operand syntax_trees) × (ys : List Terminal) × Read g (grammar.level k) (x ∷ xs) l ys × Read g (grammar.after (suc k) l) ys o mid
  level_parts k xs mid o r =
      let p = parted (by_production g (grammar.level (suc k)) x xs mid o (viewed g.types x.sort) _ refl refl r) in
      let s = alone (λ u. u) p.rest in
      (p.answer, p.mid, p.first, subst (λ u. Read g (grammar.after (suc k) p.answer) p.mid u mid) s.2 s.1)

  behind_name : (k j : ℕ) → j + k ≡ 13 → (xs mid zs : List Terminal) (o p : Operand syntax_trees) → Read g (grammar.level k) (x ∷ xs) o mid → Read g (grammar.tail j o) mid p zs
      → (e : Expression) × (ys : List Terminal) × Read g (grammar.suffixes (syntax_trees.name x)) xs e ys × Read g (grammar.tail 13 (grammar.operand e true)) ys p zs
  behind_name zero j size xs mid zs o p r rest =
      let h = named_level xs mid o r in
      let whole : j ≡ 13 = omega arith in
      (h.0, mid, h.1, subst (λ i. Read g (grammar.tail i (grammar.operand h.0 true)) mid p zs) whole (subst (λ u. Read g (grammar.tail j u) mid p zs) (sym h.2) rest))
  behind_name (suc k) j size xs mid zs o p r rest =
      let l = level_parts k xs mid o r in
      behind_name k (suc j) (omega arith) xs l.1 zs l.0 p l.2 (tail_step j (suc k) l.0 o p l.1 mid zs (omega arith) l.3 rest)

-- ---- the statement

colon_loose : (s : Sort) → is_mark tokens.colon s ≡ true → 13 < looseness s
colon_loose (tokens.mark tokens.colon) e = omega arith
colon_loose _ e = absurd cc

-- Behind the name stands no `:`: at one nothing more would be read, and it isn't the `;`.
no_colon : (g : Context) (f e : Expression) (o : Operand syntax_trees) (c : Terminal) (cs ys : List Terminal) (z : Terminal) (zs : List Terminal) → Read g (grammar.suffixes f) (c ∷ cs) e ys → Read g (grammar.tail 13 (grammar.operand e true)) ys o (z ∷ zs) → is_mark tokens.colon (viewed g.types z.sort) ≡ false → is_mark tokens.colon (viewed g.types c.sort) ≡ false
no_colon g f e o c cs ys z zs r s other = elim (which (is_mark tokens.colon (viewed g.types c.sort))) [
  | inr b ↦ b
  | inl b ↦
      let loose = colon_loose (viewed g.types c.sort) b in
      let suffixed = one_reading c_table (at g (grammar.suffixes f)) (ask {S = c_symbols syntax_trees} (at g (grammar.suffixes f))) _ _ _ _ _ r (nothing g (grammar.suffixes f) c cs (omega (arith, loose))) in
      let tailed = one_reading c_table (at g (grammar.tail 13 (grammar.operand e true))) (ask {S = c_symbols syntax_trees} (at g (grammar.tail 13 (grammar.operand e true)))) _ _ _ _ _ (at_tokens suffixed.1 s) (nothing g (grammar.tail 13 (grammar.operand e true)) c cs loose) in
      let same : z ≡ c = cc in
      absurd cc
]

statement_behind : (g : Context) (x : Terminal) (n : ℕ) (xs ys : List Terminal) (e : Expression) (o : Operand syntax_trees) (z : Terminal) (zs : List Terminal) → viewed g.types x.sort ≡ tokens.name n → is_mark tokens.semicolon z.sort ≡ true → is_mark tokens.colon (viewed g.types z.sort) ≡ false
    → Read g (grammar.suffixes (syntax_trees.name x)) xs e ys → Read g (grammar.tail 13 (grammar.operand e true)) ys o (z ∷ zs) → Read g grammar.statement (x ∷ xs) (syntax_trees.of o.tree z) zs
statement_behind g x n [] ys e o z zs v ends other r s = absurd (none r)
  where
    none : Read g (grammar.suffixes (syntax_trees.name x)) [] e ys → ⊥
    none q = elim q [ ]
statement_behind g x n (c ∷ cs) ys e o z zs v ends other r s =
    let here = no_colon g (syntax_trees.name x) e o c cs ys z zs r s other in
    let behind : Read g (grammar.behind_name x) (c ∷ cs) (syntax_trees.of o.tree z) zs = chosen g (grammar.behind_name x) c (viewed g.types c.sort) _ cs zs _ refl (if_false (is_mark tokens.colon (viewed g.types c.sort)) _ _ here) (join r (join s (read_take ends read_done))) in
    chosen g grammar.statement x (tokens.name n) _ (c ∷ cs) zs _ v refl (read_take refl (join behind read_done))

-- An expression that begins with a name is a statement with the `;` behind it.
pub named_statement : (g : Context) (x : Terminal) (n : ℕ) (xs : List Terminal) (o : Operand syntax_trees) (z : Terminal) (zs : List Terminal) → viewed g.types x.sort ≡ tokens.name n → is_mark tokens.semicolon z.sort ≡ true → is_mark tokens.colon (viewed g.types z.sort) ≡ false
    → Read g (grammar.level 13) (x ∷ xs) o (z ∷ zs) → Read g grammar.statement (x ∷ xs) (syntax_trees.of o.tree z) zs
named_statement g x n xs o z zs v ends other r =
    let b = behind_name g x n v 13 0 refl xs (z ∷ zs) (z ∷ zs) o o r (read_call refl read_done read_done) in
    statement_behind g x n xs b.1 b.0 o z zs v ends other b.2 b.3
