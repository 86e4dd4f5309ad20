-- Behind a part of an expression the levels of which the next token is no operator take nothing.
use Rattle.std.proofs.Common.{◌≡◌, ℕ, zero, suc, ◌+◌, ◌-◌, ◌<◌, ◌≤◌, ◌==◌, Bool, true, false, List, [], ◌∷◌, refl, sym, subst, arith}
use Rattle.sp_tree.specs.declared.token.Token.{Token}
use Rattle.sp_parse_trees.specs.Depth.{depth as depth_of}
use Rattle.sp_parse_tokens.specs.declared.part.ReadError.{ReadError}
use Rattle.sp_parse_grammar.specs.CTokens as tokens
use Rattle.sp_parse_grammar.specs.CTokens.{Sort, looseness, view}
use Rattle.sp_parse_grammar.specs.CTable as grammar
use Rattle.sp_parse_grammar.specs.CTable.{Context, at, tail, after, stands_behind}
use Rattle.sp_parse_grammar.specs.Table.{ask, Reads}
use Rattle.sp_parse_tokens.specs.Sorts.{c_tokens, sort_of}
use Rattle.sp_parse_tokens.specs.SyntaxTrees.{syntax_trees, c_table}
use Rattle.sp_parse_tokens.specs.Ended.{IsEnded}
use Rattle.sp_parse_expr_steps.specs.Reading.{IsRead, IsStop, IsStep}
use Rattle.sp_parse_expr_steps.specs.Levels.{NoneBetween}
use Rattle.sp_parse_expr_steps.proofs.Steps.{begun}
use Rattle.sp_parse_expr_steps.proofs.ExpressionSteps.{level_on, level_after}
use Rattle.sp_parse_expr_steps.proofs.Operators.{after_ends}
use Rattle.sp_parse_expr_steps.proofs.Tails.{tail_next, tail_stop}

abbrev Operand : Type 0
Operand = grammar.Operand syntax_trees

-- an operator of another level stands behind no part of this one
other_level : (k : ℕ) (u : Bool) (s : Sort) → (looseness s == k) ≡ false → stands_behind k u s ≡ false
other_level k true (tokens.mark tokens.equal) h = h
other_level k false (tokens.mark tokens.equal) h = refl
other_level k true tokens.assigning h = h
other_level k false tokens.assigning h = refl
other_level k u s h = h

module _ (g : Context) (left : Operand) (rest xs : List Token) (x : Token) (e : rest ≡ x ∷ xs) where
  abbrev is_other : ℕ → Type 0
  is_other k = (looseness (view g.types (sort_of x.kind)) == k) ≡ false

  none_behind : (k d n : ℕ) → is_other k → n ≡ depth_of left.tree → n ≤ d → IsEnded rest → IsRead g (grammar.after k left) d rest left n rest
  none_behind k d n other deep shallow ended =
      after_ends g k left left rest rest xs x (begun (at g (grammar.after k left)) (c_tokens rest)) e d n (other_level k left.unary (view g.types (sort_of x.kind)) other) deep shallow ended (omega arith)

  -- the j levels behind k take nothing
  levels_over : (text : List Token) (j k m d n : ℕ) → m ≡ j + k → IsEnded text → ((i : ℕ) → k < i → i ≤ m → is_other i) → IsRead g (grammar.level k) d text left n rest → IsRead g (grammar.level m) d text left n rest
  levels_over text zero k m d n sum ended none h =
      let same : k ≡ m = omega (arith, sum) in
      subst (λ v. IsRead g (grammar.level v) d text left n rest) same h
  levels_over text (suc j) k m d n sum ended none h =
      let here : IsRead g (grammar.level (j + k)) d text left n rest =
      levels_over text j k (j + k) d n refl ended (λ i low high. none i low (omega (arith, high, sum))) h in
      let same : (j + k) + 1 ≡ m = omega (arith, sum) in
      let other : is_other ((j + k) + 1) = none ((j + k) + 1) (omega arith) (omega (arith, sum)) in
      subst (λ v. IsRead g (grammar.level v) d text left n rest) same
      (level_on g (j + k) d n n text rest rest left left ended here (none_behind ((j + k) + 1) d n other here.deep here.shallow here.ended))

  tails_over : (first : Operand) (text : List Token) (j k m : ℕ) → m ≡ j + k → m ≤ 13 → IsEnded rest → ((i : ℕ) → k < i → i ≤ m → is_other i)
      → IsStep g (tail 13 first) (tail (13 - k) left) (λ a. a) text rest → IsStep g (tail 13 first) (tail (13 - m) left) (λ a. a) text rest
  tails_over first text zero k m sum most ended none h =
      let same : k ≡ m = omega (arith, sum) in
      subst (λ v. IsStep g (tail 13 first) (tail (13 - v) left) (λ a. a) text rest) same h
  tails_over first text (suc j) k m sum most ended none h =
      let here : IsStep g (tail 13 first) (tail (13 - (j + k)) left) (λ a. a) text rest =
      tails_over first text j k (j + k) refl (omega (arith, sum, most)) ended (λ i low high. none i low (omega (arith, high, sum))) h in
      let other : is_other m = none m (omega (arith, sum)) (omega arith) in
      tail_next g first left text rest (13 - (j + k)) (13 - m) m (omega (arith, sum, most)) (omega (arith, most)) here ended left rest
      (none_behind m (depth_of left.tree) (depth_of left.tree) other refl (omega arith) ended).reads

-- ---- the level that is read next, by its first tokens

-- all levels before it are read
level_before : (g : Context) (left : Operand) (text rest ys : List Token) (k r d n : ℕ) → rest ≡ ys → IsEnded text → IsEnded ys → k < r → NoneBetween g.types ys k r
    → IsRead g (grammar.level k) d text left n rest → IsRead g (grammar.level (r - 1)) d text left n rest
level_before g left text rest [] k r d n e ended some less none h = absurd some
level_before g left text rest (x ∷ xs) k r d n e ended some less none h =
    levels_over g left rest xs x e text ((r - 1) - k) k (r - 1) d n (omega (arith, less)) ended (λ i low high. none i low (omega (arith, high, less))) h

module _ (g : Context) (left : Operand) (text rest : List Token) (k r d n : ℕ) (ended : IsEnded text) (less : k < r) (none : NoneBetween g.types rest k r)
    (h : IsRead g (grammar.level k) d text left n rest) where
  same_level : (r - 1) + 1 ≡ r
  same_level = omega (arith, less)

  before : IsRead g (grammar.level (r - 1)) d text left n rest
  before = level_before g left text rest rest k r d n refl ended h.ended less none h

  pub level_reached : (m : ℕ) (now : List Token) (a : Operand) → IsRead g (grammar.after r left) d rest a m now → IsRead g (grammar.level r) d text a m now
  level_reached m now a behind =
      subst (λ v. IsRead g (grammar.level v) d text a m now) same_level
      (level_on g (r - 1) d n m text rest now left a ended before (subst (λ v. IsRead g (grammar.after v left) d rest a m now) (sym same_level) behind))

  pub level_stopped : (s : ReadError) → IsStop g (grammar.after r left) d rest s → IsStop g (grammar.level r) d text s
  level_stopped s stop =
      subst (λ v. IsStop g (grammar.level v) d text s) same_level
      (level_after g (r - 1) d n text rest left s ended before (subst (λ v. IsStop g (grammar.after v left) d rest s) (sym same_level) stop))

-- ---- the same of what is after a left part

tail_before : (g : Context) (first left : Operand) (text rest ys : List Token) (k r : ℕ) → rest ≡ ys → IsEnded rest → IsEnded ys → k < r → r ≤ 13 → NoneBetween g.types ys k r
    → IsStep g (tail 13 first) (tail (13 - k) left) (λ a. a) text rest → IsStep g (tail 13 first) (tail (13 - (r - 1)) left) (λ a. a) text rest
tail_before g first left text rest [] k r e ended some less most none h = absurd some
tail_before g first left text rest (x ∷ xs) k r e ended some less most none h =
    tails_over g left rest xs x e first text ((r - 1) - k) k (r - 1) (omega (arith, less)) (omega (arith, most)) ended (λ i low high. none i low (omega (arith, high, less))) h

module _ (g : Context) (first left : Operand) (text rest : List Token) (k r : ℕ) (ended : IsEnded rest) (less : k < r) (most : r ≤ 13)
    (none : NoneBetween g.types rest k r) (h : IsStep g (tail 13 first) (tail (13 - k) left) (λ a. a) text rest) where
  tail_here : IsStep g (tail 13 first) (tail (13 - (r - 1)) left) (λ a. a) text rest
  tail_here = tail_before g first left text rest rest k r refl ended ended less most none h

  pub tail_reached : (right : Operand) (now : List Token) → Reads c_table (at g (after r left)) (ask (at g (after r left))) (c_tokens rest) right (c_tokens now)
      → IsStep g (tail 13 first) (tail (13 - r) right) (λ a. a) text now
  tail_reached right now reads =
      tail_next g first left text rest (13 - (r - 1)) (13 - r) r (omega (arith, less, most)) (omega (arith, most)) tail_here ended right now reads

  pub tail_stopped : (d : ℕ) (s : ReadError) → IsStop g (after r left) d rest s → IsStop g (tail 13 first) d text s
  tail_stopped d s stop =
      tail_stop g first left text rest (13 - (r - 1)) (13 - r) r (omega (arith, less, most)) (omega (arith, most)) tail_here ended d s stop
