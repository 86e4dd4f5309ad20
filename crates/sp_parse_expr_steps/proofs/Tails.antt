-- What is after a left part of an expression, level by level.
use Rattle.std.proofs.Common.{◌≡◌, ℕ, suc, ◌+◌, ◌-◌, List, [], ◌∷◌, refl, ap, subst, arith}
use Rattle.sp_tree.specs.declared.token.Token.{Token}
use Rattle.sp_parse_tokens.specs.declared.part.ReadError.{ReadError}
use Rattle.sp_parse_grammar.specs.CTable as grammar
use Rattle.sp_parse_grammar.specs.CTable.{Context, at, get, tail, after, c_symbols}
use Rattle.sp_parse_grammar.specs.Table.{Plan, ask, done, Reads}
use Rattle.sp_parse_tokens.specs.Sorts.{c_tokens}
use Rattle.sp_parse_tokens.specs.SyntaxTrees.{syntax_trees, c_table}
use Rattle.sp_parse_tokens.specs.Ended.{IsEnded}
use Rattle.sp_parse_expr_steps.specs.Reading.{IsStop, IsStep}
use Rattle.sp_parse_expr_steps.proofs.Steps.{enter, got, last, finished}
use Rattle.sp_parse_expr_steps.proofs.Parts.{IsOn, stop_part}

abbrev Operand : Type 0
Operand = grammar.Operand syntax_trees

-- the level j, and the k levels after it
abbrev rest_of : (g : Context) (k j : ℕ) (left : Operand) → Plan (c_symbols syntax_trees) (at g (tail (suc k) left))
rest_of g k j left = get g (after j left) (λ o. get g (tail k o) (λ p. done p))

module _ (g : Context) (first left : Operand) (text rest : List Token) where
  begun_by : (k : ℕ) → IsStep g (tail 13 first) (tail (suc k) left) (λ a. a) text rest → (xs : List Token) → rest ≡ xs → IsEnded xs → IsOn g g (tail 13 first) (tail (suc k) left) (λ a. a) (rest_of g k (13 - k) left) text rest
  begun_by k b [] e ended = absurd ended
  begun_by k b (x ∷ xs) e ended = enter b (ap c_tokens e) refl

  opened : (m k j : ℕ) → m ≡ suc k → j + k ≡ 13 → IsStep g (tail 13 first) (tail m left) (λ a. a) text rest → IsEnded rest → IsOn g g (tail 13 first) (tail (suc k) left) (λ a. a) (rest_of g k j left) text rest
  opened m k j e sum b ended =
      let here = begun_by k (subst (λ v. IsStep g (tail 13 first) (tail v left) (λ a. a) text rest) e b) rest refl ended in
      let level : 13 - k ≡ j = omega (arith, sum) in
      subst (λ v. IsOn g g (tail 13 first) (tail (suc k) left) (λ a. a) (rest_of g k v left) text rest) level here

  -- the level was read
  pub tail_next : (m k j : ℕ) → m ≡ suc k → j + k ≡ 13 → IsStep g (tail 13 first) (tail m left) (λ a. a) text rest → IsEnded rest → (right : Operand) (now : List Token) → Reads c_table (at g (after j left)) (ask (at g (after j left))) (c_tokens rest) right (c_tokens now) → IsStep g (tail 13 first) (tail k right) (λ a. a) text now
  tail_next m k j e sum b ended right now r = last (got (opened m k j e sum b ended) r)

  -- it ended
  pub tail_stop : (m k j : ℕ) → m ≡ suc k → j + k ≡ 13 → IsStep g (tail 13 first) (tail m left) (λ a. a) text rest → IsEnded rest → (d : ℕ) (s : ReadError) → IsStop g (after j left) d rest s → IsStop g (tail 13 first) d text s
  tail_stop m k j e sum b ended d s h =
      stop_part g g g (tail 13 first) (tail (suc k) left) (after j left) (λ a. a) (λ o. get g (tail k o) (λ p. done p)) d d text rest (opened m k j e sum b ended) (omega arith) s h

  done_by : (m : ℕ) → m ≡ 0 → IsStep g (tail 13 first) (tail 0 left) (λ a. a) text rest → (xs : List Token) → rest ≡ xs → IsEnded xs → Reads c_table (at g (tail 13 first)) (ask (at g (tail 13 first))) (c_tokens text) left (c_tokens rest)
  done_by m e b [] same ended = absurd ended
  done_by m e b (x ∷ xs) same ended = finished (enter b (ap c_tokens same) refl)

  -- all levels were read
  pub tail_done : (m : ℕ) → m ≡ 0 → IsStep g (tail 13 first) (tail m left) (λ a. a) text rest → IsEnded rest → Reads c_table (at g (tail 13 first)) (ask (at g (tail 13 first))) (c_tokens text) left (c_tokens rest)
  tail_done m e b ended = done_by m e (subst (λ v. IsStep g (tail 13 first) (tail v left) (λ a. a) text rest) e b) rest refl ended
