-- The steps of the readers of expressions, over plain variables.
use Rattle.std.proofs.Common.{◌≡◌, ℕ, ◌+◌, ◌-◌, ◌≤◌, ◌<◌, ◌==◌, Bool, true, false, List, [], ◌∷◌, length, Some, refl, sym, ap, ◌∙◌, subst, suc, zero, arith}
use Rattle.std.specs.Prelude.{◌&&◌}
use Rattle.std.proofs.lemmas.Bool.{eqb-true}
use Rattle.sp_tree.specs.declared.token.Token.{Token}
use Rattle.sp_parse_tokens.specs.declared.part.ReadError.{ReadError}
use Rattle.sp_parse_grammar.specs.CTokens as tokens
use Rattle.sp_parse_grammar.specs.CTokens.{Sort, view}
use Rattle.sp_parse_grammar.specs.CTable as grammar
use Rattle.sp_parse_grammar.specs.CTable.{Context, Item, ItemAnswer, at, plan, c_symbols, stands_behind, operator_plan, next, get, operand}
use Rattle.sp_parse_grammar.specs.CTrees.{TokenOf}
use Rattle.sp_parse_grammar.specs.Table.{Plan, done, ask, Reads, open_take}
use Rattle.sp_parse_grammar.specs.Depth.{Nests}
use Rattle.sp_parse_tokens.specs.Sorts.{c_tokens, terminal, sort_of}
use Rattle.sp_parse_tokens.specs.SyntaxTrees.{syntax_trees, c_table}
use Rattle.sp_parse_tokens.specs.Depths.{c_depths, item_depth, item_least}
use Rattle.sp_parse_tokens.specs.Ended.{IsEnded}
use Rattle.sp_parse_expr_steps.specs.Reading.{IsRead, IsStop, IsStep, taken}
use Rattle.sp_parse_expr_steps.proofs.Steps.{begun, enter, took_token, got, last, passed}
use Rattle.sp_parse_expr_steps.proofs.Parts.{IsOn, chosen, stop_before, stop_part}

-- what was read, as an answer to the ask
pub built : (g : Context) (i : Item syntax_trees) (d n : ℕ) (text rest : List Token) (a b : ItemAnswer i) → Reads c_table (at g i) (ask (at g i)) (c_tokens text) a (c_tokens rest) → b ≡ a → n ≡ item_depth i a → n ≤ d → IsEnded rest → taken i + length rest ≤ length text → IsRead g i d text b n rest
built g i d n text rest a b r same deep shallow ended fewer =
    subst (λ v. IsRead g i d text v n rest) (sym same) (record { reads = r; deep = deep; shallow = shallow; ended = ended; fewer = fewer })

-- a part at whose reading another's ends
pub read_before : (g : Context) (i j : Item syntax_trees) (f : ItemAnswer j → ItemAnswer i) (d n : ℕ) (text mid rest : List Token) (a : ItemAnswer j) → IsStep g i j f text mid → IsRead g j d mid a n rest → item_depth j a ≡ item_depth i (f a) → taken i + length rest ≤ length text → IsRead g i d text (f a) n rest
read_before g i j f d n text mid rest a b h same fewer = record {
  reads = b.reads a (c_tokens rest) h.reads;
  deep = h.deep ∙ same;
  shallow = h.shallow;
  ended = h.ended;
  fewer = fewer;
}

module _ (g : Context) (i : Item syntax_trees) (text rest : List Token) (x : Token) (s : Sort) (e : text ≡ x ∷ rest) (is : s ≡ view g.types (sort_of x.kind)) where
  -- the production that the first token chooses, before that is taken
  pub first_same : (q : Plan (c_symbols syntax_trees) (at g i)) → plan g i (terminal x) s ≡ Some q → IsOn g g i i (λ a. a) q text text
  first_same q p = enter (begun (at g i) (c_tokens text)) (ap c_tokens e) (chosen g i x s (Some q) is p)

  -- and behind it
  pub first_taken : (k : TokenOf syntax_trees → Plan (c_symbols syntax_trees) (at g i)) → plan g i (terminal x) s ≡ Some (next k) → IsOn g g i i (λ a. a) (k (terminal x)) text rest
  first_taken k p = took_token (first_same (next k) p) (ap c_tokens e) refl

  -- at which the depth is passed
  pub first_deep : (d : ℕ) (k : TokenOf syntax_trees → Plan (c_symbols syntax_trees) (at g i)) → plan g i (terminal x) s ≡ Some (next k) → d < item_least g i s → Nests c_table c_depths (at g i) d (c_tokens text) (c_tokens text)
  first_deep d k p less = passed (begun (at g i) (c_tokens text)) (ap c_tokens e) (chosen g i x s (Some (next k)) is p) (open_take refl) (subst (λ v. d < item_least g i v) is less)

-- ---- levels

level_on_suc : (g : Context) (k d n m : ℕ) (text mid rest : List Token) (l a : grammar.Operand syntax_trees) → IsEnded text → IsRead g (grammar.level k) d text l n mid → IsRead g (grammar.after (suc k) l) d mid a m rest → IsRead g (grammar.level (suc k)) d text a m rest
level_on_suc g k d n m [] mid rest l a ended first behind = absurd ended
level_on_suc g k d n m (x ∷ xs) mid rest l a ended first behind =
    let on = first_same g (grammar.level (suc k)) (x ∷ xs) xs x (view g.types (sort_of x.kind)) refl refl (get g (grammar.level k) (λ v. get g (grammar.after (suc k) v) (λ o. done o))) refl in
    read_before g (grammar.level (suc k)) (grammar.after (suc k) l) (λ o. o) d m (x ∷ xs) mid rest a (last (got on first.reads)) behind refl (omega (arith, first.fewer, behind.fewer))

pub level_on : (g : Context) (k d n m : ℕ) (text mid rest : List Token) (l a : grammar.Operand syntax_trees) → IsEnded text → IsRead g (grammar.level k) d text l n mid → IsRead g (grammar.after (k + 1) l) d mid a m rest → IsRead g (grammar.level (k + 1)) d text a m rest
level_on g k d n m text mid rest l a ended first behind =
    let same : k + 1 ≡ suc k = omega arith in
    subst (λ j. IsRead g (grammar.level j) d text a m rest) (sym same) (level_on_suc g k d n m text mid rest l a ended first (subst (λ j. IsRead g (grammar.after j l) d mid a m rest) same behind))

-- a stop at a level is one at each looser level
level_stop_suc : (g : Context) (k d : ℕ) (text : List Token) (s : ReadError) → IsEnded text → IsStop g (grammar.level k) d text s → IsStop g (grammar.level (suc k)) d text s
level_stop_suc g k d [] s ended h = absurd ended
level_stop_suc g k d (x ∷ xs) s ended h =
    let on = first_same g (grammar.level (suc k)) (x ∷ xs) xs x (view g.types (sort_of x.kind)) refl refl (get g (grammar.level k) (λ v. get g (grammar.after (suc k) v) (λ o. done o))) refl in
    stop_part g g g (grammar.level (suc k)) (grammar.level (suc k)) (grammar.level k) (λ o. o) (λ v. get g (grammar.after (suc k) v) (λ o. done o)) d d (x ∷ xs) (x ∷ xs) on (omega arith) s h

level_stop_up : (g : Context) (j k d : ℕ) (text : List Token) (s : ReadError) → IsEnded text → IsStop g (grammar.level k) d text s → (l : ℕ) → l ≡ j + k → IsStop g (grammar.level l) d text s
level_stop_up g zero k d text s ended h l e = let same : k ≡ l = omega (arith, e) in subst (λ v. IsStop g (grammar.level v) d text s) same h
level_stop_up g (suc j) k d text s ended h l e =
    let same : suc (j + k) ≡ l = omega (arith, e) in
    subst (λ v. IsStop g (grammar.level v) d text s) same (level_stop_suc g (j + k) d text s ended (level_stop_up g j k d text s ended h (j + k) refl))

pub level_stop : (g : Context) (k l d : ℕ) (text : List Token) (s : ReadError) → IsEnded text → k ≤ l → IsStop g (grammar.level k) d text s → IsStop g (grammar.level l) d text s
level_stop g k l d text s ended less h = level_stop_up g (l - k) k d text s ended h l (omega (arith, less))

-- a stop behind the left part
level_after_suc : (g : Context) (k d n : ℕ) (text mid : List Token) (l : grammar.Operand syntax_trees) (s : ReadError) → IsEnded text → IsRead g (grammar.level k) d text l n mid → IsStop g (grammar.after (suc k) l) d mid s → IsStop g (grammar.level (suc k)) d text s
level_after_suc g k d n [] mid l s ended first h = absurd ended
level_after_suc g k d n (x ∷ xs) mid l s ended first h =
    let on = first_same g (grammar.level (suc k)) (x ∷ xs) xs x (view g.types (sort_of x.kind)) refl refl (get g (grammar.level k) (λ v. get g (grammar.after (suc k) v) (λ o. done o))) refl in
    stop_before g (grammar.level (suc k)) (grammar.after (suc k) l) (λ o. o) d (x ∷ xs) mid (last (got on first.reads)) s h

pub level_after : (g : Context) (k d n : ℕ) (text mid : List Token) (l : grammar.Operand syntax_trees) (s : ReadError) → IsEnded text → IsRead g (grammar.level k) d text l n mid → IsStop g (grammar.after (k + 1) l) d mid s → IsStop g (grammar.level (k + 1)) d text s
level_after g k d n text mid l s ended first h =
    let same : k + 1 ≡ suc k = omega arith in
    subst (λ j. IsStop g (grammar.level j) d text s) (sym same) (level_after_suc g k d n text mid l s ended first (subst (λ j. IsStop g (grammar.after j l) d mid s) same h))

-- ---- operators

no_twelve : (u : Bool) (j : ℕ) → j ≤ 10 → (u && (12 == j)) ≡ true → ⊥
no_twelve true j less is = let same : 12 ≡ j = eqb-true 12 j is in omega (arith, same, less)
no_twelve false j less is = cc

-- those of levels 1 to 10
pub operator_binary : (g : Context) (k : ℕ) (l : grammar.Operand syntax_trees) (x : Token) (s : Sort) → 1 ≤ k → k ≤ 10 → stands_behind k l.unary s ≡ true
    → operator_plan g k l (terminal x) s ≡ next (λ y. get g (grammar.level (k - 1)) (λ r. get g (grammar.after k (operand (syntax_trees.binary (terminal x) l.tree r.tree) false)) (λ o. done o)))
operator_binary g k l x (tokens.mark tokens.question) low high e = let is : 11 ≡ k = eqb-true 11 k e in absurd (omega (arith, is, high))
operator_binary g k l x (tokens.mark tokens.comma) low high e = let is : 13 ≡ k = eqb-true 13 k e in absurd (omega (arith, is, high))
operator_binary g k l x (tokens.mark tokens.equal) low high e = absurd (no_twelve l.unary k high e)
operator_binary g k l x tokens.assigning low high e = absurd (no_twelve l.unary k high e)
operator_binary g k l x _ low high e = refl
