-- Suffixes of postfix expressions and arguments, over plain variables.
use Rattle.std.proofs.Common.{◌≡◌, ℕ, ◌+◌, ◌≤◌, true, false, List, [], ◌∷◌, ◌++◌, map, length, Some, refl, sym, ap, subst, arith}
use Rattle.std.specs.Prelude.{if◌then◌else◌}
use Rattle.sp_tree.specs.declared.token.Token.{Token}
use Rattle.sp_parse_trees.specs.Syntax.{Expression}
use Rattle.sp_parse_trees.specs.declared.tree.Expr.{Expr}
use Rattle.sp_parse_trees.specs.View.{expressions, tree_of}
use Rattle.sp_parse_trees.specs.Depth.{depth as depth_of, expressions_depth}
use Rattle.sp_parse_grammar.specs.CTokens as tokens
use Rattle.sp_parse_grammar.specs.CTokens.{Sort, view, is_mark, is_name}
use Rattle.sp_parse_grammar.specs.CTable as grammar
use Rattle.sp_parse_grammar.specs.CTable.{Context, Item, ItemAnswer, at, c_symbols, plan, next, get, expect, close_by, at_first, ordinary, begins_expression}
use Rattle.sp_parse_grammar.specs.CTrees.{TokenOf}
use Rattle.sp_parse_grammar.specs.Table.{Plan, take, done, open_take}
use Rattle.sp_parse_grammar.specs.Depth.{Nests}
use Rattle.sp_parse_tokens.specs.Sorts.{c_tokens, terminal, sort_of}
use Rattle.sp_parse_tokens.specs.SyntaxTrees.{syntax_trees, c_table}
use Rattle.sp_parse_tokens.specs.Depths.{c_depths, item_least}
use Rattle.sp_parse_tokens.specs.Ended.{IsEnded}
use Rattle.sp_parse_expr_steps.specs.Reading.{IsRead, IsStep, IsSuffixed, is_suffix}
use Rattle.sp_parse_expr_steps.proofs.Steps.{enter, took_token, finished, passed}
use Rattle.sp_parse_expr_steps.proofs.Parts.{IsOn, chosen}
use Rattle.sp_parse_expr_steps.proofs.ExpressionSteps.{built, first_same, first_taken}
use Rattle.sp_parse_tokens.proofs.Viewing.{ended_other}

-- ---- which suffix the token begins

ends_plan : (g : Context) (e : Expression) (x : TokenOf syntax_trees) (s : Sort) → is_suffix s ≡ false → plan {t = syntax_trees} g (grammar.suffixes e) x s ≡ Some (done e)
ends_plan g e x (tokens.mark tokens.bracket) other = absurd cc
ends_plan g e x (tokens.mark tokens.opening) other = absurd cc
ends_plan g e x (tokens.mark tokens.member) other = absurd cc
ends_plan g e x (tokens.mark tokens.step) other = absurd cc
ends_plan g e x _ other = refl

pub data Goes (g : Context) (e : Expression) (x : TokenOf syntax_trees) (s : Sort) : Type 0 where
  goes : (k : TokenOf syntax_trees → Plan (c_symbols syntax_trees) (at g (grammar.suffixes e))) → plan {t = syntax_trees} g (grammar.suffixes e) x s ≡ Some (next k) → item_least g (grammar.suffixes e) s ≡ 1 + depth_of e → Goes g e x s

goes_on : (g : Context) (e : Expression) (x : TokenOf syntax_trees) (s : Sort) → is_suffix s ≡ true → Goes g e x s
goes_on g e x (tokens.mark tokens.bracket) stands = goes _ refl refl
goes_on g e x (tokens.mark tokens.opening) stands = goes _ refl refl
goes_on g e x (tokens.mark tokens.member) stands = goes _ refl refl
goes_on g e x (tokens.mark tokens.step) stands = goes _ refl refl
goes_on g e x _ stands = absurd cc

module _ (g : Context) (first now : Expression) (text rest xs : List Token) (x : Token) (step : IsStep g (grammar.suffixes first) (grammar.suffixes now) (λ a. a) text rest) (e : rest ≡ x ∷ xs) where
  pub suffixes_end : (d n : ℕ) → is_suffix (view g.types (sort_of x.kind)) ≡ false → n ≡ depth_of now → n ≤ d → IsEnded rest → length rest ≤ length text → IsRead g (grammar.suffixes first) d text now n rest
  suffixes_end d n other deep shallow ended fewer =
      built g (grammar.suffixes first) d n text rest now now
      (finished (enter step (ap c_tokens e) (chosen g (grammar.suffixes now) x (view g.types (sort_of x.kind)) (Some (done now)) refl (ends_plan g now (terminal x) (view g.types (sort_of x.kind)) other))))
      refl deep shallow ended (omega (arith, fewer))

  suffix_passed : (d n : ℕ) → Goes g now (terminal x) (view g.types (sort_of x.kind)) → n ≡ depth_of now → d ≤ n → Nests c_table c_depths (at g (grammar.suffixes first)) d (c_tokens text) (c_tokens rest)
  suffix_passed d n (goes k p least) deep less = passed step (ap c_tokens e) (chosen g (grammar.suffixes now) x (view g.types (sort_of x.kind)) (Some (next k)) refl p) (open_take refl) (omega (arith, least, deep, less))

  pub suffix_deep : (d n : ℕ) → is_suffix (view g.types (sort_of x.kind)) ≡ true → n ≡ depth_of now → d ≤ n → Nests c_table c_depths (at g (grammar.suffixes first)) d (c_tokens text) (c_tokens rest)
  suffix_deep d n stands deep less = suffix_passed d n (goes_on g now (terminal x) (view g.types (sort_of x.kind)) stands) deep less

-- ---- one suffix, from its first token

module _ (g : Context) (e : Expression) (x : Token) (xs : List Token) where
  pub index_on : tokens.mark tokens.bracket ≡ view g.types (sort_of x.kind) → IsOn g g (grammar.suffixes e) (grammar.suffixes e) (λ a. a) (get g (grammar.level 13) (λ o. expect g tokens.unbracket (λ z. get g (grammar.suffixes (syntax_trees.index e (terminal x) o.tree)) (λ f. done f)))) (x ∷ xs) xs
  index_on is = first_taken g (grammar.suffixes e) (x ∷ xs) xs x (tokens.mark tokens.bracket) refl is (λ y. get g (grammar.level 13) (λ o. expect g tokens.unbracket (λ z. get g (grammar.suffixes (syntax_trees.index e (terminal x) o.tree)) (λ f. done f)))) refl

  pub call_on : tokens.mark tokens.opening ≡ view g.types (sort_of x.kind) → IsOn g g (grammar.suffixes e) (grammar.suffixes e) (λ a. a) (get g grammar.arguments (λ es. close_by g (at_first es) tokens.closing (λ z. get g (grammar.suffixes (syntax_trees.call e (terminal x) es)) (λ f. done f)))) (x ∷ xs) xs
  call_on is = first_taken g (grammar.suffixes e) (x ∷ xs) xs x (tokens.mark tokens.opening) refl is (λ y. get g grammar.arguments (λ es. close_by g (at_first es) tokens.closing (λ z. get g (grammar.suffixes (syntax_trees.call e (terminal x) es)) (λ f. done f)))) refl

  pub member_on : tokens.mark tokens.member ≡ view g.types (sort_of x.kind) → IsOn g g (grammar.suffixes e) (grammar.suffixes e) (λ a. a) (take (ordinary g) (λ z. get g (grammar.suffixes (syntax_trees.member e (terminal x) z)) (λ f. done f))) (x ∷ xs) xs
  member_on is = first_taken g (grammar.suffixes e) (x ∷ xs) xs x (tokens.mark tokens.member) refl is (λ y. take (ordinary g) (λ z. get g (grammar.suffixes (syntax_trees.member e (terminal x) z)) (λ f. done f))) refl

  pub step_on : tokens.mark tokens.step ≡ view g.types (sort_of x.kind) → IsOn g g (grammar.suffixes e) (grammar.suffixes e) (λ a. a) (get g (grammar.suffixes (syntax_trees.postfix e (terminal x))) (λ f. done f)) (x ∷ xs) xs
  step_on is = first_taken g (grammar.suffixes e) (x ∷ xs) xs x (tokens.mark tokens.step) refl is (λ y. get g (grammar.suffixes (syntax_trees.postfix e (terminal x))) (λ f. done f)) refl

-- what one suffix makes of the expression
pub suffixed : (g : Context) (e made tree : Expression) (d n : ℕ) (text rest : List Token) → IsStep g (grammar.suffixes e) (grammar.suffixes made) (λ a. a) text rest → tree ≡ made → n ≡ depth_of made → n ≤ d → IsEnded rest → 1 + length rest ≤ length text → IsSuffixed g e d text tree n rest
suffixed g e made tree d n text rest step same deep shallow ended fewer =
    subst (λ v. IsSuffixed g e d text v n rest) (sym same) (record { step = step; deep = deep; shallow = shallow; ended = ended; fewer = fewer })

-- ---- arguments

module _ (g : Context) (text xs : List Token) (x : Token) (e : text ≡ x ∷ xs) where
  pub no_arguments : (d : ℕ) → begins_expression (view g.types (sort_of x.kind)) ≡ false → IsEnded text → IsRead g grammar.arguments d text [] 0 text
  no_arguments d other ended =
      built g grammar.arguments d 0 text text [] []
      (finished (first_same g grammar.arguments text xs x (view g.types (sort_of x.kind)) e refl (done []) (ap (λ b. if b then Some (get g (grammar.level 12) (λ o. get g (grammar.more_arguments (o.tree ∷ [])) (λ es. done es))) else Some (done [])) other)))
      refl refl (omega arith) ended (omega arith)

  pub arguments_on : begins_expression (view g.types (sort_of x.kind)) ≡ true → IsOn g g grammar.arguments grammar.arguments (λ a. a) (get g (grammar.level 12) (λ o. get g (grammar.more_arguments (o.tree ∷ [])) (λ es. done es))) text text
  arguments_on stands = first_same g grammar.arguments text xs x (view g.types (sort_of x.kind)) e refl (get g (grammar.level 12) (λ o. get g (grammar.more_arguments (o.tree ∷ [])) (λ es. done es))) (ap (λ b. if b then Some (get g (grammar.level 12) (λ o. get g (grammar.more_arguments (o.tree ∷ [])) (λ es. done es))) else Some (done [])) stands)

module _ (g : Context) (es : List Expression) (text rest xs : List Token) (x : Token) (step : IsStep g grammar.arguments (grammar.more_arguments es) (λ a. a) text rest) (e : rest ≡ x ∷ xs) where
  pub arguments_end : (d n : ℕ) → is_mark tokens.comma (view g.types (sort_of x.kind)) ≡ false → n ≡ expressions_depth (expressions es) → n ≤ d → IsEnded rest → length rest ≤ length text → IsRead g grammar.arguments d text es n rest
  arguments_end d n other deep shallow ended fewer =
      built g grammar.arguments d n text rest es es
      (finished (enter step (ap c_tokens e) (chosen g (grammar.more_arguments es) x (view g.types (sort_of x.kind)) (Some (done es)) refl (ap (λ b. if b then Some (next (λ y. get g (grammar.level 12) (λ o. get g (grammar.more_arguments (es ++ o.tree ∷ [])) (λ fs. done fs)))) else Some (done es)) other))))
      refl deep shallow ended (omega (arith, fewer))

  pub more_on : is_mark tokens.comma (view g.types (sort_of x.kind)) ≡ true → IsOn g g grammar.arguments (grammar.more_arguments es) (λ a. a) (get g (grammar.level 12) (λ o. get g (grammar.more_arguments (es ++ o.tree ∷ [])) (λ fs. done fs))) text xs
  more_on stands =
      took_token (enter step (ap c_tokens e) (chosen g (grammar.more_arguments es) x (view g.types (sort_of x.kind)) (Some (next (λ y. get g (grammar.level 12) (λ o. get g (grammar.more_arguments (es ++ o.tree ∷ [])) (λ fs. done fs))))) refl (ap (λ b. if b then Some (next (λ y. get g (grammar.level 12) (λ o. get g (grammar.more_arguments (es ++ o.tree ∷ [])) (λ fs. done fs)))) else Some (done es)) stands))) (ap c_tokens e) refl

pub trees_more : (es : List Expr) (e : Expr) → map tree_of (es ++ e ∷ []) ≡ map tree_of es ++ tree_of e ∷ []
trees_more [] e = refl
trees_more (f ∷ es) e = ap (λ v. tree_of f ∷ v) (trees_more es e)

-- ---- what is left of a suffix behind its first part

abbrev pub index_more : (g : Context) (e : Expression) (x : TokenOf syntax_trees) (o : Expression) (z : TokenOf syntax_trees) → Plan (c_symbols syntax_trees) (at g (grammar.suffixes e))
index_more g e x o z = get g (grammar.suffixes (syntax_trees.index e x o)) (λ f. done f)

abbrev pub index_closing : (g : Context) (e : Expression) (x : TokenOf syntax_trees) (o : grammar.Operand syntax_trees) → Plan (c_symbols syntax_trees) (at g (grammar.suffixes e))
index_closing g e x o = expect g tokens.unbracket (index_more g e x o.tree)

abbrev pub call_more : (g : Context) (e : Expression) (x : TokenOf syntax_trees) (es : List Expression) (z : TokenOf syntax_trees) → Plan (c_symbols syntax_trees) (at g (grammar.suffixes e))
call_more g e x es z = get g (grammar.suffixes (syntax_trees.call e x es)) (λ f. done f)

abbrev pub call_closing : (g : Context) (e : Expression) (x : TokenOf syntax_trees) (es : List Expression) → Plan (c_symbols syntax_trees) (at g (grammar.suffixes e))
call_closing g e x es = close_by g (at_first es) tokens.closing (call_more g e x es)

-- the same mark, whatever else might stand there
pub allowing : (g : Context) (i j : Item syntax_trees) (f : ItemAnswer j → ItemAnswer i) (m : tokens.Mark) (k : TokenOf syntax_trees → Plan (c_symbols syntax_trees) (at g j)) (text rest : List Token) (p q : grammar.AlsoAllowed) → p ≡ q → IsOn g g i j f (close_by g p m k) text rest → IsOn g g i j f (close_by g q m k) text rest
allowing g i j f m k text rest p q e on = subst (λ v. IsOn g g i j f (close_by g v m k) text rest) e on

-- behind a name
pub ended_name : (x : Token) (xs : List Token) → is_name (sort_of x.kind) ≡ true → IsEnded (x ∷ xs) → IsEnded xs
ended_name x xs stands e = ended_other x xs e (λ same. no_name (subst (λ v. is_name v ≡ true) same stands))
  where
    no_name : is_name (tokens.mark tokens.end) ≡ true → ⊥
    no_name e = cc

-- a suffix that is no index, no call and no member is a step
pub step_left : (s : Sort) → is_suffix s ≡ true → is_mark tokens.bracket s ≡ false → is_mark tokens.opening s ≡ false → is_mark tokens.member s ≡ false → s ≡ tokens.mark tokens.step
step_left (tokens.mark tokens.step) e a b d = refl
step_left (tokens.mark tokens.bracket) e a b d = absurd cc
step_left (tokens.mark tokens.opening) e a b d = absurd cc
step_left (tokens.mark tokens.member) e a b d = absurd cc
step_left _ e a b d = absurd cc
