-- What a reader answers where the table reads on no further, and what a part's answer is for the ask whose last part it is.
use Rattle.std.proofs.Common.{◌≡◌, ℕ, ◌+◌, ◌≤◌, true, false, List, [], ◌∷◌, length, Some, None, Result, Ok, Err, refl, sym, ap, ◌∙◌, subst, arith}
use Rattle.std.specs.Prelude.{MatchResult}
use Rattle.sp_tree.specs.declared.fault.FaultKind.{FaultKind}
use Rattle.sp_tree.specs.declared.token.Token.{Token}
use Rattle.sp_parse_tokens.specs.declared.scope.Scope.{Scope}
use Rattle.sp_parse_tokens.specs.declared.scope.AlsoAllowed.{AlsoAllowed}
use Rattle.sp_parse_tokens.specs.declared.part.Part.{Part}
use Rattle.sp_parse_tokens.specs.declared.part.ReadError.{ReadError}
use Rattle.sp_parse_tokens.specs.declared.part.ReadError.TheVariants as stops
use Rattle.sp_parse_trees.specs.declared.tree.Expr.{Expr}
use Rattle.sp_parse_trees.specs.View.{tree_of}
use Rattle.sp_parse_grammar.specs.CTokens as tokens
use Rattle.sp_parse_grammar.specs.CTokens.{Sort, view, is_mark}
use Rattle.sp_parse_grammar.specs.CTable as grammar
use Rattle.sp_parse_grammar.specs.CTable.{Context, Item, ItemAnswer, at, plan, c_symbols, next}
use Rattle.sp_parse_grammar.specs.CTrees.{TokenOf}
use Rattle.sp_parse_grammar.specs.Table.{Plan, ask, Fails, asked}
use Rattle.sp_parse_tokens.specs.Sorts.{c_tokens, terminal, sort_of}
use Rattle.sp_parse_tokens.specs.SyntaxTrees.{syntax_trees, c_table}
use Rattle.sp_parse_tokens.specs.Depths.{item_depth, item_least}
use Rattle.sp_parse_tokens.specs.Faults.{Wanted, fault_there, sort_there}
use Rattle.sp_parse_tokens.specs.Ended.{IsEnded}
use Rattle.sp_parse_tokens.specs.Scopes.{there, kind_for}
use Rattle.sp_parse_expr_steps.specs.Reading.{kind_at, IsRead, IsStop, IsStep, taken, is_operand, is_prefix}
use Rattle.sp_parse_tokens.specs.Expecting.{IsFaultFor, kind_of_first}
use Rattle.sp_parse_expr_steps.proofs.Steps.{unread}
use Rattle.sp_parse_expr_steps.proofs.Parts.{stop_before}
use Rattle.sp_parse_expr_steps.proofs.ExpressionSteps.{read_before}

module _ (types : List ℕ) (scope : Scope) (p : AlsoAllowed) (w : Wanted) where
  kind_first : ((x : Token) → kind_for scope p (view types (sort_of x.kind)) ≡ fault_there w (sort_there w x)) → (text : List Token) (kind : FaultKind) → kind_of_first types scope p text kind → kind ≡ kind_at w text
  kind_first same [] kind e = absurd e
  kind_first same (x ∷ xs) kind e = e ∙ same x

  -- the fault at the tokens at which the reading fails
  pub stop_at : (g : Context) (i : Item syntax_trees) (d : ℕ) (text rest : List Token) → Fails c_table (at g i) (ask (at g i)) (c_tokens text) w (c_tokens rest) → ((x : Token) → kind_for scope p (view types (sort_of x.kind)) ≡ fault_there w (sort_there w x)) → IsEnded rest → (s : ReadError) → IsFaultFor types scope p rest s → IsStop g i d text s
  stop_at g i d text rest fails same ended (stops.Fault kind bad) f =
      let now : bad.now ≡ rest = f.0 in
      (w, subst (λ v. Fails c_table (at g i) (ask (at g i)) (c_tokens text) w (c_tokens v)) (sym now) fails, kind_first same rest kind f.1 ∙ ap (kind_at w) (sym now), subst IsEnded (sym now) ended)
  stop_at g i d text rest fails same ended (stops.TooDeep bad) f = absurd f
  stop_at g i d text rest fails same ended stops.NoMemory f = absurd f

-- no production begins with the token
pub stop_unread : (types : List ℕ) (scope : Scope) (p : AlsoAllowed) (i j : Item syntax_trees) (f : ItemAnswer j → ItemAnswer i) (d : ℕ) (text rest xs : List Token) (x : Token) → IsStep (there types scope) i j f text rest → rest ≡ x ∷ xs → plan (there types scope) j (terminal x) (view types (sort_of x.kind)) ≡ None → ((y : Token) → kind_for scope p (view types (sort_of y.kind)) ≡ fault_there (asked (at (there types scope) j)) (view types (sort_of y.kind))) → IsEnded rest → (s : ReadError) → IsFaultFor types scope p rest s → IsStop (there types scope) i d text s
stop_unread types scope p i j f d text rest xs x step e none same ended s h =
    stop_at types scope p (asked (at (there types scope) j)) (there types scope) i d text rest (unread step (ap c_tokens e) none) same ended s h

-- ---- answers, moved outwards

pub result_before : {T : Type 0} (g : Context) (i j : Item syntax_trees) (f : ItemAnswer j → ItemAnswer i) (v : T → ItemAnswer j) (d : ℕ) (text rest : List Token) → IsStep g i j f text rest → ((a : ItemAnswer j) → item_depth j a ≡ item_depth i (f a)) → taken i + length rest ≤ taken j + length text → (r : Result (Part T) ReadError)
    → MatchResult r (λ part. IsRead g j d rest (v part.tree) part.depth part.rest.now) (IsStop g j d rest)
    → MatchResult r (λ part. IsRead g i d text (f (v part.tree)) part.depth part.rest.now) (IsStop g i d text)
result_before g i j f v d text rest step same less (Ok part) h = read_before g i j f d part.depth text rest part.rest.now (v part.tree) step h (same (v part.tree)) (omega (arith, less, h.fewer))
result_before g i j f v d text rest step same less (Err s) h = stop_before g i j f d text rest step s h

-- ---- primary expressions

pub primary_none : (g : Context) (x : TokenOf syntax_trees) (s : Sort) → is_operand s ≡ false → is_mark tokens.opening s ≡ false → plan {t = syntax_trees} g grammar.primary x s ≡ None
primary_none g x (tokens.name n) a b = absurd cc
primary_none g x tokens.constant a b = absurd cc
primary_none g x tokens.text a b = absurd cc
primary_none g x (tokens.mark tokens.opening) a b = absurd cc
primary_none g x _ a b = refl

-- the first token is taken, and this deep the answer is at least
pub record Begins (g : Context) (i : Item syntax_trees) (x : TokenOf syntax_trees) (s : Sort) (least : ℕ) : Type 0 where
  pub body : TokenOf syntax_trees → Plan (c_symbols syntax_trees) (at g i)
  pub chosen : plan g i x s ≡ Some (next body)
  pub deep : item_least g i s ≡ least

pub operand_begins : (g : Context) (x : TokenOf syntax_trees) (s : Sort) → is_operand s ≡ true → Begins g grammar.primary x s 1
operand_begins g x (tokens.name n) a = record { body = _; chosen = refl; deep = refl }
operand_begins g x tokens.constant a = record { body = _; chosen = refl; deep = refl }
operand_begins g x tokens.text a = record { body = _; chosen = refl; deep = refl }
operand_begins g x _ a = absurd cc

pub prefix_begins : (g : Context) (x : TokenOf syntax_trees) (s : Sort) → is_prefix s ≡ true → Begins g grammar.unary x s 2
prefix_begins g x (tokens.mark tokens.sizeof) a = record { body = _; chosen = refl; deep = refl }
prefix_begins g x (tokens.mark tokens.step) a = record { body = _; chosen = refl; deep = refl }
prefix_begins g x (tokens.mark tokens.star) a = record { body = _; chosen = refl; deep = refl }
prefix_begins g x (tokens.mark tokens.ampersand) a = record { body = _; chosen = refl; deep = refl }
prefix_begins g x (tokens.mark tokens.additive) a = record { body = _; chosen = refl; deep = refl }
prefix_begins g x (tokens.mark tokens.tilde) a = record { body = _; chosen = refl; deep = refl }
prefix_begins g x _ a = absurd cc

-- a name, a constant or strings, in whatever depth there is
pub leaf_result : (g : Context) (d : ℕ) (text rest : List Token) (x : Token) → text ≡ x ∷ rest → 1 ≤ d → (r : Result (Part Expr) ReadError)
    → MatchResult r (λ part. IsRead g grammar.primary 1 (x ∷ rest) (tree_of part.tree) part.depth part.rest.now) (λ stop. stop ≡ stops.NoMemory)
    → MatchResult r (λ part. IsRead g grammar.primary d text (tree_of part.tree) part.depth part.rest.now) (IsStop g grammar.primary d text)
leaf_result g d text rest x e less (Ok part) h =
    subst (λ v. IsRead g grammar.primary d v (tree_of part.tree) part.depth part.rest.now) (sym e) (record { reads = h.reads; deep = h.deep; shallow = omega (arith, h.shallow, less); ended = h.ended; fewer = h.fewer })
leaf_result g d text rest x e less (Err s) h = subst (λ v. IsStop g grammar.primary d text v) (sym h) tt
