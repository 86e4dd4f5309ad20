-- The reader of casts, over plain variables.
use Rattle.std.proofs.Common.{◌≡◌, ℕ, ◌+◌, ◌-◌, ◌≤◌, true, false, List, ◌∷◌, length, Some, refl, sym, ap, ◌∙◌, subst, arith}
use Rattle.std.specs.Prelude.{max, if◌then◌else◌}
use Rattle.sp_tree.specs.declared.token.Token.{Token}
use Rattle.sp_parse_trees.specs.Depth.{depth as depth_of}
use Rattle.sp_parse_trees.specs.Syntax as syntax
use Rattle.sp_parse_trees.specs.Syntax.{Expression, TypeName, expression}
use Rattle.sp_parse_tokens.specs.declared.part.ReadError.{ReadError}
use Rattle.sp_parse_tokens.specs.declared.scope.AlsoAllowed.{AlsoAllowed}
use Rattle.sp_parse_tokens.specs.declared.scope.Scope.{Scope}
use Rattle.sp_parse_tokens.proofs.Settled.{settle_type_depth}
use Rattle.sp_parse_grammar.specs.CTokens as tokens
use Rattle.sp_parse_grammar.specs.CTokens.{view, is_mark, is_specifier}
use Rattle.sp_parse_grammar.specs.CTable as grammar
use Rattle.sp_parse_grammar.specs.CTable.{Context, get, next}
use Rattle.sp_parse_grammar.specs.Table.{done}
use Rattle.sp_parse_tokens.specs.Expecting.{IsExpected, IsUnexpected}
use Rattle.sp_parse_tokens.specs.Sorts.{c_tokens, terminal, sort_of}
use Rattle.sp_parse_tokens.specs.SyntaxTrees.{syntax_trees}
use Rattle.sp_parse_tokens.specs.Scopes.{there}
use Rattle.sp_parse_expr_steps.specs.Reading.{IsRead, IsStop, IsStep, IsGrouped, IsGroupedStop, IsTypeName}
use Rattle.sp_parse_expr_steps.proofs.Steps.{enter, got, last, finished}
use Rattle.sp_parse_expr_steps.proofs.Parts.{IsOn, chosen, stop_before, stop_part, stop_mark, on_mark}
use Rattle.sp_parse_expr_steps.proofs.ExpressionSteps.{built, read_before, first_same, first_taken}
use Rattle.sp_parse_expr_steps.proofs.Parentheses.{cast_plan, cast_closing, cast_operand, group_plan, group_on, grouped_plan, grouped_stop, grouped_reads, settled_at}

pub cast_unary : (g : Context) (text rest : List Token) (x : Token) → text ≡ x ∷ rest → is_mark tokens.opening (view g.types (sort_of x.kind)) ≡ false → IsStep g (grammar.level 0) grammar.unary (λ e. grammar.operand e true) text text
cast_unary g text rest x e other =
    last (first_same g (grammar.level 0) text rest x (view g.types (sort_of x.kind)) e refl (get g grammar.unary (λ v. done (grammar.operand v true)))
    (ap (λ b. if b then Some (next (λ y. get g (grammar.behind_open (terminal x)) (λ o. done o))) else Some (get g grammar.unary (λ v. done (grammar.operand v true)))) other))

open_step : (g : Context) (text rest : List Token) (x : Token) → text ≡ x ∷ rest → tokens.mark tokens.opening ≡ view g.types (sort_of x.kind) → IsStep g (grammar.level 0) (grammar.behind_open (terminal x)) (λ o. o) text rest
open_step g text rest x e is = last (first_taken g (grammar.level 0) text rest x (tokens.mark tokens.opening) e is (λ y. get g (grammar.behind_open (terminal x)) (λ o. done o)) refl)

-- the same reading, otherwise written
pub operand_read : (g : Context) (d m n : ℕ) (text now rest : List Token) (a b : grammar.Operand syntax_trees) → b ≡ a → n ≡ m → rest ≡ now → IsRead g (grammar.level 0) d text a m now → IsRead g (grammar.level 0) d text b n rest
operand_read g d m n text now rest a b tree deep behind h =
    subst (λ v. IsRead g (grammar.level 0) d text v n rest) (sym tree) (subst (λ v. IsRead g (grammar.level 0) d text a v rest) (sym deep) (subst (λ v. IsRead g (grammar.level 0) d text a m v) (sym behind) h))

-- a group with suffixes is an operand
module _ (types : List ℕ) (scope : Scope) (d : ℕ) (text rest xs : List Token) (y x : Token) (e : text ≡ y ∷ rest) (is : tokens.mark tokens.opening ≡ view types (sort_of y.kind)) (first : rest ≡ x ∷ xs) (other : is_specifier (view types (sort_of x.kind)) ≡ false) where
  group_step : IsOn (there types scope) (there types scope) (grammar.behind_open (terminal y)) (grammar.behind_open (terminal y)) (λ a. a) (grouped_plan (there types scope) (grammar.behind_open (terminal y)) (λ f. grammar.operand f true) (terminal y)) rest rest
  group_step = group_on (there types scope) (terminal y) rest xs x first other

  pub cast_group_stop : (s : ReadError) → IsGroupedStop (there types scope) scope y d rest s → IsStop (there types scope) (grammar.level 0) d text s
  cast_group_stop s h =
      stop_before (there types scope) (grammar.level 0) (grammar.behind_open (terminal y)) (λ o. o) d text rest (open_step (there types scope) text rest y e is) s
      (grouped_stop types scope (grammar.behind_open (terminal y)) (λ f. grammar.operand f true) y d d rest rest group_step (omega arith) (λ v. omega arith) s h)

  pub cast_group_read : (f : Expression) (n : ℕ) (now : List Token) → IsGrouped (there types scope) y d rest f n now → IsRead (there types scope) (grammar.level 0) d text (grammar.operand f true) n now
  cast_group_read f n now h =
      let same : length text ≡ length (y ∷ rest) = ap length e in
      let inside = built (there types scope) (grammar.behind_open (terminal y)) d n rest now (grammar.operand f true) (grammar.operand f true) (grouped_reads types scope (grammar.behind_open (terminal y)) (λ v. grammar.operand v true) y d d rest rest group_step f n now h) refl h.more.deep h.more.shallow h.more.ended (omega (arith, h.fewer)) in
      read_before (there types scope) (grammar.level 0) (grammar.behind_open (terminal y)) (λ o. o) d n text rest now (grammar.operand f true) (open_step (there types scope) text rest y e is) inside refl (omega (arith, h.fewer, same))

-- behind a type name in parentheses stands an operand
module _ (types : List ℕ) (scope : Scope) (d : ℕ) (text rest xs : List Token) (y x : Token) (e : text ≡ y ∷ rest) (is : tokens.mark tokens.opening ≡ view types (sort_of y.kind)) (first : rest ≡ x ∷ xs) (stands : is_specifier (view types (sort_of x.kind)) ≡ true) (room : 2 ≤ d) where
  cast_type : IsOn (there types scope) (there types scope) (grammar.level 0) (grammar.behind_open (terminal y)) (λ o. o) (cast_plan (there types scope) (terminal y)) text rest
  cast_type = enter (open_step (there types scope) text rest y e is) (ap c_tokens first) (chosen (there types scope) (grammar.behind_open (terminal y)) x (view types (sort_of x.kind)) (Some (cast_plan (there types scope) (terminal y))) refl (ap (λ b. if b then Some (cast_plan (there types scope) (terminal y)) else Some (group_plan (there types scope) (terminal y))) stands))

  pub cast_type_stop : (s : ReadError) → IsStop (there types scope) grammar.type_name (d - 1) rest s → IsStop (there types scope) (grammar.level 0) d text s
  cast_type_stop s h = stop_part (there types scope) (there types scope) (there types scope) (grammar.level 0) (grammar.behind_open (terminal y)) grammar.type_name (λ o. o) (cast_closing (there types scope) (terminal y)) d (d - 1) text rest cast_type (omega (arith, room)) s h

  module _ (name : TypeName) (p : AlsoAllowed) (n : ℕ) (mid : List Token) (h : IsTypeName (there types scope) (d - 1) rest name p n mid) where
    pub cast_unclosed : (s : ReadError) → IsUnexpected types scope tokens.closing p mid s → IsStop (there types scope) (grammar.level 0) d text s
    cast_unclosed s u = stop_mark types scope (there types scope) (grammar.level 0) (grammar.behind_open (terminal y)) (λ o. o) tokens.closing p (cast_operand (there types scope) (terminal y) h.pending) (there types scope) d text mid (got cast_type h.read.reads) h.read.ended s u

    module _ (now : List Token) (closes : IsExpected types tokens.closing mid now) where
      cast_on_operand : IsOn (there types scope) (there types scope) (grammar.level 0) (grammar.behind_open (terminal y)) (λ o. o) (cast_operand (there types scope) (terminal y) h.pending (terminal closes.first)) text now
      cast_on_operand = on_mark types scope (there types scope) (grammar.level 0) (grammar.behind_open (terminal y)) (λ o. o) tokens.closing p (cast_operand (there types scope) (terminal y) h.pending) (there types scope) text mid now (got cast_type h.read.reads) closes

      pub cast_operand_stop : (s : ReadError) → IsStop (there types scope) (grammar.level 0) (d - 1) now s → IsStop (there types scope) (grammar.level 0) d text s
      cast_operand_stop s u = stop_part (there types scope) (there types scope) (there types scope) (grammar.level 0) (grammar.behind_open (terminal y)) (grammar.level 0) (λ o. o) (λ o. done (grammar.operand (syntax_trees.cast (terminal y) h.pending (terminal closes.first) o.tree) false)) d (d - 1) text now cast_on_operand (omega (arith, room)) s u

      pub cast_read : (o : grammar.Operand syntax_trees) (m k : ℕ) (last : List Token) (made : Expression) → IsRead (there types scope) (grammar.level 0) (d - 1) now o m last → k ≡ max n m → made ≡ expression (syntax.cast name o.tree) y.place y.place → IsRead (there types scope) (grammar.level 0) d text (grammar.operand made false) (1 + k) last
      cast_read o m k last made w deeper makes =
          let same : length text ≡ length (y ∷ rest) = ap length e in
          let less : length mid ≡ length (closes.first ∷ now) = ap length closes.whole in
          let settled = settled_at mid now name h.pending closes.first h.settled closes.whole in
          let tree = syntax_trees.cast (terminal y) h.pending (terminal closes.first) o.tree in
          let deep : 1 + k ≡ depth_of tree = omega (arith, deeper, h.read.deep, w.deep, settle_type_depth closes.first.place h.pending) in
          built (there types scope) (grammar.level 0) d (1 + k) text last (grammar.operand tree false) (grammar.operand made false) (finished (got cast_on_operand w.reads)) (ap (λ v. grammar.operand v false) (makes ∙ ap (λ v. expression (syntax.cast v o.tree) y.place y.place) settled)) deep (omega (arith, deeper, h.read.shallow, w.shallow, room)) w.ended (omega (arith, h.read.fewer, w.fewer, less, same))
