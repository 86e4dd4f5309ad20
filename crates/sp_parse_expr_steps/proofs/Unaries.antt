-- The readers of unary expressions and of `sizeof`, over plain variables.
use Rattle.std.proofs.Common.{◌≡◌, ℕ, ◌+◌, ◌-◌, ◌≤◌, true, false, List, ◌∷◌, length, Some, Result, Ok, Err, refl, ap, ◌∙◌, arith}
use Rattle.std.specs.Prelude.{MatchResult, if◌then◌else◌}
use Rattle.sp_tree.specs.declared.token.Token.{Token}
use Rattle.sp_parse_trees.specs.declared.tree.Expr.{Expr}
use Rattle.sp_parse_trees.specs.Depth.{depth as depth_of}
use Rattle.sp_parse_trees.specs.Syntax as syntax
use Rattle.sp_parse_trees.specs.Syntax.{Expression, TypeName, expression}
use Rattle.sp_parse_trees.specs.View.{tree_of}
use Rattle.sp_parse_tokens.specs.declared.part.Part.{Part}
use Rattle.sp_parse_tokens.specs.declared.part.ReadError.{ReadError}
use Rattle.sp_parse_tokens.specs.declared.scope.AlsoAllowed.{AlsoAllowed}
use Rattle.sp_parse_tokens.specs.declared.scope.Scope.{Scope}
use Rattle.sp_parse_tokens.proofs.Settled.{settle_type_depth}
use Rattle.sp_parse_grammar.specs.CTokens as tokens
use Rattle.sp_parse_grammar.specs.CTokens.{is_specifier, view}
use Rattle.sp_parse_grammar.specs.CTable as grammar
use Rattle.sp_parse_grammar.specs.CTable.{Context, get}
use Rattle.sp_parse_grammar.specs.Table.{done}
use Rattle.sp_parse_tokens.specs.Expecting.{IsExpected, IsUnexpected}
use Rattle.sp_parse_tokens.specs.Sorts.{c_tokens, terminal, sort_of}
use Rattle.sp_parse_tokens.specs.SyntaxTrees.{syntax_trees}
use Rattle.sp_parse_tokens.specs.Scopes.{there}
use Rattle.sp_parse_expr_steps.specs.Reading.{IsRead, IsStop, IsStep, IsGrouped, IsGroupedStop, IsTypeName}
use Rattle.sp_parse_expr_steps.proofs.Steps.{enter, got, last, finished}
use Rattle.sp_parse_expr_steps.proofs.Parts.{IsOn, chosen, stop_before, stop_part, stop_mark, on_mark}
use Rattle.sp_parse_expr_steps.proofs.ExpressionSteps.{built, read_before, first_taken}
use Rattle.sp_parse_expr_steps.proofs.Parentheses.{grouped_plan, grouped_stop, grouped_reads, settled_at, sizeof_open, sizeof_type_plan, sizeof_group_plan, sizeof_group_on, sizeof_closing}

sizeof_step : (g : Context) (text rest : List Token) (x : Token) → text ≡ x ∷ rest → tokens.mark tokens.sizeof ≡ view g.types (sort_of x.kind) → IsStep g grammar.unary (grammar.behind_sizeof (terminal x)) (λ e. e) text rest
sizeof_step g text rest x e is = last (first_taken g grammar.unary text rest x (tokens.mark tokens.sizeof) e is (λ y. get g (grammar.behind_sizeof (terminal x)) (λ v. done v)) refl)

pub unary_sizeof : (types : List ℕ) (scope : Scope) (d : ℕ) (text rest : List Token) (x : Token) → text ≡ x ∷ rest → tokens.mark tokens.sizeof ≡ view types (sort_of x.kind) → (r : Result (Part Expr) ReadError)
    → MatchResult r (λ part. IsRead (there types scope) (grammar.behind_sizeof (terminal x)) d rest (tree_of part.tree) part.depth part.rest.now) (IsStop (there types scope) (grammar.behind_sizeof (terminal x)) d rest)
    → MatchResult r (λ part. IsRead (there types scope) grammar.unary d text (tree_of part.tree) part.depth part.rest.now) (IsStop (there types scope) grammar.unary d text)
unary_sizeof types scope d text rest x e is (Ok part) h =
    let same : length text ≡ length (x ∷ rest) = ap length e in
    read_before (there types scope) grammar.unary (grammar.behind_sizeof (terminal x)) (λ v. v) d part.depth text rest part.rest.now (tree_of part.tree) (sizeof_step (there types scope) text rest x e is) h refl (omega (arith, h.fewer, same))
unary_sizeof types scope d text rest x e is (Err s) h = stop_before (there types scope) grammar.unary (grammar.behind_sizeof (terminal x)) (λ v. v) d text rest (sizeof_step (there types scope) text rest x e is) s h

-- ---- behind `sizeof (`

module _ (types : List ℕ) (scope : Scope) (d : ℕ) (text rest xs : List Token) (w y x : Token) (e : text ≡ y ∷ rest) (is : tokens.mark tokens.opening ≡ view types (sort_of y.kind)) (first : rest ≡ x ∷ xs) (room : 2 ≤ d) where
  sizeof_inside : IsStep (there types scope) (grammar.behind_sizeof (terminal w)) (grammar.inside_sizeof (terminal w) (terminal y)) (λ v. v) text rest
  sizeof_inside = sizeof_open (there types scope) (terminal w) text rest y e is

  module _ (other : is_specifier (view types (sort_of x.kind)) ≡ false) where
    sizeof_group : IsOn (there types scope) (there types scope) (grammar.inside_sizeof (terminal w) (terminal y)) (grammar.inside_sizeof (terminal w) (terminal y)) (λ a. a) (grouped_plan (there types scope) (grammar.inside_sizeof (terminal w) (terminal y)) (λ f. syntax_trees.sizeof_expr (terminal w) f) (terminal y)) rest rest
    sizeof_group = sizeof_group_on (there types scope) (terminal w) (terminal y) rest xs x first other

    pub sizeof_group_stop : (s : ReadError) → IsGroupedStop (there types scope) scope y (d - 1) rest s → IsStop (there types scope) (grammar.behind_sizeof (terminal w)) d text s
    sizeof_group_stop s h =
        stop_before (there types scope) (grammar.behind_sizeof (terminal w)) (grammar.inside_sizeof (terminal w) (terminal y)) (λ v. v) d text rest sizeof_inside s
        (grouped_stop types scope (grammar.inside_sizeof (terminal w) (terminal y)) (λ f. syntax_trees.sizeof_expr (terminal w) f) y d (d - 1) rest rest sizeof_group (omega (arith, room)) (λ v. omega (arith, room)) s h)

    pub sizeof_group_read : (f made : Expression) (n : ℕ) (now : List Token) → made ≡ syntax_trees.sizeof_expr (terminal w) f → IsGrouped (there types scope) y (d - 1) rest f n now → IsRead (there types scope) (grammar.behind_sizeof (terminal w)) d text made (1 + n) now
    sizeof_group_read f made n now makes h =
        let same : length text ≡ length (y ∷ rest) = ap length e in
        let inside = grouped_reads types scope (grammar.inside_sizeof (terminal w) (terminal y)) (λ v. syntax_trees.sizeof_expr (terminal w) v) y d (d - 1) rest rest sizeof_group f n now h in
        built (there types scope) (grammar.behind_sizeof (terminal w)) d (1 + n) text now (syntax_trees.sizeof_expr (terminal w) f) made (sizeof_inside.reads (syntax_trees.sizeof_expr (terminal w) f) (c_tokens now) inside) makes (ap (λ v. 1 + v) h.more.deep) (omega (arith, h.more.shallow, room)) h.more.ended (omega (arith, h.fewer, same))

  module _ (stands : is_specifier (view types (sort_of x.kind)) ≡ true) where
    sizeof_type : IsOn (there types scope) (there types scope) (grammar.behind_sizeof (terminal w)) (grammar.inside_sizeof (terminal w) (terminal y)) (λ v. v) (sizeof_type_plan (there types scope) (terminal w) (terminal y)) text rest
    sizeof_type = enter sizeof_inside (ap c_tokens first) (chosen (there types scope) (grammar.inside_sizeof (terminal w) (terminal y)) x (view types (sort_of x.kind)) (Some (sizeof_type_plan (there types scope) (terminal w) (terminal y))) refl (ap (λ b. if b then Some (sizeof_type_plan (there types scope) (terminal w) (terminal y)) else Some (sizeof_group_plan (there types scope) (terminal w) (terminal y))) stands))

    pub sizeof_type_stop : (s : ReadError) → IsStop (there types scope) grammar.type_name (d - 1) rest s → IsStop (there types scope) (grammar.behind_sizeof (terminal w)) d text s
    sizeof_type_stop s h = stop_part (there types scope) (there types scope) (there types scope) (grammar.behind_sizeof (terminal w)) (grammar.inside_sizeof (terminal w) (terminal y)) grammar.type_name (λ v. v) (sizeof_closing (there types scope) (terminal w) (terminal y)) d (d - 1) text rest sizeof_type (omega (arith, room)) s h

    module _ (name : TypeName) (p : AlsoAllowed) (n : ℕ) (mid : List Token) (h : IsTypeName (there types scope) (d - 1) rest name p n mid) where
      pub sizeof_unclosed : (s : ReadError) → IsUnexpected types scope tokens.closing p mid s → IsStop (there types scope) (grammar.behind_sizeof (terminal w)) d text s
      sizeof_unclosed s u = stop_mark types scope (there types scope) (grammar.behind_sizeof (terminal w)) (grammar.inside_sizeof (terminal w) (terminal y)) (λ v. v) tokens.closing p (λ z. done (syntax_trees.sizeof_type (terminal w) h.pending z)) (there types scope) d text mid (got sizeof_type h.read.reads) h.read.ended s u

      pub sizeof_type_read : (made : Expression) (now : List Token) → made ≡ expression (syntax.sizeof_type name) w.place w.place → IsExpected types tokens.closing mid now → IsRead (there types scope) (grammar.behind_sizeof (terminal w)) d text made (1 + n) now
      sizeof_type_read made now makes closes =
          let same : length text ≡ length (y ∷ rest) = ap length e in
          let less : length mid ≡ length (closes.first ∷ now) = ap length closes.whole in
          let settled = settled_at mid now name h.pending closes.first h.settled closes.whole in
          let behind = on_mark types scope (there types scope) (grammar.behind_sizeof (terminal w)) (grammar.inside_sizeof (terminal w) (terminal y)) (λ v. v) tokens.closing p (λ z. done (syntax_trees.sizeof_type (terminal w) h.pending z)) (there types scope) text mid now (got sizeof_type h.read.reads) closes in
          let deep : 1 + n ≡ depth_of (syntax_trees.sizeof_type (terminal w) h.pending (terminal closes.first)) = omega (arith, h.read.deep, settle_type_depth closes.first.place h.pending) in
          built (there types scope) (grammar.behind_sizeof (terminal w)) d (1 + n) text now (syntax_trees.sizeof_type (terminal w) h.pending (terminal closes.first)) made (finished behind) (makes ∙ ap (λ v. expression (syntax.sizeof_type v) w.place w.place) settled) deep (omega (arith, h.read.shallow, room)) closes.ended (omega (arith, h.read.fewer, less, same))
