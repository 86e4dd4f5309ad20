-- The steps of the readers of initialisers, over plain variables.
use Rattle.std.proofs.Common.{◌≡◌, ℕ, ◌+◌, ◌-◌, ◌≤◌, ◌<◌, Bool, true, false, List, [], ◌∷◌, ◌++◌, length, Some, refl, ap, arith}
use Rattle.std.specs.Prelude.{◌||◌, if◌then◌else◌}
use Rattle.sp_tree.specs.declared.token.Token.{Token}
use Rattle.sp_parse_trees.specs.Syntax.{Init}
use Rattle.sp_parse_trees.specs.View.{inits}
use Rattle.sp_parse_trees.specs.Depth.{inits_depth}
use Rattle.sp_parse_grammar.specs.CTokens as tokens
use Rattle.sp_parse_grammar.specs.CTokens.{view, is_mark}
use Rattle.sp_parse_grammar.specs.CTable as grammar
use Rattle.sp_parse_grammar.specs.CTable.{Context, at, c_symbols, get, next, close_by, begins_expression}
use Rattle.sp_parse_grammar.specs.CTrees.{TokenOf}
use Rattle.sp_parse_grammar.specs.Table.{Plan, done}
use Rattle.sp_parse_grammar.specs.Depth.{Nests}
use Rattle.sp_parse_tokens.specs.Sorts.{terminal, sort_of, c_tokens}
use Rattle.sp_parse_tokens.specs.SyntaxTrees.{syntax_trees, c_table}
use Rattle.sp_parse_tokens.specs.Depths.{c_depths}
use Rattle.sp_parse_tokens.specs.Ended.{IsEnded}
use Rattle.sp_parse_tokens.specs.Expecting.{IsExpected}
use Rattle.sp_parse_tokens.specs.Scopes.{there, allowed_seen}
use Rattle.sp_parse_tokens.specs.declared.scope.AlsoAllowed.{AlsoAllowed}
use Rattle.sp_parse_tokens.specs.declared.scope.Scope.{Scope}
use Rattle.sp_parse_expr_steps.specs.Reading.{IsRead, IsStep}
use Rattle.sp_parse_expr_steps.proofs.Steps.{got, last, finished}
use Rattle.sp_parse_expr_steps.proofs.Parts.{IsOn, on_mark}
use Rattle.sp_parse_expr_steps.proofs.ExpressionSteps.{built, first_same, first_taken, first_deep}
use Rattle.sp_parse_expr_steps.proofs.ListSteps.{choice_ends, choice_on, choice_taken}
use Rattle.sp_parse_expr_steps.proofs.Suffixes.{allowing}
use Rattle.sp_parse_declarations.specs.Taking.{IsTaken}

abbrev Tree : Type 0
Tree = grammar.Operand syntax_trees

abbrev Listed : Type 0
Listed = grammar.Inits syntax_trees

-- ---- one initialiser

abbrev pub single_plan : (g : Context) → Plan (c_symbols syntax_trees) (at g grammar.init)
single_plan g = get g (grammar.level 12) (λ o. done (syntax_trees.single o.tree))

abbrev pub braced_done : (g : Context) (x : TokenOf syntax_trees) (r : Listed) → TokenOf syntax_trees → Plan (c_symbols syntax_trees) (at g grammar.init)
braced_done g x r z = done (syntax_trees.listed x r.all r.comma)

abbrev pub braced_close : (g : Context) (x : TokenOf syntax_trees) (r : Listed) → Plan (c_symbols syntax_trees) (at g grammar.init)
braced_close g x r = close_by g (if r.comma then grammar.for_name else grammar.plainly) tokens.unbrace (braced_done g x r)

abbrev pub braced_more : (g : Context) (x : TokenOf syntax_trees) (i : Init) → Plan (c_symbols syntax_trees) (at g grammar.init)
braced_more g x i = get g (grammar.inits (i ∷ [])) (braced_close g x)

abbrev pub braced_plan : (g : Context) (x : TokenOf syntax_trees) → Plan (c_symbols syntax_trees) (at g grammar.init)
braced_plan g x = get g grammar.init (braced_more g x)

module _ (g : Context) (text xs : List Token) (x : Token) (e : text ≡ x ∷ xs) where
  pub single_on : is_mark tokens.brace (view g.types (sort_of x.kind)) ≡ false → IsOn g g grammar.init grammar.init (λ a. a) (single_plan g) text text
  single_on other = first_same g grammar.init text xs x (view g.types (sort_of x.kind)) e refl (single_plan g) (ap (λ b. if b then Some (next (λ y. braced_plan g (terminal x))) else Some (single_plan g)) other)

  pub single_read : (d n : ℕ) (rest : List Token) (o : Tree) (made : Init) → is_mark tokens.brace (view g.types (sort_of x.kind)) ≡ false → 2 ≤ d → IsRead g (grammar.level 12) (d - 1) text o n rest → made ≡ syntax_trees.single o.tree → IsTaken g grammar.init d text made (1 + n) rest
  single_read d n rest o made other room h same = record {
    read = built g grammar.init d (1 + n) text rest (syntax_trees.single o.tree) made (finished (got (single_on other) h.reads)) same (ap (λ k. 1 + k) h.deep) (omega (arith, h.shallow, room)) h.ended (omega (arith, h.fewer));
    fewer = omega (arith, h.fewer);
  }

  pub braced_on : tokens.mark tokens.brace ≡ view g.types (sort_of x.kind) → IsOn g g grammar.init grammar.init (λ a. a) (braced_plan g (terminal x)) text xs
  braced_on is = first_taken g grammar.init text xs x (tokens.mark tokens.brace) e is (λ y. braced_plan g (terminal x)) refl

  pub braced_deep : (d : ℕ) → tokens.mark tokens.brace ≡ view g.types (sort_of x.kind) → d < 3 → Nests c_table c_depths (at g grammar.init) d (c_tokens text) (c_tokens text)
  braced_deep d is less = first_deep g grammar.init text xs x (tokens.mark tokens.brace) e is d (λ y. braced_plan g (terminal x)) refl less

pub braced_read : (types : List ℕ) (scope : Scope) (d m n : ℕ) (text xs mid last_tokens rest : List Token) (x : Token) (first : Init) (r : Listed) (made : Init) (p : AlsoAllowed) → text ≡ x ∷ xs → tokens.mark tokens.brace ≡ view types (sort_of x.kind) → 2 ≤ d → IsTaken (there types scope) grammar.init (d - 1) xs first m mid → IsRead (there types scope) (grammar.inits (first ∷ [])) (d - 1) mid r n last_tokens → (if r.comma then grammar.for_name else grammar.plainly) ≡ allowed_seen p → IsExpected types tokens.unbrace last_tokens rest → made ≡ syntax_trees.listed (terminal x) r.all r.comma → IsTaken (there types scope) grammar.init d text made (1 + n) rest
braced_read types scope d m n text xs mid last_tokens rest x first r made p e is room h w also_allowed closes same =
    let g = there types scope in
    let on = got (got (braced_on g text xs x e is) h.read.reads) w.reads in
    let here = allowing g grammar.init grammar.init (λ a. a) tokens.unbrace (braced_done g (terminal x) r) text last_tokens (if r.comma then grammar.for_name else grammar.plainly) (allowed_seen p) also_allowed on in
    let begun : length text ≡ length (x ∷ xs) = ap length e in
    let less : length last_tokens ≡ length (closes.first ∷ rest) = ap length closes.whole in
    record {
      read = built g grammar.init d (1 + n) text rest (syntax_trees.listed (terminal x) r.all r.comma) made (finished (on_mark types scope g grammar.init grammar.init (λ v. v) tokens.unbrace p (braced_done g (terminal x) r) g text last_tokens rest here closes)) same (ap (λ k. 1 + k) w.deep) (omega (arith, w.shallow, room)) closes.ended (omega (arith, begun, h.fewer, w.fewer, less));
      fewer = omega (arith, begun, h.fewer, w.fewer, less);
    }

-- ---- lists of initialisers

abbrev pub listed : List Init → Bool → Listed
listed is b = record { all = is; comma = b }

abbrev pub inits_more : (g : Context) (is : List Init) (i : Init) → Plan (c_symbols syntax_trees) (at g (grammar.behind_init_comma is))
inits_more g is i = get g (grammar.inits (is ++ i ∷ [])) (λ r. done r)

module _ (g : Context) (first is : List Init) (text rest xs : List Token) (x : Token) (step : IsStep g (grammar.inits first) (grammar.inits is) (λ a. a) text rest) (e : rest ≡ x ∷ xs) where
  pub inits_end : (d n : ℕ) → is_mark tokens.comma (view g.types (sort_of x.kind)) ≡ false → n ≡ inits_depth (inits is) → n ≤ d → IsEnded rest → length rest ≤ length text → IsRead g (grammar.inits first) d text (listed is false) n rest
  inits_end d n other deep shallow ended fewer =
      built g (grammar.inits first) d n text rest (listed is false) (listed is false) (choice_ends g (grammar.inits first) (grammar.inits is) (λ a. a) text rest xs x step e (is_mark tokens.comma (view g.types (sort_of x.kind))) (listed is false) (next (λ y. get g (grammar.behind_init_comma is) (λ r. done r))) refl other) refl deep shallow ended (omega (arith, fewer))

  pub inits_comma : is_mark tokens.comma (view g.types (sort_of x.kind)) ≡ true → IsStep g (grammar.inits first) (grammar.behind_init_comma is) (λ a. a) text xs
  inits_comma stands = last (choice_taken g (grammar.inits first) (grammar.inits is) (λ a. a) text rest xs x step e (is_mark tokens.comma (view g.types (sort_of x.kind))) (listed is false) (λ y. get g (grammar.behind_init_comma is) (λ r. done r)) refl stands)

-- behind a comma
module _ (g : Context) (first is : List Init) (text rest xs : List Token) (x : Token) (step : IsStep g (grammar.inits first) (grammar.behind_init_comma is) (λ a. a) text rest) (e : rest ≡ x ∷ xs) where
  pub inits_last : (d n : ℕ) → (is_mark tokens.brace (view g.types (sort_of x.kind)) || begins_expression (view g.types (sort_of x.kind))) ≡ false → n ≡ inits_depth (inits is) → n ≤ d → IsEnded rest → length rest ≤ length text → IsRead g (grammar.inits first) d text (listed is true) n rest
  inits_last d n other deep shallow ended fewer =
      built g (grammar.inits first) d n text rest (listed is true) (listed is true) (choice_ends g (grammar.inits first) (grammar.behind_init_comma is) (λ a. a) text rest xs x step e (is_mark tokens.brace (view g.types (sort_of x.kind)) || begins_expression (view g.types (sort_of x.kind))) (listed is true) (get g grammar.init (inits_more g is)) refl other) refl deep shallow ended (omega (arith, fewer))

  pub inits_on : (is_mark tokens.brace (view g.types (sort_of x.kind)) || begins_expression (view g.types (sort_of x.kind))) ≡ true → IsOn g g (grammar.inits first) (grammar.behind_init_comma is) (λ a. a) (get g grammar.init (inits_more g is)) text rest
  inits_on stands = choice_on g (grammar.inits first) (grammar.behind_init_comma is) (λ a. a) text rest xs x step e (is_mark tokens.brace (view g.types (sort_of x.kind)) || begins_expression (view g.types (sort_of x.kind))) (listed is true) (get g grammar.init (inits_more g is)) refl stands
