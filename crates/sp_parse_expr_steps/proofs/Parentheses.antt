-- Parentheses, casts and `sizeof`, over plain variables.
use Rattle.std.proofs.Common.{◌≡◌, ℕ, ◌+◌, ◌-◌, ◌≤◌, ◌<◌, Bool, true, false, List, ◌∷◌, length, Some, Result, Ok, Err, inl, inr, refl, sym, ap, ◌∙◌, subst, arith}
use Rattle.std.specs.Prelude.{◌⊎◌, ◌||◌, MatchResult, if◌then◌else◌}
use Rattle.sp_parse_trees.specs.Depth.{depth as depth_of}
use Rattle.sp_parse_trees.specs.Syntax.{Expression, expression, TypeName}
use Rattle.sp_parse_trees.specs.View.{tree_of}
use Rattle.sp_parse_trees.specs.declared.tree.Expr.{Expr}
use Rattle.sp_parse_tokens.specs.Makers.{settle_type, first_place}
use Rattle.sp_tree.specs.declared.token.Token.{Token}
use Rattle.sp_parse_tokens.specs.declared.part.Part.{Part}
use Rattle.sp_parse_tokens.specs.declared.part.ReadError.{ReadError}
use Rattle.sp_parse_tokens.specs.declared.part.ReadError.TheVariants as stops
use Rattle.sp_parse_tokens.specs.declared.scope.Scope.{Scope}
use Rattle.sp_parse_tokens.specs.declared.scope.AlsoAllowed.TheVariants as also
use Rattle.sp_parse_grammar.specs.CTokens as tokens
use Rattle.sp_parse_grammar.specs.CTokens.{view, is_mark, is_specifier}
use Rattle.sp_parse_grammar.specs.CTable as grammar
use Rattle.sp_parse_grammar.specs.CTable.{Context, Item, ItemAnswer, at, c_symbols, plan, next, get, expect, close_by, operand}
use Rattle.sp_parse_grammar.specs.CTrees.{TokenOf}
use Rattle.sp_parse_grammar.specs.Table.{Plan, ask, Reads, done}
use Rattle.sp_parse_grammar.specs.Depth.{Nests}
use Rattle.sp_parse_tokens.specs.Sorts.{c_tokens, terminal, sort_of}
use Rattle.sp_parse_tokens.specs.SyntaxTrees.{syntax_trees, c_table}
use Rattle.sp_parse_tokens.specs.Depths.{c_depths, item_down}
use Rattle.sp_parse_tokens.specs.Expecting.{IsExpected}
use Rattle.sp_parse_tokens.specs.Scopes.{there}
use Rattle.sp_parse_expr_steps.specs.Reading.{IsRead, IsStop, IsStep, IsGrouped, IsGroupedStop, StopsAtParen, StopsBehindParen, is_prefix}
use Rattle.sp_parse_expr_steps.proofs.Steps.{got, last, finished, part_nests}
use Rattle.sp_parse_expr_steps.proofs.Marks.{opening_is}
use Rattle.sp_parse_expr_steps.proofs.Parts.{IsOn, stop_part, stop_mark, on_mark}
use Rattle.sp_parse_expr_steps.proofs.ExpressionSteps.{built, first_same, first_taken, first_deep}
use Rattle.sp_parse_expr_steps.proofs.Faulting.{prefix_begins}
use Rattle.sp_parse_expr_steps.proofs.Prefixes.{prefix_chosen, primary_chosen}

-- ---- behind a `(`: a cast, or a group with suffixes

abbrev pub cast_plan : (g : Context) (y : TokenOf syntax_trees) → Plan (c_symbols syntax_trees) (at g (grammar.behind_open y))
cast_plan g y = get g grammar.type_name (λ n. close_by g n.behind tokens.closing (λ z. get g (grammar.level 0) (λ o. done (operand (syntax_trees.cast y n.tree z o.tree) false))))

abbrev pub group_plan : (g : Context) (y : TokenOf syntax_trees) → Plan (c_symbols syntax_trees) (at g (grammar.behind_open y))
group_plan g y = get g (grammar.level 13) (λ o. expect g tokens.closing (λ z. get g (grammar.suffixes (syntax_trees.paren y o.tree)) (λ e. done (operand e true))))

abbrev pub sizeof_type_plan : (g : Context) (y z : TokenOf syntax_trees) → Plan (c_symbols syntax_trees) (at g (grammar.inside_sizeof y z))
sizeof_type_plan g y z = get g grammar.type_name (λ n. close_by g n.behind tokens.closing (λ w. done (syntax_trees.sizeof_type y n.tree w)))

abbrev pub sizeof_group_plan : (g : Context) (y z : TokenOf syntax_trees) → Plan (c_symbols syntax_trees) (at g (grammar.inside_sizeof y z))
sizeof_group_plan g y z = get g (grammar.level 13) (λ o. expect g tokens.closing (λ w. get g (grammar.suffixes (syntax_trees.paren z o.tree)) (λ e. done (syntax_trees.sizeof_expr y e))))

abbrev pub paren_plan : (g : Context) (x : TokenOf syntax_trees) → Plan (c_symbols syntax_trees) (at g grammar.primary)
paren_plan g x = get g (grammar.level 13) (λ o. expect g tokens.closing (λ z. done (syntax_trees.paren x o.tree)))

module _ (g : Context) (y : TokenOf syntax_trees) (text xs : List Token) (x : Token) (e : text ≡ x ∷ xs) where
  pub group_on : is_specifier (view g.types (sort_of x.kind)) ≡ false → IsOn g g (grammar.behind_open y) (grammar.behind_open y) (λ a. a) (group_plan g y) text text
  group_on other = first_same g (grammar.behind_open y) text xs x (view g.types (sort_of x.kind)) e refl (group_plan g y) (ap (λ b. if b then Some (cast_plan g y) else Some (group_plan g y)) other)

  -- ---- behind `sizeof`

  pub sizeof_open : tokens.mark tokens.opening ≡ view g.types (sort_of x.kind) → IsStep g (grammar.behind_sizeof y) (grammar.inside_sizeof y (terminal x)) (λ v. v) text xs
  sizeof_open is = last (first_taken g (grammar.behind_sizeof y) text xs x (tokens.mark tokens.opening) e is (λ z. get g (grammar.inside_sizeof y (terminal x)) (λ v. done v)) refl)

  pub sizeof_unary_on : is_mark tokens.opening (view g.types (sort_of x.kind)) ≡ false → IsOn g g (grammar.behind_sizeof y) (grammar.behind_sizeof y) (λ a. a) (get g grammar.unary (λ v. done (syntax_trees.sizeof_expr y v))) text text
  sizeof_unary_on other = first_same g (grammar.behind_sizeof y) text xs x (view g.types (sort_of x.kind)) e refl (get g grammar.unary (λ v. done (syntax_trees.sizeof_expr y v))) (ap (λ b. if b then Some (next (λ z. get g (grammar.inside_sizeof y (terminal x)) (λ v. done v))) else Some (get g grammar.unary (λ v. done (syntax_trees.sizeof_expr y v)))) other)

module _ (g : Context) (y z : TokenOf syntax_trees) (text xs : List Token) (x : Token) (e : text ≡ x ∷ xs) where
  pub sizeof_group_on : is_specifier (view g.types (sort_of x.kind)) ≡ false → IsOn g g (grammar.inside_sizeof y z) (grammar.inside_sizeof y z) (λ a. a) (sizeof_group_plan g y z) text text
  sizeof_group_on other = first_same g (grammar.inside_sizeof y z) text xs x (view g.types (sort_of x.kind)) e refl (sizeof_group_plan g y z) (ap (λ b. if b then Some (sizeof_type_plan g y z) else Some (sizeof_group_plan g y z)) other)

-- ---- unary and primary expressions

module _ (g : Context) (text xs : List Token) (x : Token) (e : text ≡ x ∷ xs) where
  pub paren_on : tokens.mark tokens.opening ≡ view g.types (sort_of x.kind) → IsOn g g grammar.primary grammar.primary (λ a. a) (paren_plan g (terminal x)) text xs
  paren_on is = first_taken g grammar.primary text xs x (tokens.mark tokens.opening) e is (λ y. paren_plan g (terminal x)) refl

  pub step_unary_on : tokens.mark tokens.step ≡ view g.types (sort_of x.kind) → IsOn g g grammar.unary grammar.unary (λ a. a) (get g grammar.unary (λ v. done (syntax_trees.prefix (terminal x) v))) text xs
  step_unary_on is = first_taken g grammar.unary text xs x (tokens.mark tokens.step) e is (λ y. get g grammar.unary (λ v. done (syntax_trees.prefix (terminal x) v))) refl

  pub prefix_on : is_prefix (view g.types (sort_of x.kind)) ≡ true → is_mark tokens.sizeof (view g.types (sort_of x.kind)) ≡ false → is_mark tokens.step (view g.types (sort_of x.kind)) ≡ false → IsOn g g grammar.unary grammar.unary (λ a. a) (get g (grammar.level 0) (λ o. done (syntax_trees.prefix (terminal x) o.tree))) text xs
  prefix_on p a b = first_taken g grammar.unary text xs x (view g.types (sort_of x.kind)) e refl (λ y. get g (grammar.level 0) (λ o. done (syntax_trees.prefix (terminal x) o.tree))) (prefix_chosen g (terminal x) (view g.types (sort_of x.kind)) p a b)

  pub primary_on : is_prefix (view g.types (sort_of x.kind)) ≡ false → IsOn g g grammar.unary grammar.unary (λ a. a) (get g grammar.primary (λ v. get g (grammar.suffixes v) (λ f. done f))) text text
  primary_on other = first_same g grammar.unary text xs x (view g.types (sort_of x.kind)) e refl (get g grammar.primary (λ v. get g (grammar.suffixes v) (λ f. done f))) (primary_chosen g (terminal x) (view g.types (sort_of x.kind)) other)

-- ---- what is left of each plan behind its first part

abbrev pub cast_operand : (g : Context) (y : TokenOf syntax_trees) (n : TypeName) (z : TokenOf syntax_trees) → Plan (c_symbols syntax_trees) (at g (grammar.behind_open y))
cast_operand g y n z = get g (grammar.level 0) (λ o. done (operand (syntax_trees.cast y n z o.tree) false))

abbrev pub cast_closing : (g : Context) (y : TokenOf syntax_trees) (n : grammar.Named syntax_trees) → Plan (c_symbols syntax_trees) (at g (grammar.behind_open y))
cast_closing g y n = close_by g n.behind tokens.closing (cast_operand g y n.tree)

abbrev pub sizeof_closing : (g : Context) (y z : TokenOf syntax_trees) (n : grammar.Named syntax_trees) → Plan (c_symbols syntax_trees) (at g (grammar.inside_sizeof y z))
sizeof_closing g y z n = close_by g n.behind tokens.closing (λ w. done (syntax_trees.sizeof_type y n.tree w))

-- a type name that stands before this token
pub settled_at : (text rest : List Token) (n pending : TypeName) (x : Token) → n ≡ settle_type (first_place text) pending → text ≡ x ∷ rest → n ≡ settle_type x.place pending
settled_at text rest n pending x e is = e ∙ ap (λ v. settle_type (first_place v) pending) is

abbrev pub paren_closing : (g : Context) (x : TokenOf syntax_trees) (o : grammar.Operand syntax_trees) → Plan (c_symbols syntax_trees) (at g grammar.primary)
paren_closing g x o = expect g tokens.closing (λ z. done (syntax_trees.paren x o.tree))

-- ---- what is read behind a `(`

module _ (types : List ℕ) (scope : Scope) (y : Token) (d : ℕ) (text : List Token) where
  pub inner_stop : (s : ReadError) → IsStop (there types scope) (grammar.level 13) (d - 1) text s → IsGroupedStop (there types scope) scope y d text s
  inner_stop stops.NoMemory h = tt
  inner_stop (stops.Fault kind bad) h = inl h
  inner_stop (stops.TooDeep bad) h = inl h

  pub paren_stop : (s : ReadError) → StopsAtParen (there types scope) scope text s → IsGroupedStop (there types scope) scope y d text s
  paren_stop stops.NoMemory h = tt
  paren_stop (stops.Fault kind bad) h = inr (inl h)
  paren_stop (stops.TooDeep bad) h = inr (inl h)

  behind_stop : (s : ReadError) → StopsBehindParen (there types scope) y d text s → IsGroupedStop (there types scope) scope y d text s
  behind_stop stops.NoMemory h = tt
  behind_stop (stops.Fault kind bad) h = inr (inr h)
  behind_stop (stops.TooDeep bad) h = inr (inr h)

  module _ (mid now : List Token) (o : grammar.Operand syntax_trees) (tree : Expression) (one : Reads c_table (at (there types scope) (grammar.level 13)) (ask (at (there types scope) (grammar.level 13))) (c_tokens text) o (c_tokens mid)) (closes : IsExpected types tokens.closing mid now) (made : tree ≡ syntax_trees.paren (terminal y) o.tree) (fewer : 1 + length now ≤ length text) where
    pub grouped_result : (r : Result (Part Expr) ReadError)
        → MatchResult r (λ part. IsRead (there types scope) (grammar.suffixes tree) d now (tree_of part.tree) part.depth part.rest.now) (IsStop (there types scope) (grammar.suffixes tree) d now)
        → MatchResult r (λ part. IsGrouped (there types scope) y d text (tree_of part.tree) part.depth part.rest.now) (IsGroupedStop (there types scope) scope y d text)
    grouped_result (Ok part) h = record {
      inner = o;
      mid = mid;
      one = one;
      behind = now;
      closes = closes;
      more = subst (λ v. IsRead (there types scope) (grammar.suffixes v) d now (tree_of part.tree) part.depth part.rest.now) made h;
      fewer = omega (arith, fewer, h.fewer);
    }
    grouped_result (Err s) h = behind_stop s (record {
      inner = o;
      mid = mid;
      one = one;
      behind = now;
      closes = closes;
      why = subst (λ v. IsStop (there types scope) (grammar.suffixes v) d now s) made h;
    })

-- ---- a group and its suffixes, wherever they stand

abbrev pub grouped_suffixes : (g : Context) (i : Item syntax_trees) (m : Expression → ItemAnswer i) (y : TokenOf syntax_trees) (e : Expression) (w : TokenOf syntax_trees) → Plan (c_symbols syntax_trees) (at g i)
grouped_suffixes g i m y e w = get g (grammar.suffixes (syntax_trees.paren y e)) (λ f. done (m f))

abbrev pub grouped_closing : (g : Context) (i : Item syntax_trees) (m : Expression → ItemAnswer i) (y : TokenOf syntax_trees) (o : grammar.Operand syntax_trees) → Plan (c_symbols syntax_trees) (at g i)
grouped_closing g i m y o = expect g tokens.closing (grouped_suffixes g i m y o.tree)

abbrev pub grouped_plan : (g : Context) (i : Item syntax_trees) (m : Expression → ItemAnswer i) (y : TokenOf syntax_trees) → Plan (c_symbols syntax_trees) (at g i)
grouped_plan g i m y = get g (grammar.level 13) (grouped_closing g i m y)

module _ (types : List ℕ) (scope : Scope) (i : Item syntax_trees) (m : Expression → ItemAnswer i) (y : Token) (d e : ℕ) (text rest : List Token) (on : IsOn (there types scope) (there types scope) i i (λ a. a) (grouped_plan (there types scope) i m (terminal y)) text rest) where
  grouped_on : (o : grammar.Operand syntax_trees) (mid now : List Token) → Reads c_table (at (there types scope) (grammar.level 13)) (ask (at (there types scope) (grammar.level 13))) (c_tokens rest) o (c_tokens mid) → IsExpected types tokens.closing mid now → IsOn (there types scope) (there types scope) i i (λ a. a) (get (there types scope) (grammar.suffixes (syntax_trees.paren (terminal y) o.tree)) (λ f. done (m f))) text now
  grouped_on o mid now one closes = on_mark types scope (there types scope) i i (λ a. a) tokens.closing also.Nothing (grouped_suffixes (there types scope) i m (terminal y) o.tree) (there types scope) text mid now (got on one) closes

  grouped_inside : d ≤ item_down i (grammar.level 13) + (e - 1) → ((v : Expression) → d ≤ item_down i (grammar.suffixes v) + e) → (s : ReadError) → (IsStop (there types scope) (grammar.level 13) (e - 1) rest s ⊎ (StopsAtParen (there types scope) scope rest s ⊎ StopsBehindParen (there types scope) y e rest s)) → IsStop (there types scope) i d text s
  grouped_inside first_down more_down s (inl h) = stop_part (there types scope) (there types scope) (there types scope) i i (grammar.level 13) (λ a. a) (grouped_closing (there types scope) i m (terminal y)) d (e - 1) text rest on first_down s h
  grouped_inside first_down more_down s (inr (inl h)) = stop_mark types scope (there types scope) i i (λ a. a) tokens.closing also.Nothing (grouped_suffixes (there types scope) i m (terminal y) h.inner.tree) (there types scope) d text h.mid (got on h.one) h.ended s h.why
  grouped_inside first_down more_down s (inr (inr h)) = stop_part (there types scope) (there types scope) (there types scope) i i (grammar.suffixes (syntax_trees.paren (terminal y) h.inner.tree)) (λ a. a) (λ f. done (m f)) d e text h.behind (grouped_on h.inner h.mid h.behind h.one h.closes) (more_down (syntax_trees.paren (terminal y) h.inner.tree)) s h.why

  pub grouped_stop : d ≤ item_down i (grammar.level 13) + (e - 1) → ((v : Expression) → d ≤ item_down i (grammar.suffixes v) + e) → (s : ReadError) → IsGroupedStop (there types scope) scope y e rest s → IsStop (there types scope) i d text s
  grouped_stop first_down more_down stops.NoMemory h = tt
  grouped_stop first_down more_down (stops.Fault kind bad) h = grouped_inside first_down more_down (stops.Fault kind bad) h
  grouped_stop first_down more_down (stops.TooDeep bad) h = grouped_inside first_down more_down (stops.TooDeep bad) h

  pub grouped_reads : (f : Expression) (n : ℕ) (now : List Token) → IsGrouped (there types scope) y e rest f n now → Reads c_table (at (there types scope) i) (ask (at (there types scope) i)) (c_tokens text) (m f) (c_tokens now)
  grouped_reads f n now h = finished (got (grouped_on h.inner h.mid h.behind h.one h.closes) h.more.reads)

-- as a unary expression
module _ (types : List ℕ) (scope : Scope) (d : ℕ) (text rest : List Token) (x : Token) (e : text ≡ x ∷ rest) (is : tokens.mark tokens.opening ≡ view types (sort_of x.kind)) where
  group_primary : IsOn (there types scope) (there types scope) grammar.unary grammar.unary (λ a. a) (get (there types scope) grammar.primary (λ v. get (there types scope) (grammar.suffixes v) (λ f. done f))) text text
  group_primary = primary_on (there types scope) text rest x e (ap (λ s. is_prefix s) (sym is))

  group_paren : (o : grammar.Operand syntax_trees) (mid now : List Token) → Reads c_table (at (there types scope) (grammar.level 13)) (ask (at (there types scope) (grammar.level 13))) (c_tokens rest) o (c_tokens mid) → IsExpected types tokens.closing mid now → IsOn (there types scope) (there types scope) grammar.unary grammar.unary (λ a. a) (get (there types scope) (grammar.suffixes (syntax_trees.paren (terminal x) o.tree)) (λ f. done f)) text now
  group_paren o mid now one closes = got group_primary (finished (on_mark types scope (there types scope) grammar.primary grammar.primary (λ a. a) tokens.closing also.Nothing (λ z. done (syntax_trees.paren (terminal x) o.tree)) (there types scope) text mid now (got (paren_on (there types scope) text rest x e is) one) closes))

  primary_stop : (s : ReadError) → IsStop (there types scope) grammar.primary d text s → IsStop (there types scope) grammar.unary d text s
  primary_stop s h = stop_part (there types scope) (there types scope) (there types scope) grammar.unary grammar.unary grammar.primary (λ a. a) (λ v. get (there types scope) (grammar.suffixes v) (λ f. done f)) d d text text group_primary (omega arith) s h

  group_inside : (s : ReadError) → (IsStop (there types scope) (grammar.level 13) (d - 1) rest s ⊎ (StopsAtParen (there types scope) scope rest s ⊎ StopsBehindParen (there types scope) x d rest s)) → IsStop (there types scope) grammar.unary d text s
  group_inside s (inl h) = primary_stop s (stop_part (there types scope) (there types scope) (there types scope) grammar.primary grammar.primary (grammar.level 13) (λ a. a) (paren_closing (there types scope) (terminal x)) d (d - 1) text rest (paren_on (there types scope) text rest x e is) (omega arith) s h)
  group_inside s (inr (inl h)) = primary_stop s (stop_mark types scope (there types scope) grammar.primary grammar.primary (λ a. a) tokens.closing also.Nothing (λ z. done (syntax_trees.paren (terminal x) h.inner.tree)) (there types scope) d text h.mid (got (paren_on (there types scope) text rest x e is) h.one) h.ended s h.why)
  group_inside s (inr (inr h)) = stop_part (there types scope) (there types scope) (there types scope) grammar.unary grammar.unary (grammar.suffixes (syntax_trees.paren (terminal x) h.inner.tree)) (λ a. a) (λ f. done f) d d text h.behind (group_paren h.inner h.mid h.behind h.one h.closes) (omega arith) s h.why

  pub unary_grouped : (r : Result (Part Expr) ReadError)
      → MatchResult r (λ part. IsGrouped (there types scope) x d rest (tree_of part.tree) part.depth part.rest.now) (IsGroupedStop (there types scope) scope x d rest)
      → MatchResult r (λ part. IsRead (there types scope) grammar.unary d text (tree_of part.tree) part.depth part.rest.now) (IsStop (there types scope) grammar.unary d text)
  unary_grouped (Ok part) h =
      let same : length text ≡ length (x ∷ rest) = ap length e in
      built (there types scope) grammar.unary d part.depth text part.rest.now (tree_of part.tree) (tree_of part.tree) (finished (got (group_paren h.inner h.mid h.behind h.one h.closes) h.more.reads)) refl h.more.deep h.more.shallow h.more.ended (omega (arith, h.fewer, same))
  unary_grouped (Err stops.NoMemory) h = tt
  unary_grouped (Err (stops.Fault kind bad)) h = group_inside (stops.Fault kind bad) h
  unary_grouped (Err (stops.TooDeep bad)) h = group_inside (stops.TooDeep bad) h

-- a unary expression that holds another part is at least two deep
module _ (g : Context) (d : ℕ) (text rest : List Token) (x : Token) (e : text ≡ x ∷ rest) (less : d < 2) where
  nested_paren : tokens.mark tokens.opening ≡ view g.types (sort_of x.kind) → Nests c_table c_depths (at g grammar.unary) d (c_tokens text) (c_tokens text)
  nested_paren is =
      part_nests (primary_on g text rest x e (ap (λ s. is_prefix s) (sym is))) (omega arith) (first_deep g grammar.primary text rest x (tokens.mark tokens.opening) e is d (λ y. paren_plan g (terminal x)) refl (omega (arith, less)))

  nested_at : (b : Bool) → is_prefix (view g.types (sort_of x.kind)) ≡ b → (b || is_mark tokens.opening (view g.types (sort_of x.kind))) ≡ true → Nests c_table c_depths (at g grammar.unary) d (c_tokens text) (c_tokens text)
  nested_at true p stands =
      let b = prefix_begins g (terminal x) (view g.types (sort_of x.kind)) p in
      first_deep g grammar.unary text rest x (view g.types (sort_of x.kind)) e refl d b.body b.chosen (omega (arith, b.deep, less))
  nested_at false p stands = nested_paren (sym (opening_is (view g.types (sort_of x.kind)) stands))

  pub nested_deep : (is_prefix (view g.types (sort_of x.kind)) || is_mark tokens.opening (view g.types (sort_of x.kind))) ≡ true → Nests c_table c_depths (at g grammar.unary) d (c_tokens text) (c_tokens text)
  nested_deep stands = nested_at (is_prefix (view g.types (sort_of x.kind))) refl stands

-- an expression is at least one deep
pub deep_some : (e : Expression) → 1 ≤ depth_of e
deep_some (expression f p m) = omega arith
