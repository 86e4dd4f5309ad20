-- The steps of the readers of statements that hold statements, over plain variables.
use Rattle.std.proofs.Common.{◌≡◌, ℕ, ◌+◌, ◌-◌, ◌≤◌, ◌<◌, true, false, Result, Ok, Err, List, [], ◌∷◌, ◌++◌, length, Some, None, refl, sym, ap, ◌∙◌, subst, arith}
use Rattle.std.specs.Prelude.{◌||◌, max, MatchResult, Option, if◌then◌else◌}
use Rattle.sp_tree.specs.declared.fault.Place.{Place}
use Rattle.sp_tree.specs.declared.token.Token.{Token}
use Rattle.sp_parse_trees.specs.Syntax as syntax
use Rattle.sp_parse_trees.specs.Syntax.{Statement, Expression, Declaration, statement}
use Rattle.sp_parse_trees.specs.declared.statement.Statement.{Statement as CodeStatement}
use Rattle.sp_parse_trees.specs.View.{statement_of, declarations, statements}
use Rattle.sp_parse_trees.specs.Depth.{statement_depth, statements_depth}
use Rattle.sp_parse_grammar.specs.CTokens as tokens
use Rattle.sp_parse_grammar.specs.CTokens.{view, is_mark}
use Rattle.sp_parse_grammar.specs.CTable as grammar
use Rattle.sp_parse_grammar.specs.CTable.{Context, at, c_symbols, get, next, close_by, begins_expression, begins_other}
use Rattle.sp_parse_grammar.specs.Table.{Plan, done}
use Rattle.sp_parse_grammar.specs.Depth.{Nests}
use Rattle.sp_parse_tokens.specs.declared.scope.Scope.{Scope}
use Rattle.sp_parse_tokens.specs.declared.scope.AlsoAllowed.TheVariants as also
use Rattle.sp_parse_tokens.specs.declared.part.Part.{Part}
use Rattle.sp_parse_tokens.specs.declared.part.ReadError.{ReadError}
use Rattle.sp_parse_tokens.specs.declared.part.ReadError.TheVariants as stops
use Rattle.sp_parse_tokens.specs.Sorts.{Terminal, terminal, sort_of, c_tokens}
use Rattle.sp_parse_tokens.specs.SyntaxTrees.{syntax_trees, c_table}
use Rattle.sp_parse_tokens.specs.Depths.{c_depths}
use Rattle.sp_parse_tokens.specs.Ended.{IsEnded}
use Rattle.sp_parse_tokens.specs.Expecting.{IsExpected, IsUnexpected}
use Rattle.sp_parse_tokens.specs.Makers.{first_place, end_of_branches, some_statement, all_statements}
use Rattle.sp_parse_tokens.specs.Scopes.{there}
use Rattle.sp_parse_expr_steps.specs.Reading.{IsRead, IsStop, IsStep}
use Rattle.sp_parse_expr_steps.proofs.Steps.{got, finished}
use Rattle.sp_parse_expr_steps.proofs.Parts.{IsOn, on_mark, stop_mark, stop_part}
use Rattle.sp_parse_expr_steps.proofs.ExpressionSteps.{built, first_same, first_taken, first_deep}
use Rattle.sp_parse_expr_steps.proofs.ListSteps.{choice_ends, choice_on}
use Rattle.sp_parse_expr_steps.proofs.Faulting.{Begins}
use Rattle.sp_parse_declarations.specs.Taking.{IsTaken}
use Rattle.sp_parse_statements.specs.Heads.{head_of, is_labelled, least_of, takes_first}
use Rattle.sp_parse_statements.specs.Parts.{Rest, IsLeft, IsCondition, IsConditionStop, do_end, IsDoEnd, IsDoEndStop, prefixed, IsPrefix, IsCompound, IsCompoundStop}
use Rattle.sp_parse_statements.specs.declared.heads.Head.{Head}
use Rattle.sp_parse_statements.specs.declared.heads.Head.TheVariants.{Block, If, Do, Simple}
use Rattle.sp_parse_statements.specs.declared.heads.SimpleKind.TheVariants.{Expression as Other}
use Rattle.sp_parse_statements.specs.declared.prefixes.Prefix.{Prefix}
use Rattle.sp_parse_statements.proofs.HeadLaws.{head_at, if_rest, if_chosen, do_rest, do_chosen, block_rest, block_chosen, first_begins}
use Rattle.sp_parse_statements.proofs.PartSteps.{shorter, mark_place}
use Rattle.sp_parse_statements.proofs.SimpleSteps.{taken, expression_inner}

-- ---- where no statement is as shallow as allowed

first_passed : (g : Context) (d : ℕ) (x : Token) (xs : List Token) → Begins g grammar.statement (terminal x) (view g.types (sort_of x.kind)) (least_of (head_of g.types (x ∷ xs))) → d < least_of (head_of g.types (x ∷ xs)) → Nests c_table c_depths (at g grammar.statement) d (c_tokens (x ∷ xs)) (c_tokens (x ∷ xs))
first_passed g d x xs b less = first_deep g grammar.statement (x ∷ xs) xs x (view g.types (sort_of x.kind)) refl refl d b.body b.chosen (omega (arith, b.deep, less))

pub head_passed : (g : Context) (d : ℕ) (text : List Token) (h : Head) → IsEnded text → head_of g.types text ≡ h → takes_first h ≡ true → d < least_of h → Nests c_table c_depths (at g grammar.statement) d (c_tokens text) (c_tokens text)
head_passed g d [] h ended same takes less = absurd ended
head_passed g d (x ∷ xs) h ended same takes less =
    first_passed g d x xs (first_begins g (terminal x) (is_labelled g.types xs) (view g.types (sort_of x.kind)) (subst (λ v. takes_first v ≡ true) (sym same) takes)) (subst (λ v. d < least_of v) (sym same) less)

no_first : (h : Head) → takes_first h ≡ false → h ≡ Simple Other
no_first (Simple Other) e = refl
no_first _ e = absurd cc

-- an expression in no depth
pub shallow_stop : (types : List ℕ) (scope : Scope) (d : ℕ) (text : List Token) (h : Head) → IsEnded text → head_of types text ≡ h → takes_first h ≡ false → d < least_of h → (s : ReadError) → IsStop (there types scope) (grammar.level 13) 0 text s → IsStop (there types scope) grammar.statement d text s
shallow_stop types scope d [] h ended same other less s stop = absurd ended
shallow_stop types scope d (x ∷ xs) h ended same other less s stop =
    let is = no_first h other in
    let small : d < 2 = subst (λ v. d < least_of v) is less in
    expression_inner types scope d (x ∷ xs) xs x refl (same ∙ is) 0 (omega (arith, small)) s stop

-- ---- what stands before a body, and the body

module _ (g : Context) (d n : ℕ) (text mid : List Token) (p : Prefix) (h : IsPrefix g d text p n mid) (room : 2 ≤ d) where
  pub prefixed_stop : (s : ReadError) → IsStop g grammar.statement (d - 1) mid s → IsStop g grammar.statement d text s
  prefixed_stop (stops.Fault kind bad) s = (s.0, h.body.fails s.0 (c_tokens bad.now) s.1, s.2, s.3)
  prefixed_stop (stops.TooDeep bad) s = (h.body.nests d (d - 1) (c_tokens bad.now) (omega (arith, room)) s.0, s.1)
  prefixed_stop stops.NoMemory s = tt

  pub prefixed_read : (m k : ℕ) (rest : List Token) (b made : Statement) → IsTaken g grammar.statement (d - 1) mid b m rest → k ≡ 1 + max n m → made ≡ prefixed p (first_place text) b → IsTaken g grammar.statement d text made k rest
  prefixed_read m k rest b made w deepest same = record {
    read = built g grammar.statement d k text rest (prefixed p (first_place text) b) made (h.body.reads b (c_tokens rest) w.read.reads) same (omega (arith, deepest, w.read.deep, h.deep b)) (omega (arith, deepest, w.read.shallow, h.shallow, room)) w.read.ended (omega (arith, w.fewer, h.fewer));
    fewer = omega (arith, w.fewer, h.fewer);
  }

-- ---- `else`

abbrev pub else_plan : (g : Context) → Plan (c_symbols syntax_trees) (at g grammar.else_part)
else_plan g = get g grammar.statement (λ a. done (Some a))

module _ (g : Context) (text xs : List Token) (x : Token) (e : text ≡ x ∷ xs) where
  pub else_none : (d : ℕ) → is_mark tokens.else_word (view g.types (sort_of x.kind)) ≡ false → IsEnded text → IsRead g grammar.else_part d text None 0 text
  else_none d other ended =
      built g grammar.else_part d 0 text text None None (finished (first_same g grammar.else_part text xs x (view g.types (sort_of x.kind)) e refl (done None) (ap (λ b. if b then Some (next (λ y. else_plan g)) else Some (done None)) other))) refl refl (omega arith) ended (omega arith)

  pub else_on : is_mark tokens.else_word (view g.types (sort_of x.kind)) ≡ true → IsOn g g grammar.else_part grammar.else_part (λ a. a) (else_plan g) text xs
  else_on stands = first_taken g grammar.else_part text xs x (view g.types (sort_of x.kind)) e refl (λ y. else_plan g) (ap (λ b. if b then Some (next (λ y. else_plan g)) else Some (done None)) stands)

  pub else_read : (d n : ℕ) (a : Statement) (rest : List Token) → is_mark tokens.else_word (view g.types (sort_of x.kind)) ≡ true → IsTaken g grammar.statement d xs a n rest → IsRead g grammar.else_part d text (Some a) n rest
  else_read d n a rest stands w =
      let less : length text ≡ length (x ∷ xs) = ap length e in
      built g grammar.else_part d n text rest (Some a) (Some a) (finished (got (else_on stands) w.read.reads)) refl w.read.deep w.read.shallow w.read.ended (omega (arith, w.fewer, less))

-- ---- `if` and `do`

module _ (g : Context) (d : ℕ) (text xs : List Token) (x : Token) (e : text ≡ x ∷ xs) (room : 2 ≤ d) where
  stop_of : (s : ReadError) → IsStop g grammar.statement (1 + (d - 1)) (x ∷ xs) s → IsStop g grammar.statement d text s
  stop_of s h =
      let same : 1 + (d - 1) ≡ d = omega (arith, room) in
      subst (λ v. IsStop g grammar.statement d v s) (sym e) (subst (λ v. IsStop g grammar.statement v (x ∷ xs) s) same h)

  abbrev if_other : Expression → Statement → Rest g
  if_other c a = get g grammar.else_part (λ b. done (syntax_trees.if_else (terminal x) c a b))

  abbrev if_branch : Expression → Rest g
  if_branch c = get g grammar.statement (if_other c)

  if_on : head_of g.types text ≡ If → IsLeft g (if_rest g (terminal x)) (x ∷ xs) xs
  if_on head = first_taken g grammar.statement (x ∷ xs) xs x (view g.types (sort_of x.kind)) refl refl (λ y. if_rest g (terminal x)) (if_chosen g (terminal x) (is_labelled g.types xs) (view g.types (sort_of x.kind)) (head_at g.types text xs x If e head))

  module _ (head : head_of g.types text ≡ If) where
    pub if_condition : (s : ReadError) → IsConditionStop g (d - 1) xs s → IsStop g grammar.statement d text s
    if_condition s h = stop_of s (h if_branch (x ∷ xs) (if_on head))

    module _ (l : ℕ) (c : Expression) (first : List Token) (h : IsCondition g (d - 1) xs c l first) where
      if_asked : IsLeft g (if_branch c) (x ∷ xs) first
      if_asked = h.leads if_branch (x ∷ xs) (if_on head)

      pub if_first : (s : ReadError) → IsStop g grammar.statement (d - 1) first s → IsStop g grammar.statement d text s
      if_first s w = stop_of s (stop_part g g g grammar.statement grammar.statement grammar.statement (λ a. a) (if_other c) (1 + (d - 1)) (d - 1) (x ∷ xs) first if_asked (omega arith) s w)

      module _ (m : ℕ) (a : Statement) (second : List Token) (w : IsTaken g grammar.statement (d - 1) first a m second) where
        if_got : IsLeft g (if_other c a) (x ∷ xs) second
        if_got = got if_asked w.read.reads

        pub if_second : (s : ReadError) → IsStop g grammar.else_part (d - 1) second s → IsStop g grammar.statement d text s
        if_second s v = stop_of s (stop_part g g g grammar.statement grammar.statement grammar.else_part (λ b. b) (λ b. done (syntax_trees.if_else (terminal x) c a b)) (1 + (d - 1)) (d - 1) (x ∷ xs) second if_got (omega arith) s v)

        pub if_read : (k n : ℕ) (b : Option Statement) (rest : List Token) (made : Statement) → IsRead g grammar.else_part (d - 1) second b k rest → n ≡ 1 + max l (max m k) → made ≡ statement (syntax.if_else c a (some_statement b)) x.place (end_of_branches a b) → IsTaken g grammar.statement d text made n rest
        if_read k n b rest made v deepest same =
            taken g d n text xs rest x (syntax_trees.if_else (terminal x) c a b) made e (got if_got v.reads) same (omega (arith, deepest, h.deep, w.read.deep, v.deep)) (omega (arith, deepest, h.shallow, w.read.shallow, v.shallow, room)) v.ended (omega (arith, h.fewer, w.fewer, v.fewer))

  do_on : head_of g.types text ≡ Do → IsLeft g (do_rest g (terminal x)) (x ∷ xs) xs
  do_on head = first_taken g grammar.statement (x ∷ xs) xs x (view g.types (sort_of x.kind)) refl refl (λ y. do_rest g (terminal x)) (do_chosen g (terminal x) (is_labelled g.types xs) (view g.types (sort_of x.kind)) (head_at g.types text xs x Do e head))

  abbrev do_made : Statement → Expression → Terminal → Rest g
  do_made a c z = done (syntax_trees.do_while (terminal x) a c z)

  abbrev do_behind : Statement → Rest g
  do_behind a = do_end g (do_made a)

  module _ (head : head_of g.types text ≡ Do) where
    pub do_body : (s : ReadError) → IsStop g grammar.statement (d - 1) xs s → IsStop g grammar.statement d text s
    do_body s w = stop_of s (stop_part g g g grammar.statement grammar.statement grammar.statement (λ a. a) do_behind (1 + (d - 1)) (d - 1) (x ∷ xs) xs (do_on head) (omega arith) s w)

    module _ (m : ℕ) (a : Statement) (mid : List Token) (w : IsTaken g grammar.statement (d - 1) xs a m mid) where
      do_got : IsLeft g (do_behind a) (x ∷ xs) mid
      do_got = got (do_on head) w.read.reads

      pub do_stop : (s : ReadError) → IsDoEndStop g (d - 1) mid s → IsStop g grammar.statement d text s
      do_stop s h = stop_of s (h (do_made a) (x ∷ xs) do_got)

      pub do_read : (k n : ℕ) (c : Expression) (end : Place) (rest : List Token) (made : Statement) → IsDoEnd g (d - 1) mid c end k rest → n ≡ 1 + max m k → made ≡ statement (syntax.do_loop a c) x.place end → IsTaken g grammar.statement d text made n rest
      do_read k n c end rest made h deepest same =
          let right : made ≡ syntax_trees.do_while (terminal x) a c (terminal h.mark) = same ∙ ap (λ q. statement (syntax.do_loop a c) x.place q) h.place_of_mark in
          taken g d n text xs rest x (syntax_trees.do_while (terminal x) a c (terminal h.mark)) made e (h.leads (do_made a) (x ∷ xs) do_got) right (omega (arith, deepest, h.deep, w.read.deep)) (omega (arith, deepest, h.shallow, w.read.shallow, room)) h.ended (omega (arith, h.fewer, w.fewer))

-- ---- blocks

abbrev block_made : (g : Context) (x : Token) → List Declaration → List Statement → Terminal → Rest g
block_made g x ds ss z = done (syntax_trees.block (terminal x) ds ss z)

block_on : (g : Context) (text xs : List Token) (x : Token) → text ≡ x ∷ xs → head_of g.types text ≡ Block → IsLeft g (block_rest g (terminal x)) (x ∷ xs) xs
block_on g text xs x e head = first_taken g grammar.statement (x ∷ xs) xs x (view g.types (sort_of x.kind)) refl refl (λ y. block_rest g (terminal x)) (block_chosen g (terminal x) (is_labelled g.types xs) (view g.types (sort_of x.kind)) (head_at g.types text xs x Block e head))

pub block_stop : (g : Context) (d : ℕ) (text xs : List Token) (x : Token) → text ≡ x ∷ xs → head_of g.types text ≡ Block → (s : ReadError) → IsCompoundStop g d xs s → IsStop g grammar.statement d text s
block_stop g d text xs x e head s h = subst (λ v. IsStop g grammar.statement d v s) (sym e) (h g g grammar.statement grammar.statement (λ a. a) (block_made g x) (x ∷ xs) (block_on g text xs x e head) refl refl)

pub block_read : (g : Context) (d n : ℕ) (text xs rest : List Token) (x : Token) (made : Statement) → text ≡ x ∷ xs → head_of g.types text ≡ Block → IsCompound g d x.place xs made n rest → IsTaken g grammar.statement d text made n rest
block_read g d n text xs rest x made e head h =
    let a = syntax_trees.block (terminal x) h.all h.statements (terminal h.mark) in
    taken g d n text xs rest x a made e (h.leads g g grammar.statement grammar.statement (λ v. v) (block_made g x) (x ∷ xs) (block_on g text xs x e head)) h.makes (h.deep ∙ ap (λ v. statement_depth v) h.makes) h.shallow h.ended (omega (arith, h.fewer))

pub block_result : (g : Context) (d : ℕ) (text xs : List Token) (x : Token) → text ≡ x ∷ xs → head_of g.types text ≡ Block → (r : Result (Part CodeStatement) ReadError)
    → MatchResult r (λ part. IsCompound g d x.place xs (statement_of part.tree) part.depth part.rest.now) (IsCompoundStop g d xs)
    → MatchResult r (λ part. IsTaken g grammar.statement d text (statement_of part.tree) part.depth part.rest.now) (IsStop g grammar.statement d text)
block_result g d text xs x e head (Ok part) h = block_read g d part.depth text xs part.rest.now x (statement_of part.tree) e head h
block_result g d text xs x e head (Err s) h = block_stop g d text xs x e head s h

-- ---- declarations, statements and `}`

module _ (types : List ℕ) (scope : Scope) (d : ℕ) (text : List Token) (room : 1 ≤ d) where
  abbrev within : Context
  within = there types scope

  pub compound_first : (s : ReadError) → IsStop within (grammar.declarations []) (d - 1) text s → IsCompoundStop within d text s
  compound_first s w f h i j m k first on down1 down2 =
      stop_part f h within i j (grammar.declarations []) m (λ ds. get within (grammar.statements []) (λ ss. close_by within grammar.for_name tokens.unbrace (λ z. k ds ss z))) d (d - 1) first text on (omega (arith, down1, room)) s w

  module _ (l : ℕ) (ds : List Declaration) (mid : List Token) (a : IsRead within (grammar.declarations []) (d - 1) text ds l mid) where
    pub compound_second : (s : ReadError) → IsStop within (grammar.statements []) (d - 1) mid s → IsCompoundStop within d text s
    compound_second s w f h i j m k first on down1 down2 =
        stop_part f h within i j (grammar.statements []) m (λ ss. close_by within grammar.for_name tokens.unbrace (λ z. k ds ss z)) d (d - 1) first mid (got on a.reads) (omega (arith, down2, room)) s w

    module _ (n : ℕ) (ss : List Statement) (last_tokens : List Token) (b : IsRead within (grammar.statements []) (d - 1) mid ss n last_tokens) where
      pub compound_third : (s : ReadError) → IsUnexpected types scope tokens.unbrace also.Name last_tokens s → IsCompoundStop within d text s
      compound_third s u f h i j m k first on down1 down2 = stop_mark types scope h i j m tokens.unbrace also.Name (λ z. k ds ss z) f d first last_tokens (got (got on a.reads) b.reads) b.ended s u

      pub compound_read : (rest : List Token) (start end : Place) (q : ℕ) (made : Statement) → end ≡ first_place last_tokens → IsExpected types tokens.unbrace last_tokens rest → q ≡ 1 + max l n → made ≡ statement (syntax.block (declarations ds) (all_statements ss)) start end → IsCompound within d start text made q rest
      compound_read rest start end q made at_first closes deepest same = record {
        all = ds;
        statements = ss;
        mark = closes.first;
        makes = same ∙ ap (λ v. statement (syntax.block (declarations ds) (all_statements ss)) start v) (mark_place types tokens.unbrace last_tokens rest end at_first closes);
        leads = λ f h i j m k first on. on_mark types scope h i j m tokens.unbrace also.Name (λ z. k ds ss z) f first last_tokens rest (got (got on a.reads) b.reads) closes;
        deep = omega (arith, deepest, a.deep, b.deep, ap (λ v. statement_depth v) same);
        shallow = omega (arith, deepest, a.shallow, b.shallow, room);
        ended = closes.ended;
        fewer = omega (arith, a.fewer, b.fewer, shorter types tokens.unbrace last_tokens rest closes);
      }

-- ---- lists of statements

abbrev pub statements_more : (g : Context) (ss : List Statement) (s : Statement) → Plan (c_symbols syntax_trees) (at g (grammar.statements ss))
statements_more g ss s = get g (grammar.statements (ss ++ s ∷ [])) (λ bs. done bs)

module _ (g : Context) (first ss : List Statement) (text rest xs : List Token) (x : Token) (step : IsStep g (grammar.statements first) (grammar.statements ss) (λ a. a) text rest) (e : rest ≡ x ∷ xs) where
  pub statements_on : (begins_expression (view g.types (sort_of x.kind)) || begins_other (view g.types (sort_of x.kind))) ≡ true → IsOn g g (grammar.statements first) (grammar.statements ss) (λ a. a) (get g grammar.statement (statements_more g ss)) text rest
  statements_on stands = choice_on g (grammar.statements first) (grammar.statements ss) (λ a. a) text rest xs x step e (begins_expression (view g.types (sort_of x.kind)) || begins_other (view g.types (sort_of x.kind))) ss (get g grammar.statement (statements_more g ss)) refl stands

  pub statements_end : (d n : ℕ) → (begins_expression (view g.types (sort_of x.kind)) || begins_other (view g.types (sort_of x.kind))) ≡ false → n ≡ statements_depth (all_statements ss) → n ≤ d → IsEnded rest → length rest ≤ length text → IsRead g (grammar.statements first) d text ss n rest
  statements_end d n other deep shallow ended fewer =
      built g (grammar.statements first) d n text rest ss ss (choice_ends g (grammar.statements first) (grammar.statements ss) (λ a. a) text rest xs x step e (begins_expression (view g.types (sort_of x.kind)) || begins_other (view g.types (sort_of x.kind))) ss (get g grammar.statement (statements_more g ss)) refl other) refl deep shallow ended (omega (arith, fewer))
