-- The steps of the readers of statements without a statement inside, over plain variables.
use Rattle.std.proofs.Common.{◌≡◌, ℕ, ◌+◌, ◌-◌, ◌≤◌, Bool, true, false, List, [], ◌∷◌, length, Some, refl, sym, ap, ◌∙◌, subst, arith}
use Rattle.std.specs.Prelude.{Option, if◌then◌else◌}
use Rattle.sp_tree.specs.declared.fault.Place.{Place}
use Rattle.sp_tree.specs.declared.token.Token.{Token}
use Rattle.sp_parse_trees.specs.Syntax as syntax
use Rattle.sp_parse_trees.specs.Syntax.{Statement, Expression, statement}
use Rattle.sp_parse_trees.specs.View.{maybe_expression}
use Rattle.sp_parse_trees.specs.Places.{place_of}
use Rattle.sp_parse_trees.specs.Depth.{statement_depth}
use Rattle.sp_parse_grammar.specs.CTokens as tokens
use Rattle.sp_parse_grammar.specs.CTokens.{view, is_name, is_mark}
use Rattle.sp_parse_grammar.specs.CTable as grammar
use Rattle.sp_parse_grammar.specs.CTable.{Context, at, c_symbols, get, expect, ordinary}
use Rattle.sp_parse_grammar.specs.Table.{Plan, done, ask, Reads, wanted}
use Rattle.sp_parse_tokens.specs.declared.scope.Scope.{Scope}
use Rattle.sp_parse_tokens.specs.declared.scope.AlsoAllowed.TheVariants as also
use Rattle.sp_parse_tokens.specs.declared.part.ReadError.{ReadError}
use Rattle.sp_parse_tokens.specs.Sorts.{Terminal, terminal, sort_of, c_tokens}
use Rattle.sp_parse_tokens.specs.SyntaxTrees.{syntax_trees, c_table}
use Rattle.sp_parse_tokens.specs.Ended.{IsEnded}
use Rattle.sp_parse_tokens.specs.Expecting.{IsExpected, IsUnexpected, IsFaultFor}
use Rattle.sp_parse_tokens.specs.Makers.{number_of, first_place, is_break}
use Rattle.sp_parse_tokens.specs.Scopes.{there}
use Rattle.sp_parse_expr_steps.specs.Reading.{IsRead, IsStop}
use Rattle.sp_parse_expr_steps.proofs.Steps.{enter, took_token, got, last, finished, refused}
use Rattle.sp_parse_expr_steps.proofs.Parts.{IsOn, chosen, stop_part, on_mark, stop_mark}
use Rattle.sp_parse_expr_steps.proofs.ExpressionSteps.{built, first_same, first_taken}
use Rattle.sp_parse_expr_steps.proofs.Suffixes.{ended_name}
use Rattle.sp_parse_expr_steps.proofs.Faulting.{stop_at}
use Rattle.sp_parse_declarations.specs.Taking.{IsTaken}
use Rattle.sp_parse_statements.specs.Heads.{head_of, is_labelled}
use Rattle.sp_parse_statements.specs.Parts.{Rest, IsLeft, IsClause, IsClauseStop}
use Rattle.sp_parse_statements.specs.declared.heads.Head.TheVariants.{Simple}
use Rattle.sp_parse_statements.specs.declared.heads.SimpleKind.TheVariants.{Empty, Named, Expression as Other, Goto, Jump, Return}
use Rattle.sp_parse_statements.proofs.HeadLaws.{head_at, name_seen, empty_rest, empty_chosen, goto_rest, goto_chosen, jump_rest, jump_chosen, return_rest, return_chosen, name_rest, named_rest, named_tail, named_chosen, expression_rest, expression_chosen}
use Rattle.sp_parse_statements.proofs.PartSteps.{left_mark, left_stop, mark_place, shorter}

abbrev Operand : Type 0
Operand = grammar.Operand syntax_trees

-- a whole statement was read
pub taken : (g : Context) (d n : ℕ) (text xs rest : List Token) (x : Token) (a b : Statement) → text ≡ x ∷ xs → IsLeft g (done a) (x ∷ xs) rest → b ≡ a → n ≡ statement_depth a → n ≤ d → IsEnded rest → length rest ≤ length xs → IsTaken g grammar.statement d text b n rest
taken g d n text xs rest x a b e on same deep shallow ended fewer =
    subst (λ v. IsTaken g grammar.statement d v b n rest) (sym e) (record {
      read = built g grammar.statement d n (x ∷ xs) rest a b (finished on) same deep shallow ended (omega (arith, fewer));
      fewer = omega (arith, fewer);
    })

module _ (types : List ℕ) (scope : Scope) (d : ℕ) (text xs : List Token) (x : Token) (e : text ≡ x ∷ xs) where
  abbrev g : Context
  g = there types scope

  stop_of : (s : ReadError) → IsStop g grammar.statement d (x ∷ xs) s → IsStop g grammar.statement d text s
  stop_of s h = subst (λ v. IsStop g grammar.statement d v s) (sym e) h

  -- ---- `;`

  pub empty_read : head_of types text ≡ Simple Empty → IsEnded xs → 1 ≤ d → (made : Statement) → made ≡ statement syntax.empty x.place x.place → IsTaken g grammar.statement d text made 1 xs
  empty_read head ended room made same =
      let on = first_taken g grammar.statement (x ∷ xs) xs x (view types (sort_of x.kind)) refl refl (λ y. empty_rest g (terminal x)) (empty_chosen g (terminal x) (is_labelled types xs) (view types (sort_of x.kind)) (head_at types text xs x (Simple Empty) e head)) in
      taken g d 1 text xs xs x (syntax_trees.empty (terminal x)) made e on same refl room ended (omega arith)

  -- ---- `continue` and `break`

  jump_on : head_of types text ≡ Simple Jump → IsLeft g (jump_rest g (terminal x)) (x ∷ xs) xs
  jump_on head = first_taken g grammar.statement (x ∷ xs) xs x (view types (sort_of x.kind)) refl refl (λ y. jump_rest g (terminal x)) (jump_chosen g (terminal x) (is_labelled types xs) (view types (sort_of x.kind)) (head_at types text xs x (Simple Jump) e head))

  pub jump_stop : head_of types text ≡ Simple Jump → IsEnded xs → (s : ReadError) → IsUnexpected types scope tokens.semicolon also.Nothing xs s → IsStop g grammar.statement d text s
  jump_stop head ended s u = stop_of s (left_stop types scope tokens.semicolon (λ z. done (syntax_trees.jump (terminal x) z)) (x ∷ xs) xs d (jump_on head) ended s u)

  jump_depth : (b : Bool) (p q : Place) → statement_depth (statement (if b then syntax.break_out else syntax.continue_loop) p q) ≡ 1
  jump_depth true p q = refl
  jump_depth false p q = refl

  pub jump_read : head_of types text ≡ Simple Jump → 1 ≤ d → (rest : List Token) (end : Place) → end ≡ first_place xs → (closes : IsExpected types tokens.semicolon xs rest) → (made : Statement) → made ≡ statement (if is_break x.kind then syntax.break_out else syntax.continue_loop) x.place end → IsTaken g grammar.statement d text made 1 rest
  jump_read head room rest end at_first closes made same =
      let on = left_mark types scope tokens.semicolon (λ z. done (syntax_trees.jump (terminal x) z)) (x ∷ xs) xs rest (jump_on head) closes in
      let right : made ≡ syntax_trees.jump (terminal x) (terminal closes.first) = same ∙ ap (λ q. statement (if is_break x.kind then syntax.break_out else syntax.continue_loop) x.place q) (mark_place types tokens.semicolon xs rest end at_first closes) in
      taken g d 1 text xs rest x (syntax_trees.jump (terminal x) (terminal closes.first)) made e on right (sym (jump_depth (is_break x.kind) x.place closes.first.place)) room closes.ended (omega (arith, shorter types tokens.semicolon xs rest closes))

  -- ---- `goto`

  goto_on : head_of types text ≡ Simple Goto → IsLeft g (goto_rest g (terminal x)) (x ∷ xs) xs
  goto_on head = first_taken g grammar.statement (x ∷ xs) xs x (view types (sort_of x.kind)) refl refl (λ y. goto_rest g (terminal x)) (goto_chosen g (terminal x) (is_labelled types xs) (view types (sort_of x.kind)) (head_at types text xs x (Simple Goto) e head))

  abbrev goto_end : Terminal → Terminal → Rest g
  goto_end n z = done (syntax_trees.goto (terminal x) n z)

  module _ (head : head_of types text ≡ Simple Goto) (n : Token) (ys : List Token) (f : xs ≡ n ∷ ys) where
    pub goto_unnamed : IsEnded xs → is_name (sort_of n.kind) ≡ false → (s : ReadError) → IsFaultFor types scope also.Nothing xs s → IsStop g grammar.statement d text s
    goto_unnamed ended other s u =
        let fails = refused (goto_on head) (ap c_tokens f) other in
        stop_of s (stop_at types scope also.Nothing (wanted (ordinary g)) g grammar.statement d (x ∷ xs) xs fails (λ y. refl) ended s u)

    goto_named : is_name (sort_of n.kind) ≡ true → IsLeft g (expect g tokens.semicolon (goto_end (terminal n))) (x ∷ xs) ys
    goto_named stands = took_token (goto_on head) (ap c_tokens f) stands

    pub goto_ended : IsEnded xs → is_name (sort_of n.kind) ≡ true → IsEnded ys
    goto_ended ended stands = ended_name n ys stands (subst IsEnded f ended)

    pub goto_stop : is_name (sort_of n.kind) ≡ true → IsEnded ys → (s : ReadError) → IsUnexpected types scope tokens.semicolon also.Nothing ys s → IsStop g grammar.statement d text s
    goto_stop stands ended s u = stop_of s (left_stop types scope tokens.semicolon (goto_end (terminal n)) (x ∷ xs) ys d (goto_named stands) ended s u)

    pub goto_read : is_name (sort_of n.kind) ≡ true → 1 ≤ d → (rest : List Token) (end : Place) → end ≡ first_place ys → (closes : IsExpected types tokens.semicolon ys rest) → (made : Statement) (k : ℕ) → k ≡ number_of n.kind → made ≡ statement (syntax.goto_name k) x.place end → IsTaken g grammar.statement d text made 1 rest
    goto_read stands room rest end at_first closes made k number same =
        let on = left_mark types scope tokens.semicolon (goto_end (terminal n)) (x ∷ xs) ys rest (goto_named stands) closes in
        let right : made ≡ syntax_trees.goto (terminal x) (terminal n) (terminal closes.first) = same ∙ (ap (λ v. statement (syntax.goto_name v) x.place end) number ∙ ap (λ q. statement (syntax.goto_name (number_of n.kind)) x.place q) (mark_place types tokens.semicolon ys rest end at_first closes)) in
        let less : length xs ≡ length (n ∷ ys) = ap length f in
        taken g d 1 text xs rest x (syntax_trees.goto (terminal x) (terminal n) (terminal closes.first)) made e on right refl room closes.ended (omega (arith, less, shorter types tokens.semicolon ys rest closes))

  -- ---- `return`

  return_on : head_of types text ≡ Simple Return → IsLeft g (return_rest g (terminal x)) (x ∷ xs) xs
  return_on head = first_taken g grammar.statement (x ∷ xs) xs x (view types (sort_of x.kind)) refl refl (λ y. return_rest g (terminal x)) (return_chosen g (terminal x) (is_labelled types xs) (view types (sort_of x.kind)) (head_at types text xs x (Simple Return) e head))

  abbrev return_end : Option Expression → Terminal → Rest g
  return_end v z = done (syntax_trees.return (terminal x) v z)

  pub return_stop : head_of types text ≡ Simple Return → 1 ≤ d → (s : ReadError) → IsClauseStop g tokens.semicolon (d - 1) xs s → IsStop g grammar.statement d text s
  return_stop head room s h =
      let same : 1 + (d - 1) ≡ d = omega (arith, room) in
      stop_of s (subst (λ v. IsStop g grammar.statement v (x ∷ xs) s) same (h return_end (x ∷ xs) (return_on head)))

  pub return_read : head_of types text ≡ Simple Return → 1 ≤ d → (n : ℕ) (v : Option Expression) (rest : List Token) (end : Place) → IsClause g tokens.semicolon (d - 1) xs v end n rest → (made : Statement) → made ≡ statement (syntax.return_value (maybe_expression v)) x.place end → IsTaken g grammar.statement d text made (1 + n) rest
  return_read head room n v rest end c made same =
      let right : made ≡ syntax_trees.return (terminal x) v (terminal c.mark) = same ∙ ap (λ q. statement (syntax.return_value (maybe_expression v)) x.place q) c.place_of_mark in
      taken g d (1 + n) text xs rest x (syntax_trees.return (terminal x) v (terminal c.mark)) made e (c.leads return_end (x ∷ xs) (return_on head)) right (ap (λ k. 1 + k) c.deep) (omega (arith, c.shallow, room)) c.ended (omega (arith, c.fewer))

  -- ---- an expression that begins with no name

  expression_on : head_of types text ≡ Simple Other → IsLeft g (expression_rest g) (x ∷ xs) (x ∷ xs)
  expression_on head = first_same g grammar.statement (x ∷ xs) xs x (view types (sort_of x.kind)) refl refl (expression_rest g) (expression_chosen g (terminal x) (is_labelled types xs) (view types (sort_of x.kind)) (head_at types text xs x (Simple Other) e head))

  abbrev expression_end : Operand → Rest g
  expression_end o = expect g tokens.semicolon (λ z. done (syntax_trees.of o.tree z))

  pub expression_inner : head_of types text ≡ Simple Other → (k : ℕ) → d ≤ 1 + k → (s : ReadError) → IsStop g (grammar.level 13) k text s → IsStop g grammar.statement d text s
  expression_inner head k less s h =
      stop_of s (stop_part g g g grammar.statement grammar.statement (grammar.level 13) (λ a. a) expression_end d k (x ∷ xs) (x ∷ xs) (expression_on head) less s (subst (λ v. IsStop g (grammar.level 13) k v s) e h))

  -- whichever production asks for the expression
  expression_made : (o : Expression) (mid rest : List Token) (end : Place) → end ≡ first_place mid → (closes : IsExpected types tokens.semicolon mid rest) → (made : Statement) → made ≡ statement (syntax.of o) (place_of o) end → made ≡ syntax_trees.of o (terminal closes.first)
  expression_made o mid rest end at_first closes made same = same ∙ ap (λ q. statement (syntax.of o) (place_of o) q) (mark_place types tokens.semicolon mid rest end at_first closes)

  module _ (head : head_of types text ≡ Simple Other) (n : ℕ) (o : Operand) (mid : List Token) (h : IsRead g (grammar.level 13) (d - 1) text o n mid) where
    expression_got : IsLeft g (expression_end o) (x ∷ xs) mid
    expression_got = got (expression_on head) (subst (λ v. Reads c_table (at g (grammar.level 13)) (ask (at g (grammar.level 13))) (c_tokens v) o (c_tokens mid)) e h.reads)

    pub expression_stop : (s : ReadError) → IsUnexpected types scope tokens.semicolon also.Nothing mid s → IsStop g grammar.statement d text s
    expression_stop s u = stop_of s (left_stop types scope tokens.semicolon (λ z. done (syntax_trees.of o.tree z)) (x ∷ xs) mid d expression_got h.ended s u)

    pub expression_read : 2 ≤ d → (rest : List Token) (end : Place) → end ≡ first_place mid → (closes : IsExpected types tokens.semicolon mid rest) → (made : Statement) → made ≡ statement (syntax.of o.tree) (place_of o.tree) end → IsTaken g grammar.statement d text made (1 + n) rest
    expression_read room rest end at_first closes made same =
        let on = left_mark types scope tokens.semicolon (λ z. done (syntax_trees.of o.tree z)) (x ∷ xs) mid rest expression_got closes in
        let begun : length text ≡ length (x ∷ xs) = ap length e in
        taken g d (1 + n) text xs rest x (syntax_trees.of o.tree (terminal closes.first)) made e on (expression_made o.tree mid rest end at_first closes made same) (ap (λ k. 1 + k) h.deep) (omega (arith, h.shallow, room)) closes.ended (omega (arith, begun, h.fewer, shorter types tokens.semicolon mid rest closes))

  -- ---- an expression that begins with a name

  abbrev name_tree : Expression
  name_tree = syntax_trees.name (terminal x)

  pub named_ended : head_of types text ≡ Simple Named → IsEnded text → IsEnded xs
  named_ended head ended =
      let named = named_chosen g (terminal x) (is_labelled types xs) (view types (sort_of x.kind)) (head_at types text xs x (Simple Named) e head) in
      ended_name x xs (name_seen types (sort_of x.kind) named.stands) (subst IsEnded e ended)

  abbrev IsBehind : Plan (c_symbols syntax_trees) (at g (grammar.behind_name (terminal x))) → List Token → Type 0
  IsBehind p rest = IsOn g g grammar.statement (grammar.behind_name (terminal x)) (λ a. a) p (x ∷ xs) rest

  named_on : head_of types text ≡ Simple Named → (ys : List Token) → xs ≡ ys → IsEnded ys → IsBehind (get g (grammar.suffixes name_tree) (named_rest g (terminal x))) xs
  named_on head [] f ended = absurd ended
  named_on head (z ∷ zs) f ended =
      let named = named_chosen g (terminal x) (is_labelled types xs) (view types (sort_of x.kind)) (head_at types text xs x (Simple Named) e head) in
      let on = first_taken g grammar.statement (x ∷ xs) xs x (view types (sort_of x.kind)) refl refl (λ y. name_rest g (terminal x)) named.chosen in
      let other : is_mark tokens.colon (view types (sort_of z.kind)) ≡ false = sym (ap (λ v. is_labelled types v) f) ∙ named.labels in
      enter (last on) (ap c_tokens f) (chosen g (grammar.behind_name (terminal x)) z (view types (sort_of z.kind)) (Some (get g (grammar.suffixes name_tree) (named_rest g (terminal x)))) refl (ap (λ b. if b then Some (grammar.next (λ y. get g grammar.statement (λ b. done (syntax_trees.label (terminal x) b)))) else Some (get g (grammar.suffixes name_tree) (named_rest g (terminal x)))) other))

  module _ (head : head_of types text ≡ Simple Named) (ended : IsEnded text) (room : 2 ≤ d) where
    named_begun : IsBehind (get g (grammar.suffixes name_tree) (named_rest g (terminal x))) xs
    named_begun = named_on head xs refl (named_ended head ended)

    pub named_suffixes : (t : Expression) → t ≡ name_tree → (s : ReadError) → IsStop g (grammar.suffixes t) (d - 1) xs s → IsStop g grammar.statement d text s
    named_suffixes t same s h = stop_of s (stop_part g g g grammar.statement (grammar.behind_name (terminal x)) (grammar.suffixes name_tree) (λ a. a) (named_rest g (terminal x)) d (d - 1) (x ∷ xs) xs named_begun (omega (arith, room)) s (subst (λ v. IsStop g (grammar.suffixes v) (d - 1) xs s) same h))

    module _ (t : Expression) (same : t ≡ name_tree) (m : ℕ) (f : Expression) (mid : List Token) (a : IsRead g (grammar.suffixes t) (d - 1) xs f m mid) where
      named_first : IsBehind (named_rest g (terminal x) f) mid
      named_first = got named_begun (subst (λ v. Reads c_table (at g (grammar.suffixes v)) (ask (at g (grammar.suffixes v))) (c_tokens xs) f (c_tokens mid)) same a.reads)

      pub named_inner : (s : ReadError) → IsStop g (grammar.tail 13 (grammar.operand f true)) (d - 1) mid s → IsStop g grammar.statement d text s
      named_inner s h = stop_of s (stop_part g g g grammar.statement (grammar.behind_name (terminal x)) (grammar.tail 13 (grammar.operand f true)) (λ a. a) (named_tail g (terminal x)) d (d - 1) (x ∷ xs) mid named_first (omega (arith, room)) s h)

      module _ (n : ℕ) (o : Operand) (behind : List Token) (b : IsRead g (grammar.tail 13 (grammar.operand f true)) (d - 1) mid o n behind) where
        named_got : IsBehind (named_tail g (terminal x) o) behind
        named_got = got named_first b.reads

        pub named_stop : (s : ReadError) → IsUnexpected types scope tokens.semicolon also.Nothing behind s → IsStop g grammar.statement d text s
        named_stop s u = stop_of s (stop_mark types scope g grammar.statement (grammar.behind_name (terminal x)) (λ v. v) tokens.semicolon also.Nothing (λ z. done (syntax_trees.of o.tree z)) g d (x ∷ xs) behind named_got b.ended s u)

        pub named_read : (rest : List Token) (end : Place) → end ≡ first_place behind → (closes : IsExpected types tokens.semicolon behind rest) → (made : Statement) → made ≡ statement (syntax.of o.tree) (place_of o.tree) end → IsTaken g grammar.statement d text made (1 + n) rest
        named_read rest end at_first closes made is =
            let on = on_mark types scope g grammar.statement (grammar.behind_name (terminal x)) (λ v. v) tokens.semicolon also.Nothing (λ z. done (syntax_trees.of o.tree z)) g (x ∷ xs) behind rest named_got closes in
            let less = shorter types tokens.semicolon behind rest closes in
            subst (λ v. IsTaken g grammar.statement d v made (1 + n) rest) (sym e) (record {
              read = built g grammar.statement d (1 + n) (x ∷ xs) rest (syntax_trees.of o.tree (terminal closes.first)) made (finished on) (expression_made o.tree behind rest end at_first closes made is) (ap (λ k. 1 + k) b.deep) (omega (arith, b.shallow, room)) closes.ended (omega (arith, a.fewer, b.fewer, less));
              fewer = omega (arith, a.fewer, b.fewer, less);
            })

-- ---- of texts whose first token isn't told apart

pub expression_stopped : (types : List ℕ) (scope : Scope) (d : ℕ) (text : List Token) → IsEnded text → head_of types text ≡ Simple Other → 2 ≤ d → (s : ReadError) → IsStop (there types scope) (grammar.level 13) (d - 1) text s → IsStop (there types scope) grammar.statement d text s
expression_stopped types scope d [] ended head room s h = absurd ended
expression_stopped types scope d (x ∷ xs) ended head room s h = expression_inner types scope d (x ∷ xs) xs x refl head (d - 1) (omega (arith, room)) s h

pub expression_unclosed : (types : List ℕ) (scope : Scope) (d : ℕ) (text : List Token) → IsEnded text → head_of types text ≡ Simple Other → (n : ℕ) (o : Operand) (mid : List Token) → IsRead (there types scope) (grammar.level 13) (d - 1) text o n mid → (s : ReadError) → IsUnexpected types scope tokens.semicolon also.Nothing mid s → IsStop (there types scope) grammar.statement d text s
expression_unclosed types scope d [] ended head n o mid h s u = absurd ended
expression_unclosed types scope d (x ∷ xs) ended head n o mid h s u = expression_stop types scope d (x ∷ xs) xs x refl head n o mid h s u

pub expression_whole : (types : List ℕ) (scope : Scope) (d : ℕ) (text : List Token) → IsEnded text → head_of types text ≡ Simple Other → (n : ℕ) (o : Operand) (mid : List Token) → IsRead (there types scope) (grammar.level 13) (d - 1) text o n mid → 2 ≤ d → (rest : List Token) (end : Place) → end ≡ first_place mid → (closes : IsExpected types tokens.semicolon mid rest) → (made : Statement) → made ≡ statement (syntax.of o.tree) (place_of o.tree) end → IsTaken (there types scope) grammar.statement d text made (1 + n) rest
expression_whole types scope d [] ended head n o mid h room rest end at_first closes made same = absurd ended
expression_whole types scope d (x ∷ xs) ended head n o mid h room rest end at_first closes made same = expression_read types scope d (x ∷ xs) xs x refl head n o mid h room rest end at_first closes made same
