-- The steps of the readers of what stands before a body, over plain variables.
use Rattle.std.proofs.Common.{◌≡◌, ℕ, ◌+◌, ◌-◌, ◌≤◌, true, List, ◌∷◌, length, Some, refl, sym, ap, ◌∙◌, subst, arith}
use Rattle.std.specs.Prelude.{max, Option, option_map, if◌then◌else◌, Box}
use Rattle.std.specs.declared.alloc.Global.{Global}
use Rattle.sp_tree.specs.declared.fault.Place.{Place}
use Rattle.sp_tree.specs.declared.token.Token.{Token}
use Rattle.sp_parse_trees.specs.declared.statement.ForClauses.{ForClauses}
use Rattle.sp_parse_trees.specs.declared.tree.Expr.{Expr}
use Rattle.sp_parse_trees.specs.Syntax.{Statement, Expression}
use Rattle.sp_parse_trees.specs.View.{tree_of}
use Rattle.sp_parse_grammar.specs.CTokens as tokens
use Rattle.sp_parse_grammar.specs.CTokens.{view, is_name, is_mark}
use Rattle.sp_parse_grammar.specs.CTable as grammar
use Rattle.sp_parse_grammar.specs.CTable.{Context, Item, ItemAnswer, at, c_symbols, get, expect}
use Rattle.sp_parse_grammar.specs.Table.{done}
use Rattle.sp_parse_tokens.specs.declared.scope.Scope.{Scope}
use Rattle.sp_parse_tokens.specs.declared.scope.AlsoAllowed.TheVariants as also
use Rattle.sp_parse_tokens.specs.declared.part.Operand.{Operand}
use Rattle.sp_parse_tokens.specs.declared.part.ReadError.{ReadError}
use Rattle.sp_parse_tokens.specs.Sorts.{Terminal, terminal, sort_of, c_tokens}
use Rattle.sp_parse_tokens.specs.SyntaxTrees.{syntax_trees}
use Rattle.sp_parse_tokens.specs.Depths.{item_down}
use Rattle.sp_parse_tokens.specs.Ended.{IsEnded}
use Rattle.sp_parse_tokens.specs.Expecting.{IsExpected, IsUnexpected}
use Rattle.sp_parse_tokens.specs.Makers.{number_of}
use Rattle.sp_parse_tokens.specs.Scopes.{there}
use Rattle.sp_parse_tokens.proofs.Viewing.{ended_mark, mark_viewed}
use Rattle.sp_parse_expr_steps.specs.Reading.{IsRead, IsStop, operand_seen}
use Rattle.sp_parse_expr_steps.proofs.Steps.{enter, took_token, got, last, finished, part_fails, part_nests}
use Rattle.sp_parse_expr_steps.proofs.Parts.{IsOn, chosen, stop_part}
use Rattle.sp_parse_expr_steps.proofs.ExpressionSteps.{first_taken}
use Rattle.sp_parse_expr_steps.proofs.Suffixes.{ended_name}
use Rattle.sp_parse_statements.specs.Heads.{head_of, is_labelled}
use Rattle.sp_parse_statements.specs.Parts.{Rest, IsLeft, IsCondition, IsConditionStop, clause, IsClause, IsClauseStop, HasBody, IsPrefix}
use Rattle.sp_parse_statements.specs.declared.heads.Head.TheVariants.{Prefix as Before}
use Rattle.sp_parse_statements.specs.declared.heads.PrefixKind.TheVariants as kinds
use Rattle.sp_parse_statements.specs.declared.prefixes.Prefix.{Prefix}
use Rattle.sp_parse_statements.specs.declared.prefixes.Prefix.TheVariants.{Label, Case, Default, Switch, While, For}
use Rattle.sp_parse_statements.proofs.HeadLaws.{head_at, name_seen, while_rest, while_chosen, switch_rest, switch_chosen, for_rest, for_chosen, case_rest, case_chosen, default_rest, default_chosen, name_rest, named_rest, label_chosen}
use Rattle.sp_parse_statements.proofs.PartSteps.{left_mark, left_stop, shorter}

-- all that is left is the body
pub has_body : (g : Context) (j : Item syntax_trees) (f : ItemAnswer j → Statement) (make : Statement → ItemAnswer j) (text rest : List Token) → item_down j grammar.statement ≡ 1 → IsOn g g grammar.statement j f (get g grammar.statement (λ b. done (make b))) text rest → HasBody g (λ b. f (make b)) text rest
has_body g j f make text rest down on = record {
  reads = λ b ys r. finished (got on r);
  fails = λ w bad h. part_fails on h;
  nests = λ d e bad less h. part_nests on (omega (arith, less, down)) h;
}

-- the whole text, in other words
pub prefix_of : (g : Context) (d n : ℕ) (text xs rest : List Token) (x : Token) (p : Prefix) → text ≡ x ∷ xs → IsPrefix g d (x ∷ xs) p n rest → IsPrefix g d text p n rest
prefix_of g d n text xs rest x p e h = subst (λ v. IsPrefix g d v p n rest) (sym e) h

module _ (types : List ℕ) (scope : Scope) (d : ℕ) (text xs : List Token) (x : Token) (e : text ≡ x ∷ xs) where
  abbrev g : Context
  g = there types scope

  -- ---- `while` and `switch`

  pub while_on : head_of types text ≡ Before kinds.While → IsLeft g (while_rest g (terminal x)) (x ∷ xs) xs
  while_on head = first_taken g grammar.statement (x ∷ xs) xs x (view types (sort_of x.kind)) refl refl (λ y. while_rest g (terminal x)) (while_chosen g (terminal x) (is_labelled types xs) (view types (sort_of x.kind)) (head_at types text xs x (Before kinds.While) e head))

  pub while_stop : 2 ≤ d → head_of types text ≡ Before kinds.While → (s : ReadError) → IsConditionStop g (d - 1) xs s → IsStop g grammar.statement d text s
  while_stop room head s h =
      let same : 1 + (d - 1) ≡ d = omega (arith, room) in
      subst (λ v. IsStop g grammar.statement d v s) (sym e) (subst (λ v. IsStop g grammar.statement v (x ∷ xs) s) same (h (λ v. get g grammar.statement (λ b. done (syntax_trees.while (terminal x) v b))) (x ∷ xs) (while_on head)))

  pub while_read : 2 ≤ d → head_of types text ≡ Before kinds.While → (n : ℕ) (v : Expr) (rest : List Token) → IsCondition g (d - 1) xs (tree_of v) n rest → IsPrefix g d text (While v) n rest
  while_read room head n v rest c = prefix_of g d n text xs rest x (While v) e (record {
    body = has_body g grammar.statement (λ a. a) (λ b. syntax_trees.while (terminal x) (tree_of v) b) (x ∷ xs) rest refl (c.leads (λ w. get g grammar.statement (λ b. done (syntax_trees.while (terminal x) w b))) (x ∷ xs) (while_on head));
    deep = λ b. omega (arith, c.deep);
    shallow = omega (arith, c.shallow, room);
    ended = c.ended;
    fewer = omega (arith, c.fewer);
  })

  pub switch_on : head_of types text ≡ Before kinds.Switch → IsLeft g (switch_rest g (terminal x)) (x ∷ xs) xs
  switch_on head = first_taken g grammar.statement (x ∷ xs) xs x (view types (sort_of x.kind)) refl refl (λ y. switch_rest g (terminal x)) (switch_chosen g (terminal x) (is_labelled types xs) (view types (sort_of x.kind)) (head_at types text xs x (Before kinds.Switch) e head))

  pub switch_stop : 2 ≤ d → head_of types text ≡ Before kinds.Switch → (s : ReadError) → IsConditionStop g (d - 1) xs s → IsStop g grammar.statement d text s
  switch_stop room head s h =
      let same : 1 + (d - 1) ≡ d = omega (arith, room) in
      subst (λ v. IsStop g grammar.statement d v s) (sym e) (subst (λ v. IsStop g grammar.statement v (x ∷ xs) s) same (h (λ v. get g grammar.statement (λ b. done (syntax_trees.switch (terminal x) v b))) (x ∷ xs) (switch_on head)))

  pub switch_read : 2 ≤ d → head_of types text ≡ Before kinds.Switch → (n : ℕ) (v : Expr) (rest : List Token) → IsCondition g (d - 1) xs (tree_of v) n rest → IsPrefix g d text (Switch v) n rest
  switch_read room head n v rest c = prefix_of g d n text xs rest x (Switch v) e (record {
    body = has_body g grammar.statement (λ a. a) (λ b. syntax_trees.switch (terminal x) (tree_of v) b) (x ∷ xs) rest refl (c.leads (λ w. get g grammar.statement (λ b. done (syntax_trees.switch (terminal x) w b))) (x ∷ xs) (switch_on head));
    deep = λ b. omega (arith, c.deep);
    shallow = omega (arith, c.shallow, room);
    ended = c.ended;
    fewer = omega (arith, c.fewer);
  })

  -- ---- `default` and `case`

  pub default_on : head_of types text ≡ Before kinds.Default → IsLeft g (default_rest g (terminal x)) (x ∷ xs) xs
  default_on head = first_taken g grammar.statement (x ∷ xs) xs x (view types (sort_of x.kind)) refl refl (λ y. default_rest g (terminal x)) (default_chosen g (terminal x) (is_labelled types xs) (view types (sort_of x.kind)) (head_at types text xs x (Before kinds.Default) e head))

  abbrev default_body : Terminal → Rest g
  default_body z = get g grammar.statement (λ b. done (syntax_trees.default (terminal x) b))

  pub default_stop : head_of types text ≡ Before kinds.Default → IsEnded xs → (s : ReadError) → IsUnexpected types scope tokens.colon also.Nothing xs s → IsStop g grammar.statement d text s
  default_stop head ended s u = subst (λ v. IsStop g grammar.statement d v s) (sym e) (left_stop types scope tokens.colon (λ z. default_body z) (x ∷ xs) xs d (default_on head) ended s u)

  pub default_read : 2 ≤ d → head_of types text ≡ Before kinds.Default → (rest : List Token) → IsExpected types tokens.colon xs rest → IsPrefix g d text Default 0 rest
  default_read room head rest closes = prefix_of g d 0 text xs rest x Default e (record {
    body = has_body g grammar.statement (λ a. a) (λ b. syntax_trees.default (terminal x) b) (x ∷ xs) rest refl (left_mark types scope tokens.colon (λ z. default_body z) (x ∷ xs) xs rest (default_on head) closes);
    deep = λ b. omega arith;
    shallow = omega (arith, room);
    ended = closes.ended;
    fewer = omega (arith, shorter types tokens.colon xs rest closes);
  })

  pub case_on : head_of types text ≡ Before kinds.Case → IsLeft g (case_rest g (terminal x)) (x ∷ xs) xs
  case_on head = first_taken g grammar.statement (x ∷ xs) xs x (view types (sort_of x.kind)) refl refl (λ y. case_rest g (terminal x)) (case_chosen g (terminal x) (is_labelled types xs) (view types (sort_of x.kind)) (head_at types text xs x (Before kinds.Case) e head))

  abbrev case_body : Expression → Terminal → Rest g
  case_body v z = get g grammar.statement (λ b. done (syntax_trees.case (terminal x) v b))

  pub case_inner : 2 ≤ d → head_of types text ≡ Before kinds.Case → (s : ReadError) → IsStop g (grammar.level 11) (d - 1) xs s → IsStop g grammar.statement d text s
  case_inner room head s h =
      subst (λ v. IsStop g grammar.statement d v s) (sym e) (stop_part g g g grammar.statement grammar.statement (grammar.level 11) (λ a. a) (λ o. expect g tokens.colon (case_body o.tree)) d (d - 1) (x ∷ xs) xs (case_on head) (omega (arith, room)) s h)

  module _ (head : head_of types text ≡ Before kinds.Case) (n : ℕ) (mid : List Token) (o : Operand) (h : IsRead g (grammar.level 11) (d - 1) xs (operand_seen o) n mid) where
    pub case_unclosed : (s : ReadError) → IsUnexpected types scope tokens.colon also.Nothing mid s → IsStop g grammar.statement d text s
    case_unclosed s u = subst (λ v. IsStop g grammar.statement d v s) (sym e) (left_stop types scope tokens.colon (case_body (tree_of o.tree)) (x ∷ xs) mid d (got (case_on head) h.reads) h.ended s u)

    pub case_read : 2 ≤ d → (rest : List Token) → IsExpected types tokens.colon mid rest → IsPrefix g d text (Case o.tree) n rest
    case_read room rest closes = prefix_of g d n text xs rest x (Case o.tree) e (record {
      body = has_body g grammar.statement (λ a. a) (λ b. syntax_trees.case (terminal x) (tree_of o.tree) b) (x ∷ xs) rest refl (left_mark types scope tokens.colon (case_body (tree_of o.tree)) (x ∷ xs) mid rest (got (case_on head) h.reads) closes);
      deep = λ b. omega (arith, h.deep);
      shallow = omega (arith, h.shallow, room);
      ended = closes.ended;
      fewer = omega (arith, h.fewer, shorter types tokens.colon mid rest closes);
    })

  -- ---- a label

  label_name : (z : Token) (zs : List Token) → xs ≡ z ∷ zs → head_of types text ≡ Before kinds.Label → IsOn g g grammar.statement (grammar.behind_name (terminal x)) (λ a. a) (get g grammar.statement (λ b. done (syntax_trees.label (terminal x) b))) (x ∷ xs) zs
  label_name z zs f head =
      let named = label_chosen g (terminal x) (is_labelled types xs) (view types (sort_of x.kind)) (head_at types text xs x (Before kinds.Label) e head) in
      let on = first_taken g grammar.statement (x ∷ xs) xs x (view types (sort_of x.kind)) refl refl (λ y. name_rest g (terminal x)) named.chosen in
      let colon : is_mark tokens.colon (view types (sort_of z.kind)) ≡ true = sym (ap (λ v. is_labelled types v) f) ∙ named.labels in
      let inner = enter (last on) (ap c_tokens f) (chosen g (grammar.behind_name (terminal x)) z (view types (sort_of z.kind)) (Some (grammar.next (λ y. get g grammar.statement (λ b. done (syntax_trees.label (terminal x) b))))) refl (ap (λ b. if b then Some (grammar.next (λ y. get g grammar.statement (λ b. done (syntax_trees.label (terminal x) b)))) else Some (get g (grammar.suffixes (syntax_trees.name (terminal x))) (named_rest g (terminal x)))) colon)) in
      took_token inner (ap c_tokens f) refl

  pub label_ended : IsEnded text → head_of types text ≡ Before kinds.Label → IsEnded xs
  label_ended ended head =
      let named = label_chosen g (terminal x) (is_labelled types xs) (view types (sort_of x.kind)) (head_at types text xs x (Before kinds.Label) e head) in
      ended_name x xs (name_seen types (sort_of x.kind) named.stands) (subst IsEnded e ended)

  pub label_read : 2 ≤ d → IsEnded text → (z : Token) (zs : List Token) → xs ≡ z ∷ zs → head_of types text ≡ Before kinds.Label → (k : ℕ) → k ≡ number_of x.kind → IsPrefix g d text (Label k) 0 zs
  label_read room ended z zs f head k number =
      let named = label_chosen g (terminal x) (is_labelled types xs) (view types (sort_of x.kind)) (head_at types text xs x (Before kinds.Label) e head) in
      let colon : is_mark tokens.colon (view types (sort_of z.kind)) ≡ true = sym (ap (λ v. is_labelled types v) f) ∙ named.labels in
      let behind = ended_mark tokens.colon z zs (omega arith) (sym (mark_viewed types tokens.colon (sort_of z.kind)) ∙ colon) (subst IsEnded f (label_ended ended head)) in
      let less : length xs ≡ length (z ∷ zs) = ap length f in
      subst (λ v. IsPrefix g d text (Label v) 0 zs) (sym number) (prefix_of g d 0 text xs zs x (Label (number_of x.kind)) e (record {
        body = has_body g (grammar.behind_name (terminal x)) (λ a. a) (λ b. syntax_trees.label (terminal x) b) (x ∷ xs) zs refl (label_name z zs f head);
        deep = λ b. omega arith;
        shallow = omega (arith, room);
        ended = behind;
        fewer = omega (arith, less);
      }))

  -- ---- `for`

  abbrev for_body : Option Expression → Option Expression → Option Expression → Rest g
  for_body u v w = get g grammar.statement (λ b. done (syntax_trees.for (terminal x) u v w b))

  abbrev for_third : Option Expression → Option Expression → Rest g
  for_third u v = clause g tokens.closing (λ w z. for_body u v w)

  abbrev for_second : Option Expression → Rest g
  for_second u = clause g tokens.semicolon (λ v z. for_third u v)

  abbrev for_first : Rest g
  for_first = clause g tokens.semicolon (λ u z. for_second u)

  pub for_on : head_of types text ≡ Before kinds.For → IsLeft g (for_rest g (terminal x)) (x ∷ xs) xs
  for_on head = first_taken g grammar.statement (x ∷ xs) xs x (view types (sort_of x.kind)) refl refl (λ y. for_rest g (terminal x)) (for_chosen g (terminal x) (is_labelled types xs) (view types (sort_of x.kind)) (head_at types text xs x (Before kinds.For) e head))

  pub for_unopened : head_of types text ≡ Before kinds.For → IsEnded xs → (s : ReadError) → IsUnexpected types scope tokens.opening also.Nothing xs s → IsStop g grammar.statement d text s
  for_unopened head ended s u = subst (λ v. IsStop g grammar.statement d v s) (sym e) (left_stop types scope tokens.opening (λ z. for_first) (x ∷ xs) xs d (for_on head) ended s u)

  -- a stop inside, of which it is known for the text from its first token
  for_stop : 2 ≤ d → (s : ReadError) → IsStop g grammar.statement (1 + (d - 1)) (x ∷ xs) s → IsStop g grammar.statement d text s
  for_stop room s h =
      let same : 1 + (d - 1) ≡ d = omega (arith, room) in
      subst (λ v. IsStop g grammar.statement d v s) (sym e) (subst (λ v. IsStop g grammar.statement v (x ∷ xs) s) same h)

  module _ (room : 2 ≤ d) (head : head_of types text ≡ Before kinds.For) (inner : List Token) (opens : IsExpected types tokens.opening xs inner) where
    for_opened : IsLeft g for_first (x ∷ xs) inner
    for_opened = left_mark types scope tokens.opening (λ z. for_first) (x ∷ xs) xs inner (for_on head) opens

    pub for_start : (s : ReadError) → IsClauseStop g tokens.semicolon (d - 1) inner s → IsStop g grammar.statement d text s
    for_start s h = for_stop room s (h (λ u z. for_second u) (x ∷ xs) for_opened)

    module _ (l : ℕ) (u : Option Expr) (second : List Token) (q : Place) (a : IsClause g tokens.semicolon (d - 1) inner (option_map tree_of u) q l second) where
      for_started : IsLeft g (for_second (option_map tree_of u)) (x ∷ xs) second
      for_started = a.leads (λ u z. for_second u) (x ∷ xs) for_opened

      pub for_test : (s : ReadError) → IsClauseStop g tokens.semicolon (d - 1) second s → IsStop g grammar.statement d text s
      for_test s h = for_stop room s (h (λ v z. for_third (option_map tree_of u) v) (x ∷ xs) for_started)

      module _ (m : ℕ) (v : Option Expr) (third : List Token) (r : Place) (b : IsClause g tokens.semicolon (d - 1) second (option_map tree_of v) r m third) where
        for_tested : IsLeft g (for_third (option_map tree_of u) (option_map tree_of v)) (x ∷ xs) third
        for_tested = b.leads (λ v z. for_third (option_map tree_of u) v) (x ∷ xs) for_started

        pub for_step : (s : ReadError) → IsClauseStop g tokens.closing (d - 1) third s → IsStop g grammar.statement d text s
        for_step s h = for_stop room s (h (λ w z. for_body (option_map tree_of u) (option_map tree_of v) w) (x ∷ xs) for_tested)

    pub for_read : (f : Box ForClauses Global) (l m k n : ℕ) (second third rest : List Token) (q r t : Place)
        → IsClause g tokens.semicolon (d - 1) inner (option_map tree_of f.value.start) q l second
        → IsClause g tokens.semicolon (d - 1) second (option_map tree_of f.value.test) r m third
        → IsClause g tokens.closing (d - 1) third (option_map tree_of f.value.step) t k rest
        → n ≡ max (max l m) k → IsPrefix g d text (For f) n rest
    for_read f l m k n second third rest q r t a b c deepest =
        let u = option_map tree_of f.value.start in
        let v = option_map tree_of f.value.test in
        let w = option_map tree_of f.value.step in
        let on = for_tested l f.value.start second q a m f.value.test third r b in
        prefix_of g d n text xs rest x (For f) e (record {
          body = has_body g grammar.statement (λ a. a) (λ b. syntax_trees.for (terminal x) u v w b) (x ∷ xs) rest refl (c.leads (λ w z. for_body u v w) (x ∷ xs) on);
          deep = λ s. omega (arith, a.deep, b.deep, c.deep, deepest);
          shallow = omega (arith, a.shallow, b.shallow, c.shallow, deepest, room);
          ended = c.ended;
          fewer = omega (arith, a.fewer, b.fewer, c.fewer, shorter types tokens.opening xs inner opens);
        })
