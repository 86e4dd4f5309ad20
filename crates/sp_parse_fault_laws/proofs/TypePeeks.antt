-- Each production of C90's table keeps the notes on types, and so it is told whether a type could stand in place of a token that begins
-- a declarator.
use Rattle.std.proofs.lemmas.Bool.{eqb-true}
use Rattle.std.proofs.Common.{◌≡◌, ◌⊎◌, inl, inr, ℕ, zero, suc, ◌≤◌, Bool, true, false, List, [], Some, None, refl, sym, ap, ◌∙◌, subst, arith}
use Rattle.std.specs.Prelude.{Option, ◌||◌, ◌==◌}
use Rattle.sp_parse_grammar.specs.CTokens as tokens
use Rattle.sp_parse_grammar.specs.CTokens.{Sort, Mark, Seen, Length, Base, is_mark, is_name, view as viewed, add, add_word, nothing_seen, is_typed, typed, plain_length, no_base}
use Rattle.sp_parse_grammar.specs.CTable as grammar
use Rattle.sp_parse_grammar.specs.CTable.{Context, AlsoAllowed, Form, Operand, Specified, ItemAnswer, Ask, Answer, at, unit, whole, c_symbols, plan, stands_behind}
use Rattle.sp_parse_grammar.specs.Table.{Plan, done, take, call, Opens, open_take, open_call}
use Rattle.sp_parse_grammar.proofs.CChecked.{if_true, if_false, which}
use Rattle.sp_parse_tokens.specs.Sorts.{Terminal}
use Rattle.sp_parse_tokens.specs.SyntaxTrees.{syntax_trees, c_table}
use Rattle.sp_parse_tokens.specs.Depths.{Part}
use Rattle.sp_parse_fault_laws.proofs.Swaps.{AtToken, Before, BeforeAt, SameAt, Takes, Peek, same as by_same, opens_done, opens_none, taken, or_false}
use Rattle.sp_parse_fault_laws.proofs.TypeBehind.{is_for_type, KnownItem}
use Rattle.sp_parse_fault_laws.proofs.TypeProductions.{Rules, StartsAt, item_starts, parameters_stay}
use Rattle.sp_parse_fault_laws.proofs.TypeNotes.{Beginning, named, starred, opened, beginning, type_notes, covers_types, may_go_on, may_item, carried_item, Fits, Within}

-- ---- the word `float` beside others

float_first : (stored sign : Bool) (l : Length) (base : Base) → typed sign l base ≡ false → add_word stored tokens.float sign l base ≡ Some (record { stored = stored; signed = false; length = plain_length; base = tokens.whole_base })
float_first stored false plain_length no_base e = refl
float_first stored _ _ _ e = absurd cc

float_later : (stored sign : Bool) (l : Length) (base : Base) → typed sign l base ≡ true → add_word stored tokens.float sign l base ≡ None
float_later stored false plain_length no_base e = absurd cc
float_later stored _ _ _ e = refl

-- the token is of this sort where these are the names of types
abbrev pub IsThere : List ℕ → Terminal → Beginning → Type 0
IsThere types b j = (g : Context) → g.types ≡ types → viewed g.types b.sort ≡ beginning j

-- ---- parts that take the token

module _ (types : List ℕ) (b : Terminal) where
  abbrev pub TakesAt : Context → Part → Type 0
  TakesAt g i = Takes c_table b (at g i)

  pub by_plan : (j : Beginning) → IsThere types b j → (g : Context) → g.types ≡ types → (i : Part) (q : Plan (c_symbols syntax_trees) (at g i)) → plan g i b (beginning j) ≡ Some q → Opens c_table (at g i) q b → TakesAt g i
  by_plan j is_b g t i q e opens = (q, ap (plan g i b) (is_b g t) ∙ e, opens)

  pub by_part : {m : Ask syntax_trees} (g : Context) (i : Part) (k : ItemAnswer i → Plan (c_symbols syntax_trees) m) → TakesAt g i → Opens c_table m (call (at g i) k) b
  by_part g i k h = open_call h.1 h.2

  pub unary_takes : (j : Beginning) → IsThere types b j → (g : Context) → g.types ≡ types → TakesAt g grammar.unary
  unary_takes (named n) h g t = by_plan (named n) h g t grammar.unary _ refl (by_part g grammar.primary _ (by_plan (named n) h g t grammar.primary _ refl (open_take refl)))
  unary_takes starred h g t = by_plan starred h g t grammar.unary _ refl (open_take refl)
  unary_takes opened h g t = by_plan opened h g t grammar.unary _ refl (by_part g grammar.primary _ (by_plan opened h g t grammar.primary _ refl (open_take refl)))

  pub level_takes : (j : Beginning) → IsThere types b j → (g : Context) → g.types ≡ types → (l : ℕ) → TakesAt g (grammar.level l)
  level_takes (named n) h g t zero = by_plan (named n) h g t (grammar.level zero) _ refl (by_part g grammar.unary _ (unary_takes (named n) h g t))
  level_takes starred h g t zero = by_plan starred h g t (grammar.level zero) _ refl (by_part g grammar.unary _ (unary_takes starred h g t))
  level_takes opened h g t zero = by_plan opened h g t (grammar.level zero) _ refl (open_take refl)
  level_takes j h g t (suc l) = by_plan j h g t (grammar.level (suc l)) _ refl (by_part g (grammar.level l) _ (level_takes j h g t l))

  pub statement_takes : (j : Beginning) → IsThere types b j → (g : Context) → g.types ≡ types → TakesAt g grammar.statement
  statement_takes (named n) h g t = by_plan (named n) h g t grammar.statement _ refl (open_take refl)
  statement_takes starred h g t = by_plan starred h g t grammar.statement _ refl (by_part g (grammar.level 13) _ (level_takes starred h g t 13))
  statement_takes opened h g t = by_plan opened h g t grammar.statement _ refl (by_part g (grammar.level 13) _ (level_takes opened h g t 13))

  pub statements_take : (j : Beginning) → IsThere types b j → (ss : List syntax_trees.Statement) (g : Context) → g.types ≡ types → TakesAt g (grammar.statements ss)
  statements_take (named n) h ss g t = by_plan (named n) h g t (grammar.statements ss) _ refl (by_part g grammar.statement _ (statement_takes (named n) h g t))
  statements_take starred h ss g t = by_plan starred h g t (grammar.statements ss) _ refl (by_part g grammar.statement _ (statement_takes starred h g t))
  statements_take opened h ss g t = by_plan opened h g t (grammar.statements ss) _ refl (by_part g grammar.statement _ (statement_takes opened h g t))

  pub direct_takes : (j : Beginning) → IsThere types b j → (g : Context) → g.types ≡ types → TakesAt g (grammar.declarator grammar.concrete)
  direct_takes (named n) h g t = by_plan (named n) h g t (grammar.declarator grammar.concrete) _ refl (by_part g (grammar.direct grammar.concrete) _ (by_plan (named n) h g t (grammar.direct grammar.concrete) _ refl (open_take refl)))
  direct_takes starred h g t = by_plan starred h g t (grammar.declarator grammar.concrete) _ refl (open_take refl)
  direct_takes opened h g t = by_plan opened h g t (grammar.declarator grammar.concrete) _ refl (by_part g (grammar.direct grammar.concrete) _ (by_plan opened h g t (grammar.direct grammar.concrete) _ refl (open_take refl)))

  pub item_takes : (j : Beginning) → IsThere types b j → (g : Context) → g.types ≡ types → TakesAt g grammar.item
  item_takes j h g t = by_plan j h g t grammar.item _ refl (by_part g (grammar.declarator grammar.concrete) _ (direct_takes j h g t))

module _ (types : List ℕ) (b x : Terminal) (j : Beginning) (is_b : IsThere types b j) (is_x : x.sort ≡ tokens.basic tokens.float) where
  -- a plan that may begin at the token keeps them, and one before which tokens are read
  pub record Keeps {m : Ask syntax_trees} (p : Plan (c_symbols syntax_trees) m) (so_far : Bool) : Type 0 where
    pub here : AtToken c_table (type_notes types) b x p so_far
    pub later : Before c_table (type_notes types) b x p

  pub record Starts {m : Ask syntax_trees} (p : Plan (c_symbols syntax_trees) m) : Type 0 where
    pub later : Before c_table (type_notes types) b x p

  pub at_b : (g : Context) → g.types ≡ types → (i : Part) (o : Option (Plan (c_symbols syntax_trees) (at g i))) → plan g i b (beginning j) ≡ o → c_table.predict (at g i) b ≡ o
  at_b g t i o e = ap (plan g i b) (is_b g t) ∙ e

  pub at_x : (g : Context) → g.types ≡ types → (i : Part) (o : Option (Plan (c_symbols syntax_trees) (at g i))) → plan g i x (tokens.basic tokens.float) ≡ o → c_table.predict (at g i) x ≡ o
  at_x g t i o e = ap (λ s. plan g i x (viewed g.types s)) is_x ∙ e

  -- ---- the rules of these notes

  pub ends : {m : Ask syntax_trees} {o : Answer m} {so_far : Bool} → may_go_on m o ≡ so_far → Keeps {m = m} (done o) so_far
  ends e = record { here = e; later = tt }

  mark_no_type : (t : Mark) → is_mark t x.sort ≡ false
  mark_no_type t = ap (λ s. is_mark t s) is_x

  pub marked : {m : Ask syntax_trees} {g : Context} {p : AlsoAllowed} {t : Mark} {k : Terminal → Plan (c_symbols syntax_trees) m} {so_far : Bool} → g.types ≡ types → is_for_type p ≡ so_far → ((y : Terminal) → Keeps (k y) false) → Keeps (take (grammar.only g p t) k) so_far
  marked {g = g} {p = p} {t = t} {k = k} {so_far = so_far} same e more = record { here = λ f. (e ∙ sym (ap (λ i. so_far || i) (mark_no_type t) ∙ or_false so_far), same); later = λ y f. ((more y).here, (more y).later) }

  plainly : {m : Ask syntax_trees} {g : Context} {t : Mark} {k : Terminal → Plan (c_symbols syntax_trees) m} → g.types ≡ types → ((y : Terminal) → Keeps (k y) false) → Keeps (take (grammar.only g grammar.plainly t) k) false
  plainly same more = marked same refl more

  ordinary : {m : Ask syntax_trees} {g : Context} {k : Terminal → Plan (c_symbols syntax_trees) m} → g.types ≡ types → ((y : Terminal) → Keeps (k y) false) → Keeps (take (grammar.ordinary g) k) false
  ordinary same more = record { here = λ f. (sym (ap (λ s. is_name s) is_x), same); later = λ y f. ((more y).here, (more y).later) }

  token : {m : Ask syntax_trees} {k : Terminal → Plan (c_symbols syntax_trees) m} → ((y : Terminal) → Keeps (k y) false) → Starts (take grammar.any k)
  token more = record { later = λ y f. ((more y).here, (more y).later) }

  pub part : {m : Ask syntax_trees} {g : Context} {i : Part} {k : ItemAnswer i → Plan (c_symbols syntax_trees) m} → g.types ≡ types → Fits i × Within i × (carried_item i ≡ false) × KnownItem i (grammar.item_value g i) → ((a : ItemAnswer i) → KnownItem i a → Keeps (k a) (may_item i a)) → Keeps (call (at g i) k) false
  part {g = g} {i = i} same h more = record {
    here = ((same, h.0), (λ f. let apart : true ≡ false = sym f ∙ h.2 in absurd cc), (λ f. absurd cc), (λ f. inr (more (grammar.item_value g i) h.3).here));
    later = ((same, h.1), λ a e. ((more a e).here, (more a e).later));
  }

  first_part : {m : Ask syntax_trees} {g : Context} {i : Part} {k : ItemAnswer i → Plan (c_symbols syntax_trees) m} → g.types ≡ types → Within i → ((a : ItemAnswer i) → KnownItem i a → Keeps (k a) (may_item i a)) → Starts (call (at g i) k)
  first_part same h more = record { later = ((same, h), λ a e. ((more a e).here, (more a e).later)) }

  starts_done : {m : Ask syntax_trees} {o : Answer m} → Starts {m = m} (done o)
  starts_done = record { later = tt }

  pub carrying : {m : Ask syntax_trees} {g : Context} {i : Part} {k : ItemAnswer i → Plan (c_symbols syntax_trees) m} {so_far : Bool} → g.types ≡ types → Fits i × Within i × KnownItem i (grammar.item_value g i) → carried_item i ≡ so_far → may_item i (grammar.item_value g i) ≡ so_far → plan g i b (beginning j) ≡ Some (done (grammar.item_value g i))
      → ((a : ItemAnswer i) → KnownItem i a → Keeps (k a) (may_item i a)) → Keeps (call (at g i) k) so_far
  carrying {m = m} {g = g} {i = i} {k = k} {so_far = so_far} same h carried may stays more = record {
    here = (
      (same, h.0),
      (λ f. sym carried ∙ f),
      (λ f. inr (inr (grammar.item_value g i, ap (plan g i b) (is_b g same) ∙ stays))),
      (λ f. inr (subst (λ v. AtToken c_table (type_notes types) b x (k (grammar.item_value g i)) v) (both so_far (may_item i (grammar.item_value g i)) may) (more (grammar.item_value g i) h.2).here)),
    );
    later = ((same, h.1), λ a e. ((more a e).here, (more a e).later));
  }
    where
      both : (u v : Bool) → v ≡ u → v ≡ u || v
      both true v e = e
      both false v e = refl

  -- statements take the token
  statements_part : {m : Ask syntax_trees} {g : Context} {k : List syntax_trees.Statement → Plan (c_symbols syntax_trees) m} → g.types ≡ types → ((a : List syntax_trees.Statement) → Keeps (k a) false) → Keeps (call (at g (grammar.statements [])) k) true
  statements_part {g = g} same more = record {
    here = ((same, tt), (λ f. absurd cc), (λ f. inl (statements_take types b j is_b [] g same)), (λ f. inl (statements_take types b j is_b [] g same)));
    later = ((same, tt), λ a e. ((more a).here, (more a).later));
  }

  rules : Rules types
  rules = record {
    Keeps = λ {m} p so_far. Keeps {m = m} p so_far;
    Starts = λ {m} p. Starts {m = m} p;
    ends = λ e. ends e;
    marked = λ g e more. marked g e more;
    ordinary = λ g more. ordinary g more;
    token = λ more. token more;
    part = λ g h more. part g h more;
    first_part = λ g h more. first_part g h more;
    starts_done = starts_done;
    carrying = λ g h c e stays more. carrying g h c e (stays b j) more;
    statements_part = λ g more. statements_part g more;
  }

  -- ---- at the two tokens

  abbrev pub Peeks : Context → Part → Type 0
  Peeks g i = Peek c_table (type_notes types) b x (at g i)

  pub alike : (g : Context) → g.types ≡ types → (i : Part) (o : Option (Plan (c_symbols syntax_trees) (at g i))) → plan g i b (beginning j) ≡ o → plan g i x (tokens.basic tokens.float) ≡ o → SameAt c_table (type_notes types) b x (at g i) o → Peeks g i
  alike g t i o e f noted = by_same (at_b g t i o e ∙ sym (at_x g t i o f)) (subst (SameAt c_table (type_notes types) b x (at g i)) (sym (at_b g t i o e)) noted)

  pub kept : (g : Context) → g.types ≡ types → (i : Part) (q : Plan (c_symbols syntax_trees) (at g i)) → plan g i b (beginning j) ≡ Some q → plan g i x (tokens.basic tokens.float) ≡ Some q → Keeps q (carried_item i) → Peeks g i
  kept g t i q e f k = alike g t i (Some q) e f k.here

  pub nothing_at_b : (g : Context) → g.types ≡ types → (i : Part) (q : Plan (c_symbols syntax_trees) (at g i)) (o : ItemAnswer i) → plan g i x (tokens.basic tokens.float) ≡ Some q → Opens c_table (at g i) q x → plan g i b (beginning j) ≡ Some (done o) → may_item i o ≡ true → Peeks g i
  nothing_at_b g t i q o f opens e may = opens_done q o (at_x g t i (Some q) f) opens (at_b g t i (Some (done o)) e) may

  pub taking : (g : Context) (i : Part) → Takes c_table b (at g i) → Peeks g i
  taking g i h = taken h.0 h.1 h.2

  -- parts that take the word
  pub part_typed : {m : Ask syntax_trees} (g : Context) → g.types ≡ types → (i : Part) (k : ItemAnswer i → Plan (c_symbols syntax_trees) m) (q : Plan (c_symbols syntax_trees) (at g i)) → plan g i x (tokens.basic tokens.float) ≡ Some q → Opens c_table (at g i) q x → Opens c_table m (call (at g i) k) x
  part_typed g t i k q e opens = open_call (at_x g t i (Some q) e) opens

  pub specifiers_typed : {m : Ask syntax_trees} (g : Context) → g.types ≡ types → (stores : Bool) (k : Specified syntax_trees → Plan (c_symbols syntax_trees) m) → Opens c_table m (call (at g (grammar.specifiers stores nothing_seen grammar.no_specifiers)) k) x
  specifiers_typed g t stores k = part_typed g t (grammar.specifiers stores nothing_seen grammar.no_specifiers) k _ refl (open_take refl)

  no_operator : (k : ℕ) → k ≤ 13 → (14 == k) ≡ false
  no_operator k h = elim (which (14 == k)) [
    | inl e ↦ let is_k : 14 ≡ k = eqb-true 14 k e in absurd (omega arith)
    | inr e ↦ e
  ]

  operator_opens : (i : Beginning) (g : Context) (k : ℕ) (l : Operand syntax_trees) → Opens c_table (at g (grammar.after k l)) (grammar.operator_plan g k l b (beginning i)) b
  operator_opens (named n) g k l = open_take refl
  operator_opens starred g k l = open_take refl
  operator_opens opened g k l = open_take refl

  pub after_peek : (g : Context) → g.types ≡ types → (k : ℕ) (l : Operand syntax_trees) → k ≤ 13 → (stands_behind k l.unary (beginning j) ≡ true) ⊎ (stands_behind k l.unary (beginning j) ≡ false) → Peeks g (grammar.after k l)
  after_peek g t k l h (inl e) = taken _ (at_b g t (grammar.after k l) _ (if_true (stands_behind k l.unary (beginning j)) _ _ e)) (operator_opens j g k l)
  after_peek g t k l h (inr e) = alike g t (grammar.after k l) (Some (done l)) (if_false (stands_behind k l.unary (beginning j)) _ _ e) (if_false (14 == k) _ _ (no_operator k h)) refl

  pub specifiers_peek : (g : Context) → g.types ≡ types → (stores : Bool) (seen : Seen) (sp : Specified syntax_trees) → plan g (grammar.specifiers stores seen sp) b (beginning j) ≡ grammar.specifiers_plan g stores seen sp b (beginning j) None → (is_typed seen ≡ true) ⊎ (is_typed seen ≡ false) → Peeks g (grammar.specifiers stores seen sp)
  specifiers_peek g t stores seen sp stays (inl e) = alike g t (grammar.specifiers stores seen sp) (Some (done sp)) (stays ∙ if_true (is_typed seen) _ _ e) (ap (grammar.specifiers_plan g stores seen sp x (tokens.basic tokens.float)) (float_later seen.stored seen.signed seen.length seen.base e) ∙ if_true (is_typed seen) _ _ e) refl
  specifiers_peek g t stores seen sp stays (inr e) = opens_none _ (at_x g t (grammar.specifiers stores seen sp) _ (ap (grammar.specifiers_plan g stores seen sp x (tokens.basic tokens.float)) (float_first seen.stored seen.signed seen.length seen.base e))) (open_take refl) (at_b g t (grammar.specifiers stores seen sp) None (stays ∙ if_false (is_typed seen) _ _ e)) refl t

  abbrev parameters_plan : (g : Context) (v : Terminal) (ps : grammar.Parameters syntax_trees) → Plan (c_symbols syntax_trees) (at g (grammar.behind_comma v ps))
  parameters_plan g v ps = call (at g grammar.parameter) (λ p. call (at g (grammar.more_parameters (record { all = syntax_trees.next_parameter ps.all v p.tree; dots = false; behind = p.behind }))) (λ qs. done qs))

  pub comma_peek : (g : Context) → g.types ≡ types → (v : Terminal) (ps : grammar.Parameters syntax_trees) → plan g (grammar.behind_comma v ps) b (beginning j) ≡ Some (parameters_plan g v ps) → plan g (grammar.behind_comma v ps) x (tokens.basic tokens.float) ≡ Some (parameters_plan g v ps) → Peeks g (grammar.behind_comma v ps)
  comma_peek g t v ps e f = kept g t (grammar.behind_comma v ps) (parameters_plan g v ps) e f (part t (tt, tt, refl, tt) (λ p k. carrying t (tt, tt, tt) refl refl (parameters_stay g _ b j) (λ qs k. ends refl)))

  pub declaration_peek : (g : Context) → g.types ≡ types → Peeks g grammar.declaration
  declaration_peek g t = kept g t grammar.declaration _ refl refl (part t (tt, tt, refl, tt) (λ sp e. part t (tt, tt, refl, tt) (λ is e. marked t refl (λ z. ends refl))))

  -- ---- before the token

  pub types_before : (n : Ask syntax_trees) (y : Terminal) → covers_types types n → BeforeAt c_table (type_notes types) b x n (c_table.predict n y)
  unfolding rules
  types_before (at g i) y h = by_start (plan g i y (viewed g.types y.sort)) (item_starts types rules g h.0 i h.1 y (viewed g.types y.sort))
    where
      by_start : (o : Option (Plan (c_symbols syntax_trees) (at g i))) → StartsAt types rules o → BeforeAt c_table (type_notes types) b x (at g i) o
      by_start None s = tt
      by_start (Some q) s = s.later
  types_before (unit us) y h = absurd h
  types_before whole y h = absurd h
