-- Each production of C90's table keeps the notes on names, and so it is told whether a name could stand in a type name's place.
use Rattle.std.proofs.lemmas.Bool.{eqb-true}
use Rattle.std.proofs.Common.{◌≡◌, ◌⊎◌, inl, inr, ℕ, zero, suc, ◌≤◌, Bool, true, false, List, [], Some, None, refl, sym, ap, ◌∙◌, subst, arith}
use Rattle.std.specs.Prelude.{Option, ◌||◌, ◌==◌}
use Rattle.sp_parse_grammar.specs.CTokens as tokens
use Rattle.sp_parse_grammar.specs.CTokens.{Sort, Mark, Seen, is_mark, is_name, view as viewed, add, nothing_seen, is_typed, is_specifier}
use Rattle.sp_parse_grammar.specs.CTable as grammar
use Rattle.sp_parse_grammar.specs.CTable.{Context, AlsoAllowed, Form, Operand, Specified, ItemAnswer, Ask, Answer, at, unit, whole, c_symbols, plan, in_function, in_structure, begins_expression, begins_items, begins_specifiers, begins_other, stands_behind}
use Rattle.sp_parse_grammar.specs.Table.{Plan, done, take, call, asked, Opens, open_take, open_call}
use Rattle.sp_parse_grammar.proofs.CChecked.{if_true, if_false, which}
use Rattle.sp_parse_tokens.specs.Sorts.{Terminal}
use Rattle.sp_parse_tokens.specs.SyntaxTrees.{syntax_trees, c_table}
use Rattle.sp_parse_tokens.specs.Depths.{Part}
use Rattle.sp_parse_fault_laws.proofs.Swaps.{AtToken, Before, BeforeAt, SameAt, Peek, same as by_same, opens_done, opens_none, opens_too, taken, or_false}
use Rattle.sp_parse_fault_laws.proofs.KnownBehind.{is_for_name, NoName, KnownItem}
use Rattle.sp_parse_fault_laws.proofs.Productions.{Rules, StartsAt, item_starts, value_known}
use Rattle.sp_parse_fault_laws.proofs.NameNotes.{name_notes, covers_names, names_at_token, tells_name, may_go_on, may_item, carried_item, Fits, Within, name_no_mark, known_form, suffixed_form, item_no_name, form_open}

module _ (types : List ℕ) (b x : Terminal) (kind number : ℕ) (name_b : is_name b.sort ≡ true) (name_x : is_name x.sort ≡ true) (type_b : (g : Context) → g.types ≡ types → viewed g.types b.sort ≡ tokens.named_type kind) (name_at : (g : Context) → g.types ≡ types → viewed g.types x.sort ≡ tokens.name number) where
  -- a plan that may begin at the token keeps them, and one before which tokens are read
  pub record Keeps {m : Ask syntax_trees} (p : Plan (c_symbols syntax_trees) m) (so_far : Bool) : Type 0 where
    pub here : AtToken c_table (name_notes types) b x p so_far
    pub later : Before c_table (name_notes types) b x p

  pub record Starts {m : Ask syntax_trees} (p : Plan (c_symbols syntax_trees) m) : Type 0 where
    pub later : Before c_table (name_notes types) b x p

  pub ends : {m : Ask syntax_trees} {o : Answer m} {so_far : Bool} → may_go_on m o ≡ so_far → Keeps {m = m} (done o) so_far
  ends e = record { here = e; later = tt }

  mark_here : {m : Ask syntax_trees} (g : Context) (p : AlsoAllowed) (t : Mark) (k : Terminal → Plan (c_symbols syntax_trees) m) (so_far : Bool) → g.types ≡ types → is_for_name p ≡ so_far → AtToken c_table (name_notes types) b x (take (grammar.only g p t) k) so_far
  mark_here g p t k so_far same e = λ f. (e ∙ sym (ap (λ i. so_far || i) (name_no_mark t x.sort name_x) ∙ or_false so_far), same)

  -- a mark, with what might stand there besides
  pub marked : {m : Ask syntax_trees} {g : Context} {p : AlsoAllowed} {t : Mark} {k : Terminal → Plan (c_symbols syntax_trees) m} {so_far : Bool} → g.types ≡ types → is_for_name p ≡ so_far → ((y : Terminal) → Keeps (k y) false) → Keeps (take (grammar.only g p t) k) so_far
  marked {g = g} {p = p} {t = t} {k = k} {so_far = so_far} same e more = record { here = mark_here g p t k so_far same e; later = λ y f. ((more y).here, (more y).later) }

  pub plainly : {m : Ask syntax_trees} {g : Context} {t : Mark} {k : Terminal → Plan (c_symbols syntax_trees) m} → g.types ≡ types → ((y : Terminal) → Keeps (k y) false) → Keeps (take (grammar.only g grammar.plainly t) k) false
  plainly same more = marked same refl more

  -- any name
  pub ordinary : {m : Ask syntax_trees} {g : Context} {k : Terminal → Plan (c_symbols syntax_trees) m} → ((y : Terminal) → Keeps (k y) false) → Keeps (take (grammar.ordinary g) k) false
  ordinary more = record { here = λ f. absurd (let e = name_b in cc); later = λ y f. ((more y).here, (more y).later) }

  pub token : {m : Ask syntax_trees} {k : Terminal → Plan (c_symbols syntax_trees) m} → ((y : Terminal) → Keeps (k y) false) → Starts (take grammar.any k)
  token more = record { later = λ y f. ((more y).here, (more y).later) }

  -- a part behind a token
  pub part : {m : Ask syntax_trees} {g : Context} {i : Part} {k : ItemAnswer i → Plan (c_symbols syntax_trees) m} → g.types ≡ types → Fits i × Within i × (carried_item i ≡ false) × KnownItem i (grammar.item_value g i) → ((a : ItemAnswer i) → KnownItem i a → Keeps (k a) (may_item i a)) → Keeps (call (at g i) k) false
  part {g = g} {i = i} same h more = record {
    here = ((same, h.0), (λ f. let apart : true ≡ false = sym f ∙ h.2 in absurd cc), (λ f. absurd cc), (λ f. inr (more (grammar.item_value g i) h.3).here));
    later = ((same, h.1), λ a e. ((more a e).here, (more a e).later));
  }

  -- the first part of a production
  pub first_part : {m : Ask syntax_trees} {g : Context} {i : Part} {k : ItemAnswer i → Plan (c_symbols syntax_trees) m} → g.types ≡ types → Within i → ((a : ItemAnswer i) → KnownItem i a → Keeps (k a) (may_item i a)) → Starts (call (at g i) k)
  first_part same h more = record { later = ((same, h), λ a e. ((more a e).here, (more a e).later)) }

  pub starts_done : {m : Ask syntax_trees} {o : Answer m} → Starts {m = m} (done o)
  starts_done = record { later = tt }

  -- A part that carries what could go on before it, and reads nothing at the token.
  pub carrying : {m : Ask syntax_trees} {g : Context} {i : Part} {k : ItemAnswer i → Plan (c_symbols syntax_trees) m} {so_far : Bool} → g.types ≡ types → Fits i × Within i × KnownItem i (grammar.item_value g i) → carried_item i ≡ so_far → may_item i (grammar.item_value g i) ≡ so_far → plan g i b (tokens.named_type kind) ≡ Some (done (grammar.item_value g i))
      → ((a : ItemAnswer i) → KnownItem i a → Keeps (k a) (may_item i a)) → Keeps (call (at g i) k) so_far
  carrying {m = m} {g = g} {i = i} {k = k} {so_far = so_far} same h carried may stays more = record {
    here = (
      (same, h.0),
      (λ f. sym carried ∙ f),
      (λ f. inr (inr (grammar.item_value g i, ap (plan g i b) (type_b g same) ∙ stays))),
      (λ f. inr (subst (λ v. AtToken c_table (name_notes types) b x (k (grammar.item_value g i)) v) (both so_far (may_item i (grammar.item_value g i)) may) (more (grammar.item_value g i) h.2).here)),
    );
    later = ((same, h.1), λ a e. ((more a e).here, (more a e).later));
  }
    where
      both : (u v : Bool) → v ≡ u → v ≡ u || v
      both true v e = e
      both false v e = refl

  -- the suffixes of a declarator
  pub suffixed : {m : Ask syntax_trees} {g : Context} {k : grammar.Declared syntax_trees → Plan (c_symbols syntax_trees) m} (f : Form) (d : grammar.Declared syntax_trees) → g.types ≡ types → NoName f d.behind → ((e : grammar.Declared syntax_trees) → (is_for_name d.behind ≡ false → is_for_name e.behind ≡ false) → Keeps (k e) (is_for_name e.behind)) → Keeps (call (at g (grammar.declarator_suffixes d)) k) (form_open f d.behind)
  suffixed f d same known more = carrying same (tt, tt, λ h. h) (known_form f d.behind known) (known_form f d.behind known) refl more

  -- ---- the rules of these notes

  rules : Rules types
  rules = record {
    Keeps = λ {m} p so_far. Keeps {m = m} p so_far;
    Starts = λ {m} p. Starts {m = m} p;
    ends = λ e. ends e;
    marked = λ g e more. marked g e more;
    ordinary = λ g more. ordinary more;
    token = λ more. token more;
    part = λ g h more. part g h more;
    first_part = λ g h more. first_part g h more;
    starts_done = starts_done;
    carrying = λ g h c e stays more. carrying g h c e (stays b kind) more;
  }

  -- ---- at the two tokens

  abbrev Peeks : Context → Part → Type 0
  Peeks g i = Peek c_table (name_notes types) b x (at g i)

  at_b : (g : Context) → g.types ≡ types → (i : Part) (o : Option (Plan (c_symbols syntax_trees) (at g i))) → plan g i b (tokens.named_type kind) ≡ o → c_table.predict (at g i) b ≡ o
  at_b g t i o e = ap (plan g i b) (type_b g t) ∙ e

  at_x : (g : Context) → g.types ≡ types → (i : Part) (o : Option (Plan (c_symbols syntax_trees) (at g i))) → plan g i x (tokens.name number) ≡ o → c_table.predict (at g i) x ≡ o
  at_x g t i o e = ap (plan g i x) (name_at g t) ∙ e

  alike : (g : Context) → g.types ≡ types → (i : Part) (o : Option (Plan (c_symbols syntax_trees) (at g i))) → plan g i b (tokens.named_type kind) ≡ o → plan g i x (tokens.name number) ≡ o → SameAt c_table (name_notes types) b x (at g i) o → Peeks g i
  alike g t i o e f noted = by_same (at_b g t i o e ∙ sym (at_x g t i o f)) (subst (SameAt c_table (name_notes types) b x (at g i)) (sym (at_b g t i o e)) noted)

  kept : (g : Context) → g.types ≡ types → (i : Part) (q : Plan (c_symbols syntax_trees) (at g i)) → plan g i b (tokens.named_type kind) ≡ Some q → plan g i x (tokens.name number) ≡ Some q → Keeps q (carried_item i) → Peeks g i
  kept g t i q e f k = alike g t i (Some q) e f k.here

  both_named : (g : Context) → g.types ≡ types → (i : Part) (q p : Plan (c_symbols syntax_trees) (at g i)) → plan g i x (tokens.name number) ≡ Some q → Opens c_table (at g i) q x → plan g i b (tokens.named_type kind) ≡ Some p → Opens c_table (at g i) p x → Keeps p (carried_item i) → Peeks g i
  both_named g t i q p f opens e old k = opens_too q p (at_x g t i (Some q) f) opens (at_b g t i (Some p) e) old k.here

  nothing_at_b : (g : Context) → g.types ≡ types → (i : Part) (q : Plan (c_symbols syntax_trees) (at g i)) (o : ItemAnswer i) → plan g i x (tokens.name number) ≡ Some q → Opens c_table (at g i) q x → plan g i b (tokens.named_type kind) ≡ Some (done o) → may_item i o ≡ true → Peeks g i
  nothing_at_b g t i q o f opens e may = opens_done q o (at_x g t i (Some q) f) opens (at_b g t i (Some (done o)) e) may

  named_at_x : (g : Context) → g.types ≡ types → (i : Part) (q : Plan (c_symbols syntax_trees) (at g i)) → plan g i x (tokens.name number) ≡ Some q → Opens c_table (at g i) q x → plan g i b (tokens.named_type kind) ≡ None → tells_name (asked (at g i)) ≡ true → Peeks g i
  named_at_x g t i q f opens e tells = opens_none q (at_x g t i (Some q) f) opens (at_b g t i None e) tells t

  takes_b : (g : Context) → g.types ≡ types → (i : Part) (q : Plan (c_symbols syntax_trees) (at g i)) → plan g i b (tokens.named_type kind) ≡ Some q → Opens c_table (at g i) q b → Peeks g i
  takes_b g t i q e opens = taken q (at_b g t i (Some q) e) opens

  -- parts that take the type name
  part_takes : {m : Ask syntax_trees} (g : Context) → g.types ≡ types → (i : Part) (k : ItemAnswer i → Plan (c_symbols syntax_trees) m) (q : Plan (c_symbols syntax_trees) (at g i)) → plan g i b (tokens.named_type kind) ≡ Some q → Opens c_table (at g i) q b → Opens c_table m (call (at g i) k) b
  part_takes g t i k q e opens = open_call (at_b g t i (Some q) e) opens

  specifiers_take : {m : Ask syntax_trees} (g : Context) → g.types ≡ types → (stores : Bool) (sp : Specified syntax_trees) (k : Specified syntax_trees → Plan (c_symbols syntax_trees) m) → Opens c_table m (call (at g (grammar.specifiers stores nothing_seen sp)) k) b
  specifiers_take g t stores sp k = part_takes g t (grammar.specifiers stores nothing_seen sp) k _ refl (open_take refl)

  parameter_takes : {m : Ask syntax_trees} (g : Context) → g.types ≡ types → (k : grammar.Given syntax_trees → Plan (c_symbols syntax_trees) m) → Opens c_table m (call (at g grammar.parameter) k) b
  parameter_takes g t k = part_takes g t grammar.parameter k _ refl (specifiers_take g t true grammar.no_specifiers _)

  type_name_takes : {m : Ask syntax_trees} (g : Context) → g.types ≡ types → (k : grammar.Named syntax_trees → Plan (c_symbols syntax_trees) m) → Opens c_table m (call (at g grammar.type_name) k) b
  type_name_takes g t k = part_takes g t grammar.type_name k _ refl (specifiers_take g t false grammar.no_specifiers _)

  parameters_take : {m : Ask syntax_trees} (g : Context) → g.types ≡ types → (k : grammar.Parameters syntax_trees → Plan (c_symbols syntax_trees) m) → Opens c_table m (call (at g grammar.parameters) k) b
  parameters_take g t k = part_takes g t grammar.parameters k _ refl (parameter_takes g t _)

  -- parts that take the name
  part_named : {m : Ask syntax_trees} (g : Context) → g.types ≡ types → (i : Part) (k : ItemAnswer i → Plan (c_symbols syntax_trees) m) (q : Plan (c_symbols syntax_trees) (at g i)) → plan g i x (tokens.name number) ≡ Some q → Opens c_table (at g i) q x → Opens c_table m (call (at g i) k) x
  part_named g t i k q e opens = open_call (at_x g t i (Some q) e) opens

  level_opens : (g : Context) → g.types ≡ types → (l : ℕ) → (q : Plan (c_symbols syntax_trees) (at g (grammar.level l))) × (c_table.predict (at g (grammar.level l)) x ≡ Some q) × Opens c_table (at g (grammar.level l)) q x
  level_opens g t zero = (_, at_x g t (grammar.level zero) _ refl, part_named g t grammar.unary _ _ refl (part_named g t grammar.primary _ _ refl (open_take refl)))
  level_opens g t (suc l) = let inner = level_opens g t l in (_, at_x g t (grammar.level (suc l)) _ refl, open_call inner.1 inner.2)

  level_named : {m : Ask syntax_trees} (g : Context) → g.types ≡ types → (l : ℕ) (k : Operand syntax_trees → Plan (c_symbols syntax_trees) m) → Opens c_table m (call (at g (grammar.level l)) k) x
  level_named g t l k = let inner = level_opens g t l in open_call inner.1 inner.2

  no_operator : (k : ℕ) → k ≤ 13 → (14 == k) ≡ false
  no_operator k h = elim (which (14 == k)) [
    | inl e ↦ let is_k : 14 ≡ k = eqb-true 14 k e in absurd (omega arith)
    | inr e ↦ e
  ]

  specifiers_peek : (g : Context) → g.types ≡ types → (stores : Bool) (seen : Seen) (sp : Specified syntax_trees) → (is_typed seen ≡ true) ⊎ (is_typed seen ≡ false) → Peeks g (grammar.specifiers stores seen sp)
  specifiers_peek g t stores seen sp (inl e) = alike g t (grammar.specifiers stores seen sp) (Some (done sp)) (ap (grammar.specifiers_plan g stores seen sp b (tokens.named_type kind)) (if_true (is_typed seen) _ _ e) ∙ if_true (is_typed seen) _ _ e) (if_true (is_typed seen) _ _ e) refl
  specifiers_peek g t stores seen sp (inr e) = takes_b g t (grammar.specifiers stores seen sp) _ (ap (grammar.specifiers_plan g stores seen sp b (tokens.named_type kind)) (if_false (is_typed seen) _ _ e)) (open_take refl)

  item_peeks : (g : Context) → g.types ≡ types → (i : Part) → Fits i → Peeks g i
  -- expressions
  item_peeks g t (grammar.level zero) h = kept g t (grammar.level zero) _ refl refl (part t (tt, tt, refl, tt) (λ e k. ends refl))
  item_peeks g t (grammar.level (suc k)) h = kept g t (grammar.level (suc k)) _ refl refl (part t (omega (arith, h), omega (arith, h), refl, tt) (λ l e. part t (h, h, refl, tt) (λ o e. ends refl)))
  item_peeks g t (grammar.after k l) h = let none = no_operator k h in alike g t (grammar.after k l) (Some (done l)) (if_false (14 == k) _ _ none) (if_false (14 == k) _ _ none) refl
  item_peeks g t (grammar.tail zero l) h = alike g t (grammar.tail zero l) _ refl refl refl
  item_peeks g t (grammar.tail (suc k) l) h = kept g t (grammar.tail (suc k) l) _ refl refl (part t (omega arith, omega arith, refl, tt) (λ o e. part t (tt, tt, refl, tt) (λ p e. ends refl)))
  item_peeks g t (grammar.behind_open v) h = takes_b g t (grammar.behind_open v) _ refl (type_name_takes g t _)
  item_peeks g t grammar.unary h = kept g t grammar.unary _ refl refl (part t (tt, tt, refl, tt) (λ e k. part t (tt, tt, refl, tt) (λ f k. ends refl)))
  item_peeks g t (grammar.behind_sizeof v) h = kept g t (grammar.behind_sizeof v) _ refl refl (part t (tt, tt, refl, tt) (λ e k. ends refl))
  item_peeks g t (grammar.inside_sizeof v w) h = takes_b g t (grammar.inside_sizeof v w) _ refl (type_name_takes g t _)
  item_peeks g t grammar.primary h = named_at_x g t grammar.primary _ refl (open_take refl) refl refl
  item_peeks g t (grammar.texts xs) h = alike g t (grammar.texts xs) _ refl refl refl
  item_peeks g t (grammar.suffixes f) h = alike g t (grammar.suffixes f) _ refl refl refl
  item_peeks g t grammar.arguments h = nothing_at_b g t grammar.arguments _ [] refl (level_named g t 12 _) refl refl
  item_peeks g t (grammar.more_arguments es) h = alike g t (grammar.more_arguments es) _ refl refl refl
  -- specifiers and type names
  item_peeks g t grammar.type_name h = takes_b g t grammar.type_name _ refl (specifiers_take g t false grammar.no_specifiers _)
  item_peeks g t grammar.optional_specifiers h = takes_b g t grammar.optional_specifiers _ refl (specifiers_take g t true grammar.no_specifiers _)
  item_peeks g t (grammar.specifiers stores seen sp) h = specifiers_peek g t stores seen sp (which (is_typed seen))
  item_peeks g t (grammar.behind_struct v) h = takes_b g t (grammar.behind_struct v) _ refl (open_take refl)
  item_peeks g t (grammar.behind_enum v) h = takes_b g t (grammar.behind_enum v) _ refl (open_take refl)
  item_peeks g t (grammar.struct_body v w) h = alike g t (grammar.struct_body v w) _ refl refl refl
  item_peeks g t (grammar.enum_body v w) h = alike g t (grammar.enum_body v w) _ refl refl refl
  item_peeks g t grammar.member h = takes_b g t grammar.member _ refl (specifiers_take g t false grammar.no_specifiers _)
  item_peeks g t grammar.enumerator h = named_at_x g t grammar.enumerator _ refl (open_take refl) refl refl
  item_peeks g t grammar.value_of h = alike g t grammar.value_of _ refl refl refl
  item_peeks g t (grammar.members ds) h = takes_b g t (grammar.members ds) _ refl (part_takes g t grammar.member _ _ refl (specifiers_take g t false grammar.no_specifiers _))
  item_peeks g t (grammar.member_items is) h = alike g t (grammar.member_items is) _ refl refl refl
  item_peeks g t (grammar.enumerators es) h = alike g t (grammar.enumerators es) _ refl refl refl
  -- declarators
  item_peeks g t (grammar.qualifiers xs) h = alike g t (grammar.qualifiers xs) _ refl refl refl
  item_peeks g t (grammar.declarator f) h = kept g t (grammar.declarator f) _ refl refl (part t (tt, tt, refl, value_known g f) (λ d e. suffixed f d t e (λ o k. ends (suffixed_form f d.behind o.behind e k))))
  item_peeks g t (grammar.direct grammar.concrete) h = named_at_x g t (grammar.direct grammar.concrete) _ refl (open_take refl) refl refl
  item_peeks g t (grammar.direct grammar.abstract) h = alike g t (grammar.direct grammar.abstract) _ refl refl refl
  item_peeks g t (grammar.direct grammar.either) h = nothing_at_b g t (grammar.direct grammar.either) _ _ refl (open_take refl) refl refl
  item_peeks g t (grammar.group grammar.concrete) h = named_at_x g t (grammar.group grammar.concrete) _ refl (open_take refl) refl refl
  item_peeks g t (grammar.group grammar.abstract) h = alike g t (grammar.group grammar.abstract) None refl refl (refl, t)
  item_peeks g t (grammar.group grammar.either) h = absurd h
  item_peeks g t (grammar.behind_group grammar.concrete v) h = kept g t (grammar.behind_group grammar.concrete v) _ refl refl (part t (tt, tt, refl, refl) (λ d e. marked t (known_form grammar.concrete d.behind e) (λ z. ends refl)))
  item_peeks g t (grammar.behind_group grammar.abstract v) h = takes_b g t (grammar.behind_group grammar.abstract v) _ refl (parameters_take g t _)
  item_peeks g t (grammar.behind_group grammar.either v) h = takes_b g t (grammar.behind_group grammar.either v) _ refl (parameters_take g t _)
  item_peeks g t (grammar.declarator_suffixes d) h = alike g t (grammar.declarator_suffixes d) _ refl refl refl
  item_peeks g t grammar.array_length h = nothing_at_b g t grammar.array_length _ None refl (level_named g t 11 _) refl refl
  item_peeks g t grammar.parameters h = takes_b g t grammar.parameters _ refl (parameter_takes g t _)
  item_peeks g t grammar.parameter h = takes_b g t grammar.parameter _ refl (specifiers_take g t true grammar.no_specifiers _)
  item_peeks g t (grammar.more_parameters ps) h = alike g t (grammar.more_parameters ps) _ refl refl refl
  item_peeks g t (grammar.behind_comma v ps) h = takes_b g t (grammar.behind_comma v ps) _ refl (parameter_takes g t _)
  -- initialisers and declarations
  item_peeks g t grammar.init h = kept g t grammar.init _ refl refl (part t (omega arith, omega arith, refl, tt) (λ o e. ends refl))
  item_peeks g t (grammar.inits is) h = alike g t (grammar.inits is) _ refl refl refl
  item_peeks g t (grammar.behind_init_comma is) h = nothing_at_b g t (grammar.behind_init_comma is) _ _ refl (part_named g t grammar.init _ _ refl (level_named g t 12 _)) refl refl
  item_peeks g t grammar.declaration h = takes_b g t grammar.declaration _ refl (specifiers_take g t true grammar.no_specifiers _)
  item_peeks g t grammar.items h = nothing_at_b g t grammar.items _ _ refl (part_named g t grammar.item _ _ refl (part_named g t (grammar.declarator grammar.concrete) _ _ refl (part_named g t (grammar.direct grammar.concrete) _ _ refl (open_take refl)))) refl refl
  item_peeks g t grammar.item h = kept g t grammar.item _ refl refl (part t (tt, tt, refl, refl) (λ d e. part t (tt, tt, refl, tt) (λ v e. ends (item_no_name d.behind v))))
  item_peeks g t grammar.initial h = alike g t grammar.initial _ refl refl refl
  item_peeks g t (grammar.declarations ds) h = takes_b g t (grammar.declarations ds) _ refl (part_takes g t grammar.declaration _ _ refl (specifiers_take g t true grammar.no_specifiers _))
  item_peeks g t (grammar.more_items is) h = alike g t (grammar.more_items is) _ refl refl refl
  -- statements
  item_peeks g t grammar.statement h = both_named g t grammar.statement _ _ refl (open_take refl) refl (level_named g t 13 _) (part t (omega arith, omega arith, refl, tt) (λ o e. plainly t (λ z. ends refl)))
  item_peeks g t (grammar.behind_name v) h = kept g t (grammar.behind_name v) _ refl refl (part t (tt, tt, refl, tt) (λ e k. part t (tt, tt, refl, tt) (λ o k. plainly t (λ z. ends refl))))
  item_peeks g t grammar.else_part h = alike g t grammar.else_part _ refl refl refl
  item_peeks g t grammar.optional_expression h = nothing_at_b g t grammar.optional_expression _ None refl (level_named g t 13 _) refl refl
  item_peeks g t (grammar.statements ss) h = nothing_at_b g t (grammar.statements ss) _ ss refl (part_named g t grammar.statement _ _ refl (open_take refl)) refl refl
  -- external declarations
  item_peeks g t grammar.external h = takes_b g t grammar.external _ refl (specifiers_take g t true grammar.no_specifiers _)
  item_peeks g t (grammar.external_items sp) h = kept g t (grammar.external_items sp) _ refl refl (part t (tt, tt, refl, refl) (λ d e. part t (tt, tt, refl, tt) (λ r e. ends refl)))
  item_peeks g t (grammar.behind_declarator sp d) h = kept g t (grammar.behind_declarator sp d) _ refl refl (part t (tt, tt, refl, tt) (λ v e. part t (tt, tt, item_no_name d.behind v, tt) (λ is e. marked t refl (λ z. ends refl))))

  -- ---- the claims of both tokens

  pub names_before : (n : Ask syntax_trees) (y : Terminal) → covers_names types n → BeforeAt c_table (name_notes types) b x n (c_table.predict n y)
  unfolding rules
  names_before (at g i) y h = by_plan (plan g i y (viewed g.types y.sort)) (item_starts types rules g h.0 i h.1 y (viewed g.types y.sort))
    where
      by_plan : (o : Option (Plan (c_symbols syntax_trees) (at g i))) → StartsAt types rules o → BeforeAt c_table (name_notes types) b x (at g i) o
      by_plan None s = tt
      by_plan (Some q) s = s.later
  names_before (unit us) y h = absurd h
  names_before whole y h = absurd h

  pub names_peek : (n : Ask syntax_trees) → names_at_token types n → Peek c_table (name_notes types) b x n
  names_peek (at g i) h = item_peeks g h.0 i h.1
  names_peek (unit us) h = absurd h
  names_peek whole h = absurd h

  -- an external declaration takes the type name
  pub external_takes : (g : Context) → g.types ≡ types → (q : Plan (c_symbols syntax_trees) (at g grammar.external)) × (c_table.predict (at g grammar.external) b ≡ Some q) × Opens c_table (at g grammar.external) q b
  external_takes g t = (_, at_b g t grammar.external _ refl, specifiers_take g t true grammar.no_specifiers _)
