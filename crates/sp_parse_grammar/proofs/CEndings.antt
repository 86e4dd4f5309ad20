-- Each item of C90's grammar is completed as the table says; so the laws of reading and failing hold of it.
use Rattle.std.proofs.Common.{◌≡◌, ℕ, zero, suc, ◌-◌, ◌<◌, Bool, true, false, inl, inr, List, [], ◌∷◌, ◌++◌, Some, None, refl, sym, ap, ◌∙◌, subst, arith, eq-eqb}
use Rattle.std.specs.Prelude.{is_some, ◌==◌, ◌&&◌, ◌||◌}
use Rattle.std.proofs.lemmas.Bool.{eqb-true}
use Rattle.sp_parse_grammar.specs.Table.{done, ask, Reads, read_done, read_take, read_call}
use Rattle.sp_parse_grammar.specs.Checked.{Checked}
use Rattle.sp_parse_grammar.specs.CTokens as tokens
use Rattle.sp_parse_grammar.specs.CTokens.{Token, Mark, Sort, Seen, view, is_mark, looseness, is_specifier, is_declaring, nothing_seen, is_typed, typed, add, above}
use Rattle.sp_parse_grammar.specs.CTrees.{Trees, TokenOf}
use Rattle.sp_parse_grammar.specs.CTable as grammar
use Rattle.sp_parse_grammar.specs.CTable.{Context, Operand, Specified, Declared, Form, Item, ItemAnswer, Ask, at, unit, whole, Class, any, c_symbols, plan, c90, stands_behind, begins_expression, Stops, ItemStops, item_ending, item_value, ending, value, a_constant, a_mark, fresh, int_word, zero_number}
use Rattle.sp_parse_grammar.proofs.Readings.{join, at_answer, at_tokens}
use Rattle.sp_parse_grammar.proofs.CChecked.{if_true, if_false, which, fresh_view, no_qualifier, no_head, productions, fresh_is}

apart_above : (a b : ℕ) → b < a → (a == b) ≡ false
apart_above a b less = elim (which (a == b)) [
  | inl e ↦ let same : a ≡ b = eqb-true a b e in absurd (omega arith)
  | inr e ↦ e
]

and_false : (u b : Bool) → b ≡ false → u && b ≡ false
and_false true b e = e
and_false false b e = refl

or_false : (b : Bool) → b || false ≡ b
or_false true = refl
or_false false = refl

not_behind : (k : ℕ) (u : Bool) (s : Sort) → k < looseness s → stands_behind k u s ≡ false
not_behind k u (tokens.mark tokens.equal) h = and_false u (12 == k) (apart_above 12 k h)
not_behind k u tokens.assigning h = and_false u (12 == k) (apart_above 12 k h)
not_behind k u s h = apart_above (looseness s) k h

no_comma : (s : Sort) → 13 < looseness s → is_mark tokens.comma s ≡ false
no_comma (tokens.mark tokens.comma) h = absurd (omega arith)
no_comma _ h = refl

no_equal : (s : Sort) → 12 < looseness s → is_mark tokens.equal s ≡ false
no_equal (tokens.mark tokens.equal) h = absurd (omega arith)
no_equal _ h = refl

no_star : (s : Sort) → is_declaring s ≡ false → is_mark tokens.star s ≡ false
no_star (tokens.mark tokens.star) h = absurd cc
no_star _ h = refl

add_none : (stores inside : Bool) (seen : Seen) (s : Sort) → is_specifier s ≡ false → add stores inside seen s ≡ None
add_none stores inside seen (tokens.named_type n) h = absurd cc
add_none stores inside seen tokens.storage h = absurd cc
add_none stores inside seen tokens.qualifier h = absurd cc
add_none stores inside seen (tokens.basic w) h = absurd cc
add_none stores inside seen (tokens.mark tokens.struct) h = absurd cc
add_none stores inside seen (tokens.mark tokens.enum) h = absurd cc
add_none stores inside seen (tokens.mark tokens.typedef) h = absurd cc
add_none stores inside seen _ h = refl

-- where no type specifier was seen, `int` may stand
int_seen : (stored signed : Bool) (length : tokens.Length) (base : tokens.Base) → typed signed length base ≡ false → tokens.add_word stored tokens.int signed length base ≡ Some (record { stored = stored; signed = false; length = tokens.plain_length; base = tokens.int_base })
int_seen stored false tokens.plain_length tokens.no_base e = refl
int_seen stored _ _ _ e = absurd cc

module _ (t : Trees) where
  abbrev Ends : (g : Context) (i : Item t) → TokenOf t → List (TokenOf t) → Type 0
  Ends g i z zs = Reads (c90 t) (at g i) (ask (at g i)) (item_ending g i ++ z ∷ zs) (item_value g i) (z ∷ zs)

  here : (g : Context) (i : Item t) (z : TokenOf t) (zs : List (TokenOf t)) (o : ItemAnswer i) → plan {t = t} g i z (view g.types z.sort) ≡ Some (done o) → Reads (c90 t) (at g i) (ask (at g i)) (z ∷ zs) o (z ∷ zs)
  here g i z zs o e = read_call e read_done read_done

  after_end : (g : Context) (k : ℕ) (l : Operand t) (z : TokenOf t) (zs : List (TokenOf t)) → k < looseness (view g.types z.sort) → Ends g (grammar.after k l) z zs
  after_end g k l z zs h = here g (grammar.after k l) z zs l (if_false (stands_behind k l.unary (view g.types z.sort)) _ _ (not_behind k l.unary (view g.types z.sort) h))

  tail_end : (g : Context) (k : ℕ) (l : Operand t) (z : TokenOf t) (zs : List (TokenOf t)) → 13 < looseness (view g.types z.sort) → Ends g (grammar.tail k l) z zs
  tail_end g zero l z zs h = here g (grammar.tail zero l) z zs l refl
  tail_end g (suc k) l z zs h = read_call refl (join (after_end g (13 - k) l z zs (omega arith)) (join (tail_end g k l z zs h) read_done)) read_done

  suffixes_plan : (g : Context) (f : t.Expr) (z : TokenOf t) (s : Sort) → 0 < looseness s → plan {t = t} g (grammar.suffixes f) z s ≡ Some (done f)
  suffixes_plan g f z (tokens.mark tokens.bracket) h = absurd (omega arith)
  suffixes_plan g f z (tokens.mark tokens.opening) h = absurd (omega arith)
  suffixes_plan g f z (tokens.mark tokens.member) h = absurd (omega arith)
  suffixes_plan g f z (tokens.mark tokens.step) h = absurd (omega arith)
  suffixes_plan g f z _ h = refl

  suffixes_end : (g : Context) (f : t.Expr) (z : TokenOf t) (zs : List (TokenOf t)) → 0 < looseness (view g.types z.sort) → Ends g (grammar.suffixes f) z zs
  suffixes_end g f z zs h = here g (grammar.suffixes f) z zs f (suffixes_plan g f z (view g.types z.sort) h)

  texts_plan : (g : Context) (xs : List (TokenOf t)) (z : TokenOf t) (s : Sort) → 0 < looseness s → plan {t = t} g (grammar.texts xs) z s ≡ Some (done xs)
  texts_plan g xs z tokens.text h = absurd (omega arith)
  texts_plan g xs z _ h = refl

  primary_end : (g : Context) (zs : List (TokenOf t)) → Reads (c90 t) (at g grammar.primary) (ask (at g grammar.primary)) (a_constant t ∷ zs) (zero_number t) zs
  primary_end g zs = read_call refl (read_take refl read_done) read_done

  unary_end : (g : Context) (z : TokenOf t) (zs : List (TokenOf t)) → 0 < looseness (view g.types z.sort) → Ends g grammar.unary z zs
  unary_end g z zs h = read_call refl (join (primary_end g (z ∷ zs)) (join (suffixes_end g (zero_number t) z zs h) read_done)) read_done

  level_end : (g : Context) (k : ℕ) (z : TokenOf t) (zs : List (TokenOf t)) → k < looseness (view g.types z.sort) → Ends g (grammar.level k) z zs
  level_end g zero z zs h = read_call refl (join (unary_end g z zs h) read_done) read_done
  level_end g (suc k) z zs h = read_call refl (join (level_end g k z zs (omega arith)) (join (after_end g (suc k) (grammar.operand (zero_number t) true) z zs h) read_done)) read_done

  -- ---- specifiers

  typed_end : (g : Context) (stores : Bool) (seen : Seen) (sp : Specified t) (z : TokenOf t) (zs : List (TokenOf t)) → is_typed seen ≡ true → is_specifier (view g.types z.sort) ≡ false → Reads (c90 t) (at g (grammar.specifiers stores seen sp)) (ask (at g (grammar.specifiers stores seen sp))) (z ∷ zs) sp (z ∷ zs)
  typed_end g stores seen sp z zs e h =
      let none = add_none stores g.inside seen (view g.types z.sort) h in
      here g (grammar.specifiers stores seen sp) z zs sp (ap (grammar.specifiers_plan g stores seen sp z (view g.types z.sort)) none ∙ if_true (is_typed seen) (Some (done sp)) None e)

  int_end : (g : Context) (stores : Bool) (seen : Seen) (sp : Specified t) (z : TokenOf t) (zs : List (TokenOf t)) → is_typed seen ≡ false → is_specifier (view g.types z.sort) ≡ false → Reads (c90 t) (at g (grammar.specifiers stores seen sp)) (ask (at g (grammar.specifiers stores seen sp))) (int_word t ∷ z ∷ zs) (grammar.with_int sp) (z ∷ zs)
  int_end g stores seen sp z zs e h =
      let new : Seen = record { stored = seen.stored; signed = false; length = tokens.plain_length; base = tokens.int_base } in
      let more : Specified t = record { all = sp.all ++ t.word (int_word t) ∷ []; typedefs = sp.typedefs || false } in
      let chosen = ap (grammar.specifiers_plan g stores seen sp (int_word t) (tokens.basic tokens.int)) (int_seen seen.stored seen.signed seen.length seen.base e) in
      let same : more ≡ grammar.with_int sp = ap (λ b. let r : Specified t = record { all = sp.all ++ t.word (int_word t) ∷ []; typedefs = b } in r) (or_false sp.typedefs) in
      at_answer same (read_call chosen (read_take refl (join (typed_end g stores new more z zs refl h) read_done)) read_done)

  specifiers_end : (g : Context) (stores : Bool) (seen : Seen) (sp : Specified t) (z : TokenOf t) (zs : List (TokenOf t)) → is_specifier (view g.types z.sort) ≡ false → Ends g (grammar.specifiers stores seen sp) z zs
  specifiers_end g stores seen sp z zs h = elim (which (is_typed seen)) [
    | inl e ↦ at_tokens (ap (λ v. v ++ z ∷ zs) (sym (if_true (is_typed seen) [] (int_word t ∷ []) e))) (at_answer (sym (if_true (is_typed seen) sp (grammar.with_int sp) e)) (typed_end g stores seen sp z zs e h))
    | inr e ↦ at_tokens (ap (λ v. v ++ z ∷ zs) (sym (if_false (is_typed seen) [] (int_word t ∷ []) e))) (at_answer (sym (if_false (is_typed seen) sp (grammar.with_int sp) e)) (int_end g stores seen sp z zs e h))
  ]

  -- ---- declarators

  qualifiers_plan : (g : Context) (xs : List (TokenOf t)) (z : TokenOf t) (s : Sort) → grammar.is_qualifier s ≡ false → plan {t = t} g (grammar.qualifiers xs) z s ≡ Some (done xs)
  qualifiers_plan g xs z tokens.qualifier h = absurd cc
  qualifiers_plan g xs z _ h = refl

  declarator_suffixes_plan : (g : Context) (d : Declared t) (z : TokenOf t) (s : Sort) → is_declaring s ≡ false → plan {t = t} g (grammar.declarator_suffixes d) z s ≡ Some (done d)
  declarator_suffixes_plan g d z (tokens.mark tokens.bracket) h = absurd cc
  declarator_suffixes_plan g d z (tokens.mark tokens.opening) h = absurd cc
  declarator_suffixes_plan g d z _ h = refl

  declarator_suffixes_end : (g : Context) (d : Declared t) (z : TokenOf t) (zs : List (TokenOf t)) → is_declaring (view g.types z.sort) ≡ false → Ends g (grammar.declarator_suffixes d) z zs
  declarator_suffixes_end g d z zs h = here g (grammar.declarator_suffixes d) z zs d (declarator_suffixes_plan g d z (view g.types z.sort) h)

  abstract_plan : (g : Context) (z : TokenOf t) (s : Sort) → grammar.is_declaring_head s ≡ false → plan {t = t} g (grammar.direct grammar.abstract) z s ≡ Some (done (grammar.absent_declarator grammar.abstract))
  abstract_plan g z (tokens.mark tokens.opening) h = absurd cc
  abstract_plan g z _ h = refl

  either_plan : (g : Context) (z : TokenOf t) (s : Sort) → grammar.is_declaring_head s ≡ false → plan {t = t} g (grammar.direct grammar.either) z s ≡ Some (done (grammar.absent_declarator grammar.either))
  either_plan g z (tokens.mark tokens.opening) h = absurd cc
  either_plan g z (tokens.name n) h = absurd cc
  either_plan g z _ h = refl

  direct_end : (g : Context) (f : Form) (z : TokenOf t) (zs : List (TokenOf t)) → grammar.is_declaring_head (view g.types z.sort) ≡ false → Ends g (grammar.direct f) z zs
  direct_end g grammar.concrete z zs h = read_call (ap (plan {t = t} g (grammar.direct grammar.concrete) (fresh t g)) (fresh_view g.types)) (read_take refl read_done) read_done
  direct_end g grammar.abstract z zs h = here g (grammar.direct grammar.abstract) z zs _ (abstract_plan g z (view g.types z.sort) h)
  direct_end g grammar.either z zs h = here g (grammar.direct grammar.either) z zs _ (either_plan g z (view g.types z.sort) h)

  declarator_end : (g : Context) (f : Form) (z : TokenOf t) (zs : List (TokenOf t)) → is_declaring (view g.types z.sort) ≡ false → Ends g (grammar.declarator f) z zs
  declarator_end g grammar.concrete z zs h = read_call (ap (plan {t = t} g (grammar.declarator grammar.concrete) (fresh t g)) (fresh_view g.types)) (join (direct_end g grammar.concrete z zs (no_head (view g.types z.sort) h)) (join (declarator_suffixes_end g (grammar.fresh_declarator t g) z zs h) read_done)) read_done
  declarator_end g grammar.abstract z zs h = read_call (if_false (is_mark tokens.star (view g.types z.sort)) _ _ (no_star (view g.types z.sort) h)) (join (direct_end g grammar.abstract z zs (no_head (view g.types z.sort) h)) (join (declarator_suffixes_end g (grammar.absent_declarator grammar.abstract) z zs h) read_done)) read_done
  declarator_end g grammar.either z zs h = read_call (if_false (is_mark tokens.star (view g.types z.sort)) _ _ (no_star (view g.types z.sort) h)) (join (direct_end g grammar.either z zs (no_head (view g.types z.sort) h)) (join (declarator_suffixes_end g (grammar.absent_declarator grammar.either) z zs h) read_done)) read_done

  group_end : (g : Context) (f : Form) (z : TokenOf t) (zs : List (TokenOf t)) → is_declaring (view g.types z.sort) ≡ false → Ends g (grammar.group f) z zs
  group_end g grammar.concrete z zs h = read_call (ap (plan {t = t} g (grammar.group grammar.concrete) (fresh t g)) (fresh_view g.types)) (read_take refl (join (declarator_suffixes_end g (grammar.fresh_declarator t g) z zs h) read_done)) read_done
  group_end g grammar.abstract z zs h = read_call refl (read_take refl (join (here g (grammar.qualifiers []) z zs [] (qualifiers_plan g [] z (view g.types z.sort) (no_qualifier (view g.types z.sort) h))) (join (declarator_end g grammar.abstract z zs h) read_done))) read_done
  group_end g grammar.either z zs h = read_call refl (read_take refl (join (here g (grammar.qualifiers []) z zs [] (qualifiers_plan g [] z (view g.types z.sort) (no_qualifier (view g.types z.sort) h))) (join (declarator_end g grammar.either z zs h) read_done))) read_done

  behind_group_end : (g : Context) (f : Form) (y z : TokenOf t) (zs : List (TokenOf t)) → Ends g (grammar.behind_group f y) z zs
  behind_group_end g grammar.concrete y z zs = read_call (ap (plan {t = t} g (grammar.behind_group grammar.concrete y) (fresh t g)) (fresh_view g.types)) (join (group_end g grammar.concrete (a_mark t tokens.closing) (z ∷ zs) refl) (read_take refl read_done)) read_done
  behind_group_end g grammar.abstract y z zs = read_call refl (join (here g grammar.parameters (a_mark t tokens.closing) (z ∷ zs) grammar.without_parameters refl) (read_take refl read_done)) read_done
  behind_group_end g grammar.either y z zs = read_call refl (join (here g grammar.parameters (a_mark t tokens.closing) (z ∷ zs) grammar.without_parameters refl) (read_take refl read_done)) read_done

  -- ---- all items

  item_ends : (g : Context) (i : Item t) (z : TokenOf t) (zs : List (TokenOf t)) → ItemStops g i (view g.types z.sort) → Ends g i z zs
  item_ends g (grammar.level k) z zs h = level_end g k z zs h
  item_ends g (grammar.after k l) z zs h = after_end g k l z zs h
  item_ends g (grammar.tail k l) z zs h = tail_end g k l z zs h
  item_ends g (grammar.behind_open y) z zs h = read_call refl (join (level_end g 13 (a_mark t tokens.closing) (z ∷ zs) (omega arith)) (read_take refl (join (suffixes_end g (t.paren y (zero_number t)) z zs h) read_done))) read_done
  item_ends g grammar.unary z zs h = unary_end g z zs h
  item_ends g grammar.primary z zs h = primary_end g (z ∷ zs)
  item_ends g grammar.arguments z zs h = here g grammar.arguments z zs [] (if_false (begins_expression (view g.types z.sort)) _ _ h.0)
  item_ends g (grammar.behind_sizeof y) z zs h = read_call refl (join (unary_end g z zs h) read_done) read_done
  item_ends g (grammar.inside_sizeof y w) z zs h = read_call refl (join (level_end g 13 (a_mark t tokens.closing) (z ∷ zs) (omega arith)) (read_take refl (join (suffixes_end g (t.paren w (zero_number t)) z zs h) read_done))) read_done
  item_ends g (grammar.texts xs) z zs h = here g (grammar.texts xs) z zs xs (texts_plan g xs z (view g.types z.sort) h)
  item_ends g (grammar.suffixes f) z zs h = suffixes_end g f z zs h
  item_ends g (grammar.more_arguments es) z zs h = here g (grammar.more_arguments es) z zs es (if_false (is_mark tokens.comma (view g.types z.sort)) _ _ (no_comma (view g.types z.sort) h))
  item_ends g grammar.type_name z zs h = read_call refl (join (int_end g false nothing_seen grammar.no_specifiers z zs refl h.0.0) (join (declarator_end g grammar.abstract z zs h.1) read_done)) read_done
  item_ends g grammar.optional_specifiers z zs h = here g grammar.optional_specifiers z zs grammar.no_specifiers (if_false (grammar.begins_specifiers true g.inside (view g.types z.sort)) _ _ (ap is_some (add_none true g.inside nothing_seen (view g.types z.sort) h.0)))
  item_ends g (grammar.specifiers stores seen sp) z zs h = specifiers_end g stores seen sp z zs h.0
  item_ends g (grammar.behind_struct y) z zs h = read_call (ap (plan {t = t} g (grammar.behind_struct y) (fresh t g)) (fresh_view g.types)) (read_take refl (join (here g (grammar.struct_body y (fresh t g)) z zs _ (if_false (is_mark tokens.brace (view g.types z.sort)) _ _ h)) read_done)) read_done
  item_ends g (grammar.behind_enum y) z zs h = read_call (ap (plan {t = t} g (grammar.behind_enum y) (fresh t g)) (fresh_view g.types)) (read_take refl (join (here g (grammar.enum_body y (fresh t g)) z zs _ (if_false (is_mark tokens.brace (view g.types z.sort)) _ _ h)) read_done)) read_done
  item_ends g (grammar.struct_body y w) z zs h = here g (grammar.struct_body y w) z zs _ (if_false (is_mark tokens.brace (view g.types z.sort)) _ _ h)
  item_ends g (grammar.enum_body y w) z zs h = here g (grammar.enum_body y w) z zs _ (if_false (is_mark tokens.brace (view g.types z.sort)) _ _ h)
  item_ends g grammar.member z zs h =
      let rest = a_mark t tokens.semicolon ∷ z ∷ zs in
      read_call refl (join (int_end g false nothing_seen grammar.no_specifiers (fresh t g) rest refl (fresh_is t g (λ v. is_specifier v ≡ false) refl))
      (join (declarator_end g grammar.concrete (a_mark t tokens.semicolon) (z ∷ zs) refl) (join (here g (grammar.member_items (grammar.one_item (grammar.fresh_declarator t g) None)) (a_mark t tokens.semicolon) (z ∷ zs) _ refl) (read_take refl read_done)))) read_done
  item_ends g grammar.enumerator z zs h = read_call (ap (plan {t = t} g grammar.enumerator (fresh t g)) (fresh_view g.types)) (read_take refl (join (here g grammar.value_of z zs None (if_false (is_mark tokens.equal (view g.types z.sort)) _ _ (no_equal (view g.types z.sort) h))) read_done)) read_done
  item_ends g grammar.value_of z zs h = here g grammar.value_of z zs None (if_false (is_mark tokens.equal (view g.types z.sort)) _ _ (no_equal (view g.types z.sort) h))
  item_ends g (grammar.members ds) z zs h = here g (grammar.members ds) z zs ds (if_false (grammar.begins_specifiers false g.inside (view g.types z.sort)) _ _ h)
  item_ends g (grammar.member_items is) z zs h = here g (grammar.member_items is) z zs is (if_false (is_mark tokens.comma (view g.types z.sort)) _ _ h.0)
  item_ends g (grammar.enumerators es) z zs h = here g (grammar.enumerators es) z zs es (if_false (is_mark tokens.comma (view g.types z.sort)) _ _ (no_comma (view g.types z.sort) h))
  item_ends g (grammar.qualifiers xs) z zs h = here g (grammar.qualifiers xs) z zs xs (qualifiers_plan g xs z (view g.types z.sort) h)
  item_ends g (grammar.declarator f) z zs h = declarator_end g f z zs h
  item_ends g (grammar.direct f) z zs h = direct_end g f z zs h
  item_ends g (grammar.group f) z zs h = group_end g f z zs h
  item_ends g (grammar.behind_group f y) z zs h = behind_group_end g f y z zs
  item_ends g (grammar.declarator_suffixes d) z zs h = declarator_suffixes_end g d z zs h
  item_ends g grammar.array_length z zs h = here g grammar.array_length z zs None (if_false (begins_expression (view g.types z.sort)) _ _ h.0)
  item_ends g grammar.parameters z zs h = here g grammar.parameters z zs _ (if_false (grammar.begins_specifiers true g.inside (view g.types z.sort)) _ _ h.0)
  item_ends g grammar.parameter z zs h = read_call refl (join (int_end g true nothing_seen grammar.no_specifiers z zs refl h.0.0) (join (declarator_end g grammar.either z zs h.1) read_done)) read_done
  item_ends g (grammar.more_parameters ps) z zs h = here g (grammar.more_parameters ps) z zs _ (if_false (is_mark tokens.comma (view g.types z.sort)) _ _ (no_comma (view g.types z.sort) h.0))
  item_ends g (grammar.behind_comma c ps) z zs h = read_call refl (read_take refl read_done) read_done
  item_ends g grammar.init z zs h = read_call refl (join (level_end g 12 z zs h) read_done) read_done
  item_ends g (grammar.inits is) z zs h = here g (grammar.inits is) z zs _ (if_false (is_mark tokens.comma (view g.types z.sort)) _ _ (no_comma (view g.types z.sort) h.1))
  item_ends g (grammar.behind_init_comma is) z zs h = here g (grammar.behind_init_comma is) z zs _ (if_false (is_mark tokens.brace (view g.types z.sort) || begins_expression (view g.types z.sort)) _ _ h.0)
  item_ends g grammar.declaration z zs h =
      read_call refl (join (int_end g true nothing_seen grammar.no_specifiers (a_mark t tokens.semicolon) (z ∷ zs) refl refl) (join (here g grammar.items (a_mark t tokens.semicolon) (z ∷ zs) grammar.no_items refl) (read_take refl read_done))) read_done
  item_ends g grammar.items z zs h = here g grammar.items z zs grammar.no_items (if_false (grammar.begins_items (view g.types z.sort)) _ _ h.0)
  item_ends g grammar.item z zs h = read_call refl (join (declarator_end g grammar.concrete z zs h.1) (join (here g grammar.initial z zs None (if_false (is_mark tokens.equal (view g.types z.sort)) _ _ (no_equal (view g.types z.sort) h.0))) read_done)) read_done
  item_ends g grammar.initial z zs h = here g grammar.initial z zs None (if_false (is_mark tokens.equal (view g.types z.sort)) _ _ (no_equal (view g.types z.sort) h))
  item_ends g (grammar.declarations ds) z zs h = here g (grammar.declarations ds) z zs ds (if_false (grammar.begins_specifiers true g.inside (view g.types z.sort)) _ _ h)
  item_ends g (grammar.more_items is) z zs h = here g (grammar.more_items is) z zs is (if_false (is_mark tokens.comma (view g.types z.sort)) _ _ (no_comma (view g.types z.sort) h.0))
  item_ends g grammar.statement z zs h = read_call refl (read_take refl read_done) read_done
  item_ends g grammar.else_part z zs h = here g grammar.else_part z zs None (if_false (is_mark tokens.else_word (view g.types z.sort)) _ _ h)
  item_ends g grammar.optional_expression z zs h = here g grammar.optional_expression z zs None (if_false (begins_expression (view g.types z.sort)) _ _ h.0)
  item_ends g (grammar.behind_name y) z zs h =
      let semicolon : TokenOf t = a_mark t tokens.semicolon in
      read_call refl (join (suffixes_end g (t.name y) semicolon (z ∷ zs) (omega arith)) (join (tail_end g 13 (grammar.operand (t.name y) true) semicolon (z ∷ zs) (omega arith)) (read_take refl read_done))) read_done
  item_ends g (grammar.statements ss) z zs h = here g (grammar.statements ss) z zs ss (if_false (begins_expression (view g.types z.sort) || grammar.begins_other (view g.types z.sort)) _ _ h.0)
  item_ends g grammar.external z zs h = read_call refl (read_take refl read_done) read_done
  item_ends g (grammar.external_items sp) z zs h = read_call refl (read_take refl read_done) read_done
  item_ends g (grammar.behind_declarator sp d) z zs h =
      let semicolon : TokenOf t = a_mark t tokens.semicolon in
      read_call refl (join (here g grammar.initial semicolon (z ∷ zs) None refl) (join (here g (grammar.more_items (grammar.one_item d None)) semicolon (z ∷ zs) (grammar.one_item d None) refl) (read_take refl read_done))) read_done

  no_external : (types : List ℕ) (s : Sort) → s ≡ tokens.mark tokens.end → is_mark tokens.semicolon (view types s) || grammar.begins_specifiers true false (view types s) ≡ false
  no_external types s e = subst (λ v. is_mark tokens.semicolon (view types v) || grammar.begins_specifiers true false (view types v) ≡ false) (sym e) refl

  unit_ends : (types : List ℕ) (z : TokenOf t) (zs : List (TokenOf t)) → z.sort ≡ tokens.mark tokens.end → Reads (c90 t) (unit types) (ask (unit types)) (z ∷ zs) [] (z ∷ zs)
  unit_ends types z zs h = read_call (if_false (is_mark tokens.semicolon (view types z.sort) || grammar.begins_specifiers true false (view types z.sort)) _ _ (no_external types z.sort h)) read_done read_done

  ends : (n : Ask t) (z : TokenOf t) (zs : List (TokenOf t)) → Stops n z → Reads (c90 t) n (ask n) (ending n ++ z ∷ zs) (value n) (z ∷ zs)
  ends (at g i) z zs h = item_ends g i z zs h
  ends (unit types) z zs h = unit_ends types z zs h
  ends whole z zs h = read_call refl (join (unit_ends [] (a_mark t tokens.end) (z ∷ zs) refl) (read_take refl read_done)) read_done

  token_accepted : (k : Class) → grammar.accepts k (grammar.token_of t k) ≡ true
  token_accepted any = refl
  token_accepted (grammar.ordinary g) = refl
  token_accepted (grammar.only g p m) = eq-eqb (tokens.number_of m) (tokens.number_of m) refl

  -- The laws of reading and failing hold of the grammar of C90.
  pub c90_checked : Checked (c90 t)
  c90_checked = record { token_of = token_accepted; ends = ends; productions = productions t }
