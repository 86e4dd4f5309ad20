-- Each production of C90's table keeps whatever its steps keep, where the notes on types agree step by step.
use Rattle.std.proofs.Common.{◌≡◌, ℕ, zero, suc, ◌≤◌, Bool, true, false, List, [], Some, None, refl, arith}
use Rattle.std.specs.Prelude.{Option, ⊤, if◌then◌else◌, ◌||◌, ◌&&◌, not}
use Rattle.sp_parse_grammar.specs.CTokens as tokens
use Rattle.sp_parse_grammar.specs.CTokens.{Sort, Mark, Seen, is_mark, is_name, view as viewed, add, nothing_seen, is_typed, is_specifier}
use Rattle.sp_parse_grammar.specs.CTable as grammar
use Rattle.sp_parse_grammar.specs.CTable.{Context, AlsoAllowed, Form, Operand, Specified, ItemAnswer, Ask, Answer, at, unit, whole, c_symbols, plan, in_function, in_structure, begins_expression, begins_items, begins_specifiers, begins_other, stands_behind}
use Rattle.sp_parse_grammar.specs.Table.{Plan, done, take, call}
use Rattle.sp_parse_tokens.specs.Sorts.{Terminal}
use Rattle.sp_parse_tokens.specs.SyntaxTrees.{syntax_trees}
use Rattle.sp_parse_tokens.specs.Depths.{Part}
use Rattle.sp_parse_fault_laws.proofs.TypeBehind.{is_for_type, closed_no_type, KnownItem}
use Rattle.sp_parse_fault_laws.proofs.TypeNotes.{Beginning, named, starred, opened, beginning, may_go_on, may_item, carried_item, Fits, Within, missing, first, comma, item_no_type}

pub value_known : (g : Context) (f : Form) → is_for_type (grammar.form_value syntax_trees g f).behind ≡ false
value_known g grammar.concrete = refl
value_known g grammar.abstract = refl
value_known g grammar.either = refl

group_known : (g : Context) (f : Form) (y : Terminal) → is_for_type (grammar.behind_group_value syntax_trees g f y).behind ≡ false
group_known g grammar.concrete y = refl
group_known g grammar.abstract y = refl
group_known g grammar.either y = refl

-- What is kept by plans that may begin at the token, where so much could go on before it, and by those before which tokens are read.
pub record Rules (types : List ℕ) : Type 1 where
  pub Keeps : {m : Ask syntax_trees} → Plan (c_symbols syntax_trees) m → Bool → Type 0
  pub Starts : {m : Ask syntax_trees} → Plan (c_symbols syntax_trees) m → Type 0
  pub ends : {m : Ask syntax_trees} {o : Answer m} {so_far : Bool} → may_go_on m o ≡ so_far → Keeps {m = m} (done o) so_far
  pub marked : {m : Ask syntax_trees} {g : Context} {p : AlsoAllowed} {t : Mark} {k : Terminal → Plan (c_symbols syntax_trees) m} {so_far : Bool} → g.types ≡ types → is_for_type p ≡ so_far → ((y : Terminal) → Keeps (k y) false) → Keeps (take (grammar.only g p t) k) so_far
  pub ordinary : {m : Ask syntax_trees} {g : Context} {k : Terminal → Plan (c_symbols syntax_trees) m} → g.types ≡ types → ((y : Terminal) → Keeps (k y) false) → Keeps (take (grammar.ordinary g) k) false
  pub token : {m : Ask syntax_trees} {k : Terminal → Plan (c_symbols syntax_trees) m} → ((y : Terminal) → Keeps (k y) false) → Starts (take grammar.any k)
  pub part : {m : Ask syntax_trees} {g : Context} {i : Part} {k : ItemAnswer i → Plan (c_symbols syntax_trees) m} → g.types ≡ types → Fits i × Within i × (carried_item i ≡ false) × KnownItem i (grammar.item_value g i) → ((a : ItemAnswer i) → KnownItem i a → Keeps (k a) (may_item i a)) → Keeps (call (at g i) k) false
  pub first_part : {m : Ask syntax_trees} {g : Context} {i : Part} {k : ItemAnswer i → Plan (c_symbols syntax_trees) m} → g.types ≡ types → Within i → ((a : ItemAnswer i) → KnownItem i a → Keeps (k a) (may_item i a)) → Starts (call (at g i) k)
  pub starts_done : {m : Ask syntax_trees} {o : Answer m} → Starts {m = m} (done o)
  pub carrying : {m : Ask syntax_trees} {g : Context} {i : Part} {k : ItemAnswer i → Plan (c_symbols syntax_trees) m} {so_far : Bool} → g.types ≡ types → Fits i × Within i × KnownItem i (grammar.item_value g i) → carried_item i ≡ so_far → may_item i (grammar.item_value g i) ≡ so_far → ((x : Terminal) (j : Beginning) → plan g i x (beginning j) ≡ Some (done (grammar.item_value g i)))
      → ((a : ItemAnswer i) → KnownItem i a → Keeps (k a) (may_item i a)) → Keeps (call (at g i) k) so_far
  pub statements_part : {m : Ask syntax_trees} {g : Context} {k : List syntax_trees.Statement → Plan (c_symbols syntax_trees) m} → g.types ≡ types → ((a : List syntax_trees.Statement) → Keeps (k a) false) → Keeps (call (at g (grammar.statements [])) k) true

-- the lists that no such token goes on with
pub parameters_stay : (g : Context) (ps : grammar.Parameters syntax_trees) (x : Terminal) (j : Beginning) → plan g (grammar.more_parameters ps) x (beginning j) ≡ Some (done ps)
parameters_stay g ps x (named n) = refl
parameters_stay g ps x starred = refl
parameters_stay g ps x opened = refl

items_stay : (g : Context) (is : grammar.Items syntax_trees) (x : Terminal) (j : Beginning) → plan g (grammar.more_items is) x (beginning j) ≡ Some (done is)
items_stay g is x (named n) = refl
items_stay g is x starred = refl
items_stay g is x opened = refl

module _ (types : List ℕ) (rules : Rules types) where
  open rules use {Keeps, Starts, ends, marked, ordinary, token, part, first_part, starts_done, carrying, statements_part}

  plainly : {m : Ask syntax_trees} {g : Context} {t : Mark} {k : Terminal → Plan (c_symbols syntax_trees) m} → g.types ≡ types → ((y : Terminal) → Keeps (k y) false) → Keeps (take (grammar.only g grammar.plainly t) k) false
  plainly same more = marked same refl more

  abbrev pub StartsAt : {n : Ask syntax_trees} → Option (Plan (c_symbols syntax_trees) n) → Type 0
  StartsAt None = ⊤
  StartsAt (Some q) = Starts q

  pick : {n : Ask syntax_trees} (c : Bool) (p q : Option (Plan (c_symbols syntax_trees) n)) → StartsAt p → StartsAt q → StartsAt (if c then p else q)
  pick true p q first second = first
  pick false p q first second = second

  operator_starts : (g : Context) → g.types ≡ types → (k : ℕ) (l : Operand syntax_trees) → k ≤ 13 → (y : Terminal) (s : Sort) → Starts (grammar.operator_plan g k l y s)
  operator_starts g t k l h y (tokens.mark tokens.question) = token (λ u. part t (omega arith, omega arith, refl, tt) (λ a e. plainly t (λ z. part t (omega arith, omega arith, refl, tt) (λ o e. ends refl))))
  operator_starts g t k l h y (tokens.mark tokens.comma) = token (λ u. part t (omega arith, omega arith, refl, tt) (λ r e. part t (h, h, refl, tt) (λ o e. ends refl)))
  operator_starts g t k l h y (tokens.mark tokens.equal) = token (λ u. part t (omega arith, omega arith, refl, tt) (λ r e. ends refl))
  operator_starts g t k l h y tokens.assigning = token (λ u. part t (omega arith, omega arith, refl, tt) (λ r e. ends refl))
  operator_starts g t k l h y _ = token (λ u. part t (omega (arith, h), omega (arith, h), refl, tt) (λ r e. part t (h, h, refl, tt) (λ o e. ends refl)))

  unary_starts : (g : Context) → g.types ≡ types → (y : Terminal) (s : Sort) → StartsAt (plan g grammar.unary y s)
  unary_starts g t y (tokens.mark tokens.step) = token (λ u. part t (tt, tt, refl, tt) (λ e k. ends refl))
  unary_starts g t y (tokens.mark tokens.star) = token (λ u. part t (omega arith, omega arith, refl, tt) (λ e k. ends refl))
  unary_starts g t y (tokens.mark tokens.ampersand) = token (λ u. part t (omega arith, omega arith, refl, tt) (λ e k. ends refl))
  unary_starts g t y (tokens.mark tokens.additive) = token (λ u. part t (omega arith, omega arith, refl, tt) (λ e k. ends refl))
  unary_starts g t y (tokens.mark tokens.tilde) = token (λ u. part t (omega arith, omega arith, refl, tt) (λ e k. ends refl))
  unary_starts g t y (tokens.mark tokens.sizeof) = token (λ u. part t (tt, tt, refl, tt) (λ e k. ends refl))
  unary_starts g t y _ = first_part t tt (λ e k. part t (tt, tt, refl, tt) (λ f k. ends refl))

  primary_starts : (g : Context) → g.types ≡ types → (y : Terminal) (s : Sort) → StartsAt (plan g grammar.primary y s)
  primary_starts g t y (tokens.name n) = token (λ u. ends refl)
  primary_starts g t y tokens.constant = token (λ u. ends refl)
  primary_starts g t y tokens.text = token (λ u. part t (tt, tt, refl, tt) (λ xs k. ends refl))
  primary_starts g t y (tokens.mark tokens.opening) = token (λ u. part t (omega arith, omega arith, refl, tt) (λ o e. plainly t (λ z. ends refl)))
  primary_starts g t y _ = tt

  texts_start : (g : Context) → g.types ≡ types → (xs : List Terminal) (y : Terminal) (s : Sort) → StartsAt (plan g (grammar.texts xs) y s)
  texts_start g t xs y tokens.text = token (λ u. part t (tt, tt, refl, tt) (λ ys k. ends refl))
  texts_start g t xs y _ = starts_done

  suffixes_start : (g : Context) → g.types ≡ types → (f : syntax_trees.Expr) (y : Terminal) (s : Sort) → StartsAt (plan g (grammar.suffixes f) y s)
  suffixes_start g t f y (tokens.mark tokens.bracket) = token (λ u. part t (omega arith, omega arith, refl, tt) (λ o e. plainly t (λ z. part t (tt, tt, refl, tt) (λ r k. ends refl))))
  suffixes_start g t f y (tokens.mark tokens.opening) = token (λ u. part t (tt, tt, refl, tt) (λ es e. marked t (first es) (λ z. part t (tt, tt, refl, tt) (λ r k. ends refl))))
  suffixes_start g t f y (tokens.mark tokens.member) = token (λ u. ordinary t (λ z. part t (tt, tt, refl, tt) (λ r k. ends refl)))
  suffixes_start g t f y (tokens.mark tokens.step) = token (λ u. part t (tt, tt, refl, tt) (λ r k. ends refl))
  suffixes_start g t f y _ = starts_done

  specifiers_start : (g : Context) → g.types ≡ types → (stores : Bool) (seen : Seen) (sp : Specified syntax_trees) (y : Terminal) (s : Sort) (o : Option Seen) → StartsAt (grammar.specifiers_plan g stores seen sp y s o)
  specifiers_start g t stores seen sp y s None = pick (is_typed seen) _ _ starts_done tt
  specifiers_start g t stores seen sp y (tokens.mark tokens.struct) (Some new) = token (λ u. part t (tt, tt, refl, tt) (λ r e. part t (tt, tt, refl, tt) (λ o e. ends refl)))
  specifiers_start g t stores seen sp y (tokens.mark tokens.enum) (Some new) = token (λ u. part t (tt, tt, refl, tt) (λ r e. part t (tt, tt, refl, tt) (λ o e. ends refl)))
  specifiers_start g t stores seen sp y _ (Some new) = token (λ u. part t (tt, tt, refl, tt) (λ o e. ends refl))

  struct_starts : (g : Context) → g.types ≡ types → (v y : Terminal) (s : Sort) → StartsAt (plan g (grammar.behind_struct v) y s)
  struct_starts g t v y (tokens.mark tokens.brace) = token (λ u. part t (tt, tt, refl, tt) (λ d e. part t (tt, tt, refl, tt) (λ ds e. marked t refl (λ w. ends refl))))
  struct_starts g t v y (tokens.name n) = token (λ u. part t (tt, tt, refl, tt) (λ r e. ends refl))
  struct_starts g t v y (tokens.named_type n) = token (λ u. part t (tt, tt, refl, tt) (λ r e. ends refl))
  struct_starts g t v y _ = tt

  enum_starts : (g : Context) → g.types ≡ types → (v y : Terminal) (s : Sort) → StartsAt (plan g (grammar.behind_enum v) y s)
  enum_starts g t v y (tokens.mark tokens.brace) = token (λ u. part t (tt, tt, refl, tt) (λ d e. part t (tt, tt, refl, tt) (λ ds e. plainly t (λ w. ends refl))))
  enum_starts g t v y (tokens.name n) = token (λ u. part t (tt, tt, refl, tt) (λ r e. ends refl))
  enum_starts g t v y (tokens.named_type n) = token (λ u. part t (tt, tt, refl, tt) (λ r e. ends refl))
  enum_starts g t v y _ = tt

  enumerator_starts : (g : Context) → g.types ≡ types → (y : Terminal) (s : Sort) → StartsAt (plan g grammar.enumerator y s)
  enumerator_starts g t y (tokens.name n) = token (λ u. part t (tt, tt, refl, tt) (λ v e. ends refl))
  enumerator_starts g t y _ = tt

  qualifiers_start : (g : Context) → g.types ≡ types → (xs : List Terminal) (y : Terminal) (s : Sort) → StartsAt (plan g (grammar.qualifiers xs) y s)
  qualifiers_start g t xs y tokens.qualifier = token (λ u. part t (tt, tt, refl, tt) (λ ys k. ends refl))
  qualifiers_start g t xs y _ = starts_done

  direct_starts : (g : Context) → g.types ≡ types → (f : Form) (y : Terminal) (s : Sort) → StartsAt (grammar.direct_plan g f y s)
  direct_starts g t grammar.concrete y (tokens.name n) = token (λ u. ends refl)
  direct_starts g t grammar.either y (tokens.name n) = token (λ u. ends refl)
  direct_starts g t grammar.concrete y (tokens.mark tokens.opening) = token (λ u. part t (tt, tt, refl, group_known g grammar.concrete y) (λ d e. ends refl))
  direct_starts g t grammar.abstract y (tokens.mark tokens.opening) = token (λ u. part t (tt, tt, refl, group_known g grammar.abstract y) (λ d e. ends refl))
  direct_starts g t grammar.either y (tokens.mark tokens.opening) = token (λ u. part t (tt, tt, refl, group_known g grammar.either y) (λ d e. ends refl))
  direct_starts g t grammar.concrete y _ = tt
  direct_starts g t grammar.abstract y _ = starts_done
  direct_starts g t grammar.either y _ = starts_done

  group_starts : (g : Context) → g.types ≡ types → (f : Form) (y : Terminal) (s : Sort) → StartsAt (grammar.group_plan g f y s)
  group_starts g t f y (tokens.mark tokens.star) = token (λ u. part t (tt, tt, refl, tt) (λ qs e. part t (tt, tt, refl, value_known g f) (λ d e. ends refl)))
  group_starts g t f y (tokens.mark tokens.opening) = token (λ u. part t (tt, tt, refl, group_known g f y) (λ d e. part t (tt, tt, refl, λ h. h) (λ o k. ends refl)))
  group_starts g t grammar.concrete y (tokens.name n) = token (λ u. part t (tt, tt, refl, λ h. h) (λ o k. ends refl))
  group_starts g t grammar.either y (tokens.name n) = token (λ u. part t (tt, tt, refl, λ h. h) (λ o k. ends refl))
  group_starts g t grammar.abstract y (tokens.mark tokens.bracket) = token (λ u. part t (tt, tt, refl, tt) (λ n e. marked t (missing n) (λ z. part t (tt, tt, refl, λ h. h) (λ o k. ends refl))))
  group_starts g t grammar.either y (tokens.mark tokens.bracket) = token (λ u. part t (tt, tt, refl, tt) (λ n e. marked t (missing n) (λ z. part t (tt, tt, refl, λ h. h) (λ o k. ends refl))))
  group_starts g t f y _ = tt

  declarator_suffixes_start : (g : Context) → g.types ≡ types → (d : grammar.Declared syntax_trees) (y : Terminal) (s : Sort) → StartsAt (plan g (grammar.declarator_suffixes d) y s)
  declarator_suffixes_start g t d y (tokens.mark tokens.bracket) = token (λ u. part t (tt, tt, refl, tt) (λ n e. marked t (missing n) (λ z. part t (tt, tt, refl, λ h. h) (λ o k. ends refl))))
  declarator_suffixes_start g t d y (tokens.mark tokens.opening) = token (λ u. part t (tt, tt, refl, tt) (λ ps e. marked t refl (λ z. part t (tt, tt, refl, λ h. h) (λ o k. ends refl))))
  declarator_suffixes_start g t d y _ = starts_done

  statement_starts : (g : Context) → g.types ≡ types → (y : Terminal) (s : Sort) → StartsAt (plan g grammar.statement y s)
  statement_starts g t y (tokens.name n) = token (λ u. part t (tt, tt, refl, tt) (λ r e. ends refl))
  statement_starts g t y (tokens.mark tokens.semicolon) = token (λ u. ends refl)
  statement_starts g t y (tokens.mark tokens.brace) = token (λ u. part t (tt, tt, refl, tt) (λ ds e. statements_part t (λ ss. marked t refl (λ z. ends refl))))
  statement_starts g t y (tokens.mark tokens.case) = token (λ u. part t (omega arith, omega arith, refl, tt) (λ o e. plainly t (λ z. part t (tt, tt, refl, tt) (λ r e. ends refl))))
  statement_starts g t y (tokens.mark tokens.default) = token (λ u. plainly t (λ z. part t (tt, tt, refl, tt) (λ r e. ends refl)))
  statement_starts g t y (tokens.mark tokens.if_word) = token (λ u. plainly t (λ z. part t (omega arith, omega arith, refl, tt) (λ o e. plainly t (λ w. part t (tt, tt, refl, tt) (λ a e. part t (tt, tt, refl, tt) (λ r e. ends refl))))))
  statement_starts g t y (tokens.mark tokens.switch) = token (λ u. plainly t (λ z. part t (omega arith, omega arith, refl, tt) (λ o e. plainly t (λ w. part t (tt, tt, refl, tt) (λ r e. ends refl)))))
  statement_starts g t y (tokens.mark tokens.while) = token (λ u. plainly t (λ z. part t (omega arith, omega arith, refl, tt) (λ o e. plainly t (λ w. part t (tt, tt, refl, tt) (λ r e. ends refl)))))
  statement_starts g t y (tokens.mark tokens.do_word) = token (λ u. part t (tt, tt, refl, tt) (λ a e. plainly t (λ z. plainly t (λ w. part t (omega arith, omega arith, refl, tt) (λ o e. plainly t (λ v. plainly t (λ i. ends refl)))))))
  statement_starts g t y (tokens.mark tokens.for) = token (λ u. plainly t (λ z. part t (tt, tt, refl, tt) (λ a e. marked t (missing a) (λ w. part t (tt, tt, refl, tt) (λ c e. marked t (missing c) (λ v. part t (tt, tt, refl, tt) (λ d e. marked t (missing d) (λ i. part t (tt, tt, refl, tt) (λ r e. ends refl)))))))))
  statement_starts g t y (tokens.mark tokens.goto) = token (λ u. ordinary t (λ n. plainly t (λ z. ends refl)))
  statement_starts g t y (tokens.mark tokens.continue) = token (λ u. plainly t (λ z. ends refl))
  statement_starts g t y (tokens.mark tokens.break) = token (λ u. plainly t (λ z. ends refl))
  statement_starts g t y (tokens.mark tokens.return) = token (λ u. part t (tt, tt, refl, tt) (λ a e. marked t (missing a) (λ z. ends refl)))
  statement_starts g t y _ = first_part t (omega arith) (λ o e. plainly t (λ z. ends refl))

  pub item_starts : (g : Context) → g.types ≡ types → (i : Part) → Within i → (y : Terminal) (s : Sort) → StartsAt (plan g i y s)
  -- expressions
  item_starts g t (grammar.level zero) h y s = pick (is_mark tokens.opening s) _ _ (token (λ u. part t (tt, tt, refl, tt) (λ o e. ends refl))) (first_part t tt (λ e k. ends refl))
  item_starts g t (grammar.level (suc k)) h y s = first_part t (omega (arith, h)) (λ l e. part t (h, h, refl, tt) (λ o e. ends refl))
  item_starts g t (grammar.after k l) h y s = pick (stands_behind k l.unary s) _ _ (operator_starts g t k l h y s) starts_done
  item_starts g t (grammar.tail zero l) h y s = starts_done
  item_starts g t (grammar.tail (suc k) l) h y s = first_part t (omega arith) (λ o e. part t (tt, tt, refl, tt) (λ p e. ends refl))
  item_starts g t (grammar.behind_open v) h y s = pick (is_specifier s) _ _ (first_part t tt (λ n e. marked t refl (λ z. part t (omega arith, omega arith, refl, tt) (λ o e. ends refl)))) (first_part t (omega arith) (λ o e. plainly t (λ z. part t (tt, tt, refl, tt) (λ r k. ends refl))))
  item_starts g t grammar.unary h y s = unary_starts g t y s
  item_starts g t (grammar.behind_sizeof v) h y s = pick (is_mark tokens.opening s) _ _ (token (λ u. part t (tt, tt, refl, tt) (λ e k. ends refl))) (first_part t tt (λ e k. ends refl))
  item_starts g t (grammar.inside_sizeof v w) h y s = pick (is_specifier s) _ _ (first_part t tt (λ n e. marked t refl (λ z. ends refl))) (first_part t (omega arith) (λ o e. plainly t (λ z. part t (tt, tt, refl, tt) (λ r k. ends refl))))
  item_starts g t grammar.primary h y s = primary_starts g t y s
  item_starts g t (grammar.texts xs) h y s = texts_start g t xs y s
  item_starts g t (grammar.suffixes f) h y s = suffixes_start g t f y s
  item_starts g t grammar.arguments h y s = pick (begins_expression s) _ _ (first_part t (omega arith) (λ o e. part t (tt, tt, refl, tt) (λ es e. ends refl))) starts_done
  item_starts g t (grammar.more_arguments es) h y s = pick (is_mark tokens.comma s) _ _ (token (λ u. part t (omega arith, omega arith, refl, tt) (λ o e. part t (tt, tt, refl, tt) (λ fs e. ends refl)))) starts_done
  -- specifiers and type names
  item_starts g t grammar.type_name h y s = first_part t tt (λ sp e. part t (tt, tt, refl, refl) (λ d e. ends e))
  item_starts g t grammar.optional_specifiers h y s = pick (begins_specifiers true g.inside s) _ _ (first_part t tt (λ sp e. ends refl)) starts_done
  item_starts g t (grammar.specifiers stores seen sp) h y s = specifiers_start g t stores seen sp y s (add stores g.inside seen s)
  item_starts g t (grammar.behind_struct v) h y s = struct_starts g t v y s
  item_starts g t (grammar.struct_body v w) h y s = pick (is_mark tokens.brace s) _ _ (token (λ u. part t (tt, tt, refl, tt) (λ d e. part t (tt, tt, refl, tt) (λ ds e. marked t refl (λ z. ends refl))))) starts_done
  item_starts g t grammar.member h y s = first_part t tt (λ sp e. part t (tt, tt, refl, refl) (λ d e. part t (tt, tt, closed_no_type d.behind, tt) (λ is e. marked t refl (λ z. ends refl))))
  item_starts g t (grammar.members ds) h y s = pick (begins_specifiers false g.inside s) _ _ (first_part t tt (λ d e. part t (tt, tt, refl, tt) (λ es e. ends refl))) starts_done
  item_starts g t (grammar.member_items is) h y s = pick (is_mark tokens.comma s) _ _ (token (λ u. part t (tt, tt, refl, refl) (λ d e. part t (tt, tt, closed_no_type d.behind, tt) (λ js e. ends refl)))) starts_done
  item_starts g t (grammar.behind_enum v) h y s = enum_starts g t v y s
  item_starts g t (grammar.enum_body v w) h y s = pick (is_mark tokens.brace s) _ _ (token (λ u. part t (tt, tt, refl, tt) (λ d e. part t (tt, tt, refl, tt) (λ ds e. plainly t (λ z. ends refl))))) starts_done
  item_starts g t grammar.enumerator h y s = enumerator_starts g t y s
  item_starts g t grammar.value_of h y s = pick (is_mark tokens.equal s) _ _ (token (λ u. part t (omega arith, omega arith, refl, tt) (λ o e. ends refl))) starts_done
  item_starts g t (grammar.enumerators es) h y s = pick (is_mark tokens.comma s) _ _ (token (λ u. part t (tt, tt, refl, tt) (λ r e. part t (tt, tt, refl, tt) (λ fs e. ends refl)))) starts_done
  -- declarators
  item_starts g t (grammar.qualifiers xs) h y s = qualifiers_start g t xs y s
  item_starts g t (grammar.declarator f) h y s = pick (is_mark tokens.star s) _ _ (token (λ u. part t (tt, tt, refl, tt) (λ qs e. part t (tt, tt, refl, value_known g f) (λ d e. ends refl)))) (first_part t tt (λ d e. part t (tt, tt, refl, λ h. h) (λ o k. ends refl)))
  item_starts g t (grammar.direct f) h y s = direct_starts g t f y s
  item_starts g t (grammar.group f) h y s = group_starts g t f y s
  item_starts g t (grammar.behind_group f v) h y s = pick (not (grammar.is_concrete f) && grammar.is_parameters s) _ _
      (first_part t tt (λ ps e. marked t refl (λ z. ends refl)))
      (first_part t tt (λ d e. marked t e (λ z. ends refl)))
  item_starts g t (grammar.declarator_suffixes d) h y s = declarator_suffixes_start g t d y s
  item_starts g t grammar.array_length h y s = pick (begins_expression s) _ _ (first_part t (omega arith) (λ o e. ends refl)) starts_done
  item_starts g t grammar.parameters h y s = pick (begins_specifiers true g.inside s) _ _ (first_part t tt (λ p e. carrying t (tt, tt, tt) refl refl (parameters_stay g _) (λ ps e. ends refl))) starts_done
  item_starts g t grammar.parameter h y s = first_part t tt (λ sp e. part t (tt, tt, refl, refl) (λ d e. ends e))
  item_starts g t (grammar.more_parameters ps) h y s = pick (is_mark tokens.comma s) _ _ (token (λ u. part t (tt, tt, refl, tt) (λ qs e. ends refl))) starts_done
  item_starts g t (grammar.behind_comma v ps) h y s = pick (is_mark tokens.ellipsis s) _ _ (token (λ u. ends refl)) (first_part t tt (λ p e. carrying t (tt, tt, tt) refl refl (parameters_stay g _) (λ qs e. ends refl)))
  -- initialisers and declarations
  item_starts g t grammar.init h y s = pick (is_mark tokens.brace s) _ _ (token (λ u. part t (tt, tt, refl, tt) (λ i e. part t (tt, tt, refl, tt) (λ r e. marked t (comma r.comma) (λ z. ends refl))))) (first_part t (omega arith) (λ o e. ends refl))
  item_starts g t (grammar.inits is) h y s = pick (is_mark tokens.comma s) _ _ (token (λ u. part t (tt, tt, refl, tt) (λ r e. ends refl))) starts_done
  item_starts g t (grammar.behind_init_comma is) h y s = pick (is_mark tokens.brace s || begins_expression s) _ _ (first_part t tt (λ i e. part t (tt, tt, refl, tt) (λ r e. ends refl))) starts_done
  item_starts g t grammar.declaration h y s = first_part t tt (λ sp e. part t (tt, tt, refl, tt) (λ is e. marked t refl (λ z. ends refl)))
  item_starts g t grammar.items h y s = pick (begins_items s) _ _ (first_part t tt (λ i e. carrying t (tt, tt, tt) refl refl (items_stay g _) (λ is e. ends refl))) starts_done
  item_starts g t grammar.item h y s = first_part t tt (λ d e. part t (tt, tt, refl, tt) (λ v e. ends (item_no_type d.behind v)))
  item_starts g t grammar.initial h y s = pick (is_mark tokens.equal s) _ _ (token (λ u. part t (tt, tt, refl, tt) (λ i e. ends refl))) starts_done
  item_starts g t (grammar.declarations ds) h y s = pick (begins_specifiers true g.inside s) _ _ (first_part t tt (λ d e. part t (tt, tt, refl, tt) (λ es e. ends refl))) starts_done
  item_starts g t (grammar.more_items is) h y s = pick (is_mark tokens.comma s) _ _ (token (λ u. part t (tt, tt, refl, tt) (λ i e. carrying t (tt, tt, tt) refl refl (items_stay g _) (λ js e. ends refl)))) starts_done
  -- statements
  item_starts g t grammar.statement h y s = statement_starts g t y s
  item_starts g t (grammar.behind_name v) h y s = pick (is_mark tokens.colon s) _ _ (token (λ u. part t (tt, tt, refl, tt) (λ r e. ends refl))) (first_part t tt (λ e k. part t (tt, tt, refl, tt) (λ o k. plainly t (λ z. ends refl))))
  item_starts g t grammar.else_part h y s = pick (is_mark tokens.else_word s) _ _ (token (λ u. part t (tt, tt, refl, tt) (λ r e. ends refl))) starts_done
  item_starts g t grammar.optional_expression h y s = pick (begins_expression s) _ _ (first_part t (omega arith) (λ o e. ends refl)) starts_done
  item_starts g t (grammar.statements ss) h y s = pick (begins_expression s || begins_other s) _ _ (first_part t tt (λ a e. part t (tt, tt, refl, tt) (λ bs e. ends refl))) starts_done
  -- external declarations
  item_starts g t grammar.external h y s = pick (is_mark tokens.semicolon s) _ _ (token (λ u. ends refl)) (first_part t tt (λ sp e. part t (tt, tt, refl, tt) (λ r e. ends refl)))
  item_starts g t (grammar.external_items sp) h y s = pick (is_mark tokens.semicolon s) _ _ (token (λ u. ends refl)) (first_part t tt (λ d e. part t (tt, tt, refl, tt) (λ r e. ends refl)))
  item_starts g t (grammar.behind_declarator sp d) h y s = pick (is_mark tokens.brace s && not (grammar.is_variadic d.shape)) _ _
      (token (λ u. part t (tt, tt, refl, tt) (λ ds e. statements_part t (λ ss. marked t refl (λ z. ends refl)))))
      (first_part t tt (λ v e. part t (tt, tt, item_no_type d.behind v, tt) (λ is e. marked t refl (λ z. ends refl))))
