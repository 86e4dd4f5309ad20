-- By C90's grammar any tokens are read or fail, and not both.
use Rattle.std.proofs.Common.{◌≡◌, inl, inr, ℕ, zero, suc, ◌+◌, ◌-◌, ◌<◌, ◌≤◌, Bool, true, false, List, [], ◌∷◌, Option, Some, None, refl, subst, arith}
use Rattle.std.specs.Prelude.{◌==◌, ◌&&◌, ◌||◌, not, is_some, if◌then◌else◌}
use Rattle.std.proofs.lemmas.Bool.{eqb-true}
use Rattle.sp_parse_grammar.specs.Table.{Plan, done, call, ask, Reads, read_done, read_take, read_call, fail_take, fail_inside}
use Rattle.sp_parse_grammar.specs.Totality.{AreEnded, Spares, SparesAt, Descends, DescendsAt, Ends, IsDecided, reads, fails, HasOneOutcome}
use Rattle.sp_parse_grammar.specs.CTokens as tokens
use Rattle.sp_parse_grammar.specs.CTokens.{Token, Mark, Sort, Seen, view, is_mark, is_name, number_of, looseness, is_specifier, nothing_seen, is_typed, add}
use Rattle.sp_parse_grammar.specs.CTrees.{Trees, TokenOf}
use Rattle.sp_parse_grammar.specs.CTable as grammar
use Rattle.sp_parse_grammar.specs.CTable.{Context, Operand, Specified, Declared, Form, Item, ItemAnswer, Ask, Answer, at, unit, whole, c_symbols, get, next, plan, predict, c90, stands_behind, operator_plan, begins_expression, begins_other, begins_items, begins_specifiers, ending}
use Rattle.sp_parse_grammar.specs.CLaws.{is_end, HasLevel, LeavesEnd, IsLeft, AreSettled}
use Rattle.sp_parse_grammar.proofs.Readings.{join, ask_fails, join_fails}
use Rattle.sp_parse_grammar.proofs.Totality.{decided, read_once, fails_once, one_outcome}
use Rattle.sp_parse_grammar.proofs.CChecked.{which}
use Rattle.sp_parse_grammar.proofs.CEndings.{c90_checked}

-- ---- which tokens aren't the end

-- another mark
no_end : (m : Mark) (s : Sort) → is_mark tokens.end (tokens.mark m) ≡ false → is_mark m s ≡ true → is_mark tokens.end s ≡ false
no_end m (tokens.mark k) other e = subst (λ n. (number_of tokens.end == n) ≡ false) (eqb-true (number_of m) (number_of k) e) other
no_end m _ other e = absurd cc

named : (s : Sort) → is_name s ≡ true → is_mark tokens.end s ≡ false
named (tokens.name n) e = refl
named _ e = absurd cc

-- an operator of C90's levels
operates : (k : ℕ) (u : Bool) (s : Sort) → k ≤ 13 → stands_behind k u s ≡ true → is_mark tokens.end s ≡ false
operates k u (tokens.mark tokens.end) low e = let level : 14 ≡ k = eqb-true 14 k e in absurd (omega arith)
operates k u _ low e = refl

-- one more specifier
adds : (stores inside : Bool) (seen : Seen) (s : Sort) → is_some (add stores inside seen s) ≡ true → is_mark tokens.end s ≡ false
adds stores inside seen (tokens.mark tokens.end) e = absurd cc
adds stores inside seen _ e = refl

-- what isn't seen as the end isn't the end
sees : (types : List ℕ) (s : Sort) → is_mark tokens.end (view types s) ≡ false → is_mark tokens.end s ≡ false
sees types (tokens.name n) e = refl
sees types _ e = e

and_left : (a b : Bool) → a && b ≡ true → a ≡ true
and_left true b e = refl
and_left false b e = absurd cc

-- ---- the rank of an ask: above those that its productions call first

abbrev item_rank : {t : Trees} → Item t → ℕ
item_rank (grammar.level k) = 2 + k
item_rank (grammar.tail k l) = k
item_rank grammar.unary = 1
item_rank grammar.type_name = 1
item_rank grammar.optional_specifiers = 1
item_rank grammar.member = 1
item_rank (grammar.declarator f) = 1
item_rank grammar.parameter = 1
item_rank grammar.declaration = 1
item_rank grammar.external = 1
item_rank (grammar.behind_declarator sp d) = 1
item_rank (grammar.behind_sizeof x) = 2
item_rank (grammar.members ds) = 2
item_rank grammar.parameters = 2
item_rank (grammar.behind_comma x ps) = 2
item_rank grammar.item = 2
item_rank (grammar.declarations ds) = 2
item_rank (grammar.external_items sp) = 2
item_rank (grammar.behind_group f x) = 3
item_rank grammar.items = 3
item_rank (grammar.behind_open x) = 16
item_rank (grammar.inside_sizeof x y) = 16
item_rank grammar.arguments = 16
item_rank grammar.array_length = 16
item_rank grammar.init = 16
item_rank grammar.statement = 16
item_rank (grammar.behind_name x) = 16
item_rank grammar.optional_expression = 16
item_rank (grammar.behind_init_comma is) = 17
item_rank (grammar.statements ss) = 17
item_rank _ = 0

abbrev rank : {t : Trees} → Ask t → ℕ
rank (at g i) = item_rank i
rank (unit types) = 2
rank whole = 3

-- ---- the productions

-- A production calls for asks that leave the end, takes no end, and calls for lower parts first.
record Fits (t : Trees) (n : Ask t) (x : TokenOf t) (o : Option (Plan (c_symbols t) n)) : Type 0 where
  spares : SparesAt {S = c_symbols t} LeavesEnd is_end x o
  descends : DescendsAt (c90 t) rank (rank n) o

module _ (t : Trees) where
  abbrev Leaves : {n : Ask t} → Plan (c_symbols t) n → Type 0
  Leaves q = Spares {S = c_symbols t} LeavesEnd is_end q

  fits_if : (n : Ask t) (x : TokenOf t) (b : Bool) (p q : Option (Plan (c_symbols t) n)) → (b ≡ true → Fits t n x p) → (b ≡ false → Fits t n x q) → Fits t n x (if b then p else q)
  fits_if n x true p q first second = first refl
  fits_if n x false p q first second = second refl

  none : (n : Ask t) (x : TokenOf t) → Fits t n x None
  none n x = record { spares = tt; descends = tt }

  nothing : (n : Ask t) (x : TokenOf t) (o : Answer n) → Fits t n x (Some (done o))
  nothing n x o = record { spares = tt; descends = tt }

  -- a production that takes the token by which it was chosen
  takes : (n : Ask t) (k : TokenOf t → Plan (c_symbols t) n) (x : TokenOf t) → is_end x ≡ false → ((y : TokenOf t) → Leaves (k y)) → Fits t n x (Some (next k))
  takes n k x other leaves = record { spares = λ e. (other, leaves x); descends = tt }

  -- a production that asks for a part first
  parts : (n m : Ask t) (k : Answer m → Plan (c_symbols t) n) (x : TokenOf t) → LeavesEnd m → rank m < rank n → ((a : Answer m) → Leaves (k a)) → (ending m ≡ [] → (a : Answer m) → Descends (c90 t) rank (rank n) (k a)) → Fits t n x (Some (call m k))
  parts n m k x inside less leaves lower = record { spares = (inside, leaves); descends = (less, lower) }

  -- ---- expressions

  operator_fits : (g : Context) (k : ℕ) (l : Operand t) (x : TokenOf t) (s : Sort) → (is_mark tokens.end s ≡ false → is_end x ≡ false) → k ≤ 13 → stands_behind k l.unary s ≡ true → Fits t (at g (grammar.after k l)) x (Some (operator_plan g k l x s))
  operator_fits g k l x (tokens.mark tokens.question) here low b = takes _ _ x (here refl) (λ y. (omega arith, λ a w e. (no_end tokens.colon w.sort refl e, (omega arith, λ c. tt))))
  operator_fits g k l x (tokens.mark tokens.comma) here low b = takes _ _ x (here refl) (λ y. (omega arith, λ r. (low, λ o. tt)))
  operator_fits g k l x (tokens.mark tokens.equal) here low b = takes _ _ x (here refl) (λ y. (omega arith, λ r. tt))
  operator_fits g k l x tokens.assigning here low b = takes _ _ x (here refl) (λ y. (omega arith, λ r. tt))
  operator_fits g k l x s here low b = takes _ _ x (here (operates k l.unary s low b)) (λ y. (omega (arith, low), λ r. (low, λ o. tt)))

  level_fits : (g : Context) (k : ℕ) (x : TokenOf t) (s : Sort) → (is_mark tokens.end s ≡ false → is_end x ≡ false) → k ≤ 13 → Fits t (at g (grammar.level k)) x (plan g (grammar.level k) x s)
  level_fits g zero x s here low = fits_if _ x (is_mark tokens.opening s) _ _
      (λ b. takes _ _ x (here (no_end tokens.opening s refl b)) (λ y. (tt, λ o. tt)))
      (λ b. parts _ (at g grammar.unary) _ x tt (omega arith) (λ e. tt) (λ e. absurd cc))
  level_fits g (suc k) x s here low = parts _ (at g (grammar.level k)) _ x (omega (arith, low)) (omega arith) (λ l. (low, λ o. tt)) (λ e. absurd cc)

  unary_fits : (g : Context) (x : TokenOf t) (s : Sort) → (is_mark tokens.end s ≡ false → is_end x ≡ false) → Fits t (at g grammar.unary) x (plan g grammar.unary x s)
  unary_fits g x (tokens.mark tokens.step) here = takes _ _ x (here refl) (λ y. (tt, λ e. tt))
  unary_fits g x (tokens.mark tokens.star) here = takes _ _ x (here refl) (λ y. (omega arith, λ o. tt))
  unary_fits g x (tokens.mark tokens.ampersand) here = takes _ _ x (here refl) (λ y. (omega arith, λ o. tt))
  unary_fits g x (tokens.mark tokens.additive) here = takes _ _ x (here refl) (λ y. (omega arith, λ o. tt))
  unary_fits g x (tokens.mark tokens.tilde) here = takes _ _ x (here refl) (λ y. (omega arith, λ o. tt))
  unary_fits g x (tokens.mark tokens.sizeof) here = takes _ _ x (here refl) (λ y. (tt, λ e. tt))
  unary_fits g x _ here = parts _ (at g grammar.primary) _ x tt (omega arith) (λ e. (tt, λ f. tt)) (λ e. absurd cc)

  primary_fits : (g : Context) (x : TokenOf t) (s : Sort) → (is_mark tokens.end s ≡ false → is_end x ≡ false) → Fits t (at g grammar.primary) x (plan g grammar.primary x s)
  primary_fits g x (tokens.name n) here = takes _ _ x (here refl) (λ y. tt)
  primary_fits g x tokens.constant here = takes _ _ x (here refl) (λ y. tt)
  primary_fits g x tokens.text here = takes _ _ x (here refl) (λ y. (tt, λ xs. tt))
  primary_fits g x (tokens.mark tokens.opening) here = takes _ _ x (here refl) (λ y. (omega arith, λ o w e. (no_end tokens.closing w.sort refl e, tt)))
  primary_fits g x _ here = none _ x

  texts_fits : (g : Context) (xs : List (TokenOf t)) (x : TokenOf t) (s : Sort) → (is_mark tokens.end s ≡ false → is_end x ≡ false) → Fits t (at g (grammar.texts xs)) x (plan g (grammar.texts xs) x s)
  texts_fits g xs x tokens.text here = takes _ _ x (here refl) (λ y. (tt, λ ys. tt))
  texts_fits g xs x _ here = nothing _ x xs

  suffixes_fits : (g : Context) (f : t.Expr) (x : TokenOf t) (s : Sort) → (is_mark tokens.end s ≡ false → is_end x ≡ false) → Fits t (at g (grammar.suffixes f)) x (plan g (grammar.suffixes f) x s)
  suffixes_fits g f x (tokens.mark tokens.bracket) here = takes _ _ x (here refl) (λ y. (omega arith, λ o w e. (no_end tokens.unbracket w.sort refl e, (tt, λ d. tt))))
  suffixes_fits g f x (tokens.mark tokens.opening) here = takes _ _ x (here refl) (λ y. (tt, λ es w e. (no_end tokens.closing w.sort refl e, (tt, λ d. tt))))
  suffixes_fits g f x (tokens.mark tokens.member) here = takes _ _ x (here refl) (λ y w e. (named w.sort e, (tt, λ d. tt)))
  suffixes_fits g f x (tokens.mark tokens.step) here = takes _ _ x (here refl) (λ y. (tt, λ d. tt))
  suffixes_fits g f x _ here = nothing _ x f

  -- ---- specifiers

  specifiers_fits : (g : Context) (stores : Bool) (seen : Seen) (sp : Specified t) (x : TokenOf t) (s : Sort) (o : Option Seen) → (is_some o ≡ true → is_end x ≡ false) → Fits t (at g (grammar.specifiers stores seen sp)) x (grammar.specifiers_plan g stores seen sp x s o)
  specifiers_fits g stores seen sp x s None here = fits_if _ x (is_typed seen) _ _ (λ b. nothing _ x sp) (λ b. none _ x)
  specifiers_fits g stores seen sp x (tokens.mark tokens.struct) (Some new) here = takes _ _ x (here refl) (λ y. (tt, λ r. (tt, λ o. tt)))
  specifiers_fits g stores seen sp x (tokens.mark tokens.enum) (Some new) here = takes _ _ x (here refl) (λ y. (tt, λ r. (tt, λ o. tt)))
  specifiers_fits g stores seen sp x _ (Some new) here = takes _ _ x (here refl) (λ y. (tt, λ o. tt))

  struct_fits : (g : Context) (y x : TokenOf t) (s : Sort) → (is_mark tokens.end s ≡ false → is_end x ≡ false) → Fits t (at g (grammar.behind_struct y)) x (plan g (grammar.behind_struct y) x s)
  struct_fits g y x (tokens.mark tokens.brace) here = takes _ _ x (here refl) (λ z. (tt, λ d. (tt, λ ds w e. (no_end tokens.unbrace w.sort refl e, tt))))
  struct_fits g y x (tokens.name n) here = takes _ _ x (here refl) (λ z. (tt, λ r. tt))
  struct_fits g y x (tokens.named_type n) here = takes _ _ x (here refl) (λ z. (tt, λ r. tt))
  struct_fits g y x _ here = none _ x

  enum_fits : (g : Context) (y x : TokenOf t) (s : Sort) → (is_mark tokens.end s ≡ false → is_end x ≡ false) → Fits t (at g (grammar.behind_enum y)) x (plan g (grammar.behind_enum y) x s)
  enum_fits g y x (tokens.mark tokens.brace) here = takes _ _ x (here refl) (λ z. (tt, λ d. (tt, λ ds w e. (no_end tokens.unbrace w.sort refl e, tt))))
  enum_fits g y x (tokens.name n) here = takes _ _ x (here refl) (λ z. (tt, λ r. tt))
  enum_fits g y x (tokens.named_type n) here = takes _ _ x (here refl) (λ z. (tt, λ r. tt))
  enum_fits g y x _ here = none _ x

  enumerator_fits : (g : Context) (x : TokenOf t) (s : Sort) → (is_mark tokens.end s ≡ false → is_end x ≡ false) → Fits t (at g grammar.enumerator) x (plan g grammar.enumerator x s)
  enumerator_fits g x (tokens.name n) here = takes _ _ x (here refl) (λ z. (tt, λ v. tt))
  enumerator_fits g x _ here = none _ x

  -- ---- declarators

  qualifiers_fits : (g : Context) (xs : List (TokenOf t)) (x : TokenOf t) (s : Sort) → (is_mark tokens.end s ≡ false → is_end x ≡ false) → Fits t (at g (grammar.qualifiers xs)) x (plan g (grammar.qualifiers xs) x s)
  qualifiers_fits g xs x tokens.qualifier here = takes _ _ x (here refl) (λ y. (tt, λ ys. tt))
  qualifiers_fits g xs x _ here = nothing _ x xs

  direct_fits : (g : Context) (f : Form) (x : TokenOf t) (s : Sort) → (is_mark tokens.end s ≡ false → is_end x ≡ false) → Fits t (at g (grammar.direct f)) x (grammar.direct_plan g f x s)
  direct_fits g grammar.concrete x (tokens.name n) here = takes _ _ x (here refl) (λ y. tt)
  direct_fits g grammar.either x (tokens.name n) here = takes _ _ x (here refl) (λ y. tt)
  direct_fits g grammar.concrete x (tokens.mark tokens.opening) here = takes _ _ x (here refl) (λ y. (tt, λ d. tt))
  direct_fits g grammar.abstract x (tokens.mark tokens.opening) here = takes _ _ x (here refl) (λ y. (tt, λ d. tt))
  direct_fits g grammar.either x (tokens.mark tokens.opening) here = takes _ _ x (here refl) (λ y. (tt, λ d. tt))
  direct_fits g grammar.concrete x _ here = none _ x
  direct_fits g grammar.abstract x _ here = nothing _ x _
  direct_fits g grammar.either x _ here = nothing _ x _

  group_fits : (g : Context) (f : Form) (x : TokenOf t) (s : Sort) → (is_mark tokens.end s ≡ false → is_end x ≡ false) → Fits t (at g (grammar.group f)) x (grammar.group_plan g f x s)
  group_fits g f x (tokens.mark tokens.star) here = takes _ _ x (here refl) (λ y. (tt, λ qs. (tt, λ d. tt)))
  group_fits g f x (tokens.mark tokens.opening) here = takes _ _ x (here refl) (λ y. (tt, λ d. (tt, λ e. tt)))
  group_fits g grammar.concrete x (tokens.name n) here = takes _ _ x (here refl) (λ y. (tt, λ e. tt))
  group_fits g grammar.either x (tokens.name n) here = takes _ _ x (here refl) (λ y. (tt, λ e. tt))
  group_fits g grammar.abstract x (tokens.mark tokens.bracket) here = takes _ _ x (here refl) (λ y. (tt, λ n w e. (no_end tokens.unbracket w.sort refl e, (tt, λ r. tt))))
  group_fits g grammar.either x (tokens.mark tokens.bracket) here = takes _ _ x (here refl) (λ y. (tt, λ n w e. (no_end tokens.unbracket w.sort refl e, (tt, λ r. tt))))
  group_fits g grammar.concrete x _ here = none _ x
  group_fits g grammar.abstract x _ here = none _ x
  group_fits g grammar.either x _ here = none _ x

  declarator_suffixes_fits : (g : Context) (d : Declared t) (x : TokenOf t) (s : Sort) → (is_mark tokens.end s ≡ false → is_end x ≡ false) → Fits t (at g (grammar.declarator_suffixes d)) x (plan g (grammar.declarator_suffixes d) x s)
  declarator_suffixes_fits g d x (tokens.mark tokens.bracket) here = takes _ _ x (here refl) (λ y. (tt, λ n w e. (no_end tokens.unbracket w.sort refl e, (tt, λ r. tt))))
  declarator_suffixes_fits g d x (tokens.mark tokens.opening) here = takes _ _ x (here refl) (λ y. (tt, λ ps w e. (no_end tokens.closing w.sort refl e, (tt, λ r. tt))))
  declarator_suffixes_fits g d x _ here = nothing _ x d

  -- ---- statements

  statement_fits : (g : Context) (x : TokenOf t) (s : Sort) → (is_mark tokens.end s ≡ false → is_end x ≡ false) → Fits t (at g grammar.statement) x (plan g grammar.statement x s)
  statement_fits g x (tokens.name n) here = takes _ _ x (here refl) (λ y. (tt, λ r. tt))
  statement_fits g x (tokens.mark tokens.semicolon) here = takes _ _ x (here refl) (λ y. tt)
  statement_fits g x (tokens.mark tokens.brace) here = takes _ _ x (here refl) (λ y. (tt, λ ds. (tt, λ ss w e. (no_end tokens.unbrace w.sort refl e, tt))))
  statement_fits g x (tokens.mark tokens.case) here = takes _ _ x (here refl) (λ y. (omega arith, λ o w e. (no_end tokens.colon w.sort refl e, (tt, λ b. tt))))
  statement_fits g x (tokens.mark tokens.default) here = takes _ _ x (here refl) (λ y w e. (no_end tokens.colon w.sort refl e, (tt, λ b. tt)))
  statement_fits g x (tokens.mark tokens.if_word) here = takes _ _ x (here refl) (λ y w e. (no_end tokens.opening w.sort refl e, (omega arith, λ o v f. (no_end tokens.closing v.sort refl f, (tt, λ a. (tt, λ b. tt))))))
  statement_fits g x (tokens.mark tokens.switch) here = takes _ _ x (here refl) (λ y w e. (no_end tokens.opening w.sort refl e, (omega arith, λ o v f. (no_end tokens.closing v.sort refl f, (tt, λ a. tt)))))
  statement_fits g x (tokens.mark tokens.while) here = takes _ _ x (here refl) (λ y w e. (no_end tokens.opening w.sort refl e, (omega arith, λ o v f. (no_end tokens.closing v.sort refl f, (tt, λ a. tt)))))
  statement_fits g x (tokens.mark tokens.do_word) here = takes _ _ x (here refl)
      (λ y. (tt, λ a w e. (no_end tokens.while w.sort refl e, λ v f. (no_end tokens.opening v.sort refl f, (omega arith, λ o u i. (no_end tokens.closing u.sort refl i, λ r j. (no_end tokens.semicolon r.sort refl j, tt)))))))
  statement_fits g x (tokens.mark tokens.for) here = takes _ _ x (here refl)
      (λ y w e. (no_end tokens.opening w.sort refl e, (tt, λ a v f. (no_end tokens.semicolon v.sort refl f, (tt, λ b u i. (no_end tokens.semicolon u.sort refl i, (tt, λ c r j. (no_end tokens.closing r.sort refl j, (tt, λ d. tt)))))))))
  statement_fits g x (tokens.mark tokens.goto) here = takes _ _ x (here refl) (λ y w e. (named w.sort e, λ v f. (no_end tokens.semicolon v.sort refl f, tt)))
  statement_fits g x (tokens.mark tokens.continue) here = takes _ _ x (here refl) (λ y w e. (no_end tokens.semicolon w.sort refl e, tt))
  statement_fits g x (tokens.mark tokens.break) here = takes _ _ x (here refl) (λ y w e. (no_end tokens.semicolon w.sort refl e, tt))
  statement_fits g x (tokens.mark tokens.return) here = takes _ _ x (here refl) (λ y. (tt, λ a w e. (no_end tokens.semicolon w.sort refl e, tt)))
  statement_fits g x _ here = parts _ (at g (grammar.level 13)) _ x (omega arith) (omega arith) (λ o w e. (no_end tokens.semicolon w.sort refl e, tt)) (λ e. absurd cc)

  -- ---- all items

  item_fits : (g : Context) (i : Item t) (x : TokenOf t) (s : Sort) → (is_mark tokens.end s ≡ false → is_end x ≡ false) → HasLevel i → Fits t (at g i) x (plan g i x s)
  item_fits g (grammar.level k) x s here low = level_fits g k x s here low
  item_fits g (grammar.after k l) x s here low = fits_if _ x (stands_behind k l.unary s) _ _ (λ b. operator_fits g k l x s here low b) (λ b. nothing _ x l)
  item_fits g (grammar.tail zero l) x s here low = nothing _ x l
  item_fits g (grammar.tail (suc k) l) x s here low = parts _ (at g (grammar.after (13 - k) l)) _ x (omega arith) (omega arith) (λ o. (tt, λ p. tt)) (λ e o. (omega arith, λ f p. tt))
  item_fits g (grammar.behind_open y) x s here low = fits_if _ x (is_specifier s) _ _
      (λ b. parts _ (at g grammar.type_name) _ x tt (omega arith) (λ n w e. (no_end tokens.closing w.sort refl e, (omega arith, λ o. tt))) (λ e. absurd cc))
      (λ b. parts _ (at g (grammar.level 13)) _ x (omega arith) (omega arith) (λ o w e. (no_end tokens.closing w.sort refl e, (tt, λ f. tt))) (λ e. absurd cc))
  item_fits g grammar.unary x s here low = unary_fits g x s here
  item_fits g grammar.primary x s here low = primary_fits g x s here
  item_fits g grammar.arguments x s here low = fits_if _ x (begins_expression s) _ _
      (λ b. parts _ (at g (grammar.level 12)) _ x (omega arith) (omega arith) (λ o. (tt, λ es. tt)) (λ e. absurd cc))
      (λ b. nothing _ x [])
  item_fits g (grammar.behind_sizeof y) x s here low = fits_if _ x (is_mark tokens.opening s) _ _
      (λ b. takes _ _ x (here (no_end tokens.opening s refl b)) (λ w. (tt, λ e. tt)))
      (λ b. parts _ (at g grammar.unary) _ x tt (omega arith) (λ e. tt) (λ e. absurd cc))
  item_fits g (grammar.inside_sizeof y z) x s here low = fits_if _ x (is_specifier s) _ _
      (λ b. parts _ (at g grammar.type_name) _ x tt (omega arith) (λ n w e. (no_end tokens.closing w.sort refl e, tt)) (λ e. absurd cc))
      (λ b. parts _ (at g (grammar.level 13)) _ x (omega arith) (omega arith) (λ o w e. (no_end tokens.closing w.sort refl e, (tt, λ f. tt))) (λ e. absurd cc))
  item_fits g (grammar.texts xs) x s here low = texts_fits g xs x s here
  item_fits g (grammar.suffixes f) x s here low = suffixes_fits g f x s here
  item_fits g (grammar.more_arguments es) x s here low = fits_if _ x (is_mark tokens.comma s) _ _
      (λ b. takes _ _ x (here (no_end tokens.comma s refl b)) (λ y. (omega arith, λ o. (tt, λ fs. tt))))
      (λ b. nothing _ x es)
  item_fits g grammar.type_name x s here low = parts _ (at g (grammar.specifiers false nothing_seen grammar.no_specifiers)) _ x tt (omega arith) (λ sp. (tt, λ d. tt)) (λ e. absurd cc)
  item_fits g grammar.optional_specifiers x s here low = fits_if _ x (begins_specifiers true g.inside s) _ _
      (λ b. parts _ (at g (grammar.specifiers true nothing_seen grammar.no_specifiers)) _ x tt (omega arith) (λ sp. tt) (λ e. absurd cc))
      (λ b. nothing _ x _)
  item_fits g (grammar.specifiers stores seen sp) x s here low = specifiers_fits g stores seen sp x s (add stores g.inside seen s) (λ b. here (adds stores g.inside seen s b))
  item_fits g (grammar.behind_struct y) x s here low = struct_fits g y x s here
  item_fits g (grammar.struct_body y z) x s here low = fits_if _ x (is_mark tokens.brace s) _ _
      (λ b. takes _ _ x (here (no_end tokens.brace s refl b)) (λ w. (tt, λ d. (tt, λ ds v e. (no_end tokens.unbrace v.sort refl e, tt)))))
      (λ b. nothing _ x _)
  item_fits g grammar.member x s here low = parts _ (at g (grammar.specifiers false nothing_seen grammar.no_specifiers)) _ x tt (omega arith) (λ sp. (tt, λ d. (tt, λ is w e. (no_end tokens.semicolon w.sort refl e, tt)))) (λ e. absurd cc)
  item_fits g (grammar.members ds) x s here low = fits_if _ x (begins_specifiers false g.inside s) _ _
      (λ b. parts _ (at g grammar.member) _ x tt (omega arith) (λ d. (tt, λ es. tt)) (λ e. absurd cc))
      (λ b. nothing _ x ds)
  item_fits g (grammar.member_items is) x s here low = fits_if _ x (is_mark tokens.comma s) _ _
      (λ b. takes _ _ x (here (no_end tokens.comma s refl b)) (λ y. (tt, λ d. (tt, λ js. tt))))
      (λ b. nothing _ x is)
  item_fits g (grammar.behind_enum y) x s here low = enum_fits g y x s here
  item_fits g (grammar.enum_body y z) x s here low = fits_if _ x (is_mark tokens.brace s) _ _
      (λ b. takes _ _ x (here (no_end tokens.brace s refl b)) (λ w. (tt, λ d. (tt, λ ds v e. (no_end tokens.unbrace v.sort refl e, tt)))))
      (λ b. nothing _ x _)
  item_fits g grammar.enumerator x s here low = enumerator_fits g x s here
  item_fits g grammar.value_of x s here low = fits_if _ x (is_mark tokens.equal s) _ _
      (λ b. takes _ _ x (here (no_end tokens.equal s refl b)) (λ y. (omega arith, λ o. tt)))
      (λ b. nothing _ x None)
  item_fits g (grammar.enumerators es) x s here low = fits_if _ x (is_mark tokens.comma s) _ _
      (λ b. takes _ _ x (here (no_end tokens.comma s refl b)) (λ y. (tt, λ e. (tt, λ fs. tt))))
      (λ b. nothing _ x es)
  item_fits g (grammar.qualifiers xs) x s here low = qualifiers_fits g xs x s here
  item_fits g (grammar.declarator f) x s here low = fits_if _ x (is_mark tokens.star s) _ _
      (λ b. takes _ _ x (here (no_end tokens.star s refl b)) (λ y. (tt, λ qs. (tt, λ d. tt))))
      (λ b. parts _ (at g (grammar.direct f)) _ x tt (omega arith) (λ d. (tt, λ e. tt)) (λ e d. (omega arith, λ h r. tt)))
  item_fits g (grammar.direct f) x s here low = direct_fits g f x s here
  item_fits g (grammar.group f) x s here low = group_fits g f x s here
  item_fits g (grammar.behind_group f y) x s here low = fits_if _ x (not (grammar.is_concrete f) && grammar.is_parameters s) _ _
      (λ b. parts _ (at g grammar.parameters) _ x tt (omega arith) (λ ps w e. (no_end tokens.closing w.sort refl e, tt)) (λ e ps. tt))
      (λ b. parts _ (at g (grammar.group f)) _ x tt (omega arith) (λ d w e. (no_end tokens.closing w.sort refl e, tt)) (λ e d. tt))
  item_fits g (grammar.declarator_suffixes d) x s here low = declarator_suffixes_fits g d x s here
  item_fits g grammar.array_length x s here low = fits_if _ x (begins_expression s) _ _
      (λ b. parts _ (at g (grammar.level 11)) _ x (omega arith) (omega arith) (λ o. tt) (λ e. absurd cc))
      (λ b. nothing _ x None)
  item_fits g grammar.parameters x s here low = fits_if _ x (begins_specifiers true g.inside s) _ _
      (λ b. parts _ (at g grammar.parameter) _ x tt (omega arith) (λ p. (tt, λ ps. tt)) (λ e. absurd cc))
      (λ b. nothing _ x _)
  item_fits g grammar.parameter x s here low = parts _ (at g (grammar.specifiers true nothing_seen grammar.no_specifiers)) _ x tt (omega arith) (λ sp. (tt, λ d. tt)) (λ e. absurd cc)
  item_fits g (grammar.more_parameters ps) x s here low = fits_if _ x (is_mark tokens.comma s) _ _
      (λ b. takes _ _ x (here (no_end tokens.comma s refl b)) (λ y. (tt, λ r. tt)))
      (λ b. nothing _ x _)
  item_fits g (grammar.behind_comma c ps) x s here low = fits_if _ x (is_mark tokens.ellipsis s) _ _
      (λ b. takes _ _ x (here (no_end tokens.ellipsis s refl b)) (λ y. tt))
      (λ b. parts _ (at g grammar.parameter) _ x tt (omega arith) (λ p. (tt, λ qs. tt)) (λ e. absurd cc))
  item_fits g grammar.init x s here low = fits_if _ x (is_mark tokens.brace s) _ _
      (λ b. takes _ _ x (here (no_end tokens.brace s refl b)) (λ y. (tt, λ i. (tt, λ r w e. (no_end tokens.unbrace w.sort refl e, tt)))))
      (λ b. parts _ (at g (grammar.level 12)) _ x (omega arith) (omega arith) (λ o. tt) (λ e. absurd cc))
  item_fits g (grammar.inits is) x s here low = fits_if _ x (is_mark tokens.comma s) _ _
      (λ b. takes _ _ x (here (no_end tokens.comma s refl b)) (λ y. (tt, λ r. tt)))
      (λ b. nothing _ x _)
  item_fits g (grammar.behind_init_comma is) x s here low = fits_if _ x (is_mark tokens.brace s || begins_expression s) _ _
      (λ b. parts _ (at g grammar.init) _ x tt (omega arith) (λ i. (tt, λ r. tt)) (λ e. absurd cc))
      (λ b. nothing _ x _)
  item_fits g grammar.declaration x s here low = parts _ (at g (grammar.specifiers true nothing_seen grammar.no_specifiers)) _ x tt (omega arith) (λ sp. (tt, λ is w e. (no_end tokens.semicolon w.sort refl e, tt))) (λ e. absurd cc)
  item_fits g grammar.items x s here low = fits_if _ x (begins_items s) _ _
      (λ b. parts _ (at g grammar.item) _ x tt (omega arith) (λ i. (tt, λ is. tt)) (λ e. absurd cc))
      (λ b. nothing _ x _)
  item_fits g grammar.item x s here low = parts _ (at g (grammar.declarator grammar.concrete)) _ x tt (omega arith) (λ d. (tt, λ v. tt)) (λ e. absurd cc)
  item_fits g grammar.initial x s here low = fits_if _ x (is_mark tokens.equal s) _ _
      (λ b. takes _ _ x (here (no_end tokens.equal s refl b)) (λ y. (tt, λ i. tt)))
      (λ b. nothing _ x None)
  item_fits g (grammar.more_items is) x s here low = fits_if _ x (is_mark tokens.comma s) _ _
      (λ b. takes _ _ x (here (no_end tokens.comma s refl b)) (λ y. (tt, λ i. (tt, λ js. tt))))
      (λ b. nothing _ x is)
  item_fits g (grammar.declarations ds) x s here low = fits_if _ x (begins_specifiers true g.inside s) _ _
      (λ b. parts _ (at g grammar.declaration) _ x tt (omega arith) (λ d. (tt, λ es. tt)) (λ e. absurd cc))
      (λ b. nothing _ x ds)
  item_fits g grammar.statement x s here low = statement_fits g x s here
  item_fits g grammar.else_part x s here low = fits_if _ x (is_mark tokens.else_word s) _ _
      (λ b. takes _ _ x (here (no_end tokens.else_word s refl b)) (λ y. (tt, λ a. tt)))
      (λ b. nothing _ x None)
  item_fits g grammar.optional_expression x s here low = fits_if _ x (begins_expression s) _ _
      (λ b. parts _ (at g (grammar.level 13)) _ x (omega arith) (omega arith) (λ o. tt) (λ e. absurd cc))
      (λ b. nothing _ x None)
  item_fits g (grammar.behind_name y) x s here low = fits_if _ x (is_mark tokens.colon s) _ _
      (λ b. takes _ _ x (here (no_end tokens.colon s refl b)) (λ z. (tt, λ a. tt)))
      (λ b. parts _ (at g (grammar.suffixes (t.name y))) _ x tt (omega arith) (λ e. (tt, λ o w h. (no_end tokens.semicolon w.sort refl h, tt))) (λ h e. (omega arith, λ r o. tt)))
  item_fits g (grammar.statements ss) x s here low = fits_if _ x (begins_expression s || begins_other s) _ _
      (λ b. parts _ (at g grammar.statement) _ x tt (omega arith) (λ a. (tt, λ bs. tt)) (λ e. absurd cc))
      (λ b. nothing _ x ss)
  item_fits g grammar.external x s here low = fits_if _ x (is_mark tokens.semicolon s) _ _
      (λ b. takes _ _ x (here (no_end tokens.semicolon s refl b)) (λ y. tt))
      (λ b. parts _ (at g (grammar.specifiers true nothing_seen grammar.no_specifiers)) _ x tt (omega arith) (λ sp. (tt, λ r. tt)) (λ e. absurd cc))
  item_fits g (grammar.external_items sp) x s here low = fits_if _ x (is_mark tokens.semicolon s) _ _
      (λ b. takes _ _ x (here (no_end tokens.semicolon s refl b)) (λ y. tt))
      (λ b. parts _ (at g (grammar.declarator grammar.concrete)) _ x tt (omega arith) (λ d. (tt, λ r. tt)) (λ e. absurd cc))
  item_fits g (grammar.behind_declarator sp d) x s here low = fits_if _ x (is_mark tokens.brace s && not (grammar.is_variadic d.shape)) _ _
      (λ b. takes _ _ x (here (no_end tokens.brace s refl (and_left (is_mark tokens.brace s) (not (grammar.is_variadic d.shape)) b))) (λ y. (tt, λ ds. (tt, λ ss w e. (no_end tokens.unbrace w.sort refl e, tt)))))
      (λ b. parts _ (at g grammar.initial) _ x tt (omega arith) (λ v. (tt, λ is w e. (no_end tokens.semicolon w.sort refl e, tt))) (λ h v. (omega arith, λ r is. tt)))

  fits : (n : Ask t) (x : TokenOf t) → LeavesEnd n → Fits t n x (predict n x)
  fits (at g i) x low = item_fits g i x (view g.types x.sort) (sees g.types x.sort) low
  fits (unit types) x low = fits_if _ x (is_mark tokens.semicolon (view types x.sort) || begins_specifiers true false (view types x.sort)) _ _
      (λ b. parts _ (at (grammar.outside types) grammar.external) _ x tt (omega arith) (λ e. (tt, λ es. tt)) (λ e. absurd cc))
      (λ b. nothing _ x [])
  fits whole x low = absurd low

  ends : Ends (c90 t) LeavesEnd is_end rank
  ends = record { spares = λ n x low. (fits n x low).spares; descends = λ n x low. (fits n x low).descends }

  -- ---- any tokens

  leaving : (n : Ask t) (xs : List (TokenOf t)) → LeavesEnd n → AreEnded is_end xs → IsDecided (c90 t) is_end n (ask n) xs
  leaving n xs low ended = decided (c90 t) is_end (c90_checked t) LeavesEnd rank ends n xs low ended

  -- behind the end stands nothing
  none_behind : (y : TokenOf t) (ys : List (TokenOf t)) → AreEnded is_end (y ∷ ys) → is_end y ≡ true → ys ≡ []
  none_behind y [] ended e = refl
  none_behind y (z ∷ zs) ended e = absurd cc

  -- a unit, and then the end of the text
  whole_settled : (xs : List (TokenOf t)) → AreEnded is_end xs → HasOneOutcome (c90 t) (IsLeft {t = t} whole) whole xs
  whole_settled [] ended = absurd ended
  whole_settled (x ∷ xs) ended = by (leaving (unit []) (x ∷ xs) tt ended)
    where
      at_end : (es : List t.External) (ys : List (TokenOf t)) → Reads (c90 t) (unit []) (ask (unit [])) (x ∷ xs) es ys → AreEnded is_end ys → HasOneOutcome (c90 t) (IsLeft {t = t} whole) whole (x ∷ xs)
      at_end es [] r ends = absurd ends
      at_end es (y ∷ ys) r ends = elim (which (is_end y)) [
        | inl e ↦ read_once (c90 t) is_end (read_call refl (join r (read_take e read_done)) read_done) (none_behind y ys ends e)
        | inr e ↦ fails_once (c90 t) is_end (fail_inside refl (join_fails r (fail_take e)))
      ]

      by : IsDecided (c90 t) is_end (unit []) (ask (unit [])) (x ∷ xs) → HasOneOutcome (c90 t) (IsLeft {t = t} whole) whole (x ∷ xs)
      by (reads es ys r ends short) = at_end es ys r ends
      by (fails f bad h) = fails_once (c90 t) is_end (fail_inside refl (ask_fails h))

-- Any tokens are read or fail, and not both.
pub c90_settled : (t : Trees) → AreSettled t
c90_settled t (at g i) xs asked ended = one_outcome (c90 t) is_end (leaving t (at g i) xs asked ended)
c90_settled t (unit types) xs asked ended = one_outcome (c90 t) is_end (leaving t (unit types) xs asked ended)
c90_settled t whole xs asked ended = whole_settled t xs ended
