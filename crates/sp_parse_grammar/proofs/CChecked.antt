-- The table of C90 keeps what is checked of a table.
use Rattle.std.proofs.Common.{◌≡◌, ◌≢◌, ℕ, zero, suc, ◌<◌, ◌≤◌, Bool, true, false, ◌⊎◌, inl, inr, List, [], ◌∷◌, Option, Some, None, refl, sym, ap, ◌∙◌, subst, arith}
use Rattle.std.specs.Prelude.{◌==◌, ◌&&◌, ◌||◌, not, if◌then◌else◌, is_some}
use Rattle.std.specs.List.{list_any}
use Rattle.std.proofs.lemmas.Bool.{eqb-true}
use Rattle.sp_parse_grammar.specs.Table.{Plan, done, take, rest_of, first, Opens, open_take, open_call}
use Rattle.sp_parse_grammar.specs.Checked.{Follows, Even, IsFine, Good}
use Rattle.sp_parse_grammar.specs.CTokens as tokens
use Rattle.sp_parse_grammar.specs.CTokens.{Token, Mark, Sort, Seen, view, is_mark, looseness, is_specifier, is_declaring, nothing_seen, is_typed, whole_seen, add, above}
use Rattle.sp_parse_grammar.specs.CTrees.{Trees, TokenOf}
use Rattle.sp_parse_grammar.specs.CTable as grammar
use Rattle.sp_parse_grammar.specs.CTable.{Context, Operand, Specified, Declared, Form, Item, ItemAnswer, Ask, at, unit, whole, Class, any, c_symbols, get, next, plan, c90, stands_behind, operator_plan, begins_expression, begins_other, begins_items, begins_specifiers, Stops, ItemStops, ending, value}

pub if_true : {A : Type 0} (b : Bool) (x y : A) → b ≡ true → (if b then x else y) ≡ x
if_true true x y e = refl
if_true false x y e = absurd cc

pub if_false : {A : Type 0} (b : Bool) (x y : A) → b ≡ false → (if b then x else y) ≡ y
if_false true x y e = absurd cc
if_false false x y e = refl

pub which : (b : Bool) → (b ≡ true) ⊎ (b ≡ false)
which true = inl refl
which false = inr refl

-- a number above all is none of them
pub apart : (x n : ℕ) → x < n → (x == n) ≡ false
apart x n less = elim (which (x == n)) [
  | inl e ↦ let same : x ≡ n = eqb-true x n e in absurd (omega arith)
  | inr e ↦ e
]

none_above : (ns : List ℕ) (n : ℕ) → above ns ≤ n → list_any (λ t. t == n) ns ≡ false
none_above [] n less = refl
none_above (x ∷ xs) n less = rw (apart x n (omega arith)) (none_above xs n (omega arith))

pub fresh_view : (ns : List ℕ) → view ns (tokens.name (above ns)) ≡ tokens.name (above ns)
fresh_view ns = if_false (list_any (λ t. t == above ns) ns) (tokens.named_type (above ns)) (tokens.name (above ns)) (none_above ns (above ns) (omega arith))

-- what goes on with no declarator is no qualifier and no head of one
pub no_qualifier : (s : Sort) → is_declaring s ≡ false → grammar.is_qualifier s ≡ false
no_qualifier tokens.qualifier e = absurd cc
no_qualifier _ e = refl

pub no_head : (s : Sort) → is_declaring s ≡ false → grammar.is_declaring_head s ≡ false
no_head (tokens.name n) e = absurd cc
no_head (tokens.mark tokens.opening) e = absurd cc
no_head _ e = refl

and_right : (a b : Bool) → a && b ≡ true → b ≡ true
and_right true b e = e
and_right false b e = absurd cc

module _ (t : Trees) where
  abbrev Fine : (n : Ask t) → TokenOf t → Plan (c_symbols t) n → Type 0
  Fine n x q = IsFine (c90 t) n x q

  -- a production that takes the token by which it was chosen
  takes : (n : Ask t) (k : TokenOf t → Plan (c_symbols t) n) (x : TokenOf t) → ((z : TokenOf t) → Stops n z → (y : TokenOf t) → Follows (c90 t) (k y) z) → ((y : TokenOf t) → Even (c90 t) (k y)) → Fine n x (take any k)
  takes n k x follows even = record { follows = λ z stops y e. follows z stops y; hollow = λ e. absurd cc; exact = λ e. inr (open_take refl); even = even }

  -- a production that reads nothing
  nothing : (n : Ask t) (x : TokenOf t) (o : grammar.Answer n) → ending n ≡ [] → o ≡ value n → Fine n x (done o)
  nothing n x o e v = record { follows = λ z stops. tt; hollow = λ g. (e, v); exact = λ g. inl refl; even = tt }

  -- a production that asks for a part first, of an ask that isn't read from nothing
  parts : (n : Ask t) (x : TokenOf t) (q : Plan (c_symbols t) n) → rest_of (c90 t) q ≢ [] → ending n ≢ [] → ((z : TokenOf t) → Stops n z → Follows (c90 t) q z) → Even (c90 t) q → Fine n x q
  parts n x q some any_end follows even = record { follows = follows; hollow = λ e. absurd (some e); exact = λ e. absurd (any_end e); even = even }

  -- the same of any ask, where the part takes the token
  opening : (n : Ask t) (x : TokenOf t) (q : Plan (c_symbols t) n) → rest_of (c90 t) q ≢ [] → Opens (c90 t) n q x → ((z : TokenOf t) → Stops n z → Follows (c90 t) q z) → Even (c90 t) q → Fine n x q
  opening n x q some opens follows even = record { follows = follows; hollow = λ e. absurd (some e); exact = λ e. inr opens; even = even }

  good_if : (n : Ask t) (x : TokenOf t) (b : Bool) (p q : Option (Plan (c_symbols t) n)) → (b ≡ true → Good (c90 t) n x p) → (b ≡ false → Good (c90 t) n x q) → Good (c90 t) n x (if b then p else q)
  good_if n x true p q first second = first refl
  good_if n x false p q first second = second refl

  -- ---- expressions

  operator_good : (g : Context) (k : ℕ) (l : Operand t) (x : TokenOf t) (s : Sort) → stands_behind k l.unary s ≡ true → Fine (at g (grammar.after k l)) x (operator_plan g k l x s)
  operator_good g k l x (tokens.mark tokens.question) b =
      let level : 11 ≡ k = eqb-true 11 k b in
      takes _ _ x (λ z h y a. (omega arith, λ w e d. (omega arith, tt))) (λ y a. ((λ d e. e), λ w d. ((λ f e. e), tt)))
  operator_good g k l x (tokens.mark tokens.comma) b =
      let level : 13 ≡ k = eqb-true 13 k b in
      takes _ _ x (λ z h y r. (omega arith, λ o. (h, tt))) (λ y r. ((λ d e. e), λ o. ((λ d e. e), tt)))
  operator_good g k l x (tokens.mark tokens.equal) b =
      let level : 12 ≡ k = eqb-true 12 k (and_right l.unary (12 == k) b) in
      takes _ _ x (λ z h y r. (omega arith, tt)) (λ y r. ((λ d e. e), tt))
  operator_good g k l x tokens.assigning b =
      let level : 12 ≡ k = eqb-true 12 k (and_right l.unary (12 == k) b) in
      takes _ _ x (λ z h y r. (omega arith, tt)) (λ y r. ((λ d e. e), tt))
  operator_good g k l x _ b = takes _ _ x (λ z h y r. (omega arith, λ o. (h, tt))) (λ y r. ((λ d e. e), λ o. ((λ d e. e), tt)))

  level_good : (g : Context) (k : ℕ) (x : TokenOf t) (s : Sort) → Good (c90 t) (at g (grammar.level k)) x (plan g (grammar.level k) x s)
  level_good g zero x s = good_if _ x (is_mark tokens.opening s) _ _
      (λ b. takes _ _ x (λ z h y o. (h, tt)) (λ y o. ((λ p e. e), tt)))
      (λ b. parts _ x _ (λ e. cc) (λ e. cc) (λ z h e. (h, tt)) (λ a. ((λ p e. e), tt)))
  level_good g (suc k) x s = parts _ x _ (λ e. cc) (λ e. cc) (λ z h l. (omega arith, λ o. (h, tt))) (λ l. ((λ p e. e), λ o. ((λ p e. e), tt)))

  unary_good : (g : Context) (x : TokenOf t) (s : Sort) → Good (c90 t) (at g grammar.unary) x (plan g grammar.unary x s)
  unary_good g x (tokens.mark tokens.step) = takes _ _ x (λ z h y e. (h, tt)) (λ y o. ((λ p e. e), tt))
  unary_good g x (tokens.mark tokens.star) = takes _ _ x (λ z h y e. (h, tt)) (λ y o. ((λ p e. e), tt))
  unary_good g x (tokens.mark tokens.ampersand) = takes _ _ x (λ z h y e. (h, tt)) (λ y o. ((λ p e. e), tt))
  unary_good g x (tokens.mark tokens.additive) = takes _ _ x (λ z h y e. (h, tt)) (λ y o. ((λ p e. e), tt))
  unary_good g x (tokens.mark tokens.tilde) = takes _ _ x (λ z h y e. (h, tt)) (λ y o. ((λ p e. e), tt))
  unary_good g x (tokens.mark tokens.sizeof) = takes _ _ x (λ z h y e. (h, tt)) (λ y o. ((λ p e. e), tt))
  unary_good g x _ = parts _ x _ (λ e. cc) (λ e. cc) (λ z h e. (h, λ f. (h, tt))) (λ a. ((λ p e. e), λ f. ((λ p e. e), tt)))

  -- ---- which token a part takes

  opens_part : (g : Context) (i : Item t) (x : TokenOf t) (s : Sort) (q : Plan (c_symbols t) (at g i)) → view g.types x.sort ≡ s → plan g i x s ≡ Some q → Opens (c90 t) (at g i) q x → (m : Ask t) (k : ItemAnswer i → Plan (c_symbols t) m) → Opens (c90 t) m (get g i k) x
  opens_part g i x s q e p o m k = open_call (ap (plan g i x) e ∙ p) o

  opens_zero : (g : Context) (x : TokenOf t) (s : Sort) → view g.types x.sort ≡ s → begins_expression s ≡ true → (m : Ask t) (k : Operand t → Plan (c_symbols t) m) → Opens (c90 t) m (get g (grammar.level zero) k) x
  opens_zero g x (tokens.name n) e b m k = opens_part g (grammar.level zero) x (tokens.name n) _ e refl (opens_part g grammar.unary x (tokens.name n) _ e refl (opens_part g grammar.primary x (tokens.name n) _ e refl (open_take refl) _ _) _ _) m k
  opens_zero g x tokens.constant e b m k = opens_part g (grammar.level zero) x tokens.constant _ e refl (opens_part g grammar.unary x tokens.constant _ e refl (opens_part g grammar.primary x tokens.constant _ e refl (open_take refl) _ _) _ _) m k
  opens_zero g x tokens.text e b m k = opens_part g (grammar.level zero) x tokens.text _ e refl (opens_part g grammar.unary x tokens.text _ e refl (opens_part g grammar.primary x tokens.text _ e refl (open_take refl) _ _) _ _) m k
  opens_zero g x (tokens.mark tokens.opening) e b m k = opens_part g (grammar.level zero) x (tokens.mark tokens.opening) _ e refl (open_take refl) m k
  opens_zero g x (tokens.mark tokens.step) e b m k = opens_part g (grammar.level zero) x (tokens.mark tokens.step) _ e refl (opens_part g grammar.unary x (tokens.mark tokens.step) _ e refl (open_take refl) _ _) m k
  opens_zero g x (tokens.mark tokens.star) e b m k = opens_part g (grammar.level zero) x (tokens.mark tokens.star) _ e refl (opens_part g grammar.unary x (tokens.mark tokens.star) _ e refl (open_take refl) _ _) m k
  opens_zero g x (tokens.mark tokens.ampersand) e b m k = opens_part g (grammar.level zero) x (tokens.mark tokens.ampersand) _ e refl (opens_part g grammar.unary x (tokens.mark tokens.ampersand) _ e refl (open_take refl) _ _) m k
  opens_zero g x (tokens.mark tokens.additive) e b m k = opens_part g (grammar.level zero) x (tokens.mark tokens.additive) _ e refl (opens_part g grammar.unary x (tokens.mark tokens.additive) _ e refl (open_take refl) _ _) m k
  opens_zero g x (tokens.mark tokens.tilde) e b m k = opens_part g (grammar.level zero) x (tokens.mark tokens.tilde) _ e refl (opens_part g grammar.unary x (tokens.mark tokens.tilde) _ e refl (open_take refl) _ _) m k
  opens_zero g x (tokens.mark tokens.sizeof) e b m k = opens_part g (grammar.level zero) x (tokens.mark tokens.sizeof) _ e refl (opens_part g grammar.unary x (tokens.mark tokens.sizeof) _ e refl (open_take refl) _ _) m k
  opens_zero g x _ e b m k = absurd cc

  opens_level : (g : Context) (j : ℕ) (x : TokenOf t) (s : Sort) → view g.types x.sort ≡ s → begins_expression s ≡ true → (m : Ask t) (k : Operand t → Plan (c_symbols t) m) → Opens (c90 t) m (get g (grammar.level j) k) x
  opens_level g zero x s e b m k = opens_zero g x s e b m k
  opens_level g (suc j) x s e b m k = opens_part g (grammar.level (suc j)) x s _ e refl (opens_level g j x s e b _ _) m k

  specifiers_open : (g : Context) (stores : Bool) (seen : Seen) (sp : Specified t) (x : TokenOf t) (s : Sort) (o : Option Seen) → is_some o ≡ true → (q : Plan (c_symbols t) (at g (grammar.specifiers stores seen sp))) × (grammar.specifiers_plan g stores seen sp x s o ≡ Some q) × Opens (c90 t) (at g (grammar.specifiers stores seen sp)) q x
  specifiers_open g stores seen sp x s None b = absurd cc
  specifiers_open g stores seen sp x (tokens.mark tokens.struct) (Some new) b = (_, refl, open_take refl)
  specifiers_open g stores seen sp x (tokens.mark tokens.enum) (Some new) b = (_, refl, open_take refl)
  specifiers_open g stores seen sp x _ (Some new) b = (_, refl, open_take refl)

  opens_specifiers : (g : Context) (stores : Bool) (x : TokenOf t) (s : Sort) → view g.types x.sort ≡ s → begins_specifiers stores g.inside s ≡ true → (m : Ask t) (k : Specified t → Plan (c_symbols t) m) → Opens (c90 t) m (get g (grammar.specifiers stores nothing_seen grammar.no_specifiers) k) x
  opens_specifiers g stores x s e b m k =
      let o = specifiers_open g stores nothing_seen grammar.no_specifiers x s (add stores g.inside nothing_seen s) b in
      opens_part g (grammar.specifiers stores nothing_seen grammar.no_specifiers) x s o.0 e o.1 o.2 m k

  opens_init_at : (g : Context) (x : TokenOf t) (s : Sort) (b : Bool) → view g.types x.sort ≡ s → is_mark tokens.brace s ≡ b → b || begins_expression s ≡ true → (m : Ask t) (k : t.Init → Plan (c_symbols t) m) → Opens (c90 t) m (get g grammar.init k) x
  opens_init_at g x s true e brace begins m k = opens_part g grammar.init x s _ e (if_true (is_mark tokens.brace s) _ _ brace) (open_take refl) m k
  opens_init_at g x s false e brace begins m k = opens_part g grammar.init x s _ e (if_false (is_mark tokens.brace s) _ _ brace) (opens_level g 12 x s e begins _ _) m k

  opens_items : (g : Context) (x : TokenOf t) (s : Sort) → view g.types x.sort ≡ s → begins_items s ≡ true → (m : Ask t) (k : grammar.Items t → Plan (c_symbols t) m) → Opens (c90 t) m (get g grammar.item k) x
  opens_items g x (tokens.name n) e b m k = opens_part g grammar.item x (tokens.name n) _ e refl (opens_part g (grammar.declarator grammar.concrete) x (tokens.name n) _ e refl (opens_part g (grammar.direct grammar.concrete) x (tokens.name n) _ e refl (open_take refl) _ _) _ _) m k
  opens_items g x (tokens.mark tokens.star) e b m k = opens_part g grammar.item x (tokens.mark tokens.star) _ e refl (opens_part g (grammar.declarator grammar.concrete) x (tokens.mark tokens.star) _ e refl (open_take refl) _ _) m k
  opens_items g x (tokens.mark tokens.opening) e b m k = opens_part g grammar.item x (tokens.mark tokens.opening) _ e refl (opens_part g (grammar.declarator grammar.concrete) x (tokens.mark tokens.opening) _ e refl (opens_part g (grammar.direct grammar.concrete) x (tokens.mark tokens.opening) _ e refl (open_take refl) _ _) _ _) m k
  opens_items g x _ e b m k = absurd cc

  opens_statement : (g : Context) (x : TokenOf t) (s : Sort) → view g.types x.sort ≡ s → begins_expression s || begins_other s ≡ true → (m : Ask t) (k : t.Statement → Plan (c_symbols t) m) → Opens (c90 t) m (get g grammar.statement k) x
  opens_statement g x (tokens.name n) e b m k = opens_part g grammar.statement x (tokens.name n) _ e refl (open_take refl) m k
  opens_statement g x tokens.constant e b m k = opens_part g grammar.statement x tokens.constant _ e refl (opens_level g 13 x tokens.constant e refl _ _) m k
  opens_statement g x tokens.text e b m k = opens_part g grammar.statement x tokens.text _ e refl (opens_level g 13 x tokens.text e refl _ _) m k
  opens_statement g x (tokens.mark tokens.opening) e b m k = opens_part g grammar.statement x (tokens.mark tokens.opening) _ e refl (opens_level g 13 x (tokens.mark tokens.opening) e refl _ _) m k
  opens_statement g x (tokens.mark tokens.step) e b m k = opens_part g grammar.statement x (tokens.mark tokens.step) _ e refl (opens_level g 13 x (tokens.mark tokens.step) e refl _ _) m k
  opens_statement g x (tokens.mark tokens.star) e b m k = opens_part g grammar.statement x (tokens.mark tokens.star) _ e refl (opens_level g 13 x (tokens.mark tokens.star) e refl _ _) m k
  opens_statement g x (tokens.mark tokens.ampersand) e b m k = opens_part g grammar.statement x (tokens.mark tokens.ampersand) _ e refl (opens_level g 13 x (tokens.mark tokens.ampersand) e refl _ _) m k
  opens_statement g x (tokens.mark tokens.additive) e b m k = opens_part g grammar.statement x (tokens.mark tokens.additive) _ e refl (opens_level g 13 x (tokens.mark tokens.additive) e refl _ _) m k
  opens_statement g x (tokens.mark tokens.tilde) e b m k = opens_part g grammar.statement x (tokens.mark tokens.tilde) _ e refl (opens_level g 13 x (tokens.mark tokens.tilde) e refl _ _) m k
  opens_statement g x (tokens.mark tokens.sizeof) e b m k = opens_part g grammar.statement x (tokens.mark tokens.sizeof) _ e refl (opens_level g 13 x (tokens.mark tokens.sizeof) e refl _ _) m k
  opens_statement g x (tokens.mark tokens.semicolon) e b m k = opens_part g grammar.statement x (tokens.mark tokens.semicolon) _ e refl (open_take refl) m k
  opens_statement g x (tokens.mark tokens.brace) e b m k = opens_part g grammar.statement x (tokens.mark tokens.brace) _ e refl (open_take refl) m k
  opens_statement g x (tokens.mark tokens.if_word) e b m k = opens_part g grammar.statement x (tokens.mark tokens.if_word) _ e refl (open_take refl) m k
  opens_statement g x (tokens.mark tokens.switch) e b m k = opens_part g grammar.statement x (tokens.mark tokens.switch) _ e refl (open_take refl) m k
  opens_statement g x (tokens.mark tokens.case) e b m k = opens_part g grammar.statement x (tokens.mark tokens.case) _ e refl (open_take refl) m k
  opens_statement g x (tokens.mark tokens.default) e b m k = opens_part g grammar.statement x (tokens.mark tokens.default) _ e refl (open_take refl) m k
  opens_statement g x (tokens.mark tokens.while) e b m k = opens_part g grammar.statement x (tokens.mark tokens.while) _ e refl (open_take refl) m k
  opens_statement g x (tokens.mark tokens.do_word) e b m k = opens_part g grammar.statement x (tokens.mark tokens.do_word) _ e refl (open_take refl) m k
  opens_statement g x (tokens.mark tokens.for) e b m k = opens_part g grammar.statement x (tokens.mark tokens.for) _ e refl (open_take refl) m k
  opens_statement g x (tokens.mark tokens.goto) e b m k = opens_part g grammar.statement x (tokens.mark tokens.goto) _ e refl (open_take refl) m k
  opens_statement g x (tokens.mark tokens.continue) e b m k = opens_part g grammar.statement x (tokens.mark tokens.continue) _ e refl (open_take refl) m k
  opens_statement g x (tokens.mark tokens.break) e b m k = opens_part g grammar.statement x (tokens.mark tokens.break) _ e refl (open_take refl) m k
  opens_statement g x (tokens.mark tokens.return) e b m k = opens_part g grammar.statement x (tokens.mark tokens.return) _ e refl (open_take refl) m k
  opens_statement g x _ e b m k = absurd cc

  opens_external_at : (g : Context) (x : TokenOf t) (s : Sort) (b : Bool) → view g.types x.sort ≡ s → is_mark tokens.semicolon s ≡ b → b || begins_specifiers true g.inside s ≡ true → (m : Ask t) (k : grammar.Declares t → Plan (c_symbols t) m) → Opens (c90 t) m (get g grammar.external k) x
  opens_external_at g x s true e mark begins m k = opens_part g grammar.external x s _ e (if_true (is_mark tokens.semicolon s) _ _ mark) (open_take refl) m k
  opens_external_at g x s false e mark begins m k = opens_part g grammar.external x s _ e (if_false (is_mark tokens.semicolon s) _ _ mark) (opens_specifiers g true x s e begins _ _) m k

  -- ---- the other productions of expressions

  primary_good : (g : Context) (x : TokenOf t) (s : Sort) → Good (c90 t) (at g grammar.primary) x (plan g grammar.primary x s)
  primary_good g x (tokens.name n) = takes _ _ x (λ z h y. tt) (λ y. tt)
  primary_good g x tokens.constant = takes _ _ x (λ z h y. tt) (λ y. tt)
  primary_good g x tokens.text = takes _ _ x (λ z h y e. (h, tt)) (λ y o. ((λ p e. e), tt))
  primary_good g x (tokens.mark tokens.opening) = takes _ _ x (λ z h y o. (omega arith, λ w e. tt)) (λ y o. ((λ p e. e), λ w. tt))
  primary_good g x _ = λ e. absurd cc

  texts_good : (g : Context) (xs : List (TokenOf t)) (x : TokenOf t) (s : Sort) → Good (c90 t) (at g (grammar.texts xs)) x (plan g (grammar.texts xs) x s)
  texts_good g xs x tokens.text = takes _ _ x (λ z h y e. (h, tt)) (λ y o. ((λ p e. e), tt))
  texts_good g xs x _ = nothing _ x _ refl refl

  suffixes_good : (g : Context) (f : t.Expr) (x : TokenOf t) (s : Sort) → Good (c90 t) (at g (grammar.suffixes f)) x (plan g (grammar.suffixes f) x s)
  suffixes_good g f x (tokens.mark tokens.bracket) = takes _ _ x (λ z h y o. (omega arith, λ w e d. (h, tt))) (λ y o. ((λ p e. e), λ w d. ((λ p e. e), tt)))
  suffixes_good g f x (tokens.mark tokens.opening) = takes _ _ x (λ z h y o. ((refl, omega arith), λ w e d. (h, tt))) (λ y o. ((λ p e. e), λ w d. ((λ p e. e), tt)))
  suffixes_good g f x (tokens.mark tokens.member) = takes _ _ x (λ z h y w e d. (h, tt)) (λ y w d. ((λ p e. e), tt))
  suffixes_good g f x (tokens.mark tokens.step) = takes _ _ x (λ z h y d. (h, tt)) (λ y d. ((λ p e. e), tt))
  suffixes_good g f x _ = nothing _ x _ refl refl

  specifiers_good : (g : Context) (stores : Bool) (seen : Seen) (sp : Specified t) (x : TokenOf t) (s : Sort) (o : Option Seen) → Good (c90 t) (at g (grammar.specifiers stores seen sp)) x (grammar.specifiers_plan g stores seen sp x s o)
  specifiers_good g stores seen sp x s None = good_if _ x (is_typed seen) _ _
      (λ b. nothing _ x sp (if_true (is_typed seen) [] (grammar.int_word t ∷ []) b) (sym (if_true (is_typed seen) sp (grammar.with_int sp) b)))
      (λ b e. let some = if_false (is_typed seen) [] (grammar.int_word t ∷ []) b in cc)
  specifiers_good g stores seen sp x (tokens.mark tokens.struct) (Some new) = takes _ _ x (λ z h y r. (h.1, λ o. (h, tt))) (λ y r. ((λ p e. e), λ o. ((λ p e. e), tt)))
  specifiers_good g stores seen sp x (tokens.mark tokens.enum) (Some new) = takes _ _ x (λ z h y r. (h.1, λ o. (h, tt))) (λ y r. ((λ p e. e), λ o. ((λ p e. e), tt)))
  specifiers_good g stores seen sp x _ (Some new) = takes _ _ x (λ z h y o. (h, tt)) (λ y o. ((λ p e. e), tt))

  -- ---- the other items

  pub fresh_is : (g : Context) (P : Sort → Type 0) → P (tokens.name (above g.types)) → P (view g.types (tokens.name (above g.types)))
  fresh_is g P h = subst P (sym (fresh_view g.types)) h

  body_good : (g : Context) (n : Ask t) (x : TokenOf t) (k : List t.Declaration → TokenOf t → Plan (c_symbols t) n) → ((ds : List t.Declaration) (w : TokenOf t) (z : TokenOf t) → Follows (c90 t) (k ds w) z) → ((ds : List t.Declaration) (w : TokenOf t) → Even (c90 t) (k ds w))
      → Fine n x (next (λ y. get (grammar.in_structure g) grammar.member (λ d. get (grammar.in_structure g) (grammar.members (d ∷ [])) (λ ds. grammar.close_by (grammar.in_structure g) grammar.for_member tokens.unbrace (λ w. k ds w)))))
  body_good g n x k follows even = takes n _ x (λ z h y d. (tt, λ ds. (refl, λ w e. follows ds w z))) (λ y d. ((λ p e. absurd cc), λ ds. ((λ p e. absurd cc), λ w. even ds w)))

  list_good : (g : Context) (n : Ask t) (x : TokenOf t) (k : List t.Enumerator → TokenOf t → Plan (c_symbols t) n) → ((es : List t.Enumerator) (w : TokenOf t) (z : TokenOf t) → Follows (c90 t) (k es w) z) → ((es : List t.Enumerator) (w : TokenOf t) → Even (c90 t) (k es w))
      → Fine n x (next (λ y. get g grammar.enumerator (λ d. get g (grammar.enumerators (d ∷ [])) (λ es. grammar.expect g tokens.unbrace (λ w. k es w)))))
  list_good g n x k follows even = takes n _ x (λ z h y d. (omega arith, λ es. (omega arith, λ w e. follows es w z))) (λ y d. ((λ p e. absurd cc), λ es. ((λ p e. absurd cc), λ w. even es w)))

  struct_good : (g : Context) (y : TokenOf t) (x : TokenOf t) (s : Sort) → Good (c90 t) (at g (grammar.behind_struct y)) x (plan g (grammar.behind_struct y) x s)
  struct_good g y x (tokens.mark tokens.brace) = body_good g _ x _ (λ ds w z. tt) (λ ds w. tt)
  struct_good g y x (tokens.name n) = takes _ _ x (λ z h w r. (h, tt)) (λ w r. ((λ p e. e), tt))
  struct_good g y x (tokens.named_type n) = takes _ _ x (λ z h w r. (h, tt)) (λ w r. ((λ p e. e), tt))
  struct_good g y x _ = λ e. absurd cc

  enum_good : (g : Context) (y : TokenOf t) (x : TokenOf t) (s : Sort) → Good (c90 t) (at g (grammar.behind_enum y)) x (plan g (grammar.behind_enum y) x s)
  enum_good g y x (tokens.mark tokens.brace) = list_good g _ x _ (λ ds w z. tt) (λ ds w. tt)
  enum_good g y x (tokens.name n) = takes _ _ x (λ z h w r. (h, tt)) (λ w r. ((λ p e. e), tt))
  enum_good g y x (tokens.named_type n) = takes _ _ x (λ z h w r. (h, tt)) (λ w r. ((λ p e. e), tt))
  enum_good g y x _ = λ e. absurd cc

  enumerator_good : (g : Context) (x : TokenOf t) (s : Sort) → Good (c90 t) (at g grammar.enumerator) x (plan g grammar.enumerator x s)
  enumerator_good g x (tokens.name n) = takes _ _ x (λ z h w r. (h, tt)) (λ w r. ((λ p e. e), tt))
  enumerator_good g x _ = λ e. absurd cc

  qualifiers_good : (g : Context) (xs : List (TokenOf t)) (x : TokenOf t) (s : Sort) → Good (c90 t) (at g (grammar.qualifiers xs)) x (plan g (grammar.qualifiers xs) x s)
  qualifiers_good g xs x tokens.qualifier = takes _ _ x (λ z h w r. (h, tt)) (λ w r. ((λ p e. e), tt))
  qualifiers_good g xs x _ = nothing _ x _ refl refl

  -- `*`, before a declarator with a name and before others
  star_concrete : (g : Context) (n : Ask t) (x : TokenOf t) (k : List (TokenOf t) → Declared t → grammar.Answer n) → ((z : TokenOf t) → Stops n z → is_declaring (view g.types z.sort) ≡ false) → Fine n x (next (λ y. get g (grammar.qualifiers []) (λ qs. get g (grammar.declarator grammar.concrete) (λ d. done (k qs d)))))
  star_concrete g n x k ends = takes n _ x (λ z h y qs. (fresh_is g (λ v. grammar.is_qualifier v ≡ false) refl, λ d. (ends z h, tt))) (λ y qs. ((λ p e. e), λ d. ((λ p e. e), tt)))

  star_abstract : (g : Context) (n : Ask t) (x : TokenOf t) (k : List (TokenOf t) → Declared t → grammar.Answer n) → ((z : TokenOf t) → Stops n z → is_declaring (view g.types z.sort) ≡ false) → Fine n x (next (λ y. get g (grammar.qualifiers []) (λ qs. get g (grammar.declarator grammar.abstract) (λ d. done (k qs d)))))
  star_abstract g n x k ends = takes n _ x (λ z h y qs. (no_qualifier (view g.types z.sort) (ends z h), λ d. (ends z h, tt))) (λ y qs. ((λ p e. e), λ d. ((λ p e. e), tt)))

  star_either : (g : Context) (n : Ask t) (x : TokenOf t) (k : List (TokenOf t) → Declared t → grammar.Answer n) → ((z : TokenOf t) → Stops n z → is_declaring (view g.types z.sort) ≡ false) → Fine n x (next (λ y. get g (grammar.qualifiers []) (λ qs. get g (grammar.declarator grammar.either) (λ d. done (k qs d)))))
  star_either g n x k ends = takes n _ x (λ z h y qs. (no_qualifier (view g.types z.sort) (ends z h), λ d. (ends z h, tt))) (λ y qs. ((λ p e. e), λ d. ((λ p e. e), tt)))

  declarator_good : (g : Context) (f : Form) (x : TokenOf t) (s : Sort) → Good (c90 t) (at g (grammar.declarator f)) x (plan g (grammar.declarator f) x s)
  declarator_good g grammar.concrete x s = good_if _ x (is_mark tokens.star s) _ _
      (λ b. star_concrete g _ x _ (λ z h. h))
      (λ b. parts _ x _ (λ e. cc) (λ e. cc) (λ z h d. (no_head (view g.types z.sort) h, λ e. (h, tt))) (λ d. ((λ p e. e), λ r. ((λ p e. e), tt))))
  declarator_good g grammar.abstract x s = good_if _ x (is_mark tokens.star s) _ _
      (λ b. star_abstract g _ x _ (λ z h. h))
      (λ b. record { follows = λ z h d. (no_head (view g.types z.sort) h, λ e. (h, tt)); hollow = λ e. (refl, refl); exact = λ e. inl refl; even = λ d. ((λ p e. e), λ r. ((λ p e. e), tt)) })
  declarator_good g grammar.either x s = good_if _ x (is_mark tokens.star s) _ _
      (λ b. star_either g _ x _ (λ z h. h))
      (λ b. record { follows = λ z h d. (no_head (view g.types z.sort) h, λ e. (h, tt)); hollow = λ e. (refl, refl); exact = λ e. inl refl; even = λ d. ((λ p e. e), λ r. ((λ p e. e), tt)) })

  direct_good : (g : Context) (f : Form) (x : TokenOf t) (s : Sort) → Good (c90 t) (at g (grammar.direct f)) x (grammar.direct_plan g f x s)
  direct_good g grammar.concrete x (tokens.name n) = takes _ _ x (λ z h y. tt) (λ y. tt)
  direct_good g grammar.either x (tokens.name n) = takes _ _ x (λ z h y. tt) (λ y. tt)
  direct_good g grammar.concrete x (tokens.mark tokens.opening) = takes _ _ x (λ z h y d. (tt, tt)) (λ y d. ((λ p e. e), tt))
  direct_good g grammar.abstract x (tokens.mark tokens.opening) = takes _ _ x (λ z h y d. (tt, tt)) (λ y d. ((λ p e. e), tt))
  direct_good g grammar.either x (tokens.mark tokens.opening) = takes _ _ x (λ z h y d. (tt, tt)) (λ y d. ((λ p e. e), tt))
  direct_good g grammar.concrete x _ = λ e. absurd cc
  direct_good g grammar.abstract x _ = nothing _ x _ refl refl
  direct_good g grammar.either x _ = nothing _ x _ refl refl

  group_good : (g : Context) (f : Form) (x : TokenOf t) (s : Sort) → Good (c90 t) (at g (grammar.group f)) x (grammar.group_plan g f x s)
  group_good g grammar.concrete x (tokens.mark tokens.star) = star_concrete g _ x _ (λ z h. h)
  group_good g grammar.abstract x (tokens.mark tokens.star) = star_abstract g _ x _ (λ z h. h)
  group_good g grammar.either x (tokens.mark tokens.star) = star_either g _ x _ (λ z h. h)
  group_good g grammar.concrete x (tokens.mark tokens.opening) = takes _ _ x (λ z h y d. (tt, λ e. (h, tt))) (λ y d. ((λ p e. e), λ r. ((λ p e. e), tt)))
  group_good g grammar.abstract x (tokens.mark tokens.opening) = takes _ _ x (λ z h y d. (tt, λ e. (h, tt))) (λ y d. ((λ p e. e), λ r. ((λ p e. e), tt)))
  group_good g grammar.either x (tokens.mark tokens.opening) = takes _ _ x (λ z h y d. (tt, λ e. (h, tt))) (λ y d. ((λ p e. e), λ r. ((λ p e. e), tt)))
  group_good g grammar.concrete x (tokens.name n) = takes _ _ x (λ z h y e. (h, tt)) (λ y d. ((λ p e. e), tt))
  group_good g grammar.either x (tokens.name n) = takes _ _ x (λ z h y e. (h, tt)) (λ y d. ((λ p e. e), tt))
  group_good g grammar.abstract x (tokens.mark tokens.bracket) = takes _ _ x (λ z h y n. ((refl, omega arith), λ w e d. (h, tt))) (λ y n. ((λ p e. e), λ w d. ((λ p e. e), tt)))
  group_good g grammar.either x (tokens.mark tokens.bracket) = takes _ _ x (λ z h y n. ((refl, omega arith), λ w e d. (h, tt))) (λ y n. ((λ p e. e), λ w d. ((λ p e. e), tt)))
  group_good g grammar.concrete x _ = λ e. absurd cc
  group_good g grammar.abstract x _ = λ e. absurd cc
  group_good g grammar.either x _ = λ e. absurd cc

  behind_group_good : (g : Context) (f : Form) (y x : TokenOf t) (s : Sort) → Good (c90 t) (at g (grammar.behind_group f y)) x (plan g (grammar.behind_group f y) x s)
  behind_group_good g grammar.concrete y x s = parts _ x _ (λ e. cc) (λ e. cc) (λ z h d. (refl, λ w e. tt)) (λ d. ((λ p e. e), λ w. tt))
  behind_group_good g grammar.abstract y x s = good_if _ x (grammar.is_parameters s) _ _
      (λ b. parts _ x _ (λ e. cc) (λ e. cc) (λ z h ps. ((refl, omega arith, ((refl, refl), refl)), λ w e. tt)) (λ d. ((λ p e. e), λ w. tt)))
      (λ b. parts _ x _ (λ e. cc) (λ e. cc) (λ z h d. (refl, λ w e. tt)) (λ d. ((λ p e. e), λ w. tt)))
  behind_group_good g grammar.either y x s = good_if _ x (grammar.is_parameters s) _ _
      (λ b. parts _ x _ (λ e. cc) (λ e. cc) (λ z h ps. ((refl, omega arith, ((refl, refl), refl)), λ w e. tt)) (λ d. ((λ p e. e), λ w. tt)))
      (λ b. parts _ x _ (λ e. cc) (λ e. cc) (λ z h d. (refl, λ w e. tt)) (λ d. ((λ p e. e), λ w. tt)))

  declarator_suffixes_good : (g : Context) (d : Declared t) (x : TokenOf t) (s : Sort) → Good (c90 t) (at g (grammar.declarator_suffixes d)) x (plan g (grammar.declarator_suffixes d) x s)
  declarator_suffixes_good g d x (tokens.mark tokens.bracket) = takes _ _ x (λ z h y n. ((refl, omega arith), λ w e r. (h, tt))) (λ y n. ((λ p e. e), λ w r. ((λ p e. e), tt)))
  declarator_suffixes_good g d x (tokens.mark tokens.opening) = takes _ _ x (λ z h y n. ((refl, omega arith, ((refl, refl), refl)), λ w e r. (h, tt))) (λ y n. ((λ p e. e), λ w r. ((λ p e. e), tt)))
  declarator_suffixes_good g d x _ = nothing _ x _ refl refl

  statement_good : (g : Context) (x : TokenOf t) (s : Sort) → Good (c90 t) (at g grammar.statement) x (plan g grammar.statement x s)
  statement_good g x (tokens.name n) = takes _ _ x (λ z h y r. (h, tt)) (λ y r. ((λ p e. e), tt))
  statement_good g x (tokens.mark tokens.semicolon) = takes _ _ x (λ z h y. tt) (λ y. tt)
  statement_good g x (tokens.mark tokens.brace) = takes _ _ x (λ z h y ds. (refl, λ ss. ((refl, refl), λ w e. tt))) (λ y ds. ((λ p e. e), λ ss. ((λ p e. e), λ w. tt)))
  statement_good g x (tokens.mark tokens.case) = takes _ _ x (λ z h y o. (omega arith, λ w e b. (h, tt))) (λ y o. ((λ p e. e), λ w b. ((λ p e. e), tt)))
  statement_good g x (tokens.mark tokens.default) = takes _ _ x (λ z h y w e b. (h, tt)) (λ y w b. ((λ p e. e), tt))
  statement_good g x (tokens.mark tokens.if_word) = takes _ _ x (λ z h y w e o. (omega arith, λ v f a. (h, λ b. (h, tt)))) (λ y w o. ((λ p e. e), λ v a. ((λ p e. e), λ b. ((λ p e. e), tt))))
  statement_good g x (tokens.mark tokens.switch) = takes _ _ x (λ z h y w e o. (omega arith, λ v f a. (h, tt))) (λ y w o. ((λ p e. e), λ v a. ((λ p e. e), tt)))
  statement_good g x (tokens.mark tokens.while) = takes _ _ x (λ z h y w e o. (omega arith, λ v f a. (h, tt))) (λ y w o. ((λ p e. e), λ v a. ((λ p e. e), tt)))
  statement_good g x (tokens.mark tokens.do_word) = takes _ _ x (λ z h y a. (refl, λ w e v f o. (omega arith, λ u i r j. tt))) (λ y a. ((λ p e. e), λ w v o. ((λ p e. e), λ u r. tt)))
  statement_good g x (tokens.mark tokens.for) = takes _ _ x (λ z h y w e a. ((refl, omega arith), λ v f b. ((refl, omega arith), λ u i d. ((refl, omega arith), λ r j k. (h, tt))))) (λ y w a. ((λ p e. e), λ v b. ((λ p e. e), λ u d. ((λ p e. e), λ r k. ((λ p e. e), tt)))))
  statement_good g x (tokens.mark tokens.goto) = takes _ _ x (λ z h y w e v f. tt) (λ y w v. tt)
  statement_good g x (tokens.mark tokens.continue) = takes _ _ x (λ z h y w e. tt) (λ y w. tt)
  statement_good g x (tokens.mark tokens.break) = takes _ _ x (λ z h y w e. tt) (λ y w. tt)
  statement_good g x (tokens.mark tokens.return) = takes _ _ x (λ z h y a. ((refl, omega arith), λ w e. tt)) (λ y a. ((λ p e. e), λ w. tt))
  statement_good g x _ = parts _ x _ (λ e. cc) (λ e. cc) (λ z h o. (omega arith, λ w e. tt)) (λ o. ((λ p e. e), λ w. tt))

  -- each item's production at a token
  good : (g : Context) (i : Item t) (x : TokenOf t) (s : Sort) → view g.types x.sort ≡ s → Good (c90 t) (at g i) x (plan g i x s)
  good g (grammar.level k) x s v = level_good g k x s
  good g (grammar.after k l) x s v = good_if _ x (stands_behind k l.unary s) _ _ (λ b. operator_good g k l x s b) (λ b. nothing _ x l refl refl)
  good g (grammar.tail zero l) x s v = nothing _ x l refl refl
  good g (grammar.tail (suc k) l) x s v = record { follows = λ z h o. (omega arith, λ p. (h, tt)); hollow = λ e. (refl, refl); exact = λ e. inl refl; even = λ o. ((λ p e. e), λ p. ((λ q e. e), tt)) }
  good g (grammar.behind_open y) x s v = good_if _ x (is_specifier s) _ _
      (λ b. parts _ x _ (λ e. cc) (λ e. cc) (λ z h n. (((refl, refl), refl), λ w e o. (h, tt))) (λ n. ((λ p e. e), λ w o. ((λ p e. e), tt))))
      (λ b. parts _ x _ (λ e. cc) (λ e. cc) (λ z h o. (omega arith, λ w e f. (h, tt))) (λ o. ((λ p e. e), λ w f. ((λ p e. e), tt))))
  good g grammar.unary x s v = unary_good g x s
  good g grammar.primary x s v = primary_good g x s
  good g grammar.arguments x s v = good_if _ x (begins_expression s) _ _
      (λ b. opening _ x _ (λ e. cc) (opens_level g 12 x s v b _ _) (λ z h o. (omega (arith, h.1), λ es. (h.1, tt))) (λ o. ((λ p e. e), λ es. ((λ p e. e), tt))))
      (λ b. nothing _ x [] refl refl)
  good g (grammar.behind_sizeof y) x s v = good_if _ x (is_mark tokens.opening s) _ _
      (λ b. takes _ _ x (λ z h w e. (h, tt)) (λ w o. ((λ p e. e), tt)))
      (λ b. parts _ x _ (λ e. cc) (λ e. cc) (λ z h e. (h, tt)) (λ a. ((λ p e. e), tt)))
  good g (grammar.inside_sizeof y w) x s v = good_if _ x (is_specifier s) _ _
      (λ b. parts _ x _ (λ e. cc) (λ e. cc) (λ z h n. (((refl, refl), refl), λ u e. tt)) (λ n. ((λ p e. e), λ u. tt)))
      (λ b. parts _ x _ (λ e. cc) (λ e. cc) (λ z h o. (omega arith, λ u e f. (h, tt))) (λ o. ((λ p e. e), λ u f. ((λ p e. e), tt))))
  good g (grammar.texts xs) x s v = texts_good g xs x s
  good g (grammar.suffixes f) x s v = suffixes_good g f x s
  good g (grammar.more_arguments es) x s v = good_if _ x (is_mark tokens.comma s) _ _
      (λ b. takes _ _ x (λ z h y o. (omega arith, λ fs. (h, tt))) (λ y o. ((λ p e. e), λ fs. ((λ p e. e), tt))))
      (λ b. nothing _ x es refl refl)
  good g grammar.type_name x s v = parts _ x _ (λ e. cc) (λ e. cc) (λ z h sp. (h.0, λ d. (h.1, tt))) (λ sp. ((λ p e. e), λ d. ((λ p e. e), tt)))
  good g grammar.optional_specifiers x s v = good_if _ x (begins_specifiers true g.inside s) _ _
      (λ b. opening _ x _ (λ e. cc) (opens_specifiers g true x s v b _ _) (λ z h sp. (h, tt)) (λ sp. ((λ p e. e), tt)))
      (λ b. nothing _ x _ refl refl)
  good g (grammar.specifiers stores seen sp) x s v = specifiers_good g stores seen sp x s (add stores g.inside seen s)
  good g (grammar.behind_struct y) x s v = struct_good g y x s
  good g (grammar.struct_body y w) x s v = good_if _ x (is_mark tokens.brace s) _ _ (λ b. body_good g _ x _ (λ ds r z. tt) (λ ds r. tt)) (λ b. nothing _ x _ refl refl)
  good g grammar.member x s v = parts _ x _ (λ e. cc) (λ e. cc) (λ z h sp. (fresh_is g grammar.IsBehindSpecifiers (refl, refl), λ d. (refl, λ is. ((refl, refl), λ y e. tt)))) (λ sp. ((λ p e. e), λ d. ((λ p e. e), λ is. ((λ p e. e), λ y. tt))))
  good g (grammar.members ds) x s v = good_if _ x (begins_specifiers false g.inside s) _ _
      (λ b. opening _ x _ (λ e. cc) (opens_part g grammar.member x s _ v refl (opens_specifiers g false x s v b _ _) _ _) (λ z h d. (tt, λ es. (h, tt))) (λ d. ((λ p e. e), λ es. ((λ p e. e), tt))))
      (λ b. nothing _ x ds refl refl)
  good g (grammar.member_items is) x s v = good_if _ x (is_mark tokens.comma s) _ _
      (λ b. takes _ _ x (λ z h y d. (h.1, λ js. (h, tt))) (λ y d. ((λ p e. e), λ js. ((λ p e. e), tt))))
      (λ b. nothing _ x is refl refl)
  good g (grammar.behind_enum y) x s v = enum_good g y x s
  good g (grammar.enum_body y w) x s v = good_if _ x (is_mark tokens.brace s) _ _ (λ b. list_good g _ x _ (λ ds r z. tt) (λ ds r. tt)) (λ b. nothing _ x _ refl refl)
  good g grammar.enumerator x s v = enumerator_good g x s
  good g grammar.value_of x s v = good_if _ x (is_mark tokens.equal s) _ _ (λ b. takes _ _ x (λ z h y o. (omega arith, tt)) (λ y o. ((λ p e. e), tt))) (λ b. nothing _ x None refl refl)
  good g (grammar.enumerators es) x s v = good_if _ x (is_mark tokens.comma s) _ _
      (λ b. takes _ _ x (λ z h y e. (omega arith, λ fs. (h, tt))) (λ y e. ((λ p f. f), λ fs. ((λ p f. f), tt))))
      (λ b. nothing _ x es refl refl)
  good g (grammar.qualifiers xs) x s v = qualifiers_good g xs x s
  good g (grammar.declarator f) x s v = declarator_good g f x s
  good g (grammar.direct f) x s v = direct_good g f x s
  good g (grammar.group f) x s v = group_good g f x s
  good g (grammar.behind_group f y) x s v = behind_group_good g f y x s
  good g (grammar.declarator_suffixes d) x s v = declarator_suffixes_good g d x s
  good g grammar.array_length x s v = good_if _ x (begins_expression s) _ _
      (λ b. opening _ x _ (λ e. cc) (opens_level g 11 x s v b _ _) (λ z h o. (h.1, tt)) (λ o. ((λ p e. e), tt)))
      (λ b. nothing _ x None refl refl)
  good g grammar.parameters x s v = good_if _ x (begins_specifiers true g.inside s) _ _
      (λ b. opening _ x _ (λ e. cc) (opens_part g grammar.parameter x s _ v refl (opens_specifiers g true x s v b _ _) _ _) (λ z h d. (h.2, λ ps. ((h.1, h.2), tt))) (λ d. ((λ p e. e), λ ps. ((λ p e. e), tt))))
      (λ b. nothing _ x _ refl refl)
  good g grammar.parameter x s v = parts _ x _ (λ e. cc) (λ e. cc) (λ z h sp. (h.0, λ d. (h.1, tt))) (λ sp. ((λ p e. e), λ d. ((λ p e. e), tt)))
  good g (grammar.more_parameters ps) x s v = good_if _ x (is_mark tokens.comma s) _ _ (λ b. takes _ _ x (λ z h y r. (h, tt)) (λ y r. ((λ p e. e), tt))) (λ b. nothing _ x _ refl refl)
  good g (grammar.behind_comma c ps) x s v = good_if _ x (is_mark tokens.ellipsis s) _ _
      (λ b. takes _ _ x (λ z h y. tt) (λ y. tt))
      (λ b. parts _ x _ (λ e. cc) (λ e. cc) (λ z h d. (h.1, λ r. (h, tt))) (λ d. ((λ p e. e), λ r. ((λ p e. e), tt))))
  good g grammar.init x s v = good_if _ x (is_mark tokens.brace s) _ _
      (λ b. takes _ _ x (λ z h y i. (omega arith, λ r. ((refl, omega arith), λ w e. tt))) (λ y i. ((λ p e. e), λ r. ((λ p e. e), λ w. tt))))
      (λ b. parts _ x _ (λ e. cc) (λ e. cc) (λ z h o. (h, tt)) (λ o. ((λ p e. e), tt)))
  good g (grammar.inits is) x s v = good_if _ x (is_mark tokens.comma s) _ _ (λ b. takes _ _ x (λ z h y r. (h, tt)) (λ y r. ((λ p e. e), tt))) (λ b. nothing _ x _ refl refl)
  good g (grammar.behind_init_comma is) x s v = good_if _ x (is_mark tokens.brace s || begins_expression s) _ _
      (λ b. opening _ x _ (λ e. cc) (opens_init_at g x s (is_mark tokens.brace s) v refl b _ _) (λ z h i. (omega (arith, h.1), λ r. (h, tt))) (λ i. ((λ p e. e), λ r. ((λ p e. e), tt))))
      (λ b. nothing _ x _ refl refl)
  good g grammar.declaration x s v = parts _ x _ (λ e. cc) (λ e. cc) (λ z h sp. ((refl, refl), λ is. ((refl, (omega arith, refl)), λ y e. tt))) (λ sp. ((λ p e. e), λ is. ((λ p e. e), λ y. tt)))
  good g grammar.items x s v = good_if _ x (begins_items s) _ _
      (λ b. opening _ x _ (λ e. cc) (opens_items g x s v b _ _) (λ z h i. ((omega (arith, h.1.0), h.1.1), λ r. (h.1, tt))) (λ i. ((λ p e. e), λ r. ((λ p e. e), tt))))
      (λ b. nothing _ x _ refl refl)
  good g grammar.item x s v = parts _ x _ (λ e. cc) (λ e. cc) (λ z h d. (h.1, λ r. (h.0, tt))) (λ d. ((λ p e. e), λ r. ((λ p e. e), tt)))
  good g grammar.initial x s v = good_if _ x (is_mark tokens.equal s) _ _ (λ b. takes _ _ x (λ z h y i. (h, tt)) (λ y i. ((λ p e. e), tt))) (λ b. nothing _ x None refl refl)
  good g (grammar.declarations ds) x s v = good_if _ x (begins_specifiers true g.inside s) _ _
      (λ b. opening _ x _ (λ e. cc) (opens_part g grammar.declaration x s _ v refl (opens_specifiers g true x s v b _ _) _ _) (λ z h d. (tt, λ es. (h, tt))) (λ d. ((λ p e. e), λ es. ((λ p e. e), tt))))
      (λ b. nothing _ x ds refl refl)
  good g (grammar.more_items is) x s v = good_if _ x (is_mark tokens.comma s) _ _
      (λ b. takes _ _ x (λ z h y i. ((omega (arith, h.0), h.1), λ js. (h, tt))) (λ y i. ((λ p e. e), λ js. ((λ p e. e), tt))))
      (λ b. nothing _ x is refl refl)
  good g grammar.statement x s v = statement_good g x s
  good g grammar.else_part x s v = good_if _ x (is_mark tokens.else_word s) _ _ (λ b. takes _ _ x (λ z h y a. (h, tt)) (λ y a. ((λ p e. e), tt))) (λ b. nothing _ x None refl refl)
  good g grammar.optional_expression x s v = good_if _ x (begins_expression s) _ _
      (λ b. opening _ x _ (λ e. cc) (opens_level g 13 x s v b _ _) (λ z h o. (h.1, tt)) (λ o. ((λ p e. e), tt)))
      (λ b. nothing _ x None refl refl)
  good g (grammar.behind_name y) x s v = good_if _ x (is_mark tokens.colon s) _ _
      (λ b. takes _ _ x (λ z h w a. (h, tt)) (λ w a. ((λ p e. e), tt)))
      (λ b. parts _ x _ (λ e. cc) (λ e. cc) (λ z h e. (omega arith, λ o. (omega arith, λ w f. tt))) (λ e. ((λ p f. f), λ o. ((λ p f. f), λ w. tt))))
  good g (grammar.statements ss) x s v = good_if _ x (begins_expression s || begins_other s) _ _
      (λ b. opening _ x _ (λ e. cc) (opens_statement g x s v b _ _) (λ z h a. (h.1, λ bs. (h, tt))) (λ a. ((λ p e. e), λ bs. ((λ p e. e), tt))))
      (λ b. nothing _ x ss refl refl)
  good g grammar.external x s v = good_if _ x (is_mark tokens.semicolon s) _ _
      (λ b. takes _ _ x (λ z h y. tt) (λ y. tt))
      (λ b. parts _ x _ (λ e. cc) (λ e. cc) (λ z h sp. ((refl, refl), λ r. (tt, tt))) (λ sp. ((λ p e. e), λ r. ((λ p e. e), tt))))
  good g (grammar.external_items sp) x s v = good_if _ x (is_mark tokens.semicolon s) _ _
      (λ b. takes _ _ x (λ z h y. tt) (λ y. tt))
      (λ b. parts _ x _ (λ e. cc) (λ e. cc) (λ z h d. (refl, λ r. (tt, tt))) (λ d. ((λ p e. e), λ r. ((λ p e. e), tt))))
  good g (grammar.behind_declarator sp d) x s v = good_if _ x (is_mark tokens.brace s && not (grammar.is_variadic d.shape)) _ _
      (λ b. takes _ _ x (λ z h y ds. (refl, λ ss. ((refl, refl), λ w e. tt))) (λ y ds. ((λ p e. e), λ ss. ((λ p e. e), λ w. tt))))
      (λ b. parts _ x _ (λ e. cc) (λ e. cc) (λ z h r. (omega arith, λ is. ((omega arith, refl), λ w e. tt))) (λ r. ((λ p e. e), λ is. ((λ p e. e), λ w. tt))))

  pub productions : (n : Ask t) (x : TokenOf t) → Good (c90 t) n x (grammar.predict n x)
  productions (at g i) x = good g i x (view g.types x.sort) refl
  productions (unit types) x = good_if _ x (is_mark tokens.semicolon (view types x.sort) || begins_specifiers true false (view types x.sort)) _ _
      (λ b. opening _ x _ (λ e. cc) (opens_external_at (grammar.outside types) x (view types x.sort) (is_mark tokens.semicolon (view types x.sort)) refl refl b _ _) (λ z h r. (tt, λ es. (h, tt))) (λ r. ((λ p e. e), λ es. ((λ p e. e), tt))))
      (λ b. nothing _ x [] refl refl)
  productions whole x = parts _ x _ (λ e. cc) (λ e. cc) (λ z h es. (refl, λ w e. tt)) (λ es. ((λ p e. e), λ w. tt))
