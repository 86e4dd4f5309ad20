-- Each production of C90's table keeps what stands before its tokens, and whether they are in a function.
use Rattle.std.proofs.Common.{◌≡◌, ◌⊎◌, inl, inr, ℕ, zero, suc, Bool, true, false, List, [], ◌∷◌, ◌++◌, Some, None, refl, sym, ap, ◌∙◌, subst}
use Rattle.std.specs.Prelude.{Option, ⊤, if◌then◌else◌, ◌||◌, ◌&&◌, ◌==◌, not}
use Rattle.std.specs.List.{list_any}
use Rattle.sp_parse_grammar.specs.CTokens as tokens
use Rattle.sp_parse_grammar.specs.CTokens.{Sort, Mark, Seen, is_mark, is_name, view as viewed, add, nothing_seen, is_typed, is_specifier}
use Rattle.sp_parse_grammar.specs.CTable as grammar
use Rattle.sp_parse_grammar.specs.CTable.{Context, AlsoAllowed, Form, Operand, Specified, ItemAnswer, Ask, Answer, at, unit, whole, c_symbols, accepts, plan, in_function, in_structure, begins_expression, begins_items, begins_specifiers, begins_other, stands_behind}
use Rattle.sp_parse_grammar.specs.Table.{Plan, done, take, call}
use Rattle.sp_parse_tokens.specs.Sorts.{Terminal}
use Rattle.sp_parse_tokens.specs.SyntaxTrees.{syntax_trees, c_table}
use Rattle.sp_parse_tokens.specs.Depths.{Part}
use Rattle.sp_parse_tokens.specs.Faults.{is_empty}
use Rattle.sp_parse_fault_laws.proofs.TypeBehind.{is_for_type, closed_no_type, parameters_no_type}
use Rattle.sp_parse_fault_laws.proofs.TypeNotes.{missing, first, comma, item_no_type}
use Rattle.sp_parse_fault_laws.proofs.Walks.{opens_list, next_named, calm, StartItem, Start, Free, free_start, Fact, After, PlainAsk, inside_of, Under, Good, GoodAt}

-- ---- parts that begin wherever they stand

record Kept {m : Ask syntax_trees} (p : Plan (c_symbols syntax_trees) m) : Type 0 where
  all : (l : Bool) (xs : List Terminal) → Good p l xs

abbrev KeptAt : {m : Ask syntax_trees} → Option (Plan (c_symbols syntax_trees) m) → Type 0
KeptAt None = ⊤
KeptAt (Some q) = Kept q

-- a context that is in a function where the ask is
abbrev Same : Ask syntax_trees → Context → Type 0
Same m g = PlainAsk m → g.inside ≡ inside_of m

ends : {m : Ask syntax_trees} {o : Answer m} → ((r : Bool) → After m o r) → Kept {m = m} (done o)
ends h = record { all = λ l xs. h l }

marked : {m : Ask syntax_trees} {g : Context} {p : AlsoAllowed} {t : Mark} {k : Terminal → Plan (c_symbols syntax_trees) m} → Same m g → is_for_type p ≡ false → ((y : Terminal) → Kept (k y)) → Kept (take (grammar.only g p t) k)
marked {p = p} t e more = record { all = λ l xs. (t, calm p l e, λ y ys s a. (more y).all (opens_list y.sort) ys) }

plainly : {m : Ask syntax_trees} {g : Context} {t : Mark} {k : Terminal → Plan (c_symbols syntax_trees) m} → Same m g → ((y : Terminal) → Kept (k y)) → Kept (take (grammar.only g grammar.plainly t) k)
plainly t more = record { all = λ l xs. (t, tt, λ y ys s a. (more y).all (opens_list y.sort) ys) }

ordinary : {m : Ask syntax_trees} {g : Context} {k : Terminal → Plan (c_symbols syntax_trees) m} → Same m g → ((y : Terminal) → Kept (k y)) → Kept (take (grammar.ordinary g) k)
ordinary t more = record { all = λ l xs. (t, tt, λ y ys s a. (more y).all (opens_list y.sort) ys) }

token : {m : Ask syntax_trees} {k : Terminal → Plan (c_symbols syntax_trees) m} → ((y : Terminal) → Kept (k y)) → Kept (take grammar.any k)
token more = record { all = λ l xs. (tt, tt, λ y ys s a. (more y).all (opens_list y.sort) ys) }

part : {m : Ask syntax_trees} {g : Context} {i : Part} {k : ItemAnswer i → Plan (c_symbols syntax_trees) m} → Under m (at g i) → Free i → ((a : ItemAnswer i) → Fact i a → Kept (k a)) → Kept (call (at g i) k)
part {g = g} {i = i} t h more = record { all = λ l xs. (t, free_start g i l xs h, λ a r ys e. (more a e.0).all r ys) }

pick : {m : Ask syntax_trees} (c : Bool) (p q : Option (Plan (c_symbols syntax_trees) m)) → KeptAt p → KeptAt q → KeptAt (if c then p else q)
pick true p q first second = first
pick false p q first second = second

kept : {m : Ask syntax_trees} (l : Bool) (xs : List Terminal) (o : Option (Plan (c_symbols syntax_trees) m)) → KeptAt o → GoodAt l xs o
kept l xs None h = tt
kept l xs (Some q) h = h.all l xs

operator_starts : (g : Context) → (k : ℕ) (l : Operand syntax_trees) → (y : Terminal) (s : Sort) → Kept (grammar.operator_plan g k l y s)
operator_starts g k l y (tokens.mark tokens.question) = token (λ u. part (λ h. (refl, tt)) tt (λ a e. plainly (λ h. refl) (λ z. part (λ h. (refl, tt)) tt (λ o e. ends (λ r. (tt, tt))))))
operator_starts g k l y (tokens.mark tokens.comma) = token (λ u. part (λ h. (refl, tt)) tt (λ r e. part (λ h. (refl, tt)) tt (λ o e. ends (λ r. (tt, tt)))))
operator_starts g k l y (tokens.mark tokens.equal) = token (λ u. part (λ h. (refl, tt)) tt (λ r e. ends (λ r. (tt, tt))))
operator_starts g k l y tokens.assigning = token (λ u. part (λ h. (refl, tt)) tt (λ r e. ends (λ r. (tt, tt))))
operator_starts g k l y _ = token (λ u. part (λ h. (refl, tt)) tt (λ r e. part (λ h. (refl, tt)) tt (λ o e. ends (λ r. (tt, tt)))))

unary_starts : (g : Context) → (y : Terminal) (s : Sort) → KeptAt (plan g grammar.unary y s)
unary_starts g y (tokens.mark tokens.step) = token (λ u. part (λ h. (refl, tt)) tt (λ e k. ends (λ r. (tt, tt))))
unary_starts g y (tokens.mark tokens.star) = token (λ u. part (λ h. (refl, tt)) tt (λ e k. ends (λ r. (tt, tt))))
unary_starts g y (tokens.mark tokens.ampersand) = token (λ u. part (λ h. (refl, tt)) tt (λ e k. ends (λ r. (tt, tt))))
unary_starts g y (tokens.mark tokens.additive) = token (λ u. part (λ h. (refl, tt)) tt (λ e k. ends (λ r. (tt, tt))))
unary_starts g y (tokens.mark tokens.tilde) = token (λ u. part (λ h. (refl, tt)) tt (λ e k. ends (λ r. (tt, tt))))
unary_starts g y (tokens.mark tokens.sizeof) = token (λ u. part (λ h. (refl, tt)) tt (λ e k. ends (λ r. (tt, tt))))
unary_starts g y _ = part (λ h. (refl, tt)) tt (λ e k. part (λ h. (refl, tt)) tt (λ f k. ends (λ r. (tt, tt))))

primary_starts : (g : Context) → (y : Terminal) (s : Sort) → KeptAt (plan g grammar.primary y s)
primary_starts g y (tokens.name n) = token (λ u. ends (λ r. (tt, tt)))
primary_starts g y tokens.constant = token (λ u. ends (λ r. (tt, tt)))
primary_starts g y tokens.text = token (λ u. part (λ h. (refl, tt)) tt (λ xs k. ends (λ r. (tt, tt))))
primary_starts g y (tokens.mark tokens.opening) = token (λ u. part (λ h. (refl, tt)) tt (λ o e. plainly (λ h. refl) (λ z. ends (λ r. (tt, tt)))))
primary_starts g y _ = tt

texts_start : (g : Context) → (xs : List Terminal) (y : Terminal) (s : Sort) → KeptAt (plan g (grammar.texts xs) y s)
texts_start g xs y tokens.text = token (λ u. part (λ h. (refl, tt)) tt (λ ys k. ends (λ r. (tt, tt))))
texts_start g xs y _ = ends (λ r. (tt, tt))

suffixes_start : (g : Context) → (f : syntax_trees.Expr) (y : Terminal) (s : Sort) → KeptAt (plan g (grammar.suffixes f) y s)
suffixes_start g f y (tokens.mark tokens.bracket) = token (λ u. part (λ h. (refl, tt)) tt (λ o e. plainly (λ h. refl) (λ z. part (λ h. (refl, tt)) tt (λ r k. ends (λ r. (tt, tt))))))
suffixes_start g f y (tokens.mark tokens.opening) = token (λ u. part (λ h. (refl, tt)) tt (λ es e. marked (λ h. refl) (first es) (λ z. part (λ h. (refl, tt)) tt (λ r k. ends (λ r. (tt, tt))))))
suffixes_start g f y (tokens.mark tokens.member) = token (λ u. ordinary (λ h. refl) (λ z. part (λ h. (refl, tt)) tt (λ r k. ends (λ r. (tt, tt)))))
suffixes_start g f y (tokens.mark tokens.step) = token (λ u. part (λ h. (refl, tt)) tt (λ r k. ends (λ r. (tt, tt))))
suffixes_start g f y _ = ends (λ r. (tt, tt))

enum_starts : (g : Context) → (v y : Terminal) (s : Sort) → KeptAt (plan g (grammar.behind_enum v) y s)
enum_starts g v y (tokens.mark tokens.brace) = token (λ u. part (λ h. (refl, tt)) tt (λ d e. part (λ h. (refl, tt)) tt (λ ds e. plainly (λ h. refl) (λ w. ends (λ r. (tt, tt))))))
enum_starts g v y (tokens.name n) = token (λ u. part (λ h. (refl, tt)) tt (λ r e. ends (λ r. (tt, tt))))
enum_starts g v y (tokens.named_type n) = token (λ u. part (λ h. (refl, tt)) tt (λ r e. ends (λ r. (tt, tt))))
enum_starts g v y _ = tt

enumerator_starts : (g : Context) → (y : Terminal) (s : Sort) → KeptAt (plan g grammar.enumerator y s)
enumerator_starts g y (tokens.name n) = token (λ u. part (λ h. (refl, tt)) tt (λ v e. ends (λ r. (tt, tt))))
enumerator_starts g y _ = tt

qualifiers_start : (g : Context) → (xs : List Terminal) (y : Terminal) (s : Sort) → KeptAt (plan g (grammar.qualifiers xs) y s)
qualifiers_start g xs y tokens.qualifier = token (λ u. part (λ h. (refl, tt)) tt (λ ys k. ends (λ r. (tt, tt))))
qualifiers_start g xs y _ = ends (λ r. (tt, tt))

statement_starts : (g : Context) → (y : Terminal) (s : Sort) → KeptAt (plan g grammar.statement y s)
statement_starts g y (tokens.name n) = token (λ u. part (λ h. (refl, tt)) tt (λ r e. ends (λ r. (tt, tt))))
statement_starts g y (tokens.mark tokens.semicolon) = token (λ u. ends (λ r. (tt, tt)))
statement_starts g y (tokens.mark tokens.brace) = token (λ u. part (λ h. (refl, tt)) tt (λ ds e. part (λ h. (refl, tt)) tt (λ ss e. marked (λ h. refl) refl (λ z. ends (λ r. (tt, tt))))))
statement_starts g y (tokens.mark tokens.case) = token (λ u. part (λ h. (refl, tt)) tt (λ o e. plainly (λ h. refl) (λ z. part (λ h. (refl, tt)) tt (λ r e. ends (λ r. (tt, tt))))))
statement_starts g y (tokens.mark tokens.default) = token (λ u. plainly (λ h. refl) (λ z. part (λ h. (refl, tt)) tt (λ r e. ends (λ r. (tt, tt)))))
statement_starts g y (tokens.mark tokens.if_word) = token (λ u. plainly (λ h. refl) (λ z. part (λ h. (refl, tt)) tt (λ o e. plainly (λ h. refl) (λ w. part (λ h. (refl, tt)) tt (λ a e. part (λ h. (refl, tt)) tt (λ r e. ends (λ r. (tt, tt))))))))
statement_starts g y (tokens.mark tokens.switch) = token (λ u. plainly (λ h. refl) (λ z. part (λ h. (refl, tt)) tt (λ o e. plainly (λ h. refl) (λ w. part (λ h. (refl, tt)) tt (λ r e. ends (λ r. (tt, tt)))))))
statement_starts g y (tokens.mark tokens.while) = token (λ u. plainly (λ h. refl) (λ z. part (λ h. (refl, tt)) tt (λ o e. plainly (λ h. refl) (λ w. part (λ h. (refl, tt)) tt (λ r e. ends (λ r. (tt, tt)))))))
statement_starts g y (tokens.mark tokens.do_word) = token (λ u. part (λ h. (refl, tt)) tt (λ a e. plainly (λ h. refl) (λ z. plainly (λ h. refl) (λ w. part (λ h. (refl, tt)) tt (λ o e. plainly (λ h. refl) (λ v. plainly (λ h. refl) (λ i. ends (λ r. (tt, tt)))))))))
statement_starts g y (tokens.mark tokens.for) = token (λ u. plainly (λ h. refl) (λ z. part (λ h. (refl, tt)) tt (λ a e. marked (λ h. refl) (missing a) (λ w. part (λ h. (refl, tt)) tt (λ c e. marked (λ h. refl) (missing c) (λ v. part (λ h. (refl, tt)) tt (λ d e. marked (λ h. refl) (missing d) (λ i. part (λ h. (refl, tt)) tt (λ r e. ends (λ r. (tt, tt)))))))))))
statement_starts g y (tokens.mark tokens.goto) = token (λ u. ordinary (λ h. refl) (λ n. plainly (λ h. refl) (λ z. ends (λ r. (tt, tt)))))
statement_starts g y (tokens.mark tokens.continue) = token (λ u. plainly (λ h. refl) (λ z. ends (λ r. (tt, tt))))
statement_starts g y (tokens.mark tokens.break) = token (λ u. plainly (λ h. refl) (λ z. ends (λ r. (tt, tt))))
statement_starts g y (tokens.mark tokens.return) = token (λ u. part (λ h. (refl, tt)) tt (λ a e. marked (λ h. refl) (missing a) (λ z. ends (λ r. (tt, tt)))))
statement_starts g y _ = part (λ h. (refl, tt)) tt (λ o e. plainly (λ h. refl) (λ z. ends (λ r. (tt, tt))))

-- ---- the token before

list_sort : (types : List ℕ) (s v : Sort) → viewed types s ≡ v → opens_list s ≡ opens_list v
list_sort types (tokens.name n) v e = by_type (list_any (λ t. t == n) types) e
  where
    by_type : (b : Bool) → (if b then tokens.named_type n else tokens.name n) ≡ v → false ≡ opens_list v
    by_type true f = ap opens_list f
    by_type false f = ap opens_list f
list_sort types s v e = ap opens_list e

behind_token : (types : List ℕ) (x y : Terminal) (rest ys : List Terminal) (s : Sort) (b : Bool) → viewed types x.sort ≡ s → x ∷ rest ≡ y ∷ ys → opens_list s ≡ b → opens_list y.sort ≡ b
behind_token types x y rest ys s b is_s spelt e = let is_y : x ≡ y = cc in subst (λ v. opens_list v.sort ≡ b) is_y (list_sort types x.sort s is_s ∙ e)

begun_no_name : (stores inside : Bool) (s : Sort) → begins_specifiers stores inside s ≡ true → is_name s ≡ false
begun_no_name stores inside (tokens.name n) e = absurd cc
begun_no_name stores inside _ e = refl

external_no_name : (s : Sort) → is_mark tokens.semicolon s || begins_specifiers true false s ≡ true → is_name s ≡ false
external_no_name (tokens.name n) e = absurd cc
external_no_name _ e = refl

specifier_no_name : (s : Sort) → is_specifier s ≡ true → is_name s ≡ false
specifier_no_name (tokens.name n) e = absurd cc
specifier_no_name _ e = refl

semicolon_ends : (s : Sort) → is_mark tokens.semicolon s ≡ true → opens_list s ≡ false
semicolon_ends (tokens.mark tokens.opening) e = absurd cc
semicolon_ends (tokens.mark tokens.comma) e = absurd cc
semicolon_ends _ e = refl

unbrace_ends : (s : Sort) → is_mark tokens.unbrace s ≡ true → opens_list s ≡ false
unbrace_ends (tokens.mark tokens.opening) e = absurd cc
unbrace_ends (tokens.mark tokens.comma) e = absurd cc
unbrace_ends _ e = refl

brace_opens : (s : Sort) → is_mark tokens.brace s ≡ true → opens_list s ≡ false
brace_opens (tokens.mark tokens.opening) e = absurd cc
brace_opens (tokens.mark tokens.comma) e = absurd cc
brace_opens _ e = refl

comma_lists : (s : Sort) → is_mark tokens.comma s ≡ true → opens_list s ≡ true
comma_lists (tokens.mark tokens.comma) e = refl
comma_lists (tokens.mark tokens.opening) e = refl
comma_lists _ e = absurd cc

added_no_list : (stores inside : Bool) (seen new : Seen) (s : Sort) → add stores inside seen s ≡ Some new → opens_list s ≡ false
added_no_list stores inside seen new (tokens.mark tokens.opening) e = absurd cc
added_no_list stores inside seen new (tokens.mark tokens.comma) e = absurd cc
added_no_list stores inside seen new _ e = refl

some_word : {A : Type 0} (xs : List A) (w : A) → is_empty (xs ++ w ∷ []) ≡ false
some_word [] w = refl
some_word (x ∷ xs) w = refl

no_first : (stores b : Bool) → b ≡ false → stores && b ≡ false
no_first true b e = e
no_first false b e = refl

pick_by : {m : Ask syntax_trees} (l : Bool) (xs : List Terminal) (c : Bool) (p q : Option (Plan (c_symbols syntax_trees) m)) → (c ≡ true → GoodAt l xs p) → (c ≡ false → GoodAt l xs q) → GoodAt l xs (if c then p else q)
pick_by l xs true p q first second = first refl
pick_by l xs false p q first second = second refl

-- ---- specifiers

specifiers_good : (g : Context) (stores : Bool) (seen : Seen) (sp : Specified syntax_trees) (l : Bool) (x : Terminal) (rest : List Terminal) (s : Sort) (o : Option Seen) → viewed g.types x.sort ≡ s → add stores g.inside seen s ≡ o → GoodAt l (x ∷ rest) (grammar.specifiers_plan g stores seen sp x s o)
specifiers_good g stores seen sp l x rest s None is_s e = kept l (x ∷ rest) (if is_typed seen then Some (done sp) else None) (pick (is_typed seen) _ _ (ends (λ r. (tt, tt))) tt)
specifiers_good g stores seen sp l x rest (tokens.mark tokens.struct) (Some new) is_s e = (tt, tt, λ y ys t a. ((λ h. (refl, tt)), tt, λ r q zs f. ((λ h. (refl, tt)), inl refl, λ o v us h. (tt, tt))))
specifiers_good g stores seen sp l x rest (tokens.mark tokens.enum) (Some new) is_s e = (tt, tt, λ y ys t a. ((λ h. (refl, tt)), tt, λ r q zs f. ((λ h. (refl, tt)), inl refl, λ o v us h. (tt, tt))))
specifiers_good g stores seen sp l x rest s (Some new) is_s e = (tt, tt, λ y ys t a. ((λ h. (refl, tt)), inr (inr (no_first stores _ (some_word sp.all _) ∙ sym (behind_token g.types x y rest ys s false is_s t (added_no_list stores g.inside seen new s e)))), λ o v us h. (tt, tt)))

-- ---- structures

-- behind the brace of a structure
body_good : (m : Ask syntax_trees) (g : Context) (l : Bool) (xs : List Terminal) (k : List syntax_trees.Declaration → Answer m) → Under m (at (in_structure g) grammar.member) → l ≡ false → ((ds : List syntax_trees.Declaration) (r : Bool) → After m (k ds) r)
    → Good {m = m} (call (at (in_structure g) grammar.member) (λ d. call (at (in_structure g) (grammar.members (d ∷ []))) (λ ds. take (grammar.only (in_structure g) grammar.for_member tokens.unbrace) (λ w. done (k ds))))) l xs
body_good m g l xs k under h more = (under, h, λ d r ys e. ((λ p. ((under p).0, tt)), e.1, λ ds q zs f. ((λ p. (under p).0), f.1, λ w us t a. more ds (opens_list w.sort))))

struct_good : (g : Context) (v x : Terminal) (l : Bool) (rest : List Terminal) (s : Sort) → viewed g.types x.sort ≡ s → GoodAt l (x ∷ rest) (plan g (grammar.behind_struct v) x s)
struct_good g v x l rest (tokens.mark tokens.brace) is_s = (tt, tt, λ y ys t a. body_good (at g (grammar.behind_struct v)) g (opens_list y.sort) ys (λ ds. syntax_trees.structure v None (Some ds)) (λ h. (refl, tt)) (behind_token g.types x y rest ys (tokens.mark tokens.brace) false is_s t refl) (λ ds r. (tt, tt)))
struct_good g v x l rest (tokens.name n) is_s = (tt, tt, λ y ys t a. ((λ h. (refl, tt)), tt, λ r q zs f. (tt, tt)))
struct_good g v x l rest (tokens.named_type n) is_s = (tt, tt, λ y ys t a. ((λ h. (refl, tt)), tt, λ r q zs f. (tt, tt)))
struct_good g v x l rest _ is_s = tt

-- ---- declarators

direct_good : (g : Context) (f : Form) (x : Terminal) (l : Bool) (rest : List Terminal) (s : Sort) → viewed g.types x.sort ≡ s → GoodAt l (x ∷ rest) (grammar.direct_plan g f x s)
direct_good g grammar.concrete x l rest (tokens.name n) is_s = (tt, tt, λ y ys t a. (refl, tt))
direct_good g grammar.either x l rest (tokens.name n) is_s = (tt, tt, λ y ys t a. (refl, tt))
direct_good g grammar.concrete x l rest (tokens.mark tokens.opening) is_s = (tt, tt, λ y ys t a. ((λ h. (refl, tt)), behind_token g.types x y rest ys (tokens.mark tokens.opening) true is_s t refl, λ d r zs e. (e.0, tt)))
direct_good g grammar.abstract x l rest (tokens.mark tokens.opening) is_s = (tt, tt, λ y ys t a. ((λ h. (refl, tt)), behind_token g.types x y rest ys (tokens.mark tokens.opening) true is_s t refl, λ d r zs e. (e.0, tt)))
direct_good g grammar.either x l rest (tokens.mark tokens.opening) is_s = (tt, tt, λ y ys t a. ((λ h. (refl, tt)), behind_token g.types x y rest ys (tokens.mark tokens.opening) true is_s t refl, λ d r zs e. (e.0, tt)))
direct_good g grammar.concrete x l rest _ is_s = tt
direct_good g grammar.abstract x l rest _ is_s = (refl, tt)
direct_good g grammar.either x l rest _ is_s = (refl, tt)

group_good : (g : Context) (f : Form) (x : Terminal) (l : Bool) (rest : List Terminal) (s : Sort) → viewed g.types x.sort ≡ s → GoodAt l (x ∷ rest) (grammar.group_plan g f x s)
group_good g f x l rest (tokens.mark tokens.star) is_s = (tt, tt, λ y ys t a. ((λ h. (refl, tt)), tt, λ qs r zs e. ((λ h. (refl, tt)), tt, λ d q us v. (v.0, tt))))
group_good g f x l rest (tokens.mark tokens.opening) is_s = (tt, tt, λ y ys t a. ((λ h. (refl, tt)), behind_token g.types x y rest ys (tokens.mark tokens.opening) true is_s t refl, λ d r zs e. ((λ h. (refl, tt)), tt, λ o q us v. (v.0 e.0, tt))))
group_good g grammar.concrete x l rest (tokens.name n) is_s = (tt, tt, λ y ys t a. ((λ h. (refl, tt)), tt, λ o r zs e. (e.0 refl, tt)))
group_good g grammar.either x l rest (tokens.name n) is_s = (tt, tt, λ y ys t a. ((λ h. (refl, tt)), tt, λ o r zs e. (e.0 refl, tt)))
group_good g grammar.abstract x l rest (tokens.mark tokens.bracket) is_s = (tt, tt, λ y ys t a. ((λ h. (refl, tt)), tt, λ n r zs e. ((λ h. refl), calm (grammar.if_missing n) r (missing n), λ z us v b. ((λ h. (refl, tt)), tt, λ o q ws c. (c.0 refl, tt)))))
group_good g grammar.either x l rest (tokens.mark tokens.bracket) is_s = (tt, tt, λ y ys t a. ((λ h. (refl, tt)), tt, λ n r zs e. ((λ h. refl), calm (grammar.if_missing n) r (missing n), λ z us v b. ((λ h. (refl, tt)), tt, λ o q ws c. (c.0 refl, tt)))))
group_good g f x l rest _ is_s = tt

declarator_suffixes_good : (g : Context) (d : grammar.Declared syntax_trees) (x : Terminal) (l : Bool) (rest : List Terminal) (s : Sort) → viewed g.types x.sort ≡ s → GoodAt l (x ∷ rest) (plan g (grammar.declarator_suffixes d) x s)
declarator_suffixes_good g d x l rest (tokens.mark tokens.bracket) is_s = (tt, tt, λ y ys t a. ((λ h. (refl, tt)), tt, λ n r zs e. ((λ h. refl), calm (grammar.if_missing n) r (missing n), λ z us v b. ((λ h. (refl, tt)), tt, λ o q ws c. ((λ h. c.0 (closed_no_type d.behind)), tt)))))
declarator_suffixes_good g d x l rest (tokens.mark tokens.opening) is_s = (tt, tt, λ y ys t a. ((λ h. (refl, tt)), behind_token g.types x y rest ys (tokens.mark tokens.opening) true is_s t refl, λ ps r zs e. ((λ h. refl), e.1, λ z us v b. ((λ h. (refl, tt)), tt, λ o q ws c. ((λ h. c.0 (parameters_no_type d.behind ps.dots)), tt)))))
declarator_suffixes_good g d x l rest _ is_s = ((λ h. h), tt)

-- ---- all parts

item_good : (g : Context) (i : Part) (l : Bool) (x : Terminal) (rest : List Terminal) (s : Sort) → viewed g.types x.sort ≡ s → StartItem g i l (x ∷ rest) → GoodAt l (x ∷ rest) (plan g i x s)
item_good g (grammar.level zero) l x rest s is_s h = kept l (x ∷ rest) (plan g (grammar.level zero) x s) (pick (is_mark tokens.opening s) _ _ (token (λ u. part (λ h. (refl, tt)) tt (λ o e. ends (λ r. (tt, tt))))) (part (λ h. (refl, tt)) tt (λ e k. ends (λ r. (tt, tt)))))
item_good g (grammar.level (suc k)) l x rest s is_s h = kept l (x ∷ rest) (plan g (grammar.level (suc k)) x s) (part (λ h. (refl, tt)) tt (λ l e. part (λ h. (refl, tt)) tt (λ o e. ends (λ r. (tt, tt)))))
item_good g (grammar.after k u) l x rest s is_s h = kept l (x ∷ rest) (plan g (grammar.after k u) x s) (pick (stands_behind k u.unary s) _ _ (operator_starts g k u x s) (ends (λ r. (tt, tt))))
item_good g (grammar.tail zero u) l x rest s is_s h = kept l (x ∷ rest) (plan g (grammar.tail zero u) x s) (ends (λ r. (tt, tt)))
item_good g (grammar.tail (suc k) u) l x rest s is_s h = kept l (x ∷ rest) (plan g (grammar.tail (suc k) u) x s) (part (λ h. (refl, tt)) tt (λ o e. part (λ h. (refl, tt)) tt (λ p e. ends (λ r. (tt, tt)))))
item_good g (grammar.behind_open v) l x rest s is_s h = pick_by l (x ∷ rest) (is_specifier s) _ _
    (λ e. ((λ h. (refl, tt)), inl (ap is_name is_s ∙ specifier_no_name s e), λ n r ys f. ((λ h. refl), calm n.behind r f.0, λ z zs t a. ((λ h. (refl, tt)), tt, λ o q us v. (tt, tt)))))
    (λ e. ((λ h. (refl, tt)), tt, λ o r ys f. ((λ h. refl), tt, λ z zs t a. ((λ h. (refl, tt)), tt, λ i q us v. (tt, tt)))))
item_good g grammar.unary l x rest s is_s h = kept l (x ∷ rest) (plan g grammar.unary x s) (unary_starts g x s)
item_good g (grammar.behind_sizeof v) l x rest s is_s h = kept l (x ∷ rest) (plan g (grammar.behind_sizeof v) x s) (pick (is_mark tokens.opening s) _ _ (token (λ u. part (λ h. (refl, tt)) tt (λ e k. ends (λ r. (tt, tt))))) (part (λ h. (refl, tt)) tt (λ e k. ends (λ r. (tt, tt)))))
item_good g (grammar.inside_sizeof v w) l x rest s is_s h = pick_by l (x ∷ rest) (is_specifier s) _ _
    (λ e. ((λ h. (refl, tt)), inl (ap is_name is_s ∙ specifier_no_name s e), λ n r ys f. ((λ h. refl), calm n.behind r f.0, λ z zs t a. (tt, tt))))
    (λ e. ((λ h. (refl, tt)), tt, λ o r ys f. ((λ h. refl), tt, λ z zs t a. ((λ h. (refl, tt)), tt, λ i q us v. (tt, tt)))))
item_good g grammar.primary l x rest s is_s h = kept l (x ∷ rest) (plan g grammar.primary x s) (primary_starts g x s)
item_good g (grammar.texts xs) l x rest s is_s h = kept l (x ∷ rest) (plan g (grammar.texts xs) x s) (texts_start g xs x s)
item_good g (grammar.suffixes f) l x rest s is_s h = kept l (x ∷ rest) (plan g (grammar.suffixes f) x s) (suffixes_start g f x s)
item_good g grammar.arguments l x rest s is_s h = kept l (x ∷ rest) (plan g grammar.arguments x s) (pick (begins_expression s) _ _ (part (λ h. (refl, tt)) tt (λ o e. part (λ h. (refl, tt)) tt (λ es e. ends (λ r. (tt, tt))))) (ends (λ r. (tt, tt))))
item_good g (grammar.more_arguments es) l x rest s is_s h = kept l (x ∷ rest) (plan g (grammar.more_arguments es) x s) (pick (is_mark tokens.comma s) _ _ (token (λ u. part (λ h. (refl, tt)) tt (λ o e. part (λ h. (refl, tt)) tt (λ fs e. ends (λ r. (tt, tt)))))) (ends (λ r. (tt, tt))))
item_good g grammar.type_name l x rest s is_s h = type_good h
  where
    type_good : (next_named g.types (x ∷ rest) ≡ false) ⊎ (l ≡ false) → GoodAt l (x ∷ rest) (plan g grammar.type_name x s)
    type_good (inl e) = ((λ h. (refl, tt)), inr (inl e), λ sp r ys f. ((λ h. (refl, tt)), tt, λ d q zs v. (v.0, tt)))
    type_good (inr e) = ((λ h. (refl, tt)), inr (inr (sym e)), λ sp r ys f. ((λ h. (refl, tt)), tt, λ d q zs v. (v.0, tt)))
item_good g grammar.optional_specifiers l x rest s is_s h = pick_by l (x ∷ rest) (begins_specifiers true g.inside s) _ _ (λ e. ((λ h. (refl, tt)), inr (inl (ap is_name is_s ∙ begun_no_name true g.inside s e)), λ sp r ys f. (tt, tt))) (λ e. (tt, tt))
item_good g (grammar.specifiers stores seen sp) l x rest s is_s h = specifiers_good g stores seen sp l x rest s (add stores g.inside seen s) is_s refl
item_good g (grammar.behind_struct v) l x rest s is_s h = struct_good g v x l rest s is_s
item_good g (grammar.struct_body v w) l x rest s is_s h = pick_by l (x ∷ rest) (is_mark tokens.brace s) _ _ (λ e. (tt, tt, λ y ys t a. body_good (at g (grammar.struct_body v w)) g (opens_list y.sort) ys (λ ds. syntax_trees.structure v (Some w) (Some ds)) (λ h. (refl, tt)) (behind_token g.types x y rest ys s false is_s t (brace_opens s e)) (λ ds r. (tt, tt)))) (λ e. (tt, tt))
item_good g grammar.member l x rest s is_s h = ((λ h. (refl, tt)), inr (inr (sym h)), λ sp r ys e. ((λ h. (refl, tt)), tt, λ d q zs f. ((λ h. (refl, tt)), tt, λ is t us v. ((λ h. refl), calm is.behind t (v.0 (closed_no_type d.behind)), λ z ws c a. (tt, semicolon_ends z.sort a)))))
item_good g (grammar.members ds) l x rest s is_s h = pick_by l (x ∷ rest) (begins_specifiers false g.inside s) _ _ (λ e. ((λ h. (refl, tt)), h, λ d r ys f. ((λ h. (refl, tt)), f.1, λ es q zs v. (tt, v.1)))) (λ e. (tt, h))
item_good g (grammar.member_items is) l x rest s is_s h = pick_by l (x ∷ rest) (is_mark tokens.comma s) _ _ (λ e. (tt, tt, λ y ys t a. ((λ h. (refl, tt)), tt, λ d r zs f. ((λ h. (refl, tt)), tt, λ js q us v. ((λ c. v.0 (closed_no_type d.behind)), tt))))) (λ e. ((λ c. c), tt))
item_good g (grammar.behind_enum v) l x rest s is_s h = kept l (x ∷ rest) (plan g (grammar.behind_enum v) x s) (enum_starts g v x s)
item_good g (grammar.enum_body v w) l x rest s is_s h = kept l (x ∷ rest) (plan g (grammar.enum_body v w) x s) (pick (is_mark tokens.brace s) _ _ (token (λ u. part (λ h. (refl, tt)) tt (λ d e. part (λ h. (refl, tt)) tt (λ ds e. plainly (λ h. refl) (λ z. ends (λ r. (tt, tt))))))) (ends (λ r. (tt, tt))))
item_good g grammar.enumerator l x rest s is_s h = kept l (x ∷ rest) (plan g grammar.enumerator x s) (enumerator_starts g x s)
item_good g grammar.value_of l x rest s is_s h = kept l (x ∷ rest) (plan g grammar.value_of x s) (pick (is_mark tokens.equal s) _ _ (token (λ u. part (λ h. (refl, tt)) tt (λ o e. ends (λ r. (tt, tt))))) (ends (λ r. (tt, tt))))
item_good g (grammar.enumerators es) l x rest s is_s h = kept l (x ∷ rest) (plan g (grammar.enumerators es) x s) (pick (is_mark tokens.comma s) _ _ (token (λ u. part (λ h. (refl, tt)) tt (λ r e. part (λ h. (refl, tt)) tt (λ fs e. ends (λ r. (tt, tt)))))) (ends (λ r. (tt, tt))))
item_good g (grammar.qualifiers xs) l x rest s is_s h = kept l (x ∷ rest) (plan g (grammar.qualifiers xs) x s) (qualifiers_start g xs x s)
item_good g (grammar.declarator f) l x rest s is_s h = pick_by l (x ∷ rest) (is_mark tokens.star s) _ _ (λ e. (tt, tt, λ y ys t a. ((λ h. (refl, tt)), tt, λ qs r zs f. ((λ h. (refl, tt)), tt, λ d q us v. (v.0, tt))))) (λ e. ((λ h. (refl, tt)), tt, λ d r ys f. ((λ h. (refl, tt)), tt, λ o q zs v. (v.0 f.0, tt))))
item_good g (grammar.direct f) l x rest s is_s h = direct_good g f x l rest s is_s
item_good g (grammar.group f) l x rest s is_s h = group_good g f x l rest s is_s
item_good g (grammar.behind_group f v) l x rest s is_s h = pick_by l (x ∷ rest) (not (grammar.is_concrete f) && grammar.is_parameters s) _ _
    (λ e. ((λ h. (refl, tt)), h, λ ps r ys c. ((λ h. refl), c.1, λ z zs t a. (parameters_no_type (grammar.behind_absent f) ps.dots, tt))))
    (λ e. ((λ h. (refl, tt)), h, λ d r ys c. ((λ h. refl), calm d.behind r c.0, λ z zs t a. (closed_no_type d.behind, tt))))
item_good g (grammar.declarator_suffixes d) l x rest s is_s h = declarator_suffixes_good g d x l rest s is_s
item_good g grammar.array_length l x rest s is_s h = kept l (x ∷ rest) (plan g grammar.array_length x s) (pick (begins_expression s) _ _ (part (λ h. (refl, tt)) tt (λ o e. ends (λ r. (tt, tt)))) (ends (λ r. (tt, tt))))
item_good g grammar.parameters l x rest s is_s h = pick_by l (x ∷ rest) (begins_specifiers true g.inside s) _ _ (λ e. ((λ h. (refl, tt)), inl (ap is_name is_s ∙ begun_no_name true g.inside s e), λ p r ys f. ((λ h. (refl, tt)), tt, λ ps q zs v. (tt, calm ps.behind q (v.0 f.0))))) (λ e. (tt, h))
item_good g grammar.parameter l x rest s is_s h = parameter_good h
  where
    parameter_good : (next_named g.types (x ∷ rest) ≡ false) ⊎ (l ≡ true) → GoodAt l (x ∷ rest) (plan g grammar.parameter x s)
    parameter_good (inl e) = ((λ h. (refl, tt)), inr (inl e), λ sp r ys f. ((λ h. (refl, tt)), tt, λ d q zs v. (v.0, tt)))
    parameter_good (inr e) = ((λ h. (refl, tt)), inr (inr (sym e)), λ sp r ys f. ((λ h. (refl, tt)), tt, λ d q zs v. (v.0, tt)))
item_good g (grammar.more_parameters ps) l x rest s is_s h = pick_by l (x ∷ rest) (is_mark tokens.comma s) _ _ (λ e. (tt, tt, λ y ys t a. ((λ h. (refl, tt)), behind_token g.types x y rest ys s true is_s t (comma_lists s e), λ qs r zs f. ((λ c. f.0), tt)))) (λ e. ((λ c. c), tt))
item_good g (grammar.behind_comma v ps) l x rest s is_s h = pick_by l (x ∷ rest) (is_mark tokens.ellipsis s) _ _ (λ e. (tt, tt, λ y ys t a. (refl, tt))) (λ e. ((λ h. (refl, tt)), inr h, λ p r ys f. ((λ h. (refl, tt)), tt, λ qs q zs c. (c.0 f.0, tt))))
item_good g grammar.init l x rest s is_s h = kept l (x ∷ rest) (plan g grammar.init x s) (pick (is_mark tokens.brace s) _ _ (token (λ u. part (λ h. (refl, tt)) tt (λ i e. part (λ h. (refl, tt)) tt (λ r e. marked (λ h. refl) (comma r.comma) (λ z. ends (λ r. (tt, tt))))))) (part (λ h. (refl, tt)) tt (λ o e. ends (λ r. (tt, tt)))))
item_good g (grammar.inits is) l x rest s is_s h = kept l (x ∷ rest) (plan g (grammar.inits is) x s) (pick (is_mark tokens.comma s) _ _ (token (λ u. part (λ h. (refl, tt)) tt (λ r e. ends (λ r. (tt, tt))))) (ends (λ r. (tt, tt))))
item_good g (grammar.behind_init_comma is) l x rest s is_s h = kept l (x ∷ rest) (plan g (grammar.behind_init_comma is) x s) (pick (is_mark tokens.brace s || begins_expression s) _ _ (part (λ h. (refl, tt)) tt (λ i e. part (λ h. (refl, tt)) tt (λ r e. ends (λ r. (tt, tt))))) (ends (λ r. (tt, tt))))
item_good g grammar.declaration l x rest s is_s h = ((λ h. (refl, tt)), inr (inl h), λ sp r ys e. ((λ h. (refl, tt)), tt, λ is q zs f. ((λ h. refl), calm is.behind q f.0, λ z us t a. (tt, tt))))
item_good g grammar.items l x rest s is_s h = pick_by l (x ∷ rest) (begins_items s) _ _ (λ e. ((λ h. (refl, tt)), tt, λ i r ys f. ((λ h. (refl, tt)), tt, λ is q zs v. (v.0 f.0, tt)))) (λ e. (refl, tt))
item_good g grammar.item l x rest s is_s h = ((λ h. (refl, tt)), tt, λ d r ys e. ((λ h. (refl, tt)), tt, λ v q zs f. (item_no_type d.behind v, tt)))
item_good g grammar.initial l x rest s is_s h = kept l (x ∷ rest) (plan g grammar.initial x s) (pick (is_mark tokens.equal s) _ _ (token (λ u. part (λ h. (refl, tt)) tt (λ i e. ends (λ r. (tt, tt))))) (ends (λ r. (tt, tt))))
item_good g (grammar.declarations ds) l x rest s is_s h = pick_by l (x ∷ rest) (begins_specifiers true g.inside s) _ _ (λ e. ((λ h. (refl, tt)), ap is_name is_s ∙ begun_no_name true g.inside s e, λ d r ys f. ((λ h. (refl, tt)), tt, λ es q zs v. (tt, tt)))) (λ e. (tt, tt))
item_good g (grammar.more_items is) l x rest s is_s h = pick_by l (x ∷ rest) (is_mark tokens.comma s) _ _ (λ e. (tt, tt, λ y ys t a. ((λ h. (refl, tt)), tt, λ i r zs f. ((λ h. (refl, tt)), tt, λ js q us v. ((λ c. v.0 f.0), tt))))) (λ e. ((λ c. c), tt))
item_good g grammar.statement l x rest s is_s h = kept l (x ∷ rest) (plan g grammar.statement x s) (statement_starts g x s)
item_good g (grammar.behind_name v) l x rest s is_s h = kept l (x ∷ rest) (plan g (grammar.behind_name v) x s) (pick (is_mark tokens.colon s) _ _ (token (λ u. part (λ h. (refl, tt)) tt (λ r e. ends (λ r. (tt, tt))))) (part (λ h. (refl, tt)) tt (λ e k. part (λ h. (refl, tt)) tt (λ o k. plainly (λ h. refl) (λ z. ends (λ r. (tt, tt)))))))
item_good g grammar.else_part l x rest s is_s h = kept l (x ∷ rest) (plan g grammar.else_part x s) (pick (is_mark tokens.else_word s) _ _ (token (λ u. part (λ h. (refl, tt)) tt (λ r e. ends (λ r. (tt, tt))))) (ends (λ r. (tt, tt))))
item_good g grammar.optional_expression l x rest s is_s h = kept l (x ∷ rest) (plan g grammar.optional_expression x s) (pick (begins_expression s) _ _ (part (λ h. (refl, tt)) tt (λ o e. ends (λ r. (tt, tt)))) (ends (λ r. (tt, tt))))
item_good g (grammar.statements ss) l x rest s is_s h = kept l (x ∷ rest) (plan g (grammar.statements ss) x s) (pick (begins_expression s || begins_other s) _ _ (part (λ h. (refl, tt)) tt (λ a e. part (λ h. (refl, tt)) tt (λ bs e. ends (λ r. (tt, tt))))) (ends (λ r. (tt, tt))))
item_good g grammar.external l x rest s is_s h = pick_by l (x ∷ rest) (is_mark tokens.semicolon s) _ _ (λ e. (tt, tt, λ y ys t a. (tt, behind_token g.types x y rest ys s false is_s t (semicolon_ends s e)))) (λ e. ((λ p. absurd p), inr (inl h), λ sp r ys f. ((λ p. absurd p), tt, λ o q zs v. (tt, v.1))))
item_good g (grammar.external_items sp) l x rest s is_s h = pick_by l (x ∷ rest) (is_mark tokens.semicolon s) _ _ (λ e. (tt, tt, λ y ys t a. (tt, behind_token g.types x y rest ys s false is_s t (semicolon_ends s e)))) (λ e. ((λ p. absurd p), tt, λ d r ys f. ((λ p. absurd p), tt, λ o q zs v. (tt, v.1))))
item_good g (grammar.behind_declarator sp d) l x rest s is_s h = pick_by l (x ∷ rest) (is_mark tokens.brace s && not (grammar.is_variadic d.shape)) _ _
    (λ e. (tt, tt, λ y ys t a. ((λ p. absurd p), tt, λ ds r zs f. ((λ p. absurd p), tt, λ ss q us v. ((λ p. absurd p), tt, λ z ws c b. (tt, unbrace_ends z.sort b))))))
    (λ e. ((λ p. absurd p), tt, λ v r ys f. ((λ p. absurd p), tt, λ is q zs c. ((λ p. absurd p), calm is.behind q (c.0 (item_no_type d.behind v)), λ z us t a. (tt, semicolon_ends z.sort a)))))

-- Each production keeps them.
pub each : (n : Ask syntax_trees) (l : Bool) (x : Terminal) (xs : List Terminal) → Start n l (x ∷ xs) → GoodAt l (x ∷ xs) (c_table.predict n x)
each (at g i) l x xs h = item_good g i l x xs (viewed g.types x.sort) refl h
each (unit types) l x xs h = pick_by l (x ∷ xs) (is_mark tokens.semicolon (viewed types x.sort) || begins_specifiers true false (viewed types x.sort)) _ _ (λ e. ((λ p. absurd p), external_no_name (viewed types x.sort) e, λ a r ys f. ((λ p. absurd p), f.1, λ es q zs v. v))) (λ e. h)
each whole l x xs h = ((λ p. absurd p), h, λ es r ys f. ((λ p. absurd p), f, λ z zs t a. tt))
