-- The heads of declarators, and what stands in parentheses, over plain variables.
use Rattle.std.proofs.Common.{◌≡◌, ◌≢◌, ℕ, ◌+◌, ◌-◌, ◌≤◌, ◌<◌, Bool, true, false, List, ◌∷◌, map, length, Some, None, refl, sym, ap, ◌∙◌, subst, arith}
use Rattle.std.specs.Prelude.{is_some, max, not, ◌&&◌, ◌||◌, if◌then◌else◌, Option}
use Rattle.sp_tree.specs.declared.token.Token.{Token}
use Rattle.sp_tree.specs.declared.fault.Place.{Place}
use Rattle.sp_parse_trees.specs.Syntax as syntax
use Rattle.sp_parse_trees.specs.Syntax.{declarator, Param}
use Rattle.sp_parse_trees.specs.View.{declarator_of, param_of}
use Rattle.sp_parse_trees.specs.Depth.{declarator_depth}
use Rattle.sp_parse_tokens.specs.declared.part.Declared.{Declared}
use Rattle.sp_parse_tokens.specs.declared.part.Parameters.{Parameters}
use Rattle.sp_parse_tokens.specs.declared.part.ReadError.{ReadError}
use Rattle.sp_parse_tokens.specs.declared.part.ReadError.TheVariants as stops
use Rattle.sp_parse_tokens.specs.declared.scope.Scope.{Scope}
use Rattle.sp_parse_grammar.specs.CTokens as tokens
use Rattle.sp_parse_grammar.specs.CTokens.{Sort, view, is_mark}
use Rattle.sp_parse_grammar.specs.CTable as grammar
use Rattle.sp_parse_grammar.specs.CTable.{Context, Item, ItemAnswer, at, c_symbols, plan, get, next, close_by, direct_plan, group_plan, is_concrete, is_parameters}
use Rattle.sp_parse_grammar.specs.CTrees.{TokenOf}
use Rattle.sp_parse_grammar.specs.Table.{Plan, done, ask, asked, Fails, Reads}
use Rattle.sp_parse_grammar.specs.Depth.{Nests}
use Rattle.sp_parse_tokens.specs.Sorts.{terminal, sort_of, c_tokens}
use Rattle.sp_parse_tokens.specs.SyntaxTrees.{syntax_trees, c_table}
use Rattle.sp_parse_tokens.specs.Depths.{c_depths, item_least}
use Rattle.sp_parse_tokens.specs.Makers.{settle, first_place, make_absent, make_named, number_of}
use Rattle.sp_parse_tokens.specs.Ended.{IsEnded}
use Rattle.sp_parse_tokens.specs.Faults.{fault_there}
use Rattle.sp_parse_tokens.proofs.Settled.{settle_depth}
use Rattle.sp_parse_tokens.specs.Scopes.{there, allowed_seen}
use Rattle.sp_parse_expr_steps.specs.Reading.{kind_at, IsRead, IsStop, IsStep}
use Rattle.sp_parse_tokens.specs.Expecting.{IsExpected, IsFaultFor}
use Rattle.sp_parse_tokens.specs.declared.scope.AlsoAllowed.TheVariants as also
use Rattle.sp_parse_tokens.proofs.Viewing.{ended_other}
use Rattle.sp_parse_expr_steps.proofs.Faulting.{stop_unread}
use Rattle.sp_parse_expr_steps.proofs.EnumeratorSteps.{name_number, name_no_end}
use Rattle.sp_parse_expr_steps.specs.Declaring.{declared_seen, shape_seen, IsDeclared, IsFunction, IsGroupFault, IsPending, AreGiven, begins_array, begins_deeper, head_name}
use Rattle.sp_parse_expr_steps.proofs.Steps.{begun, unread, got, last, finished, part_nests}
use Rattle.sp_parse_expr_steps.proofs.Marks.{opening_is, star_is}
use Rattle.sp_parse_expr_steps.proofs.Parts.{IsOn, on_mark, stop_part}
use Rattle.sp_parse_expr_steps.proofs.ExpressionSteps.{built, first_same, first_taken, first_deep}
use Rattle.sp_parse_expr_steps.proofs.DeclaratorSteps.{declared_same, direct_on, pointer_plan}
use Rattle.sp_parse_expr_steps.proofs.DeclaratorParts.{array_plan, parameters_seen, function_same, function_settled, function_deep, given_before}

-- ---- a declarator whose tree has its place

-- what was read with its tree, which no token behind it changes
pub declared_read : (g : Context) (i : Item syntax_trees) (make : grammar.Declared syntax_trees → ItemAnswer i) (d n : ℕ) (text rest : List Token) (dd : Declared) → ((p : Place) → settle p (declarator_of dd.tree) ≡ declarator_of dd.tree) → IsRead g i d text (make (declared_seen dd (declarator_of dd.tree))) n rest → IsDeclared g i make d text dd n rest
declared_read g i make d n text rest dd settled read = record { pending = declarator_of dd.tree; settled = sym (settled (first_place rest)); named = λ e. refl; read = read }

-- an absent declarator, as the grammar has it
pub absent_seen : (head : Declared) (f : grammar.Form) (p : Place) → declared_seen head (declarator_of head.tree) ≡ record (grammar.absent_declarator f) { tree = settle p make_absent } → declared_seen head make_absent ≡ grammar.absent_declarator f
absent_seen head f p e = ap (λ (d : grammar.Declared syntax_trees). record d { tree = make_absent }) e

pub absent_tree : (head : Declared) (f : grammar.Form) (p : Place) → declared_seen head (declarator_of head.tree) ≡ record (grammar.absent_declarator f) { tree = settle p make_absent } → declarator_of head.tree ≡ settle p make_absent
absent_tree head f p e = ap (λ (d : grammar.Declared syntax_trees). d.tree) e

-- ---- heads

pub name_is : (f : grammar.Form) (s : Sort) (n : ℕ) → head_name f s ≡ Some n → tokens.name n ≡ s
name_is grammar.concrete (tokens.name m) n e = cc
name_is grammar.either (tokens.name m) n e = cc
name_is grammar.abstract _ n e = absurd cc
name_is f _ n e = absurd cc

-- no name, as the code has it
pub none_named : (f : grammar.Form) (o : Option ℕ) (s : Sort) → o ≡ head_name f s → ((n : ℕ) → o ≢ Some n) → head_name f s ≡ None
none_named f None s e other = sym e
none_named f (Some n) s e other = absurd (other n refl)

-- a form in which a name may stand
takes_name : grammar.Form → Bool
takes_name grammar.abstract = false
takes_name _ = true

name_form : (f : grammar.Form) (s : Sort) (n : ℕ) → head_name f s ≡ Some n → takes_name f ≡ true
unfolding takes_name
name_form grammar.concrete s n e = refl
name_form grammar.either s n e = refl
name_form grammar.abstract s n e = absurd cc

direct_named : (g : Context) (f : grammar.Form) (x : TokenOf syntax_trees) (n : ℕ) → takes_name f ≡ true → direct_plan {t = syntax_trees} g f x (tokens.name n) ≡ Some (next (λ y. done (grammar.named_declarator x n)))
unfolding takes_name
direct_named g grammar.concrete x n e = refl
direct_named g grammar.either x n e = refl
direct_named g grammar.abstract x n e = absurd cc

direct_open : (g : Context) (f : grammar.Form) (x : TokenOf syntax_trees) → direct_plan {t = syntax_trees} g f x (tokens.mark tokens.opening) ≡ Some (next (λ y. get g (grammar.behind_group f x) (λ d. done d)))
direct_open g grammar.concrete x = refl
direct_open g grammar.either x = refl
direct_open g grammar.abstract x = refl

direct_none : (g : Context) (f : grammar.Form) (x : TokenOf syntax_trees) (s : Sort) → is_concrete f ≡ true → is_mark tokens.opening s ≡ false → head_name f s ≡ None → direct_plan {t = syntax_trees} g f x s ≡ None
direct_none g grammar.concrete x (tokens.name n) is a b = absurd cc
direct_none g grammar.concrete x (tokens.mark tokens.opening) is a b = absurd cc
direct_none g grammar.concrete x _ is a b = refl
direct_none g grammar.either x s is a b = absurd cc
direct_none g grammar.abstract x s is a b = absurd cc

direct_absent : (g : Context) (f : grammar.Form) (x : TokenOf syntax_trees) (s : Sort) → is_concrete f ≡ false → is_mark tokens.opening s ≡ false → head_name f s ≡ None → direct_plan {t = syntax_trees} g f x s ≡ Some (done (grammar.absent_declarator f))
direct_absent g grammar.concrete x s is a b = absurd cc
direct_absent g grammar.abstract x (tokens.mark tokens.opening) is a b = absurd cc
direct_absent g grammar.abstract x _ is a b = refl
direct_absent g grammar.either x (tokens.name n) is a b = absurd cc
direct_absent g grammar.either x (tokens.mark tokens.opening) is a b = absurd cc
direct_absent g grammar.either x _ is a b = refl

module _ (g : Context) (f : grammar.Form) (text xs : List Token) (x : Token) (e : text ≡ x ∷ xs) where
  pub direct_group_on : tokens.mark tokens.opening ≡ view g.types (sort_of x.kind) → IsOn g g (grammar.direct f) (grammar.direct f) (λ a. a) (get g (grammar.behind_group f (terminal x)) (λ d. done d)) text xs
  direct_group_on is = first_taken g (grammar.direct f) text xs x (tokens.mark tokens.opening) e is (λ y. get g (grammar.behind_group f (terminal x)) (λ d. done d)) (direct_open g f (terminal x))

  pub direct_named_on : (n : ℕ) → head_name f (view g.types (sort_of x.kind)) ≡ Some n → IsOn g g (grammar.direct f) (grammar.direct f) (λ a. a) (done (grammar.named_declarator (terminal x) n)) text xs
  direct_named_on n is = first_taken g (grammar.direct f) text xs x (tokens.name n) e (name_is f (view g.types (sort_of x.kind)) n is) (λ y. done (grammar.named_declarator (terminal x) n)) (direct_named g f (terminal x) n (name_form f (view g.types (sort_of x.kind)) n is))

  pub direct_absent_on : is_concrete f ≡ false → is_mark tokens.opening (view g.types (sort_of x.kind)) ≡ false → head_name f (view g.types (sort_of x.kind)) ≡ None → IsOn g g (grammar.direct f) (grammar.direct f) (λ a. a) (done (grammar.absent_declarator f)) text text
  direct_absent_on is a b = first_same g (grammar.direct f) text xs x (view g.types (sort_of x.kind)) e refl (done (grammar.absent_declarator f)) (direct_absent g f (terminal x) (view g.types (sort_of x.kind)) is a b)

pub direct_begins_none : (g : Context) (f : grammar.Form) (x : TokenOf syntax_trees) (s : Sort) → is_concrete f ≡ true → is_mark tokens.opening s ≡ false → head_name f s ≡ None → plan {t = syntax_trees} g (grammar.direct f) x s ≡ None
direct_begins_none g f x s is a b = direct_none g f x s is a b

pub direct_begins_open : (g : Context) (f : grammar.Form) (x : TokenOf syntax_trees) → plan {t = syntax_trees} g (grammar.direct f) x (tokens.mark tokens.opening) ≡ Some (next (λ y. get g (grammar.behind_group f x) (λ d. done d)))
direct_begins_open g f x = direct_open g f x

pub concrete_fault : (types : List ℕ) (scope : Scope) (f : grammar.Form) (s : Sort) → is_concrete f ≡ true → fault_there (asked (at (there types scope) (grammar.direct grammar.concrete))) s ≡ fault_there (asked (at (there types scope) (grammar.direct f))) s
concrete_fault types scope grammar.concrete s is = refl
concrete_fault types scope grammar.either s is = absurd cc
concrete_fault types scope grammar.abstract s is = absurd cc

-- a declarator that is a name
module _ (types : List ℕ) (f : grammar.Form) (x : Token) (n : ℕ) (dd : Declared) (is : head_name f (view types (sort_of x.kind)) ≡ Some n) (named : (y : Token) → y.place ≡ x.place → number_of y.kind ≡ n → declared_seen dd (declarator_of dd.tree) ≡ grammar.named_declarator (terminal y) n) where
  pub named_seen : declared_seen dd (declarator_of dd.tree) ≡ grammar.named_declarator (terminal x) n
  named_seen = named x refl (name_number types n x.kind (name_is f (view types (sort_of x.kind)) n is))

  named_tree : declarator_of dd.tree ≡ make_named x
  named_tree = ap (λ (d : grammar.Declared syntax_trees). d.tree) named_seen

  pub named_settled : (p : Place) → settle p (declarator_of dd.tree) ≡ declarator_of dd.tree
  named_settled p = ap (λ v. settle p v) named_tree ∙ sym named_tree

  pub named_deep : 1 ≡ declarator_depth (declarator_of dd.tree)
  named_deep = sym (ap (λ v. declarator_depth v) named_tree)

  pub named_ended : (xs : List Token) → IsEnded (x ∷ xs) → IsEnded xs
  named_ended xs ended = ended_other x xs ended (name_no_end types n x.kind (name_is f (view types (sort_of x.kind)) n is))

pub named_read : (g : Context) (f : grammar.Form) (text xs : List Token) (x : Token) (e : text ≡ x ∷ xs) (d n : ℕ) (dd : Declared) → head_name f (view g.types (sort_of x.kind)) ≡ Some n → ((y : Token) → y.place ≡ x.place → number_of y.kind ≡ n → declared_seen dd (declarator_of dd.tree) ≡ grammar.named_declarator (terminal y) n) → 1 ≤ d → IsEnded text → IsDeclared g (grammar.direct f) (λ a. a) d text dd 1 xs
named_read g f text xs x e d n dd is named room ended =
    let less : length text ≡ length (x ∷ xs) = ap length e in
    let seen = named_seen g.types f x n dd is named in
    declared_read g (grammar.direct f) (λ a. a) d 1 text xs dd (named_settled g.types f x n dd is named) (built g (grammar.direct f) d 1 text xs (grammar.named_declarator (terminal x) n) (declared_seen dd (declarator_of dd.tree)) (finished (direct_named_on g f text xs x e n is)) seen refl room (named_ended g.types f x n dd is named xs (subst IsEnded e ended)) (omega (arith, less)))

-- no declarator
pub absent_read : (g : Context) (f : grammar.Form) (text xs : List Token) (x : Token) (e : text ≡ x ∷ xs) (d : ℕ) (dd : Declared) → declared_seen dd (declarator_of dd.tree) ≡ record (grammar.absent_declarator f) { tree = settle x.place make_absent } → is_concrete f ≡ false → is_mark tokens.opening (view g.types (sort_of x.kind)) ≡ false → head_name f (view g.types (sort_of x.kind)) ≡ None → 1 ≤ d → IsEnded text → IsDeclared g (grammar.direct f) (λ a. a) d text dd 1 text
absent_read g f text xs x e d dd absent is a b room ended =
    let seen = absent_seen dd f x.place absent in
    let none : dd.declares ≡ None = ap (λ (v : grammar.Declared syntax_trees). v.declares) seen in
    let no_name : is_some dd.declares ≡ false = ap (λ v. is_some v) none in
    record {
      pending = make_absent;
      settled = absent_tree dd f x.place absent ∙ ap (λ v. settle (first_place v) make_absent) (sym e);
      named = λ named. absurd cc;
      read = built g (grammar.direct f) d 1 text text (grammar.absent_declarator f) (declared_seen dd make_absent) (finished (direct_absent_on g f text xs x e is a b)) seen refl room ended (omega arith);
    }

-- a concrete declarator begins with none of these
pub concrete_refused : (types : List ℕ) (scope : Scope) (f : grammar.Form) (d : ℕ) (text xs : List Token) (x : Token) → text ≡ x ∷ xs → is_concrete f ≡ true → is_mark tokens.opening (view types (sort_of x.kind)) ≡ false → head_name f (view types (sort_of x.kind)) ≡ None → IsEnded text → (s : ReadError) → IsFaultFor types scope also.Name text s → IsStop (there types scope) (grammar.direct f) d text s
concrete_refused types scope f d text xs x e is a b ended s h =
    let g = there types scope in
    stop_unread types scope also.Name (grammar.direct f) (grammar.direct f) (λ v. v) d text text xs x (begun (at g (grammar.direct f)) (c_tokens text)) e (direct_none g f (terminal x) (view types (sort_of x.kind)) is a b) (λ y. concrete_fault types scope f (view types (sort_of y.kind)) is) ended s h

-- what stands before a token
pub pending_of : (dd : Declared) (p : Place) → ((q : Place) → settle q (declarator_of dd.tree) ≡ declarator_of dd.tree) → IsPending dd p
pending_of dd p settled = record { pending = declarator_of dd.tree; settled = sym (settled p); named = λ e. refl }

-- ---- what stands behind a `(`

abbrev pub absent_more : (g : Context) (f : grammar.Form) (y : TokenOf syntax_trees) (ps : grammar.Parameters syntax_trees) → TokenOf syntax_trees → Plan (c_symbols syntax_trees) (at g (grammar.behind_group f y))
absent_more g f y ps z = done (grammar.function_of (grammar.absent_declarator f) y ps z)

abbrev pub absent_closing : (g : Context) (f : grammar.Form) (y : TokenOf syntax_trees) (ps : grammar.Parameters syntax_trees) → Plan (c_symbols syntax_trees) (at g (grammar.behind_group f y))
absent_closing g f y ps = close_by g ps.behind tokens.closing (absent_more g f y ps)

abbrev pub inner_more : (g : Context) (f : grammar.Form) (y : TokenOf syntax_trees) (d : grammar.Declared syntax_trees) → TokenOf syntax_trees → Plan (c_symbols syntax_trees) (at g (grammar.behind_group f y))
inner_more g f y d z = done (grammar.group_of y d z)

abbrev pub inner_closing : (g : Context) (f : grammar.Form) (y : TokenOf syntax_trees) (d : grammar.Declared syntax_trees) → Plan (c_symbols syntax_trees) (at g (grammar.behind_group f y))
inner_closing g f y d = close_by g d.behind tokens.closing (inner_more g f y d)

module _ (g : Context) (f : grammar.Form) (y : TokenOf syntax_trees) (text xs : List Token) (x : Token) (e : text ≡ x ∷ xs) where
  pub absent_on : (not (is_concrete f) && is_parameters (view g.types (sort_of x.kind))) ≡ true → IsOn g g (grammar.behind_group f y) (grammar.behind_group f y) (λ a. a) (get g grammar.parameters (absent_closing g f y)) text text
  absent_on stands = first_same g (grammar.behind_group f y) text xs x (view g.types (sort_of x.kind)) e refl (get g grammar.parameters (absent_closing g f y)) (ap (λ b. if b then Some (get g grammar.parameters (absent_closing g f y)) else Some (get g (grammar.group f) (inner_closing g f y))) stands)

  pub inner_on : (not (is_concrete f) && is_parameters (view g.types (sort_of x.kind))) ≡ false → IsOn g g (grammar.behind_group f y) (grammar.behind_group f y) (λ a. a) (get g (grammar.group f) (inner_closing g f y)) text text
  inner_on other = first_same g (grammar.behind_group f y) text xs x (view g.types (sort_of x.kind)) e refl (get g (grammar.group f) (inner_closing g f y)) (ap (λ b. if b then Some (get g grammar.parameters (absent_closing g f y)) else Some (get g (grammar.group f) (inner_closing g f y))) other)

-- the parameters of an absent declarator
pub absent_function : (types : List ℕ) (scope : Scope) (f : grammar.Form) (y : Token) (head dd : Declared) (ps : Parameters) (d n k : ℕ) (text mid rest : List Token) → IsOn (there types scope) (there types scope) (grammar.behind_group f (terminal y)) (grammar.behind_group f (terminal y)) (λ a. a) (get (there types scope) grammar.parameters (absent_closing (there types scope) f (terminal y))) text text → declared_seen head (declarator_of head.tree) ≡ record (grammar.absent_declarator f) { tree = settle y.place make_absent } → AreGiven (there types scope) (d - 1) text ps n mid → IsExpected types tokens.closing mid rest → IsFunction head ps dd → 2 ≤ d → k ≡ max n 1 → IsDeclared (there types scope) (grammar.behind_group f (terminal y)) (λ a. a) d text dd (1 + k) rest
absent_function types scope f y head dd ps d n k text mid rest on absent h closes made room both =
    let g = there types scope in
    let i = grammar.behind_group f (terminal y) in
    let qs = parameters_seen ps h.pending in
    let same = given_before ps.dots (map param_of ps.all.items) h.pending mid rest closes.first h.settled closes.whole in
    let settled = absent_tree head f y.place absent in
    let seen = function_same head dd ps made make_absent y closes.first h.pending settled same ∙ ap (λ v. grammar.function_of v (terminal y) qs (terminal closes.first)) (absent_seen head f y.place absent) in
    let less : length mid ≡ length (closes.first ∷ rest) = ap length closes.whole in
    let one : 1 ≡ declarator_depth (declarator_of head.tree) = sym (ap (λ v. declarator_depth v) settled) in
    let size = function_deep head dd ps made closes.first.place h.pending 1 n same one h.read.deep in
    let deep : 1 + k ≡ declarator_depth (declarator_of dd.tree) = omega (arith, both, size) in
    declared_read g i (λ a. a) d (1 + k) text rest dd (function_settled head dd ps made)
    (built g i d (1 + k) text rest (grammar.function_of (grammar.absent_declarator f) (terminal y) qs (terminal closes.first)) (declared_seen dd (declarator_of dd.tree)) (finished (on_mark types scope g i i (λ a. a) tokens.closing ps.behind (absent_more g f (terminal y) qs) g text mid rest (got on h.read.reads) closes)) seen (deep ∙ ap (λ (v : grammar.Declared syntax_trees). declarator_depth v.tree) seen) (omega (arith, both, h.read.shallow, room)) closes.ended (omega (arith, h.read.fewer, less)))

-- a group
pub grouped_declarator : (types : List ℕ) (scope : Scope) (f : grammar.Form) (y : Token) (inner dd : Declared) (d n : ℕ) (text mid rest : List Token) → IsOn (there types scope) (there types scope) (grammar.behind_group f (terminal y)) (grammar.behind_group f (terminal y)) (λ a. a) (get (there types scope) (grammar.group f) (inner_closing (there types scope) f (terminal y))) text text → IsDeclared (there types scope) (grammar.group f) (λ a. a) (d - 1) text inner n mid → IsExpected types tokens.closing mid rest → (declarator_of dd.tree ≡ declarator (syntax.group (declarator_of inner.tree)) y.place) × (dd.declares ≡ inner.declares) × (dd.shape ≡ inner.shape) × (allowed_seen dd.behind ≡ grammar.closed (allowed_seen inner.behind)) → 2 ≤ d → IsDeclared (there types scope) (grammar.behind_group f (terminal y)) (λ a. a) d text dd (1 + n) rest
grouped_declarator types scope f y inner dd d n text mid rest on h closes made room =
    let g = there types scope in
    let i = grammar.behind_group f (terminal y) in
    let hd = declared_seen inner h.pending in
    let z = closes.first in
    let settled : declarator_of inner.tree ≡ settle z.place h.pending = h.settled ∙ ap (λ v. settle (first_place v) h.pending) closes.whole in
    let tree = made.0 ∙ ap (λ v. declarator (syntax.group v) y.place) settled in
    let seen = declared_same (declared_seen dd (declarator_of dd.tree)) (grammar.group_of (terminal y) hd (terminal z)) tree made.1 (ap shape_seen made.2) made.3 in
    let less : length mid ≡ length (z ∷ rest) = ap length closes.whole in
    let deep : 1 + n ≡ 1 + declarator_depth (settle z.place h.pending) = omega (arith, h.read.deep, settle_depth z.place h.pending) in
    declared_read g i (λ a. a) d (1 + n) text rest dd (λ p. ap (λ v. settle p v) made.0 ∙ sym made.0)
    (built g i d (1 + n) text rest (grammar.group_of (terminal y) hd (terminal z)) (declared_seen dd (declarator_of dd.tree)) (finished (on_mark types scope g i i (λ a. a) tokens.closing inner.behind (inner_more g f (terminal y) hd) g text mid rest (got on h.read.reads) closes)) seen deep (omega (arith, h.read.shallow, room)) closes.ended (omega (arith, h.read.fewer, less)))

-- ---- a declarator in parentheses

group_open : (g : Context) (f : grammar.Form) (x : TokenOf syntax_trees) → group_plan {t = syntax_trees} g f x (tokens.mark tokens.opening) ≡ Some (next (λ y. get g (grammar.behind_group f x) (λ d. get g (grammar.declarator_suffixes d) (λ e. done e))))
group_open g grammar.concrete x = refl
group_open g grammar.either x = refl
group_open g grammar.abstract x = refl

group_star : (g : Context) (f : grammar.Form) (x : TokenOf syntax_trees) → group_plan {t = syntax_trees} g f x (tokens.mark tokens.star) ≡ Some (next (λ y. pointer_plan g (grammar.group f) (λ d. d) f x))
group_star g grammar.concrete x = refl
group_star g grammar.either x = refl
group_star g grammar.abstract x = refl

group_named : (g : Context) (f : grammar.Form) (x : TokenOf syntax_trees) (n : ℕ) → takes_name f ≡ true → group_plan {t = syntax_trees} g f x (tokens.name n) ≡ Some (next (λ y. get g (grammar.declarator_suffixes (grammar.named_declarator x n)) (λ e. done e)))
unfolding takes_name
group_named g grammar.concrete x n e = refl
group_named g grammar.either x n e = refl
group_named g grammar.abstract x n e = absurd cc

group_array : (g : Context) (f : grammar.Form) (x : TokenOf syntax_trees) (s : Sort) → begins_array f s ≡ true → group_plan {t = syntax_trees} g f x s ≡ Some (next (λ y. array_plan g (grammar.group f) (λ d. d) (grammar.absent_declarator f) x))
group_array g grammar.abstract x (tokens.mark tokens.bracket) e = refl
group_array g grammar.either x (tokens.mark tokens.bracket) e = refl
group_array g f x _ e = absurd cc

-- the token begins none
group_none : (g : Context) (f : grammar.Form) (x : TokenOf syntax_trees) (s : Sort) → is_mark tokens.star s ≡ false → is_mark tokens.opening s ≡ false → head_name f s ≡ None → begins_array f s ≡ false → group_plan {t = syntax_trees} g f x s ≡ None
group_none g f x (tokens.mark tokens.star) a b c d = absurd cc
group_none g f x (tokens.mark tokens.opening) a b c d = absurd cc
group_none g grammar.concrete x (tokens.name n) a b c d = absurd cc
group_none g grammar.either x (tokens.name n) a b c d = absurd cc
group_none g grammar.abstract x (tokens.mark tokens.bracket) a b c d = absurd cc
group_none g grammar.either x (tokens.mark tokens.bracket) a b c d = absurd cc
group_none g grammar.concrete x _ a b c d = refl
group_none g grammar.abstract x _ a b c d = refl
group_none g grammar.either x _ a b c d = refl

pub record Deeper (g : Context) (f : grammar.Form) (x : TokenOf syntax_trees) (s : Sort) : Type 0 where
  pub body : TokenOf syntax_trees → Plan (c_symbols syntax_trees) (at g (grammar.group f))
  pub chosen : plan {t = syntax_trees} g (grammar.group f) x s ≡ Some (next body)
  pub least : item_least g (grammar.group f) s ≡ 2

pub group_deeper : (g : Context) (f : grammar.Form) (x : TokenOf syntax_trees) (s : Sort) → begins_deeper f s ≡ true → Deeper g f x s
group_deeper g f x (tokens.mark tokens.star) e = record { body = _; chosen = group_star g f x; least = refl }
group_deeper g f x (tokens.mark tokens.opening) e = record { body = _; chosen = group_open g f x; least = refl }
group_deeper g grammar.abstract x (tokens.mark tokens.bracket) e = record { body = _; chosen = refl; least = refl }
group_deeper g grammar.either x (tokens.mark tokens.bracket) e = record { body = _; chosen = refl; least = refl }
group_deeper g f x _ e = absurd cc

module _ (g : Context) (f : grammar.Form) (text xs : List Token) (x : Token) (e : text ≡ x ∷ xs) where
  pub group_star_on : tokens.mark tokens.star ≡ view g.types (sort_of x.kind) → IsOn g g (grammar.group f) (grammar.group f) (λ a. a) (pointer_plan g (grammar.group f) (λ d. d) f (terminal x)) text xs
  group_star_on is = first_taken g (grammar.group f) text xs x (tokens.mark tokens.star) e is (λ y. pointer_plan g (grammar.group f) (λ d. d) f (terminal x)) (group_star g f (terminal x))

  pub group_open_on : tokens.mark tokens.opening ≡ view g.types (sort_of x.kind) → IsOn g g (grammar.group f) (grammar.group f) (λ a. a) (get g (grammar.behind_group f (terminal x)) (λ d. get g (grammar.declarator_suffixes d) (λ v. done v))) text xs
  group_open_on is = first_taken g (grammar.group f) text xs x (tokens.mark tokens.opening) e is (λ y. get g (grammar.behind_group f (terminal x)) (λ d. get g (grammar.declarator_suffixes d) (λ v. done v))) (group_open g f (terminal x))

  pub group_named_on : (n : ℕ) → head_name f (view g.types (sort_of x.kind)) ≡ Some n → IsOn g g (grammar.group f) (grammar.group f) (λ a. a) (get g (grammar.declarator_suffixes (grammar.named_declarator (terminal x) n)) (λ v. done v)) text xs
  group_named_on n is = first_taken g (grammar.group f) text xs x (tokens.name n) e (name_is f (view g.types (sort_of x.kind)) n is) (λ y. get g (grammar.declarator_suffixes (grammar.named_declarator (terminal x) n)) (λ v. done v)) (group_named g f (terminal x) n (name_form f (view g.types (sort_of x.kind)) n is))

  pub group_array_on : begins_array f (view g.types (sort_of x.kind)) ≡ true → IsOn g g (grammar.group f) (grammar.group f) (λ a. a) (array_plan g (grammar.group f) (λ d. d) (grammar.absent_declarator f) (terminal x)) text xs
  group_array_on is = first_taken g (grammar.group f) text xs x (view g.types (sort_of x.kind)) e refl (λ y. array_plan g (grammar.group f) (λ d. d) (grammar.absent_declarator f) (terminal x)) (group_array g f (terminal x) (view g.types (sort_of x.kind)) is)

-- where none begins
pub group_refused : (types : List ℕ) (scope : Scope) (f : grammar.Form) (d : ℕ) (text xs : List Token) (x : Token) → text ≡ x ∷ xs → is_mark tokens.star (view types (sort_of x.kind)) ≡ false → is_mark tokens.opening (view types (sort_of x.kind)) ≡ false → head_name f (view types (sort_of x.kind)) ≡ None → begins_array f (view types (sort_of x.kind)) ≡ false → IsEnded text → (s : ReadError) → IsGroupFault types scope f text s → IsStop (there types scope) (grammar.group f) d text s
group_refused types scope f d text xs x e a b c other ended (stops.Fault kind bad) h =
    let g = there types scope in
    let n = at g (grammar.group f) in
    let fails = unread {D = c_depths} (begun n (c_tokens text)) (ap c_tokens e) (group_none g f (terminal x) (view types (sort_of x.kind)) a b c other) in
    (asked n, subst (λ v. Fails c_table n (ask n) (c_tokens text) (asked n) (c_tokens v)) (sym h.0) fails, h.1 ∙ ap (kind_at (asked n)) (sym h.0), subst IsEnded (sym h.0) ended)
group_refused types scope f d text xs x e a b c other ended (stops.TooDeep bad) h = absurd h
group_refused types scope f d text xs x e a b c other ended stops.NoMemory h = absurd h

-- ---- a declarator that begins with a `*` or a `(`

module _ (g : Context) (f : grammar.Form) (text xs : List Token) (x : Token) (e : text ≡ x ∷ xs) (d : ℕ) where
  inner_star : d < 2 → tokens.mark tokens.star ≡ view g.types (sort_of x.kind) → Nests c_table c_depths (at g (grammar.declarator f)) d (c_tokens text) (c_tokens text)
  inner_star less is = first_deep g (grammar.declarator f) text xs x (tokens.mark tokens.star) e is d (λ y. pointer_plan g (grammar.declarator f) (λ v. v) f (terminal x)) refl (omega (arith, less))

  inner_open : d < 2 → tokens.mark tokens.opening ≡ view g.types (sort_of x.kind) → Nests c_table c_depths (at g (grammar.declarator f)) d (c_tokens text) (c_tokens text)
  inner_open less is =
      part_nests (direct_on g text xs x e f (ap (λ s. is_mark tokens.star s) (sym is))) (omega arith) (first_deep g (grammar.direct f) text xs x (tokens.mark tokens.opening) e is d (λ y. get g (grammar.behind_group f (terminal x)) (λ v. done v)) (direct_begins_open g f (terminal x)) (omega (arith, less)))

  inner_at : (b : Bool) → d < 2 → is_mark tokens.star (view g.types (sort_of x.kind)) ≡ b → (b || is_mark tokens.opening (view g.types (sort_of x.kind))) ≡ true → Nests c_table c_depths (at g (grammar.declarator f)) d (c_tokens text) (c_tokens text)
  inner_at true less star stands = inner_star less (sym (star_is (view g.types (sort_of x.kind)) star))
  inner_at false less star stands = inner_open less (sym (opening_is (view g.types (sort_of x.kind)) stands))

  -- it is at least two deep
  pub inner_deep : d < 2 → (is_mark tokens.star (view g.types (sort_of x.kind)) || is_mark tokens.opening (view g.types (sort_of x.kind))) ≡ true → Nests c_table c_depths (at g (grammar.declarator f)) d (c_tokens text) (c_tokens text)
  inner_deep less stands = inner_at (is_mark tokens.star (view g.types (sort_of x.kind))) less refl stands

  -- and behind its `(` a group is read
  module _ (is : tokens.mark tokens.opening ≡ view g.types (sort_of x.kind)) where
    pub open_stop : (s : ReadError) → IsStop g (grammar.behind_group f (terminal x)) d xs s → IsStop g (grammar.declarator f) d text s
    open_stop s h =
        stop_part g g g (grammar.declarator f) (grammar.declarator f) (grammar.direct f) (λ a. a) (λ v. get g (grammar.declarator_suffixes v) (λ w. done w)) d d text text (direct_on g text xs x e f (ap (λ v. is_mark tokens.star v) (sym is))) (omega arith) s
        (stop_part g g g (grammar.direct f) (grammar.direct f) (grammar.behind_group f (terminal x)) (λ a. a) (λ v. done v) d d text xs (direct_group_on g f text xs x e is) (omega arith) s h)

    pub open_suffixes : (v : grammar.Declared syntax_trees) (rest : List Token) → Reads c_table (at g (grammar.behind_group f (terminal x))) (ask (at g (grammar.behind_group f (terminal x)))) (c_tokens xs) v (c_tokens rest) → IsStep g (grammar.declarator f) (grammar.declarator_suffixes v) (λ a. a) text rest
    open_suffixes v rest r = last (got (direct_on g text xs x e f (ap (λ s. is_mark tokens.star s) (sym is))) (finished (got (direct_group_on g f text xs x e is) r)))
