-- What might stand behind a declarator isn't a name, but behind a parameter without one.
use Rattle.std.proofs.Common.{◌≡◌, Bool, true, false, List, ◌∷◌, refl}
use Rattle.std.specs.Prelude.{Option, ⊤, if◌then◌else◌, ◌&&◌, not}
use Rattle.sp_parse_grammar.specs.CTokens as tokens
use Rattle.sp_parse_grammar.specs.CTokens.{Sort, is_mark, view as viewed}
use Rattle.sp_parse_grammar.specs.CTable as grammar
use Rattle.sp_parse_grammar.specs.CTable.{Context, AlsoAllowed, Form, ItemAnswer, Ask, Answer, at, unit, whole, c_symbols, plan}
use Rattle.sp_parse_grammar.specs.Table.{Plan, ask, Reads}
use Rattle.sp_parse_tokens.specs.Sorts.{Terminal}
use Rattle.sp_parse_tokens.specs.SyntaxTrees.{syntax_trees, c_table}
use Rattle.sp_parse_tokens.specs.Depths.{Part}
use Rattle.sp_parse_laws.proofs.Between.{BetweenAt, none_said, fact_of}

abbrev pub is_for_name : AlsoAllowed → Bool
is_for_name grammar.for_name = true
is_for_name _ = false

pub closed_no_name : (p : AlsoAllowed) → is_for_name (grammar.closed p) ≡ false
closed_no_name grammar.plainly = refl
closed_no_name grammar.for_name = refl
closed_no_name grammar.for_parameter = refl
closed_no_name grammar.for_member = refl
closed_no_name grammar.for_external = refl
closed_no_name grammar.for_body = refl

pub parameters_no_name : (p : AlsoAllowed) (dots : Bool) → is_for_name (grammar.behind_parameters p dots) ≡ false
parameters_no_name p true = refl
parameters_no_name p false = closed_no_name p

-- where a name is wanted, or may stand, what is behind tells
abbrev pub NoName : Form → AlsoAllowed → Type 0
NoName grammar.either p = ⊤
NoName _ p = is_for_name p ≡ false

no_name : (f : Form) (p : AlsoAllowed) → is_for_name p ≡ false → NoName f p
no_name grammar.concrete p e = e
no_name grammar.abstract p e = e
no_name grammar.either p e = tt

on : (f : Form) (p q : AlsoAllowed) → NoName f p → (is_for_name p ≡ false → is_for_name q ≡ false) → NoName f q
on grammar.concrete p q e f = f e
on grammar.abstract p q e f = f e
on grammar.either p q e f = tt

abbrev pub KnownItem : (i : Part) → ItemAnswer i → Type 0
KnownItem (grammar.declarator f) d = NoName f d.behind
KnownItem (grammar.direct f) d = NoName f d.behind
KnownItem (grammar.group f) d = NoName f d.behind
KnownItem (grammar.behind_group f y) d = NoName f d.behind
KnownItem (grammar.declarator_suffixes d) e = is_for_name d.behind ≡ false → is_for_name e.behind ≡ false
KnownItem _ o = ⊤

abbrev pub KnownAnswer : (n : Ask syntax_trees) → Answer n → Type 0
KnownAnswer (at g i) o = KnownItem i o
KnownAnswer _ o = ⊤

abbrev Fact : (n : Ask syntax_trees) → List Terminal → Answer n → List Terminal → Type 0
Fact n xs o ys = KnownAnswer n o

abbrev Nothing : (n : Ask syntax_trees) → List Terminal → Answer n → List Terminal → Type 0
Nothing n xs o ys = ⊤

abbrev Holds : (g : Context) (i : Part) (xs : List Terminal) → Option (Plan (c_symbols syntax_trees) (at g i)) → Type 0
Holds g i xs o = BetweenAt {S = c_symbols syntax_trees} Fact Nothing (at g i) xs o

holds_if : (g : Context) (i : Part) (xs : List Terminal) (b : Bool) (p q : Option (Plan (c_symbols syntax_trees) (at g i))) → Holds g i xs p → Holds g i xs q → Holds g i xs (if b then p else q)
holds_if g i xs true p q first second = first
holds_if g i xs false p q first second = second

direct_holds : (g : Context) (f : Form) (x : Terminal) (xs : List Terminal) (t : Sort) → Holds g (grammar.direct f) (x ∷ xs) (grammar.direct_plan g f x t)
direct_holds g grammar.concrete x xs (tokens.name n) = λ y ys e. refl
direct_holds g grammar.either x xs (tokens.name n) = λ y ys e. tt
direct_holds g grammar.concrete x xs (tokens.mark tokens.opening) = λ y ys e d zs q p. p
direct_holds g grammar.abstract x xs (tokens.mark tokens.opening) = λ y ys e d zs q p. p
direct_holds g grammar.either x xs (tokens.mark tokens.opening) = λ y ys e d zs q p. p
direct_holds g grammar.concrete x xs _ = tt
direct_holds g grammar.abstract x xs _ = refl
direct_holds g grammar.either x xs _ = tt

group_holds : (g : Context) (f : Form) (x : Terminal) (xs : List Terminal) (t : Sort) → Holds g (grammar.group f) (x ∷ xs) (grammar.group_plan g f x t)
group_holds g f x xs (tokens.mark tokens.star) = λ y ys e ks y1 qk pk d y2 q p. p
group_holds g f x xs (tokens.mark tokens.opening) = λ y ys e d y1 q p o y2 qo po. on f d.behind o.behind p po
group_holds g grammar.concrete x xs (tokens.name n) = λ y ys e o y1 q p. p refl
group_holds g grammar.either x xs (tokens.name n) = λ y ys e o y1 q p. tt
group_holds g grammar.abstract x xs (tokens.mark tokens.bracket) = λ y ys e n y1 q p z y2 ez o y3 qo po. po refl
group_holds g grammar.either x xs (tokens.mark tokens.bracket) = λ y ys e n y1 q p z y2 ez o y3 qo po. tt
group_holds g f x xs _ = tt

suffixes_hold : (g : Context) (d : grammar.Declared syntax_trees) (x : Terminal) (xs : List Terminal) (t : Sort) → Holds g (grammar.declarator_suffixes d) (x ∷ xs) (plan g (grammar.declarator_suffixes d) x t)
suffixes_hold g d x xs (tokens.mark tokens.bracket) = λ y ys e n y1 q p z y2 ez o y3 qo po h. po (closed_no_name d.behind)
suffixes_hold g d x xs (tokens.mark tokens.opening) = λ y ys e ps y1 q p z y2 ez o y3 qo po h. po (parameters_no_name d.behind ps.dots)
suffixes_hold g d x xs _ = λ h. h

item_holds : (g : Context) (i : Part) (x : Terminal) (xs : List Terminal) (t : Sort) → Holds g i (x ∷ xs) (plan g i x t)
item_holds g (grammar.declarator f) x xs t = holds_if g (grammar.declarator f) (x ∷ xs) (is_mark tokens.star t) _ _ (λ y ys e ks y1 qk pk d y2 q p. p) (λ d ys q p e zs qe pe. on f d.behind e.behind p pe)
item_holds g (grammar.direct f) x xs t = direct_holds g f x xs t
item_holds g (grammar.group f) x xs t = group_holds g f x xs t
item_holds g (grammar.behind_group f y) x xs t = holds_if g (grammar.behind_group f y) (x ∷ xs) (not (grammar.is_concrete f) && grammar.is_parameters t) _ _
    (λ ps ys q p z zs e. no_name f (grammar.behind_parameters (grammar.behind_absent f) ps.dots) (parameters_no_name (grammar.behind_absent f) ps.dots))
    (λ d ys q p z zs e. no_name f (grammar.closed d.behind) (closed_no_name d.behind))
item_holds g (grammar.declarator_suffixes d) x xs t = suffixes_hold g d x xs t
item_holds g i x xs t = none_said {S = c_symbols syntax_trees} Fact Nothing (at g i) (λ zs o ys. tt) (x ∷ xs) (plan g i x t)

each : (n : Ask syntax_trees) (x : Terminal) (xs : List Terminal) → BetweenAt {S = c_symbols syntax_trees} Fact Nothing n (x ∷ xs) (c_table.predict n x)
each (at g i) x xs = item_holds g i x xs (viewed g.types x.sort)
each (unit types) x xs = none_said {S = c_symbols syntax_trees} Fact Nothing (unit types) (λ zs o ys. tt) (x ∷ xs) (c_table.predict (unit types) x)
each whole x xs = none_said {S = c_symbols syntax_trees} Fact Nothing whole (λ zs o ys. tt) (x ∷ xs) (c_table.predict whole x)

pub known_behind : (n : Ask syntax_trees) (xs ys : List Terminal) (a : Answer n) → Reads c_table n (ask n) xs a ys → KnownAnswer n a
known_behind n xs ys a r = fact_of c_table Fact Nothing (λ m us vs o s. tt) each r
