-- Where a name could stand in a type name's place, as C90's table notes it: behind which answers one could go on, and which wants take one.
use Rattle.std.proofs.Common.{◌≡◌, ℕ, ◌≤◌, Bool, true, false, List, [], ◌∷◌, ◌++◌, Some, None, refl, sym}
use Rattle.std.specs.Prelude.{Option, ⊤, is_none, if◌then◌else◌}
use Rattle.sp_parse_grammar.specs.CTokens as tokens
use Rattle.sp_parse_grammar.specs.CTokens.{Sort, Mark, Seen, is_mark, is_name, view as viewed, add, nothing_seen, is_typed}
use Rattle.sp_parse_grammar.specs.CTable as grammar
use Rattle.sp_parse_grammar.specs.CTable.{Context, AlsoAllowed, Form, Operand, ItemAnswer, Ask, Answer, at, unit, whole, c_symbols, plan, in_function, in_structure}
use Rattle.sp_parse_grammar.specs.Table.{wanted, asked}
use Rattle.sp_parse_tokens.specs.SyntaxTrees.{syntax_trees}
use Rattle.sp_parse_tokens.specs.Depths.{Part}
use Rattle.sp_parse_tokens.specs.Faults.{Wanted, context_of}
use Rattle.sp_parse_fault_laws.proofs.Swaps.{Notes}
use Rattle.sp_parse_fault_laws.proofs.KnownBehind.{is_for_name, closed_no_name, NoName, KnownAnswer}

-- ---- the notes

abbrev is_nil : {A : Type 0} → List A → Bool
is_nil [] = true
is_nil (x ∷ xs) = false

abbrev pub form_open : Form → AlsoAllowed → Bool
form_open grammar.either p = is_for_name p
form_open _ p = false

-- a name could go on behind this answer
abbrev pub may_item : (i : Part) → ItemAnswer i → Bool
may_item grammar.arguments es = is_nil es
may_item (grammar.more_arguments fs) es = is_nil es
may_item grammar.type_name n = is_for_name n.behind
may_item (grammar.member_items js) is = is_for_name is.behind
may_item (grammar.declarator f) d = form_open f d.behind
may_item (grammar.direct f) d = form_open f d.behind
may_item (grammar.group f) d = form_open f d.behind
may_item (grammar.behind_group f y) d = form_open f d.behind
may_item (grammar.declarator_suffixes e) d = is_for_name d.behind
may_item grammar.array_length v = is_none v
may_item grammar.parameters ps = is_for_name ps.behind
may_item grammar.parameter p = is_for_name p.behind
may_item (grammar.more_parameters qs) ps = is_for_name ps.behind
may_item (grammar.behind_comma c qs) ps = is_for_name ps.behind
may_item (grammar.inits js) r = r.comma
may_item (grammar.behind_init_comma js) r = r.comma
may_item grammar.items is = is_for_name is.behind
may_item grammar.item is = is_for_name is.behind
may_item (grammar.more_items js) is = is_for_name is.behind
may_item grammar.optional_expression v = is_none v
may_item (grammar.statements ts) ss = true
may_item _ o = false

-- and behind the left part that an ask carries
abbrev pub carried_item : Part → Bool
carried_item (grammar.more_arguments es) = is_nil es
carried_item (grammar.member_items is) = is_for_name is.behind
carried_item (grammar.declarator_suffixes d) = is_for_name d.behind
carried_item (grammar.more_parameters ps) = is_for_name ps.behind
carried_item (grammar.more_items is) = is_for_name is.behind
carried_item _ = false

-- asks that begin with a name
abbrev begins_named : Part → Bool
begins_named grammar.primary = true
begins_named grammar.enumerator = true
begins_named (grammar.direct grammar.concrete) = true
begins_named (grammar.group grammar.concrete) = true
begins_named _ = false

-- a name could be where this was wanted
abbrev pub tells_name : Wanted → Bool
tells_name (wanted (grammar.only g p m)) = is_for_name p
tells_name (asked (at g i)) = begins_named i
tells_name _ = false

abbrev pub Within : Part → Type 0
Within (grammar.level k) = k ≤ 13
Within (grammar.after k l) = k ≤ 13
Within _ = ⊤

-- A type name behind `(` begins parameters there, and so no group of a declarator with or without a name.
abbrev pub Fits : Part → Type 0
Fits (grammar.level k) = k ≤ 13
Fits (grammar.after k l) = k ≤ 13
Fits (grammar.group grammar.either) = ⊥
Fits _ = ⊤

abbrev pub covers_names : List ℕ → Ask syntax_trees → Type 0
covers_names types (at g i) = (g.types ≡ types) × Within i
covers_names types _ = ⊥

abbrev pub names_at_token : List ℕ → Ask syntax_trees → Type 0
names_at_token types (at g i) = (g.types ≡ types) × Fits i
names_at_token types _ = ⊥

abbrev pub may_go_on : (n : Ask syntax_trees) → Answer n → Bool
may_go_on (at g i) o = may_item i o
may_go_on _ o = false

abbrev pub carries : Ask syntax_trees → Bool
carries (at g i) = carried_item i
carries _ = false

abbrev pub name_notes : List ℕ → Notes (c_symbols syntax_trees)
name_notes types = record { covers = covers_names types; at_token = names_at_token types; may_go_on = may_go_on; carried = carries; tells = tells_name; known = KnownAnswer; own = λ w. (context_of w).types ≡ types }

-- ---- truth values

pub name_no_mark : (m : Mark) (s : Sort) → is_name s ≡ true → is_mark m s ≡ false
name_no_mark m (tokens.name n) e = refl
name_no_mark m _ e = absurd cc

pub snoc_no_nil : {A : Type 0} (xs : List A) (x : A) → is_nil (xs ++ x ∷ []) ≡ false
snoc_no_nil [] x = refl
snoc_no_nil (y ∷ ys) x = refl

pub missing : {A : Type 0} (v : Option A) → is_for_name (grammar.if_missing v) ≡ is_none v
missing None = refl
missing (Some a) = refl

pub first : {A : Type 0} (xs : List A) → is_for_name (grammar.at_first xs) ≡ is_nil xs
first [] = refl
first (x ∷ xs) = refl

pub comma : (b : Bool) → is_for_name (if b then grammar.for_name else grammar.plainly) ≡ b
comma true = refl
comma false = refl

pub item_no_name : {A : Type 0} (p : AlsoAllowed) (v : Option A) → is_for_name (grammar.behind_item p v) ≡ false
item_no_name p None = closed_no_name p
item_no_name p (Some v) = refl

-- a declarator that isn't absent, or of a form that has no name
pub closed_form : (f : Form) (p : AlsoAllowed) → is_for_name p ≡ false → form_open f p ≡ false
closed_form grammar.concrete p e = refl
closed_form grammar.abstract p e = refl
closed_form grammar.either p e = e

pub known_form : (f : Form) (p : AlsoAllowed) → NoName f p → is_for_name p ≡ form_open f p
known_form grammar.concrete p e = e
known_form grammar.abstract p e = e
known_form grammar.either p e = refl

pub suffixed_form : (f : Form) (p q : AlsoAllowed) → NoName f p → (is_for_name p ≡ false → is_for_name q ≡ false) → form_open f q ≡ is_for_name q
suffixed_form grammar.concrete p q e f = sym (f e)
suffixed_form grammar.abstract p q e f = sym (f e)
suffixed_form grammar.either p q e f = refl
