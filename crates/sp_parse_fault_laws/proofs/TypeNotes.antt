-- Where a type could stand in place of a token that begins a declarator, as C90's table notes it: behind which answers one could go on,
-- and which wants take one.
use Rattle.std.proofs.Common.{◌≡◌, ℕ, ◌≤◌, Bool, true, false, Some, None, refl}
use Rattle.std.specs.Prelude.{Option, ⊤, List, [], ◌∷◌, if◌then◌else◌}
use Rattle.sp_parse_grammar.specs.CTokens as tokens
use Rattle.sp_parse_grammar.specs.CTokens.{Sort}
use Rattle.sp_parse_grammar.specs.CTable as grammar
use Rattle.sp_parse_grammar.specs.CTable.{AlsoAllowed, ItemAnswer, Ask, Answer, at, unit, whole, c_symbols}
use Rattle.sp_parse_grammar.specs.Table.{wanted, asked}
use Rattle.sp_parse_tokens.specs.SyntaxTrees.{syntax_trees}
use Rattle.sp_parse_tokens.specs.Depths.{Part}
use Rattle.sp_parse_tokens.specs.Faults.{Wanted, context_of}
use Rattle.sp_parse_fault_laws.proofs.Swaps.{Notes}
use Rattle.sp_parse_fault_laws.proofs.TypeBehind.{is_for_type, closed_no_type, KnownAnswer}

-- the tokens that begin a declarator
pub data Beginning : Type 0 where
  named : ℕ → Beginning
  starred opened : Beginning

abbrev pub beginning : Beginning → Sort
beginning (named n) = tokens.name n
beginning starred = tokens.mark tokens.star
beginning opened = tokens.mark tokens.opening

-- a type could go on behind this answer
abbrev pub may_item : (i : Part) → ItemAnswer i → Bool
may_item grammar.type_name n = is_for_type n.behind
may_item (grammar.members ds) es = true
may_item (grammar.member_items js) is = is_for_type is.behind
may_item grammar.parameters ps = is_for_type ps.behind
may_item grammar.parameter p = is_for_type p.behind
may_item (grammar.more_parameters qs) ps = is_for_type ps.behind
may_item (grammar.behind_comma c qs) ps = is_for_type ps.behind
may_item grammar.items is = is_for_type is.behind
may_item grammar.item is = is_for_type is.behind
may_item (grammar.more_items js) is = is_for_type is.behind
may_item (grammar.declarations ds) es = true
may_item _ o = false

-- and behind the left part that an ask carries, or in its place
abbrev pub carried_item : Part → Bool
carried_item (grammar.group grammar.abstract) = true
carried_item (grammar.member_items is) = is_for_type is.behind
carried_item (grammar.more_parameters ps) = is_for_type ps.behind
carried_item (grammar.more_items is) = is_for_type is.behind
carried_item _ = false

-- asks in whose place a type could be
abbrev begins_type : Part → Bool
begins_type (grammar.specifiers stores seen sp) = true
begins_type (grammar.group grammar.abstract) = true
begins_type _ = false

-- a type could be where this was wanted
abbrev pub tells_type : Wanted → Bool
tells_type (wanted (grammar.only g p m)) = is_for_type p
tells_type (asked (at g i)) = begins_type i
tells_type _ = false

abbrev pub Within : Part → Type 0
Within (grammar.level k) = k ≤ 13
Within (grammar.after k l) = k ≤ 13
Within _ = ⊤

-- A list of specifiers that may be missing is asked for by itself alone.
abbrev pub Fits : Part → Type 0
Fits (grammar.level k) = k ≤ 13
Fits (grammar.after k l) = k ≤ 13
Fits grammar.optional_specifiers = ⊥
Fits _ = ⊤

abbrev pub covers_types : List ℕ → Ask syntax_trees → Type 0
covers_types types (at g i) = (g.types ≡ types) × Within i
covers_types types _ = ⊥

abbrev pub types_at_token : List ℕ → Ask syntax_trees → Type 0
types_at_token types (at g i) = (g.types ≡ types) × Fits i
types_at_token types _ = ⊥

abbrev pub may_go_on : (n : Ask syntax_trees) → Answer n → Bool
may_go_on (at g i) o = may_item i o
may_go_on _ o = false

abbrev pub carries : Ask syntax_trees → Bool
carries (at g i) = carried_item i
carries _ = false

abbrev pub type_notes : List ℕ → Notes (c_symbols syntax_trees)
type_notes types = record { covers = covers_types types; at_token = types_at_token types; may_go_on = may_go_on; carried = carries; tells = tells_type; known = KnownAnswer; own = λ w. (context_of w).types ≡ types }

-- ---- truth values

pub missing : {A : Type 0} (v : Option A) → is_for_type (grammar.if_missing v) ≡ false
missing None = refl
missing (Some a) = refl

pub first : {A : Type 0} (xs : List A) → is_for_type (grammar.at_first xs) ≡ false
first [] = refl
first (x ∷ xs) = refl

pub comma : (b : Bool) → is_for_type (if b then grammar.for_name else grammar.plainly) ≡ false
comma true = refl
comma false = refl

pub item_no_type : {A : Type 0} (p : AlsoAllowed) (v : Option A) → is_for_type (grammar.behind_item p v) ≡ false
item_no_type p None = closed_no_type p
item_no_type p (Some v) = refl
