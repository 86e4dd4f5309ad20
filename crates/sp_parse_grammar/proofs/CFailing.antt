-- What C90's grammar reads is the longest whole, and where an ask fails stands the failing token.
use Rattle.std.proofs.Common.{refl, arith}
use Rattle.sp_parse_grammar.specs.CTokens as tokens
use Rattle.sp_parse_grammar.specs.CTrees.{Trees}
use Rattle.sp_parse_grammar.specs.CTable as grammar
use Rattle.sp_parse_grammar.specs.CTable.{Context, Item, Ask, at, unit, whole, c90, Stops, ItemStops, a_mark}
use Rattle.sp_parse_grammar.specs.CLaws.{HasLevel, IsAsk, AreLongest, AreFailing}
use Rattle.sp_parse_grammar.proofs.Wholes as wholes
use Rattle.sp_parse_grammar.proofs.CEndings.{c90_checked}

-- each part may end before the end of the text
item_stops : {t : Trees} (g : Context) (i : Item t) → HasLevel i → ItemStops g i (tokens.mark tokens.end)
item_stops g (grammar.level k) low = omega arith
item_stops g (grammar.after k l) low = omega arith
item_stops g (grammar.tail k l) low = omega arith
item_stops g (grammar.behind_open x) low = omega arith
item_stops g grammar.unary low = omega arith
item_stops g grammar.primary low = omega arith
item_stops g grammar.arguments low = (refl, omega arith)
item_stops g (grammar.behind_sizeof x) low = omega arith
item_stops g (grammar.inside_sizeof x y) low = omega arith
item_stops g (grammar.texts xs) low = omega arith
item_stops g (grammar.suffixes e) low = omega arith
item_stops g (grammar.more_arguments es) low = omega arith
item_stops g grammar.type_name low = ((refl, refl), refl)
item_stops g grammar.optional_specifiers low = (refl, refl)
item_stops g (grammar.specifiers stores seen sp) low = (refl, refl)
item_stops g (grammar.behind_struct x) low = refl
item_stops g (grammar.behind_enum x) low = refl
item_stops g (grammar.struct_body x y) low = refl
item_stops g (grammar.enum_body x y) low = refl
item_stops g grammar.member low = tt
item_stops g grammar.enumerator low = omega arith
item_stops g grammar.value_of low = omega arith
item_stops g (grammar.members ds) low = refl
item_stops g (grammar.member_items is) low = (refl, refl)
item_stops g (grammar.enumerators es) low = omega arith
item_stops g (grammar.qualifiers xs) low = refl
item_stops g (grammar.declarator f) low = refl
item_stops g (grammar.direct f) low = refl
item_stops g (grammar.group f) low = refl
item_stops g (grammar.behind_group f x) low = tt
item_stops g (grammar.declarator_suffixes d) low = refl
item_stops g grammar.array_length low = (refl, omega arith)
item_stops g grammar.parameters low = (refl, omega arith, ((refl, refl), refl))
item_stops g grammar.parameter low = ((refl, refl), refl)
item_stops g (grammar.more_parameters ps) low = (omega arith, ((refl, refl), refl))
item_stops g (grammar.behind_comma c ps) low = (omega arith, ((refl, refl), refl))
item_stops g grammar.init low = omega arith
item_stops g (grammar.inits is) low = (refl, omega arith)
item_stops g (grammar.behind_init_comma is) low = (refl, omega arith)
item_stops g grammar.declaration low = tt
item_stops g grammar.items low = (refl, (omega arith, refl))
item_stops g grammar.item low = (omega arith, refl)
item_stops g grammar.initial low = omega arith
item_stops g (grammar.declarations ds) low = refl
item_stops g (grammar.more_items is) low = (omega arith, refl)
item_stops g grammar.statement low = refl
item_stops g grammar.else_part low = refl
item_stops g grammar.optional_expression low = (refl, omega arith)
item_stops g (grammar.behind_name x) low = refl
item_stops g (grammar.statements ss) low = (refl, refl)
item_stops g grammar.external low = tt
item_stops g (grammar.external_items sp) low = tt
item_stops g (grammar.behind_declarator sp d) low = tt

stops : (t : Trees) (n : Ask t) → IsAsk n → Stops n (a_mark t tokens.end)
stops t (at g i) low = item_stops g i low
stops t (unit types) low = refl
stops t whole low = tt

pub c90_longest : (t : Trees) → AreLongest t
c90_longest t n front more x a r = (wholes.whole (c90 t) (c90_checked t) n front more x a r, wholes.longest (c90 t) (c90_checked t) n front more x a r)

pub c90_failing : (t : Trees) → AreFailing t
c90_failing t n front more x f asked h = (wholes.failing (c90 t) (c90_checked t) n front more x (a_mark t tokens.end) f (stops t n asked) h, λ others. wholes.fault_stays (c90 t) (c90_checked t) n front more others x f h)
