-- The kind of a fault at a failing token: by what was wanted there, the tokens before it, and the token.
--
-- OldStyleParameters a parameter without a type; ImplicitInt a declaration without a type; VariadicDefinition a definition with `...`; BitField a bit-field; GnuWord a block behind
-- `(`; TypedefAsOrdinaryName a type name where a name could stand, or `typedef` in a function; LongLong a second `long`; else UnexpectedToken. The first that holds.
use Rattle.std.specs.Prelude.{Bool, true, false, ◌&&◌, ◌||◌, List, [], ◌∷◌, if◌then◌else◌}
use Rattle.sp_tree.specs.declared.fault.FaultKind.{FaultKind}
use Rattle.sp_tree.specs.declared.fault.FaultKind.TheVariants.{UnexpectedToken, OldStyleParameters, ImplicitInt, VariadicDefinition, BitField, GnuWord, TypedefAsOrdinaryName, LongLong}
use Rattle.sp_tree.specs.declared.token.Token.{Token}
use Rattle.sp_parse_grammar.specs.CTokens as tokens
use Rattle.sp_parse_grammar.specs.CTokens.{Sort, view, is_mark, is_name}
use Rattle.sp_parse_grammar.specs.CTable as grammar
use Rattle.sp_parse_grammar.specs.CTable.{Context, at, unit, whole, c_symbols, outside}
use Rattle.sp_parse_grammar.specs.Table.{Want, wanted, asked}
use Rattle.sp_parse_tokens.specs.Sorts.{sort_of}
use Rattle.sp_parse_tokens.specs.SyntaxTrees.{syntax_trees}

abbrev pub Wanted : Type 0
Wanted = Want (c_symbols syntax_trees)

-- where it was wanted
abbrev pub context_of : Wanted → Context
context_of (wanted grammar.any) = outside []
context_of (wanted (grammar.ordinary g)) = g
context_of (wanted (grammar.only g p m)) = g
context_of (asked (at g i)) = g
context_of (asked (unit types)) = outside types
context_of (asked whole) = outside []

-- what the token is there
abbrev pub sort_there : Wanted → Token → Sort
sort_there w x = view (context_of w).types (sort_of x.kind)

abbrev pub is_empty : {A : Type 0} → List A → Bool
is_empty [] = true
is_empty _ = false

-- a parameter could begin there
abbrev pub begins_parameter : Wanted → Bool
begins_parameter (wanted (grammar.only g grammar.for_parameter m)) = true
begins_parameter (asked (at g (grammar.specifiers true seen sp))) = is_empty sp.all
begins_parameter (asked (at g (grammar.group grammar.abstract))) = true
begins_parameter _ = false

-- a type specifier is wanted there: a declaration could begin, or has begun without one
abbrev pub wants_type : Wanted → Bool
wants_type (wanted (grammar.only g grammar.for_parameter m)) = true
wants_type (wanted (grammar.only g grammar.for_member m)) = true
wants_type (wanted (grammar.only g grammar.for_external m)) = true
wants_type (asked (at g (grammar.specifiers stores seen sp))) = true
wants_type _ = false

-- a declarator with `...` stands before it
abbrev pub ends_with_dots : Wanted → Bool
ends_with_dots (wanted (grammar.only g grammar.for_body m)) = true
ends_with_dots _ = false

-- a name that is no type name could stand there
abbrev pub takes_name : Wanted → Bool
takes_name (wanted (grammar.only g grammar.for_name m)) = true
takes_name (asked (at g grammar.primary)) = true
takes_name (asked (at g grammar.enumerator)) = true
takes_name (asked (at g (grammar.direct grammar.concrete))) = true
takes_name (asked (at g (grammar.group grammar.concrete))) = true
takes_name _ = false

-- the token begins a declarator
abbrev pub begins_declarator : Sort → Bool
begins_declarator s = is_name s || is_mark tokens.star s || is_mark tokens.opening s

abbrev pub is_type_name : Sort → Bool
is_type_name (tokens.named_type n) = true
is_type_name _ = false

abbrev pub is_long : Sort → Bool
is_long (tokens.basic tokens.long) = true
is_long _ = false

-- a word of a list of specifiers
abbrev pub is_word : Sort → Bool
is_word tokens.storage = true
is_word tokens.qualifier = true
is_word (tokens.basic w) = true
is_word (tokens.mark tokens.typedef) = true
is_word _ = false

-- the last of these tokens is `(`; where there is none, as given
abbrev pub ends_with_opening : Bool → List Token → Bool
ends_with_opening b [] = b
ends_with_opening b (x ∷ xs) = ends_with_opening (is_mark tokens.opening (sort_of x.kind)) xs

-- among the words of specifiers at the end of these tokens is a `long`; where all of them are words, or as given
abbrev pub ends_with_long : Bool → List Token → Bool
ends_with_long b [] = b
ends_with_long b (x ∷ xs) = ends_with_long (is_word (sort_of x.kind) && (b || is_long (sort_of x.kind))) xs

-- by what was wanted alone
abbrev pub fault_there : Wanted → Sort → FaultKind
fault_there w s =
    if begins_parameter w && is_name s then OldStyleParameters
    else if wants_type w && begins_declarator s then ImplicitInt
    else if ends_with_dots w && is_mark tokens.brace s then VariadicDefinition
    else if (context_of w).members && is_mark tokens.colon s then BitField
    else if takes_name w && is_type_name s || (context_of w).inside && is_mark tokens.typedef s then TypedefAsOrdinaryName
    else UnexpectedToken

abbrev pub fault_of : Wanted → List Token → Token → FaultKind
fault_of w front x =
    if begins_parameter w && is_name (sort_there w x) then OldStyleParameters
    else if wants_type w && begins_declarator (sort_there w x) then ImplicitInt
    else if ends_with_dots w && is_mark tokens.brace (sort_there w x) then VariadicDefinition
    else if (context_of w).members && is_mark tokens.colon (sort_there w x) then BitField
    else if ends_with_opening false front && is_mark tokens.brace (sort_there w x) then GnuWord
    else if takes_name w && is_type_name (sort_there w x) || (context_of w).inside && is_mark tokens.typedef (sort_there w x) then TypedefAsOrdinaryName
    else if ends_with_long false front && is_long (sort_there w x) then LongLong
    else UnexpectedToken
