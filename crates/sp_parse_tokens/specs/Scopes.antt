-- Where a part is read, and the kind of a fault by what might stand at a failing token besides what
-- was wanted there.
use Rattle.std.specs.Prelude.{ℕ, Bool, true, false, ◌&&◌, ◌||◌, List, if◌then◌else◌}
use Rattle.sp_tree.specs.declared.fault.FaultKind.{FaultKind}
use Rattle.sp_tree.specs.declared.fault.FaultKind.TheVariants.{UnexpectedToken, OldStyleParameters, ImplicitInt, VariadicDefinition, BitField, TypedefAsOrdinaryName}
use Rattle.sp_parse_tokens.specs.declared.scope.Scope.{Scope}
use Rattle.sp_parse_tokens.specs.declared.scope.Context.{Context as CodeContext}
use Rattle.sp_parse_tokens.specs.declared.scope.AlsoAllowed.{AlsoAllowed}
use Rattle.sp_parse_tokens.specs.declared.scope.AlsoAllowed.TheVariants as also
use Rattle.sp_parse_grammar.specs.CTokens as tokens
use Rattle.sp_parse_grammar.specs.CTokens.{Sort, is_mark, is_name}
use Rattle.sp_parse_grammar.specs.CTable as grammar
use Rattle.sp_parse_grammar.specs.CTable.{Context}
use Rattle.sp_parse_tokens.specs.Faults.{begins_declarator, is_type_name}

-- where these are the type names
abbrev pub there : List ℕ → Scope → Context
there types scope = record { types = types; inside = scope.in_function; members = scope.in_struct }

abbrev pub context_of : CodeContext → Context
context_of c = there c.types.now c.scope

abbrev pub allowed_seen : AlsoAllowed → grammar.AlsoAllowed
allowed_seen also.Nothing = grammar.plainly
allowed_seen also.Name = grammar.for_name
allowed_seen also.Parameter = grammar.for_parameter
allowed_seen also.TypeSpecifier = grammar.for_member
allowed_seen also.Body = grammar.for_body

abbrev pub for_parameter : AlsoAllowed → Bool
for_parameter also.Parameter = true
for_parameter _ = false

abbrev pub for_type : AlsoAllowed → Bool
for_type also.Parameter = true
for_type also.TypeSpecifier = true
for_type _ = false

abbrev pub for_body : AlsoAllowed → Bool
for_body also.Body = true
for_body _ = false

abbrev pub for_name : AlsoAllowed → Bool
for_name also.Name = true
for_name _ = false

-- the kind of the fault at a token of this sort
abbrev pub kind_for : Scope → AlsoAllowed → Sort → FaultKind
kind_for scope p s =
    if for_parameter p && is_name s then OldStyleParameters
    else if for_type p && begins_declarator s then ImplicitInt
    else if for_body p && is_mark tokens.brace s then VariadicDefinition
    else if scope.in_struct && is_mark tokens.colon s then BitField
    else if for_name p && is_type_name s || scope.in_function && is_mark tokens.typedef s then TypedefAsOrdinaryName
    else UnexpectedToken
