-- The fault at a failing token, from what the want alone tells and the tokens before it.
use Rattle.std.specs.Prelude.{Bool, true, false, ◌&&◌, List, if◌then◌else◌}
use Rattle.sp_tree.specs.declared.fault.FaultKind.{FaultKind}
use Rattle.sp_tree.specs.declared.fault.FaultKind.TheVariants.{UnexpectedToken, OldStyleParameters, ImplicitInt, VariadicDefinition, BitField, GnuWord, TypedefAsOrdinaryName, LongLong}
use Rattle.sp_tree.specs.declared.token.Token.{Token}
use Rattle.sp_parse_grammar.specs.CTokens as tokens
use Rattle.sp_parse_grammar.specs.CTokens.{is_mark}
use Rattle.sp_parse_tokens.specs.Sorts.{sort_of}
use Rattle.sp_parse_tokens.specs.Faults.{is_long, ends_with_opening, ends_with_long}

-- it stands before the faults that the tokens before tell
abbrev pub is_earlier : FaultKind → Bool
is_earlier OldStyleParameters = true
is_earlier ImplicitInt = true
is_earlier VariadicDefinition = true
is_earlier BitField = true
is_earlier _ = false

abbrev pub is_nine : FaultKind → Bool
is_nine TypedefAsOrdinaryName = true
is_nine _ = false

-- whether it is a block behind `(`, and whether it is a second `long`
abbrev pub choose : FaultKind → Bool → Bool → FaultKind
choose there block second =
    if is_earlier there then there
    else if block then GnuWord
    else if is_nine there then TypedefAsOrdinaryName
    else if second then LongLong
    else UnexpectedToken

abbrev pub refine : FaultKind → List Token → Token → FaultKind
refine there front x = choose there (ends_with_opening false front && is_mark tokens.brace (sort_of x.kind)) (ends_with_long false front && is_long (sort_of x.kind))
