-- The kind of a fault at a type name is by its note alone: no other kind is one of type names.
use Rattle.std.proofs.Common.{◌≡◌, ℕ, Bool, true, false, List, refl, sym, ap, ◌∙◌}
use Rattle.std.specs.Prelude.{◌&&◌, ◌||◌, ◌↔◌, if◌then◌else◌}
use Rattle.sp_tree.specs.declared.fault.FaultKind.{FaultKind}
use Rattle.sp_tree.specs.declared.fault.FaultKind.TheVariants.{UnexpectedToken, OldStyleParameters, ImplicitInt, VariadicDefinition, BitField, GnuWord, TypedefAsOrdinaryName, LongLong}
use Rattle.sp_tree.specs.declared.token.Token.{Token}
use Rattle.sp_parse_grammar.specs.CTokens as tokens
use Rattle.sp_parse_grammar.specs.CTokens.{Sort, is_mark, is_name}
use Rattle.sp_parse_tokens.specs.Faults.{Wanted, context_of, sort_there, begins_parameter, wants_type, ends_with_dots, takes_name, begins_declarator, is_type_name, is_long, ends_with_opening, ends_with_long, fault_of}

-- the kind, where the token is of this sort
abbrev kind_at : Wanted → List Token → Sort → FaultKind
kind_at w front s =
    if begins_parameter w && is_name s then OldStyleParameters
    else if wants_type w && begins_declarator s then ImplicitInt
    else if ends_with_dots w && is_mark tokens.brace s then VariadicDefinition
    else if (context_of w).members && is_mark tokens.colon s then BitField
    else if ends_with_opening false front && is_mark tokens.brace s then GnuWord
    else if takes_name w && is_type_name s || (context_of w).inside && is_mark tokens.typedef s then TypedefAsOrdinaryName
    else if ends_with_long false front && is_long s then LongLong
    else UnexpectedToken

passed : (b : Bool) (k other : FaultKind) → (if b && false then k else other) ≡ other
passed true k other = refl
passed false k other = refl

by_note : (takes inside long : Bool) → (if takes && true || inside && false then TypedefAsOrdinaryName else if long && false then LongLong else UnexpectedToken) ≡ (if takes then TypedefAsOrdinaryName else UnexpectedToken)
by_note true inside long = refl
by_note false true true = refl
by_note false true false = refl
by_note false false true = refl
by_note false false false = refl

of_type : (w : Wanted) (front : List Token) (n : ℕ) → kind_at w front (tokens.named_type n) ≡ (if takes_name w then TypedefAsOrdinaryName else UnexpectedToken)
of_type w front n = passed (begins_parameter w) _ _ ∙ passed (wants_type w) _ _ ∙ passed (ends_with_dots w) _ _ ∙ passed (context_of w).members _ _ ∙ passed (ends_with_opening false front) _ _ ∙ by_note (takes_name w) (context_of w).inside (ends_with_long false front)

is_u9 : (b : Bool) → (if b then TypedefAsOrdinaryName else UnexpectedToken) ≡ TypedefAsOrdinaryName → b ≡ true
is_u9 true e = refl
is_u9 false e = absurd cc

-- At a type name the fault is TypedefAsOrdinaryName exactly where the note says so.
pub by_its_note : (w : Wanted) (front : List Token) (bad : Token) (n : ℕ) → sort_there w bad ≡ tokens.named_type n → (fault_of w front bad ≡ TypedefAsOrdinaryName) ↔ (takes_name w ≡ true)
by_its_note w front bad n e =
    let kind : fault_of w front bad ≡ (if takes_name w then TypedefAsOrdinaryName else UnexpectedToken) = ap (kind_at w front) e ∙ of_type w front n in
    (λ f. is_u9 (takes_name w) (sym kind ∙ f), λ f. kind ∙ ap (λ b. if b then TypedefAsOrdinaryName else UnexpectedToken) f)
