-- The kind of a fault at a token that begins a declarator is OldStyleParameters or ImplicitInt exactly where the notes on types tell so.
use Rattle.std.proofs.Common.{◌≡◌, ◌⊎◌, inl, inr, Bool, true, false, List, refl, sym, ap, ◌∙◌, subst}
use Rattle.std.specs.Prelude.{◌&&◌, ◌||◌, ◌↔◌, if◌then◌else◌}
use Rattle.sp_tree.specs.declared.fault.FaultKind.{FaultKind}
use Rattle.sp_tree.specs.declared.fault.FaultKind.TheVariants.{UnexpectedToken, OldStyleParameters, ImplicitInt, VariadicDefinition, BitField, GnuWord, TypedefAsOrdinaryName, LongLong}
use Rattle.sp_tree.specs.declared.token.Token.{Token}
use Rattle.sp_parse_grammar.specs.CTokens as tokens
use Rattle.sp_parse_grammar.specs.CTokens.{Sort, is_mark, is_name}
use Rattle.sp_parse_tokens.specs.Faults.{Wanted, context_of, sort_there, begins_parameter, wants_type, ends_with_dots, takes_name, begins_declarator, is_type_name, is_long, ends_with_opening, ends_with_long, fault_of}
use Rattle.sp_parse_fault_laws.proofs.TypeNotes.{Beginning, named, starred, opened, beginning}

-- the kinds behind those of missing types
abbrev other_kind : Wanted → List Token → Sort → FaultKind
other_kind w front s =
    if ends_with_dots w && is_mark tokens.brace s then VariadicDefinition
    else if (context_of w).members && is_mark tokens.colon s then BitField
    else if ends_with_opening false front && is_mark tokens.brace s then GnuWord
    else if takes_name w && is_type_name s || (context_of w).inside && is_mark tokens.typedef s then TypedefAsOrdinaryName
    else if ends_with_long false front && is_long s then LongLong
    else UnexpectedToken

passed : (b : Bool) (k other : FaultKind) → (if b && false then k else other) ≡ other
passed true k other = refl
passed false k other = refl

no_note : (takes inside : Bool) (k other : FaultKind) → (if takes && false || inside && false then k else other) ≡ other
no_note true true k other = refl
no_note true false k other = refl
no_note false true k other = refl
no_note false false k other = refl

no_other : (w : Wanted) (front : List Token) (j : Beginning) → other_kind w front (beginning j) ≡ UnexpectedToken
no_other w front (named n) = passed (ends_with_dots w) _ _ ∙ passed (context_of w).members _ _ ∙ passed (ends_with_opening false front) _ _ ∙ no_note (takes_name w) (context_of w).inside _ _ ∙ passed (ends_with_long false front) _ _
no_other w front starred = passed (ends_with_dots w) _ _ ∙ passed (context_of w).members _ _ ∙ passed (ends_with_opening false front) _ _ ∙ no_note (takes_name w) (context_of w).inside _ _ ∙ passed (ends_with_long false front) _ _
no_other w front opened = passed (ends_with_dots w) _ _ ∙ passed (context_of w).members _ _ ∙ passed (ends_with_opening false front) _ _ ∙ no_note (takes_name w) (context_of w).inside _ _ ∙ passed (ends_with_long false front) _ _

-- a kind of a missing type
abbrev pub IsMissing : FaultKind → Type 0
IsMissing k = (k ≡ OldStyleParameters) ⊎ (k ≡ ImplicitInt)

-- the kind, where the token is of this sort
abbrev kind_at : Wanted → List Token → Sort → FaultKind
kind_at w front s = if begins_parameter w && is_name s then OldStyleParameters else if wants_type w && begins_declarator s then ImplicitInt else other_kind w front s

by_kinds : (parameter name wants : Bool) (k : FaultKind) → k ≡ UnexpectedToken → IsMissing (if parameter && name then OldStyleParameters else if wants && true then ImplicitInt else k) ↔ (parameter && name || wants ≡ true)
by_kinds true true wants k e = (λ f. refl, λ f. inl refl)
by_kinds true false true k e = (λ f. refl, λ f. inr refl)
by_kinds true false false k e = (λ f. absurd (never f), λ f. absurd cc)
  where
    never : IsMissing k → ⊥
    never (inl f) = let apart : UnexpectedToken ≡ OldStyleParameters = sym e ∙ f in cc
    never (inr f) = let apart : UnexpectedToken ≡ ImplicitInt = sym e ∙ f in cc
by_kinds false name true k e = (λ f. refl, λ f. inr refl)
by_kinds false name false k e = (λ f. absurd (never f), λ f. absurd cc)
  where
    never : IsMissing k → ⊥
    never (inl f) = let apart : UnexpectedToken ≡ OldStyleParameters = sym e ∙ f in cc
    never (inr f) = let apart : UnexpectedToken ≡ ImplicitInt = sym e ∙ f in cc

at_beginning : (w : Wanted) (front : List Token) (j : Beginning) → IsMissing (kind_at w front (beginning j)) ↔ (begins_parameter w && is_name (beginning j) || wants_type w ≡ true)
at_beginning w front (named n) = by_kinds (begins_parameter w) true (wants_type w) (other_kind w front (tokens.name n)) (no_other w front (named n))
at_beginning w front starred = by_kinds (begins_parameter w) false (wants_type w) (other_kind w front (tokens.mark tokens.star)) (no_other w front starred)
at_beginning w front opened = by_kinds (begins_parameter w) false (wants_type w) (other_kind w front (tokens.mark tokens.opening)) (no_other w front opened)

-- At such a token the fault is one of a missing type exactly where the notes say so.
pub by_its_notes : (w : Wanted) (front : List Token) (bad : Token) (j : Beginning) → sort_there w bad ≡ beginning j → IsMissing (fault_of w front bad) ↔ (begins_parameter w && is_name (beginning j) || wants_type w ≡ true)
by_its_notes w front bad j e =
    let kind : fault_of w front bad ≡ kind_at w front (beginning j) = ap (kind_at w front) e in
    let note = at_beginning w front j in
    (λ f. note.0 (subst (λ k. IsMissing k) kind f), λ f. subst (λ k. IsMissing k) (sym kind) (note.1 f))
