-- The fault at a failing token is that of what was wanted there, refined by the tokens before it.
use Rattle.std.proofs.Common.{◌≡◌, ℕ, Bool, true, false, List, refl, sym, ap₂, ◌∙◌}
use Rattle.std.specs.Prelude.{◌&&◌, if◌then◌else◌}
use Rattle.sp_tree.specs.declared.fault.FaultKind.{FaultKind}
use Rattle.sp_tree.specs.declared.fault.FaultKind.TheVariants.{UnexpectedToken, OldStyleParameters, ImplicitInt, VariadicDefinition, BitField, GnuWord, TypedefAsOrdinaryName, LongLong}
use Rattle.sp_tree.specs.declared.token.Token.{Token}
use Rattle.sp_parse_grammar.specs.CTokens as tokens
use Rattle.sp_parse_grammar.specs.CTokens.{Sort, view, is_mark}
use Rattle.sp_parse_tokens.specs.Sorts.{sort_of}
use Rattle.sp_parse_tokens.specs.Faults.{Wanted, is_long, ends_with_opening, ends_with_long, fault_there, sort_there, fault_of}
use Rattle.sp_parse_tokens.specs.Refined.{choose, refine}

abbrev there_by : Bool → Bool → Bool → Bool → Bool → FaultKind
there_by b4 b5 b6 b7 b9 = if b4 then OldStyleParameters else if b5 then ImplicitInt else if b6 then VariadicDefinition else if b7 then BitField else if b9 then TypedefAsOrdinaryName else UnexpectedToken

abbrev all_by : Bool → Bool → Bool → Bool → Bool → Bool → Bool → FaultKind
all_by b4 b5 b6 b7 b8 b9 b10 = if b4 then OldStyleParameters else if b5 then ImplicitInt else if b6 then VariadicDefinition else if b7 then BitField else if b8 then GnuWord else if b9 then TypedefAsOrdinaryName else if b10 then LongLong else UnexpectedToken

by_tests : (b4 b5 b6 b7 b8 b9 b10 : Bool) → choose (there_by b4 b5 b6 b7 b9) b8 b10 ≡ all_by b4 b5 b6 b7 b8 b9 b10
by_tests true b5 b6 b7 b8 b9 b10 = refl
by_tests false true b6 b7 b8 b9 b10 = refl
by_tests false false true b7 b8 b9 b10 = refl
by_tests false false false true b8 b9 b10 = refl
by_tests false false false false true true b10 = refl
by_tests false false false false true false b10 = refl
by_tests false false false false false true b10 = refl
by_tests false false false false false false true = refl
by_tests false false false false false false false = refl

-- names of types change no mark and no word
name_viewed : (P : Sort → Bool) (n : ℕ) (b : Bool) → P (tokens.name n) ≡ false → P (tokens.named_type n) ≡ false → P (if b then tokens.named_type n else tokens.name n) ≡ false
name_viewed P n true e f = f
name_viewed P n false e f = e

brace_viewed : (types : List ℕ) (s : Sort) → is_mark tokens.brace (view types s) ≡ is_mark tokens.brace s
brace_viewed types (tokens.name n) = name_viewed (is_mark tokens.brace) n _ refl refl
brace_viewed types _ = refl

long_viewed : (types : List ℕ) (s : Sort) → is_long (view types s) ≡ is_long s
long_viewed types (tokens.name n) = name_viewed is_long n _ refl refl
long_viewed types _ = refl

-- The refined fault is that at the failing token.
pub refined_is : (w : Wanted) (front : List Token) (x : Token) → refine (fault_there w (sort_there w x)) front x ≡ fault_of w front x
refined_is w front x =
    ap₂ (λ a b. choose (fault_there w (sort_there w x)) (ends_with_opening false front && a) (ends_with_long false front && b)) (sym (brace_viewed _ (sort_of x.kind))) (sym (long_viewed _ (sort_of x.kind)))
    ∙ by_tests _ _ _ _ (ends_with_opening false front && is_mark tokens.brace (sort_there w x)) _ (ends_with_long false front && is_long (sort_there w x))
