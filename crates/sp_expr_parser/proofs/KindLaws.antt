-- The kind of a fault: the first condition that holds.
use Rattle.std.proofs.Common.{◌≡◌, ◌≢◌, ℕ, Bool, true, false, ◌&&◌, ◌||◌, ◌⊎◌, inl, inr, List, ◌++◌, refl, sym, ap, ◌∙◌, subst}
use Rattle.std.specs.Prelude.{◌↔◌, IsTrue, if◌then◌else◌}
use Rattle.sp_tree.specs.declared.fault.FaultKind.{FaultKind}
use Rattle.sp_tree.specs.declared.fault.FaultKind.TheVariants.{UnexpectedToken, OldStyleParameters, ImplicitInt, VariadicDefinition, BitField, TypedefAsOrdinaryName}
use Rattle.sp_tree.specs.declared.token.Token.{Token}
use Rattle.sp_parse_grammar.specs.CTokens as tokens
use Rattle.sp_parse_grammar.specs.CTokens.{Sort, is_mark, is_name, view}
use Rattle.sp_parse_tokens.specs.Sorts.{sort_of}
use Rattle.sp_parse_tokens.specs.Faults.{context_of, fault_there, sort_there, begins_parameter, wants_type, ends_with_dots, takes_name, begins_declarator, is_type_name, is_long, ends_with_opening, ends_with_long}
use Rattle.sp_parse_tokens.specs.Refined.{choose, refine}
use Rattle.sp_parse_tokens.proofs.Viewing.{mark_viewed}
use Rattle.sp_parse_laws.specs.Answers.{Language}
use Rattle.sp_expr_parser.specs.Parsing.{Failing, sort_wanted, IsOldParameter, IsImplicitInt, IsVariadicBody, IsBitField, IsTypeForName, IsKind}
use Rattle.sp_expr_parser.specs.Calling.{IsTold, is_wanted, choose as first_of}

pub clash : (b : Bool) → b ≡ false → b ≡ true → ⊥
clash b e f = cc

and_right : (a b : Bool) → (a && b) ≡ true → b ≡ true
and_right true b e = e
and_right false b e = absurd cc

-- a brace and a colon begin no declarator
brace_plain : (s : Sort) → is_mark tokens.brace s ≡ true → begins_declarator s ≡ true → ⊥
brace_plain (tokens.mark tokens.brace) e b = cc
brace_plain _ e b = cc

colon_plain : (s : Sort) → is_mark tokens.colon s ≡ true → begins_declarator s ≡ true → ⊥
colon_plain (tokens.mark tokens.colon) e b = cc
colon_plain _ e b = cc

-- whichever names are type names there and here
brace_viewed : (there here : List ℕ) (s : Sort) → is_mark tokens.brace (view there s) ≡ true → begins_declarator (view here s) ≡ true → ⊥
brace_viewed there here s e b = brace_plain (view here s) (mark_viewed here tokens.brace s ∙ sym (mark_viewed there tokens.brace s) ∙ e) b

colon_viewed : (there here : List ℕ) (s : Sort) → is_mark tokens.colon (view there s) ≡ true → begins_declarator (view here s) ≡ true → ⊥
colon_viewed there here s e b = colon_plain (view here s) (mark_viewed here tokens.colon s ∙ sym (mark_viewed there tokens.colon s) ∙ e) b

-- ---- what the kind tells that the grammar's want alone gives

abbrev there_by : Bool → Bool → Bool → Bool → Bool → FaultKind
there_by b4 b5 b6 b7 b9 = if b4 then OldStyleParameters else if b5 then ImplicitInt else if b6 then VariadicDefinition else if b7 then BitField else if b9 then TypedefAsOrdinaryName else UnexpectedToken

four : (b4 b5 b6 b7 b9 : Bool) → OldStyleParameters ≡ there_by b4 b5 b6 b7 b9 → b4 ≡ true
four true b5 b6 b7 b9 e = refl
four false true b6 b7 b9 e = absurd cc
four false false true b7 b9 e = absurd cc
four false false false true b9 e = absurd cc
four false false false false true e = absurd cc
four false false false false false e = absurd cc

six : (b4 b5 b6 b7 b9 : Bool) → VariadicDefinition ≡ there_by b4 b5 b6 b7 b9 → (b4 ≡ false) × (b6 ≡ true)
six true b5 b6 b7 b9 e = absurd cc
six false true b6 b7 b9 e = absurd cc
six false false true b7 b9 e = (refl, refl)
six false false false true b9 e = absurd cc
six false false false false true e = absurd cc
six false false false false false e = absurd cc

seven : (b4 b5 b6 b7 b9 : Bool) → BitField ≡ there_by b4 b5 b6 b7 b9 → (b4 ≡ false) × (b6 ≡ false) × (b7 ≡ true)
seven true b5 b6 b7 b9 e = absurd cc
seven false true b6 b7 b9 e = absurd cc
seven false false true b7 b9 e = absurd cc
seven false false false true b9 e = (refl, refl, refl)
seven false false false false true e = absurd cc
seven false false false false false e = absurd cc

other : (kind : FaultKind) (b4 b5 b6 b7 b9 : Bool) → kind ≡ there_by b4 b5 b6 b7 b9 → kind ≢ OldStyleParameters → kind ≢ VariadicDefinition → kind ≢ BitField → (b4 ≡ false) × ((b5 ≡ true) ⊎ ((b6 ≡ false) × (b7 ≡ false)))
other kind true b5 b6 b7 b9 e n4 n6 n7 = absurd (n4 e)
other kind false true b6 b7 b9 e n4 n6 n7 = (refl, inl refl)
other kind false false true b7 b9 e n4 n6 n7 = absurd (n6 e)
other kind false false false true b9 e n4 n6 n7 = absurd (n7 e)
other kind false false false false b9 e n4 n6 n7 = (refl, inr (refl, refl))

module _ (L : Language) (types : List ℕ) (f : Failing) where
  abbrev b4 : Bool
  b4 = begins_parameter f.want && is_name (sort_wanted f)

  abbrev b5 : Bool
  b5 = wants_type f.want && begins_declarator (sort_wanted f)

  abbrev b6 : Bool
  b6 = ends_with_dots f.want && is_mark tokens.brace (sort_wanted f)

  abbrev b7 : Bool
  b7 = (context_of f.want).members && is_mark tokens.colon (sort_wanted f)

  abbrev b9 : Bool
  b9 = takes_name f.want && is_type_name (sort_wanted f) || (context_of f.want).inside && is_mark tokens.typedef (sort_wanted f)

  pub kind_four : OldStyleParameters ≡ fault_there f.want (sort_there f.want f.bad) → IsKind L types f OldStyleParameters
  kind_four e = four b4 b5 b6 b7 b9 e

  pub kind_six : VariadicDefinition ≡ fault_there f.want (sort_there f.want f.bad) → IsKind L types f VariadicDefinition
  kind_six e =
      let h = six b4 b5 b6 b7 b9 e in
      (λ four. clash b4 h.0 four, λ five. brace_viewed (context_of f.want).types types (sort_of f.bad.kind) (and_right (ends_with_dots f.want) (is_mark tokens.brace (sort_wanted f)) h.1) five.0, h.1)

  pub kind_seven : BitField ≡ fault_there f.want (sort_there f.want f.bad) → IsKind L types f BitField
  kind_seven e =
      let h = seven b4 b5 b6 b7 b9 e in
      (λ four. clash b4 h.0 four, λ five. colon_viewed (context_of f.want).types types (sort_of f.bad.kind) (and_right (context_of f.want).members (is_mark tokens.colon (sort_wanted f)) h.2) five.0, λ six. clash b6 h.1 six, h.2)

  no_six : (b5 ≡ true) ⊎ ((b6 ≡ false) × (b7 ≡ false)) → ¬ IsVariadicBody f
  no_six (inl h) = λ six. brace_plain (sort_wanted f) (and_right (ends_with_dots f.want) (is_mark tokens.brace (sort_wanted f)) six) (and_right (wants_type f.want) (begins_declarator (sort_wanted f)) h)
  no_six (inr h) = λ six. clash b6 h.0 six

  no_seven : (b5 ≡ true) ⊎ ((b6 ≡ false) × (b7 ≡ false)) → ¬ IsBitField f
  no_seven (inl h) = λ seven. colon_plain (sort_wanted f) (and_right (context_of f.want).members (is_mark tokens.colon (sort_wanted f)) seven) (and_right (wants_type f.want) (begins_declarator (sort_wanted f)) h)
  no_seven (inr h) = λ seven. clash b7 h.1 seven

  by : (¬ IsOldParameter f) → (¬ IsVariadicBody f) → (¬ IsBitField f) → (implicit ordinary block second : Bool) → (IsTrue implicit ↔ IsImplicitInt L types f.front f.bad) → (IsTrue ordinary ↔ IsTypeForName L types f.front f.bad)
      → (ends_with_opening false (f.before ++ f.front) && is_mark tokens.brace (sort_of f.bad.kind)) ≡ block → (ends_with_long false (f.before ++ f.front) && is_long (sort_of f.bad.kind)) ≡ second
      → IsKind L types f (first_of implicit ordinary (choose UnexpectedToken block second))
  by n4 n6 n7 true o b s i e eb es = (n4, i.0 refl)
  by n4 n6 n7 false o true s i e eb es = (n4, λ h. clash false refl (i.1 h), n6, n7, eb)
  by n4 n6 n7 false true false true i e eb es = (n4, λ h. clash false refl (i.1 h), n6, n7, λ h. clash _ eb h, e.0 refl)
  by n4 n6 n7 false true false false i e eb es = (n4, λ h. clash false refl (i.1 h), n6, n7, λ h. clash _ eb h, e.0 refl)
  by n4 n6 n7 false false false true i e eb es = (n4, λ h. clash false refl (i.1 h), n6, n7, λ h. clash _ eb h, λ h. clash false refl (e.1 h), es)
  by n4 n6 n7 false false false false i e eb es = (n4, λ h. clash false refl (i.1 h), n6, n7, λ h. clash _ eb h, λ h. clash false refl (e.1 h), λ h. clash _ es h)

  -- the kind that was told by the trees and the tokens before
  pub kind_told : (there kind : FaultKind) (all : List Token) → all ≡ f.before ++ f.front → there ≡ fault_there f.want (sort_there f.want f.bad) → there ≢ OldStyleParameters → there ≢ VariadicDefinition → there ≢ BitField → IsTold L types all f.front f.bad kind → IsKind L types f kind
  kind_told there kind all whole e n4 n6 n7 told =
      let h = other there b4 b5 b6 b7 b9 e n4 n6 n7 in
      let same : kind ≡ first_of told.implicit told.ordinary (refine UnexpectedToken (f.before ++ f.front) f.bad) = told.same ∙ ap (λ v. first_of told.implicit told.ordinary (refine UnexpectedToken v f.bad)) whole in
      subst (λ k. IsKind L types f k) (sym same) (by (λ four. clash b4 h.0 four) (no_six h.1) (no_seven h.1) told.implicit told.ordinary _ _ told.implicit_is told.ordinary_is refl refl)

  -- the kind that the grammar's want alone gives
  pub kind_wanted : (kind : FaultKind) → is_wanted kind ≡ true → kind ≡ fault_there f.want (sort_there f.want f.bad) → IsKind L types f kind
  kind_wanted OldStyleParameters t e = kind_four e
  kind_wanted VariadicDefinition t e = kind_six e
  kind_wanted BitField t e = kind_seven e
  kind_wanted _ t e = absurd cc

pub not_wanted : (kind k : FaultKind) → is_wanted kind ≡ false → is_wanted k ≡ true → kind ≢ k
not_wanted kind k n t e = clash (is_wanted k) (ap is_wanted (sym e) ∙ n) t
