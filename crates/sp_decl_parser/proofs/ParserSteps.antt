-- What the reader of units reads, said by levelled units.
use Rattle.std.proofs.Common.{◌≡◌, ℕ, ◌+◌, ◌≤◌, List, [], ◌∷◌, ◌++◌, length, take, drop, inl, inr, refl, sym, ap, ◌∙◌, subst, arith, length-append}
use Rattle.sp_tree.specs.declared.fault.FaultKind.{FaultKind}
use Rattle.sp_tree.specs.declared.fault.FaultKind.TheVariants.{NestingTooDeep}
use Rattle.sp_tree.specs.declared.token.Token.{Token}
use Rattle.sp_parse_trees.specs.Syntax.{External}
use Rattle.sp_parse_grammar.specs.CTable.{unit, whole}
use Rattle.sp_parse_grammar.specs.Table.{ask, Reads, Fails}
use Rattle.sp_parse_grammar.specs.Depth.{Nests}
use Rattle.sp_parse_tokens.specs.Sorts.{c_tokens}
use Rattle.sp_parse_tokens.specs.SyntaxTrees.{c_table}
use Rattle.sp_parse_tokens.specs.Depths.{c_depths}
use Rattle.sp_parse_tokens.specs.Faults.{Wanted, fault_there, sort_there, fault_of}
use Rattle.sp_parse_tokens.specs.Makers.{first_place}
use Rattle.sp_parse_expr_steps.specs.Reading.{kind_at}
use Rattle.sp_parse_laws.specs.UnitAnswers.{UnitsAreParsed, IsUnit, IsUnitFault, IsUnitNested}
use Rattle.sp_expr_parser.proofs.ParserSteps.{Front, read_front, fault_front_of, nests_front, drop_front, front_taken}
use Rattle.sp_decl_parser.specs.Units.{IsUnitRead}
use Rattle.sp_decl_parser.specs.Parsing.{IsUnitRefused}

module _ (laws : UnitsAreParsed) where
  unit_from : (d n : ℕ) (text : List Token) (es : List External) (h : IsUnitRead d text es n) → Front text (h.last ∷ []) → IsUnit d text es
  unit_from d n text es h f =
      let here : Reads c_table (unit []) (ask (unit [])) (c_tokens (f.front ++ h.last ∷ [])) es (c_tokens (h.last ∷ [])) = subst (λ v. Reads c_table (unit []) (ask (unit [])) (c_tokens v) es (c_tokens (h.last ∷ []))) f.whole h.reads in
      subst (λ v. IsUnit d v es) (sym f.whole) (laws.read d f.front h.last es h.end here (omega (arith, h.deep, h.shallow)))

  pub unit_is : (d n : ℕ) (text : List Token) (es : List External) → IsUnitRead d text es n → IsUnit d text es
  unit_is d n text es h = unit_from d n text es h (read_front (unit []) text (h.last ∷ []) es h.reads)

  -- ---- the failing token

  module _ (text rest more : List Token) (bad : Token) (e : rest ≡ bad ∷ more) where
    here_whole : (f : Front text rest) → text ≡ f.front ++ bad ∷ more
    here_whole f = f.whole ∙ ap (λ v. f.front ++ v) e

    place_there : (f : Front text rest) → bad.place ≡ first_place (drop (length f.front) text)
    place_there f = sym (ap (λ v. first_place v) (ap (λ v. drop (length f.front) v) (here_whole f) ∙ drop_front f.front (bad ∷ more)))

    fault_from : (d : ℕ) (kind found : FaultKind) (before : List Token) (w : Wanted) → Fails c_table whole (ask whole) (c_tokens text) w (c_tokens rest) → kind ≡ kind_at w rest → ((n : ℕ) → n + length rest ≡ length text → before ≡ take n text) → ((v : Wanted) → kind ≡ fault_there v (sort_there v bad) → found ≡ fault_of v before bad) → Front text rest → IsUnitRefused d text (record { kind = found; place = bad.place })
    fault_from d kind found before w fails told counted refines f =
        let all = here_whole f in
        let size : length text ≡ length f.front + length rest = ap length f.whole ∙ length-append f.front rest in
        let front : before ≡ f.front = counted (length f.front) (sym size) ∙ front_taken text f.front rest (length f.front) f.whole (sym size) in
        let kind_is : found ≡ fault_of w f.front bad = refines w (told ∙ ap (λ v. kind_at w v) e) ∙ ap (λ v. fault_of w v bad) front in
        let at_bad : Fails c_table whole (ask whole) (c_tokens (f.front ++ bad ∷ more)) w (c_tokens (bad ∷ more)) = subst (λ v. Fails c_table whole (ask whole) (c_tokens v) w (c_tokens (bad ∷ more))) all (subst (λ v. Fails c_table whole (ask whole) (c_tokens text) w (c_tokens v)) e fails) in
        let is = laws.fault f.front bad more w at_bad in
        record {
          count = length f.front;
          place = place_there f;
          why = inl (subst (λ v. IsUnitFault v found (length f.front)) (sym all) (subst (λ v. IsUnitFault (f.front ++ bad ∷ more) v (length f.front)) (sym kind_is) is));
        }

    pub fault_is : (d : ℕ) (kind found : FaultKind) (before : List Token) (w : Wanted) → Fails c_table whole (ask whole) (c_tokens text) w (c_tokens rest) → kind ≡ kind_at w rest → ((n : ℕ) → n + length rest ≡ length text → before ≡ take n text) → ((v : Wanted) → kind ≡ fault_there v (sort_there v bad) → found ≡ fault_of v before bad) → IsUnitRefused d text (record { kind = found; place = bad.place })
    fault_is d kind found before w fails told counted refines = fault_from d kind found before w fails told counted refines (fault_front_of whole text rest w fails)

    nested_from : (d : ℕ) → Nests c_table c_depths whole d (c_tokens text) (c_tokens rest) → Front text rest → IsUnitRefused d text (record { kind = NestingTooDeep; place = bad.place })
    nested_from d h f =
        let all = here_whole f in
        let at_bad : Nests c_table c_depths whole d (c_tokens (f.front ++ bad ∷ more)) (c_tokens (bad ∷ more)) = subst (λ v. Nests c_table c_depths whole d (c_tokens v) (c_tokens (bad ∷ more))) all (subst (λ v. Nests c_table c_depths whole d (c_tokens text) (c_tokens v)) e h) in
        record {
          count = length f.front;
          place = place_there f;
          why = inr (refl, subst (λ v. IsUnitNested d v (length f.front)) (sym all) (laws.nested d f.front bad more at_bad));
        }

    pub nested_is : (d : ℕ) → Nests c_table c_depths whole d (c_tokens text) (c_tokens rest) → IsUnitRefused d text (record { kind = NestingTooDeep; place = bad.place })
    nested_is d h = nested_from d h (nests_front whole d text rest h)

-- the tokens from the failing one on are no more than all
pub front_fewer : (text rest : List Token) → Front text rest → length rest ≤ length text
front_fewer text rest f = omega (arith, ap length f.whole, length-append f.front rest)

pub fault_fewer : (text rest : List Token) (w : Wanted) → Fails c_table whole (ask whole) (c_tokens text) w (c_tokens rest) → length rest ≤ length text
fault_fewer text rest w h = front_fewer text rest (fault_front_of whole text rest w h)
