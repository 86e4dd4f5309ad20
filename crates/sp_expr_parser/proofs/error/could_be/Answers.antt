use Rattle.std.proofs.Common.{◌≡◌, [], ◌∷◌, ◌++◌, refl, sym, ◌∙◌, subst, arith}
use Rattle.sp_tree.specs.declared.token.Kind.TheVariants.{End}
use Rattle.sp_tree.specs.declared.token.Token.{Token}
use Rattle.sp_parse_tokens.specs.Ended.{IsEnded}
use Rattle.sp_parse_grammar.specs.CTable as grammar
use Rattle.sp_parse_expr_steps.specs.Reading.{IsStop}
use Rattle.sp_expr_parser.specs.Parsing.{item_of}
use Rattle.sp_expr_parser.proofs.Errors.{ended_with, could_ok, could_later, could_not, could_deep, passed_before}
use Rattle.sp_expr_parser.proofs.KindLaws.{clash}
use Rattle.sp_expr_parser.proofs.error.could_be.Goals as goal

pub end_of-requires : goal.end_of-requires
end_of-requires c =
    let x = c.args.another in
    let e : Token = record { kind = End; place = x.place } in
    let is : c.as_slice-tokens.result.now ≡ c.args.front.now ++ x ∷ e ∷ [] = c.as_slice-tokens.ensures.value ∙ c.in_ok-tokens.ensures in
    subst IsEnded (sym is) (ended_with c.args.front.now x e c.requires.unended c.requires.other refl)

pub returns-in-Ok : goal.returns-in-Ok
returns-in-Ok c =
    let x = c.args.another in
    let e : Token = record { kind = End; place = x.place } in
    let is : c.as_slice-tokens.result.now ≡ c.args.front.now ++ x ∷ e ∷ [] = c.as_slice-tokens.ensures.value ∙ c.in_ok-tokens.ensures in
    let p = could_ok c.args.call c.args.types.now c.args.front.now x e c.as_slice-tokens.result.now is c.requires.front c.in-Ok.field-0.now c.in-Ok.ensures in
    (λ _. p, λ _. refl)

pub returns-then-rest-lt2 : goal.returns-then-rest-lt2
returns-then-rest-lt2 c =
    let x = c.args.another in
    let e : Token = record { kind = End; place = x.place } in
    let is : c.as_slice-tokens.result.now ≡ c.args.front.now ++ x ∷ e ∷ [] = c.as_slice-tokens.ensures.value ∙ c.in_ok-tokens.ensures in
    let h = subst (λ s. IsStop (grammar.outside c.args.types.now) (item_of c.args.call) c.args.depth c.as_slice-tokens.result.now s) c.in-Err-Fault.field-0-is c.in-Err-Fault.ensures in
    let p = could_later c.args.call c.args.types.now c.args.front.now x e c.as_slice-tokens.result.now is c.requires.front c.in-Err-Fault.rest.now h.0 h.1 h.3 c.if-rest-lt2.true in
    (λ _. p, λ _. refl)

pub returns-in-Err-Fault : goal.returns-in-Err-Fault
returns-in-Err-Fault c =
    let x = c.args.another in
    let e : Token = record { kind = End; place = x.place } in
    let is : c.as_slice-tokens.result.now ≡ c.args.front.now ++ x ∷ e ∷ [] = c.as_slice-tokens.ensures.value ∙ c.in_ok-tokens.ensures in
    let h = subst (λ s. IsStop (grammar.outside c.args.types.now) (item_of c.args.call) c.args.depth c.as_slice-tokens.result.now s) c.in-Err-Fault.field-0-is c.in-Err-Fault.ensures in
    let n = could_not c.args.call c.args.types.now c.args.front.now x e c.as_slice-tokens.result.now is c.requires.front c.in-Err-Fault.rest.now h.0 h.1 h.3 (omega (arith, c.if-rest-lt2.false)) in
    (λ t. absurd (clash _ refl t), λ b. absurd (n b))

pub returns-then-rest-le2 : goal.returns-then-rest-le2
returns-then-rest-le2 c =
    let x = c.args.another in
    let e : Token = record { kind = End; place = x.place } in
    let is : c.as_slice-tokens.result.now ≡ c.args.front.now ++ x ∷ e ∷ [] = c.as_slice-tokens.ensures.value ∙ c.in_ok-tokens.ensures in
    let h = subst (λ s. IsStop (grammar.outside c.args.types.now) (item_of c.args.call) c.args.depth c.as_slice-tokens.result.now s) c.in-Err-TooDeep.field-0-is c.in-Err-TooDeep.ensures in
    let p = could_deep c.args.call c.args.types.now c.args.front.now x e c.as_slice-tokens.result.now is c.requires.front c.args.depth c.in-Err-TooDeep.rest.now h.0 h.1 c.if-rest-le2.true in
    (λ _. p, λ _. refl)

pub returns-in-Err-TooDeep : goal.returns-in-Err-TooDeep
returns-in-Err-TooDeep c =
    let x = c.args.another in
    let e : Token = record { kind = End; place = x.place } in
    let is : c.as_slice-tokens.result.now ≡ c.args.front.now ++ x ∷ e ∷ [] = c.as_slice-tokens.ensures.value ∙ c.in_ok-tokens.ensures in
    let h = subst (λ s. IsStop (grammar.outside c.args.types.now) (item_of c.args.call) c.args.depth c.as_slice-tokens.result.now s) c.in-Err-TooDeep.field-0-is c.in-Err-TooDeep.ensures in
    passed_before c.args.call c.args.types.now c.args.front.now x e c.as_slice-tokens.result.now is c.requires.front c.args.depth c.in-Err-TooDeep.rest.now h.0 c.next_token.result.0 c.next_token.result.1.now c.next_token.ensures (omega (arith, c.if-rest-le2.false))
