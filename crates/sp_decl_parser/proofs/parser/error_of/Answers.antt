use Rattle.std.proofs.Common.{◌≡◌, ◌-◌, length, take, ap, ◌∙◌, subst, arith}
use Rattle.sp_decl_parser.specs.Units.{IsUnitStop}
use Rattle.sp_decl_parser.proofs.ParserSteps as steps
use Rattle.sp_decl_parser.proofs.parser.error_of.Goals as goal

pub next_token-requires : goal.next_token-requires
next_token-requires c = (subst (λ v. IsUnitStop 200 c.args.tokens.now v) c.in-Fault.is c.requires).3

pub tokens_before-before-requires : goal.tokens_before-before-requires
tokens_before-before-requires c =
    let h = subst (λ v. IsUnitStop 200 c.args.tokens.now v) c.in-Fault.is c.requires in
    steps.fault_fewer c.args.tokens.now c.in-Fault.rest.now h.0 h.1

pub returns-in-Fault : goal.returns-in-Fault
returns-in-Fault c =
    let h = subst (λ v. IsUnitStop 200 c.args.tokens.now v) c.in-Fault.is c.requires in
    steps.fault_is c.units_are_parsed.ensures c.args.tokens.now c.in-Fault.rest.now c.next_token.result.1.now c.next_token.result.0 c.next_token.ensures 200 c.in-Fault.kind c.refined.result c.tokens_before-before.result.now h.0 h.1 h.2 (λ n e. let same : length c.args.tokens.now - length c.in-Fault.rest.now ≡ n = omega (arith, e) in c.tokens_before-before.ensures ∙ ap (λ v. take v c.args.tokens.now) same) c.refined.ensures.told

pub returns-in-TooDeep : goal.returns-in-TooDeep
returns-in-TooDeep c =
    let h = subst (λ v. IsUnitStop 200 c.args.tokens.now v) c.in-TooDeep.is c.requires in
    steps.nested_is c.units_are_parsed.ensures c.args.tokens.now c.in-TooDeep.rest.now c.next_token-in-TooDeep.result.1.now c.next_token-in-TooDeep.result.0 c.next_token-in-TooDeep.ensures 200 h.0
