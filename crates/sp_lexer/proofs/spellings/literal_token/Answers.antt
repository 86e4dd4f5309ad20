use Rattle.std.proofs.Common.{◌+◌, drop}
use Rattle.std.proofs.lemmas.Result.{err_from_is_err_and}
use Rattle.sp_lexer.proofs.TokenLaws.{token-at, fault-at, first-literal, no-literal, literal-size}
use Rattle.sp_lexer.proofs.spellings.literal_token.Goals as goal

pub returns-in_default-clause-fault : goal.returns-in_default-clause-fault
returns-in_default-clause-fault c = no-literal c.args.quote c.args.rest.now c.requires.quote c.in_default.ensures.length

pub returns-in_err-kind-clause-fault : goal.returns-in_err-kind-clause-fault
returns-in_err-kind-clause-fault c =
    let p = err_from_is_err_and c.from_residual.result c.from_residual.ensures.1 in
    rw (p.1, p.2) (fault-at c.literal_kind.new.names _ _ _ _ (first-literal c.args.quote c.in-Some.length c.args.rest.now c.requires.quote c.in-Some.ensures.length) (c.in_err-kind.ensures.kind _))

pub returns-clause-token : goal.returns-clause-token
returns-clause-token c =
    let h = c.in_ok-kind.ensures.kind (drop (c.in-Some.length + 1) c.args.rest.now) in
    token-at _ _ _ _ h.0 _ _ (first-literal c.args.quote c.in-Some.length c.args.rest.now c.requires.quote c.in-Some.ensures.length) h.1 h.2 (literal-size c.args.quote c.in-Some.length c.args.rest.now c.in-Some.ensures.within)
