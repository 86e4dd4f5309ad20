use Rattle.std.proofs.Common.{ap, ap₂, ◌∙◌}
use Rattle.sp_parse_tokens.specs.Refined.{choose, refine}
use Rattle.sp_parse_tokens.proofs.FaultKinds.{refined_is}
use Rattle.sp_parse_tokens.proofs.faults.refined.Goals as goal

pub returns-clause-told : goal.returns-clause-told
returns-clause-told c = λ w e. c.choose_fault.ensures ∙ ap₂ (λ a b. choose c.args.there a b) c.opens_block-block.ensures c.repeats_long-second.ensures ∙ ap (λ k. refine k c.args.front.now c.args.bad) e ∙ refined_is w c.args.front.now c.args.bad
