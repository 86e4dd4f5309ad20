use Rattle.std.proofs.Common.{ap, ◌∙◌}
use Rattle.sp_run_command.proofs.refusals.refusal.Goals as goal

pub returns-clause-text : goal.returns-clause-text
returns-clause-text c = ap (λ v. v.items) c.into_bytes.ensures.value ∙ (rw c.code-code.ensures at c.in_ok-text.ensures.ok)
