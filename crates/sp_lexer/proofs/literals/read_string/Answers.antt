use Rattle.std.proofs.Common.{sym, subst, append-nil}
use Rattle.sp_lexer.specs.Literals.{StandsFor, nothing}
use Rattle.sp_lexer.proofs.ByteLaws.{nothing_left}
use Rattle.sp_lexer.proofs.LiteralLaws.{read_none, read_more}
use Rattle.sp_lexer.proofs.literals.read_string.Goals as goal

pub bytes-init : goal.bytes-init
bytes-init c = rw c.in_ok-values.ensures.items (read_none _)

pub bytes-preserved : goal.bytes-preserved
bytes-preserved c = rw c.in_ok-push.ensures.items (read_more _ _ _ _ _ (sym c.in-Some.ensures.byte) c.bytes.invariant)

pub returns : goal.returns
returns c =
    let all = c.bytes.invariant.onward _ (subst (λ r. StandsFor r _) (sym (nothing_left _ c.bytes-test.ensures)) nothing) in
    subst (StandsFor c.args.body.now) (append-nil c.bytes.values.items) all
