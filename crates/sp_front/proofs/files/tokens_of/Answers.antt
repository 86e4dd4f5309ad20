use Rattle.sp_lexer.specs.Scan.{start}
use Rattle.sp_front.proofs.EndedLaws.{scanned_ended}
use Rattle.sp_front.proofs.files.tokens_of.Goals as goal

pub returns-clause-ended : goal.returns-clause-ended
returns-clause-ended c =
    scanned_ended c.scan.new.names c.deref-2.result.now (start c.in_ok-number.number) c.args.room
    c.in_ok-tokens.tokens.items c.in_ok-tokens.ensures.answer.found
