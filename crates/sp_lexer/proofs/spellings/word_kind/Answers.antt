use Rattle.std.proofs.Common.{refl}
use Rattle.sp_lexer.specs.Scan.{identifier, keyword, reads_word}
use Rattle.sp_lexer.proofs.ReadLaws.{keyword-reads, name-reads}
use Rattle.sp_lexer.proofs.spellings.word_kind.Goals as goal

pub returns-in-Some-clause-kind : goal.returns-in-Some-clause-kind
returns-in-Some-clause-kind c = (keyword c.in-Some.keyword, reads_word c.requires.word (keyword-reads _ _ _ c.in-Some.ensures), refl)

pub returns-in-Ok-clause-kind : goal.returns-in-Ok-clause-kind
returns-in-Ok-clause-kind c = (identifier c.args.word.now, reads_word c.requires.word (name-reads _ _ c.in_default.ensures c.in_default-refused.ensures c.if-is_wide.ensures), (c.in-Ok.number, c.in-Ok.ensures.stored, refl))
