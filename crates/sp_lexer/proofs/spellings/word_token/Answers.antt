use Rattle.std.proofs.Common.{refl}
use Rattle.std.proofs.lemmas.Result.{err_from_is_err_and}
use Rattle.sp_lexer.proofs.TokenLaws.{token-at, fault-at, first-word, first-word-is}
use Rattle.sp_lexer.proofs.spellings.word_token.Goals as goal

pub word_kind-requires-clause-word : goal.word_kind-requires-clause-word
word_kind-requires-clause-word c = rw c.split_word.ensures.word (first-word-is c.args.text.now c.requires.letter)

pub returns-in_err-kind-clause-fault : goal.returns-in_err-kind-clause-fault
returns-in_err-kind-clause-fault c =
    let p = err_from_is_err_and c.from_residual.result c.from_residual.ensures.1 in
    rw (p.1, p.2) (fault-at c.word_kind.new.names _ c.split_word.result.0.now c.split_word.result.1.now _ (rw (c.split_word.ensures.word, c.split_word.ensures.rest) (first-word c.args.text.now c.requires.letter)) c.in_err-kind.ensures.kind)

pub returns-clause-token : goal.returns-clause-token
returns-clause-token c =
    let h = c.in_ok-kind.ensures.kind in
    token-at _ _ c.split_word.result.0.now c.split_word.result.1.now h.0 _ _ (rw (c.split_word.ensures.word, c.split_word.ensures.rest) (first-word c.args.text.now c.requires.letter)) h.1 h.2 refl
