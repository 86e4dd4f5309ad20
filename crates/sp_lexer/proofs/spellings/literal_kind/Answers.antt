use Rattle.std.proofs.Common.{inl, inr}
use Rattle.sp_lexer.proofs.SpellingLaws.{quote_cases}
use Rattle.sp_lexer.proofs.spellings.literal_kind.Goals as goal

pub returns-then-quote-eq34-clause-kind : goal.returns-then-quote-eq34-clause-kind
returns-then-quote-eq34-clause-kind c = rw c.if-quote-eq34.true c.string_kind.ensures.kind

pub returns-else-quote-eq34-clause-kind : goal.returns-else-quote-eq34-clause-kind
returns-else-quote-eq34-clause-kind c =
    elim (quote_cases c.args.quote c.requires.quote)
    [ inl e ↦ absurd (c.if-quote-eq34.false e) | inr e ↦ rw e (c.character_kind.ensures.kind c.args.names.now) ]
