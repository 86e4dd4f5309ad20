use Rattle.std.proofs.Common.{Some, refl, ap, ◌∙◌}
use Rattle.sp_lexer.specs.Scan.{string, reads_text, bad_text}
use Rattle.sp_lexer.proofs.spellings.string_kind.Goals as goal

pub returns-in-Ok-clause-kind : goal.returns-in-Ok-clause-kind
returns-in-Ok-clause-kind c = λ next.
    (string c.in-Ok-Some.values.items, reads_text c.args.body.now c.in-Ok-Some.values.items refl (rw c.in-Ok-Some.field-0-is at c.in-Ok-Some.ensures) refl, (c.in-Ok.number, c.in-Ok.ensures.stored ∙ ap Some c.deref.ensures.value, refl))

pub returns-in-Ok-None-clause-kind : goal.returns-in-Ok-None-clause-kind
returns-in-Ok-None-clause-kind c = λ next. bad_text c.args.body.now refl (rw c.in-Ok-None.field-0-is at c.in-Ok-None.ensures) refl
