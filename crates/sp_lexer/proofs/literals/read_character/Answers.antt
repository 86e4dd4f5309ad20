use Rattle.std.proofs.Common.{sym, ◌∙◌, rules}
use Rattle.std.proofs.lemmas.Int.{to_z-of_z}
use mir.Val.{SFits}
use mir.Syntax.{w64}
use Rattle.sp_lexer.proofs.ByteLaws.{nothing_left}
use Rattle.sp_lexer.proofs.LiteralLaws.{one_byte}
use Rattle.sp_lexer.proofs.literals.read_character.Goals as goal

pub returns : goal.returns
returns c =
    let fits : SFits w64 c.signed_char.result = search rules in
    (c.in_ok-value.value, one_byte _ _ _ (sym c.in_ok-value.ensures.byte) (nothing_left _ c.if-not-is_empty.ensures), to_z-of_z w64 c.signed_char.result fits ∙ c.signed_char.ensures)
