use Rattle.std.proofs.Common.{refl, ap, ◌∙◌, rules}
use Rattle.std.proofs.lemmas.Int.{to_z-of_z}
use mir.Val.{SFits}
use mir.Syntax.{w64}
use Rattle.sp_tree.specs.declared.token.Kind.TheVariants as kinds
use Rattle.sp_lexer.specs.Literals.{signed_char}
use Rattle.sp_lexer.specs.Scan.{character, reads_character, bad_character}
use Rattle.sp_lexer.proofs.spellings.character_kind.Goals as goal

pub returns-in-Some-clause-kind : goal.returns-in-Some-clause-kind
returns-in-Some-clause-kind c = λ names next.
    let fits : SFits w64 c.in-Some.value = search rules in
    let h = c.in-Some.ensures in
    (character (signed_char h.0), reads_character c.args.body.now h.0 refl h.1 refl, ap kinds.Char (to_z-of_z w64 c.in-Some.value fits ∙ h.2))

pub returns-in-None-clause-kind : goal.returns-in-None-clause-kind
returns-in-None-clause-kind c = λ names next. bad_character c.args.body.now refl c.in-None.ensures refl
