use Rattle.std.proofs.Common.{◌≡◌, refl, ap, ◌∙◌, take}
use Rattle.sp_lexer.specs.Scan.{over_block_comment, beyond_comment}
use Rattle.sp_lexer.proofs.PieceLaws.{comment-passed}
use Rattle.sp_lexer.proofs.pieces.pass_block_comment.Goals as goal

beyond_is : (c : goal.After-after_comment) → c.after_comment.result ≡ beyond_comment c.args.spot (take c.in-Some.length c.args.text.now)
beyond_is c = c.after_comment.ensures ∙ ap (beyond_comment c.args.spot) c.split_at.ensures.front

pub returns-clause-step : goal.returns-clause-step
returns-clause-step c = λ names. over_block_comment c.in-Some.length c.requires.piece c.in-Some.ensures refl c.split_at.ensures.back (beyond_is c)

pub returns-clause-passed : goal.returns-clause-passed
returns-clause-passed c = rw (c.split_at.ensures.back, beyond_is c) (comment-passed c.args.spot c.args.text.now c.in-Some.length c.in-Some.ensures c.requires.fits)
