use Rattle.sp_lexer.specs.declared.spot.Piece.TheVariants.{LineComment}
use Rattle.sp_lexer.proofs.PieceLaws.{rest-passed}
use Rattle.sp_lexer.proofs.pieces.pass_line_comment.Goals as goal

pub returns-clause-passed : goal.returns-clause-passed
returns-clause-passed c = rest-passed c.args.spot _ c.args.text.now _ _ LineComment c.requires.piece (λ e. cc) c.split_line.ensures.line c.split_line.ensures.rest c.along.ensures c.requires.fits
