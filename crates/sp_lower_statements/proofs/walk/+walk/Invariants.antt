use Rattle.std.proofs.Common.{◌≡◌, map, drop}
use Rattle.sp_types.specs.TypedView.{statement_of, statement_list}
use Rattle.sp_lower_body.specs.Statements.{lower_all}
use Rattle.sp_lower_body.specs.View.{frame_of, body_of}
use Rattle.sp_lower_statements.proofs.walk.+walk.Given as goal

abbrev pub invariant-statements-loop-s : goal.invariant-statements-loop-s
invariant-statements-loop-s l =
    lower_all (frame_of l.frame) (statement_list (map statement_of l.fn.statements)) (body_of l.fn.body)
    ≡ lower_all (frame_of l.frame) (statement_list (map statement_of (drop l.s-index l.statements))) (body_of l.body)
