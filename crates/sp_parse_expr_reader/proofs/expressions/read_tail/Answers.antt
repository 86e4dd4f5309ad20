use Rattle.std.proofs.Common.{◌-◌, arith}
use Rattle.std.proofs.lemmas.Result.{err_from_is_err_and}
use Rattle.sp_parse_tokens.specs.Scopes.{there}
use Rattle.sp_parse_expr_steps.specs.Reading.{operand_seen}
use Rattle.sp_parse_expr_steps.proofs.LevelSteps.{tail_reached, tail_stopped}
use Rattle.sp_parse_expr_steps.proofs.Tails.{tail_done}
use Rattle.sp_parse_expr_reader.proofs.expressions.read_tail.Goals as goal

pub returns-in_err-part : goal.returns-in_err-part
returns-in_err-part c =
    let p = err_from_is_err_and c.from_residual.result c.from_residual.ensures.1 in
    let g = there c.args.context.types.now c.args.context.scope in
    let i = c.levels.invariant in
    let next = c.next_level-reached in
    rw (p.1, p.2) (tail_stopped g (operand_seen c.args.left) (operand_seen c.levels.part.tree) c.args.tokens.now c.levels.part.rest.now c.levels.reached next.result i.ended next.ensures.looser next.ensures.within next.ensures.between i.step c.args.depth c.in_err-part.field-0.0 c.in_err-part.ensures)

pub levels-preserved : goal.levels-preserved
levels-preserved c =
    let g = there c.args.context.types.now c.args.context.scope in
    let i = c.levels.invariant in
    let next = c.next_level-reached in
    let h = c.in_ok-part.ensures in
    let now = c.in_ok-part.part in
    record {
      step = tail_reached g (operand_seen c.args.left) (operand_seen c.levels.part.tree) c.args.tokens.now c.levels.part.rest.now c.levels.reached next.result i.ended next.ensures.looser next.ensures.within next.ensures.between i.step (operand_seen now.tree) now.rest.now h.reads;
      below = next.ensures.within;
      deep = h.deep;
      shallow = h.shallow;
      ended = h.ended;
      fewer = omega (arith, i.fewer, h.fewer);
    }

pub returns : goal.returns
returns c =
    let g = there c.args.context.types.now c.args.context.scope in
    let i = c.levels.invariant in
    let r = c.levels.reached in
    record {
      reads = tail_done g (operand_seen c.args.left) (operand_seen c.levels.part.tree) c.args.tokens.now c.levels.part.rest.now (13 - r) (omega (arith, c.levels-test.false)) i.step i.ended;
      deep = i.deep;
      shallow = i.shallow;
      ended = i.ended;
      fewer = omega (arith, i.fewer);
    }
