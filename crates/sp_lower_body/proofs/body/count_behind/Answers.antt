use Rattle.std.proofs.Common.{add-one, drop-cons, sym, ap}
use Rattle.sp_lower_body.specs.Bodies.{cases_behind}
use Rattle.sp_lower_body.proofs.body.count_behind.Goals as goal

pub returns-then-next-cases : goal.returns-then-next-cases
returns-then-next-cases c =
    rw add-one (sym (ap cases_behind (drop-cons c.args.cases.now c.args.next 0 c.if-next-cases.true)))
