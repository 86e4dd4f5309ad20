use Rattle.sp_points_rules.proofs.Taking.{taking_adds}
use Rattle.sp_points_rules.proofs.rules.take_over.Goals as goal

pub returns : goal.returns
returns c =
    taking_adds c.args.facts.now.rows.now c.args.out.now c.put.new.self c.args.cell c.args.source c.in_ok-rows.rows c.in_ok-held.held c.in_ok-numbers.numbers c.contents.new.seen
    c.in_ok-rows.ensures c.in_ok-held.ensures c.in_ok-numbers.ensures.contents c.in_ok-numbers.ensures.seen c.in_ok-numbers.ensures.saw c.in_ok-put.ensures.seen c.in_ok-put.ensures.puts
