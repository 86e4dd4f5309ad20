use Rattle.std.proofs.Common.{sym}
use Rattle.sp_ir.specs.Programs.{lowered_of}
use Rattle.sp_points_rules.proofs.Taking.{mirror_adds}
use Rattle.sp_points_rules.proofs.rules.mirror.Goals as goal

pub returns-in_ok-take_over : goal.returns-in_ok-take_over
returns-in_ok-take_over c = mirror_adds (lowered_of c.args.facts.now.lowered.now) c.args.facts.now.rows.now c.args.out.now c.take_over.new.out c.args.target c.args.source c.args.cell c.in-Some.other (sym c.in-Some.ensures) c.in_ok-take_over.ensures
