use Rattle.sp_ir.specs.Programs.{lowered_of}
use Rattle.sp_points_rules.specs.Puts.{PutsStart, PutsForeign}
use Rattle.sp_points_rules.proofs.Finding.{adds_then}
use Rattle.sp_points_rules.proofs.commands.start_put.Goals as goal

pub returns : goal.returns
returns c = adds_then c.args.facts.now.rows.now (λ u y r. PutsStart (lowered_of c.args.facts.now.lowered.now) u y r) (λ u y r. PutsForeign (lowered_of c.args.facts.now.lowered.now) u y r) c.args.out.now c.objects_start.new.out c.foreign_start.new.out c.in_ok-objects_start.ensures c.in_ok-foreign_start.ensures
