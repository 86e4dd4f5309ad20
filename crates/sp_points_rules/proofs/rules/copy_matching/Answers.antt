use Rattle.sp_ir.specs.Programs.{lowered_of}
use Rattle.sp_points_rules.proofs.Taking.{pair_adds}
use Rattle.sp_points_rules.proofs.rules.copy_matching.Goals as goal

pub returns : goal.returns
returns c = pair_adds (lowered_of c.args.facts.now.lowered.now) c.args.facts.now.rows.now c.args.facts.now.groups.now c.args.out.now c.mirror_each.new.out c.mirror_back_each.new.out c.args.target c.args.source c.under-cells.result.now c.under-others.result.now
    c.args.facts.now.grouped c.requires c.under-cells.ensures c.under-others.ensures c.in_ok-mirror_each.ensures c.in_ok-mirror_back_each.ensures
