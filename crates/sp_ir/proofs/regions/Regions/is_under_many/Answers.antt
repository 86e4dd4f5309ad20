use Rattle.std.proofs.Common.{sym, length, arith, ◌<◌}
use Rattle.sp_ir.specs.Regions.{region_list}
use Rattle.sp_ir.proofs.Lookups.{many-some}
use Rattle.sp_ir.proofs.regions.Regions.is_under_many.Goals as goal

pub returns-then-is_many : goal.returns-then-is_many
returns-then-is_many c =
    let low : c.loop-k.k < length c.args.path.now = omega arith in
    sym (many-some (region_list c.args.self.now) c.args.object c.args.path.now c.loop-k.k (length c.args.path.now) low (sym (c.if-is_many.ensures)))
