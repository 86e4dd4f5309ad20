use Rattle.std.proofs.Common.{sym, ◌∙◌}
use Rattle.sp_ir.specs.Regions.{region_of, stands_at}
use Rattle.sp_ir.specs.Paths.{whole_path}
use Rattle.sp_ir.proofs.Lookups.{position-map}
use Rattle.sp_ir.proofs.regions.Regions.find.Goals as goal

pub returns-in-Some : goal.returns-in-Some
returns-in-Some c = c.in-Some.ensures.index ∙ sym (position-map (stands_at c.args.at.object (whole_path c.args.at.path.now c.args.at.step)) region_of c.args.self.now.set.keys)

pub returns-in-None : goal.returns-in-None
returns-in-None c = c.in-None.ensures.index ∙ sym (position-map (stands_at c.args.at.object (whole_path c.args.at.path.now c.args.at.step)) region_of c.args.self.now.set.keys)
