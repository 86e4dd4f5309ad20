use Rattle.std.proofs.Common.{refl}
use Rattle.sp_octagon.specs.Entries.{entries_of}
use Rattle.sp_octagon.proofs.Closed.{outcome-closed, outcome-exact}
use Rattle.sp_octagon.proofs.octagon.Octagon.close.Goals as goal

pub returns-clause-closed : goal.returns-clause-closed
returns-clause-closed c = outcome-closed c.args.self.now _ c.close_entries.result refl c.close_entries.ensures.closed

pub returns-clause-exact : goal.returns-clause-exact
returns-clause-exact c = outcome-exact c.args.self.now (entries_of c.close_entries.new.cells) c.close_entries.result c.close_entries.ensures.closed
