use Rattle.sp_ir.proofs.Lookups.{with_inserted, inserted_number}
use Rattle.sp_ir.proofs.regions.Regions.add.Goals as goal

pub returns-clause-added : goal.returns-clause-added
returns-clause-added c = with_inserted c.args.self.now.set.keys c.insert_full.new.self.keys c.args.region c.in_ok-number.ensures.keys

pub returns-clause-number : goal.returns-clause-number
returns-clause-number c = inserted_number c.args.self.now.set.keys c.insert_full.new.self.keys c.args.region c.in_ok-number.ensures.keys c.in_ok-number.number c.in_ok-number.ensures.index
