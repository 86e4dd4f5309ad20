use Rattle.std.proofs.Common.{map, sym, subst}
use Rattle.sp_ir.specs.Programs.{lowered_of}
use Rattle.sp_ir.specs.View.{expression_of, lvalue_of}
use Rattle.sp_points_rules.specs.Gathered.{Adds}
use Rattle.sp_points_rules.specs.Puts.{GivesBack}
use Rattle.sp_points_rules.proofs.library.give_back.Goals as goal

pub returns-in_ok-site_to-in-Allocated : goal.returns-in_ok-site_to-in-Allocated
returns-in_ok-site_to-in-Allocated c = subst (λ x. Adds c.args.facts.now.rows.now (λ u y r. GivesBack (lowered_of c.args.facts.now.lowered.now) u x (lvalue_of c.args.to.now) (map expression_of c.args.args.now) c.args.site y r) c.args.out.now c.site_to.new.out) (sym c.in-Allocated.is) c.in_ok-site_to-in-Allocated.ensures
