use Rattle.std.proofs.Common.{◌≡◌, ◌++◌, rules, ap}
use Rattle.sp_types.specs.TypedView.{statement_of}
use Rattle.sp_check_statement_rules.specs.Labels.{jumps_in}
use Rattle.sp_check_statement_rules.proofs.Joins.{both, if_else-view}
use Rattle.sp_check_statement_rules.proofs.labels.+add_jumps.Goals as goal

pub returns-in-Some : goal.returns-in-Some
returns-in-Some t c =
    let w : jumps_in (statement_of c.args.s.now) ≡ jumps_in (statement_of c.in-If.s.value) ++ jumps_in (statement_of c.in-Some.other.value) = ap jumps_in (if_else-view c.args.s.now c.in-If.field-0 c.in-If.s c.in-If.other c.in-Some.other c.in-If.is c.in-Some.is) in
    both c.add_jumps-in-Some.result c.add_jumps-in-Some.new.jumps.items c.add_jumps-in-If.new.jumps.items c.args.jumps.now.items (jumps_in (statement_of c.in-If.s.value)) (jumps_in (statement_of c.in-Some.other.value)) (jumps_in (statement_of c.args.s.now)) w (search rules) (search rules)
