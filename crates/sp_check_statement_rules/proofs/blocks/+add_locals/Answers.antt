use Rattle.std.proofs.Common.{◌≡◌, ◌++◌, rules, ap}
use Rattle.sp_types.specs.TypedView.{statement_of}
use Rattle.sp_check_statement_rules.specs.Blocks.{locals_in}
use Rattle.sp_check_statement_rules.proofs.Joins.{both, if_else-view}
use Rattle.sp_check_statement_rules.proofs.blocks.+add_locals.Goals as goal

pub returns-in-Some : goal.returns-in-Some
returns-in-Some t c =
    let w : locals_in (statement_of c.args.s.now) ≡ locals_in (statement_of c.in-If.s.value) ++ locals_in (statement_of c.in-Some.other.value) = ap locals_in (if_else-view c.args.s.now c.in-If.field-0 c.in-If.s c.in-If.other c.in-Some.other c.in-If.is c.in-Some.is) in
    both c.add_locals-in-Some.result c.add_locals-in-Some.new.locals.items c.add_locals-in-If.new.locals.items c.args.locals.now.items (locals_in (statement_of c.in-If.s.value)) (locals_in (statement_of c.in-Some.other.value)) (locals_in (statement_of c.args.s.now)) w (search rules) (search rules)
