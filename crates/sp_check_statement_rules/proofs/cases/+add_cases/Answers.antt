use Rattle.std.proofs.Common.{◌≡◌, ◌++◌, rules, ap}
use Rattle.sp_types.specs.TypedView.{statement_of}
use Rattle.sp_check_statement_rules.specs.Cases.{cases_in}
use Rattle.sp_check_statement_rules.proofs.Joins.{both, if_else-view}
use Rattle.sp_check_statement_rules.proofs.cases.+add_cases.Goals as goal

pub returns-in-Some : goal.returns-in-Some
returns-in-Some t c =
    let w : cases_in (statement_of c.args.s.now) ≡ cases_in (statement_of c.in-If.s.value) ++ cases_in (statement_of c.in-Some.other.value) = ap cases_in (if_else-view c.args.s.now c.in-If.field-0 c.in-If.s c.in-If.other c.in-Some.other c.in-If.is c.in-Some.is) in
    both c.add_cases-in-Some.result c.add_cases-in-Some.new.cases.items c.add_cases-in-If.new.cases.items c.args.cases.now.items (cases_in (statement_of c.in-If.s.value)) (cases_in (statement_of c.in-Some.other.value)) (cases_in (statement_of c.args.s.now)) w (search rules) (search rules)
