use Rattle.sp_parse_grammar.specs.CTable as grammar
use Rattle.sp_parse_grammar.specs.CTable.{at, unit}
use Rattle.sp_parse_laws.proofs.Units.{units_spelled}
use Rattle.sp_parse_laws.proofs.unit_laws.units_are_spelled.Goals as goal

pub returns-clause-statements : goal.returns-clause-statements
returns-clause-statements c = λ g front rest a r. units_spelled (at g grammar.statement) front rest a r

pub returns-clause-externals : goal.returns-clause-externals
returns-clause-externals c = λ g front rest a r. units_spelled (at g grammar.external) front rest a r

pub returns-clause-units : goal.returns-clause-units
returns-clause-units c = λ types front rest es r. units_spelled (unit types) front rest es r
