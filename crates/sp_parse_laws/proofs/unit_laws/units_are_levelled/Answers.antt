use Rattle.sp_parse_grammar.specs.CTable as grammar
use Rattle.sp_parse_grammar.specs.CTable.{at, unit}
use Rattle.sp_parse_laws.proofs.Levelled.{units_levelled}
use Rattle.sp_parse_laws.proofs.unit_laws.units_are_levelled.Goals as goal

pub returns-clause-statements : goal.returns-clause-statements
returns-clause-statements c = λ g tokens rest s r. (units_levelled (at g grammar.statement) tokens rest s r).levelled

pub returns-clause-units : goal.returns-clause-units
returns-clause-units c = λ types tokens rest es r. units_levelled (unit types) tokens rest es r
