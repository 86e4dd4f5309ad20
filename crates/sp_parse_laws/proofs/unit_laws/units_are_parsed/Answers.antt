use Rattle.std.specs.Prelude.{[]}
use Rattle.sp_parse_grammar.specs.CTable.{whole}
use Rattle.sp_parse_laws.proofs.Lifts.{fault_tree, nested_tree}
use Rattle.sp_parse_laws.specs.UnitAnswers.{units}
use Rattle.sp_parse_laws.proofs.WholeUnits.{unit_reader, unit_is}
use Rattle.sp_parse_laws.proofs.unit_laws.units_are_parsed.Goals as goal

pub returns : goal.returns
returns c = record { read = unit_is; fault = fault_tree units [] whole unit_reader; nested = nested_tree units [] whole unit_reader }
