use Rattle.sp_parse_laws.specs.Answers.{type_names, type_name_ask}
use Rattle.sp_parse_laws.proofs.ReadAgain.{read_again}
use Rattle.sp_parse_laws.proofs.Calls.{type_name_reader}
use Rattle.sp_parse_laws.proofs.expression_laws.type_names_are_read_again.Goals as goal

pub returns : goal.returns
returns c =
    let types = c.args.types.now in
    read_again type_names types (type_name_ask types) (type_name_reader types)
