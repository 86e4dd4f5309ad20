use Rattle.sp_parse_laws.specs.Answers.{specifier_lists, specifiers_ask}
use Rattle.sp_parse_laws.proofs.ReadAgain.{read_again}
use Rattle.sp_parse_laws.proofs.Calls.{specifiers_reader}
use Rattle.sp_parse_laws.proofs.expression_laws.specifiers_are_read_again.Goals as goal

pub returns : goal.returns
returns c =
    let types = c.args.types.now in
    read_again specifier_lists types (specifiers_ask types) (specifiers_reader types)
