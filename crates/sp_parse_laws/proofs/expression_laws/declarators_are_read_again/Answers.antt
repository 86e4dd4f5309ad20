use Rattle.sp_parse_laws.specs.Answers.{declarators, declarator_ask}
use Rattle.sp_parse_laws.proofs.ReadAgain.{read_again}
use Rattle.sp_parse_laws.proofs.Calls.{declarator_reader}
use Rattle.sp_parse_laws.proofs.expression_laws.declarators_are_read_again.Goals as goal

pub returns : goal.returns
returns c =
    let types = c.args.types.now in
    read_again declarators types (declarator_ask types) (declarator_reader types)
