use Rattle.sp_parse_laws.specs.Answers.{expressions, expression_ask}
use Rattle.sp_parse_laws.proofs.ReadAgain.{read_again}
use Rattle.sp_parse_laws.proofs.Calls.{expression_reader}
use Rattle.sp_parse_laws.proofs.expression_laws.expressions_are_read_again.Goals as goal

pub returns : goal.returns
returns c =
    let types = c.args.types.now in
    read_again expressions types (expression_ask types) (expression_reader types)
