use Rattle.sp_parse_laws.specs.Answers.{expressions, expression_ask}
use Rattle.sp_parse_laws.proofs.Lifts.{longest_tree, fault_tree, nested_tree}
use Rattle.sp_parse_laws.proofs.Calls.{expression_reader}
use Rattle.sp_parse_laws.proofs.expression_laws.expressions_are_parsed.Goals as goal

pub returns : goal.returns
returns c =
    let types = c.args.types.now in
    record {
      longest = longest_tree expressions types (expression_ask types) (expression_reader types);
      fault = fault_tree expressions types (expression_ask types) (expression_reader types);
      nested = nested_tree expressions types (expression_ask types) (expression_reader types);
    }
