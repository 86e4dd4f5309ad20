use Rattle.sp_parse_laws.specs.Answers.{declarators, declarator_ask}
use Rattle.sp_parse_laws.proofs.Lifts.{longest_tree, fault_tree, nested_tree}
use Rattle.sp_parse_laws.proofs.Calls.{declarator_reader}
use Rattle.sp_parse_laws.proofs.expression_laws.declarators_are_parsed.Goals as goal

pub returns : goal.returns
returns c =
    let types = c.args.types.now in
    record {
      longest = longest_tree declarators types (declarator_ask types) (declarator_reader types);
      fault = fault_tree declarators types (declarator_ask types) (declarator_reader types);
      nested = nested_tree declarators types (declarator_ask types) (declarator_reader types);
    }
