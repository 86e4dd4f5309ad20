use Rattle.sp_parse_laws.specs.Answers.{specifier_lists, specifiers_ask}
use Rattle.sp_parse_laws.proofs.Lifts.{longest_tree, fault_tree, nested_tree}
use Rattle.sp_parse_laws.proofs.Calls.{specifiers_reader}
use Rattle.sp_parse_laws.proofs.expression_laws.specifiers_are_parsed.Goals as goal

pub returns : goal.returns
returns c =
    let types = c.args.types.now in
    record {
      longest = longest_tree specifier_lists types (specifiers_ask types) (specifiers_reader types);
      fault = fault_tree specifier_lists types (specifiers_ask types) (specifiers_reader types);
      nested = nested_tree specifier_lists types (specifiers_ask types) (specifiers_reader types);
    }
