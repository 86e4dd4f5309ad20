use Rattle.sp_parse_laws.specs.Answers.{type_names, type_name_ask}
use Rattle.sp_parse_laws.proofs.Lifts.{longest_tree, fault_tree, nested_tree}
use Rattle.sp_parse_laws.proofs.Calls.{type_name_reader}
use Rattle.sp_parse_laws.proofs.expression_laws.type_names_are_parsed.Goals as goal

pub returns : goal.returns
returns c =
    let types = c.args.types.now in
    record {
      longest = longest_tree type_names types (type_name_ask types) (type_name_reader types);
      fault = fault_tree type_names types (type_name_ask types) (type_name_reader types);
      nested = nested_tree type_names types (type_name_ask types) (type_name_reader types);
    }
