-- What the code's surroundings of a statement stand for.
use Rattle.sp_types.specs.View.{type_of}
use Rattle.sp_check_statement_rules.specs.declared.around.Around.{Around as CodeAround}
use Rattle.sp_check_statement_rules.specs.Rules.{Around}

abbrev pub around_of : CodeAround → Around
around_of a = record { result = type_of a.result.now; switch = a.switch; loop = a.in_loop }
