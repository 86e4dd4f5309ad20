use Rattle.sp_parse_grammar.proofs.CEndings.{c90_checked}
use Rattle.sp_parse_grammar.proofs.CSettled.{c90_settled}
use Rattle.sp_parse_grammar.proofs.CFailing.{c90_longest, c90_failing}
use Rattle.sp_parse_grammar.proofs.laws.any_tokens_are_settled.Goals as goal

pub returns-clause-checked : goal.returns-clause-checked
returns-clause-checked g c = c90_checked g.T.AnyTrees.trees

pub returns-clause-settled : goal.returns-clause-settled
returns-clause-settled g c = c90_settled g.T.AnyTrees.trees

pub returns-clause-longest : goal.returns-clause-longest
returns-clause-longest g c = c90_longest g.T.AnyTrees.trees

pub returns-clause-failing : goal.returns-clause-failing
returns-clause-failing g c = c90_failing g.T.AnyTrees.trees
