use Rattle.std.proofs.Common.{arith}
use Rattle.sp_parse_grammar.specs.CTable as grammar
use Rattle.sp_parse_grammar.specs.CTable.{at}
use Rattle.sp_parse_laws.proofs.SpelledTable.{is_spelled}
use Rattle.sp_parse_laws.proofs.SpellingDeclarators.{settled}
use Rattle.sp_parse_laws.proofs.spelling_laws.readings_are_spelled.Goals as goal

pub returns-clause-expressions : goal.returns-clause-expressions
returns-clause-expressions c = λ g front rest a r. is_spelled (at g (grammar.level 13)) front rest a r (omega arith)

pub returns-clause-initialisers : goal.returns-clause-initialisers
returns-clause-initialisers c = λ g front rest a r. is_spelled (at g grammar.init) front rest a r

pub returns-clause-declarations : goal.returns-clause-declarations
returns-clause-declarations c = λ g front rest a r. is_spelled (at g grammar.declaration) front rest a r

pub returns-clause-declarators : goal.returns-clause-declarators
returns-clause-declarators c = λ g front rest d r p. settled p d.tree (is_spelled (at g (grammar.declarator grammar.concrete)) front rest d r).1
