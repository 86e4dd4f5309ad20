-- Statements as a text can have them (C90 6.6): their expressions and declarations are so.
use Rattle.std.specs.Prelude.{List, [], ◌∷◌, ⊤}
use Rattle.sp_parse_trees.specs.Syntax.{Statement, statement, StatementForm, MaybeStatement, no_statement, some_statement, Statements, no_statements, next_statement, External, definition, external_declaration, semicolon}
use Rattle.sp_parse_trees.specs.Syntax as syntax
use Rattle.sp_check_written_laws.specs.Written.{IsWritten, IsWrittenMaybe, AreWrittenSpecifiers, IsWrittenDeclarator, IsWrittenDeclaration, AreWrittenDeclarations}

abbrev mutual
  pub IsWrittenStatement : Statement → Type 0
  IsWrittenStatement (statement f p e) = IsWrittenForm f

  pub IsWrittenForm : StatementForm → Type 0
  IsWrittenForm (syntax.label n s) = IsWrittenStatement s
  IsWrittenForm (syntax.case_label e s) = IsWritten e × IsWrittenStatement s
  IsWrittenForm (syntax.default_label s) = IsWrittenStatement s
  IsWrittenForm (syntax.block ds ss) = AreWrittenDeclarations ds × AreWrittenStatements ss
  IsWrittenForm syntax.empty = ⊤
  IsWrittenForm (syntax.of e) = IsWritten e
  IsWrittenForm (syntax.if_else e s other) =
      IsWritten e × IsWrittenStatement s × IsWrittenOther other
  IsWrittenForm (syntax.switch_on e s) = IsWritten e × IsWrittenStatement s
  IsWrittenForm (syntax.while_loop e s) = IsWritten e × IsWrittenStatement s
  IsWrittenForm (syntax.do_loop s e) = IsWrittenStatement s × IsWritten e
  IsWrittenForm (syntax.for_loop a b c s) =
      IsWrittenMaybe a × IsWrittenMaybe b × IsWrittenMaybe c × IsWrittenStatement s
  IsWrittenForm (syntax.goto_name n) = ⊤
  IsWrittenForm syntax.continue_loop = ⊤
  IsWrittenForm syntax.break_out = ⊤
  IsWrittenForm (syntax.return_value e) = IsWrittenMaybe e

  pub IsWrittenOther : MaybeStatement → Type 0
  IsWrittenOther no_statement = ⊤
  IsWrittenOther (some_statement s) = IsWrittenStatement s

  pub AreWrittenStatements : Statements → Type 0
  AreWrittenStatements no_statements = ⊤
  AreWrittenStatements (next_statement s ss) = IsWrittenStatement s × AreWrittenStatements ss

-- ---- units

abbrev pub IsWrittenExternal : External → Type 0
IsWrittenExternal (definition ss d s) =
    AreWrittenSpecifiers ss × IsWrittenDeclarator d × IsWrittenStatement s
IsWrittenExternal (external_declaration d) = IsWrittenDeclaration d
IsWrittenExternal semicolon = ⊤

abbrev pub AreWrittenExternals : List External → Type 0
AreWrittenExternals [] = ⊤
AreWrittenExternals (e ∷ es) = IsWrittenExternal e × AreWrittenExternals es
