-- Levelled statements and external declarations whose tokens are in range are written as a text can
-- have them.
use Rattle.std.proofs.Common.{ℕ, List, [], ◌∷◌, ◌++◌}
use Rattle.sp_tree.specs.declared.token.Kind.TheVariants.{Word, Mark}
use Rattle.sp_tree.specs.declared.token.Keyword.TheVariants.{While}
use Rattle.sp_tree.specs.declared.token.Punct.TheVariants.{LeftParenthesis, RightParenthesis, RightBrace, Colon, Semicolon}
use Rattle.sp_parse_trees.specs.Syntax.{Statement, statement, StatementForm, MaybeStatement, no_statement, some_statement, Statements, no_statements, next_statement, External, definition, external_declaration, semicolon}
use Rattle.sp_parse_trees.specs.Syntax as syntax
use Rattle.sp_parse_trees.specs.Spelling.{tokens_of, maybe_tokens, specifiers_tokens, declarator_tokens, declarations_tokens, statement_tokens, statement_form_tokens, else_tokens, statements_tokens, external_tokens, unit_tokens}
use Rattle.sp_parse_trees.specs.Levels.{Scope, IsLevelledStatement, IsLevelledStatementForm, IsLevelledElse, AreLevelledStatements, outside, within, new_types, IsLevelledExternal, AreLevelledExternals}
use Rattle.sp_check_written_laws.specs.Statements.{IsWrittenStatement, IsWrittenForm, IsWrittenOther, AreWrittenStatements, IsWrittenExternal, AreWrittenExternals}
use Rattle.sp_check_written_laws.proofs.Ranges.{AreInRange, parts, three_parts}
use Rattle.sp_check_written_laws.proofs.Levelled.{written, written_maybe, written_specifiers, written_declarator, written_declaration, written_declarations}

module _ (s : Scope) where
  mutual
    pub written_statement : (t : Statement) → IsLevelledStatement s t → AreInRange (statement_tokens t) → IsWrittenStatement t
    written_statement (statement f p end) l h = statement_written f l h

    statement_written : (f : StatementForm) → IsLevelledStatementForm s f → AreInRange (statement_form_tokens f) → IsWrittenForm f
    statement_written (syntax.label n t) l h = written_statement t l.1 h.1.1
    statement_written (syntax.case_label e t) l h =
        let x = parts (tokens_of e) (Mark Colon ∷ statement_tokens t) h.1 in
        (written s e l.1 x.0, written_statement t l.2 x.1.1)
    statement_written (syntax.default_label t) l h = written_statement t l h.1.1
    statement_written (syntax.block ds ss) l h =
        let x = three_parts (declarations_tokens ds) (statements_tokens ss) (Mark RightBrace ∷ []) h.1 in
        (written_declarations s ds l.0 x.0, written_statements ss l.1 x.1)
    statement_written syntax.empty l h = tt
    statement_written (syntax.of e) l h = written s e l (parts (tokens_of e) (Mark Semicolon ∷ []) h).0
    statement_written (syntax.if_else e t other) l h =
        let x = three_parts (tokens_of e) (Mark RightParenthesis ∷ statement_tokens t) (else_tokens other) h.1.1 in
        (written s e l.0 x.0, written_statement t l.1 x.1.1, written_other other l.3 x.2)
    statement_written (syntax.switch_on e t) l h =
        let x = parts (tokens_of e) (Mark RightParenthesis ∷ statement_tokens t) h.1.1 in
        (written s e l.0 x.0, written_statement t l.1 x.1.1)
    statement_written (syntax.while_loop e t) l h =
        let x = parts (tokens_of e) (Mark RightParenthesis ∷ statement_tokens t) h.1.1 in
        (written s e l.0 x.0, written_statement t l.1 x.1.1)
    statement_written (syntax.do_loop t e) l h =
        let x = three_parts (statement_tokens t) (Word While ∷ Mark LeftParenthesis ∷ tokens_of e) (Mark RightParenthesis ∷ Mark Semicolon ∷ []) h.1 in
        (written_statement t l.0 x.0, written s e l.1 x.1.1.1)
    statement_written (syntax.for_loop a b c t) l h =
        let y = parts (maybe_tokens [] a ++ Mark Semicolon ∷ maybe_tokens [] b ++ Mark Semicolon ∷ maybe_tokens [] c) (Mark RightParenthesis ∷ statement_tokens t) h.1.1 in
        let x = three_parts (maybe_tokens [] a) (Mark Semicolon ∷ maybe_tokens [] b) (Mark Semicolon ∷ maybe_tokens [] c) y.0 in
        (written_maybe s [] 0 a l.0 x.0, written_maybe s [] 0 b l.1 x.1.1, written_maybe s [] 0 c l.2 x.2.1, written_statement t l.3 y.1.1)
    statement_written (syntax.goto_name n) l h = tt
    statement_written syntax.continue_loop l h = tt
    statement_written syntax.break_out l h = tt
    statement_written (syntax.return_value e) l h =
        written_maybe s [] 0 e l (parts (maybe_tokens [] e) (Mark Semicolon ∷ []) h.1).0

    written_other : (o : MaybeStatement) → IsLevelledElse s o → AreInRange (else_tokens o) → IsWrittenOther o
    written_other no_statement l h = tt
    written_other (some_statement t) l h = written_statement t l h.1

    written_statements : (ts : Statements) → AreLevelledStatements s ts → AreInRange (statements_tokens ts) → AreWrittenStatements ts
    written_statements no_statements l h = tt
    written_statements (next_statement t ts) l h =
        let x = parts (statement_tokens t) (statements_tokens ts) h in
        (written_statement t l.0 x.0, written_statements ts l.1 x.1)

-- ---- units

written_external : (types : List ℕ) (e : External) → IsLevelledExternal types e → AreInRange (external_tokens e) → IsWrittenExternal e
written_external types (definition ss d b) l h =
    let x = three_parts (specifiers_tokens ss) (declarator_tokens d) (statement_tokens b) h in
    (written_specifiers (outside types) ss l.1 x.0, written_declarator (outside types) d l.3 x.1, written_statement (within types) b l.6 x.2)
written_external types (external_declaration d) l h = written_declaration (outside types) d l h
written_external types semicolon l h = tt

pub written_externals : (types : List ℕ) (es : List External) → AreLevelledExternals types es → AreInRange (unit_tokens es) → AreWrittenExternals es
written_externals types [] l h = tt
written_externals types (e ∷ es) l h =
    let x = parts (external_tokens e) (unit_tokens es) h in
    (written_external types e l.0 x.0, written_externals (types ++ new_types e) es l.1 x.1)
