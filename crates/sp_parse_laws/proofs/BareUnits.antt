-- A statement, an external declaration or a unit without its places spells the same tokens, and is as deep.
use Rattle.std.proofs.Common.{◌≡◌, ◌+◌, List, [], ◌∷◌, ◌++◌, refl, ap, ap₂, ◌∙◌}
use Rattle.std.specs.Prelude.{max}
use Rattle.sp_tree.specs.declared.token.Kind.TheVariants.{Name, Word, Mark}
use Rattle.sp_tree.specs.declared.token.Keyword.TheVariants.{Case, Default, Do, Else, For, If, Return, Switch, While}
use Rattle.sp_tree.specs.declared.token.Punct.TheVariants.{LeftParenthesis, RightParenthesis, LeftBrace, RightBrace, Colon, Semicolon}
use Rattle.sp_parse_trees.specs.Syntax.{Statement, statement, StatementForm, label, case_label, default_label, block, empty, of, if_else, switch_on, while_loop, do_loop, for_loop, goto_name, continue_loop, break_out, return_value, MaybeStatement, no_statement, some_statement, Statements, no_statements, next_statement, External, definition, external_declaration, semicolon}
use Rattle.sp_parse_trees.specs.Spelling.{maybe_tokens, statement_tokens, statement_form_tokens, else_tokens, statements_tokens, external_tokens, unit_tokens}
use Rattle.sp_parse_trees.specs.Depth.{statement_depth, statement_form_depth, else_depth, statements_depth, external_depth, unit_depth}
use Rattle.sp_parse_laws.proofs.BareTrees.{ap₃, bare_tokens, bare_maybe_tokens, bare_specifiers_tokens, bare_declarator_tokens, bare_declaration_tokens, bare_declarations_tokens, bare_depth, bare_maybe_depth, bare_specifiers_depth, bare_declarator_depth, bare_declaration_depth, bare_declarations_depth}
use Rattle.sp_parse_laws.specs.BareUnits.{bare_statement, bare_statement_form, bare_else, bare_statements, bare_external, bare_unit}

-- ---- what it spells

mutual
  pub bare_statement_tokens : (x : Statement) → statement_tokens (bare_statement x) ≡ statement_tokens x
  bare_statement_tokens (statement f p z) = bare_form_tokens f

  pub bare_form_tokens : (x : StatementForm) → statement_form_tokens (bare_statement_form x) ≡ statement_form_tokens x
  bare_form_tokens (label n s) = ap (λ u. Name n ∷ Mark Colon ∷ u) (bare_statement_tokens s)
  bare_form_tokens (case_label e s) = ap₂ (λ u v. Word Case ∷ u ++ Mark Colon ∷ v) (bare_tokens e) (bare_statement_tokens s)
  bare_form_tokens (default_label s) = ap (λ u. Word Default ∷ Mark Colon ∷ u) (bare_statement_tokens s)
  bare_form_tokens (block ds ss) = ap₂ (λ u v. Mark LeftBrace ∷ u ++ v ++ Mark RightBrace ∷ []) (bare_declarations_tokens ds) (bare_statements_tokens ss)
  bare_form_tokens empty = refl
  bare_form_tokens (of e) = ap (λ u. u ++ Mark Semicolon ∷ []) (bare_tokens e)
  bare_form_tokens (if_else e s other) = ap₃ (λ u v w. Word If ∷ Mark LeftParenthesis ∷ u ++ Mark RightParenthesis ∷ v ++ w) (bare_tokens e) (bare_statement_tokens s) (bare_else_tokens other)
  bare_form_tokens (switch_on e s) = ap₂ (λ u v. Word Switch ∷ Mark LeftParenthesis ∷ u ++ Mark RightParenthesis ∷ v) (bare_tokens e) (bare_statement_tokens s)
  bare_form_tokens (while_loop e s) = ap₂ (λ u v. Word While ∷ Mark LeftParenthesis ∷ u ++ Mark RightParenthesis ∷ v) (bare_tokens e) (bare_statement_tokens s)
  bare_form_tokens (do_loop s e) = ap₂ (λ u v. Word Do ∷ u ++ Word While ∷ Mark LeftParenthesis ∷ v ++ Mark RightParenthesis ∷ Mark Semicolon ∷ []) (bare_statement_tokens s) (bare_tokens e)
  bare_form_tokens (for_loop a b c s) =
      ap₃ (λ u v w. Word For ∷ Mark LeftParenthesis ∷ u ++ Mark Semicolon ∷ v ++ Mark Semicolon ∷ w ++ Mark RightParenthesis ∷ statement_tokens (bare_statement s)) (bare_maybe_tokens [] a) (bare_maybe_tokens [] b) (bare_maybe_tokens [] c)
      ∙ ap (λ u. Word For ∷ Mark LeftParenthesis ∷ maybe_tokens [] a ++ Mark Semicolon ∷ maybe_tokens [] b ++ Mark Semicolon ∷ maybe_tokens [] c ++ Mark RightParenthesis ∷ u) (bare_statement_tokens s)
  bare_form_tokens (goto_name n) = refl
  bare_form_tokens continue_loop = refl
  bare_form_tokens break_out = refl
  bare_form_tokens (return_value e) = ap (λ u. Word Return ∷ u ++ Mark Semicolon ∷ []) (bare_maybe_tokens [] e)

  bare_else_tokens : (x : MaybeStatement) → else_tokens (bare_else x) ≡ else_tokens x
  bare_else_tokens no_statement = refl
  bare_else_tokens (some_statement s) = ap (λ u. Word Else ∷ u) (bare_statement_tokens s)

  bare_statements_tokens : (x : Statements) → statements_tokens (bare_statements x) ≡ statements_tokens x
  bare_statements_tokens no_statements = refl
  bare_statements_tokens (next_statement s ss) = ap₂ (λ u v. u ++ v) (bare_statement_tokens s) (bare_statements_tokens ss)

pub bare_external_tokens : (x : External) → external_tokens (bare_external x) ≡ external_tokens x
bare_external_tokens (definition ss d s) = ap₃ (λ u v w. u ++ v ++ w) (bare_specifiers_tokens ss) (bare_declarator_tokens d) (bare_statement_tokens s)
bare_external_tokens (external_declaration d) = bare_declaration_tokens d
bare_external_tokens semicolon = refl

pub bare_unit_tokens : (x : List External) → unit_tokens (bare_unit x) ≡ unit_tokens x
bare_unit_tokens [] = refl
bare_unit_tokens (e ∷ es) = ap₂ (λ u v. u ++ v) (bare_external_tokens e) (bare_unit_tokens es)

-- ---- how deep it is

mutual
  bare_statement_depth : (x : Statement) → statement_depth (bare_statement x) ≡ statement_depth x
  bare_statement_depth (statement f p z) = ap (λ u. 1 + u) (bare_form_depth f)

  bare_form_depth : (x : StatementForm) → statement_form_depth (bare_statement_form x) ≡ statement_form_depth x
  bare_form_depth (label n s) = bare_statement_depth s
  bare_form_depth (case_label e s) = ap₂ (λ u v. max u v) (bare_depth e) (bare_statement_depth s)
  bare_form_depth (default_label s) = bare_statement_depth s
  bare_form_depth (block ds ss) = ap₂ (λ u v. max u v) (bare_declarations_depth ds) (bare_statements_depth ss)
  bare_form_depth empty = refl
  bare_form_depth (of e) = bare_depth e
  bare_form_depth (if_else e s other) = ap₃ (λ u v w. max u (max v w)) (bare_depth e) (bare_statement_depth s) (bare_else_depth other)
  bare_form_depth (switch_on e s) = ap₂ (λ u v. max u v) (bare_depth e) (bare_statement_depth s)
  bare_form_depth (while_loop e s) = ap₂ (λ u v. max u v) (bare_depth e) (bare_statement_depth s)
  bare_form_depth (do_loop s e) = ap₂ (λ u v. max u v) (bare_statement_depth s) (bare_depth e)
  bare_form_depth (for_loop a b c s) = ap₂ (λ u v. max u v) (ap₂ (λ u v. max u v) (bare_maybe_depth a) (bare_maybe_depth b)) (ap₂ (λ u v. max u v) (bare_maybe_depth c) (bare_statement_depth s))
  bare_form_depth (goto_name n) = refl
  bare_form_depth continue_loop = refl
  bare_form_depth break_out = refl
  bare_form_depth (return_value e) = bare_maybe_depth e

  bare_else_depth : (x : MaybeStatement) → else_depth (bare_else x) ≡ else_depth x
  bare_else_depth no_statement = refl
  bare_else_depth (some_statement s) = bare_statement_depth s

  bare_statements_depth : (x : Statements) → statements_depth (bare_statements x) ≡ statements_depth x
  bare_statements_depth no_statements = refl
  bare_statements_depth (next_statement s ss) = ap₂ (λ u v. max u v) (bare_statement_depth s) (bare_statements_depth ss)

bare_external_depth : (x : External) → external_depth (bare_external x) ≡ external_depth x
bare_external_depth (definition ss d s) = ap₃ (λ u v w. max u (max v w)) (bare_specifiers_depth ss) (bare_declarator_depth d) (bare_statement_depth s)
bare_external_depth (external_declaration d) = bare_declaration_depth d
bare_external_depth semicolon = refl

pub bare_unit_depth : (x : List External) → unit_depth (bare_unit x) ≡ unit_depth x
bare_unit_depth [] = refl
bare_unit_depth (e ∷ es) = ap₂ (λ u v. max u v) (bare_external_depth e) (bare_unit_depth es)
