-- The functions that typed trees mention, in the order of the text (C90 6.7). The operand of a `sizeof` is gone from a typed tree.
use Rattle.std.specs.Prelude.{ℕ, List, [], ◌∷◌, ◌++◌, Option, Some, None}
use Rattle.sp_types.specs.Typed.{Typed, typed, TypedForm, TypedList, no_typed, next_typed}
use Rattle.sp_types.specs.Typed as tree
use Rattle.sp_types.specs.Statements.{TypedStatement, typed_statement, TypedStatementForm, label, case_of, default_of, block, empty, single, if_else, switch_on, while_loop, do_loop, for_loop, goto_name, continue_loop, break_out, return_value, MaybeTypedStatement, no_statement, some_statement, TypedStatements, no_statements, next_statement}

-- their numbers in the table of functions
abbrev mutual
  pub mentions : Typed → List ℕ
  mentions (typed f t p m) = form_mentions f

  pub form_mentions : TypedForm → List ℕ
  form_mentions (tree.number n) = []
  form_mentions (tree.character z) = []
  form_mentions (tree.constant z) = []
  form_mentions (tree.object k) = []
  form_mentions (tree.function k) = k ∷ []
  form_mentions (tree.convert e) = mentions e
  form_mentions (tree.decay e) = mentions e
  form_mentions (tree.index a b) = mentions a ++ mentions b
  form_mentions (tree.call f es) = mentions f ++ all_mentions es
  form_mentions (tree.member e n) = mentions e
  form_mentions (tree.arrow e n) = mentions e
  form_mentions (tree.after op e) = mentions e
  form_mentions (tree.unary op e) = mentions e
  form_mentions (tree.cast e) = mentions e
  form_mentions (tree.binary op a b) = mentions a ++ mentions b
  form_mentions (tree.choice c a b) = mentions c ++ mentions a ++ mentions b
  form_mentions (tree.assign op a b) = mentions a ++ mentions b
  form_mentions (tree.comma a b) = mentions a ++ mentions b

  -- the arguments of a call
  pub all_mentions : TypedList → List ℕ
  all_mentions no_typed = []
  all_mentions (next_typed e es) = mentions e ++ all_mentions es

-- an expression that may be missing
abbrev pub maybe_mentions : Option Typed → List ℕ
maybe_mentions None = []
maybe_mentions (Some e) = mentions e

-- the start values of an object
abbrev pub start_mentions : List (ℕ × Typed) → List ℕ
start_mentions [] = []
start_mentions (x ∷ xs) = mentions x.1 ++ start_mentions xs

abbrev mutual
  pub statement_mentions : TypedStatement → List ℕ
  statement_mentions (typed_statement f p e) = statement_form_mentions f

  pub statement_form_mentions : TypedStatementForm → List ℕ
  statement_form_mentions (label n s) = statement_mentions s
  statement_form_mentions (case_of z s) = statement_mentions s
  statement_form_mentions (default_of s) = statement_mentions s
  statement_form_mentions (block os ss) = statements_mentions ss
  statement_form_mentions empty = []
  statement_form_mentions (single e) = mentions e
  statement_form_mentions (if_else e s other) = mentions e ++ statement_mentions s ++ other_mentions other
  statement_form_mentions (switch_on e s) = mentions e ++ statement_mentions s
  statement_form_mentions (while_loop e s) = mentions e ++ statement_mentions s
  statement_form_mentions (do_loop s e) = statement_mentions s ++ mentions e
  statement_form_mentions (for_loop a b c s) = maybe_mentions a ++ maybe_mentions b ++ maybe_mentions c ++ statement_mentions s
  statement_form_mentions (goto_name n) = []
  statement_form_mentions continue_loop = []
  statement_form_mentions break_out = []
  statement_form_mentions (return_value e) = maybe_mentions e

  pub other_mentions : MaybeTypedStatement → List ℕ
  other_mentions no_statement = []
  other_mentions (some_statement s) = statement_mentions s

  pub statements_mentions : TypedStatements → List ℕ
  statements_mentions no_statements = []
  statements_mentions (next_statement s ss) = statement_mentions s ++ statements_mentions ss

-- the body of a function, where it has one
abbrev pub body_mentions : Option TypedStatement → List ℕ
body_mentions None = []
body_mentions (Some s) = statement_mentions s
