-- Typed statements without pointers (C90 6.6).
use Rattle.std.specs.Prelude.{ℕ, ℤ, List, Option}
use Rattle.sp_tree.specs.declared.fault.Place.{Place}
use Rattle.sp_types.specs.Typed.{Typed}

mutual
  -- its form, its place and its end
  pub data TypedStatement : Type 0 where
    typed_statement : TypedStatementForm → Place → Place → TypedStatement

  pub data TypedStatementForm : Type 0 where
    label : ℕ → TypedStatement → TypedStatementForm
    case_of : ℤ → TypedStatement → TypedStatementForm
    default_of : TypedStatement → TypedStatementForm
    block : List ℕ → TypedStatements → TypedStatementForm
    empty : TypedStatementForm
    single : Typed → TypedStatementForm
    if_else : Typed → TypedStatement → MaybeTypedStatement → TypedStatementForm
    switch_on : Typed → TypedStatement → TypedStatementForm
    while_loop : Typed → TypedStatement → TypedStatementForm
    do_loop : TypedStatement → Typed → TypedStatementForm
    for_loop : Option Typed → Option Typed → Option Typed → TypedStatement → TypedStatementForm
    goto_name : ℕ → TypedStatementForm
    continue_loop : TypedStatementForm
    break_out : TypedStatementForm
    return_value : Option Typed → TypedStatementForm

  pub data MaybeTypedStatement : Type 0 where
    no_statement : MaybeTypedStatement
    some_statement : TypedStatement → MaybeTypedStatement

  pub data TypedStatements : Type 0 where
    no_statements : TypedStatements
    next_statement : TypedStatement → TypedStatements → TypedStatements

abbrev pub form_of : TypedStatement → TypedStatementForm
form_of (typed_statement f p e) = f

abbrev pub place_of : TypedStatement → Place
place_of (typed_statement f p e) = p

abbrev pub end_of : TypedStatement → Place
end_of (typed_statement f p e) = e
