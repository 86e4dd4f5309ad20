-- The plain typed tree that a value of the code stands for.
use Rattle.std.specs.Prelude.{List, [], ◌∷◌, Option, Some, None, option_map}
use Rattle.std.specs.declared.alloc.Global.{Global}
use Rattle.std.specs.declared.boxed.Box.{Box}
use Rattle.sp_types.specs.View.{type_of}
use Rattle.sp_types.specs.Wide.{wide_of}
use Rattle.sp_types.specs.Typed.{Typed, typed, TypedForm, number, character, constant, object, function, convert, decay, index, call, member, arrow, after, unary, cast, binary, choice, assign, comma, TypedList, no_typed, next_typed}
use Rattle.sp_types.specs.Statements.{TypedStatement, typed_statement, TypedStatementForm, label, case_of, default_of, block, empty, single, if_else, switch_on, while_loop, do_loop, for_loop, goto_name, continue_loop, break_out, return_value, MaybeTypedStatement, no_statement, some_statement, TypedStatements, no_statements, next_statement}
use Rattle.sp_types.specs.declared.statement.TypedStatement.{TypedStatement as CodeStatement, fold-TypedStatement}
use Rattle.sp_types.specs.declared.statement.TypedStatementForm.{TypedStatementForm as CodeStatementForm, fold-TypedStatementForm}
use Rattle.sp_types.specs.declared.statement.TypedStatementForm.TheOpen.{TypedStatementForm-F, TypedStatement-F, Label, Case, Default, Block, Empty, Of, If, Switch, While, Do, For, Goto, Continue, Break, Return}
use Rattle.sp_types.specs.declared.typed.TypedExpr.{TypedExpr, fold-TypedExpr}
use Rattle.sp_types.specs.declared.typed.TypedForm.{TypedForm as CodeForm, fold-TypedForm}
use Rattle.sp_types.specs.declared.typed.TypedForm.TheOpen.{TypedForm-F, TypedExpr-F, Number, Char, Constant, Object, Function, Convert, Decay, Index, Call, Member, Arrow, After, Unary, Cast, Binary, Choice, Assign, Comma}

abbrev pub typed_list : List Typed → TypedList
typed_list [] = no_typed
typed_list (t ∷ ts) = next_typed t (typed_list ts)

abbrev pub form_step : TypedForm-F TypedForm Typed → TypedForm
form_step (Number n) = number n
form_step (Char z) = character z
form_step (Constant w) = constant (wide_of w)
form_step (Object k) = object k
form_step (Function k) = function k
form_step (Convert e) = convert e.value
form_step (Decay e) = decay e.value
form_step (Index a b) = index a.value b.value
form_step (Call f es) = call f.value (typed_list es.items)
form_step (Member e n) = member e.value n
form_step (Arrow e n) = arrow e.value n
form_step (After op e) = after op e.value
form_step (Unary op e) = unary op e.value
form_step (Cast e) = cast e.value
form_step (Binary op a b) = binary op a.value b.value
form_step (Choice c a b) = choice c.value a.value b.value
form_step (Assign op a b) = assign op a.value b.value
form_step (Comma a b) = comma a.value b.value

abbrev pub typed_step : TypedExpr-F TypedForm Typed → Typed
typed_step e = typed e.form (type_of e.of) e.place e.mark

abbrev pub typed_of : TypedExpr → Typed
typed_of = fold-TypedExpr TypedForm Typed form_step typed_step

abbrev pub typed_form_of : CodeForm → TypedForm
typed_form_of = fold-TypedForm TypedForm Typed form_step typed_step

-- the tree that a box holds
abbrev pub boxed_of : Box TypedExpr Global → Typed
boxed_of e = typed_of e.value

-- ---- statements

abbrev pub maybe_statement : Option (Box TypedStatement Global) → MaybeTypedStatement
maybe_statement None = no_statement
maybe_statement (Some s) = some_statement s.value

abbrev pub statement_list : List TypedStatement → TypedStatements
statement_list [] = no_statements
statement_list (s ∷ ss) = next_statement s (statement_list ss)

abbrev pub statement_form_step : TypedStatementForm-F TypedStatementForm TypedStatement → TypedStatementForm
statement_form_step (Label n s) = label n s.value
statement_form_step (Case z s) = case_of z s.value
statement_form_step (Default s) = default_of s.value
statement_form_step (Block os ss) = block os.items (statement_list ss.items)
statement_form_step Empty = empty
statement_form_step (Of e) = single (boxed_of e)
statement_form_step (If e s other) = if_else (boxed_of e) s.value (maybe_statement other)
statement_form_step (Switch e s) = switch_on (boxed_of e) s.value
statement_form_step (While e s) = while_loop (boxed_of e) s.value
statement_form_step (Do s e) = do_loop s.value (boxed_of e)
statement_form_step (For a b c s) = for_loop (option_map boxed_of a) (option_map boxed_of b) (option_map boxed_of c) s.value
statement_form_step (Goto n) = goto_name n
statement_form_step Continue = continue_loop
statement_form_step Break = break_out
statement_form_step (Return e) = return_value (option_map boxed_of e)

abbrev pub statement_step : TypedStatement-F TypedStatementForm TypedStatement → TypedStatement
statement_step s = typed_statement s.form s.place s.end

abbrev pub statement_of : CodeStatement → TypedStatement
statement_of = fold-TypedStatement TypedStatementForm TypedStatement statement_form_step statement_step

abbrev pub statement_form_of : CodeStatementForm → TypedStatementForm
statement_form_of = fold-TypedStatementForm TypedStatementForm TypedStatement statement_form_step statement_step
