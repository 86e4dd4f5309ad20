-- An `if` with an `else`, whose two parts are gone over one after the other.
use Rattle.std.proofs.Common.{◌≡◌, List, ◌++◌, OnOk, refl, ap, sym, ◌∙◌, append_assoc}
use Rattle.std.specs.Prelude.{Result, Ok, Err, Option, Some}
use Rattle.std.specs.declared.alloc.Global.{Global}
use Rattle.std.specs.declared.boxed.Box.{Box}
use Rattle.sp_types.specs.Statements.{typed_statement, if_else, some_statement}
use Rattle.sp_types.specs.TypedView.{boxed_of, statement_of}
use Rattle.sp_types.specs.declared.typed.TypedExpr.{TypedExpr}
use Rattle.sp_types.specs.declared.statement.TypedStatement.{TypedStatement, out-TypedStatement}
use Rattle.sp_types.specs.declared.statement.TypedStatementForm.TheFolds.{fold-roll-TypedStatementForm, fold_out-TypedStatement}
use Rattle.sp_types.specs.declared.statement.TypedStatementForm.TheVariants.{If, rolls-If}

pub if_else-view : (s : TypedStatement) (e : Box TypedExpr Global) (b : Box TypedStatement Global) (other : Option (Box TypedStatement Global)) (o : Box TypedStatement Global) → (out-TypedStatement s).form ≡ If e b other → other ≡ Some o → statement_of s ≡ typed_statement (if_else (boxed_of e) (statement_of b.value) (some_statement (statement_of o.value))) (out-TypedStatement s).place (out-TypedStatement s).end
if_else-view s e b other o h g = rw (fold_out-TypedStatement, h, g) (rw (sym (rolls-If e b (Some o))) (rw fold-roll-TypedStatementForm refl))

pub both : {R E K : Type 0} (r : Result R E) (new mid old first second whole : List K) → whole ≡ first ++ second → mid ≡ old ++ first → OnOk r (new ≡ mid ++ second) → OnOk r (new ≡ old ++ whole)
both (Ok x) new mid old first second whole w m n = n ∙ ap (λ xs. xs ++ second) m ∙ append_assoc old first second ∙ sym (ap (λ xs. old ++ xs) w)
both (Err e) new mid old first second whole w m n = n
