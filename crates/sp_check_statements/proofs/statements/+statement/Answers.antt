use Rattle.std.proofs.Common.{◌≡◌, [], List, map, drop, suc, sym, ap, ◌∙◌, add-one}
use Rattle.std.specs.Prelude.{Err, Vec}
use Rattle.std.specs.declared.alloc.Global.{Global}
use Rattle.std.proofs.lemmas.Result.{err_from_is_err_and}
use Rattle.sp_parse_trees.specs.View.{statement_of as tree_statement_of, statements}
use Rattle.sp_types.specs.Statements.{TypedStatement}
use Rattle.sp_types.specs.TypedView.{statement_of}
use Rattle.sp_types.specs.declared.statement.TypedStatement.{TypedStatement as CodeStatement}
use Rattle.sp_base_checked.specs.Answers.{and_then, AnswersIn}
use Rattle.sp_check_env.specs.Views.{env_of}
use Rattle.sp_check_expr_steps.proofs.Lists.{taken, ended, list_failed}
use Rattle.sp_check_statement_rules.specs.View.{around_of}
use Rattle.sp_check_statements.specs.Statements.{statements_checked, one_statement}
use Rattle.sp_check_statements.proofs.Lists.{first_statement, no_statement_left}
use Rattle.sp_check_statements.proofs.statements.+statement.Goals as goal

pub statements_checked-statements-preserved : goal.statements_checked-statements-preserved
statements_checked-statements-preserved t c =
    let items = c.args.inner.now in
    let names = c.args.names.now in
    let a = around_of c.args.around.now in
    let whole = statements_checked names (env_of c.args.env.now) a [] (statements (map tree_statement_of items)) in
    let rest = statements (map tree_statement_of (drop (suc c.statements.i) items)) in
    let part = one_statement names (env_of c.statements.env) a (map statement_of c.statements.all.items) (tree_statement_of c.index-inner-i.result) in
    let first = first_statement items c.statements.i c.index-inner-i.result c.statements-test.true c.index-inner-i.is in
    let h : and_then part (λ x. statements_checked names x.1 a x.0 rest) ≡ whole = sym (ap (statements_checked names (env_of c.statements.env) a (map statement_of c.statements.all.items)) first) ∙ c.statements.invariant in
    rw add-one (taken part (λ x. statements_checked names x.1 a x.0 rest) (map statement_of c.in_ok-all-2.all.items, env_of c.one_statement.new.env) whole h c.in_ok-all-2.ensures)

pub statements_checked-returns : goal.statements_checked-returns
statements_checked-returns t c =
    sym c.statements.invariant ∙ ap (statements_checked c.args.names.now (env_of c.statements.env) (around_of c.args.around.now) (map statement_of c.statements.all.items)) (no_statement_left c.args.inner.now c.statements.i c.statements-test.false)

pub statements_checked-returns-in_err-all-2 : goal.statements_checked-returns-in_err-all-2
statements_checked-returns-in_err-all-2 t c =
    let items = c.args.inner.now in
    let names = c.args.names.now in
    let a = around_of c.args.around.now in
    let whole = statements_checked names (env_of c.args.env.now) a [] (statements (map tree_statement_of items)) in
    let rest = statements (map tree_statement_of (drop (suc c.statements.i) items)) in
    let part = one_statement names (env_of c.statements.env) a (map statement_of c.statements.all.items) (tree_statement_of c.index-inner-i.result) in
    let first = first_statement items c.statements.i c.index-inner-i.result c.statements-test.true c.index-inner-i.is in
    let h : and_then part (λ x. statements_checked names x.1 a x.0 rest) ≡ whole = sym (ap (statements_checked names (env_of c.statements.env) a (map statement_of c.statements.all.items)) first) ∙ c.statements.invariant in
    let seen : Vec CodeStatement Global → List TypedStatement = λ ts. map statement_of ts.items in
    let made : AnswersIn seen whole (env_of c.one_statement.new.env) (Err c.in_err-all-2.field-0.0) =
    list_failed seen seen whole part (env_of c.one_statement.new.env) (env_of c.one_statement.new.env) c.in_err-all-2.field-0.0 (ended part (λ x. statements_checked names x.1 a x.0 rest) whole h) c.in_err-all-2.ensures in
    let p = err_from_is_err_and c.from_residual-in_err-all-2.result c.from_residual-in_err-all-2.ensures.1 in
    rw (p.1, p.2) made
