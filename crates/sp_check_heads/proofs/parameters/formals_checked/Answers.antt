use Rattle.std.proofs.Common.{◌≡◌, map, drop, suc, sym, ap, ◌∙◌, add-one}
use Rattle.std.specs.Prelude.{Err}
use Rattle.std.proofs.lemmas.Result.{err_from_is_err_and}
use Rattle.sp_parse_trees.specs.View.{param_of, params}
use Rattle.sp_base_checked.specs.Answers.{and_then, AnswersIn}
use Rattle.sp_check_env.specs.Views.{env_of}
use Rattle.sp_check_heads.proofs.Lists.{first_param, no_param_left, taken_in, ended_by, list_failed}
use Rattle.sp_check_heads.specs.Formals.{Read, formals_checked, formal_checked, no_parameters}
use Rattle.sp_check_heads.specs.FormalsView.{read_of}
use Rattle.sp_check_heads.specs.declared.parameters.Read.{Read as CodeRead}
use Rattle.sp_check_heads.proofs.parameters.formals_checked.Goals as goal

pub params-preserved : goal.params-preserved
params-preserved c =
    let items = c.args.params.now in
    let names = c.args.names.now in
    let whole = formals_checked names (env_of c.args.env.now) c.args.alone no_parameters (params (map param_of items)) in
    let rest = params (map param_of (drop (suc c.params.i) items)) in
    let part = formal_checked names (env_of c.params.env) c.args.alone (read_of c.params.read) (param_of c.index-params-i.result) in
    let first = first_param items c.params.i c.index-params-i.result c.params-test.true c.index-params-i.is in
    let h : and_then part (λ x. formals_checked names x.1 c.args.alone x.0 rest) ≡ whole = sym (ap (formals_checked names (env_of c.params.env) c.args.alone (read_of c.params.read)) first) ∙ c.params.invariant in
    rw add-one (taken_in part (λ x. formals_checked names x.1 c.args.alone x.0 rest) (read_of c.in_ok-read.read, env_of c.formal_checked.new.env) whole h c.in_ok-read.ensures)

pub returns : goal.returns
returns c =
    sym c.params.invariant ∙ ap (formals_checked c.args.names.now (env_of c.params.env) c.args.alone (read_of c.params.read)) (no_param_left c.args.params.now c.params.i c.params-test.false)

pub returns-in_err-read : goal.returns-in_err-read
returns-in_err-read c =
    let items = c.args.params.now in
    let names = c.args.names.now in
    let whole = formals_checked names (env_of c.args.env.now) c.args.alone no_parameters (params (map param_of items)) in
    let rest = params (map param_of (drop (suc c.params.i) items)) in
    let part = formal_checked names (env_of c.params.env) c.args.alone (read_of c.params.read) (param_of c.index-params-i.result) in
    let first = first_param items c.params.i c.index-params-i.result c.params-test.true c.index-params-i.is in
    let h : and_then part (λ x. formals_checked names x.1 c.args.alone x.0 rest) ≡ whole = sym (ap (formals_checked names (env_of c.params.env) c.args.alone (read_of c.params.read)) first) ∙ c.params.invariant in
    let seen : CodeRead → Read = read_of in
    let made : AnswersIn seen whole (env_of c.formal_checked.new.env) (Err c.in_err-read.field-0.0) =
    list_failed seen seen whole part (env_of c.formal_checked.new.env) (env_of c.formal_checked.new.env) c.in_err-read.field-0.0 (ended_by part (λ x. formals_checked names x.1 c.args.alone x.0 rest) whole h) c.in_err-read.ensures in
    let p = err_from_is_err_and c.from_residual.result c.from_residual.ensures.1 in
    rw (p.1, p.2) made
