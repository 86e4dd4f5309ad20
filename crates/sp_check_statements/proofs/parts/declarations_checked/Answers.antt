use Rattle.std.proofs.Common.{◌≡◌, [], List, ℕ, map, drop, suc, sym, ap, ◌∙◌, add-one}
use Rattle.std.specs.Prelude.{Err, Vec}
use Rattle.std.specs.declared.alloc.Global.{Global}
use Rattle.std.proofs.lemmas.Result.{err_from_is_err_and}
use Rattle.sp_parse_trees.specs.View.{declaration_of, declarations}
use Rattle.sp_base_checked.specs.Answers.{and_then, AnswersIn}
use Rattle.sp_check_env.specs.Views.{env_of}
use Rattle.sp_check_expr_steps.proofs.Braces.{first_declaration, no_declaration_left}
use Rattle.sp_check_expr_steps.proofs.Lists.{taken, ended, list_failed}
use Rattle.sp_check_statements.specs.Parts.{declarations_checked, one_declaration}
use Rattle.sp_check_statements.proofs.parts.declarations_checked.Goals as goal

pub declarations-preserved : goal.declarations-preserved
declarations-preserved c =
    let items = c.args.written.now in
    let names = c.args.names.now in
    let whole = declarations_checked names (env_of c.args.env.now) [] (declarations (map declaration_of items)) in
    let rest = declarations (map declaration_of (drop (suc c.declarations.i) items)) in
    let part = one_declaration names (env_of c.declarations.env) c.declarations.all.items (declaration_of c.index-written-i.result) in
    let first = first_declaration items c.declarations.i c.index-written-i.result c.declarations-test.true c.index-written-i.is in
    let h : and_then part (λ x. declarations_checked names x.1 x.0 rest) ≡ whole = sym (ap (declarations_checked names (env_of c.declarations.env) c.declarations.all.items) first) ∙ c.declarations.invariant in
    rw add-one (taken part (λ x. declarations_checked names x.1 x.0 rest) (c.in_ok-all.all.items, env_of c.with_declaration.new.env) whole h c.in_ok-all.ensures)

pub returns : goal.returns
returns c =
    sym c.declarations.invariant ∙ ap (declarations_checked c.args.names.now (env_of c.declarations.env) c.declarations.all.items) (no_declaration_left c.args.written.now c.declarations.i c.declarations-test.false)

pub returns-in_err-all : goal.returns-in_err-all
returns-in_err-all c =
    let items = c.args.written.now in
    let names = c.args.names.now in
    let whole = declarations_checked names (env_of c.args.env.now) [] (declarations (map declaration_of items)) in
    let rest = declarations (map declaration_of (drop (suc c.declarations.i) items)) in
    let part = one_declaration names (env_of c.declarations.env) c.declarations.all.items (declaration_of c.index-written-i.result) in
    let first = first_declaration items c.declarations.i c.index-written-i.result c.declarations-test.true c.index-written-i.is in
    let h : and_then part (λ x. declarations_checked names x.1 x.0 rest) ≡ whole = sym (ap (declarations_checked names (env_of c.declarations.env) c.declarations.all.items) first) ∙ c.declarations.invariant in
    let seen : Vec ℕ Global → List ℕ = λ ks. ks.items in
    let made : AnswersIn seen whole (env_of c.with_declaration.new.env) (Err c.in_err-all.field-0.0) =
    list_failed seen seen whole part (env_of c.with_declaration.new.env) (env_of c.with_declaration.new.env) c.in_err-all.field-0.0 (ended part (λ x. declarations_checked names x.1 x.0 rest) whole h) c.in_err-all.ensures in
    let p = err_from_is_err_and c.from_residual.result c.from_residual.ensures.1 in
    rw (p.1, p.2) made
