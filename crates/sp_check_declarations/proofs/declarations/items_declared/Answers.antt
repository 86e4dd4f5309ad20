use Rattle.std.proofs.Common.{◌≡◌, [], List, ℕ, map, drop, suc, sym, ap, ◌∙◌, add-one}
use Rattle.std.specs.Prelude.{Err, Vec}
use Rattle.std.specs.declared.alloc.Global.{Global}
use Rattle.std.proofs.lemmas.Result.{err_from_is_err_and}
use Rattle.sp_parse_trees.specs.View.{init_declarators}
use Rattle.sp_types.specs.View.{type_of}
use Rattle.sp_base_checked.specs.Answers.{and_then, AnswersIn}
use Rattle.sp_check_env.specs.Views.{env_of}
use Rattle.sp_expr_check.specs.SyntaxView.{init_declarator_of}
use Rattle.sp_check_declarations.specs.Declarations.{items_declared, item_declared}
use Rattle.sp_check_declarations.proofs.Items.{first_item, no_item_left, taken_in, ended_by, list_failed}
use Rattle.sp_check_declarations.proofs.declarations.items_declared.Goals as goal

pub items-preserved : goal.items-preserved
items-preserved c =
    let items = c.args.items.now in
    let names = c.args.names.now in
    let base = type_of c.args.base.now in
    let whole = items_declared names (env_of c.args.env.now) c.args.class c.args.whole base [] (init_declarators (map init_declarator_of items)) in
    let rest = init_declarators (map init_declarator_of (drop (suc c.items.i) items)) in
    let part = item_declared names (env_of c.items.env) c.args.class c.args.whole base c.items.all.items (init_declarator_of c.index-items-i.result) in
    let first = first_item items c.items.i c.index-items-i.result c.items-test.true c.index-items-i.is in
    let h : and_then part (λ x. items_declared names x.1 c.args.class c.args.whole base x.0 rest) ≡ whole = sym (ap (items_declared names (env_of c.items.env) c.args.class c.args.whole base c.items.all.items) first) ∙ c.items.invariant in
    rw add-one (taken_in part (λ x. items_declared names x.1 c.args.class c.args.whole base x.0 rest) (c.in_ok-all.all.items, env_of c.item_declared.new.env) whole h c.in_ok-all.ensures)

pub returns : goal.returns
returns c =
    sym c.items.invariant ∙ ap (items_declared c.args.names.now (env_of c.items.env) c.args.class c.args.whole (type_of c.args.base.now) c.items.all.items) (no_item_left c.args.items.now c.items.i c.items-test.false)

pub returns-in_err-all : goal.returns-in_err-all
returns-in_err-all c =
    let items = c.args.items.now in
    let names = c.args.names.now in
    let base = type_of c.args.base.now in
    let whole = items_declared names (env_of c.args.env.now) c.args.class c.args.whole base [] (init_declarators (map init_declarator_of items)) in
    let rest = init_declarators (map init_declarator_of (drop (suc c.items.i) items)) in
    let part = item_declared names (env_of c.items.env) c.args.class c.args.whole base c.items.all.items (init_declarator_of c.index-items-i.result) in
    let first = first_item items c.items.i c.index-items-i.result c.items-test.true c.index-items-i.is in
    let h : and_then part (λ x. items_declared names x.1 c.args.class c.args.whole base x.0 rest) ≡ whole = sym (ap (items_declared names (env_of c.items.env) c.args.class c.args.whole base c.items.all.items) first) ∙ c.items.invariant in
    let seen : Vec ℕ Global → List ℕ = λ ks. ks.items in
    let made : AnswersIn seen whole (env_of c.item_declared.new.env) (Err c.in_err-all.field-0.0) =
    list_failed seen seen whole part (env_of c.item_declared.new.env) (env_of c.item_declared.new.env) c.in_err-all.field-0.0 (ended_by part (λ x. items_declared names x.1 c.args.class c.args.whole base x.0 rest) whole h) c.in_err-all.ensures in
    let p = err_from_is_err_and c.from_residual.result c.from_residual.ensures.1 in
    rw (p.1, p.2) made
