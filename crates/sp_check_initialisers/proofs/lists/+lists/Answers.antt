use Rattle.std.proofs.Common.{◌≡◌, List, ℕ, map, drop, suc, refl, sym, ap, ◌∙◌, add-one}
use Rattle.std.specs.Prelude.{Err, Vec}
use Rattle.std.specs.declared.alloc.Global.{Global}
use Rattle.std.proofs.lemmas.Result.{err_from_is_err_and}
use Rattle.sp_types.specs.Typed.{Typed}
use Rattle.sp_types.specs.declared.typed.TypedExpr.{TypedExpr}
use Rattle.sp_parse_trees.specs.declared.tree.DeclaratorForm.TheFolds.{fold-roll-Init}
use Rattle.sp_parse_trees.specs.declared.tree.Init.TheVariants.{rolls-List}
use Rattle.sp_parse_trees.specs.View.{inits}
use Rattle.sp_base_checked.specs.Answers.{and_then, AnswersIn}
use Rattle.sp_check_env.specs.Views.{env_of}
use Rattle.sp_check_primaries.specs.Literals.{leaf_seen}
use Rattle.sp_check_initialisers.specs.InitView.{init_of, progress_of}
use Rattle.sp_check_initialisers.specs.Initialisers.{filled, next_filled, inits_of}
use Rattle.sp_check_initialisers.proofs.Walking.{first_init, no_init_left, taken_in, ended_by, list_failed}
use Rattle.sp_check_initialisers.proofs.lists.+lists.Goals as goal

pub filled-inits-init : goal.filled-inits-init
filled-inits-init t c =
    let items = c.deref-next-items.result.now in
    let same : inits_of (init_of c.args.init.now) ≡ inits (map init_of items) = rw c.in-List.is (rw (sym (rolls-List c.in-List.list c.in-List.field-1)) (rw fold-roll-Init (rw c.deref-next-items.ensures.value refl))) in
    sym (ap (filled c.args.names.now (env_of c.args.env.now) c.args.target (progress_of c.args.progress)) same)

pub filled-inits-preserved : goal.filled-inits-preserved
filled-inits-preserved t c =
    let items = c.deref-next-items.result.now in
    let names = c.args.names.now in
    let whole = filled names (env_of c.args.env.now) c.args.target (progress_of c.args.progress) (inits_of (init_of c.args.init.now)) in
    let rest = inits (map init_of (drop (suc c.inits.i) items)) in
    let part = next_filled names (env_of c.inits.env) c.args.target (progress_of c.inits.progress) (init_of c.next-item.result) in
    let first = first_init items c.inits.i c.next-item.result c.inits-test.true c.next-item.is in
    let h : and_then part (λ x. filled names x.1 c.args.target x.0 rest) ≡ whole = sym (ap (filled names (env_of c.inits.env) c.args.target (progress_of c.inits.progress)) first) ∙ c.inits.invariant in
    rw add-one (taken_in part (λ x. filled names x.1 c.args.target x.0 rest) (progress_of c.in_ok-progress.progress, env_of c.next_filled.new.env) whole h c.in_ok-progress.ensures)

pub filled-returns : goal.filled-returns
filled-returns t c =
    let items = c.deref-next-items.result.now in
    sym c.inits.invariant ∙ ap (filled c.args.names.now (env_of c.inits.env) c.args.target (progress_of c.inits.progress)) (no_init_left items c.inits.i c.inits-test.false)

pub filled-returns-in_err-progress : goal.filled-returns-in_err-progress
filled-returns-in_err-progress t c =
    let items = c.deref-next-items.result.now in
    let names = c.args.names.now in
    let whole = filled names (env_of c.args.env.now) c.args.target (progress_of c.args.progress) (inits_of (init_of c.args.init.now)) in
    let rest = inits (map init_of (drop (suc c.inits.i) items)) in
    let part = next_filled names (env_of c.inits.env) c.args.target (progress_of c.inits.progress) (init_of c.next-item.result) in
    let first = first_init items c.inits.i c.next-item.result c.inits-test.true c.next-item.is in
    let h : and_then part (λ x. filled names x.1 c.args.target x.0 rest) ≡ whole = sym (ap (filled names (env_of c.inits.env) c.args.target (progress_of c.inits.progress)) first) ∙ c.inits.invariant in
    let seen : Vec (ℕ × TypedExpr) Global → List (ℕ × Typed) = λ v. map leaf_seen v.items in
    let made : AnswersIn seen whole (env_of c.next_filled.new.env) (Err c.in_err-progress.field-0.0) =
    list_failed seen progress_of whole part (env_of c.next_filled.new.env) (env_of c.next_filled.new.env) c.in_err-progress.field-0.0 (ended_by part (λ x. filled names x.1 c.args.target x.0 rest) whole h) c.in_err-progress.ensures in
    let p = err_from_is_err_and c.from_residual.result c.from_residual.ensures.1 in
    rw (p.1, p.2) made
