use Rattle.std.proofs.Common.{◌≡◌, ◌<◌, [], drop, length, suc, sym, ap, ◌∙◌, add-one, drop-set-lt, arith}
use Rattle.std.specs.Prelude.{slice_set}
use Rattle.sp_parse_trees.specs.View.{external_of, externals_of}
use Rattle.sp_base_checked.specs.Answers.{and_then}
use Rattle.sp_check_env.specs.Views.{env_of}
use Rattle.sp_check_expr_steps.proofs.Lists.{taken}
use Rattle.sp_decl_check.specs.Definitions.{externals_checked, external_checked, kept_of}
use Rattle.sp_decl_check.proofs.Lists.{first_external, same_open}
use Rattle.sp_decl_check.proofs.definitions.externals_checked.Goals as goal

pub loop-external-preserved : goal.loop-external-preserved
loop-external-preserved c =
    let items = c.loop-external.externals in
    let i = c.loop-external.external-index in
    let x = c.external-item.result in
    let y = c.drop_definition.new.external in
    let names = c.args.names.now in
    let whole = externals_checked names (env_of c.args.env.now) [] (externals_of c.args.externals.now) in
    let rest = externals_of (drop (suc i) items) in
    let part = external_checked names (env_of c.loop-external.env) c.loop-external.defined.items (external_of x) in
    let here : i < length items = omega (arith, c.loop-external-test.true, c.loop-external.auto.externals) in
    let is = c.external-item.is in
    let kept : external_of y ≡ kept_of (external_of x) = c.drop_definition.ensures ∙ ap (λ e. kept_of (external_of e)) (sym is) in
    let first = first_external items i x here is in
    let h : and_then part (λ x. externals_checked names x.1 x.0 rest) ≡ whole = sym (ap (externals_checked names (env_of c.loop-external.env) c.loop-external.defined.items) first) ∙ c.loop-external.invariant.0 in
    let behind : externals_of (drop (suc i) (slice_set items i y)) ≡ rest = ap externals_of (drop-set-lt (suc i) items i y (omega arith)) in (
      rw add-one (ap (externals_checked names (env_of c.external_checked.new.env) c.in_ok-defined.defined.items) behind
          ∙ taken part (λ x. externals_checked names x.1 x.0 rest) (c.in_ok-defined.defined.items, env_of c.external_checked.new.env) whole h
          (ap (λ e. external_checked names (env_of c.loop-external.env) c.loop-external.defined.items (external_of e)) is ∙ c.in_ok-defined.ensures)),
      λ env. same_open items i x y here is kept env ∙ c.loop-external.invariant.1 env,
    )
