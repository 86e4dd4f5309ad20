use Rattle.std.proofs.Common.{◌≡◌, refl, sym, Some}
use Rattle.sp_parse_trees.specs.declared.tree.DeclaratorForm.TheFolds.{fold-roll-Declarator, fold-roll-DeclaratorForm}
use Rattle.sp_parse_trees.specs.declared.tree.DeclaratorForm.TheVariants.{rolls-Array}
use Rattle.sp_parse_trees.proofs.TreeViews.{declarator_place-view}
use Rattle.sp_parse_trees.proofs.tree.Declarator.array.Goals as goal

pub returns : goal.returns
returns c =
    let same : c.in_ok-inner.inner.value ≡ c.args.inner = c.in_ok-inner.ensures.ok in
    let length : c.in_ok-length.length.value ≡ c.args.length = c.in_ok-length.ensures.ok in
    rw fold-roll-Declarator (rw (sym (rolls-Array c.in_ok-inner.inner (Some c.in_ok-length.length))) (rw fold-roll-DeclaratorForm (rw (same, length, declarator_place-view) refl)))
