use Rattle.std.proofs.Common.{◌≡◌, ◌+◌, ◌∙◌, ◌||◌, ℕ, true, take, sym, ap, arith}
use Rattle.std.proofs.lemmas.List.Folds.{list_any_at}
use Rattle.sp_points_expr.specs.Growing.{in_put, in_puts}
use Rattle.sp_points_expr.proofs.Growth.{grows_then}
use Rattle.sp_base_sets.proofs.Images.{or-cases, or-left, or-right}
use Rattle.sp_points_expr.proofs.Adding.{put_more}
use Rattle.sp_points_expr.proofs.growing.put_each.Goals as goal

pub put_all-requires-clause-there : goal.put_all-requires-clause-there
put_all-requires-clause-there c k r h =
    let puts = c.args.puts.now in
    let i = c.loop-put.put-index in
    let put = c.put-item.result in
    let low = c.requires.there k r (list_any_at (λ q. in_put q k r) puts i put c.loop-put-test.true (ap (λ q. in_put q k r) (sym c.put-item.is) ∙ h)) in
    omega (arith, low, c.loop-put.invariant.rows)

pub loop-put-preserved : goal.loop-put-preserved
loop-put-preserved c =
    let puts = c.args.puts.now in
    let i = c.loop-put.put-index in
    let put = c.put-item.result in
    let more : (k r : ℕ) → in_puts (take (i + 1) puts) k r ≡ (in_puts (take i puts) k r || in_put put k r) = λ k r. put_more puts i put c.loop-put-test.true k r ∙ ap (λ q. in_puts (take i puts) k r || in_put q k r) (sym c.put-item.is) in
    grows_then (λ k r. in_puts (take i puts) k r ≡ true) (λ k r. in_put put k r ≡ true) (λ k r. in_puts (take (i + 1) puts) k r ≡ true)
    c.args.growing.now c.loop-put.growing c.put_all.new.growing c.loop-put.invariant c.in_ok-put_all.ensures
    (λ k r h. or-cases (in_puts (take i puts) k r) (in_put put k r) (sym (more k r) ∙ h))
    (λ k r h. more k r ∙ or-left (in_puts (take i puts) k r) (in_put put k r) h)
    (λ k r h. more k r ∙ or-right (in_puts (take i puts) k r) (in_put put k r) h)
