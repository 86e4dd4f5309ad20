use Rattle.std.proofs.Common.{ℕ, map, option_map, refl}
use Rattle.sp_ir.specs.View.{expression_of, lvalue_of}
use Rattle.sp_effect_rows.specs.Updates.{store_of}
use Rattle.sp_effect_scene.specs.View.{analysed_of}
use Rattle.sp_effect_library.specs.Written.{written_by}
use Rattle.sp_effect_library.specs.Effects.{writing, giving}
use Rattle.sp_effect_library.proofs.EffectSteps.{both-rows}
use Rattle.sp_effect_library.proofs.effects.call_routine.Goals as goal

pub returns : goal.returns
returns g c = λ l h.
    let a = analysed_of c.args.analysis.now in
    let s : ℕ → _ = λ n. g.V.View.store c.args.view.now n in
    let args = map expression_of c.args.call.now.args.now in
    both-rows (writing a args c.args.call.now.site (written_by c.args.call.now.which) s) (giving a args c.args.call.now.site c.args.call.now.which (option_map (λ k. lvalue_of k.now) c.args.call.now.to) s)
    (λ (n : ℕ). store_of c.args.places.now c.args.row.now n) l (store_of c.args.places.now c.write.new.row l) (store_of c.args.places.now c.give.new.row l) refl (c.in_ok-write.ensures l h) (c.in_ok-give.ensures l h)
