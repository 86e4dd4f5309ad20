use Rattle.std.proofs.Common.{◌≡◌, map, length, sym, subst, arith}
use Rattle.std.proofs.lemmas.List.{length-map}
use Rattle.sp_ir.specs.Programs.{lowered_of}
use Rattle.sp_ir.specs.View.{expression_of}
use Rattle.sp_points_rules.specs.Gathered.{Adds}
use Rattle.sp_points_rules.specs.Puts.{PassesAs, as_struct}
use Rattle.sp_points_rules.proofs.Finding.{adds_begin, adds_loop}
use Rattle.sp_points_rules.proofs.Cases.{mapped_at, PassAt, item_adds, passes_adds}
use Rattle.sp_points_rules.proofs.commands.pass_each.Goals as goal

pub loop-place-init : goal.loop-place-init
loop-place-init c = adds_begin c.args.facts.now.rows.now (λ k u x r. PassAt (lowered_of c.args.facts.now.lowered.now) u (expression_of c.args.callee.now) (map expression_of c.args.args.now) k x r) c.args.out.now

pub loop-place-preserved : goal.loop-place-preserved
loop-place-preserved c =
    adds_loop c.args.facts.now.rows.now (λ k u x r. PassAt (lowered_of c.args.facts.now.lowered.now) u (expression_of c.args.callee.now) (map expression_of c.args.args.now) k x r) c.loop-place.place c.args.out.now c.loop-place.out c.pass.new.out c.loop-place.invariant
    (item_adds c.args.facts.now.rows.now c.loop-place.out c.pass.new.out (map expression_of c.args.args.now) c.loop-place.place (expression_of c.index-args-place.result) (λ y u x r. PassesAs (lowered_of c.args.facts.now.lowered.now) u (expression_of c.args.callee.now) (length (map expression_of c.args.args.now)) c.loop-place.place (as_struct y) y x r) (mapped_at expression_of c.args.args.now c.loop-place.place c.index-args-place.result c.loop-place-test.true c.index-args-place.is) (subst (λ n. Adds c.args.facts.now.rows.now (λ u x r. PassesAs (lowered_of c.args.facts.now.lowered.now) u (expression_of c.args.callee.now) n c.loop-place.place (as_struct (expression_of c.index-args-place.result)) (expression_of c.index-args-place.result) x r) c.loop-place.out c.pass.new.out) (sym (length-map c.args.args.now expression_of)) c.in_ok-pass.ensures))

pub returns : goal.returns
returns c =
    let is : c.loop-place.place ≡ length (map expression_of c.args.args.now) = omega (arith, c.loop-place-test.false, length-map c.args.args.now expression_of) in
    passes_adds c.args.facts.now.rows.now c.args.out.now c.loop-place.out (lowered_of c.args.facts.now.lowered.now) (expression_of c.args.callee.now) (map expression_of c.args.args.now) c.loop-place.place is c.loop-place.invariant
