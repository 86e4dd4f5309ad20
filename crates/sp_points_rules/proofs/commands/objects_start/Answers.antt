use Rattle.std.proofs.Common.{◌≡◌, Some, map, length, ap, subst, arith}
use Rattle.std.specs.Prelude.{slice_get}
use Rattle.std.proofs.lemmas.List.{length-map}
use Rattle.sp_ir.specs.Programs.{lowered_of, object_of}
use Rattle.sp_ir.specs.View.{leaf_of}
use Rattle.sp_points_rules.specs.Gathered.{Adds}
use Rattle.sp_points_rules.specs.Puts.{PutsLeaf}
use Rattle.sp_points_rules.proofs.Finding.{adds_begin, adds_loop}
use Rattle.sp_points_rules.proofs.Cases.{mapped_at, StartAt, item_adds, start_adds}
use Rattle.sp_points_rules.proofs.commands.objects_start.Goals as goal

pub loop-object-init : goal.loop-object-init
loop-object-init c = adds_begin c.args.facts.now.rows.now (λ k u x r. StartAt (lowered_of c.args.facts.now.lowered.now) u k x r) c.args.out.now

pub loop-object-preserved : goal.loop-object-preserved
loop-object-preserved c =
    adds_loop c.args.facts.now.rows.now (λ k u x r. StartAt (lowered_of c.args.facts.now.lowered.now) u k x r) c.loop-object.object-index c.args.out.now c.loop-object.out c.leaves_put.new.out c.loop-object.invariant
    (item_adds c.args.facts.now.rows.now c.loop-object.out c.leaves_put.new.out (lowered_of c.args.facts.now.lowered.now).objects c.loop-object.object-index (object_of c.object-item.result) (λ y u x r. PutsLeaf (lowered_of c.args.facts.now.lowered.now) u y.start x r) (subst (λ os. slice_get os c.loop-object.object-index ≡ Some (object_of c.object-item.result)) c.requires (mapped_at object_of c.args.objects.now c.loop-object.object-index c.object-item.result c.loop-object-test.true c.object-item.is)) (subst (λ ls. Adds c.args.facts.now.rows.now (λ u x r. PutsLeaf (lowered_of c.args.facts.now.lowered.now) u (map leaf_of ls) x r) c.loop-object.out c.leaves_put.new.out) c.deref.ensures.value c.in_ok-leaves_put.ensures))

pub returns : goal.returns
returns c =
    let is : c.loop-object.object-index ≡ length (lowered_of c.args.facts.now.lowered.now).objects = omega (arith, c.loop-object-test.false, length-map c.args.objects.now object_of, ap length c.requires) in
    start_adds c.args.facts.now.rows.now c.args.out.now c.loop-object.out (lowered_of c.args.facts.now.lowered.now) c.loop-object.object-index is c.loop-object.invariant
