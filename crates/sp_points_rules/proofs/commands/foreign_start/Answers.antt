use Rattle.std.proofs.Common.{◌≡◌, Some, length, sym, ap, subst, arith}
use Rattle.std.specs.Prelude.{slice_get}
use Rattle.std.proofs.lemmas.List.{length-map}
use Rattle.sp_ir.specs.Programs.{lowered_of, object_of}
use Rattle.sp_points_rules.specs.Gathered.{Adds}
use Rattle.sp_points_rules.specs.Foreign.{PutsForeignAt}
use Rattle.sp_points_rules.proofs.Finding.{adds_begin, adds_loop}
use Rattle.sp_points_rules.proofs.Cases.{mapped_at, ForeignAt, item_adds, foreign_adds}
use Rattle.sp_points_rules.proofs.commands.foreign_start.Goals as goal

pub loop-number-init : goal.loop-number-init
loop-number-init c = adds_begin c.args.facts.now.rows.now (λ k u x r. ForeignAt (lowered_of c.args.facts.now.lowered.now) u k x r) c.args.out.now

pub loop-number-preserved : goal.loop-number-preserved
loop-number-preserved c =
    adds_loop c.args.facts.now.rows.now (λ k u x r. ForeignAt (lowered_of c.args.facts.now.lowered.now) u k x r) c.loop-number.number c.args.out.now c.loop-number.out c.foreign_at.new.out c.loop-number.invariant
    (item_adds c.args.facts.now.rows.now c.loop-number.out c.foreign_at.new.out (lowered_of c.args.facts.now.lowered.now).objects c.loop-number.number (object_of c.index-objects-number.result) (λ y u x r. PutsForeignAt (lowered_of c.args.facts.now.lowered.now) u c.loop-number.number y.kind x r) (subst (λ os. slice_get os c.loop-number.number ≡ Some (object_of c.index-objects-number.result)) c.requires.same (mapped_at object_of c.args.objects.now c.loop-number.number c.index-objects-number.result c.loop-number-test.true c.index-objects-number.is)) (subst (λ o. Adds c.args.facts.now.rows.now (λ u x r. PutsForeignAt (lowered_of c.args.facts.now.lowered.now) u c.loop-number.number o.kind x r) c.loop-number.out c.foreign_at.new.out) (sym c.index-objects-number.is) c.in_ok-foreign_at.ensures))

pub returns : goal.returns
returns c =
    let is : c.loop-number.number ≡ length (lowered_of c.args.facts.now.lowered.now).objects = omega (arith, c.loop-number-test.false, length-map c.args.objects.now object_of, ap length c.requires.same) in
    foreign_adds c.args.facts.now.rows.now c.args.out.now c.loop-number.out (lowered_of c.args.facts.now.lowered.now) c.loop-number.number is c.loop-number.invariant
