use Rattle.std.proofs.Common.{◌≡◌, map, length, arith}
use Rattle.std.proofs.lemmas.List.{length-map}
use Rattle.sp_ir.specs.Programs.{lowered_of}
use Rattle.sp_ir.specs.View.{leaf_of}
use Rattle.sp_points_rules.specs.Sources.{regions, region}
use Rattle.sp_points_rules.specs.Puts.{all_of, Product}
use Rattle.sp_points_rules.proofs.Finding.{adds_begin, adds_loop}
use Rattle.sp_points_rules.proofs.Cases.{mapped_at, LeafAt, item_adds, leaves_adds}
use Rattle.sp_points_rules.proofs.commands.leaves_put.Goals as goal

pub loop-leaf-init : goal.loop-leaf-init
loop-leaf-init c = adds_begin c.args.facts.now.rows.now (λ k u x r. LeafAt (lowered_of c.args.facts.now.lowered.now) u (map leaf_of c.args.leaves.now) k x r) c.args.out.now

pub loop-leaf-preserved : goal.loop-leaf-preserved
loop-leaf-preserved c =
    adds_loop c.args.facts.now.rows.now (λ k u x r. LeafAt (lowered_of c.args.facts.now.lowered.now) u (map leaf_of c.args.leaves.now) k x r) c.loop-leaf.leaf-index c.args.out.now c.loop-leaf.out c.leaf_put.new.out c.loop-leaf.invariant
    (item_adds c.args.facts.now.rows.now c.loop-leaf.out c.leaf_put.new.out (map leaf_of c.args.leaves.now) c.loop-leaf.leaf-index (leaf_of c.leaf-item.result) (λ y u x r. Product (lowered_of c.args.facts.now.lowered.now) u (all_of (region y.cell)) (all_of (regions y.value)) x r) (mapped_at leaf_of c.args.leaves.now c.loop-leaf.leaf-index c.leaf-item.result c.loop-leaf-test.true c.leaf-item.is) c.in_ok-leaf_put.ensures)

pub returns : goal.returns
returns c =
    let is : c.loop-leaf.leaf-index ≡ length (map leaf_of c.args.leaves.now) = omega (arith, c.loop-leaf-test.false, length-map c.args.leaves.now leaf_of) in
    leaves_adds c.args.facts.now.rows.now c.args.out.now c.loop-leaf.out (lowered_of c.args.facts.now.lowered.now) (map leaf_of c.args.leaves.now) c.loop-leaf.leaf-index is c.loop-leaf.invariant
