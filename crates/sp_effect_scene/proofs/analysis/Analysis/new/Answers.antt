use Rattle.std.proofs.Common.{◌≡◌, ◌≤◌, ◌+◌, ◌*◌, ℕ, Bool, true, false, List, ℤ, length, subst, arith}
use Rattle.sp_lattice.specs.Ladder.{IsLadderOf}
use Rattle.sp_ir.specs.Programs.{lowered_of}
use Rattle.sp_base_sets.specs.Reached.{row}
use Rattle.sp_graph.specs.Supergraph.{IsSupergraph}
use Rattle.sp_effect_scene.specs.Whole.{most_constants}
use Rattle.sp_effect_scene.specs.Cells.{rising}
use Rattle.sp_effect_scene.proofs.Past.{objects-few}
use Rattle.sp_effect_scene.proofs.analysis.Analysis.new.Goals as goal

pub locations_of-requires : goal.locations_of-requires
locations_of-requires c = c.requires.few_regions

few : (sharp : Bool) (most n : ℕ) → most ≡ most_constants sharp → n ≤ 25 + 3 * most → n ≤ 3097
few true most n is low = omega (arith, is, low)
few false most n is low = omega (arith, is, low)

pub invariant_of-result : goal.invariant_of-result
invariant_of-result c = record {
  cells = c.in_ok-locations.ensures;
  points = c.points-points.ensures.ladder;
  grouped = c.in_ok-groups.ensures;
  graphed = ∣ subst (λ calls. IsSupergraph (lowered_of c.args.lowered) calls false c.in_ok-flow.flow) c.calls.ensures c.in_ok-flow.ensures ∣₁;
  few = objects-few (lowered_of c.args.lowered) c.requires;
  whole = ∣ record {
    formed = c.requires;
    points_to = c.in_ok-pre.ensures.least;
    ascending = λ k. rising (row c.in_ok-pre.pre.rows k) (c.in_ok-pre.ensures.ascending k);
    calls = c.in_ok-pre.ensures.calls;
    callees = c.in_ok-pre.ensures.callees;
    recursive = c.in_ok-pre.ensures.recursive;
    ladder = c.points-points.ensures.ladder;
    few_points = few c.args.sharp c.most_constants-most.result (length c.in_ok-ladder.ladder) c.most_constants-most.ensures c.in_ok-ladder.ensures.few;
  } ∣₁;
}

pub returns-clause-points : goal.returns-clause-points
returns-clause-points c =
    subst (λ (most : ℕ). IsLadderOf most (lowered_of c.args.lowered).constants c.in_ok-ladder.ladder) c.most_constants-most.ensures
    (subst (λ (cs : List ℤ). IsLadderOf c.most_constants-most.result cs c.in_ok-ladder.ladder) c.as_slice.ensures.value c.in_ok-ladder.ensures.points)
