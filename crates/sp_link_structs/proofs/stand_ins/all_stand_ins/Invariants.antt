use Rattle.std.proofs.Common.{◌≡◌, ◌++◌, map, drop}
use Rattle.sp_link_agreement.specs.Depths.{tables}
use Rattle.sp_link_structs.specs.Leading.{leader_by}
use Rattle.sp_link_structs.specs.Matched.{final_stand_in}
use Rattle.sp_link_structs.proofs.stand_ins.all_stand_ins.Given as goal

abbrev pub invariant-all : goal.invariant-all
invariant-all l =
    l.pairs.items ++ map (λ x. (x, final_stand_in (tables l.units) (leader_by l.leaders) x)) (drop l.i l.all)
    ≡ map (λ x. (x, final_stand_in (tables l.units) (leader_by l.leaders) x)) l.all
