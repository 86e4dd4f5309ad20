use Rattle.std.proofs.Common.{◌≡◌, ◌++◌, filter, drop}
use Rattle.std.specs.Prelude.{unwrap_or}
use Rattle.indexmap.specs.IndexMap.{get}
use Rattle.sp_link_agreement.specs.Inner.{same_entity}
use Rattle.sp_link_structs.proofs.numbers.representatives.Given as goal

abbrev pub invariant-all : goal.invariant-all
invariant-all l =
    l.found.items ++ filter (λ x. same_entity (unwrap_or (get same_entity l.stand_ins x) x) x) (drop l.i l.all)
    ≡ filter (λ x. same_entity (unwrap_or (get same_entity l.stand_ins x) x) x) l.all
