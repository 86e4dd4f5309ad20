use Rattle.std.proofs.Common.{◌≡◌, map, subst, ap, ◌∙◌}
use Rattle.sp_base_checked.specs.Units.{checked_unit_of}
use Rattle.sp_link_structs.specs.Matching.{matching_of}
use Rattle.sp_link_agreement.specs.Depths.{tables}
use Rattle.sp_link_structs.specs.Matched.{matched, AreMatched}
use Rattle.sp_link_structs.proofs.NumberLaws.{tables_are}
use Rattle.sp_link_structs.proofs.Tests.{if_ok}
use Rattle.sp_link_structs.proofs.matchings.matching.Goals as goal

pub returns : goal.returns
returns c =
    if_ok c.number.result
    (λ m. matching_of m ≡ matched (tables c.args.units.now) c.deref-3.result.now)
    (λ m. AreMatched (map (λ u. u.structs) (map checked_unit_of c.args.units.now)) (matching_of m))
    (λ m h. subst (λ ts. AreMatched ts (matching_of m)) (tables_are c.args.units.now)
    (c.in_ok-stand_ins.stand_ins.items, c.in_ok-stand_ins.ensures, h ∙ ap (matched (tables c.args.units.now)) c.deref-3.ensures.value))
    c.number.ensures
