use Rattle.std.proofs.Common.{◌∙◌, ℕ, List, length, [], ap, sym, arith}
use Rattle.std.proofs.lemmas.List.{length-map, length-replicate}
use Rattle.sp_ir.specs.Programs.{lowered_of, object_of}
use Rattle.sp_points_rules.proofs.Ranges.{all_groups}
use Rattle.sp_points_rules.proofs.groups.by_object.Goals as goal

pub returns-clause-under : goal.returns-clause-under
returns-clause-under c =
    let objects = c.args.lowered.now.objects in
    let none : List ℕ = [] in
    let made = ap (λ xs. length xs) c.in_ok-groups.ensures ∙ length-replicate c.len.result none in
    all_groups (lowered_of c.args.lowered.now) c.requires c.loop-region.groups.items
    (c.loop-region.invariant.long ∙ made ∙ c.len.ensures ∙ objects.ok.0 ∙ sym (length-map objects.items object_of))
    (λ k low. c.loop-region.invariant.there k (omega (arith, low, c.loop-region-test.false, c.len-region-end.ensures)))
