use Rattle.std.proofs.Common.{◌≤◌, ◌++◌, not, filter, length, sym, ap, ◌∙◌, append-nil, arith, drop_of_length-le}
use Rattle.sp_link_agreement.specs.Depths.{tables}
use Rattle.sp_link_structs.specs.Joined.{is_complete}
use Rattle.sp_link_structs.proofs.entities.in_turn.Goals as goal

pub returns : goal.returns
returns c =
    let past : length c.args.all.now ≤ c.others.i = omega arith in
    sym (append-nil c.others.turn.items)
    ∙ ap (λ xs. c.others.turn.items ++ filter (λ x. not (is_complete (tables c.args.units.now) x)) xs) (sym (drop_of_length-le c.args.all.now past))
    ∙ c.others.invariant
    ∙ ap (λ xs. filter (is_complete (tables c.args.units.now)) xs ++ filter (λ x. not (is_complete (tables c.args.units.now) x)) xs) c.requires
