use Rattle.std.proofs.Common.{map, ◌++◌, ◌∷◌, [], ap, ◌∙◌}
use Rattle.sp_link_conflicts.specs.Views.{seen_declaration}
use Rattle.sp_link_conflicts.proofs.Groups.{group_put, mapped_pushed}
use Rattle.sp_link_conflicts.proofs.earlier.Earlier.add.Goals as goal

pub returns : goal.returns
returns c =
    group_put c.args.self.now c.take_list-list.new.self (record { lists = c.insert.new.self }) c.args.item.now.name (seen_declaration c.args.item) c.push.new.self
    (ap (map seen_declaration) c.in_ok-push.ensures.items ∙ mapped_pushed seen_declaration c.take_list-list.result.items c.args.item
    ∙ ap (λ xs. xs ++ seen_declaration c.args.item ∷ []) c.take_list-list.ensures.list)
    c.take_list-list.ensures.rest
    c.in_ok-insert.ensures.updates.0
