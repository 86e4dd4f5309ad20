use Rattle.std.proofs.Common.{◌++◌, ◌∷◌, [], ap, ◌∙◌}
use Rattle.sp_link_structs.proofs.Keys.{group_put}
use Rattle.sp_link_structs.proofs.groups.Groups.add.Goals as goal

pub returns : goal.returns
returns c =
    group_put c.args.self.now c.take_list-list.new.self (record { lists = c.insert.new.self }) c.args.key c.args.item c.push.new.self
    (c.in_ok-push.ensures.items ∙ ap (λ xs. xs ++ c.args.item ∷ []) c.take_list-list.ensures.list)
    c.take_list-list.ensures.rest
    c.in_ok-insert.ensures.updates.0
