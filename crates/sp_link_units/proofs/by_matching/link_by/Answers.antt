use Rattle.std.proofs.Common.{◌≡◌, [], map, Some, ap, sym, ◌∙◌}
use Rattle.sp_base_checked.specs.Answers.{accepted}
use Rattle.sp_base_checked.specs.Units.{checked_unit_of}
use Rattle.sp_link_renaming.specs.View.{renaming_of}
use Rattle.sp_link_structs.specs.Matching.{matching_of}
use Rattle.sp_link_entries.specs.Entries.{nothing_joined}
use Rattle.sp_link_entries.specs.Units.{units_joined}
use Rattle.sp_link_entries.specs.Views.{joined_of, numbers_of, function_entry_of}
use Rattle.sp_link_units.specs.Linking.{main_from, renamings, program_made}
use Rattle.sp_link_units.proofs.Linked.{linked_is}
use Rattle.sp_link_units.proofs.by_matching.link_by.Goals as goal

pub returns : goal.returns
unfolding joined_of
returns c =
    let m = matching_of c.args.matching.now in
    let xs = map checked_unit_of c.args.units.now in
    let ns = map numbers_of c.in_ok-numbers.numbers.items in
    let j = joined_of c.join_units.new.joined in
    let joined : units_joined m.numbers ([], nothing_joined) xs ≡ (ns, j) =
    ap (λ z. units_joined (map (λ n. n.items) z) ([], nothing_joined) xs) (sym c.deref.ensures.value)
    ∙ ap (λ z. units_joined (map (λ n. n.items) c.deref.result.now) ([], z) xs) (sym c.nothing_joined-joined.ensures)
    ∙ c.in_ok-numbers.ensures in
    let starts : main_from c.args.names.now 0 (map function_entry_of c.join_units.new.joined.functions.items) ≡ Some c.in-Some.main =
    ap (λ z. main_from c.args.names.now 0 (map function_entry_of z)) (sym c.deref-2.ensures.value)
    ∙ sym c.in_ok-main.ensures
    ∙ c.in-Some.is in
    let are : map renaming_of c.in_ok-renamings.renamings.items ≡ renamings j ns =
    c.in_ok-renamings.ensures ∙ ap (λ z. renamings j (map numbers_of z)) c.deref-3.ensures.value in
    linked_is c.args.names.now c.args.first m xs ns j (map renaming_of c.in_ok-renamings.renamings.items) c.in-Some.main joined starts are
    ∙ ap accepted (sym (c.in_ok-program_made.ensures ∙ ap (λ z. program_made m xs (map renaming_of z) j c.in-Some.main) c.deref-4.ensures.value))
