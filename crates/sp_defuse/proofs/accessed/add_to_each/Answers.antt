use Rattle.std.proofs.Common.{ℕ, false, ◌<◌, ◌&&◌, nat_eq, length, get_or, refl, arith}
use Rattle.std.proofs.lemmas.List.{get_or_default}
use Rattle.std.proofs.Common.{[], ◌∙◌, ◌||◌, ap}
use Rattle.sp_base_sets.specs.Sets.{has}
use Rattle.sp_base_sets.proofs.Members.{has_there}
use Rattle.sp_defuse.proofs.Adding.{adds-nothing, adds-more}
use Rattle.sp_defuse.proofs.accessed.add_to_each.Goals as goal

pub index_mut-requires : goal.index_mut-requires
index_mut-requires c =
    let rows = c.args.rows.now in
    let i = c.loop-row.row-index in
    let low = c.requires (get_or rows i 0) (has_there rows (get_or rows i 0) i c.loop-row-test.true refl) in
    omega (arith, low, c.loop-row.invariant.long, c.loop-row.sets.ok)

pub loop-row-init : goal.loop-row-init
loop-row-init c = adds-nothing (λ (r n : ℕ). false && nat_eq n c.args.number) c.args.sets.now.items (λ r n. refl)

pub loop-row-preserved : goal.loop-row-preserved
loop-row-preserved c =
    let rows = c.args.rows.now in
    let i = c.loop-row.row-index in
    let r = get_or rows i 0 in
    let low : r < length c.loop-row.sets.items = omega (arith, c.requires r (has_there rows r i c.loop-row-test.true refl), c.loop-row.invariant.long) in
    adds-more rows c.args.number i c.args.sets.now.items c.loop-row.sets.items c.add.new.self c.loop-row-test.true low c.loop-row.invariant
    (λ n. c.in_ok-add.ensures.numbers n ∙ ap (λ xs. nat_eq n c.args.number || has n xs) (c.index_mut.ensures.value ∙ get_or_default c.loop-row.sets.items r c.index_mut.result.now [] low))
