use Rattle.std.proofs.Common.{ℕ, ◌+◌, ◌++◌, map, drop, ap, sym, ◌∙◌, arith, append-nil}
use Rattle.sp_types.specs.Types.{CType}
use Rattle.sp_types.specs.View.{type_of, struct_of}
use Rattle.sp_ir.specs.Shapes.{Shape}
use Rattle.sp_base_layouts.specs.Layouts.{layout_of, member_shapes}
use Rattle.sp_base_layouts.specs.Leaves.{member_cell_leaves, cells_left}
use Rattle.sp_base_layouts.specs.Seen.{seen_members}
use Rattle.sp_base_layouts.proofs.Cells.{none-left}
use Rattle.sp_base_layouts.proofs.Members.{left-turn}
use Rattle.sp_base_layouts.proofs.Sizes.{member-at}
use Rattle.sp_base_layouts.proofs.leaves.+left.Goals as goal

pub add_left-returns-then-not-branch : goal.add_left-returns-then-not-branch
add_left-returns-then-not-branch t c =
    let s : Shape = layout_of (map struct_of c.args.layouts.now.structs.now) (type_of c.args.of.now) in
    sym (append-nil c.args.left.now.items)
    ∙ ap (λ xs. c.args.left.now.items ++ xs)
    (sym (none-left c.args.cells.now c.args.root c.args.count s (sym c.in_ok-has_cell.ensures ∙ c.if-not-branch.true)))

pub members_left-add_left-requires : goal.members_left-add_left-requires
members_left-add_left-requires t c = (
  omega (arith, member-at (layout_of (map struct_of c.args.layouts.now.structs.now)) c.args.members.now c.loop-member.member-index c.member-item.result c.loop-member-test.true c.member-item.is),
  c.requires,
)

pub members_left-loop-member-preserved : goal.members_left-loop-member-preserved
members_left-loop-member-preserved t c =
    let f : CType → Shape = layout_of (map struct_of c.args.layouts.now.structs.now) in
    let k : ℕ = c.loop-member.member-index in
    ap (λ r. c.add_left.new.left.items ++ cells_left c.args.cells.now r (member_cell_leaves c.args.count (member_shapes f (seen_members (drop (k + 1) c.args.members.now))))) c.in_ok-region.ensures
    ∙ left-turn _ c.loop-member.left.items c.add_left.new.left.items c.args.cells.now c.loop-member.region c.args.count c.in_ok-own_count.field-0 f c.args.members.now k c.member-item.result
    c.loop-member-test.true c.member-item.is c.in_ok-own_count.ensures c.in_ok-add_left.ensures c.loop-member.invariant
