use Rattle.std.proofs.Common.{ℕ, ◌+◌, map, drop, List}
use Rattle.sp_types.specs.TypedView.{typed_of}
use Rattle.sp_types.specs.declared.typed.TypedExpr.{TypedExpr}
use Rattle.sp_ir.specs.View.{expression_of, leaf_of}
use Rattle.sp_lower_draft.specs.Context.{Context}
use Rattle.sp_lower_draft.specs.View.{context_of, draft_of}
use Rattle.sp_lower_statements.specs.Starts.{starts_of}
use Rattle.sp_lower_statements.proofs.LeafLists.{leaf-turn, starts-rest, given, pushed-leaf}
use Rattle.sp_lower_statements.proofs.declarations.leaves.Goals as goal

pub loop-i-preserved : goal.loop-i-preserved
loop-i-preserved c =
    let here : Context = context_of c.args.scope.now in
    let es : List (ℕ × TypedExpr) = c.args.starts.now in
    let i : ℕ = c.loop-i.i in
    let e : ℕ × TypedExpr = c.index-starts-i.result in
    leaf-turn here _ c.args.cells.now i c.cell_at.result (e.0, typed_of e.1) (starts_of (drop i es)) (starts_of (drop (i + 1) es)) (map leaf_of c.loop-i.leaves.items) (map leaf_of c.push.new.self.items) (draft_of c.loop-i.draft) (draft_of c.value.new.draft) (draft_of c.keep.new.draft) (expression_of c.in_ok-v.v) (expression_of c.in_ok-v-2.v) c.loop-i.later c.adding_behind-later.result
    (starts-rest es i e c.loop-i-test.true c.index-starts-i.is) c.loop-i.invariant.0 c.loop-i.invariant.1
    (given _ _ _ c.in_ok-v.ensures.0 c.in_ok-v.ensures.1) c.adding_behind-later.ensures
    (given _ _ _ c.in_ok-v-2.ensures.0 c.in_ok-v-2.ensures.1) c.cell_at.ensures
    (pushed-leaf c.loop-i.leaves.items c.push.new.self.items _ c.in_ok-push.ensures.items)
