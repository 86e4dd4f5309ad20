use Rattle.std.proofs.Common.{◌≡◌, ◌∙◌, ℕ, List, [], length, ap, sym, arith}
use Rattle.std.proofs.lemmas.List.{length-map, length-replicate}
use Rattle.sp_ir.specs.Programs.{lowered_of}
use Rattle.sp_ir.specs.View.{node_of}
use Rattle.sp_points_expr.proofs.Serving.{first}
use Rattle.sp_points_rules.specs.Puts.{rules_of}
use Rattle.sp_points_rules.proofs.Putting.{program_rules}
use Rattle.sp_pre.proofs.Beginning.{none_has, none_ascend}
use Rattle.sp_pre.proofs.solve.first.Goals as goal

pub returns : goal.returns
returns c =
    let p = lowered_of c.args.lowered.now in
    let none : List ℕ = [] in
    let nodes = c.args.lowered.now.nodes in
    let rows = c.in_ok-rows.rows.items in
    let readers = c.in_ok-readers.readers.items in
    let count : c.len-3.result ≡ length p.nodes = c.len-3.ensures ∙ nodes.ok.0 ∙ sym (length-map nodes.items node_of) in
    first (rules_of p) (length p.regions) (length p.nodes) (program_rules p c.requires)
    (record { rows = c.in_ok-rows.rows; readers = c.in_ok-readers.readers; queue = c.in_ok-queue.queue })
    (λ k r h. none_has rows c.len.result k r c.in_ok-rows.ensures h)
    (λ n k h. none_has readers c.len-2.result k n c.in_ok-readers.ensures h)
    (ap (λ xs. length xs) c.in_ok-rows.ensures ∙ length-replicate c.len.result none ∙ c.len.ensures)
    (ap (λ xs. length xs) c.in_ok-readers.ensures ∙ length-replicate c.len-2.result none ∙ c.len-2.ensures)
    (c.in_ok-queue.ensures.count ∙ count)
    (omega (arith, c.in_ok-queue.ensures.few, c.in_ok-queue.ensures.count))
    (λ n low. c.in_ok-queue.ensures.all n (omega (arith, low, count)))
    (λ k. none_ascend rows c.len.result k c.in_ok-rows.ensures)
