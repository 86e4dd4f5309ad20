use Rattle.sp_ir.specs.Programs.{lowered_of}
use Rattle.sp_points_rules.specs.Sources.{InSource}
use Rattle.sp_points_rules.specs.SourceView.{source_of}
use Rattle.sp_points_rules.proofs.Finding.{product_adds}
use Rattle.sp_points_rules.proofs.rules.product.Goals as goal

pub returns : goal.returns
returns c =
    let p = lowered_of c.args.facts.now.lowered.now in
    product_adds c.args.facts.now.rows.now (λ u x. InSource p u (source_of c.args.to.now) x) (λ u x. InSource p u (source_of c.args.from.now) x) c.args.out.now c.put.new.self c.set_of.new.seen c.set_of-2.new.seen (record { rows = c.in_ok-rows.rows; numbers = c.in_ok-numbers.numbers })
    c.in_ok-rows.ensures.seen c.in_ok-numbers.ensures.seen c.in_ok-put.ensures.seen c.in_ok-put.ensures.puts c.in_ok-rows.ensures.finds c.in_ok-numbers.ensures.finds
