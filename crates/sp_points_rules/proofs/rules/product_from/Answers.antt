use Rattle.sp_ir.specs.Programs.{lowered_of}
use Rattle.sp_points_rules.specs.Sources.{InSource, region}
use Rattle.sp_points_rules.specs.SourceView.{source_of}
use Rattle.sp_points_rules.specs.Puts.{all_of}
use Rattle.sp_points_rules.proofs.Finding.{product_adds, region_finds}
use Rattle.sp_points_rules.proofs.rules.product_from.Goals as goal

pub returns : goal.returns
returns c =
    let p = lowered_of c.args.facts.now.lowered.now in
    let rows = c.args.facts.now.rows.now in
    product_adds rows (λ u x. InSource p u (source_of c.args.to.now) x) (λ u x. InSource p u (all_of (region c.args.from)) x) c.args.out.now c.put.new.self c.set_of.new.seen c.set_of.new.seen (record { rows = c.in_ok-rows.rows; numbers = c.in_ok-numbers.numbers })
    c.in_ok-rows.ensures.seen (λ n h. h) c.in_ok-put.ensures.seen c.in_ok-put.ensures.puts c.in_ok-rows.ensures.finds (region_finds p rows c.args.from c.set_of.new.seen c.in_ok-numbers.numbers c.in_ok-numbers.ensures)
