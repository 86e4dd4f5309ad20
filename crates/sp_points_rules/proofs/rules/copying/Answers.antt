use Rattle.std.proofs.Common.{◌<◌, ℕ, length, get_or, subst}
use Rattle.sp_ir.specs.Programs.{lowered_of}
use Rattle.sp_points_rules.specs.SourceView.{source_of}
use Rattle.sp_points_rules.specs.Gathered.{Adds}
use Rattle.sp_points_rules.specs.Copying.{CopiesFrom}
use Rattle.sp_points_rules.proofs.Taking.{copies_add}
use Rattle.sp_points_rules.proofs.rules.copying.Goals as goal

pub returns : goal.returns
returns c =
    let p = lowered_of c.args.facts.now.lowered.now in
    let rows = c.args.facts.now.rows.now in
    let start = record c.args.out.now { seen = c.set_of-2.new.seen } in
    let adds = subst (λ ts. Adds rows (λ u x r. (k : ℕ) × (k < length ts) × CopiesFrom p u (get_or ts k 0) c.in_ok-sources.sources x r) start c.copy_to_each.new.out) c.as_slice.ensures.numbers
    (subst (λ ss. Adds rows (λ u x r. (k : ℕ) × (k < length c.as_slice.result.now) × CopiesFrom p u (get_or c.as_slice.result.now k 0) ss x r) start c.copy_to_each.new.out) c.as_slice-2.ensures.numbers c.in_ok-copy_to_each.ensures) in
    copies_add p rows c.args.out.now c.copy_to_each.new.out (source_of c.args.to.now) (source_of c.args.from.now) c.in_ok-targets.targets c.in_ok-sources.sources c.set_of.new.seen c.set_of-2.new.seen
    c.in_ok-targets.ensures.seen c.in_ok-sources.ensures.seen c.in_ok-targets.ensures.finds c.in_ok-sources.ensures.finds adds
