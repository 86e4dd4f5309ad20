use Rattle.std.proofs.Common.{◌≡◌, ap, ◌∙◌}
use Rattle.sp_interval.specs.Interval.{ranged}
use Rattle.sp_eval.specs.Numbers.{long_range, shifted, times_size}
use Rattle.sp_eval.proofs.FormLaws.{shifted-proper}
use Rattle.sp_eval.proofs.pointers.moved_offset.Goals as goal

pub returns-clause-proper : goal.returns-clause-proper
returns-clause-proper c =
    let value : c.ranged_as_long.result ≡ ranged long_range (shifted c.args.back c.args.offset (times_size c.args.ratio c.args.by)) =
    c.ranged_as_long.ensures ∙ ap (ranged long_range) (c.shifted.ensures.value ∙ ap (shifted c.args.back c.args.offset) c.times.ensures.value) in
    rw value (shifted-proper c.args.back c.args.offset c.args.by c.requires.offset c.requires.by c.args.ratio)
