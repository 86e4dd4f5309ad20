use Rattle.std.proofs.Common.{◌≡◌, ◌/◌, ◌%◌, ap, ◌∙◌}
use Rattle.std.proofs.lemmas.Bool.{eq-eqb}
use Rattle.sp_interval.specs.Interval.{ranged, difference_of}
use Rattle.sp_value.specs.FormedLaws.{test_from_formed}
use Rattle.sp_eval.specs.Numbers.{long_range, outward}
use Rattle.sp_eval.proofs.Distances.{ratio}
use Rattle.sp_eval.proofs.FormLaws.{apart-formed}
use Rattle.sp_eval.proofs.pointers.pair_distance.Goals as goal

pub returns-then-size-element-eq0-clause-formed : goal.returns-then-size-element-eq0-clause-formed
returns-then-size-element-eq0-clause-formed c =
    let value : c.ranged_as_long.result ≡ ranged long_range (outward (c.args.size / c.element_size-element.result) (difference_of c.args.from.offset c.args.to.offset)) =
    c.ranged_as_long.ensures ∙ ap (ranged long_range) (c.outward.ensures ∙ ap (outward (c.args.size / c.element_size-element.result)) c.shifted-exact.ensures.value) in
    rw value (test_from_formed (ranged long_range (outward (c.args.size / c.element_size-element.result) (difference_of c.args.from.offset c.args.to.offset)))
    (apart-formed (c.args.size / c.element_size-element.result) c.args.from.offset c.args.to.offset
    (ratio c.args.size c.element_size-element.result c.requires.some (eq-eqb (c.args.size % c.element_size-element.result) 0 c.if-size-element-eq0.true)) c.requires.from c.requires.to))
