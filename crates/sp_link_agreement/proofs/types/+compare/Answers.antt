use Rattle.std.proofs.Common.{◌≢◌, length, map, sym}
use Rattle.std.proofs.lemmas.List.{length-map}
use Rattle.sp_types.specs.View.{type_of}
use Rattle.sp_link_agreement.specs.Inner.{any_two}
use Rattle.sp_link_agreement.proofs.Lengths.{types_of_other_lengths}
use Rattle.sp_link_agreement.proofs.types.+compare.Goals as goal

pub compare_all-returns-then-left-right-clause-alike : goal.compare_all-returns-then-left-right-clause-alike
compare_all-returns-then-left-right-clause-alike t c =
    let differ : length c.args.left.now ≢ length c.args.right.now = c.if-left-right.true in
    let apart : length (map type_of c.args.left.now) ≢ length (map type_of c.args.right.now) = simp length-map differ in
    sym (types_of_other_lengths any_two (map type_of c.args.left.now) (map type_of c.args.right.now) apart)
