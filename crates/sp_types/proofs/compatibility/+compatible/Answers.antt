use Rattle.std.proofs.Common.{◌≢◌, length, map, sym}
use Rattle.std.proofs.lemmas.List.{length-map}
use Rattle.sp_types.specs.View.{type_of}
use Rattle.sp_types.proofs.Compatibles.{lists_of_other_lengths}
use Rattle.sp_types.proofs.compatibility.+compatible.Goals as goal

pub all_compatible-returns-then-left-right : goal.all_compatible-returns-then-left-right
all_compatible-returns-then-left-right t c =
    let differ : length c.args.left.now ≢ length c.args.right.now = c.if-left-right.true in
    let apart : length (map type_of c.args.left.now) ≢ length (map type_of c.args.right.now) = simp length-map differ in
    sym (lists_of_other_lengths (map type_of c.args.left.now) (map type_of c.args.right.now) apart)
