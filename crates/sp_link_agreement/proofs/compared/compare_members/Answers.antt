use Rattle.std.proofs.Common.{ℕ, ◌≢◌, length, map, sym}
use Rattle.std.proofs.lemmas.List.{length-map}
use Rattle.sp_types.specs.Types.{CType}
use Rattle.sp_types.specs.declared.ctype.CType.{CType as CodeType}
use Rattle.sp_types.specs.View.{type_of}
use Rattle.sp_link_agreement.specs.Inner.{any_two}
use Rattle.sp_link_agreement.proofs.Lengths.{members_of_other_lengths}
use Rattle.sp_link_agreement.proofs.compared.compare_members.Goals as goal

pub returns-then-left-right-clause-alike : goal.returns-then-left-right-clause-alike
returns-then-left-right-clause-alike c =
    let seen : ℕ × CodeType → ℕ × CType = λ m. (m.0, type_of m.1) in
    let differ : length c.args.left.now ≢ length c.args.right.now = c.if-left-right.true in
    let apart : length (map seen c.args.left.now) ≢ length (map seen c.args.right.now) = simp length-map differ in
    sym (members_of_other_lengths any_two (map seen c.args.left.now) (map seen c.args.right.now) apart)
