use Rattle.std.proofs.Common.{ℕ, ◌∙◌}
use Rattle.sp_value.specs.Slots.{known_of}
use Rattle.sp_ir.specs.View.{expression_of}
use Rattle.sp_effect_rows.specs.Rows.{applied}
use Rattle.sp_effect_rows.specs.Updates.{store_of}
use Rattle.sp_effect_rows.proofs.Numbers.{same_number}
use Rattle.sp_effect_assume.specs.Sides.{names}
use Rattle.sp_effect_assume.specs.Conditions.{changing}
use Rattle.sp_effect_assume.proofs.Steps.{at-one}
use Rattle.sp_effect_assume.proofs.assumes.change_named.Goals as goal

pub change_at-requires-clause-there : goal.change_at-requires-clause-there
change_at-requires-clause-there g c = c.requires.there c.in-Some.location (c.in-Some.ensures.some c.in-Some.location ∙ same_number c.in-Some.location)

pub returns-in_ok-change_at-in-Some : goal.returns-in_ok-change_at-in-Some
returns-in_ok-change_at-in-Some g c =
    let scene = g.S.Scenery.scene c.args.scene.now in
    let s = c.args.condition.now in
    let view = λ (l : ℕ). g.V.View.store c.args.view.now l in
    let old = λ (l : ℕ). store_of c.args.places.now c.args.row.now l in
    at-one (names scene (expression_of c.args.side.now)) c.in-Some.location (λ l. store_of c.args.places.now c.change_at.new.row l)
    (applied (changing scene (expression_of s.left.now) s.op (expression_of s.right.now) (known_of s.left_value) (known_of s.right_value) view) old) old
    c.in-Some.ensures.some c.in_ok-change_at-in-Some.ensures.there c.in_ok-change_at-in-Some.ensures.others
