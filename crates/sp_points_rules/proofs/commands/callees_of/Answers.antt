use Rattle.std.proofs.Common.{◌≡◌, ◌↔◌, ℕ, true, subst}
use Rattle.sp_ir.specs.Programs.{lowered_of}
use Rattle.sp_base_sets.specs.Sets.{has}
use Rattle.sp_base_sets.specs.Reached.{row}
use Rattle.sp_points_rules.specs.Puts.{CallsBy}
use Rattle.sp_points_rules.proofs.commands.callees_of.Goals as goal

pub returns : goal.returns
returns c =
    let p = lowered_of c.args.facts.now.lowered.now in
    let t = row c.args.facts.now.rows.now in
    let found = c.in_ok-functions-in-Some.ensures.finds in
    subst (λ o. (f : ℕ) → (has f c.in_ok-functions-in-Some.functions ≡ true) ↔ CallsBy p t o f) c.in-Some.ensures
    (λ f. (found.sound f, found.whole t (λ n r h k. k) f))
