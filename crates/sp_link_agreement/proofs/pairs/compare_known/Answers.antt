use Rattle.std.proofs.Common.{◌≡◌, true, false, sym, ◌∙◌}
use Rattle.sp_link_agreement.specs.Depths.{tables, Agree}
use Rattle.sp_link_agreement.specs.Inner.{is_alike}
use Rattle.sp_link_agreement.proofs.Walk.{differing, contained, if_ok}
use Rattle.sp_link_agreement.proofs.pairs.compare_known.Goals as goal

pub returns-then-contains-clause-differs : goal.returns-then-contains-clause-differs
returns-then-contains-clause-differs c =
    λ f. contained (tables c.args.units.now) c.args.known.now.differing.keys c.args.pair c.requires (sym c.contains.ensures ∙ c.if-contains.true)

pub returns-clause-alike : goal.returns-clause-alike
returns-clause-alike c =
    if_ok c.compare_pair.result (λ b. b ≡ is_alike (tables c.args.units.now) c.args.pair) (λ b. b ≡ true → is_alike (tables c.args.units.now) c.args.pair ≡ true)
    (λ b h t. sym h ∙ t) c.compare_pair.ensures.alike

pub returns-clause-differs : goal.returns-clause-differs
returns-clause-differs c =
    if_ok c.compare_pair.result (λ b. b ≡ is_alike (tables c.args.units.now) c.args.pair) (λ b. b ≡ false → ¬ Agree (tables c.args.units.now) c.args.pair.0 c.args.pair.1)
    (λ b h f. differing (tables c.args.units.now) c.args.pair (sym h ∙ f)) c.compare_pair.ensures.alike
