use Rattle.std.proofs.Common.{◌&&◌, sym, ap, ◌∙◌}
use Rattle.sp_ir.specs.Paths.{same_path}
use Rattle.sp_ir.specs.PathLaws.{from-end}
use Rattle.sp_ir.proofs.region.is_path.Goals as goal

pub returns-then-eq : goal.returns-then-eq
returns-then-eq c =
    let s = c.in-Some-split_last in
    let first = sym c.if-eq.true ∙ c.eq-in-Some-split_last.ensures in
    from-end c.args.steps.now c.args.last c.in-Some.step c.args.path.now s.front.now s.end.now c.eq-then-eq.result c.in-Some.is s.ensures.cases.0
    (c.eq-then-eq.ensures ∙ ap (λ b. b && same_path c.args.steps.now s.front.now) first)

pub returns-else-eq : goal.returns-else-eq
returns-else-eq c =
    let s = c.in-Some-split_last in
    let first = sym c.if-eq.false ∙ c.eq-in-Some-split_last.ensures in
    from-end c.args.steps.now c.args.last c.in-Some.step c.args.path.now s.front.now s.end.now c.eq-in-Some-split_last.result c.in-Some.is s.ensures.cases.0
    (c.if-eq.false ∙ ap (λ b. b && same_path c.args.steps.now s.front.now) first)
