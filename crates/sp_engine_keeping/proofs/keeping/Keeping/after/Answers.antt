use Rattle.std.proofs.Common.{◌≡◌, ◌*◌, ◌^◌, [], map, filter, sym, ap, ◌∙◌, subst, arith}
use Rattle.std.proofs.lemmas.List.{get_or_past}
use Rattle.std.proofs.lemmas.Result.{IfOk-weaker}
use Rattle.sp_lattice.specs.Flat.{row_at}
use Rattle.sp_bdd.specs.Listed.{listed, is_within}
use Rattle.sp_bdd.specs.Table.{diagram}
use Rattle.sp_engine_keeping.specs.Codes.{pair, told_of}
use Rattle.sp_engine_keeping.specs.Kept.{rows_of, IsKept}
use Rattle.sp_engine_keeping.proofs.Coding.{told_at}
use Rattle.sp_engine_keeping.proofs.Telling.{length-rows_of}
use Rattle.sp_engine_keeping.proofs.keeping.Keeping.after.Goals as goal

pub returns-then-from-self : goal.returns-then-from-self
returns-then-from-self c =
    let i = c.self.inside in
    let long = length-rows_of i.nodes i.form c.self.invariant in
    c.new.ensures.items ∙ sym (ap (λ rows. row_at rows c.args.from) (sym c.self.view_is) ∙ get_or_past (rows_of i.nodes i.form) c.args.from [] (omega (arith, long, c.if-from-self.true)))

pub span-first-requires : goal.span-first-requires
span-first-requires c = let kept = subst (IsKept c.self.inside.nodes) c.in-Diagram.is c.self.invariant in omega (arith, kept.0, c.if-from-self.false)

pub rows-requires-clause-set : goal.rows-requires-clause-set
rows-requires-clause-set c = let kept = subst (IsKept c.self.inside.nodes) c.in-Diagram.is c.self.invariant in kept.2

pub rows-requires-clause-last : goal.rows-requires-clause-last
rows-requires-clause-last c = let kept = subst (IsKept c.self.inside.nodes) c.in-Diagram.is c.self.invariant in omega (arith, kept.0, c.if-from-self.false, c.span-first.ensures.last, ap (λ b. 2 ^ b) kept.1)

pub returns-in_ok-rows-in-Diagram : goal.returns-in_ok-rows-in-Diagram
returns-in_ok-rows-in-Diagram c =
    let i = c.self.inside in
    let all = listed c.in-Diagram.manager.bits (diagram c.in-Diagram.manager c.in-Diagram.set) 0 in
    let from = c.args.from in
    let told : told_of from all ≡ row_at c.args.self.now from =
    sym (ap (λ rows. row_at rows from) (sym c.self.view_is) ∙ ap (λ k. row_at (rows_of i.nodes k) from) c.in-Diagram.is ∙ told_at i.nodes from all (omega (arith, c.if-from-self.false))) in
    let span = c.span-first.result in
    let own : map pair (filter (is_within span.0 span.1) all) ≡ told_of from all =
    ap (λ first. map pair (filter (is_within first span.1) all)) c.span-first.ensures.first ∙ ap (λ last. map pair (filter (is_within (from * 1099511627776) last) all)) c.span-first.ensures.last in
    IfOk-weaker c.pairs_of.result (λ pairs. pairs.items ≡ map pair c.deref.result.now) (λ pairs. pairs.items ≡ row_at c.args.self.now from)
    (λ pairs h. h ∙ ap (map pair) (c.deref.ensures.value ∙ c.in_ok-rows-in-Diagram.ensures.listed) ∙ own ∙ told) c.pairs_of.ensures
