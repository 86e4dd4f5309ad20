use Rattle.std.proofs.Common.{ℕ, [], ◌∙◌, sym, ap, subst, arith}
use Rattle.std.specs.List.{list_any}
use Rattle.std.proofs.lemmas.List.{get_or_past}
use Rattle.std.proofs.lemmas.List.Elements.{All-get_or}
use Rattle.sp_bdd.specs.Listed.{listed}
use Rattle.sp_bdd.specs.Table.{diagram}
use Rattle.sp_engine_keeping.specs.Triples.{same_pair, held, Ascends}
use Rattle.sp_engine_keeping.specs.Kept.{rows_of, IsKept}
use Rattle.sp_engine_keeping.proofs.Coding.{told_at}
use Rattle.sp_engine_keeping.proofs.Searching.{pair_searched}
use Rattle.sp_engine_keeping.proofs.Telling.{length-rows_of}
use Rattle.sp_engine_keeping.proofs.keeping.Keeping.holds.Goals as goal

pub returns-then-from-self : goal.returns-then-from-self
returns-then-from-self c =
    let i = c.self.inside in
    let pair : ℕ × ℕ = (c.args.location, c.args.to) in
    let long = length-rows_of i.nodes i.form c.self.invariant in
    sym (ap (λ rows. held rows c.args.from c.args.location c.args.to) (sym c.self.view_is)
    ∙ ap (λ row. list_any (same_pair pair) row) (get_or_past (rows_of i.nodes i.form) c.args.from [] (omega (arith, long, c.if-from-self.true))))

pub returns-in-Rows : goal.returns-in-Rows
returns-in-Rows c =
    let i = c.self.inside in
    let from = c.args.from in
    let pair : ℕ × ℕ = (c.args.location, c.args.to) in
    let row = c.row-row.result.now in
    let kept = subst (IsKept i.nodes) c.in-Rows.is c.self.invariant in
    let ascends : Ascends row =
    subst Ascends (sym c.row-row.ensures) (All-get_or Ascends c.in-Rows.rows from [] (omega (arith, kept.0, c.if-from-self.false)) kept.1) in
    c.is_ok.ensures.value ∙ pair_searched row pair ascends c.binary_search.result c.binary_search.ensures.bound c.binary_search.ensures.position
    ∙ ap (λ xs. list_any (same_pair pair) xs) c.row-row.ensures
    ∙ sym (ap (λ rows. held rows from c.args.location c.args.to) (sym c.self.view_is) ∙ ap (λ k. held (rows_of i.nodes k) from c.args.location c.args.to) c.in-Rows.is)

pub returns-in-Diagram : goal.returns-in-Diagram
returns-in-Diagram c =
    let i = c.self.inside in
    let all = listed c.in-Diagram.manager.bits (diagram c.in-Diagram.manager c.in-Diagram.set) 0 in
    let pair : ℕ × ℕ = (c.args.location, c.args.to) in
    c.is_member.ensures
    ∙ sym (ap (λ rows. held rows c.args.from c.args.location c.args.to) (sym c.self.view_is)
    ∙ ap (λ k. held (rows_of i.nodes k) c.args.from c.args.location c.args.to) c.in-Diagram.is
    ∙ ap (λ row. list_any (same_pair pair) row) (told_at i.nodes c.args.from all (omega (arith, c.if-from-self.false))))
