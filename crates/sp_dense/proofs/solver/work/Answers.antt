use Rattle.std.proofs.Common.{◌≡◌, ◌∙◌, Vec, ℕ, sym, ap, subst, arith}
use Rattle.std.specs.declared.alloc.Global.{Global}
use Rattle.sp_lattice.specs.System.{AllBelow}
use Rattle.sp_lattice.specs.Flat.{vector_at}
use Rattle.sp_dense.specs.inner.Waiting.{Adds}
use Rattle.sp_dense.proofs.Visiting.{works_still, works_on}
use Rattle.sp_dense.proofs.Grids.{vector_at-get_or}
use Rattle.sp_dense.proofs.solver.work.Goals as goal

pub returns-then-not-branch-clause-worked : goal.returns-then-not-branch-clause-worked
returns-then-not-branch-clause-worked g c =
    let m = g.S.System.meaning c.args.system.now in
    works_still g.S.Value.Lattice.order m g.met.S.Value.Lattice.lawful (g.met.S.System.lawful c.args.system.now) c.solution_laws.ensures.laws c.args.rows.now.items c.visit.new.rows.items c.args.node c.args.waiting.now.waiting c.in_ok-visit.field-0
    c.if-not-branch.true c.requires.node c.requires.working c.in_ok-visit.ensures.visited

pub add-requires : goal.add-requires
add-requires g c =
    let m = g.S.System.meaning c.args.system.now in
    let lists = c.args.successors.now.items in
    let next = c.index-next.result.now in
    let next_is : c.deref.result.now ≡ vector_at lists c.args.node =
    c.deref.ensures.value ∙ ap (λ (list : Vec ℕ Global). list.items) c.index-next.ensures ∙ sym (vector_at-get_or lists c.args.node next (omega (arith, c.requires.node, c.requires.successors.long))) in
    subst (λ bound. AllBelow bound c.deref.result.now) (sym c.requires.nodes) (subst (λ xs. AllBelow m.nodes xs) (sym next_is) (c.requires.successors.low c.args.node c.requires.node))

pub returns-clause-worked : goal.returns-clause-worked
returns-clause-worked g c =
    let m = g.S.System.meaning c.args.system.now in
    let lists = c.args.successors.now.items in
    let rest = c.args.waiting.now.waiting in
    let waiting = c.add.new.self.waiting in
    let next = c.index-next.result.now in
    let next_is : c.deref.result.now ≡ vector_at lists c.args.node =
    c.deref.ensures.value ∙ ap (λ (list : Vec ℕ Global). list.items) c.index-next.ensures ∙ sym (vector_at-get_or lists c.args.node next (omega (arith, c.requires.node, c.requires.successors.long))) in
    works_on g.S.Value.Lattice.order m g.met.S.Value.Lattice.lawful (g.met.S.System.lawful c.args.system.now) c.solution_laws.ensures.laws c.args.rows.now.items c.visit.new.rows.items c.args.node rest waiting lists c.in_ok-visit.field-0
    c.if-not-branch.false c.requires.node c.requires.working c.in_ok-visit.ensures.visited c.requires.successors (subst (λ nodes. Adds rest waiting nodes) next_is c.in_ok-add.ensures.added)
    (omega (arith, c.in_ok-add.ensures.few, c.requires.nodes))
