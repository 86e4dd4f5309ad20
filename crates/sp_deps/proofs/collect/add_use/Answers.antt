use Rattle.std.proofs.Common.{length, sym, subst, arith}
use Rattle.std.proofs.lemmas.Result.{err_from_is_err_and}
use Rattle.sp_lattice.specs.System.{AllBelow}
use Rattle.sp_deps.specs.inner.Walk.{IsFound}
use Rattle.sp_deps.proofs.Walks.{found_low}
use Rattle.sp_deps.proofs.Finding.{use_low, cause_from_excess}
use Rattle.sp_deps.proofs.collect.add_use.Goals as goal

pub walk_back-requires-clause-location : goal.walk_back-requires-clause-location
walk_back-requires-clause-location g c =
    let s = c.args.system.now in
    use_low (g.S.System.meaning s) g.S.Value.Lattice.order (g.met.S.System.lawful s) c.args.location c.args.to c.requires.to c.requires.used

pub add_found-requires-clause-low : goal.add_found-requires-clause-low
add_found-requires-clause-low g c =
    let s = c.args.system.now in
    let m = g.S.System.meaning s in
    let found = c.walk_back.new.walk.found.items in
    let low : AllBelow m.nodes found = found_low g.S.Value.Lattice.order m (g.met.S.System.lawful s) c.args.location c.args.to found c.in_ok-walk_back.ensures.found in
    subst (λ xs. AllBelow (length c.args.deps.now) xs) (sym c.deref.ensures.value) (λ k d h. let one = low k d h in omega (arith, one, c.requires.rows.long))

pub returns-in_err-add_found-clause-refused : goal.returns-in_err-add_found-clause-refused
returns-in_err-add_found-clause-refused g c =
    let s = c.args.system.now in
    let m = g.S.System.meaning s in
    let found = c.deref.result.now in
    let is_found = subst (λ xs. IsFound m c.args.location c.args.to xs) (sym c.deref.ensures.value) c.in_ok-walk_back.ensures.found in
    let cause = cause_from_excess m c.args.location c.args.to c.requires.used c.args.deps.now found c.in_err-add_found.field-0.0 is_found c.requires.sound c.in_err-add_found.ensures.refused in
    let p = err_from_is_err_and c.from_residual-in_err-add_found.result c.from_residual-in_err-add_found.ensures.1 in
    rw (p.1, p.2) cause
