use Rattle.std.proofs.Common.{◌∙◌, sym, ap, subst}
use Rattle.std.specs.List.Sorted.{IsStrictlyIncreasing}
use Rattle.sp_lattice.specs.System.{has}
use Rattle.sp_deps.proofs.Lists.{has_searched}
use Rattle.sp_deps.proofs.walk.defines.Goals as goal

pub returns : goal.returns
returns g c =
    let s = c.args.system.now in
    let l = c.args.location in
    let defs = c.defs.result.now in
    let rises = subst (λ xs. IsStrictlyIncreasing xs) (sym c.defs.ensures) ((g.met.S.System.lawful s).defs_ascend c.args.node c.requires) in
    c.is_ok.ensures.value ∙ has_searched defs l c.binary_search.result rises c.binary_search.ensures.position ∙ ap (λ xs. has l xs) c.defs.ensures
