use Rattle.std.proofs.Common.{◌/◌, ◌<◌, ◌≤◌, ℕ, List, length, take, arith}
use Rattle.std.proofs.lemmas.List.{get_or-take, length-take-le}
use Rattle.sp_bdd.specs.Ascending.{Ascends}
use Rattle.sp_engine_keeping.proofs.keeping.may_fit.Goals as goal

-- a front ascends as the whole
front : (count : ℕ) (rows : List ℕ) → count ≤ length rows → Ascends rows → Ascends (take count rows)
front count rows few ascends i j d less low =
    let long = length-take-le count rows few in
    let later : j < count = omega (arith, long) in
    omega (arith, ascends i j d less (omega arith), get_or-take count rows i d (omega arith), get_or-take count rows j d later)

pub set_of-requires-clause-ascending : goal.set_of-requires-clause-ascending
set_of-requires-clause-ascending c = front (length c.args.codes.now / 16) c.args.codes.now (omega arith) c.requires.ascending
