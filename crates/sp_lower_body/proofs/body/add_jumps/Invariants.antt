use Rattle.std.proofs.Common.{◌≡◌, ◌++◌, take, map}
use Rattle.sp_lower_body.proofs.body.add_jumps.Given as goal

abbrev pub invariant-loop-end : goal.invariant-loop-end
invariant-loop-end l =
    l.gotos.items ≡ l.fn.gotos.items ++ map (λ m. (m, l.label)) (take l.end-index l.ends)
