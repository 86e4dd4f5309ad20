-- Few keys, of which none comes a second time.
use Rattle.std.proofs.Common.{◌≡◌, ◌<◌, Bool, List, [], ◌∷◌, length, None, refl, arith}
use Rattle.sp_tree.specs.declared.fault.Place.{Place}
use Rattle.sp_check_statement_rules.specs.Repeats.{repeated}

-- of fewer than two none comes a second time
pub alone : {K : Type 0} (same : K → K → Bool) (xs : List (K × Place)) → length xs < 2 → repeated same [] xs ≡ None
alone same [] h = refl
alone same (x ∷ []) h = refl
alone same (x ∷ y ∷ ys) h = absurd (omega arith)

pub ruleset few = (alone)
