-- Where each function with internal linkage has its body, none is undefined.
use Rattle.std.proofs.Common.{◌≡◌, ℕ, suc, false, List, [], ◌∷◌, None, nat_eq, refl}
use Rattle.std.proofs.lemmas.Bool.{and_left, or_parts}
use Rattle.std.specs.List.{list_any}
use Rattle.sp_types.specs.Programs.{Function}
use Rattle.sp_check_mentions.specs.Undefined.{is_internal_without_body, first_undefined}

pub none_undefined : (ms : List ℕ) (k : ℕ) (fs : List Function) → list_any is_internal_without_body fs ≡ false → first_undefined ms k fs ≡ None
none_undefined ms k [] h = refl
none_undefined ms k (f ∷ fs) h =
    let parts = or_parts (is_internal_without_body f) (list_any is_internal_without_body fs) h in
    rw (and_left (is_internal_without_body f) (list_any (nat_eq k) ms) parts.0) (none_undefined ms (suc k) fs parts.1)
