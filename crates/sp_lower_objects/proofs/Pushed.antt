-- A region that gets the next number wasn't held.
use Rattle.std.proofs.Common.{◌≡◌, ℕ, ◌<◌, Bool, true, false, if◌then◌else◌, List, [], ◌∷◌, ◌++◌, length, Some, ap, arith}
use Rattle.std.specs.List.{list_any}
use Rattle.std.proofs.lemmas.List.Quantifiers.{position-Some}
use Rattle.sp_ir.specs.Regions.{Region, stands_at, number_at, with_region}

pushed-by : (b : Bool) (rs new : List Region) (r : Region) (n : ℕ) → new ≡ (if b then rs else rs ++ r ∷ []) → number_at new r.object r.path ≡ Some n → n ≡ length rs
    → new ≡ rs ++ r ∷ []
pushed-by true rs new r n made at last =
    let below : n < length new = (position-Some (stands_at r.object r.path) new n r at).0 in
    let same : length new ≡ length rs = ap length made in
    absurd (omega arith)
pushed-by false rs new r n made at last = made

pub pushed : (rs new : List Region) (r : Region) (n : ℕ) → new ≡ with_region rs r → number_at new r.object r.path ≡ Some n → n ≡ length rs
    → new ≡ rs ++ r ∷ []
pushed rs new r n made at last = pushed-by (list_any (stands_at r.object r.path) rs) rs new r n made at last
