-- Which places have a region in a list.
use Rattle.std.proofs.Common.{◌≡◌, ◌⊎◌, inl, inr, ℕ, zero, suc, Bool, true, false, cond, List, [], ◌∷◌, ◌++◌, Some, subst}
use Rattle.std.specs.Prelude.{slice_get, ⊤}
use Rattle.sp_ir.specs.declared.region.Step.{Step}
use Rattle.sp_ir.specs.Regions.{Region}

-- a region of this object and this path is in the list
abbrev pub Within : List Region → ℕ → List Step → Type 0
Within [] o path = ⊥
Within (r ∷ rs) o path = ((r.object ≡ o) × (r.path ≡ path)) ⊎ Within rs o path

pub within-left : (rs more : List Region) (o : ℕ) (path : List Step) → Within rs o path → Within (rs ++ more) o path
within-left [] more o path h = absurd h
within-left (r ∷ rs) more o path (inl h) = inl h
within-left (r ∷ rs) more o path (inr h) = inr (within-left rs more o path h)

pub within-right : (rs more : List Region) (o : ℕ) (path : List Step) → Within more o path → Within (rs ++ more) o path
within-right [] more o path h = h
within-right (r ∷ rs) more o path h = inr (within-right rs more o path h)

-- what holds of every region of a list
abbrev pub Each : (Region → Type 0) → List Region → Type 0
Each P [] = ⊤
Each P (r ∷ rs) = P r × Each P rs

pub each-append : (P : Region → Type 0) (rs more : List Region) → Each P rs → Each P more → Each P (rs ++ more)
each-append P [] more h k = k
each-append P (r ∷ rs) more h k = (h.0, each-append P rs more h.1 k)

pub each-map : (P Q : Region → Type 0) → ((r : Region) → P r → Q r) → (rs : List Region) → Each P rs → Each Q rs
each-map P Q f [] h = tt
each-map P Q f (r ∷ rs) h = (f r h.0, each-map P Q f rs h.1)

pub some_same : {A : Type 0} {a b : A} → Some a ≡ Some b → a ≡ b
some_same e = cc

pub each-there : (P : Region → Type 0) (rs : List Region) (i : ℕ) (r : Region) → Each P rs → slice_get rs i ≡ Some r → P r
each-there P [] i r h e = absurd (cc)
each-there P (s ∷ rs) zero r h e = subst P (some_same e) h.0
each-there P (s ∷ rs) (suc i) r h e = each-there P rs i r h.1 e

-- what holds of every region that isn't left out
pub each-unless : (P : Region → Type 0) (b : Bool) (rs : List Region) → Each P rs → Each P (cond b [] rs)
each-unless P true rs h = tt
each-unless P false rs h = h
