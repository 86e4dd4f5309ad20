-- The regions of the objects of a program stand where their start values are counted from.
use Rattle.std.proofs.Common.{◌≡◌, ◌⊎◌, inl, inr, ℕ, zero, suc, ◌+◌, ◌-◌, ◌<◌, ◌≤◌, ◌==◌, ◌&&◌, nat_eq, Bool, true, false, cond, List, [], ◌∷◌, ◌++◌, length, Option, Some, None, slice_get, if◌then◌else◌, refl, ap, sym, ◌∙◌, subst, arith, eq-eqb}
use Rattle.std.proofs.lemmas.Option.{none-some}
use Rattle.std.proofs.lemmas.Bool.Decides.{nat_tests}
use Rattle.sp_types.specs.declared.program.Storage.{Storage}
use Rattle.sp_types.specs.declared.program.Storage.TheVariants as storage
use Rattle.sp_types.specs.Types.{CType, Struct}
use Rattle.sp_types.specs.Programs as program
use Rattle.sp_ir.specs.declared.region.Step.{Step}
use Rattle.sp_ir.specs.declared.region.Step.TheVariants.{Field, Element}
use Rattle.sp_ir.specs.Paths.{same_path}
use Rattle.sp_ir.specs.Programs.{Object}
use Rattle.sp_ir.specs.Regions.{Region, stands_at, number_at}
use Rattle.sp_ir.specs.Shapes.{Shape, Shapes, scalar, floating_shape, union_of, array_of, struct_of, no_shapes, next_shape, is_floating_shape, region, regions, member_regions, region_count}
use Rattle.sp_ir.specs.Terrain.{size_of}
use Rattle.sp_base_layouts.specs.Layouts.{layout_of}
use Rattle.sp_lower_objects.specs.Initials.{object_region_count, initial_at, initials_from}
use Rattle.sp_lower_objects.specs.Objects.{kind_of_storage}
use Rattle.sp_lower_objects.specs.Regions.{typed_regions, object_regions, kind_regions, all_regions}
use Rattle.sp_lower_objects.proofs.Lengths.{length-regions}
use Rattle.sp_lower_starts_laws.specs.Laws.{ObjectsStand}
use Rattle.sp_lower_starts_laws.proofs.Lists.{StandFrom, stand_left, stand_right, there_below, below_there, some_is, place_cases, position_first}

-- ---- the regions of one object

abbrev own : ℕ → List Step → ℕ → Shape → Bool → List Region
own o path k m b = cond b [] (regions o (path ++ Field k ∷ []) (Some 1) m)

-- all are of the object
abbrev AreOf : ℕ → List Region → Type 0
AreOf o rs = (i : ℕ) (r : Region) → slice_get rs i ≡ Some r → r.object ≡ o

of_one : (o : ℕ) (r : Region) (rs : List Region) → r.object ≡ o → AreOf o rs → AreOf o (r ∷ rs)
of_one o r rs e h zero x there = ap (λ (y : Region). y.object) (sym (some_is r x there)) ∙ e
of_one o r rs e h (suc i) x there = h i x there

of_none : (o : ℕ) → AreOf o []
of_none o i r there = absurd (none-some r there)

of_both : (o : ℕ) (xs ys : List Region) → AreOf o xs → AreOf o ys → AreOf o (xs ++ ys)
of_both o xs ys h g i r there = by (place_cases xs ys i r there)
  where
    by : (slice_get xs i ≡ Some r) ⊎ ((m : ℕ) × (i ≡ length xs + m) × (slice_get ys m ≡ Some r)) → r.object ≡ o
    by (inl e) = h i r e
    by (inr e) = g e.0 r e.2

own_of : (o : ℕ) (path : List Step) (k : ℕ) (m : Shape) (b : Bool) → AreOf o (regions o (path ++ Field k ∷ []) (Some 1) m) → AreOf o (own o path k m b)
own_of o path k m true h = of_none o
own_of o path k m false h = h

mutual
  regions_of : (o : ℕ) (path : List Step) (n : Option ℕ) (s : Shape) → AreOf o (regions o path n s)
  regions_of o path n (scalar t z) = of_one o _ [] refl (of_none o)
  regions_of o path n (floating_shape t z) = of_one o _ [] refl (of_none o)
  regions_of o path n (union_of z first) = of_one o _ [] refl (of_none o)
  regions_of o path n (array_of t z inner k) = of_one o _ (regions o (path ++ Element ∷ []) (Some k) inner) refl (regions_of o (path ++ Element ∷ []) (Some k) inner)
  regions_of o path n (struct_of t z ms) = of_one o _ (member_regions o path 0 ms) refl (members_of o path 0 ms)

  members_of : (o : ℕ) (path : List Step) (k : ℕ) (ms : Shapes) → AreOf o (member_regions o path k ms)
  members_of o path k no_shapes = of_none o
  members_of o path k (next_shape m ms) =
      of_both o (own o path k m (is_floating_shape m)) (member_regions o path (k + 1) ms)
      (own_of o path k m (is_floating_shape m) (regions_of o (path ++ Field k ∷ []) (Some 1) m)) (members_of o path (k + 1) ms)

-- the first is the object's root
abbrev HasRoot : ℕ → List Step → List Region → Type 0
HasRoot o path rs = (r : Region) × (slice_get rs 0 ≡ Some r) × (r.object ≡ o) × (r.path ≡ path)

regions_root : (o : ℕ) (path : List Step) (n : Option ℕ) (s : Shape) → HasRoot o path (regions o path n s)
regions_root o path n (scalar t z) = (_, refl, refl, refl)
regions_root o path n (floating_shape t z) = (_, refl, refl, refl)
regions_root o path n (union_of z first) = (_, refl, refl, refl)
regions_root o path n (array_of t z inner k) = (_, refl, refl, refl)
regions_root o path n (struct_of t z ms) = (_, refl, refl, refl)

typed_length : (ss : List Struct) (n : ℕ) (t : CType) → length (typed_regions ss n (Some 1) t) ≡ object_region_count ss t
typed_length ss n t = by (size_of ss t == 0)
  where
    by : (b : Bool) → length (if b then region n [] None 1 (Some 0) ∷ [] else regions n [] (Some 1) (layout_of ss t)) ≡ (if b then 1 else region_count (layout_of ss t))
    by true = refl
    by false = length-regions n [] (Some 1) (layout_of ss t)

typed_of : (ss : List Struct) (n : ℕ) (t : CType) → AreOf n (typed_regions ss n (Some 1) t)
typed_of ss n t = by (size_of ss t == 0)
  where
    by : (b : Bool) → AreOf n (if b then region n [] None 1 (Some 0) ∷ [] else regions n [] (Some 1) (layout_of ss t))
    by true = of_one n _ [] refl (of_none n)
    by false = regions_of n [] (Some 1) (layout_of ss t)

typed_root : (ss : List Struct) (n : ℕ) (t : CType) → HasRoot n [] (typed_regions ss n (Some 1) t)
typed_root ss n t = by (size_of ss t == 0)
  where
    by : (b : Bool) → HasRoot n [] (if b then region n [] None 1 (Some 0) ∷ [] else regions n [] (Some 1) (layout_of ss t))
    by true = (_, refl, refl, refl)
    by false = regions_root n [] (Some 1) (layout_of ss t)

-- ---- those of a program

storage_regions : (ss : List Struct) (n : ℕ) (s : Storage) (t : CType) → kind_regions ss n (kind_of_storage s) t ≡ typed_regions ss n (Some 1) t
storage_regions ss n storage.Static t = refl
storage_regions ss n storage.Outside t = refl
storage_regions ss n storage.Text t = refl
storage_regions ss n storage.Auto t = refl
storage_regions ss n storage.Formal t = refl

lowered_regions : (ss : List Struct) (n : ℕ) (o : program.Object) (x : Object) → x.of ≡ Some o.of → x.kind ≡ kind_of_storage o.storage
    → object_regions ss n x.kind x.of ≡ typed_regions ss n (Some 1) o.of
lowered_regions ss n o x e k = ap (object_regions ss n x.kind) e ∙ ap (λ j. kind_regions ss n j o.of) k ∙ storage_regions ss n o.storage o.of

-- the root of the object of this number
abbrev pub root_from : List Struct → ℕ → List program.Object → ℕ → ℕ
root_from ss r [] n = r
root_from ss r (o ∷ os) zero = r
root_from ss r (o ∷ os) (suc n) = root_from ss (r + object_region_count ss o.of) os n

-- before this region there are only those of objects below this number
abbrev Below : List Region → ℕ → ℕ → Type 0
Below whole r n = (j : ℕ) (z : Region) → j < r → slice_get whole j ≡ Some z → z.object < n

abbrev Stand : List Struct → List Region → ℕ → ℕ → CType → Type 0
Stand ss whole r n t = StandFrom whole r (typed_regions ss n (Some 1) t) × Below whole r n

from_zero : (n : ℕ) → n + 0 ≡ n
from_zero n = omega arith

from_suc : (n i : ℕ) → (n + 1) + i ≡ n + suc i
from_suc n i = omega arith

below_more : (whole : List Region) (r n : ℕ) (xs : List Region) → StandFrom whole r xs → AreOf n xs → Below whole r n → Below whole (r + length xs) (n + 1)
below_more whole r n xs stand of low j z less there = by (near j r)
  where
    near : (a b : ℕ) → (a < b) ⊎ (b ≤ a)
    near a b = grind arith

    by : (j < r) ⊎ (r ≤ j) → z.object < n + 1
    by (inl h) = let w : z.object < n = low j z h there in omega (arith, w)
    by (inr h) =
        let inside : j - r < length xs = omega (arith, less, h) in
        let x : (x : Region) × (slice_get xs (j - r) ≡ Some x) = there_below xs (j - r) inside in
        let at : r + (j - r) ≡ j = omega (arith, h) in
        let held : slice_get whole j ≡ Some x.0 = subst (λ k. slice_get whole k ≡ Some x.0) at (stand (j - r) x.0 x.1) in
        let same : x.0 ≡ z = some_is x.0 z (sym held ∙ there) in
        let is : z.object ≡ n = ap (λ (y : Region). y.object) (sym same) ∙ of (j - r) x.0 x.1 in
        omega (arith, is)

stand_at : (ss : List Struct) (whole : List Region) (objects : List program.Object) (os : List Object) (r n : ℕ) → ObjectsStand objects os
    → StandFrom whole r (all_regions ss n os) → Below whole r n
    → (i : ℕ) (o : program.Object) → slice_get objects i ≡ Some o → Stand ss whole (root_from ss r objects i) (n + i) o.of
stand_at ss whole [] os r n lowered stand low i o e = absurd (none-some o e)
stand_at ss whole (q ∷ objects) [] r n lowered stand low i o e = let w = lowered 0 q refl in absurd (none-some w.0 w.1)
stand_at ss whole (q ∷ objects) (x ∷ os) r n lowered stand low i o e =
    let w = lowered 0 q refl in
    let same : w.0 ≡ x = some_is w.0 x (sym w.1) in
    let first : object_regions ss n x.kind x.of ≡ typed_regions ss n (Some 1) q.of =
    subst (λ (y : Object). object_regions ss n y.kind y.of ≡ typed_regions ss n (Some 1) q.of) same (lowered_regions ss n q w.0 w.2 w.3) in
    let split : StandFrom whole r (typed_regions ss n (Some 1) q.of ++ all_regions ss (n + 1) os) =
    subst (λ xs. StandFrom whole r (xs ++ all_regions ss (n + 1) os)) first stand in
    by i e (stand_left whole r (typed_regions ss n (Some 1) q.of) (all_regions ss (n + 1) os) split)
    (λ j there. stand_at ss whole objects os (r + object_region_count ss q.of) (n + 1) (λ k y at. lowered (suc k) y at)
    (subst (λ z. StandFrom whole (r + z) (all_regions ss (n + 1) os)) (typed_length ss n q.of) (stand_right whole r (typed_regions ss n (Some 1) q.of) (all_regions ss (n + 1) os) split))
    (subst (λ z. Below whole (r + z) (n + 1)) (typed_length ss n q.of)
    (below_more whole r n (typed_regions ss n (Some 1) q.of) (stand_left whole r (typed_regions ss n (Some 1) q.of) (all_regions ss (n + 1) os) split) (typed_of ss n q.of) low))
    j o there)
  where
    by : (i : ℕ) → slice_get (q ∷ objects) i ≡ Some o → StandFrom whole r (typed_regions ss n (Some 1) q.of)
        → ((j : ℕ) → slice_get objects j ≡ Some o → Stand ss whole (root_from ss (r + object_region_count ss q.of) objects j) ((n + 1) + j) o.of)
        → Stand ss whole (root_from ss r (q ∷ objects) i) (n + i) o.of
    by zero e here rest =
        let is : q ≡ o = some_is q o e in
        subst (λ m. Stand ss whole r m o.of) (sym (from_zero n)) (subst (λ (y : program.Object). Stand ss whole r n y.of) is (here, low))
    by (suc j) e here rest = subst (λ m. Stand ss whole (root_from ss (r + object_region_count ss q.of) objects j) m o.of) (from_suc n j) (rest j e)

pub standing : (ss : List Struct) (objects : List program.Object) (os : List Object) → ObjectsStand objects os
    → (n : ℕ) (o : program.Object) → slice_get objects n ≡ Some o → Stand ss (all_regions ss 0 os) (root_from ss 0 objects n) n o.of
standing ss objects os lowered n o e =
    subst (λ m. Stand ss (all_regions ss 0 os) (root_from ss 0 objects n) m o.of) (zero_plus n)
    (stand_at ss (all_regions ss 0 os) objects os 0 0 lowered (λ i x there. subst (λ k. slice_get (all_regions ss 0 os) k ≡ Some x) (sym (zero_plus i)) there) (λ j z low there. absurd (omega (arith, low))) n o e)
  where
    zero_plus : (n : ℕ) → 0 + n ≡ n
    zero_plus n = omega arith

-- the root has its number
pub root_number : (ss : List Struct) (objects : List program.Object) (os : List Object) → ObjectsStand objects os
    → (n : ℕ) (o : program.Object) → slice_get objects n ≡ Some o → number_at (all_regions ss 0 os) n [] ≡ Some (root_from ss 0 objects n)
root_number ss objects os lowered n o e =
    let w : Stand ss (all_regions ss 0 os) (root_from ss 0 objects n) n o.of = standing ss objects os lowered n o e in
    let root : HasRoot n [] (typed_regions ss n (Some 1) o.of) = typed_root ss n o.of in
    position_first (stands_at n []) (all_regions ss 0 os) (root_from ss 0 objects n) root.0
    (subst (λ k. slice_get (all_regions ss 0 os) k ≡ Some root.0) (from_zero (root_from ss 0 objects n)) (w.0 0 root.0 root.1))
    (ap (λ m. nat_eq n m && same_path [] root.0.path) root.2 ∙ ap (λ q. nat_eq n n && same_path [] q) root.3 ∙ ap (λ b. b && true) (eq-eqb n n refl))
    (λ j z low there. other z (w.1 j z low there))
  where
    other : (z : Region) → z.object < n → stands_at n [] z ≡ false
    other z less = ap (λ b. b && same_path [] z.path) (apart n z.object less)
      where
        apart : (a b : ℕ) → b < a → nat_eq a b ≡ false
        apart a b low = grind (arith, nat_tests)

-- all regions of the object are among those of the program
pub regions_there : (ss : List Struct) (objects : List program.Object) (os : List Object) → ObjectsStand objects os
    → (n : ℕ) (o : program.Object) → slice_get objects n ≡ Some o
    → root_from ss 0 objects n + object_region_count ss o.of ≤ length (all_regions ss 0 os)
regions_there ss objects os lowered n o e =
    let xs : List Region = typed_regions ss n (Some 1) o.of in
    let root : HasRoot n [] xs = typed_root ss n o.of in
    let some : 0 < length xs = below_there xs 0 root.0 root.1 in
    let last : (x : Region) × (slice_get xs (length xs - 1) ≡ Some x) = there_below xs (length xs - 1) (omega (arith, some)) in
    let low : root_from ss 0 objects n + (length xs - 1) < length (all_regions ss 0 os) =
    below_there (all_regions ss 0 os) (root_from ss 0 objects n + (length xs - 1)) last.0 ((standing ss objects os lowered n o e).0 (length xs - 1) last.0 last.1) in
    omega (arith, low, some, typed_length ss n o.of)

-- ---- the cells of its start values are counted from there
pub initial_is : (ss : List Struct) (objects : List program.Object) (r n : ℕ) (o : program.Object) → slice_get objects n ≡ Some o
    → slice_get (initials_from ss r objects) n ≡ Some (initial_at ss (root_from ss r objects n) o)
initial_is ss [] r n o e = absurd (none-some o e)
initial_is ss (q ∷ objects) r zero o e = ap (λ x. Some (initial_at ss r x)) (some_is q o e)
initial_is ss (q ∷ objects) r (suc n) o e = initial_is ss objects (r + object_region_count ss q.of) n o e
