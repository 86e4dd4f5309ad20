-- Past the locations there is no region, and of few regions there are few objects.
use Rattle.std.proofs.Common.{◌≡◌, ℕ, zero, suc, ◌<◌, ◌≤◌, ◌^◌, false, ◌||◌, List, [], ◌∷◌, length, get_or, Option, None, refl, ap, ◌∙◌, arith}
use Rattle.std.specs.Prelude.{slice_get}
use Rattle.std.proofs.lemmas.List.{length-append}
use Rattle.sp_ir.specs.Regions.{Region, is_summary_region}
use Rattle.sp_ir.specs.Shapes.{Shape, scalar, floating_shape, union_of, array_of, struct_of, regions}
use Rattle.sp_ir.specs.declared.region.Step.{Step}
use Rattle.sp_ir.specs.Programs.{Lowered, Object}
use Rattle.sp_ir.specs.Formed.{Table, table_of, IsFormed, root_count, HasRegions, of_function, of_no_type, of_no_layout, of_shape, HaveRegions, no_regions, next_regions}
use Rattle.sp_pre.specs.PointsTo.{Told}
use Rattle.sp_effect_scene.specs.Analysed.{element_in, element_of, is_recursive, owner_at, is_summary}

pub none-past : {A : Type 0} (xs : List A) (n : ℕ) → length xs ≤ n → slice_get xs n ≡ None
none-past [] n h = refl
none-past (x ∷ xs) zero h = absurd (omega (arith, h))
none-past (x ∷ xs) (suc n) h = none-past xs n (omega (arith, h))

pub default-past : (xs : List ℕ) (n d : ℕ) → length xs ≤ n → get_or xs n d ≡ d
default-past [] n d h = refl
default-past (x ∷ xs) zero d h = absurd (omega (arith, h))
default-past (x ∷ xs) (suc n) d h = default-past xs n d (omega (arith, h))

pub same-there : (xs : List ℕ) (n d e : ℕ) → n < length xs → get_or xs n d ≡ get_or xs n e
same-there [] n d e h = absurd (omega (arith, h))
same-there (x ∷ xs) zero d e h = refl
same-there (x ∷ xs) (suc n) d e h = same-there xs n d e (omega (arith, h))

-- ---- what isn't there is no summary and has no element

module _ (p : Lowered) (told : Told) (cells : List ℕ) (l : ℕ) (few : length p.regions ≤ 2 ^ 32) (past : length cells ≤ l) where
  pub absent : slice_get p.regions (get_or cells l (2 ^ 32)) ≡ None
  absent = ap (slice_get p.regions) (default-past cells l (2 ^ 32) past) ∙ none-past p.regions (2 ^ 32) few

  pub no-summary : is_summary p told (get_or cells l (2 ^ 32)) ≡ false
  no-summary = ap (λ o. is_summary_region p.regions o || is_recursive told (owner_at p o)) absent

  pub no-element : element_of p (get_or cells l (2 ^ 32)) ≡ None
  no-element = ap element_in absent

-- ---- each object has a region

some-region : (o : ℕ) (path : List Step) (n : Option ℕ) (s : Shape) → 0 < length (regions o path n s)
some-region o path n (scalar t size) = omega arith
some-region o path n (floating_shape t size) = omega arith
some-region o path n (union_of size first) = omega arith
some-region o path n (array_of t size inner k) = omega arith
some-region o path n (struct_of t size ms) = omega arith

module _ (p : Table) where
  some-regions : {n : ℕ} {o : Object} {rs : List Region} → HasRegions p n o rs → 0 < length rs
  some-regions (of_function kind of) = omega arith
  some-regions (of_no_type of) = omega arith
  some-regions (of_no_layout kind of size) = omega arith
  some-regions {n} {o} (of_shape {s = s} kind of size shape) = some-region n [] (root_count o.kind) s

  few-objects : {n : ℕ} {os : List Object} {rs : List Region} → HaveRegions p n os rs → length os ≤ length rs
  few-objects no_regions = omega arith
  few-objects (next_regions {rs = rs} {more = more} one others) =
      let some = some-regions one in
      let fewer = few-objects others in
      omega (arith, length-append rs more, some, fewer)

pub objects-few : (p : Lowered) → IsFormed p → length p.objects < 2 ^ 32
objects-few p formed = let few = few-objects (table_of p) formed.regions in omega (arith, few, formed.few_regions)
