-- Look-ups in lists of regions, by those of the keys that stand for them.
use Rattle.std.proofs.Common.{◌≡◌, ◌⊎◌, inl, inr, take, ℕ, zero, suc, ◌+◌, ◌<◌, Bool, true, false, not, cond, nat_eq, nat_lt, ◌||◌, ◌&&◌, List, [], ◌∷◌, ◌++◌, length, map, Option, Some, None, position, refl, sym, ap, ◌∙◌, arith}
use Rattle.std.specs.List.{list_any, prefix_len, position_or_len}
use Rattle.std.proofs.lemmas.List.{map-append}
use Rattle.std.proofs.lemmas.Bool.Decides.{nat_tests}
use Rattle.indexmap.specs.IndexSet.{insert_key}
use Rattle.sp_ir.specs.declared.region.Region.{Region as CodeRegion}
use Rattle.sp_ir.specs.Paths.{same_path}
use Rattle.sp_ir.specs.PathLaws.{places_equivalence}
use Rattle.sp_ir.specs.Regions.{Region, region_of, stands_at, with_region, number_at, is_many, is_under_many}
use Rattle.sp_ir.specs.declared.region.Step.{Step}

module _ {A B : Type 0} (p : B → Bool) (f : A → B) where
  prefix_len-map : (xs : List A) → prefix_len (λ y. not (p y)) (map f xs) ≡ prefix_len (λ x. not (p (f x))) xs
  prefix_len-map [] = refl
  prefix_len-map (x ∷ xs) = ap (λ n. cond (not (p (f x))) (1 + n) 0) (prefix_len-map xs)

  length-of-map : (xs : List A) → length (map f xs) ≡ length xs
  length-of-map [] = refl
  length-of-map (x ∷ xs) = ap suc (length-of-map xs)

  -- the place of what passes a test, among the images
  pub position-map : (xs : List A) → position p (map f xs) ≡ position (λ x. p (f x)) xs
  position-map xs =
      ap (λ n. cond (nat_lt n (length (map f xs))) (Some n) None) (prefix_len-map xs)
      ∙ ap (λ n. cond (nat_lt (position_or_len (λ x. p (f x)) xs) n) (Some (position_or_len (λ x. p (f x)) xs)) None) (length-of-map xs)

  pub any-map : (xs : List A) → list_any p (map f xs) ≡ list_any (λ x. p (f x)) xs
  any-map [] = refl
  any-map (x ∷ xs) = ap (λ b. p (f x) || b) (any-map xs)

-- ---- a key that is inserted

module _ {A : Type 0} (eq : A → A → Bool) (k : A) where
  below : (n m : ℕ) → nat_lt n m ≡ nat_lt (1 + n) (suc m)
  below n m = grind (arith, nat_tests)

  abbrev found : ℕ → ℕ → Option ℕ
  found n m = cond (nat_lt n m) (Some n) None

  -- what is found in a list is found one further in a longer one
  further : (n m q : ℕ) → found n m ≡ Some q → found (1 + n) (suc m) ≡ Some (1 + q)
  further n m q h = by (nat_lt n m) refl h
    where
      by : (c : Bool) → c ≡ nat_lt n m → cond {A = Option ℕ} c (Some n) None ≡ Some q → found (1 + n) (suc m) ≡ Some (1 + q)
      by true e g = let same : n ≡ q = cc in ap (λ d. cond {A = Option ℕ} d (Some (1 + n)) None) (sym (e ∙ below n m)) ∙ ap (λ r. Some (1 + r)) same
      by false e g = absurd cc

  -- one that is held has its place, and there it stays
  held-place : (xs : List A) → list_any (eq k) xs ≡ true → position (eq k) xs ≡ Some (position_or_len (eq k) xs)
  held-place [] h = absurd cc
  held-place (x ∷ xs) h = by (eq k x) h (λ g. held-place xs g)
    where
      by : (b : Bool) → (b || list_any (eq k) xs) ≡ true → (list_any (eq k) xs ≡ true → position (eq k) xs ≡ Some (position_or_len (eq k) xs))
          → found (cond (not b) (1 + position_or_len (eq k) xs) 0) (suc (length xs)) ≡ Some (cond (not b) (1 + position_or_len (eq k) xs) 0)
      by true g rest = ap (λ d. cond {A = Option ℕ} d (Some 0) None) (first (length xs))
        where
          first : (m : ℕ) → nat_lt 0 (suc m) ≡ true
          first m = grind (arith, nat_tests)
      by false g rest = further (position_or_len (eq k) xs) (length xs) (position_or_len (eq k) xs) (rest g)

  -- one that isn't goes last
  absent-place : (xs : List A) → list_any (eq k) xs ≡ false → eq k k ≡ true → position (eq k) (xs ++ k ∷ []) ≡ Some (position_or_len (eq k) xs)
  absent-place [] h r = ap (λ b. found (cond (not b) (1 + 0) 0) 1) r
  absent-place (x ∷ xs) h r = by (eq k x) h (λ g. absent-place xs g r)
    where
      by : (b : Bool) → (b || list_any (eq k) xs) ≡ false → (list_any (eq k) xs ≡ false → position (eq k) (xs ++ k ∷ []) ≡ Some (position_or_len (eq k) xs))
          → found (cond (not b) (1 + position_or_len (eq k) (xs ++ k ∷ [])) 0) (suc (length (xs ++ k ∷ []))) ≡ Some (cond (not b) (1 + position_or_len (eq k) xs) 0)
      by true g rest = absurd cc
      by false g rest = further (position_or_len (eq k) (xs ++ k ∷ [])) (length (xs ++ k ∷ [])) (position_or_len (eq k) xs) (rest g)

  pub inserted-place : (xs : List A) → eq k k ≡ true → position (eq k) (insert_key eq xs k) ≡ Some (position_or_len (eq k) xs)
  inserted-place xs r = by (list_any (eq k) xs) refl
    where
      by : (b : Bool) → b ≡ list_any (eq k) xs → position (eq k) (cond b xs (xs ++ k ∷ [])) ≡ Some (position_or_len (eq k) xs)
      by true e = held-place xs (sym e)
      by false e = absent-place xs (sym e) r

-- ---- a region that is added

abbrev pub same_place : CodeRegion → CodeRegion → Bool
same_place r s = nat_eq r.object s.object && same_path r.path.items s.path.items

itself : (r : CodeRegion) → same_place r r ≡ true
itself r = (places_equivalence (λ (x : CodeRegion). x.object) (λ (x : CodeRegion). x.path.items)).refl r

module _ (xs new : List CodeRegion) (k : CodeRegion) (is : new ≡ insert_key same_place xs k) where
  pub with_inserted : map region_of new ≡ with_region (map region_of xs) (region_of k)
  with_inserted = ap (map region_of) is ∙ by (list_any (same_place k) xs)
      ∙ ap (λ b. cond b (map region_of xs) (map region_of xs ++ region_of k ∷ [])) (sym (any-map (stands_at k.object k.path.items) region_of xs))
    where
      by : (b : Bool) → map region_of (cond b xs (xs ++ k ∷ [])) ≡ cond b (map region_of xs) (map region_of xs ++ region_of k ∷ [])
      by true = refl
      by false = map-append region_of xs (k ∷ [])

  pub inserted_number : (n : ℕ) → n ≡ position_or_len (same_place k) xs → number_at (map region_of new) k.object k.path.items ≡ Some n
  inserted_number n e = position-map (stands_at k.object k.path.items) region_of new ∙ ap (position (same_place k)) is ∙ inserted-place same_place k xs (itself k) ∙ ap Some (sym e)

-- ---- summaries

-- a shorter front with other than one element is found
pub many-some : (rs : List Region) (o : ℕ) (p : List Step) (k n : ℕ) → k < n → is_many rs o (take k p) ≡ true → is_under_many rs o p n ≡ true
many-some rs o p k zero low h = absurd (omega (arith, low))
many-some rs o p k (suc n) low h = by (near k n low) (λ less. many-some rs o p k n less h)
  where
    near : (a b : ℕ) → a < suc b → (a ≡ b) ⊎ (a < b)
    near a b e = grind arith

    left : (a b : Bool) → a ≡ true → (a || b) ≡ true
    left true b e = refl
    left false b e = absurd cc

    right : (a b : Bool) → b ≡ true → (a || b) ≡ true
    right true b e = refl
    right false b e = e

    by : (k ≡ n) ⊎ (k < n) → (k < n → is_under_many rs o p n ≡ true) → (is_many rs o (take n p) || is_under_many rs o p n) ≡ true
    by (inl e) rest = left (is_many rs o (take n p)) (is_under_many rs o p n) (ap (λ j. is_many rs o (take j p)) (sym e) ∙ h)
    by (inr e) rest = right (is_many rs o (take n p)) (is_under_many rs o p n) (rest e)
