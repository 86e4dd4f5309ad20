-- The cell of a scalar leaf is kept as bytes, or its elements have the leaf's type.
use Rattle.std.proofs.Common.{◌≡◌, ◌⊎◌, inl, inr, ℕ, zero, suc, ◌+◌, ◌-◌, ◌*◌, ◌%◌, ◌<◌, ◌≤◌, nat_lt, Bool, true, false, cond, List, [], ◌∷◌, ◌++◌, length, Option, Some, None, slice_get, if◌then◌else◌, refl, ap, sym, subst, arith, ltb-true}
use Rattle.std.specs.Prelude.{⊤, option_map}
use Rattle.std.proofs.lemmas.Option.{none-some}
use Rattle.std.proofs.lemmas.Bool.{ltb-false}
use Rattle.sp_types.specs.Types.{CType, void, integer, floating, pointer, array, structure, function, Struct}
use Rattle.sp_ir.specs.declared.region.Step.{Step}
use Rattle.sp_ir.specs.declared.region.Step.TheVariants.{Field, Element}
use Rattle.sp_ir.specs.Commands.{Expression, expression_type}
use Rattle.sp_ir.specs.Regions.{Region}
use Rattle.sp_ir.specs.Shapes.{Shape, Shapes, scalar, floating_shape, union_of, array_of, struct_of, no_shapes, next_shape, is_floating_shape, regions, member_regions, region_count, leaf_count, member_leaf_count, leaf_cell, member_leaf_cell, HasShape, HaveShapes, has_integer, has_pointer, has_floating, has_array, has_struct, has_union, have_none, have_next}
use Rattle.sp_ir.specs.Formed.{is_scalar, is_floating, FitsCell}
use Rattle.sp_lower_draft.specs.Context.{Context}
use Rattle.sp_check_typing.specs.Starts.{leaf_type, member_leaf_type}
use Rattle.sp_lower_expr_laws.specs.Uses.{Yields}
use Rattle.sp_lower_expr_laws.proofs.Growing.{before_all}
use Rattle.sp_lower_expr_laws.proofs.Sorts.{false_true}
use Rattle.sp_lower_expr_laws.proofs.Keeps.{both_integers, both_pointers}
use Rattle.sp_lower_expr_laws.proofs.Operators.{scalar_value}
use Rattle.sp_lower_starts_laws.proofs.Lists.{behind, some_is}
use Rattle.sp_lower_objects.proofs.Lengths.{length-regions}

-- ---- leaves of floating type have one

abbrev mutual
  pub AreFloating : Shape → Type 0
  AreFloating (scalar t z) = ⊤
  AreFloating (floating_shape t z) = is_floating t ≡ true
  AreFloating (union_of z first) = AreFloating first
  AreFloating (array_of t z inner n) = AreFloating inner
  AreFloating (struct_of t z ms) = AreAllFloating ms

  pub AreAllFloating : Shapes → Type 0
  AreAllFloating no_shapes = ⊤
  AreAllFloating (next_shape m ms) = AreFloating m × AreAllFloating ms

module _ {ss : List Struct} {size : CType → ℕ} where
  mutual
    pub shape_floats : {t : CType} {s : Shape} → HasShape ss size t s → AreFloating s
    shape_floats has_integer = tt
    shape_floats has_pointer = tt
    shape_floats has_floating = refl
    shape_floats (has_array h) = shape_floats h
    shape_floats (has_struct there union members hs) = shapes_float hs
    shape_floats (has_union there union members h) = shape_floats h

    shapes_float : {ms : List (ℕ × CType)} {s : Shapes} → HaveShapes ss size ms s → AreAllFloating s
    shapes_float have_none = tt
    shapes_float (have_next h hs) = (shape_floats h, shapes_float hs)

-- ---- the region of a leaf

-- it is kept as bytes, or of this type
abbrev pub IsCellOf : CType → Option CType → Type 0
IsCellOf u element = (element ≡ None) ⊎ (element ≡ Some u)

-- the cell found is there, and takes this type
abbrev pub HasCell : List Region → Option ℕ → CType → Type 0
HasCell rs found u = (d : ℕ) × (found ≡ Some d) × ((r : Region) × (slice_get rs d ≡ Some r) × IsCellOf u r.element)

one_plus : (d : ℕ) → suc d ≡ 1 + d
one_plus d = omega arith

deeper : (h : Region) (rs : List Region) (found : Option ℕ) (u : CType) → HasCell rs found u → HasCell (h ∷ rs) (option_map (λ c. 1 + c) found) u
deeper h rs found u w = (1 + w.0, ap (option_map (λ c. 1 + c)) w.1, (w.2.0, subst (λ d. slice_get (h ∷ rs) d ≡ Some w.2.0) (one_plus w.0) w.2.1, w.2.2))

inside : (xs ys : List Region) (found : Option ℕ) (u : CType) → HasCell xs found u → HasCell (xs ++ ys) found u
inside xs ys found u w = (w.0, w.1, (w.2.0, before_all xs ys w.0 w.2.0 w.2.1, w.2.2))

past : (xs ys : List Region) (n : ℕ) (found : Option ℕ) (u : CType) → length xs ≡ n → HasCell ys found u → HasCell (xs ++ ys) (option_map (λ c. n + c) found) u
past xs ys n found u is w =
    (n + w.0, ap (option_map (λ c. n + c)) w.1, (w.2.0, subst (λ k. slice_get (xs ++ ys) (k + w.0) ≡ Some w.2.0) is (behind xs ys w.0 w.2.0 w.2.1), w.2.2))

no_floating : (t u : CType) → is_floating t ≡ true → is_scalar u ≡ true → t ≡ u → ⊥
no_floating t u f s e = by u (subst (λ x. is_floating x ≡ true) e f) s
  where
    by : (u : CType) → is_floating u ≡ true → is_scalar u ≡ true → ⊥
    by (floating k) f s = false_true s
    by void f s = false_true f
    by (integer k) f s = false_true f
    by (pointer t) f s = false_true f
    by (array t n) f s = false_true f
    by (structure k) f s = false_true f
    by (function r) f s = false_true f

some_leaf : (k n c : ℕ) → k < n * c → k % c < c
some_leaf k n zero h = absurd (none n h)
  where
    none : (n : ℕ) → k < n * 0 → ⊥
    none n h = omega (arith, h)
some_leaf k n (suc c) h = omega arith

abbrev own : ℕ → List Step → ℕ → Shape → Bool → List Region
own o path j m b = cond b [] (regions o (path ++ Field j ∷ []) (Some 1) m)

own_length : (o : ℕ) (path : List Step) (j : ℕ) (m : Shape) (b : Bool) → length (own o path j m b) ≡ cond b 0 (region_count m)
own_length o path j m true = refl
own_length o path j m false = length-regions o (path ++ Field j ∷ []) (Some 1) m

-- a floating member has no scalar leaf
floating_none : (m : Shape) (k : ℕ) (u : CType) → is_floating_shape m ≡ true → AreFloating m → leaf_type m k ≡ Some u → is_scalar u ≡ true → ⊥
floating_none (floating_shape t z) k u b f e s = no_floating t u f s (some_is t u e)
floating_none (scalar t z) k u b f e s = false_true b
floating_none (union_of z first) k u b f e s = false_true b
floating_none (array_of t z inner n) k u b f e s = false_true b
floating_none (struct_of t z ms) k u b f e s = false_true b

mutual
  pub leaf_has : (s : Shape) → AreFloating s → (o : ℕ) (path : List Step) (n : Option ℕ) (k : ℕ) (u : CType) → k < leaf_count s → leaf_type s k ≡ Some u → is_scalar u ≡ true
      → HasCell (regions o path n s) (leaf_cell s k) u
  leaf_has (scalar t z) f o path n k u low e sc = (0, refl, (_, refl, inr e))
  leaf_has (floating_shape t z) f o path n k u low e sc = absurd (no_floating t u f sc (some_is t u e))
  leaf_has (union_of z first) f o path n k u low e sc = (0, refl, (_, refl, inl refl))
  leaf_has (array_of t z inner j) f o path n k u low e sc =
      deeper _ (regions o (path ++ Element ∷ []) (Some j) inner) (leaf_cell inner (k % leaf_count inner)) u
      (leaf_has inner f o (path ++ Element ∷ []) (Some j) (k % leaf_count inner) u (some_leaf k j (leaf_count inner) low) e sc)
  leaf_has (struct_of t z ms) f o path n k u low e sc = deeper _ (member_regions o path 0 ms) (member_leaf_cell ms k) u (member_has ms f o path 0 k u low e sc)

  member_has : (ms : Shapes) → AreAllFloating ms → (o : ℕ) (path : List Step) (j k : ℕ) (u : CType) → k < member_leaf_count ms → member_leaf_type ms k ≡ Some u → is_scalar u ≡ true
      → HasCell (member_regions o path j ms) (member_leaf_cell ms k) u
  member_has no_shapes f o path j k u low e sc = absurd (none-some u e)
  member_has (next_shape m ms) f o path j k u low e sc =
      by (nat_lt k (leaf_count m)) refl e
      (λ less is. leaf_has m f.0 o (path ++ Field j ∷ []) (Some 1) k u less is sc)
      (λ less is. member_has ms f.1 o path (j + 1) (k - leaf_count m) u less is sc)
    where
      first : (b : Bool) → is_floating_shape m ≡ b → leaf_type m k ≡ Some u → HasCell (regions o (path ++ Field j ∷ []) (Some 1) m) (leaf_cell m k) u
          → HasCell (own o path j m b ++ member_regions o path (j + 1) ms) (leaf_cell m k) u
      first true b is w = absurd (floating_none m k u b f.0 is sc)
      first false b is w = inside (regions o (path ++ Field j ∷ []) (Some 1) m) (member_regions o path (j + 1) ms) (leaf_cell m k) u w

      by : (b : Bool) → nat_lt k (leaf_count m) ≡ b → (if b then leaf_type m k else member_leaf_type ms (k - leaf_count m)) ≡ Some u
          → (k < leaf_count m → leaf_type m k ≡ Some u → HasCell (regions o (path ++ Field j ∷ []) (Some 1) m) (leaf_cell m k) u)
          → (k - leaf_count m < member_leaf_count ms → member_leaf_type ms (k - leaf_count m) ≡ Some u → HasCell (member_regions o path (j + 1) ms) (member_leaf_cell ms (k - leaf_count m)) u)
          → HasCell (own o path j m (is_floating_shape m) ++ member_regions o path (j + 1) ms)
          (if b then leaf_cell m k else option_map (λ c. cond (is_floating_shape m) 0 (region_count m) + c) (member_leaf_cell ms (k - leaf_count m))) u
      by true l is one rest = first (is_floating_shape m) refl is (one (ltb-true k (leaf_count m) l) is)
      by false l is one rest =
          let high : leaf_count m ≤ k = ltb-false k (leaf_count m) l in
          let total : k < leaf_count m + member_leaf_count ms = low in
          past (own o path j m (is_floating_shape m)) (member_regions o path (j + 1) ms) (cond (is_floating_shape m) 0 (region_count m)) (member_leaf_cell ms (k - leaf_count m)) u
          (own_length o path j m (is_floating_shape m)) (rest (omega (arith, high, total)) is)

-- ---- a value of the leaf's sort goes to its cell

pub fits_cell : (c : Context) (u : CType) (v : Expression) (element : Option CType) → is_scalar u ≡ true → Yields c u v → IsCellOf u element → FitsCell element (expression_type v)
fits_cell c u v element s y (inl e) = subst (λ o. FitsCell o (expression_type v)) (sym e) (scalar_value c u v s y)
fits_cell c u v element s y (inr e) = subst (λ o. FitsCell o (expression_type v)) (sym e) (by u s y)
  where
    by : (u : CType) → is_scalar u ≡ true → Yields c u v → FitsCell (Some u) (expression_type v)
    by (integer k) s y = both_integers (integer k) (expression_type v) refl y
    by (pointer t) s y = both_pointers (pointer t) (expression_type v) refl y
    by void s y = false_true s
    by (floating k) s y = false_true s
    by (array t n) s y = false_true s
    by (structure k) s y = false_true s
    by (function r) s y = false_true s
